-- Exactly where an undo is done, is refused, and has nothing to take out.
use Rattle.std.proofs.Common.{◌≡◌, ◌≢◌, refl, sym, ◌∙◌, ap, subst, None, Some, Option, List, [], ◌∷◌, ◌++◌, ℕ, ◌⊎◌, inl}
use Rattle.std.proofs.Common.{inr, ⊎_elim, arith}
use Rattle.std.specs.Prelude.{All}
use Rattle.std.proofs.lemmas.List.{map-append}
use Rattle.std.proofs.lemmas.List.Elements.{All-cons, All-head, All-tail}
use Rattle.om_foot.specs.declared.object.Obj.{Obj}
use Rattle.om_foot.specs.declared.footprint.Access.{Access}
use Rattle.om_foot.specs.Footprint.{conflict_of}
use Rattle.om_state.specs.State.{State}
use Rattle.om_state.specs.Rules.{Rules}
use Rattle.om_undo_history.specs.Laws.{Apart}
use Rattle.om_undo_history.specs.Runs.{History, reply_at, reply_to_undo, no_history}
use Rattle.om_undo_history.specs.Cones.{Transition, transitions}
use Rattle.om_undo_history.specs.Commands.{run}
use Rattle.om_undo_history.specs.Undos.{HasNone, IsFree, IsLast, IsUndoable, IsRefused, UndoReplies, ExactlyWhere}
use Rattle.om_undo_history.specs.declared.reply.UndoReply.{UndoReply}
use Rattle.om_undo_history.specs.declared.reply.UndoReply.TheVariants.{Undone, Conflict, Nothing}
use Rattle.om_undo_history.specs.declared.records.UndoRecord.{UndoRecord}
use Rattle.om_undo_history.specs.Records.{conflict_or, entries_of, transition_of, transitions_of, ReplaysTo, first_kept_conflict}
use Rattle.om_undo_history.proofs.Logs.{NoneConflicts}
use Rattle.om_undo_history.proofs.Places.{NoneOwn, last_place-none_own}
use Rattle.om_undo_history.proofs.Undos.{history_of, none_answers, split_between, reply_at-split, last_place-records, LastOf}
use Rattle.om_undo_history.proofs.Undos.{find_last}
use Rattle.om_undo_history.proofs.Remaining.{run-has, kept-is}
use Rattle.om_undo_history.proofs.RunLaws.{run-transitions}

-- what is true of records, and of their transitions

none_of : {X : Type 0} (P : X → Type 0) → All P []
none_of P i d less = absurd (omega (arith, less))

abbrev IsOther : ℕ → Transition → Type 0
IsOther w t = t.entry.worker ≢ w

to_none : (w : ℕ) (ks : List UndoRecord) → NoneOwn w (entries_of ks) → HasNone w (transitions_of ks)
to_none w [] h = none_of (IsOther w)
to_none w (k ∷ ks) h = All-cons (IsOther w) (transition_of k) (transitions_of ks) h.0 (to_none w ks h.1)

from_none : (w : ℕ) (ks : List UndoRecord) → HasNone w (transitions_of ks) → NoneOwn w (entries_of ks)
from_none w [] h = tt
from_none w (k ∷ ks) h = (
  All-head (IsOther w) (transition_of k) (transitions_of ks) h,
  from_none w ks (All-tail (IsOther w) (transition_of k) (transitions_of ks) h),
)

abbrev pub IsApartFrom : List Access → Transition → Type 0
IsApartFrom footprint t = Apart footprint t.footprint

to_free : (footprint : List Access) (ks : List UndoRecord) → NoneConflicts footprint ks
    → All (IsApartFrom footprint) (transitions_of ks)
to_free footprint [] h = none_of (IsApartFrom footprint)
to_free footprint (k ∷ ks) h =
    All-cons (IsApartFrom footprint) (transition_of k) (transitions_of ks) h.0 (to_free footprint ks h.1)

pub from_free : (footprint : List Access) (ks : List UndoRecord) → All (IsApartFrom footprint) (transitions_of ks)
    → NoneConflicts footprint ks
from_free footprint [] h = tt
from_free footprint (k ∷ ks) h = (
  All-head (IsApartFrom footprint) (transition_of k) (transitions_of ks) h,
  from_free footprint ks (All-tail (IsApartFrom footprint) (transition_of k) (transitions_of ks) h),
)

-- records, by a place among their transitions
pub record PlacedAt (ks : List UndoRecord) (before : List Transition) (e : Transition)
    (later : List Transition) : Type 0 where
  pub earlier : List UndoRecord
  pub here : UndoRecord
  pub rest : List UndoRecord
  pub split : ks ≡ earlier ++ here ∷ rest
  pub before_is : transitions_of earlier ≡ before
  pub here_is : transition_of here ≡ e
  pub later_is : transitions_of rest ≡ later

pub placed : (ks : List UndoRecord) (before : List Transition) (e : Transition) (later : List Transition)
    → transitions_of ks ≡ before ++ e ∷ later → PlacedAt ks before e later
placed [] [] e later h = cc
placed [] (b ∷ bs) e later h = cc
placed (k ∷ ks) [] e later h =
    record { earlier = []; here = k; rest = ks; split = refl; before_is = refl; here_is = cc; later_is = cc }
placed (k ∷ ks) (b ∷ bs) e later h =
    let first : transition_of k ≡ b = cc in
    let x : PlacedAt ks bs e later = placed ks bs e later cc in
    record {
      earlier = k ∷ x.earlier;
      here = x.here;
      rest = x.rest;
      split = (λ i. k ∷ x.split i);
      before_is = (λ i. first i ∷ x.before_is i);
      here_is = x.here_is;
      later_is = x.later_is;
    }

-- what an undo replies where a worker's last record stands here

reply_between : (r : Rules) (before : List UndoRecord) (k : UndoRecord) (later : List UndoRecord) (made w : ℕ)
    (now : State) → ReplaysTo r r.start (before ++ k ∷ later) now → k.entry.worker ≡ w → NoneOwn w (entries_of later)
    → reply_to_undo r (history_of (before ++ k ∷ later) made) w ≡ first_kept_conflict k.footprint later
    (Undone k.entry.serial k.entry.line)
reply_between r before k later made w now h own none =
    ap (reply_at r) (last_place-records w before k later own none)
    ∙ reply_at-split r before k later now (split_between before k later r r.start now h)

first_is : (footprint : List Access) (between : List UndoRecord) (k : UndoRecord) (rest : List UndoRecord)
    (reply : UndoReply) (q : Obj) → NoneConflicts footprint between → conflict_of footprint k.footprint ≡ Some q
    → first_kept_conflict footprint (between ++ k ∷ rest) reply ≡ Conflict k.entry.serial k.entry.worker q
first_is footprint [] k rest reply q none hit =
    ap (λ o. conflict_or k.entry o (first_kept_conflict footprint rest reply)) hit
first_is footprint (x ∷ xs) k rest reply q none hit =
    ap (λ o. conflict_or x.entry o (first_kept_conflict footprint (xs ++ k ∷ rest) reply)) none.0
    ∙ first_is footprint xs k rest reply q none.1 hit

-- the first of these records that conflicts with a footprint, or none of them
record FirstOf (footprint : List Access) (ks : List UndoRecord) : Type 0 where
  between : List UndoRecord
  k : UndoRecord
  rest : List UndoRecord
  q : Obj
  split : ks ≡ between ++ k ∷ rest
  none : NoneConflicts footprint between
  hit : conflict_of footprint k.footprint ≡ Some q

met : (footprint : List Access) (k : UndoRecord) (ks : List UndoRecord) (o : Option Obj)
    → conflict_of footprint k.footprint ≡ o → NoneConflicts footprint ks ⊎ FirstOf footprint ks
    → NoneConflicts footprint (k ∷ ks) ⊎ FirstOf footprint (k ∷ ks)
met footprint k ks (Some q) is more =
    inr (record { between = []; k = k; rest = ks; q = q; split = refl; none = tt; hit = is })
met footprint k ks None is (inl none) = inl (is, none)
met footprint k ks None is (inr x) =
    inr
    (record {
      between = k ∷ x.between;
      k = x.k;
      rest = x.rest;
      q = x.q;
      split = ap (λ xs. k ∷ xs) x.split;
      none = (is, x.none);
      hit = x.hit;
    })

find_first : (footprint : List Access) (ks : List UndoRecord) → NoneConflicts footprint ks ⊎ FirstOf footprint ks
find_first footprint [] = inl tt
find_first footprint (k ∷ ks) = met footprint k ks (conflict_of footprint k.footprint) refl (find_first footprint ks)

-- each of the three places has its reply

reply_refused : (r : Rules) (ks : List UndoRecord) (made w : ℕ) (now : State) (serial worker : ℕ) (q : Obj)
    → ReplaysTo r r.start ks now → IsRefused w (transitions_of ks) serial worker q
    → reply_to_undo r (history_of ks made) w ≡ Conflict serial worker q
reply_refused r ks made w now serial worker q h x =
    let at : PlacedAt ks x.before x.e (x.between ++ x.k ∷ x.rest) = placed ks x.before x.e (x.between ++ x.k ∷ x.rest)
    x.last.place in
    let then : PlacedAt at.rest x.between x.k x.rest = placed at.rest x.between x.k x.rest at.later_is in
    let others : NoneOwn w (entries_of at.rest) = from_none w at.rest (subst (HasNone w) (sym at.later_is)
    x.last.last) in
    let free : NoneConflicts at.here.footprint then.earlier =
    from_free at.here.footprint then.earlier
    (subst (λ (e : Transition). All (IsApartFrom e.footprint) (transitions_of then.earlier)) (sym at.here_is)
    (subst (IsFree x.e) (sym then.before_is) x.free)) in
    let hit : conflict_of at.here.footprint then.here.footprint ≡ Some q =
    ap (λ (e : Transition). conflict_of e.footprint then.here.footprint) at.here_is
    ∙ ap (λ (e : Transition). conflict_of x.e.footprint e.footprint) then.here_is ∙ x.conflict in
    let reply : UndoReply = Undone at.here.entry.serial at.here.entry.line in
    ap (λ xs. reply_to_undo r (history_of xs made) w) at.split
    ∙ reply_between r at.earlier at.here at.rest made w now (subst (λ xs. ReplaysTo r r.start xs now) at.split h)
    (ap (λ (e : Transition). e.entry.worker) at.here_is ∙ x.last.own) others
    ∙ ap (λ xs. first_kept_conflict at.here.footprint xs reply) then.split
    ∙ first_is at.here.footprint then.earlier then.here then.rest reply q free hit
    ∙ ap (λ (e : Transition). Conflict e.entry.serial e.entry.worker q) then.here_is
    ∙ (λ i. Conflict (x.serial_is i) (x.worker_is i) q)

reply_undone : (r : Rules) (ks : List UndoRecord) (made w : ℕ) (now : State) (serial line : ℕ)
    → ReplaysTo r r.start ks now → IsUndoable w (transitions_of ks) serial line
    → reply_to_undo r (history_of ks made) w ≡ Undone serial line
reply_undone r ks made w now serial line h x =
    let at : PlacedAt ks x.before x.e x.later = placed ks x.before x.e x.later x.last.place in
    let free : NoneConflicts at.here.footprint at.rest =
    from_free at.here.footprint at.rest
    (subst (λ (e : Transition). All (IsApartFrom e.footprint) (transitions_of at.rest)) (sym at.here_is)
    (subst (IsFree x.e) (sym at.later_is) x.free)) in
    let reply : UndoReply = Undone at.here.entry.serial at.here.entry.line in
    ap (λ xs. reply_to_undo r (history_of xs made) w) at.split
    ∙ reply_between r at.earlier at.here at.rest made w now (subst (λ xs. ReplaysTo r r.start xs now) at.split h)
    (ap (λ (e : Transition). e.entry.worker) at.here_is ∙ x.last.own)
    (from_none w at.rest (subst (HasNone w) (sym at.later_is) x.last.last))
    ∙ none_answers at.here.footprint at.rest reply free
    ∙ ap (λ (e : Transition). Undone e.entry.serial e.entry.line) at.here_is
    ∙ (λ i. Undone (x.serial_is i) (x.line_is i))

reply_nothing : (r : Rules) (ks : List UndoRecord) (made w : ℕ) → HasNone w (transitions_of ks)
    → reply_to_undo r (history_of ks made) w ≡ Nothing
reply_nothing r ks made w h = ap (reply_at r) (last_place-none_own w (entries_of ks) (from_none w ks h))

-- and one of the three is the place

abbrev IsPlace : ℕ → List Transition → UndoReply → Type 0
IsPlace w ts (Conflict serial worker q) = IsRefused w ts serial worker q
IsPlace w ts (Undone serial line) = IsUndoable w ts serial line
IsPlace w ts Nothing = HasNone w ts

last_here : (w : ℕ) (before : List UndoRecord) (k : UndoRecord) (later : List UndoRecord) → k.entry.worker ≡ w
    → NoneOwn w (entries_of later)
    → IsLast w (transitions_of (before ++ k ∷ later)) (transitions_of before) (transition_of k) (transitions_of later)
last_here w before k later own none =
    record { place = map-append transition_of before (k ∷ later); own = own; last = to_none w later none }

refused_place : (w : ℕ) (before : List UndoRecord) (k : UndoRecord) (later : List UndoRecord) → k.entry.worker ≡ w
    → NoneOwn w (entries_of later) → (x : FirstOf k.footprint later)
    → IsRefused w (transitions_of (before ++ k ∷ later)) x.k.entry.serial x.k.entry.worker x.q
refused_place w before k later own none x = record {
  before = transitions_of before;
  e = transition_of k;
  between = transitions_of x.between;
  k = transition_of x.k;
  rest = transitions_of x.rest;
  last = subst (IsLast w (transitions_of (before ++ k ∷ later)) (transitions_of before) (transition_of k))
      (ap transitions_of x.split ∙ map-append transition_of x.between (x.k ∷ x.rest))
      (last_here w before k later own none);
  free = to_free k.footprint x.between x.none;
  conflict = x.hit;
  serial_is = refl;
  worker_is = refl;
}

undoable_place : (w : ℕ) (before : List UndoRecord) (k : UndoRecord) (later : List UndoRecord) → k.entry.worker ≡ w
    → NoneOwn w (entries_of later) → NoneConflicts k.footprint later
    → IsUndoable w (transitions_of (before ++ k ∷ later)) k.entry.serial k.entry.line
undoable_place w before k later own none free = record {
  before = transitions_of before;
  e = transition_of k;
  later = transitions_of later;
  last = last_here w before k later own none;
  free = to_free k.footprint later free;
  serial_is = refl;
  line_is = refl;
}

place_of_last : (r : Rules) (made w : ℕ) (now : State) (before : List UndoRecord) (k : UndoRecord)
    (later : List UndoRecord) → ReplaysTo r r.start (before ++ k ∷ later) now → k.entry.worker ≡ w
    → NoneOwn w (entries_of later) → IsPlace w (transitions_of (before ++ k ∷ later))
    (reply_to_undo r (history_of (before ++ k ∷ later) made) w)
place_of_last r made w now before k later h own none =
    let ks : List UndoRecord = before ++ k ∷ later in
    let is : UndoReply → Type 0 = IsPlace w (transitions_of ks) in
    ⊎_elim
    (λ free. let place = undoable_place w before k later own none free in
    subst is (sym (reply_undone r ks made w now k.entry.serial k.entry.line h place)) place)
    (λ (x : FirstOf k.footprint later). let place = refused_place w before k later own none x in
    subst is (sym (reply_refused r ks made w now x.k.entry.serial x.k.entry.worker x.q h place)) place)
    (find_first k.footprint later)

place_is : (r : Rules) (ks : List UndoRecord) (made w : ℕ) (now : State) → ReplaysTo r r.start ks now
    → IsPlace w (transitions_of ks) (reply_to_undo r (history_of ks made) w)
place_is r ks made w now h =
    ⊎_elim
    (λ none. let place = to_none w ks none in
    subst (IsPlace w (transitions_of ks)) (sym (reply_nothing r ks made w place)) place)
    (λ (x : LastOf w ks). subst (λ xs. IsPlace w (transitions_of xs) (reply_to_undo r (history_of xs made) w))
    (sym x.split)
    (place_of_last r made w now x.before x.last x.later (subst (λ xs. ReplaysTo r r.start xs now) x.split h) x.own
    x.none))
    (find_last w ks)

undo_replies : (r : Rules) (ks : List UndoRecord) (made w : ℕ) (now : State) → ReplaysTo r r.start ks now
    → transitions_of ks ≡ transitions r (entries_of ks) → UndoReplies r (history_of ks made) w
undo_replies r ks made w now h seen =
    let place = subst (λ ts. IsPlace w ts (reply_to_undo r (history_of ks made) w)) seen (place_is r ks made w now h) in
    let is : UndoReply → Type 0 = IsPlace w (transitions r (entries_of ks)) in
    record {
      refused = λ serial worker q. (
        λ reply. subst is reply place,
        λ x. reply_refused r ks made w now serial worker q h
            (subst (λ ts. IsRefused w ts serial worker q) (sym seen) x),
      );
      undone = λ serial line. (
        λ reply. subst is reply place,
        λ x. reply_undone r ks made w now serial line h (subst (λ ts. IsUndoable w ts serial line) (sym seen) x),
      );
      nothing = (
        λ reply. subst is reply place,
        λ x. reply_nothing r ks made w (subst (HasNone w) (sym seen) x),
      );
    }

pub exactly_where : ExactlyWhere
exactly_where = λ r cs w.
    let h : History = run r no_history cs in
    let x = run-has r cs in
    subst (λ y. UndoReplies r y w) (kept-is r h x)
    (undo_replies r x.records h.made w x.now x.replays
    (run-transitions r h x ∙ ap (transitions r) (sym x.entries)))

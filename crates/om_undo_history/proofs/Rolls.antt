-- A roll is the list of undos of its members' workers, latest first.
use Rattle.std.proofs.Common.{◌≡◌, refl, sym, ◌∙◌, ap, subst, Bool, true, false, cond, Option, None, Some, List, []}
use Rattle.std.proofs.Common.{◌∷◌, ◌++◌, ℕ, ◌==◌, append_assoc, arith}
use Rattle.std.specs.Prelude.{map, reverse, is_some}
use Rattle.std.proofs.lemmas.List.{map-append, reverse-append}
use Rattle.om_foot.specs.declared.object.Obj.{Obj}
use Rattle.om_foot.specs.declared.footprint.Access.{Access}
use Rattle.om_foot.specs.Footprint.{conflict_of}
use Rattle.om_state.specs.State.{State}
use Rattle.om_state.specs.Rules.{Rules, next_state}
use Rattle.om_undo_history.specs.Laws.{Apart, steps_then, steps_from}
use Rattle.om_undo_history.specs.Runs.{History, label_of, after_undo}
use Rattle.om_undo_history.specs.Cones.{Transition, with_footprints, transitions, meets_one, is_member, cone_after}
use Rattle.om_undo_history.specs.Cones.{rest_after, cone, taken_of, taken_by_roll, after_roll}
use Rattle.om_undo_history.specs.Commands.{UndosTo, Rise}
use Rattle.om_undo_history.specs.declared.reply.Taken.{Taken}
use Rattle.om_undo_history.specs.declared.records.UndoRecord.{UndoRecord}
use Rattle.om_undo_history.specs.Records.{entries_of, transition_of, transitions_of, ReplaysTo}
use Rattle.om_undo_history.proofs.Logs.{NoneConflicts}
use Rattle.om_undo_history.proofs.Rising.{Rise-lower}
use Rattle.om_undo_history.proofs.Undos.{history_of, Taking, taking}

transitions_from-is : (r : Rules) (s : State) (ks : List UndoRecord) (now : State) → ReplaysTo r s ks now
    → with_footprints (entries_of ks) (steps_from r s (map label_of (entries_of ks))) ≡ transitions_of ks
transitions_from-is r s [] now h = refl
transitions_from-is r s (k ∷ ks) now h =
    let rest : with_footprints (entries_of ks)
    (steps_then (next_state r s (label_of k.entry)) (λ t. steps_from r t (map label_of (entries_of ks))))
    ≡ transitions_of ks =
    ap (λ o. with_footprints (entries_of ks) (steps_then o (λ t. steps_from r t (map label_of (entries_of ks))))) h.1
    ∙ transitions_from-is r h.0 ks now h.3 in
    λ i. record { entry = k.entry; footprint = sym h.2.footprint i } ∷ rest i

-- the transitions of a history, by its records
pub transitions-is : (r : Rules) (ks : List UndoRecord) (now : State) → ReplaysTo r r.start ks now
    → transitions r (entries_of ks) ≡ transitions_of ks
transitions-is r ks now h = transitions_from-is r r.start ks now h

pub cond_false : (p q : Bool) → cond p true q ≡ false → (p ≡ false) × (q ≡ false)
cond_false true q h = cc
cond_false false q h = (refl, h)

none_from : (o : Option Obj) → is_some o ≡ false → o ≡ None
none_from None h = refl
none_from (Some q) h = cc

-- what meets none of these conflicts with none
pub meets_one-push : (members : List Transition) (a b : Transition) → meets_one (members ++ a ∷ []) b ≡ false
    → (meets_one members b ≡ false) × Apart a.footprint b.footprint
meets_one-push [] a b h = (
  refl,
  none_from (conflict_of a.footprint b.footprint)
      (cond_false (is_some (conflict_of a.footprint b.footprint)) false h).0,
)
meets_one-push (m ∷ ms) a b h =
    let both = cond_false (is_some (conflict_of m.footprint b.footprint)) (meets_one (ms ++ a ∷ []) b) h in
    let ih = meets_one-push ms a b both.1 in
    (ap (λ p. cond p true (meets_one ms b)) both.0 ∙ ih.0, ih.1)

-- the records that a roll leaves
abbrev pub rest_of : ℕ → List Transition → List UndoRecord → List UndoRecord
rest_of serial members [] = []
rest_of serial members (k ∷ ks) = cond (is_member serial members (transition_of k))
    (rest_of serial (members ++ transition_of k ∷ []) ks) (k ∷ rest_of serial members ks)

entries_either : (b : Bool) (x y : List UndoRecord) (u v : List Transition)
    → entries_of x ≡ map (λ (t : Transition). t.entry) u → entries_of y ≡ map (λ (t : Transition). t.entry) v
    → entries_of (cond b x y) ≡ map (λ (t : Transition). t.entry) (cond b u v)
entries_either true x y u v h g = h
entries_either false x y u v h g = g

rest_of-is : (serial : ℕ) (members : List Transition) (ks : List UndoRecord)
    → entries_of (rest_of serial members ks) ≡ map (λ (t : Transition). t.entry)
    (rest_after serial members (transitions_of ks))
rest_of-is serial members [] = refl
rest_of-is serial members (k ∷ ks) =
    entries_either (is_member serial members (transition_of k)) (rest_of serial (members ++ transition_of k ∷ []) ks)
    (k ∷ rest_of serial members ks)
    (rest_after serial (members ++ transition_of k ∷ []) (transitions_of ks))
    (transition_of k ∷ rest_after serial members (transitions_of ks))
    (rest_of-is serial (members ++ transition_of k ∷ []) ks) (ap (λ es. k.entry ∷ es) (rest_of-is serial members ks))

rising_either : (low high : ℕ) (b : Bool) (k : UndoRecord) (x y : List UndoRecord) → Rise low (entries_of x) high
    → Rise low (entries_of (k ∷ y)) high → Rise low (entries_of (cond b x (k ∷ y))) high
rising_either low high true k x y h g = h
rising_either low high false k x y h g = g

pub rest_of-rises : (serial low high : ℕ) (members : List Transition) (ks : List UndoRecord)
    → Rise low (entries_of ks) high → Rise low (entries_of (rest_of serial members ks)) high
rest_of-rises serial low high members [] h = h
rest_of-rises serial low high members (k ∷ ks) h =
    rising_either low high (is_member serial members (transition_of k)) k
    (rest_of serial (members ++ transition_of k ∷ []) ks) (rest_of serial members ks)
    (Rise-lower k.entry.serial low high (entries_of (rest_of serial (members ++ transition_of k ∷ []) ks))
    (omega (arith, h.0)) (rest_of-rises serial k.entry.serial high (members ++ transition_of k ∷ []) ks h.1))
    (h.0, rest_of-rises serial k.entry.serial high members ks h.1)

apart_either : (b : Bool) (footprint : List Access) (k : UndoRecord) (x y : List UndoRecord)
    → NoneConflicts footprint x → (b ≡ false → Apart footprint k.footprint) → NoneConflicts footprint y
    → NoneConflicts footprint (cond b x (k ∷ y))
apart_either true footprint k x y h here g = h
apart_either false footprint k x y h here g = (here refl, g)

-- no record that is left conflicts with a member before it
rest_apart : (serial : ℕ) (footprint : List Access) (members : List Transition) (ks : List UndoRecord)
    → ((t : Transition) → meets_one members t ≡ false → Apart footprint t.footprint)
    → NoneConflicts footprint (rest_of serial members ks)
rest_apart serial footprint members [] h = tt
rest_apart serial footprint members (k ∷ ks) h =
    let t : Transition = transition_of k in
    apart_either (is_member serial members t) footprint k (rest_of serial (members ++ t ∷ []) ks)
    (rest_of serial members ks)
    (rest_apart serial footprint (members ++ t ∷ []) ks (λ u e. h u (meets_one-push members t u e).0))
    (λ e. h t (cond_false (t.entry.serial == serial) (meets_one members t) e).1)
    (rest_apart serial footprint members ks h)

UndosTo-append : (r : Rules) (h mid last : History) (ts us : List Taken) → UndosTo r h ts mid → UndosTo r mid us last
    → UndosTo r h (ts ++ us) last
UndosTo-append r h mid last [] us first second = subst (λ x. UndosTo r x us last) (sym first) second
UndosTo-append r h mid last (t ∷ ts) us first second =
    (first.0, UndosTo-append r (after_undo r h t.worker) mid last ts us first.1 second)

-- undos of the members among the records behind `before`, latest first
pub record Rolls (r : Rules) (before ks : List UndoRecord) (made : ℕ) (members : List Transition)
    (rest : List UndoRecord) : Type 0 where
  pub undos : UndosTo r (history_of (before ++ ks) made) (map taken_of (reverse members))
      (history_of (before ++ rest) made)
  pub now : State
  pub replays : ReplaysTo r r.start (before ++ rest) now

-- the first record behind `before` is undone last, if it is a member
rolls_either : (b : Bool) (r : Rules) (before : List UndoRecord) (k : UndoRecord) (ks : List UndoRecord) (made : ℕ)
    (c d : List Transition) (x y : List UndoRecord) → Rolls r (before ++ k ∷ []) ks made c x
    → NoneConflicts k.footprint x → Rolls r (before ++ k ∷ []) ks made d y
    → Rolls r before (k ∷ ks) made (cond b (transition_of k ∷ c) d) (cond b x (k ∷ y))
rolls_either true r before k ks made c d x y h none g =
    let replays : ReplaysTo r r.start (before ++ k ∷ x) h.now = subst (λ zs. ReplaysTo r r.start zs h.now)
    (append_assoc before (k ∷ []) x) h.replays in
    let last : Taking r before k x made = taking r before k x made h.now replays none in
    let undos : UndosTo r (history_of (before ++ k ∷ ks) made) (map taken_of (reverse c))
    (history_of (before ++ k ∷ x) made) =
    subst (λ zs. UndosTo r (history_of (before ++ k ∷ ks) made) (map taken_of (reverse c)) (history_of zs made))
    (append_assoc before (k ∷ []) x)
    (subst (λ zs. UndosTo r (history_of zs made) (map taken_of (reverse c))
    (history_of ((before ++ k ∷ []) ++ x) made)) (append_assoc before (k ∷ []) ks) h.undos) in
    let order : map taken_of (reverse c) ++ taken_of (transition_of k) ∷ [] ≡ map taken_of
    (reverse (transition_of k ∷ c)) =
    sym (map-append taken_of (reverse c) (transition_of k ∷ []))
    ∙ ap (map taken_of) (sym (reverse-append (transition_of k ∷ []) c)) in
    record {
      undos = subst (λ ts. UndosTo r (history_of (before ++ k ∷ ks) made) ts (history_of (before ++ x) made)) order
          (UndosTo-append r (history_of (before ++ k ∷ ks) made) (history_of (before ++ k ∷ x) made)
          (history_of (before ++ x) made) (map taken_of (reverse c)) (taken_of (transition_of k) ∷ []) undos
          (last.reply, last.after));
      now = last.now;
      replays = last.replays;
    }
rolls_either false r before k ks made c d x y h none g = record {
  undos = subst (λ zs. UndosTo r (history_of (before ++ k ∷ ks) made) (map taken_of (reverse d)) (history_of zs made))
      (append_assoc before (k ∷ []) y)
      (subst (λ zs. UndosTo r (history_of zs made) (map taken_of (reverse d))
      (history_of ((before ++ k ∷ []) ++ y) made)) (append_assoc before (k ∷ []) ks) g.undos);
  now = g.now;
  replays = subst (λ zs. ReplaysTo r r.start zs g.now) (append_assoc before (k ∷ []) y) g.replays;
}

pub rolls : (r : Rules) (serial made : ℕ) (members : List Transition) (before ks : List UndoRecord) (now : State)
    → ReplaysTo r r.start (before ++ ks) now
    → Rolls r before ks made (cone_after serial members (transitions_of ks)) (rest_of serial members ks)
rolls r serial made members before [] now h = record { undos = refl; now = now; replays = h }
rolls r serial made members before (k ∷ ks) now h =
    let t : Transition = transition_of k in
    let shifted : ReplaysTo r r.start ((before ++ k ∷ []) ++ ks) now = subst (λ zs. ReplaysTo r r.start zs now)
    (sym (append_assoc before (k ∷ []) ks)) h in
    rolls_either (is_member serial members t) r before k ks made
    (cone_after serial (members ++ t ∷ []) (transitions_of ks)) (cone_after serial members (transitions_of ks))
    (rest_of serial (members ++ t ∷ []) ks) (rest_of serial members ks)
    (rolls r serial made (members ++ t ∷ []) (before ++ k ∷ []) ks now shifted)
    (rest_apart serial k.footprint (members ++ t ∷ []) ks (λ u e. (meets_one-push members t u e).1))
    (rolls r serial made members (before ++ k ∷ []) ks now shifted)

-- what a roll takes out and leaves, by the records
pub taken_by_roll-is : (r : Rules) (ks : List UndoRecord) (made serial : ℕ) (now : State) → ReplaysTo r r.start ks now
    → taken_by_roll r (history_of ks made) serial ≡ map taken_of (reverse (cone serial (transitions_of ks)))
taken_by_roll-is r ks made serial now h = ap (λ ts. map taken_of (reverse (cone serial ts)))
    (transitions-is r ks now h)

pub after_roll-is : (r : Rules) (ks : List UndoRecord) (made serial : ℕ) (now : State) → ReplaysTo r r.start ks now
    → after_roll r (history_of ks made) serial ≡ history_of (rest_of serial [] ks) made
after_roll-is r ks made serial now h =
    (λ i. record {
      entries = map (λ (t : Transition). t.entry) (rest_after serial [] (transitions-is r ks now h i));
      made = made;
    })
    ∙ (λ i. record { entries = sym (rest_of-is serial [] ks) i; made = made })

pub roll_undos : (r : Rules) (ks : List UndoRecord) (made serial : ℕ) (now : State) → ReplaysTo r r.start ks now
    → UndosTo r (history_of ks made) (taken_by_roll r (history_of ks made) serial)
    (after_roll r (history_of ks made) serial)
roll_undos r ks made serial now h =
    let x : Rolls r [] ks made (cone serial (transitions_of ks)) (rest_of serial [] ks) =
    rolls r serial made [] [] ks now h in
    subst (λ ts. UndosTo r (history_of ks made) ts (after_roll r (history_of ks made) serial))
    (sym (taken_by_roll-is r ks made serial now h))
    (subst (λ y. UndosTo r (history_of ks made) (map taken_of (reverse (cone serial (transitions_of ks)))) y)
    (sym (after_roll-is r ks made serial now h)) x.undos)

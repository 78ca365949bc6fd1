-- A roll of a past.
use Rattle.std.proofs.Common.{◌≡◌, ◌≢◌, refl, sym, ◌∙◌, ap, subst, Bool, true, false, cond, List, [], ◌∷◌, ℕ, suc, ◌+◌}
use Rattle.std.proofs.Common.{◌<◌, ◌==◌, length, drop, get_or, arith, add-one, drop-cons, eq-eqb}
use Rattle.std.specs.Prelude.{map, reverse, Contains, ◌↔◌}
use Rattle.std.proofs.lemmas.Bool.{ne_eqb, true≢false}
use Rattle.std.proofs.lemmas.Bool.Decides.{Decides-eqb}
use Rattle.std.proofs.lemmas.List.{length-map, length-reverse}
use Rattle.std.proofs.lemmas.Simd.{map-map}
use Rattle.om_state.specs.declared.step.Entry.{Entry}
use Rattle.om_state.specs.State.{State}
use Rattle.om_state.specs.Rules.{Rules}
use Rattle.om_undo_history.specs.Runs.{History, after_undo}
use Rattle.om_undo_history.specs.Cones.{Transition, is_member, cone_after, cone, taken_of, taken_by_roll, rolled, after_roll}
use Rattle.om_undo_history.specs.Commands.{UndosTo, IsGone, TakesCone, undone_by}
use Rattle.om_undo_history.specs.Pasts.{Past, entries_in, IsPast}
use Rattle.om_undo_history.specs.declared.reply.Taken.{Taken}
use Rattle.om_undo_history.specs.declared.reply.RollReply.TheVariants.{Rolled}
use Rattle.om_undo_history.specs.declared.records.UndoRecord.{UndoRecord}
use Rattle.om_undo_history.specs.Records.{entries_of, transition_of, transitions_of, ReplaysTo}
use Rattle.om_undo_history.proofs.Membership.{Contains-none, Contains-first, Contains-rest}
use Rattle.om_undo_history.proofs.Undos.{history_of}
use Rattle.om_undo_history.proofs.Rolls.{rest_of, taken_by_roll-is, after_roll-is, roll_undos}
use Rattle.om_undo_history.proofs.Leastness.{has_itself}
use Rattle.om_undo_history.proofs.RunLaws.{gone_by, gone_at, own_transition, roll_takes_cone}

-- no entry has the serial

first_not : (serial : ℕ) (k : UndoRecord) (ks : List UndoRecord)
    → ((e : Entry) → Contains (entries_of (k ∷ ks)) e → e.serial ≢ serial)
    → is_member serial [] (transition_of k) ≡ false
first_not serial k ks h = ap (λ b. cond b true false)
    (ne_eqb k.entry.serial serial (h k.entry (Contains-first k.entry (entries_of ks))))

no_cone : (serial : ℕ) (ks : List UndoRecord) → ((e : Entry) → Contains (entries_of ks) e → e.serial ≢ serial)
    → cone serial (transitions_of ks) ≡ []
no_cone serial [] h = refl
no_cone serial (k ∷ ks) h =
    ap (λ b. cond b (transition_of k ∷ cone_after serial (transition_of k ∷ []) (transitions_of ks))
    (cone_after serial [] (transitions_of ks))) (first_not serial k ks h)
    ∙ no_cone serial ks (λ e at. h e (Contains-rest k.entry (entries_of ks) e at))

all_rest : (serial : ℕ) (ks : List UndoRecord) → ((e : Entry) → Contains (entries_of ks) e → e.serial ≢ serial)
    → rest_of serial [] ks ≡ ks
all_rest serial [] h = refl
all_rest serial (k ∷ ks) h =
    ap (λ b. cond b (rest_of serial (transition_of k ∷ []) ks) (k ∷ rest_of serial [] ks)) (first_not serial k ks h)
    ∙ ap (λ xs. k ∷ xs) (all_rest serial ks (λ e at. h e (Contains-rest k.entry (entries_of ks) e at)))

no_names : (ts : List Transition) → map taken_of (reverse ts) ≡ [] → ts ≡ []
no_names [] h = refl
no_names (t ∷ ts) h =
    let same : length (map taken_of (reverse (t ∷ ts))) ≡ 0 = ap length h in
    let long : length (map taken_of (reverse (t ∷ ts))) ≡ suc (length ts) = length-map (reverse (t ∷ ts)) taken_of
    ∙ length-reverse (t ∷ ts) in
    absurd (omega arith)

-- nothing is taken out exactly where no entry has the serial
none_taken : (r : Rules) (ks : List UndoRecord) (n serial : ℕ) (now : State) → ReplaysTo r r.start ks now
    → (taken_by_roll r (history_of ks n) serial ≡ []) ↔ IsGone serial (history_of ks n)
none_taken r ks n serial now h = (
  λ none. let empty : cone serial (transitions_of ks) ≡ [] = no_names (cone serial (transitions_of ks))
      (sym (taken_by_roll-is r ks n serial now h) ∙ none) in
      gone_by serial (history_of ks n)
      (λ e at is. let x = own_transition (transitions_of ks) e
      (subst (λ es. Contains es e) (sym (map-map (λ (t : Transition). t.entry) transition_of ks)) at) in
      Contains-none x.0
      (subst (λ ts. Contains ts x.0) empty
      (has_itself serial [] (transitions_of ks) x.0 x.1 (ap (λ (y : Entry). y.serial) x.2 ∙ is)))),
  λ gone. taken_by_roll-is r ks n serial now h
      ∙ ap (λ ts. map taken_of (reverse ts)) (no_cone serial ks (λ e at. gone_at serial (history_of ks n) e gone at)),
)

-- an empty vector's items, and those of one that isn't

pub no_items : (len : ℕ) (items : List Taken) (b : Bool) → len ≡ length items → b ≡ (len == 0) → b ≡ true → items ≡ []
no_items len [] b ok is h = refl
no_items len (t ∷ ts) b ok is h = let none : len ≡ 0 = (Decides-eqb len 0).0 (sym is ∙ h) in absurd (omega arith)

pub some_items : (len : ℕ) (items : List Taken) (b : Bool) → len ≡ length items → b ≡ (len == 0) → b ≡ false
    → items ≡ [] → ⊥
some_items len items b ok is h none = true≢false (sym (eq-eqb len 0 (ok ∙ ap length none)) ∙ sym is ∙ h)

pub rolled-some : (items : List Taken) → (items ≡ [] → ⊥) → Rolled items ≡ rolled items
rolled-some [] h = absurd (h refl)
rolled-some (t ∷ ts) h = refl

UndosTo-undone : (r : Rules) (h last : History) (ts : List Taken) → UndosTo r h ts last → undone_by r h ts ≡ last
UndosTo-undone r h last [] undos = undos
UndosTo-undone r h last (t ∷ ts) undos = UndosTo-undone r (after_undo r h t.worker) last ts undos.1

pub undone_next : (r : Rules) (h : History) (ts : List Taken) (i : ℕ) (d : Taken) → i < length ts
    → undone_by r h (drop i ts) ≡ undone_by r (after_undo r h (get_or ts i d).worker) (drop (i + 1) ts)
undone_next r h ts i d within = ap (undone_by r h) (drop-cons ts i d within)
    ∙ ap (λ n. undone_by r (after_undo r h (get_or ts i d).worker) (drop n ts)) (sym (add-one i))

-- a roll of a past

pub taken_by-is : (r : Rules) (p : Past) (serial : ℕ) (ts : List Transition) → IsPast r p → ts ≡ transitions_of p.records
    → map taken_of (reverse (cone serial ts)) ≡ taken_by_roll r (entries_in p) serial
taken_by-is r p serial ts is same =
    ap (λ xs. map taken_of (reverse (cone serial xs))) same
    ∙ sym (taken_by_roll-is r p.records p.made serial p.state is.replays)

pub none_taken-is : (r : Rules) (p : Past) (serial : ℕ) → IsPast r p
    → (taken_by_roll r (entries_in p) serial ≡ []) ↔ IsGone serial (entries_in p)
none_taken-is r p serial is = none_taken r p.records p.made serial p.state is.replays

pub rolled-is : (r : Rules) (p : Past) (serial : ℕ) → IsPast r p
    → undone_by r (entries_in p) (taken_by_roll r (entries_in p) serial) ≡ after_roll r (entries_in p) serial
rolled-is r p serial is = UndosTo-undone r (entries_in p) _ _
    (roll_undos r p.records p.made serial p.state is.replays)

pub takes-is : (r : Rules) (p : Past) (serial : ℕ) → IsPast r p
    → TakesCone r (entries_in p) serial (after_roll r (entries_in p) serial)
takes-is r p serial is = subst (λ h. TakesCone r h serial (after_roll r h serial)) is.reached.is
    (roll_takes_cone r is.reached.commands serial)

pub unrolled-is : (r : Rules) (p : Past) (serial : ℕ) → IsPast r p → IsGone serial (entries_in p)
    → after_roll r (entries_in p) serial ≡ entries_in p
unrolled-is r p serial is gone =
    after_roll-is r p.records p.made serial p.state is.replays
    ∙ (λ i. history_of (all_rest serial p.records (λ e at. gone_at serial (entries_in p) e gone at) i) p.made)

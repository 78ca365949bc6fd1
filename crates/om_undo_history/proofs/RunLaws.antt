-- The laws of rolls, over every run.
use Rattle.std.proofs.Common.{◌≡◌, ◌≢◌, refl, sym, ◌∙◌, ap, subst, List, [], ◌∷◌, ◌++◌, ℕ, length, ⊎_elim}
use Rattle.std.specs.Prelude.{map, Contains, ◌↔◌}
use Rattle.std.proofs.lemmas.List.{map-append, length-map}
use Rattle.std.proofs.lemmas.Simd.{map-map}
use Rattle.std.proofs.lemmas.List.Elements.{All-weaker, All-contains, All-contains_itself}
use Rattle.om_foot.specs.declared.footprint.Access.{Access}
use Rattle.om_state.specs.declared.step.Entry.{Entry}
use Rattle.om_state.specs.State.{State}
use Rattle.om_state.specs.Rules.{Rules}
use Rattle.om_undo_history.specs.Laws.{Apart}
use Rattle.om_undo_history.specs.Runs.{History, no_history, state_of_entries}
use Rattle.om_undo_history.specs.Bounds.{AreSmall, SmallCounts}
use Rattle.om_undo_history.specs.Cones.{Transition, transitions, InCone, itself, follows, rest_after, cone, taken_by_roll}
use Rattle.om_undo_history.specs.Cones.{after_roll}
use Rattle.om_undo_history.specs.Commands.{Command, ToUndo, after_command, run, IsRun, Rise, SerialsRise, SerialsIdentify}
use Rattle.om_undo_history.specs.Commands.{RollIsCone, UndosTo, RollIsUndos, IsGone, RollTakesCone, Least}
use Rattle.om_undo_history.specs.declared.records.UndoRecord.{UndoRecord}
use Rattle.om_undo_history.specs.Records.{entries_of, transition_of, transitions_of, ReplaysTo}
use Rattle.om_undo_history.proofs.Bounds.{now-small}
use Rattle.om_undo_history.proofs.Logs.{ReplaysTo-now, NoneConflicts}
use Rattle.om_undo_history.proofs.Membership.{Contains-cases, Contains-none, Contains-first, Contains-rest}
use Rattle.om_undo_history.proofs.Rising.{Rise-removed, Rise-ascends, ascends_identify, rise_gone}
use Rattle.om_undo_history.proofs.Undos.{history_of, TakesOne, undone_or}
use Rattle.om_undo_history.proofs.Rolls.{transitions-is, roll_undos}
use Rattle.om_undo_history.proofs.Leastness.{Above, Rise-above, cone_in, in_cone, rest_among, one_of, no_two, stays}
use Rattle.om_undo_history.proofs.Remaining.{Kept, kept-is, run-has}

pub serials_rise : SerialsRise
serials_rise = λ r cs. let x = run-has r cs in subst (λ es. Rise 0 es (run r no_history cs).made) x.entries x.rising

pub serials_identify : SerialsIdentify
serials_identify = λ r cs a b at_a at_b is. ascends_identify (λ (e : Entry). e.serial) 0 (run r no_history cs).entries
    a b (Rise-ascends 0 (run r no_history cs).made (run r no_history cs).entries (serials_rise r cs)) at_a at_b is

-- the transitions of a run, by its records
pub run-transitions : (r : Rules) (h : History) (x : Kept r h) → transitions_of x.records ≡ transitions r h.entries
run-transitions r h x = sym (transitions-is r x.records x.now x.replays) ∙ ap (transitions r) x.entries

pub roll_is_cone : RollIsCone
roll_is_cone = λ r cs serial t.
    let h = run r no_history cs in
    let x = run-has r cs in
    subst (λ ts. Contains (cone serial ts) t ↔ InCone ts serial t) (run-transitions r h x) (
      cone_in serial 0 (transitions_of x.records) (Rise-above 0 h.made x.records x.rising) t,
      in_cone serial 0 (transitions_of x.records) (Rise-above 0 h.made x.records x.rising) t,
    )

pub roll_is_undos : RollIsUndos
roll_is_undos = λ r cs serial.
    let h = run r no_history cs in
    let x = run-has r cs in
    subst (λ y. UndosTo r y (taken_by_roll r y serial) (after_roll r y serial)) (kept-is r h x)
    (roll_undos r x.records h.made serial x.now x.replays)

-- what is gone, by what is contained
pub gone_by : (serial : ℕ) (h : History) → ((e : Entry) → Contains h.entries e → e.serial ≢ serial) → IsGone serial h
gone_by serial h each = All-weaker (Contains h.entries) (λ (e : Entry). e.serial ≢ serial) each h.entries
    (All-contains_itself h.entries)

pub gone_at : (serial : ℕ) (h : History) (e : Entry) → IsGone serial h → Contains h.entries e → e.serial ≢ serial
gone_at serial h e gone at = All-contains (λ (x : Entry). x.serial ≢ serial) h.entries e gone at

-- an entry against its transition

own_entry : (ts : List Transition) (t : Transition) → Contains ts t
    → Contains (map (λ (u : Transition). u.entry) ts) t.entry
own_entry [] t h = absurd (Contains-none t h)
own_entry (u ∷ us) t h =
    ⊎_elim (λ is. subst (λ (x : Transition). Contains (map (λ (y : Transition). y.entry) (u ∷ us)) x.entry) is
    (Contains-first u.entry (map (λ (y : Transition). y.entry) us)))
    (λ rest. Contains-rest u.entry (map (λ (y : Transition). y.entry) us) t.entry (own_entry us t rest))
    (Contains-cases u us t h)

pub own_transition : (ts : List Transition) (e : Entry) → Contains (map (λ (u : Transition). u.entry) ts) e
    → (t : Transition) × Contains ts t × (t.entry ≡ e)
own_transition [] e h = absurd (Contains-none e h)
own_transition (u ∷ us) e h =
    ⊎_elim (λ is. (u, Contains-first u us, is))
    (λ rest. let x = own_transition us e rest in (x.0, Contains-rest u us x.0 x.1, x.2))
    (Contains-cases u.entry (map (λ (y : Transition). y.entry) us) e h)

-- what is left of a cone's history
takes_cone : (serial low n : ℕ) (ts : List Transition) (t : Transition) → Above low ts → Contains ts t
    → IsGone t.entry.serial
    (record { entries = map (λ (u : Transition). u.entry) (rest_after serial [] ts); made = n }) ↔ InCone ts serial t
takes_cone serial low n ts t above at =
    let h : History = record { entries = map (λ (u : Transition). u.entry) (rest_after serial [] ts); made = n } in (
      λ gone. ⊎_elim (λ member. cone_in serial low ts above t member)
          (λ left. absurd (gone_at t.entry.serial h t.entry gone (own_entry (rest_after serial [] ts) t left) refl))
          (one_of serial [] ts t at),
      λ member. gone_by t.entry.serial h
          (λ e there same.
          let x = own_transition (rest_after serial [] ts) e there in
          let is : x.0 ≡ t = ascends_identify (λ (u : Transition). u.entry.serial) low ts x.0 t above
          (rest_among serial [] ts x.0 x.1) at (ap (λ (y : Entry). y.serial) x.2 ∙ same) in
          no_two serial low [] ts t above (in_cone serial low ts above t member)
          (subst (Contains (rest_after serial [] ts)) is x.1)),
    )

pub roll_takes_cone : RollTakesCone
roll_takes_cone = λ r cs serial t.
    let h = run r no_history cs in
    let x = run-has r cs in
    subst
    (λ ts. Contains ts t
    → (IsGone t.entry.serial
    (record { entries = map (λ (u : Transition). u.entry) (rest_after serial [] ts); made = h.made }) ↔ InCone ts
    serial t)) (run-transitions r h x)
    (λ at. takes_cone serial 0 h.made (transitions_of x.records) t (Rise-above 0 h.made x.records x.rising) at)

contains_entry : (ks : List UndoRecord) (t : Transition) → Contains (transitions_of ks) t
    → Contains (entries_of ks) t.entry
contains_entry ks t h = subst (λ es. Contains es t.entry) (map-map (λ (u : Transition). u.entry) transition_of ks)
    (own_entry (transitions_of ks) t h)

contains_more : (before : List UndoRecord) (k : UndoRecord) (later : List UndoRecord) (e : Entry)
    → Contains (entries_of (before ++ later)) e → Contains (entries_of (before ++ k ∷ later)) e
contains_more [] k later e h = Contains-rest k.entry (entries_of later) e h
contains_more (x ∷ xs) k later e h =
    ⊎_elim (λ is. subst (Contains (entries_of (x ∷ xs ++ k ∷ later))) is
    (Contains-first x.entry (entries_of (xs ++ k ∷ later))))
    (λ rest. Contains-rest x.entry (entries_of (xs ++ k ∷ later)) e (contains_more xs k later e rest))
    (Contains-cases x.entry (entries_of (xs ++ later)) e h)

apart_from_all : (footprint : List Access) (later : List UndoRecord) → NoneConflicts footprint later
    → (t : Transition) → Contains (transitions_of later) t → Apart footprint t.footprint
apart_from_all footprint [] none t h = absurd (Contains-none t h)
apart_from_all footprint (k ∷ ks) none t h =
    ⊎_elim (λ is. subst (λ (u : Transition). Apart footprint u.footprint) is none.0)
    (λ rest. apart_from_all footprint ks none.1 t rest) (Contains-cases (transition_of k) (transitions_of ks) t h)

-- the cone of a serial has an entry with it
root : (ks : List UndoRecord) (serial : ℕ) (t : Transition) → InCone (transitions_of ks) serial t
    → (e : Entry) × Contains (entries_of ks) e × (e.serial ≡ serial)
root ks serial t (itself a stands is) = (t.entry, contains_entry ks t stands, is)
root ks serial t (follows a b member conflict) = root ks serial a member

-- undos bring no entry back
still_gone : (r : Rules) (made : ℕ) (ws : List ℕ) (ks : List UndoRecord) (now : State) (serial : ℕ)
    → ReplaysTo r r.start ks now → IsGone serial (history_of ks made)
    → IsGone serial (run r (history_of ks made) (map ToUndo ws))
still_gone r made [] ks now serial h gone = gone
still_gone r made (w ∷ ws) ks now serial h gone =
    let ends : History → Type 0 = λ y. IsGone serial (run r y (map ToUndo ws)) in
    ⊎_elim (λ same. subst ends (sym same) (still_gone r made ws ks now serial h gone))
    (λ (x : TakesOne r ks made w). subst ends (sym x.after)
    (still_gone r made ws (x.before ++ x.later) x.now serial x.replays
    (gone_by serial (history_of (x.before ++ x.later) made)
    (λ e at. gone_at serial (history_of ks made) e gone
    (subst (λ xs. Contains (entries_of xs) e) (sym x.split) (contains_more x.before x.taken x.later e at))))))
    (undone_or r ks made now w h)

least_by : (r : Rules) (made : ℕ) (ws : List ℕ) (ks : List UndoRecord) (now : State) (serial : ℕ) (t : Transition)
    → ReplaysTo r r.start ks now → Rise 0 (entries_of ks) made → InCone (transitions_of ks) serial t
    → IsGone serial (run r (history_of ks made) (map ToUndo ws))
    → IsGone t.entry.serial (run r (history_of ks made) (map ToUndo ws))
least_by r made [] ks now serial t h rising member =
    λ gone. let first = root ks serial t member in absurd
    (gone_at serial (history_of ks made) first.0 gone first.1 first.2)
least_by r made (w ∷ ws) ks now serial t h rising member =
    let ends : History → Type 0 = λ y. IsGone serial (run r y (map ToUndo ws))
    → IsGone t.entry.serial (run r y (map ToUndo ws)) in
    ⊎_elim (λ same. subst ends (sym same) (least_by r made ws ks now serial t h rising member))
    (λ (x : TakesOne r ks made w).
    let rising_x : Rise 0 (entries_of (x.before ++ x.taken ∷ x.later)) made =
    subst (λ xs. Rise 0 (entries_of xs) made) x.split rising in
    let parts : transitions_of (x.before ++ x.taken ∷ x.later) ≡ transitions_of x.before ++ transition_of
    x.taken ∷ transitions_of x.later = map-append transition_of x.before (x.taken ∷ x.later) in
    let member_x : InCone (transitions_of x.before ++ transition_of x.taken ∷ transitions_of x.later) serial t =
    subst (λ ts. InCone ts serial t) parts (subst (λ xs. InCone (transitions_of xs) serial t) x.split member) in
    subst ends (sym x.after)
    (⊎_elim
    (λ kept. least_by r made ws (x.before ++ x.later) x.now serial t x.replays
    (Rise-removed 0 made x.before x.taken x.later rising_x)
    (subst (λ ts. InCone ts serial t) (sym (map-append transition_of x.before x.later)) kept))
    (λ is gone. still_gone r made ws (x.before ++ x.later) x.now t.entry.serial x.replays
    (gone_by t.entry.serial (history_of (x.before ++ x.later) made)
    (λ e at. subst (λ (u : Transition). e.serial ≢ u.entry.serial) (sym is)
    (rise_gone 0 made x.before x.taken x.later rising_x e at))))
    (stays serial 0 (transitions_of x.before) (transition_of x.taken) (transitions_of x.later)
    (subst (λ ts. Above 0 ts) parts (Rise-above 0 made (x.before ++ x.taken ∷ x.later) rising_x))
    (apart_from_all x.taken.footprint x.later x.none) t member_x)))
    (undone_or r ks made now w h)

pub least : Least
least = λ r cs ws serial t gone member.
    let h = run r no_history cs in
    let x = run-has r cs in
    subst (λ y. IsGone serial (run r y (map ToUndo ws)) → IsGone t.entry.serial (run r y (map ToUndo ws)))
    (kept-is r h x)
    (least_by r h.made ws x.records x.now serial t x.replays x.rising
    (subst (λ ts. InCone ts serial t) (sym (run-transitions r h x)) member)) gone

-- a command more

run-more : (r : Rules) (h : History) (cs : List Command) (c : Command)
    → run r h (cs ++ c ∷ []) ≡ after_command r (run r h cs) c
run-more r h [] c = refl
run-more r h (x ∷ xs) c = run-more r (after_command r h x) xs c

pub IsRun-more : (r : Rules) (h : History) (c : Command) → IsRun r h → IsRun r (after_command r h c)
IsRun-more r h c x = record {
  commands = x.commands ++ c ∷ [];
  is = run-more r no_history x.commands c
      ∙ ap (λ y. after_command r y c) x.is;
}

pub IsRun-rises : (r : Rules) (h : History) → IsRun r h → Rise 0 h.entries h.made
IsRun-rises r h x = subst (λ (y : History). Rise 0 y.entries y.made) x.is (serials_rise r x.commands)

-- after any run counts are small
pub small_counts : SmallCounts
small_counts = λ r steady cs.
    let h = run r no_history cs in
    let x = run-has r cs in
    let at_records : AreSmall (length (entries_of x.records)) (state_of_entries r (entries_of x.records)) =
    subst (λ n. AreSmall n (state_of_entries r (entries_of x.records)))
    (sym (length-map x.records (λ (k : UndoRecord). k.entry)))
    (subst (AreSmall (length x.records)) (sym (ReplaysTo-now r x.records x.now x.replays))
    (now-small r x.records x.now steady x.replays)) in
    subst (λ es. AreSmall (length es) (state_of_entries r es)) x.entries at_records

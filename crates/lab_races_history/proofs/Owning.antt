-- The steps that a machine's history traces: each touches its own worker's control first, and their serials rise.
use Rattle.std.proofs.Common.{◌≡◌, refl, sym, ◌∙◌, ap, subst, ℕ, ◌<◌, Option, None, Some, List, [], ◌∷◌, ◌++◌}
use Rattle.std.specs.Prelude.{map}
use Rattle.std.specs.List.{AllByRecursion, AllZip}
use Rattle.om_foot.specs.declared.footprint.Access.{Access}
use Rattle.om_foot.specs.declared.object.Obj.{Obj}
use Rattle.om_foot.specs.declared.object.Obj.TheVariants as object
use Rattle.om_state.specs.declared.step.Entry.{Entry}
use Rattle.om_state.specs.declared.step.Step.{Step}
use Rattle.om_state.specs.Rules.{Rules, step_at, next_state, control_access}
use Rattle.om_state.specs.State.{State}
use Rattle.om_undo_history.specs.Commands.{Rise}
use Rattle.om_undo_history.specs.Cones.{Transition, with_footprints}
use Rattle.om_undo_history.specs.Laws.{steps_from, steps_then}
use Rattle.om_undo_history.specs.Runs.{label_of}
use Rattle.lab_graph.specs.declared.traced.Traced.{Traced}
use Rattle.lab_graph.specs.Pictures.{touched}
use Rattle.lab_races.specs.declared.made.Made.{Made}
use Rattle.lab_races.specs.Races.{RiseFrom}
use Rattle.lab_replay.specs.Traces.{transition_of}
use Rattle.lab_races_history.specs.Histories.{IsMadeOf, IsOwn}

abbrev first_or : Transition → List Transition → Transition
first_or d [] = d
first_or d (t ∷ ts) = t

abbrev rest_of : List Transition → List Transition
rest_of [] = []
rest_of (t ∷ ts) = ts

abbrev worker_at : Obj → ℕ
worker_at (object.Control w) = w
worker_at _ = 0

abbrev worker_in : List Access → ℕ
worker_in [] = 0
worker_in (a ∷ rest) = worker_at a.object

-- the first access of a step is its worker's control
own_first : (r : Rules) (s : State) (e : Entry) → worker_in (step_at r s (label_of e)).footprint ≡ e.worker
unfolding step_at
own_first r s e = refl

nothing_left : (es : List Entry) → with_footprints es [] ≡ []
nothing_left [] = refl
nothing_left (e ∷ es) = refl

none_traced : (ts : List Traced) → map transition_of ts ≡ [] → AllByRecursion IsOwn ts
none_traced [] h = tt
none_traced (t ∷ ts) h = cc

owned_then : (r : Rules) (o : Option State) (es : List Entry) (ts : List Traced)
    → ((s : State) → map transition_of ts ≡ with_footprints es (steps_from r s (map label_of es))
    → AllByRecursion IsOwn ts)
    → map transition_of ts ≡ with_footprints es (steps_then o (λ s. steps_from r s (map label_of es)))
    → AllByRecursion IsOwn ts
owned_then r None es ts more h = none_traced ts (h ∙ nothing_left es)
owned_then r (Some s) es ts more h = more s h

pub owned : (r : Rules) (s : State) (es : List Entry) (ts : List Traced)
    → map transition_of ts ≡ with_footprints es (steps_from r s (map label_of es)) → AllByRecursion IsOwn ts
owned r s es [] h = tt
owned r s [] (t ∷ ts) h = cc
owned r s (e ∷ es) (t ∷ ts) h =
    let d : Step = step_at r s (label_of e) in
    let here : transition_of t ≡ record { entry = e; footprint = d.footprint } = ap (first_or (transition_of t)) h in
    let own : t.footprint.now.worker ≡ t.entry.worker =
    ap (λ (x : Transition). worker_in x.footprint) here ∙ own_first r s e
    ∙ sym (ap (λ (x : Transition). x.entry.worker) here) in
    (own, owned_then r (next_state r s (label_of e)) es ts (λ q. owned r q es ts) (ap rest_of h))

pub rises : (low high : ℕ) (es : List Entry) (ds : List Step) (ts : List Traced) (ms : List Made) → Rise low es high
    → map transition_of ts ≡ with_footprints es ds → AllZip IsMadeOf ts ms → RiseFrom low ms
rises low high es ds ts [] up h zip = tt
rises low high es ds [] (m ∷ ms) up h zip = absurd zip
rises low high [] ds (t ∷ ts) (m ∷ ms) up h zip = cc
rises low high (e ∷ es) [] (t ∷ ts) (m ∷ ms) up h zip = cc
rises low high (e ∷ es) (d ∷ ds) (t ∷ ts) (m ∷ ms) up h zip =
    let here : transition_of t ≡ record { entry = e; footprint = d.footprint } = ap (first_or (transition_of t)) h in
    let serial : e.serial ≡ m.serial =
    sym (ap (λ (x : Transition). x.entry.serial) here) ∙ sym zip.0.serial in (
      subst (λ n. low < n) serial up.0,
      subst (λ n. RiseFrom n ms) serial (rises e.serial high es ds ts ms up.1 (ap rest_of h) zip.1),
    )

-- one more step, and what it is judged by
pub zip_push : (ts : List Traced) (ms : List Made) (t : Traced) (m : Made) → AllZip IsMadeOf ts ms → IsMadeOf t m
    → AllZip IsMadeOf (ts ++ t ∷ []) (ms ++ m ∷ [])
zip_push [] [] t m h is = (is, tt)
zip_push [] (y ∷ ms) t m h is = absurd h
zip_push (x ∷ ts) [] t m h is = absurd h
zip_push (x ∷ ts) (y ∷ ms) t m h is = (h.0, zip_push ts ms t m h.1 is)

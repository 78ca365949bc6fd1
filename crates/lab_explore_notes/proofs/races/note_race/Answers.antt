use Rattle.std.proofs.Common.{◌≡◌, sym, ◌∙◌, ap, subst, true, false, rules, List, ◌++◌, ◌∷◌, [], map}
use Rattle.std.specs.Prelude.{Contains}
use Rattle.om_state.specs.declared.step.Label.{Label}
use Rattle.om_state.specs.State.{State}
use Rattle.om_undo.specs.Machines.{MachineView, state_in}
use Rattle.lab_explore_closed.specs.declared.found.FoundRace.{FoundRace}
use Rattle.lab_explore_closed.specs.declared.found.Pair.{Pair}
use Rattle.lab_explore_closed.specs.declared.found.Place.{Place}
use Rattle.lab_explore_closed.specs.Explored.{IsPossibleRace, pair_of_found}
use Rattle.lab_explore_closed.specs.Races.{place_at, pair_at, is_behind}
use Rattle.lab_explore_notes.specs.Notes.{AreRaces, Keeps}
use Rattle.lab_explore_notes.specs.Same.{same_pair, is_among}
use Rattle.lab_explore_notes.proofs.NoteLemmas.{push_right, keeps_push, told_last}
use Rattle.lab_explore_notes.proofs.RaceLemmas.{in_order_pair, is_race, clash}
use Rattle.lab_explore_notes.proofs.SameLemmas.{pairs_decide, is_there, is_not_there}
use Rattle.lab_explore_notes.proofs.races.note_race.Goals as goal

pub returns-then-is_behind-clause-noted : goal.returns-then-is_behind-clause-noted
returns-then-is_behind-clause-noted c = λ race order.
    let m : MachineView = c.args.machine.now in
    let yes : c.is_behind.result ≡ true = search rules in
    absurd (clash (sym yes ∙ c.is_behind.ensures
    ∙ (λ i. is_behind (c.place_of.ensures m c.requires.step i) (c.place_of-2.ensures m c.requires.other i)) ∙ order))

pub returns-then-is_listed-clause-noted : goal.returns-then-is_listed-clause-noted
returns-then-is_listed-clause-noted c = λ race order.
    let m : MachineView = c.args.machine.now in
    let s : State = state_in m in
    let a : Label = c.args.first.step.now.label in
    let b : Label = c.args.second.step.now.label in
    let p : Place = place_at m.program s a c.args.first.access.now in
    let q : Place = place_at m.program s b c.args.second.access.now in
    let yes : c.is_listed.result ≡ true = search rules in
    let pair : Pair = record {
      first = c.place_of.result;
      second = c.place_of-2.result;
      object = c.args.first.access.now.object;
    } in
    let is : pair ≡ pair_at m.program s a b c.args.first.access.now c.args.second.access.now =
    (λ i. record {
      first = c.place_of.ensures m c.requires.step i;
      second = c.place_of-2.ensures m c.requires.other i;
      object = c.args.first.access.now.object;
    }) ∙ sym (in_order_pair p q c.args.first.access.now.object order) in
    subst (λ k. Contains (map pair_of_found c.args.races.now) k) is
    (is_there same_pair pairs_decide (map pair_of_found c.args.races.now) pair
    (ap (λ (fs : List FoundRace). is_among same_pair (map pair_of_found fs) pair) (sym c.as_slice.ensures)
    ∙ sym c.is_listed.ensures ∙ yes))

pub returns-clause-adds : goal.returns-clause-adds
returns-clause-adds c =
    let m : MachineView = c.args.machine.now in
    let s : State = state_in m in
    let a : Label = c.args.first.step.now.label in
    let b : Label = c.args.second.step.now.label in
    let p : Place = place_at m.program s a c.args.first.access.now in
    let q : Place = place_at m.program s b c.args.second.access.now in
    let old : List FoundRace = c.args.races.now in
    let pair : Pair = record {
      first = c.place_of.result;
      second = c.place_of-2.result;
      object = c.args.first.access.now.object;
    } in
    let f : FoundRace = record {
      path = c.in_ok-path.path;
      pair = pair;
      first = c.in_ok-first.first;
      second = c.in_ok-second.second;
    } in
    let before : c.is_behind.result ≡ false = search rules in
    let order : is_behind p q ≡ false =
    (λ i. is_behind (sym (c.place_of.ensures m c.requires.step) i) (sym (c.place_of-2.ensures m c.requires.other) i))
    ∙ sym c.is_behind.ensures ∙ before in
    let is : pair ≡ pair_at m.program s a b c.args.first.access.now c.args.second.access.now =
    (λ i. record {
      first = c.place_of.ensures m c.requires.step i;
      second = c.place_of-2.ensures m c.requires.other i;
      object = c.args.first.access.now.object;
    }) ∙ sym (in_order_pair p q c.args.first.access.now.object order) in
    let no : c.is_listed.result ≡ false = search rules in
    let new : c.push.new.self ≡ old ++ f ∷ [] = c.in_ok-push.ensures.added in
    record {
      right = subst (λ fs. AreRaces m.program m.workers fs) (sym new)
          (push_right (IsPossibleRace m.program m.workers) pair_of_found old f c.requires.right
          (is_race m c.in_ok-path.path pair c.in_ok-first.first c.in_ok-second.second a b c.args.first.access.now
          c.args.second.access.now c.requires.way c.in_ok-path.ensures c.requires.step.worker c.requires.other.worker
          c.requires.race order is c.in_ok-first.ensures c.in_ok-second.ensures)
          (is_not_there same_pair pairs_decide (map pair_of_found old) pair
          (ap (λ (fs : List FoundRace). is_among same_pair (map pair_of_found fs) pair) (sym c.as_slice.ensures)
          ∙ sym c.is_listed.ensures ∙ no)));
      keeps = subst (λ fs. Keeps pair_of_found old fs) (sym new) (keeps_push pair_of_found old f);
    }

pub returns-clause-noted : goal.returns-clause-noted
returns-clause-noted c = λ race order.
    let m : MachineView = c.args.machine.now in
    let s : State = state_in m in
    let a : Label = c.args.first.step.now.label in
    let b : Label = c.args.second.step.now.label in
    let p : Place = place_at m.program s a c.args.first.access.now in
    let q : Place = place_at m.program s b c.args.second.access.now in
    let old : List FoundRace = c.args.races.now in
    let pair : Pair = record {
      first = c.place_of.result;
      second = c.place_of-2.result;
      object = c.args.first.access.now.object;
    } in
    let f : FoundRace = record {
      path = c.in_ok-path.path;
      pair = pair;
      first = c.in_ok-first.first;
      second = c.in_ok-second.second;
    } in
    let is : pair ≡ pair_at m.program s a b c.args.first.access.now c.args.second.access.now =
    (λ i. record {
      first = c.place_of.ensures m c.requires.step i;
      second = c.place_of-2.ensures m c.requires.other i;
      object = c.args.first.access.now.object;
    }) ∙ sym (in_order_pair p q c.args.first.access.now.object order) in
    let new : c.push.new.self ≡ old ++ f ∷ [] = c.in_ok-push.ensures.added in
    subst (λ k. Contains (map pair_of_found c.push.new.self) k) is
    (subst (λ fs. Contains (map pair_of_found fs) pair) (sym new) (told_last pair_of_found old f))

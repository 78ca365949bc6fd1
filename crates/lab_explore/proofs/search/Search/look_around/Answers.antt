use Rattle.std.proofs.Common.{◌≡◌, refl, sym, ◌∙◌, ap, subst, List, map}
use Rattle.lab_explore_moves.specs.declared.possible.PossibleStep.{PossibleStep}
use Rattle.lab_explore_moves.specs.Possible.{label_of_possible}
use Rattle.lab_explore.specs.declared.search.Search.{Search}
use Rattle.lab_explore.specs.Acts.{Act, tries}
use Rattle.lab_explore.specs.Searches.{acts_of, IsSearch}
use Rattle.lab_explore.proofs.SearchLemmas.{looked_around}
use Rattle.lab_explore.proofs.search.Search.look_around.Goals as goal

pub returns-clause-search : goal.returns-clause-search
returns-clause-search c =
    let x : Search = c.args.self.now in
    let y : Search = record {
      machine = x.machine;
      stored = x.stored;
      todos = c.push_tries.new.todos;
      notes = c.note.new.self;
      goes_round = x.goes_round;
      steps = x.steps;
    } in
    let steps : List PossibleStep = c.in_ok-steps.steps.items in
    let acts : acts_of y ≡ tries (map label_of_possible steps) (acts_of x) =
    c.in_ok-push_tries.ensures
    ∙ ap (λ (ps : List PossibleStep). tries (map label_of_possible ps) (acts_of x)) c.as_slice-2.ensures.value in
    subst (λ (more : List Act). IsSearch x.machine.program x.machine.workers more y) (sym acts)
    (looked_around x.machine.program x.machine.workers (acts_of x) x y steps c.requires c.in_ok-steps.ensures refl refl
    refl refl
    c.note.ensures.sound c.note.ensures.keeps c.in_ok-note.ensures.noted)

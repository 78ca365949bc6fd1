use Rattle.std.proofs.Common.{◌≡◌, refl, sym, ◌∙◌, ap, subst, true, false, rules, List, map, ◌+◌}
use Rattle.om_state.specs.declared.step.Label.{Label}
use Rattle.om_undo.specs.Machines.{MachineView, state_in, with_undo}
use Rattle.lab_explore_states.specs.Sets.{seen}
use Rattle.lab_explore.specs.declared.search.Search.{Search}
use Rattle.lab_explore.specs.Acts.{Act, act_of}
use Rattle.lab_explore.specs.Searches.{acts_of, IsSearch}
use Rattle.lab_explore.proofs.SearchLemmas.{made_known, made_back}
use Rattle.lab_explore.proofs.NextLemmas.{inserted_past, was_there, arrives_old, arrives_new}
use Rattle.lab_explore.proofs.WayLemmas.{IsOneMore, one_more_made}
use Rattle.lab_explore.proofs.search.Search.arrive.Goals as goal

pub undo_last-requires-clause-past : goal.undo_last-requires-clause-past
undo_last-requires-clause-past c = (
  (seen c.args.self.now.stored).at,
  (seen c.args.self.now.stored).past,
  inserted_past c.args.self.now.machine.program c.args.self.now.machine.workers c.in_ok-is_new.is_new (seen
      c.take.new.self)
      (seen c.insert.new.self) (seen c.args.self.now.stored) (state_in c.take.new.machine) c.in_ok-take.ensures.follows
      c.in_ok-is_new.ensures.inserted,
)

pub returns-then-not-is_new-clause-arrives : goal.returns-then-not-is_new-clause-arrives
returns-then-not-is_new-clause-arrives c =
    let x : Search = c.args.self.now in
    let y : Search = c.undo_last.new.self in
    let l : Label = c.args.step.label in
    let m : MachineView = c.take.new.machine in
    let old : c.in_ok-is_new.is_new ≡ false = search rules in
    let more : IsOneMore x.machine l m =
    subst (λ n. IsOneMore x.machine l n) (sym c.in_ok-take.ensures.made)
    (one_more_made x.machine l c.requires.possible) in
    let there = was_there x.machine.program x.machine.workers c.in_ok-is_new.is_new (seen c.take.new.self) (seen
    c.insert.new.self)
    c.in_ok-is_new.ensures.inserted old in
    arrives_old x.machine.program x.machine.workers l c.in_ok-is_new.is_new y old
    (subst (λ (more : List Act). IsSearch x.machine.program x.machine.workers more y)
    (sym (ap (map act_of) c.undo_last.ensures.todos))
    (made_back x.machine.program x.machine.workers l (acts_of x) x y m (seen c.take.new.self) (seen c.insert.new.self)
    c.requires.search more c.in_ok-take.ensures.follows there.0 there.1
    (c.undo_last.ensures.machine ∙ ap (with_undo m) c.worker-worker.ensures) c.undo_last.ensures.stored
    c.undo_last.ensures.notes c.undo_last.ensures.steps
    (λ is. c.goes_round-self.ensures (sym c.undo_last.ensures.round ∙ is))))

pub returns-else-not-is_new-clause-arrives : goal.returns-else-not-is_new-clause-arrives
returns-else-not-is_new-clause-arrives c =
    let x : Search = c.args.self.now in
    let l : Label = c.args.step.label in
    let y : Search = record {
      machine = c.take.new.machine;
      stored = c.insert.new.self;
      todos = x.todos;
      notes = x.notes;
      goes_round = x.goes_round;
      steps = x.steps + 1;
    } in
    let new : c.in_ok-is_new.is_new ≡ true = search rules in
    let more : IsOneMore x.machine l y.machine =
    subst (λ n. IsOneMore x.machine l n) (sym c.in_ok-take.ensures.made)
    (one_more_made x.machine l c.requires.possible) in
    arrives_new x.machine.program x.machine.workers l c.in_ok-is_new.is_new y new
    (made_known x.machine.program x.machine.workers l (acts_of x) x y (seen c.take.new.self) c.requires.search more
    c.in_ok-take.ensures.follows refl refl refl c.in_ok-is_new.is_new c.in_ok-is_new.ensures.inserted new)

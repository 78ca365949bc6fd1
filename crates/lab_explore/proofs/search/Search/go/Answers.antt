use Rattle.std.proofs.Common.{◌≡◌, sym, ◌∙◌, ap, subst, true, rules, ℕ, List, map, ◌∷◌}
use Rattle.om_code.specs.declared.raw.Raw.{Raw}
use Rattle.om_state.specs.declared.step.Label.{Label}
use Rattle.lab_explore.specs.declared.search.Search.{Search}
use Rattle.lab_explore.specs.declared.todo.Todo.{Todo}
use Rattle.lab_explore.specs.Acts.{Act, Back, act_of}
use Rattle.lab_explore.specs.Searches.{acts_of, HasArrived}
use Rattle.lab_explore.proofs.NextLemmas.{has_arrived, arrived_but}
use Rattle.lab_explore.proofs.search.Search.go.Goals as goal

pub look_around-requires : goal.look_around-requires
look_around-requires c =
    let x : Search = c.args.self.now in
    let y : Search = c.arrive.new.self in
    let z : Search = record y { todos = c.push.new.self } in
    let l : Label = c.args.step.label in
    let new : c.in_ok-arrive.field-0 ≡ true = search rules in
    let arrived : HasArrived x.machine.program x.machine.workers (Back l.worker ∷ acts_of y) z =
    arrived_but x.machine.program x.machine.workers (Back l.worker ∷ acts_of y) y c.push.new.self
    (has_arrived x.machine.program x.machine.workers l c.in_ok-arrive.field-0 y new c.in_ok-arrive.ensures.arrives) in
    let acts : Back l.worker ∷ acts_of y ≡ acts_of z =
    ap (λ w. Back w ∷ acts_of y) (sym c.worker-worker.ensures)
    ∙ sym (ap (λ (ts : List Todo). map act_of ts) c.in_ok-push.ensures.pushed) in
    subst (λ (p : Raw). HasArrived p y.machine.workers (acts_of z) z) (sym c.in_ok-arrive.ensures.same)
    (subst (λ (n : ℕ). HasArrived x.machine.program n (acts_of z) z) (sym c.in_ok-arrive.ensures.same_workers)
    (subst (λ (more : List Act). HasArrived x.machine.program x.machine.workers more z) acts arrived))

use Rattle.std.proofs.Common.{sym, ap, subst, List, map}
use Rattle.lab_explore.specs.declared.search.Search.{Search}
use Rattle.lab_explore.specs.Acts.{Act, act_of}
use Rattle.lab_explore.specs.Searches.{acts_of, IsSearch}
use Rattle.lab_explore.proofs.SearchLemmas.{can_go_back, has_past, gone_back}
use Rattle.lab_explore.proofs.search.Search.back.Goals as goal

pub undo_last-requires-clause-worker : goal.undo_last-requires-clause-worker
undo_last-requires-clause-worker c =
    can_go_back c.args.self.now.machine.program c.args.self.now.machine.workers c.args.worker (acts_of c.args.self.now)
    c.args.self.now c.requires

pub undo_last-requires-clause-past : goal.undo_last-requires-clause-past
undo_last-requires-clause-past c =
    has_past c.args.self.now.machine.program c.args.self.now.machine.workers c.args.worker (acts_of c.args.self.now)
    c.args.self.now c.requires

pub returns-clause-search : goal.returns-clause-search
returns-clause-search c =
    let x : Search = c.args.self.now in
    let y : Search = c.undo_last.new.self in
    subst (λ (more : List Act). IsSearch x.machine.program x.machine.workers more y)
    (sym (ap (map act_of) c.undo_last.ensures.todos))
    (gone_back x.machine.program x.machine.workers c.args.worker (acts_of x) x y c.requires
    c.undo_last.ensures.machine c.undo_last.ensures.stored c.undo_last.ensures.notes c.undo_last.ensures.steps
    c.undo_last.ensures.round)

use Rattle.std.proofs.lemmas.Result.{on_ok_weaker}
use Rattle.om_cells.specs.Stores as values
use Rattle.om_memory.specs.Memories.{state_of, is_kept, pasts_of}
use Rattle.om_memory.proofs.Held.{there}
use Rattle.om_memory.proofs.Values.{held_grown, pasts_grown, kept_grown}
use Rattle.om_memory.proofs.memory.Memory.know_control.Goals as goal

pub returns-clause-state : goal.returns-clause-state
unfolding state_of
returns-clause-state c = held_grown c.args.self.now.trails.items c.grow.new.trails.items
    (values.state_of c.args.self.now.values) c.grow.ensures.grown

pub returns-clause-pasts : goal.returns-clause-pasts
unfolding pasts_of
returns-clause-pasts c = pasts_grown c.args.self.now.trails.items c.grow.new.trails.items c.grow.ensures.grown

pub returns-clause-kept : goal.returns-clause-kept
unfolding is_kept
returns-clause-kept c = on_ok_weaker c.grow.result (λ enough. there c.grow.new.trails.items c.args.worker enough)
    c.grow.ensures.enough

pub returns-clause-others_kept : goal.returns-clause-others_kept
unfolding is_kept
returns-clause-others_kept c = λ q. kept_grown c.args.self.now.trails.items c.grow.new.trails.items
    (values.is_kept c.args.self.now.values) c.grow.ensures.grown q

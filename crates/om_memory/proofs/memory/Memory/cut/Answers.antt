use Rattle.std.proofs.Common.{refl}
use Rattle.om_cells.specs.Stores as values
use Rattle.om_state.specs.Values.{value_cut}
use Rattle.om_memory.specs.Memories.{state_of, is_kept, pasts_of}
use Rattle.om_memory.proofs.Values.{value_changed, kept_alike, kept_too}
use Rattle.om_memory.proofs.memory.Memory.cut.Goals as goal

pub cut-requires : goal.cut-requires
unfolding is_kept
cut-requires c = kept_too c.args.self.now.trails.items (values.is_kept c.args.self.now.values) c.args.object.now
    c.requires.no_control c.requires.kept

pub returns-clause-state : goal.returns-clause-state
unfolding state_of
returns-clause-state c = value_changed (value_cut c.args.count) c.args.self.now.trails.items
    (values.state_of c.args.self.now.values) _ c.args.object.now c.requires.no_control c.cut.ensures.state

pub returns-clause-pasts : goal.returns-clause-pasts
unfolding pasts_of
returns-clause-pasts c = refl

pub returns-clause-kept : goal.returns-clause-kept
unfolding is_kept
returns-clause-kept c = λ q. kept_alike c.args.self.now.trails.items (values.is_kept c.args.self.now.values)
    (values.is_kept c.cut.new.self) c.cut.ensures.kept q

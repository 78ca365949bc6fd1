use Rattle.std.proofs.Common.{◌∙◌, ap}
use Rattle.om_cells.specs.Stores as values
use Rattle.om_state.specs.Values.{items_of}
use Rattle.om_memory.specs.Memories.{state_of, is_kept}
use Rattle.om_memory.proofs.Values.{read_other, kept_too}
use Rattle.om_memory.proofs.memory.Memory.items.Goals as goal

pub kept-requires : goal.kept-requires
unfolding is_kept
kept-requires c = kept_too c.args.self.now.trails.items (values.is_kept c.args.self.now.values) c.args.object.now
    c.requires.no_control c.requires.kept

pub returns : goal.returns
unfolding state_of
returns c = read_other items_of _ c.args.self.now.trails.items (values.state_of c.args.self.now.values)
    c.args.object.now c.requires.no_control (c.items.ensures ∙ ap items_of c.kept.ensures)

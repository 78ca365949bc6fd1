use Rattle.std.proofs.Common.{◌∙◌, sym}
use Rattle.om_cells.specs.Stores as values
use Rattle.om_memory.specs.Memories.{state_of}
use Rattle.om_memory.proofs.Values.{value_there}
use Rattle.om_memory.proofs.memory.Memory.value.Goals as goal

pub returns : goal.returns
unfolding state_of
returns c = c.get.ensures.value ∙ sym (value_there c.args.self.now.trails.items (values.state_of c.args.self.now.values)
    c.args.object.now c.requires)

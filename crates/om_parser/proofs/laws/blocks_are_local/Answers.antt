use Rattle.om_parser.proofs.Blocks.{blocks_local}
use Rattle.om_parser.proofs.laws.blocks_are_local.Goals as goal

pub returns : goal.returns
returns c = blocks_local c.parts_are_sound.ensures c.parts_are_local.ensures.parts

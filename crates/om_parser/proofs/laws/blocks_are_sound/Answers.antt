use Rattle.om_parser.proofs.Blocks.{blocks_sound}
use Rattle.om_parser.proofs.laws.blocks_are_sound.Goals as goal

pub returns : goal.returns
returns c = blocks_sound c.parts_are_sound.ensures

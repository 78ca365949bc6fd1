use Rattle.om_parser.proofs.Blocks.{blocks_stop}
use Rattle.om_parser.proofs.laws.blocks_stop_so.Goals as goal

pub returns : goal.returns
returns c = blocks_stop c.parts_are_sound.ensures c.parts_stop_so.ensures

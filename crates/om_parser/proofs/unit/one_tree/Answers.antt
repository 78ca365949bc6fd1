use Rattle.om_parser.proofs.OneTree.{same_unit}
use Rattle.om_parser.proofs.unit.one_tree.Goals as goal

pub returns : goal.returns
returns c = same_unit c.blocks_are_read_again.ensures.unchecked c.blocks_are_read_again.ensures.read_again
    c.globals.ensures.read_again

use Rattle.om_parser.proofs.Promises.{has_no_refusal}
use Rattle.om_parser.proofs.unit.accepted_units.Goals as goal

pub returns : goal.returns
returns c = has_no_refusal c.blocks_are_read_again.ensures.read_again c.globals.ensures.read_again

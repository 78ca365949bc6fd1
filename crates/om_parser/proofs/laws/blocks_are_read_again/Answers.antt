use Rattle.om_parser.proofs.Blocks.{blocks_again}
use Rattle.om_parser.proofs.UnaskedForms.{no_forms_of}
use Rattle.om_parser.proofs.laws.blocks_are_read_again.Goals as goal

pub returns-clause-read_again : goal.returns-clause-read_again
returns-clause-read_again c = blocks_again c.parts_are_read_again.ensures

pub returns-clause-unchecked : goal.returns-clause-unchecked
returns-clause-unchecked c = no_forms_of

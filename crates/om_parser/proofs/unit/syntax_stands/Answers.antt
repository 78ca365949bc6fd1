use Rattle.om_parser.proofs.UnitLocal.{syntax_stands}
use Rattle.om_parser.proofs.unit.syntax_stands.Goals as goal

pub returns : goal.returns
returns c = syntax_stands c.blocks_are_local.ensures c.parts_are_local.ensures.globals c.blocks_are_sound.ensures
    c.globals.ensures.sound c.blocks_are_read_again.ensures.read_again c.globals.ensures.read_again

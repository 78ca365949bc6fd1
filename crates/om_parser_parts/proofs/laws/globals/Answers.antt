use Rattle.om_parser_parts.proofs.Globals.{globals_sound, globals_again, globals_stop}
use Rattle.om_parser_parts.proofs.laws.globals.Goals as goal

pub returns-clause-sound : goal.returns-clause-sound
returns-clause-sound c = globals_sound

pub returns-clause-read_again : goal.returns-clause-read_again
returns-clause-read_again c = globals_again

pub returns-clause-stop_at_syntax : goal.returns-clause-stop_at_syntax
returns-clause-stop_at_syntax c = globals_stop

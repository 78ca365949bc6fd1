-- What is known of the blocks of functions and of declarations at file scope.
use Rattle.om_parser.specs.Laws.{BlocksAreSound, BlocksAreReadAgain, BlocksStopSo}
use Rattle.om_parser_parts.specs.Laws.{GlobalsAreSound, GlobalsAreReadAgain, GlobalsStopAtSyntax}

pub record ReadingLaws : Type 0 where
  pub sound : BlocksAreSound
  pub again : BlocksAreReadAgain
  pub stop : BlocksStopSo
  pub globals_sound : GlobalsAreSound
  pub globals_again : GlobalsAreReadAgain
  pub globals_stop : GlobalsStopAtSyntax

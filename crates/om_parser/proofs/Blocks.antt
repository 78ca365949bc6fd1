-- What is read of the block of a function, by the laws of its parts.
use Rattle.om_parser_parts.specs.Laws.{PartsAreSound, PartsAreReadAgain, PartsStopSo}
use Rattle.om_parser_parts.specs.PartReading.{parts}
use Rattle.om_parser.specs.Laws.{BlocksAreSound, BlocksAreReadAgain, BlocksAreLocal, BlocksStopSo}
use Rattle.om_parser.specs.StatementReading.{block_at}
use Rattle.om_parser_parts.specs.Local.{PartsAreLocal}
use Rattle.om_parser.proofs.StatementsLocal.{function_block_local}
use Rattle.om_parser.proofs.StatementSound.{function_block_sound}
use Rattle.om_parser.proofs.StatementComplete.{function_block_again}
use Rattle.om_parser.proofs.StatementCut.{function_block_cut}

pub blocks_sound : PartsAreSound → BlocksAreSound
unfolding block_at
blocks_sound sound l one = function_block_sound (parts l) l one (sound l one) l.statements l.blocks

pub blocks_again : PartsAreReadAgain → BlocksAreReadAgain
unfolding block_at
blocks_again again l one = function_block_again (parts l) l (again l one) l.statements l.blocks

pub blocks_stop : PartsAreSound → PartsStopSo → BlocksStopSo
unfolding block_at
blocks_stop sound stop l one = function_block_cut (parts l) l one (sound l one) (stop l one)

pub blocks_local : PartsAreSound → PartsAreLocal → BlocksAreLocal
unfolding block_at
blocks_local sound local l one m n = function_block_local (parts l) l one (sound l one) (local l one) n l.checked
    l.statements l.blocks m

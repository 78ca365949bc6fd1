use Rattle.std.proofs.Common.{rules}
use Rattle.om_parser.specs.StatementReading.{block_at, block_with, block_items_after}
use Rattle.om_parser.proofs.statement.block.Goals as goal

pub returns-in_err-open_brace : goal.returns-in_err-open_brace
unfolding block_at block_with block_items_after
returns-in_err-open_brace c = search rules

pub returns-in_err-items : goal.returns-in_err-items
unfolding block_at block_with block_items_after
returns-in_err-items c = search rules

pub returns : goal.returns
unfolding block_at block_with block_items_after
returns c = search rules

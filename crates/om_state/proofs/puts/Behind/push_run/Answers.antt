use Rattle.std.proofs.Common.{rules}
use Rattle.om_foot.specs.ListParts.{second_more}
use Rattle.om_state.proofs.RunLists.{behind_more}
use Rattle.om_state.proofs.puts.Behind.push_run.Goals as goal

pub returns-then-is_empty : goal.returns-then-is_empty
returns-then-is_empty c = search (rules, second_more, behind_more)

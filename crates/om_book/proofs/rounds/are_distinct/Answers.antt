use Rattle.std.proofs.Common.{rules}
use Rattle.om_book.proofs.Distinct.{as_many_differ}
use Rattle.om_book.proofs.rounds.are_distinct.Goals as goal

pub returns : goal.returns
returns c = search (rules, as_many_differ)

use Rattle.std.proofs.Common.{length, map}
use Rattle.om_pragma.specs.Expressions.{map_item, tokens_in}
use Rattle.om_pragma.specs.Reading.{syntax_at, take_end, item_at, clauses_at}
use Rattle.om_pragma.proofs.Rows.{GoesOn}
use Rattle.om_pragma.proofs.reading.clauses.Given as goal

abbrev pub invariant-items : goal.invariant-items
invariant-items l = GoesOn syntax_at take_end (item_at l.name) (map (map_item tokens_in) l.items) l.rest
    (clauses_at l.name l.tokens)

abbrev pub decreases-items : goal.decreases-items
decreases-items l = length l.rest

use Rattle.std.proofs.Common.{length, map}
use Rattle.om_parser_tree.specs.Limits.{accepted}
use Rattle.om_parser_parts.specs.Repetition.{until}
use Rattle.om_parser.specs.UnitReading.{take_end, item_at}
use Rattle.om_parser_tree.specs.View.{view_item}
use Rattle.om_parser_parts.specs.Loops.{GoesOn}
use Rattle.om_parser.proofs.unit.items.Given as goal

abbrev pub invariant-items : goal.invariant-items
invariant-items l = GoesOn take_end (item_at accepted) (map view_item l.items.items) l.rest
    (until take_end (item_at accepted) (length l.tokens) l.tokens)

abbrev pub decreases-items : goal.decreases-items
decreases-items l = length l.rest

use Rattle.std.proofs.Common.{◌+◌, ◌*◌, length, map}
use Rattle.om_lexer.specs.declared.token.Punctuator.TheVariants.{CloseBrace}
use Rattle.om_parser_tree.specs.Limits.{accepted}
use Rattle.om_parser_parts.specs.PartReading.{parts}
use Rattle.om_parser_parts.specs.Reading.{take_mark}
use Rattle.om_parser_parts.specs.Repetition.{until}
use Rattle.om_parser.specs.ConstructReading.{ends_part, ends_parts, part_at, part_item_at}
use Rattle.om_parser.specs.OneOrMore.{one_or_more}
use Rattle.om_parser.specs.StatementReading.{block_item_at, statement_at}
use Rattle.om_parser_tree.specs.View.{view_part, view_statement}
use Rattle.om_parser_parts.specs.Loops.{GoesOn}
use Rattle.om_parser.proofs.OneOrMore.{MoreLeft}
use Rattle.om_parser.proofs.statement.+statement.Given as goal

abbrev pub decreases-statement : goal.decreases-statement
decreases-statement l = 8 * l.room.statements

abbrev pub decreases-behind_body : goal.decreases-behind_body
decreases-behind_body l = 8 * l.room.statements + 1

abbrev pub decreases-headed : goal.decreases-headed
decreases-headed l = 8 * l.room.statements + 2

abbrev pub decreases-do_after : goal.decreases-do_after
decreases-do_after l = 8 * l.room.statements + 1

abbrev pub decreases-part_item : goal.decreases-part_item
decreases-part_item l = 8 * l.room.statements + 1

abbrev pub decreases-block_item : goal.decreases-block_item
decreases-block_item l = 8 * l.room.statements + 2

abbrev pub decreases-part_items : goal.decreases-part_items
decreases-part_items l = 8 * l.room.statements + 2

abbrev pub decreases-part : goal.decreases-part
decreases-part l = 8 * l.room.statements + 3

abbrev pub decreases-parts : goal.decreases-parts
decreases-parts l = 8 * l.room.statements + 4

abbrev pub decreases-items : goal.decreases-items
decreases-items l = 8 * l.room.statements + 3

abbrev pub decreases-block_after : goal.decreases-block_after
decreases-block_after l = 8 * l.room.statements + 4

abbrev pub decreases-constructed : goal.decreases-constructed
decreases-constructed l = 8 * l.room.statements + 1

abbrev pub decreases-atomic : goal.decreases-atomic
decreases-atomic l = 8 * l.room.statements + 1

abbrev pub decreases-braces : goal.decreases-braces
decreases-braces l = 8 * l.room.statements + 1

abbrev pub decreases-sections : goal.decreases-sections
decreases-sections l = 8 * l.room.statements + 2

abbrev pub decreases-construct : goal.decreases-construct
decreases-construct l = 8 * l.room.statements + 3

abbrev pub decreases-directive : goal.decreases-directive
decreases-directive l = 8 * l.room.statements + 4

-- what was read before, and what is still to be read, make the whole
abbrev pub invariant-items-items : goal.invariant-items-items
invariant-items-items l =
    let item = block_item_at (parts accepted) (statement_at (parts accepted) l.room.checked l.room.statements
    l.room.blocks) in
    GoesOn (take_mark CloseBrace) item (map view_statement l.items.items) l.rest (until (take_mark CloseBrace) item
    (length l.tokens) l.tokens)

abbrev pub decreases-items-items : goal.decreases-items-items
decreases-items-items l = length l.rest

abbrev pub invariant-part_items-items : goal.invariant-part_items-items
invariant-part_items-items l =
    let item = part_item_at (parts accepted).line (statement_at (parts accepted) l.room.checked l.room.statements
    l.room.blocks) in
    MoreLeft ends_part item (map view_statement l.items.items) l.rest (one_or_more ends_part item (length l.tokens)
    l.tokens)

abbrev pub decreases-part_items-items : goal.decreases-part_items-items
decreases-part_items-items l = length l.rest

abbrev pub invariant-parts-parts : goal.invariant-parts-parts
invariant-parts-parts l =
    let item = part_at (parts accepted).line (statement_at (parts accepted) l.room.checked l.room.statements
    l.room.blocks) in
    MoreLeft ends_parts item (map view_part l.parts.items) l.rest (one_or_more ends_parts item (length l.tokens)
    l.tokens)

abbrev pub decreases-parts-parts : goal.decreases-parts-parts
decreases-parts-parts l = length l.rest

use Rattle.std.proofs.Common.{length, map}
use Rattle.om_lexer.specs.declared.token.Punctuator.TheVariants.{Semicolon}
use Rattle.om_parser_parts.specs.DeclarationReading.{further_at}
use Rattle.om_parser_parts.specs.Reading.{take_mark}
use Rattle.om_parser_parts.specs.Repetition.{until}
use Rattle.om_parser_tree.specs.View.{view_further}
use Rattle.om_parser_parts.specs.Loops.{GoesOn}
use Rattle.om_parser_parts.proofs.declaration.further_declarators.Given as goal

abbrev pub invariant-declarators : goal.invariant-declarators
invariant-declarators g l = GoesOn (take_mark Semicolon) (further_at (g.I.Initial.reader l.fn.room))
    (map (view_further g.I.Initial.view) l.declarators.items) l.rest
    (until (take_mark Semicolon) (further_at (g.I.Initial.reader l.fn.room)) (length l.tokens) l.tokens)

abbrev pub decreases-declarators : goal.decreases-declarators
decreases-declarators g l = length l.rest

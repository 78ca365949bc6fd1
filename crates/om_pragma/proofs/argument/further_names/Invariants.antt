use Rattle.std.proofs.Common.{[], suc, length}
use Rattle.om_lexer.specs.declared.token.Punctuator.TheVariants.{CloseParen}
use Rattle.om_lexer.specs.declared.token.TokenKind.TheVariants.{Punctuator}
use Rattle.om_pragma.specs.Reading.{until, place, take_kind, further_at}
use Rattle.om_pragma.proofs.Rows.{GoesOn}
use Rattle.om_pragma.proofs.argument.further_names.Given as goal

abbrev pub invariant-names : goal.invariant-names
invariant-names l = GoesOn place (take_kind (Punctuator CloseParen)) further_at l.names l.rest
    (until place (take_kind (Punctuator CloseParen)) further_at (suc (length l.tokens)) [] l.tokens)

abbrev pub decreases-names : goal.decreases-names
decreases-names l = length l.rest

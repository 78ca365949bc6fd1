use Rattle.std.proofs.Common.{length}
use Rattle.om_lexer.specs.declared.token.Punctuator.TheVariants.{CloseParen}
use Rattle.om_parser.specs.FunctionReading.{further_parameter_at}
use Rattle.om_parser_parts.specs.Reading.{take_mark}
use Rattle.om_parser_parts.specs.Repetition.{until}
use Rattle.om_parser_parts.specs.Loops.{GoesOn}
use Rattle.om_parser.proofs.function.further_parameters.Given as goal

abbrev pub invariant-parameters : goal.invariant-parameters
invariant-parameters l = GoesOn (take_mark CloseParen) further_parameter_at l.parameters.items l.rest
    (until (take_mark CloseParen) further_parameter_at (length l.tokens) l.tokens)

abbrev pub decreases-parameters : goal.decreases-parameters
decreases-parameters l = length l.rest

-- What the tactic of `src/lib.rt` may open at a goal that has no answer.
-- To open `definitions` is to open all that its line `unfolding` names.
use Rattle.om_parser_parts.specs.DeclarationReading.{signed_at, array_after, declarator_after, further_at}
use Rattle.om_parser_parts.specs.DeclarationReading.{declaration_after, declared_at}
use Rattle.om_parser_parts.specs.ExpressionReading.{within, take_operator, take_assign, take_text, closed_by}
use Rattle.om_parser_parts.specs.ExpressionReading.{paren_after, index_after, first_at, argument_at, arguments_after}
use Rattle.om_parser_parts.specs.ExpressionReading.{call_after, named_after, primary_step, postfix_step}
use Rattle.om_parser_parts.specs.ExpressionReading.{conditional_after, expression_after, expression_step, expression_at}
use Rattle.om_parser_parts.specs.ExpressionReading.{whole_at}
use Rattle.om_parser_parts.specs.LineReading.{clause_value, sooner, line_at}
use Rattle.om_parser_parts.specs.PartReading.{parts, global_at}
use Rattle.om_parser_parts.specs.Reading.{take, same_mark, same_word, take_mark, take_word, take_name, take_number}
use Rattle.om_parser_parts.specs.Reading.{mark_at, word_at, name_at, number_at}

unfoldable pub definitions : Unit {0}
unfolding
    signed_at array_after declarator_after further_at declaration_after declared_at
    within take_operator take_assign take_text closed_by paren_after index_after first_at argument_at arguments_after
    call_after named_after primary_step postfix_step conditional_after expression_after expression_step expression_at
    whole_at
    clause_value sooner line_at
    parts global_at
    take same_mark same_word take_mark take_word take_name take_number mark_at word_at name_at number_at
definitions = tt

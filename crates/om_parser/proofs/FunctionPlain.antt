-- Heads of functions are refused by syntax alone.
use Rattle.std.proofs.Common.{List, [], ◌∷◌, length, Option}
use Rattle.om_lexer.specs.declared.token.Keyword.TheVariants as keywords
use Rattle.om_lexer.specs.declared.token.Punctuator.TheVariants as punctuators
use Rattle.om_lexer.specs.declared.token.Span.{Span}
use Rattle.om_lexer.specs.declared.token.Token.{Token}
use Rattle.om_pragma.specs.declared.clause.Name as names
use Rattle.om_parser_tree.specs.declared.tree.Parameter.{Parameter}
use Rattle.om_parser_tree.specs.declared.tree.ResultType.{ResultType}
use Rattle.om_parser_tree.specs.Tree.{ParametersTree, NoParameters, Void, Listed, HeadTree}
use Rattle.om_parser.specs.FunctionReading.{parameter_at, further_parameter_at, listed_at, parameters_at, head_after}
use Rattle.om_parser.specs.FunctionReading.{named_parameter, named_further, named_parameters, named_head}
use Rattle.om_parser_parts.specs.Reading.{known, take_mark, mark_at, word_at}
use Rattle.om_parser_parts.specs.Repetition.{until}
use Rattle.om_parser.specs.Stopped.{IsPlain, ok_plain, known_plain, bind_plain, choose_plain, until_plain}

parameter_plain : (ts : List Token) → IsPlain (parameter_at ts)
unfolding parameter_at word_at
parameter_plain ts = bind_plain (word_at keywords.Int ts) _ (known_plain ts _) (λ i. ok_plain _)

further_parameter_plain : (ts : List Token) → IsPlain (further_parameter_at ts)
unfolding further_parameter_at mark_at
further_parameter_plain ts = bind_plain (mark_at punctuators.Comma ts) _ (known_plain ts _)
    (λ c. bind_plain (parameter_at c.1) _ (parameter_plain c.1) (λ p. ok_plain _))

listed_plain : (ts : List Token) → IsPlain (listed_at ts)
unfolding listed_at
listed_plain ts = bind_plain (parameter_at ts) _ (parameter_plain ts)
    (λ p. bind_plain (until (take_mark punctuators.CloseParen) further_parameter_at (length p.1) p.1) _
    (until_plain _ further_parameter_at further_parameter_plain (length p.1) p.1) (λ m. ok_plain _))

parameters_plain : (ts : List Token) → IsPlain (parameters_at ts)
unfolding parameters_at mark_at
parameters_plain ts = choose_plain (take_mark punctuators.CloseParen ts) _ _ (λ r. ok_plain _)
    (choose_plain _ _ _ (λ (v : Span × List Token). bind_plain (mark_at punctuators.CloseParen v.1) _
    (known_plain v.1 _) (λ r. ok_plain _)) (listed_plain ts))

pub head_plain : (result : ResultType) (n : names.Name) (left : Span) (ts : List Token)
    → IsPlain (head_after result n left ts)
unfolding head_after
head_plain result n left ts = bind_plain (parameters_at ts) _ (parameters_plain ts) (λ p. ok_plain _)

-- ---- names of parameters

named_parameter_plain : (body : List Token) (p : Parameter (Option names.Name)) → IsPlain (named_parameter body p)
unfolding named_parameter
named_parameter_plain body p = bind_plain (known body p.name) _ (known_plain body p.name) (λ n. ok_plain _)

named_further_plain : (body : List Token) (ps : List (Span × Parameter (Option names.Name)))
    → IsPlain (named_further body ps)
unfolding named_further
named_further_plain body [] = ok_plain []
named_further_plain body (p ∷ ps) = bind_plain (named_parameter body p.1) _ (named_parameter_plain body p.1)
    (λ q. bind_plain (named_further body ps) _ (named_further_plain body ps) (λ qs. ok_plain _))

named_parameters_plain : (body : List Token) (p : ParametersTree (Option names.Name))
    → IsPlain (named_parameters body p)
unfolding named_parameters
named_parameters_plain body NoParameters = ok_plain NoParameters
named_parameters_plain body (Void at) = ok_plain (Void at)
named_parameters_plain body (Listed p ps) = bind_plain (named_parameter body p) _ (named_parameter_plain body p)
    (λ q. bind_plain (named_further body ps) _ (named_further_plain body ps) (λ qs. ok_plain _))

pub named_head_plain : (body : List Token) (h : HeadTree (Option names.Name)) → IsPlain (named_head body h)
unfolding named_head
named_head_plain body h = bind_plain (named_parameters body h.parameters) _
    (named_parameters_plain body h.parameters) (λ ps. ok_plain _)

-- For proofs: reading the heads of functions from the left.
use Rattle.std.specs.Prelude.{List, [], ◌∷◌, length, Option, Ok}
use Rattle.om_lexer.specs.declared.token.Keyword.TheVariants as keywords
use Rattle.om_lexer.specs.declared.token.Punctuator.TheVariants as punctuators
use Rattle.om_lexer.specs.declared.token.Span.{Span}
use Rattle.om_lexer.specs.declared.token.Token.{Token}
use Rattle.om_pragma.specs.declared.clause.Name as names
use Rattle.om_parser_tree.specs.declared.tree.Parameter.{Parameter}
use Rattle.om_parser_tree.specs.declared.tree.ResultType.{ResultType}
use Rattle.om_parser_parts.specs.Reading.{◌>>=◌, choose, known, Outcome, Reader, take_mark, take_word, take_name, mark_at}
use Rattle.om_parser_parts.specs.Reading.{word_at}
use Rattle.om_parser_parts.specs.Repetition.{optional, until}
use Rattle.om_parser_tree.specs.Tree.{ParametersTree, NoParameters, Void, Listed, HeadTree}

-- `int` and a name, where one stands (C17 6.7.6.3)
unfoldable pub parameter_at : Reader (Parameter (Option names.Name))
parameter_at ts = do
  i ← word_at keywords.Int ts
  let n = optional (take_name i.1) i.1
  Ok (record { int = i.0; name = n.0 }, n.1)

-- a comma and a parameter
unfoldable pub further_parameter_at : Reader (Span × Parameter (Option names.Name))
further_parameter_at ts = do
  c ← mark_at punctuators.Comma ts
  p ← parameter_at c.1
  Ok ((c.0, p.0), p.1)

-- parameters behind commas, up to the right parenthesis
abbrev pub further_parameters_at : List Token
    → Outcome (List (Span × Parameter (Option names.Name)) × Span × List Token)
further_parameters_at ts = until (take_mark punctuators.CloseParen) further_parameter_at (length ts) ts

-- one parameter or several, and the right parenthesis
unfoldable pub listed_at : Reader (ParametersTree (Option names.Name) × Span)
listed_at ts = do
  p ← parameter_at ts
  m ← further_parameters_at p.1
  Ok ((Listed p.0 m.0, m.1), m.2)

-- parameters and the right parenthesis, behind the left one (C17 6.7.6.3)
unfoldable pub parameters_at : Reader (ParametersTree (Option names.Name) × Span)
parameters_at ts = choose (take_mark punctuators.CloseParen ts)
    (λ r. Ok ((NoParameters, r.0), r.1))
    (choose (take_word keywords.Void ts)
    (λ v. mark_at punctuators.CloseParen v.1 >>= λ r. Ok ((Void v.0, r.0), r.1))
    (listed_at ts))

-- the rest of a head, behind the left parenthesis
unfoldable pub head_after : ResultType → names.Name → Span → Reader (HeadTree (Option names.Name))
head_after result name left ts = do
  p ← parameters_at ts
  Ok (record { result = result; name = name; open_paren = left; parameters = p.0.0; close_paren = p.0.1 }, p.1)

-- ---- the head of a definition, whose parameters have names (C17 6.9.1); it is refused where its body begins

unfoldable pub named_parameter : (body : List Token) → Parameter (Option names.Name) → Outcome (Parameter names.Name)
named_parameter body p = do
  n ← known body p.name
  Ok (record { int = p.int; name = n })

unfoldable pub named_further : (body : List Token) → List (Span × Parameter (Option names.Name))
    → Outcome (List (Span × Parameter names.Name))
named_further body [] = Ok []
named_further body (p ∷ ps) = do
  q ← named_parameter body p.1
  qs ← named_further body ps
  Ok ((p.0, q) ∷ qs)

unfoldable pub named_parameters : (body : List Token) → ParametersTree (Option names.Name)
    → Outcome (ParametersTree names.Name)
named_parameters body NoParameters = Ok NoParameters
named_parameters body (Void at) = Ok (Void at)
named_parameters body (Listed p ps) = do
  q ← named_parameter body p
  qs ← named_further body ps
  Ok (Listed q qs)

unfoldable pub named_head : (body : List Token) → HeadTree (Option names.Name) → Outcome (HeadTree names.Name)
named_head body h = do
  ps ← named_parameters body h.parameters
  Ok (record {
    result = h.result;
    name = h.name;
    open_paren = h.open_paren;
    parameters = ps;
    close_paren = h.close_paren;
  })

-- What the code makes of a directive line is what the reader makes.
use Rattle.std.proofs.Common.{◌≡◌, ◌≤◌, List, [], ◌∷◌, length, None, Result, Ok, Err, refl, sym, ap, ◌∙◌, arith, ◌⊎◌}
use Rattle.std.proofs.Common.{inl, inr}
use Rattle.std.specs.Prelude.{option_to_list, IfOk, IfErr}
use Rattle.std.proofs.lemmas.Bool.{le-leb}
use denote.Ref.{Bor}
use Rattle.om_lexer.specs.Faults.{no_memory}
use Rattle.om_lexer.specs.declared.fault.SourceFault.{SourceFault}
use Rattle.om_lexer.specs.declared.token.Token.{Token}
use Rattle.om_pragma.specs.declared.clause.Number.{Number}
use Rattle.om_pragma.specs.declared.tree.Directive.{Directive}
use Rattle.om_pragma.specs.Expressions.{expressions, first_expression, map_directive, tokens_in, with_tokens, IsValue}
use Rattle.om_pragma.specs.Reading.{directive_at, expression_at, expression_before}
use Rattle.om_parser_tree.specs.declared.tree.Expression.{Expression, fold-roll-Expression}
use Rattle.om_parser_tree.specs.declared.tree.Expression.TheOpen.{Expression-F}
use Rattle.om_parser_tree.specs.declared.tree.Expression.TheVariants as values
use Rattle.om_parser_tree.specs.Limits.{Limits}
use Rattle.om_parser_parts.specs.LineReading.{clause_value, no_value, with_value, sooner, line_of}
use Rattle.om_parser_parts.specs.Reading.{Reads}
use Rattle.om_parser_tree.specs.Tree.{ExpressionTree, Constant}
use Rattle.om_parser_tree.specs.View.{expression_layer, view_expression, view_directive}
use Rattle.om_parser_parts.specs.Outcomes.{ok, some, err_is}
use Rattle.om_parser_parts.proofs.LineParts.{first_is_only, first_mapped, mapped_twice}

-- ---- the expression in its place

view_constant : (n : Number) → view_expression (values.Constant n) ≡ Constant n
view_constant n = ap view_expression (sym (values.rolls-Constant n)) ∙ fold-roll-Expression ExpressionTree
    expression_layer (Expression-F.Constant n)

-- the value that stands for no expression
number : Number
number = record { value = 0; span = record { start = 0; end = 0; line = 0 } }

module _ (d : Directive (Bor (List Token))) where
  filled_view : (made : Directive Expression) (v : Expression) → made
      ≡ map_directive (λ (any : Bor (List Token)). v) d → view_directive made
      ≡ map_directive (λ (any : List Token). view_expression v) (with_tokens d)
  filled_view made v is = ap view_directive is ∙ mapped_twice (λ (any : Bor (List Token)). v) view_expression d
      ∙ sym (mapped_twice tokens_in (λ (any : List Token). view_expression v) d)

  -- a directive without an expression has room for none
  pub none_left : length (expressions d) ≤ 1 → first_expression d.clauses ≡ None → length (expressions d) ≤ 0
  unfolding expressions
  none_left few none = let is = ap length (first_is_only d.clauses few ∙ ap option_to_list none) in omega (arith, is)

  module _ (l : Limits) (run : List Token) where
    none_filled : (made : Directive Expression) → first_expression d.clauses ≡ None
        → ((f : Bor (List Token) → Expression) → IsValue f None → made ≡ map_directive f d) → with_value l run
        (with_tokens d) ≡ Ok (view_directive made)
    unfolding with_value number
    none_filled made none is =
        let v : Expression = values.Constant number in
        let same : view_directive made ≡ map_directive (λ (any : List Token). no_value) (with_tokens d) =
        filled_view made v (is (λ any. v) tt)
        ∙ ap (λ (e : ExpressionTree). map_directive (λ (any : List Token). e) (with_tokens d))
        (view_constant number) in
        rw (first_mapped tokens_in d.clauses, none) (ap ok (sym same))

    some_filled : (made : Directive Expression) (tokens : Bor (List Token)) (v : Expression) → first_expression
        d.clauses ≡ some tokens → clause_value l run tokens.now ≡ Ok (view_expression v)
        → ((f : Bor (List Token) → Expression) → IsValue f (some v) → made ≡ map_directive f d) → with_value l run
        (with_tokens d) ≡ Ok (view_directive made)
    unfolding with_value
    some_filled made tokens v first value is = rw (first_mapped tokens_in d.clauses, first, value)
        (ap ok (sym (filled_view made v (is (λ any. v) (λ any. refl)))))

    -- what filling it gives, where it has none
    pub none_read : (r : Result (Directive Expression) SourceFault) → first_expression d.clauses ≡ None
        → IfOk r (λ made. (f : Bor (List Token) → Expression) → IsValue f None → made ≡ map_directive f d)
        → IfErr r (λ e. e ≡ no_memory) → Reads view_directive r (with_value l run (with_tokens d))
    none_read (Ok made) none is memory = none_filled made none is
    none_read (Err e) none is memory = inl memory

    -- the same where it has one
    pub some_read : (r : Result (Directive Expression) SourceFault) (tokens : Bor (List Token)) (v : Expression)
        → first_expression d.clauses ≡ some tokens → clause_value l run tokens.now ≡ Ok (view_expression v)
        → IfOk r (λ made. (f : Bor (List Token) → Expression) → IsValue f (some v) → made ≡ map_directive f d)
        → IfErr r (λ e. e ≡ no_memory) → Reads view_directive r (with_value l run (with_tokens d))
    some_read (Ok made) tokens v first value is memory = some_filled made tokens v first value is
    some_read (Err e) tokens v first value is memory = inl memory

    pub value_fails : (tokens : Bor (List Token)) (f : SourceFault) → first_expression d.clauses ≡ some tokens
        → (f ≡ no_memory) ⊎ (clause_value l run tokens.now ≡ Err f) → (f ≡ no_memory)
        ⊎ (with_value l run (with_tokens d) ≡ Err f)
    unfolding with_value
    value_fails tokens f first (inl memory) = inl memory
    value_fails tokens f first (inr fails) = inr (rw (first_mapped tokens_in d.clauses, first, fails) refl)

-- ---- a refused run

-- no expression ends before the first byte, where out of memory stands
before_nothing : (ts : List Token) → expression_before 0 ts ≡ None
unfolding expression_before expression_at
before_nothing [] = refl
before_nothing (t ∷ ts) = rw (le-leb 0 t.span.start (omega arith), before_nothing ts) refl

pub refused_line : (l : Limits) (run : List Token) (f e : SourceFault) → (f ≡ no_memory)
    ⊎ (directive_at run ≡ Err f) → (e ≡ no_memory) ⊎ (sooner l run f ≡ Err e) → (e ≡ no_memory)
    ⊎ (line_of l run (directive_at run) ≡ Err e)
unfolding sooner
refused_line l run f e (inl memory) (inl s) = inl s
refused_line l run f e (inl memory) (inr s) = let same = err_is no_memory e (rw (memory, before_nothing run) at
    s) in inl (sym same)
refused_line l run f e (inr is) s = rw is s

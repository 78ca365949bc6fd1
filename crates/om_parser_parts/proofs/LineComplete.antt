-- What a directive line spells is read again, within the limits.
use Rattle.std.proofs.Common.{◌≡◌, ◌+◌, ◌-◌, ◌≤◌, List, [], ◌∷◌, ◌++◌, length, Option, Some, None, Ok, Err, refl, false}
use Rattle.std.proofs.Common.{ap, subst, ◌∙◌, arith, inl, inr}
use Rattle.std.specs.Prelude.{option_to_list}
use Rattle.std.proofs.lemmas.List.{append-nil, length-map}
use Rattle.om_lexer.specs.declared.fault.FaultCode.{FaultCode}
use Rattle.om_lexer.specs.declared.fault.FaultCode.TheVariants as codes
use Rattle.om_lexer.specs.declared.fault.SourceFault.{SourceFault}
use Rattle.om_lexer.specs.declared.token.Token.{Token}
use Rattle.om_lexer.specs.declared.token.TokenKind.TheVariants as kinds
use Rattle.om_pragma.specs.declared.tree.Directive.{Directive}
use Rattle.om_pragma.specs.Expressions.{expressions, first_expression, map_directive, IsClosed}
use Rattle.om_pragma.specs.Reading.{directive_at}
use Rattle.om_pragma.specs.Spelling.{directive_spelling}
use Rattle.om_pragma.specs.Table.{IsDirective}
use Rattle.om_parser_parts.proofs.Mapping.{mapped_expressions, mapped_spelling, mapped_directive}
use Rattle.om_parser_parts.specs.ExpressionReading.{whole_at}
use Rattle.om_parser_tree.specs.Formed.{IsExpression, IsLine}
use Rattle.om_parser_tree.specs.Limits.{Limits, nesting}
use Rattle.om_parser_parts.specs.LineReading.{run_of, is_syntax, in_run, clause_value, all_of, no_value, with_value, line_at}
use Rattle.om_parser_parts.specs.Reading.{Outcome}
use Rattle.om_parser_tree.specs.Sizes.{most, extent}
use Rattle.om_parser_tree.specs.Spelling.{token, expression_spelling}
use Rattle.om_parser_tree.specs.Tree.{ExpressionTree}
use Rattle.om_parser_parts.specs.Laws.{IsAnswer, KeepsLine}
use Rattle.om_parser_parts.specs.Again.{bind_answer}
use Rattle.om_parser_parts.specs.Outcomes.{ok, some}
use Rattle.om_parser_parts.proofs.ExpressionComplete.{whole_again}
use Rattle.om_parser_parts.proofs.LineParts.{Each, first_mapped, mapped_twice, formed_value, only_first, mapped_itself}
use Rattle.om_parser_parts.proofs.LineAnswers.{OnlyOne, IsReading, HasOneExpression, run_reads}
use Rattle.om_parser_parts.proofs.LineRuns.{run_again}
use Rattle.om_parser_parts.proofs.LineTokens.{expression_closed, before_end, before_end_endless, end_last, spelled_once}

not_syntax : (code : FaultCode) → (code ≡ codes.Syntax → ⊥) → is_syntax code ≡ false
not_syntax codes.Syntax other = absurd (other refl)
not_syntax _ other = refl

-- another fault than that of syntax stays as it is
in_run_other : (run es : List Token) (f : SourceFault) → (f.code ≡ codes.Syntax → ⊥) → in_run run es f ≡ f
in_run_other run es f other = rw (not_syntax f.code other) refl

-- the expression of a clause is read again
value_again : (l : Limits) → 1 ≤ l.nested → (run : List Token) (e : ExpressionTree) → IsExpression e
    → IsAnswer ((nesting e ≤ l.nested - 1) × (extent e ≤ l.tokens)) (clause_value l run (expression_spelling e)) e
unfolding clause_value
value_again l one run e formed =
    let again = subst (λ (ts : List Token). IsAnswer ((nesting e ≤ l.nested - 1) × (extent e ≤ l.tokens))
    (whole_at l (l.nested - 1) ts) (e, [])) (append-nil (expression_spelling e))
    (whole_again l (l.nested - 1) e [] formed (omega arith)) in
    go (whole_at l (l.nested - 1) (expression_spelling e)) again
  where
    go : (read : Outcome (ExpressionTree × List Token)) → IsAnswer ((nesting e ≤ l.nested - 1)
        × (extent e ≤ l.tokens)) read (e, []) → IsAnswer ((nesting e ≤ l.nested - 1) × (extent e ≤ l.tokens))
        (all_of run (expression_spelling e) read) e
    go read (inl is) = inl (rw is refl)
    go read (inr (s, is, never)) =
        inr (
          s,
          rw is (ap (λ (f : SourceFault). Err f) (in_run_other run (expression_spelling e) s.fault s.other)),
          never,
        )

-- a directive with its expressions as tokens
tokens_of : Directive ExpressionTree → Directive (List Token)
tokens_of d = map_directive expression_spelling d

-- they are as the table has them
tokens_formed : (d : Directive ExpressionTree) → IsLine d → IsDirective IsClosed (tokens_of d)
unfolding tokens_of
tokens_formed d formed = mapped_directive expression_spelling IsExpression IsClosed (λ e f. expression_closed e) d
    formed

directive_read : OnlyOne → IsReading → (d : Directive ExpressionTree) → IsLine d
    → directive_at (directive_spelling expression_spelling d) ≡ Ok (tokens_of d)
unfolding tokens_of
directive_read only is_read d formed = run_reads only is_read (directive_spelling expression_spelling d)
    (spelled_once d) (tokens_of d)
    (record { formed = tokens_formed d formed; spelled = mapped_spelling expression_spelling (λ e. e) d })

-- a line has one expression at most
few_in : HasOneExpression → (d : Directive ExpressionTree) → IsLine d → length (expressions d) ≤ 1
unfolding tokens_of
few_in one_expression d formed = omega (
  arith,
  one_expression (tokens_of d) (tokens_formed d formed),
  ap length (mapped_expressions expression_spelling d),
  length-map (expressions d) expression_spelling,
)

-- the expression in place of its tokens makes the directive
restored : HasOneExpression → (d : Directive ExpressionTree) → IsLine d → (o : Option ExpressionTree)
    → first_expression d.clauses ≡ o → (e : ExpressionTree) → Each (λ x. e ≡ x) (option_to_list o)
    → map_directive (λ (any : List Token). e) (tokens_of d) ≡ d
unfolding tokens_of
restored few d formed o is e each = mapped_twice expression_spelling (λ (any : List Token). e) d ∙ mapped_itself d
    (few_in few d formed) o is (λ any. e) each

with_value_again : HasOneExpression → (l : Limits) → 1 ≤ l.nested → (run : List Token)
    (d : Directive ExpressionTree) → IsLine d → IsAnswer (KeepsLine l d) (with_value l run (tokens_of d)) d
unfolding with_value tokens_of
with_value_again few l one run d formed = go (first_expression d.clauses) refl
  where
    kept : (e : ExpressionTree) → first_expression d.clauses ≡ some e → KeepsLine l d → (nesting e ≤ l.nested - 1)
        × (extent e ≤ l.tokens)
    kept e is w =
        let only = only_first d (few_in few d formed) (Some e) is in
        let nested : most (λ x. nesting x + 1) (e ∷ []) ≤ l.nested = subst (λ (xs : List ExpressionTree). most
        (λ x. nesting x + 1) xs ≤ l.nested) only w.nested in
        let long : most extent (e ∷ []) ≤ l.tokens = subst (λ (xs : List ExpressionTree). most extent xs ≤ l.tokens)
        only w.long in
        (omega (arith, nested, one), omega (arith, long))

    go : (o : Option ExpressionTree) → first_expression d.clauses ≡ o → IsAnswer (KeepsLine l d)
        (with_value l run (map_directive expression_spelling d)) d
    go None is = inl (rw (first_mapped expression_spelling d.clauses, is)
        (ap ok (restored few d formed None is no_value tt)))
    go (Some e) is =
        let same = restored few d formed (Some e) is e (refl, tt) in
        let filled : IsAnswer (KeepsLine l d)
        (ok (map_directive (λ (any : List Token). e) (map_directive expression_spelling d))) d = inl (ap ok same) in
        rw (first_mapped expression_spelling d.clauses, is)
        (bind_answer (clause_value l run (expression_spelling e))
        (λ x. Ok (map_directive (λ (any : List Token). x) (map_directive expression_spelling d))) e d
        (kept e is) (value_again l one run e (formed_value IsExpression d formed e is)) filled)

run_read : (d : Directive ExpressionTree) (rest : List Token) → run_of (directive_spelling expression_spelling d
    ++ rest) ≡ some (directive_spelling expression_spelling d, rest)
run_read d rest = rw (end_last d) (run_again (before_end d) (token kinds.DirectiveEnd d.end) rest
    (before_end_endless d) refl)

pub line_again : OnlyOne → IsReading → HasOneExpression → (l : Limits) → 1 ≤ l.nested
    → (d : Directive ExpressionTree) (rest : List Token) → IsLine d → IsAnswer (KeepsLine l d)
    (line_at l (directive_spelling expression_spelling d ++ rest)) (d, rest)
unfolding line_at
line_again only is_read few l one d rest formed =
    let run : List Token = directive_spelling expression_spelling d in
    let filled : IsAnswer (KeepsLine l d) (ok (d, rest)) (d, rest) = inl refl in
    rw (run_read d rest, directive_read only is_read d formed) (bind_answer (with_value l run (tokens_of d))
    (λ x. Ok (x, rest)) d (d, rest) (λ w. w) (with_value_again few l one run d formed) filled)

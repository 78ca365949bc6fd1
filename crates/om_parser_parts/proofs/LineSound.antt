-- A directive line that is read is well-formed, within the limits, and spelled as the tokens were.
use Rattle.std.proofs.Common.{◌≡◌, ◌+◌, ◌-◌, ◌≤◌, List, [], ◌∷◌, ◌++◌, map, Option, Some, None, Ok, Err, refl, sym, ap}
use Rattle.std.proofs.Common.{subst, ◌∙◌, arith, inl, inr}
use Rattle.std.specs.Prelude.{option_to_list}
use Rattle.std.proofs.lemmas.List.{append-nil}
use Rattle.om_lexer.specs.declared.fault.SourceFault.{SourceFault}
use Rattle.om_lexer.specs.declared.token.Token.{Token}
use Rattle.om_pragma.specs.declared.tree.Directive.{Directive}
use Rattle.om_pragma.specs.Expressions.{first_expression, expressions, map_directive, IsClosed}
use Rattle.om_pragma.specs.Reading.{directive_at, expression_before}
use Rattle.om_pragma.specs.Refusals.{EndsOnce}
use Rattle.om_pragma.specs.Spelling.{directive_spelling}
use Rattle.om_pragma.specs.Table.{IsDirective}
use Rattle.om_parser_parts.proofs.Mapping.{mapped_expressions, mapped_spelling, mapped_directive}
use Rattle.om_parser_parts.specs.ExpressionReading.{whole_at}
use Rattle.om_parser_tree.specs.Formed.{IsExpression}
use Rattle.om_parser_tree.specs.Limits.{Limits, nesting}
use Rattle.om_parser_parts.specs.LineReading.{run_of, all_of, clause_value, no_value, with_value, sooner, line_of, line_at}
use Rattle.om_parser_parts.specs.Reading.{Outcome}
use Rattle.om_parser_tree.specs.Sizes.{most, extent}
use Rattle.om_parser_tree.specs.Spelling.{expression_spelling}
use Rattle.om_parser_tree.specs.Tree.{ExpressionTree}
use Rattle.om_parser_parts.specs.Outcomes.{ok, ok_is, bind_ok, choose_cases}
use Rattle.om_parser_parts.proofs.ExpressionSound.{whole_sound}
use Rattle.om_parser_parts.specs.Laws.{IsRead, IsSound, IsWholeLine}
use Rattle.om_parser_parts.proofs.LineParts.{Each, only_first, same_tokens}
use Rattle.om_parser_parts.proofs.LineAnswers.{IsReading, HasOneExpression, run_directive}
use Rattle.om_parser_parts.proofs.LineRuns.{run_is, run_is_ended}

-- an expression of these tokens within the limits, where parentheses stand round it
record IsValue (l : Limits) (es : List Token) (e : ExpressionTree) : Type 0 where
  spelled : expression_spelling e ≡ es
  formed : IsExpression e
  nested : nesting e + 1 ≤ l.nested
  long : extent e ≤ l.tokens

value_sound : (l : Limits) → 1 ≤ l.nested → (run es : List Token) (e : ExpressionTree) → clause_value l run es
    ≡ ok e → IsValue l es e
unfolding clause_value
value_sound l one run es e h = go (whole_at l (l.nested - 1) es) refl h
  where
    go : (r : Outcome (ExpressionTree × List Token)) → whole_at l (l.nested - 1) es ≡ r → all_of run es r ≡ ok e
        → IsValue l es e
    go (Ok (x, [])) is h =
        let w = whole_sound l (l.nested - 1) es (x, []) is in
        subst (IsValue l es) (ok_is x e h) (record {
          spelled = sym (w.parts ∙ append-nil (expression_spelling x));
          formed = w.formed.0;
          nested = omega (arith, w.formed.1, one);
          long = w.formed.2;
        })
    go (Ok (x, t ∷ ts)) is h = absurd cc
    go (Err f) is h = absurd cc

-- the tokens of a directive with this expression in place of its own are the same, and it keeps the limits
module _ (one_expression : HasOneExpression) (l : Limits) (d : Directive (List Token))
    (formed : IsDirective IsClosed d) (e : ExpressionTree) (is_expression : IsExpression e) where
  with_expression : Directive ExpressionTree
  with_expression = map_directive (λ (any : List Token). e) d

  filled_sound : (o : Option (List Token)) → first_expression d.clauses ≡ o → Each (λ es. IsValue l es e)
      (option_to_list o) → (directive_spelling expression_spelling with_expression ≡ directive_spelling (λ w. w) d)
      × IsWholeLine l with_expression
  unfolding with_expression
  filled_sound o is values = (
    mapped_spelling (λ (any : List Token). e) expression_spelling d ∙ same_tokens d (one_expression d formed) o is
        (λ any. expression_spelling e) (λ w. w) (spelled o values),
    record {
      formed = mapped_directive (λ (any : List Token). e) IsClosed IsExpression (λ w c. is_expression) d formed;
      nested = subst (λ (xs : List ExpressionTree). most (λ x. nesting x + 1) xs ≤ l.nested) (sym same)
          (nested o values);
      long = subst (λ (xs : List ExpressionTree). most extent xs ≤ l.tokens) (sym same) (long o values);
    },
  )
    where
      same : expressions (map_directive (λ (any : List Token). e) d) ≡ map (λ (any : List Token). e) (option_to_list o)
      same = mapped_expressions (λ (any : List Token). e) d ∙ ap (map (λ (any : List Token). e))
          (only_first d (one_expression d formed) o is)

      spelled : (p : Option (List Token)) → Each (λ es. IsValue l es e) (option_to_list p)
          → Each (λ w. expression_spelling e ≡ w) (option_to_list p)
      spelled None values = tt
      spelled (Some es) values = (values.0.spelled, tt)

      nested : (p : Option (List Token)) → Each (λ es. IsValue l es e) (option_to_list p)
          → most (λ x. nesting x + 1) (map (λ (any : List Token). e) (option_to_list p)) ≤ l.nested
      nested None values = omega arith
      nested (Some es) values = omega (arith, values.0.nested)

      long : (p : Option (List Token)) → Each (λ es. IsValue l es e) (option_to_list p)
          → most extent (map (λ (any : List Token). e) (option_to_list p)) ≤ l.tokens
      long None values = omega arith
      long (Some es) values = omega (arith, values.0.long)

abbrev IsOf : Limits → Directive (List Token) → Directive ExpressionTree → Type 0
IsOf l d x = (directive_spelling expression_spelling x ≡ directive_spelling (λ w. w) d) × IsWholeLine l x

with_value_sound : HasOneExpression → (l : Limits) → 1 ≤ l.nested → (run : List Token) (d : Directive (List Token))
    → IsDirective IsClosed d → (x : Directive ExpressionTree) → with_value l run d ≡ ok x → IsOf l d x
unfolding with_value with_expression IsExpression
with_value_sound few l one run d formed x h = elim (choose_cases (first_expression d.clauses) _ _ (ok x) h) [
  | inl v ↦
      let e = bind_ok (clause_value l run v.0) _ x v.2 in
      let value = value_sound l one run v.0 e.0 e.1 in
      subst (IsOf l d) (ok_is (map_directive (λ (any : List Token). e.0) d) x e.2)
      (filled_sound few l d formed e.0 value.formed (Some v.0) v.1 (value, tt))
  | inr v ↦ subst (IsOf l d) (ok_is (map_directive (λ (any : List Token). no_value) d) x v.1)
      (filled_sound few l d formed no_value tt None v.0 tt)
]

sooner_fails : (l : Limits) (run : List Token) (f : SourceFault) (x : Directive ExpressionTree) → sooner l run f
    ≡ ok x → ⊥
unfolding sooner
sooner_fails l run f x h = elim (choose_cases (expression_before f.at run) _ _ (ok x) h) [
  | inl v ↦ let e = bind_ok (clause_value l run v.0) _ x v.2 in absurd cc
  | inr v ↦ absurd cc
]

pub line_sound : IsReading → HasOneExpression → (l : Limits) → 1 ≤ l.nested
    → IsSound (directive_spelling expression_spelling) (IsWholeLine l) (line_at l)
unfolding line_at
line_sound is_read few l one ts x h = elim (choose_cases (run_of ts) _ _ (ok x) h) [
  | inl r ↦
      let d = bind_ok (line_of l r.0.0 (directive_at r.0.0)) _ x r.2 in
      let s = go r.0.0 (run_is_ended ts r.0 r.1) (directive_at r.0.0) refl d.0 d.1 in
      let whole : ts ≡ directive_spelling expression_spelling d.0 ++ r.0.1 = run_is ts r.0 r.1
      ∙ ap (λ (w : List Token). w ++ r.0.1) (sym s.0) in
      let read : IsRead (directive_spelling expression_spelling) (IsWholeLine l) ts (d.0, r.0.1) = record
      { parts = whole; formed = s.1 } in
      subst (IsRead (directive_spelling expression_spelling) (IsWholeLine l) ts) (ok_is (d.0, r.0.1) x d.2) read
  | inr r ↦ absurd cc
]
  where
    go : (run : List Token) → EndsOnce run → (o : Outcome (Directive (List Token))) → directive_at run ≡ o
        → (y : Directive ExpressionTree) → line_of l run o ≡ ok y → (directive_spelling expression_spelling y ≡ run)
        × IsWholeLine l y
    go run once (Ok d) is y h =
        let g = run_directive is_read run once d is in
        let s = with_value_sound few l one run d g.formed y h in
        (s.0 ∙ g.spelled, s.1)
    go run once (Err f) is y h = absurd (sooner_fails l run f y h)

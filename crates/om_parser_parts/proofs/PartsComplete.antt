-- What the parts of statements spell is read again, within the limits.
use Rattle.std.proofs.Common.{◌≡◌, ℕ, ◌+◌, ◌-◌, ◌<◌, ◌≤◌, List, [], ◌∷◌, ◌++◌, sym, subst, arith, append_assoc, inl}
use Rattle.std.proofs.Common.{inr, All}
use Rattle.std.proofs.lemmas.List.Elements.{All-nil, All-cons}
use Rattle.om_lexer.specs.declared.token.Punctuator.{Punctuator}
use Rattle.om_lexer.specs.declared.token.Span.{Span}
use Rattle.om_lexer.specs.declared.token.Token.{Token}
use Rattle.om_parser_parts.specs.DeclarationReading.{declared_at}
use Rattle.om_parser_parts.specs.ExpressionReading.{whole_at}
use Rattle.om_parser_tree.specs.Formed.{IsExpression}
use Rattle.om_parser_tree.specs.Limits.{Limits, nesting, expressions_of_declaration}
use Rattle.om_parser_parts.specs.PartReading.{parts}
use Rattle.om_parser_tree.specs.Sizes.{most, extent}
use Rattle.om_parser_tree.specs.Spelling.{mark, name, expression_spelling, declarator_spelling}
use Rattle.om_parser_tree.specs.Tree.{ExpressionTree, DeclarationTree}
use Rattle.om_parser_parts.proofs.LineComplete.{line_again}
use Rattle.om_parser_parts.specs.Laws.{IsAnswer, Keeps, KeepsDeclaration, IsEnd, IsExpressionAgain, declaration_tail}
use Rattle.om_parser_parts.specs.Laws.{IsDeclarationAgain, PartsAreReadAgain}
use Rattle.om_parser_parts.proofs.LineAnswers.{OnlyOne, IsReading, HasOneExpression}
use Rattle.om_parser_parts.specs.Again.{narrower}
use Rattle.om_parser_parts.proofs.ExpressionComplete.{whole_again}
use Rattle.om_parser_parts.proofs.ExpressionTokens.{following}
use Rattle.om_parser_parts.proofs.DeclarationComplete.{EndsDeclarator, EndsBySemicolon, EndsByComma, declaration_rest}
use Rattle.om_parser_parts.proofs.DeclarationComplete.{declared_again}

-- no token that may follow a whole expression goes on with it
ends : (q : Punctuator) (s : Span) (rest : List Token) → IsEnd q → following (mark q s ∷ rest) < 1
ends q s rest (inl is) = subst (λ p. following (mark p s ∷ rest) < 1) (sym is) (omega arith)
ends q s rest (inr is) = subst (λ p. following (mark p s ∷ rest) < 1) (sym is) (omega arith)

ends_declarator : (rest : List Token) → EndsDeclarator rest → following rest < 1
ends_declarator _ (EndsBySemicolon s us) = omega arith
ends_declarator _ (EndsByComma s us) = omega arith

module _ (l : Limits) (room round : ℕ) (sum : room + round ≡ l.nested) where
  -- an expression is read again before tokens that do not go on with it
  again : (e : ExpressionTree) (rest : List Token) → IsExpression e → following rest < 1
      → IsAnswer (Keeps l round e) (whole_at l room (expression_spelling e ++ rest)) (e, rest)
  again e rest f lt = narrower (whole_at l room (expression_spelling e ++ rest)) (e, rest)
      (λ w. (omega (arith, w.nested, sum), w.long)) (whole_again l room e rest f lt)

  pub expression_again : IsExpressionAgain l round (whole_at l room)
  expression_again e q s rest is f = again e (mark q s ∷ rest) f (ends q s rest is)

  initial_again : (e : ExpressionTree) (rest : List Token) → IsExpression e → EndsDeclarator rest
      → IsAnswer (Keeps l round e) (whole_at l room (expression_spelling e ++ rest)) (e, rest)
  initial_again e rest f end = again e rest f (ends_declarator rest end)

  keep_all : (es : List ExpressionTree) → most nesting es + round ≤ l.nested → most extent es ≤ l.tokens
      → All (Keeps l round) es
  keep_all [] nested long = All-nil (Keeps l round)
  keep_all (e ∷ es) nested long = All-cons (Keeps l round) e es
      (record { nested = omega (arith, nested); long = omega (arith, long) }) (keep_all es (omega (arith, nested))
      (omega (arith, long)))

  tail_is : (d : DeclarationTree ExpressionTree) (rest : List Token) → name d.first.name
      ∷ declaration_rest expression_spelling d rest
      ≡ declaration_tail d ++ rest
  unfolding declaration_rest declarator_spelling
  tail_is d rest = simp append_assoc

  pub local_again : IsDeclarationAgain l round (declared_at (whole_at l room))
  local_again d rest f = subst (λ us. IsAnswer (KeepsDeclaration l round d)
      (declared_at (whole_at l room) d.int us) (d, rest)) (tail_is d rest)
      (narrower (declared_at (whole_at l room) d.int (name d.first.name
      ∷ declaration_rest expression_spelling d rest)) (d, rest)
      (λ w. keep_all (expressions_of_declaration d) w.nested w.long)
      (declared_again expression_spelling IsExpression (Keeps l round) (whole_at l room) initial_again d rest f))

-- what an enclosed part keeps, it keeps with one parenthesis of room at least
pub parts_again : OnlyOne → IsReading → HasOneExpression → PartsAreReadAgain
unfolding parts
parts_again only is_read few l one = record {
  expression = expression_again l l.nested 0 (omega arith);
  enclosed = expression_again l (l.nested - 1) 1 (omega (arith, one));
  declaration = local_again l l.nested 0 (omega arith);
  enclosed_declaration = local_again l (l.nested - 1) 1 (omega (arith, one));
  line = line_again only is_read few l one;
}

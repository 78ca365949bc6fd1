-- Reading the operators before an operand one by one, as a loop does.
use Rattle.std.proofs.Common.{◌≡◌, ℕ, zero, suc, ◌<◌, ◌≤◌, List, [], ◌∷◌, ◌++◌, length, None, Ok, Err, refl, sym, ap}
use Rattle.std.proofs.Common.{subst, ◌∙◌, arith, true, false}
use Rattle.std.specs.Prelude.{nat_le}
use Rattle.om_lexer.specs.declared.token.Span.{Span}
use Rattle.om_lexer.specs.declared.token.Token.{Token}
use Rattle.om_parser_tree.specs.declared.tree.PrefixOperator.{PrefixOperator}
use Rattle.om_parser_parts.specs.ExpressionReading.{within, prefix_of, take_operator, unary_step, unary_at, operand_at}
use Rattle.om_parser_parts.specs.ExpressionReading.{postfix_at, prefixed, behind}
use Rattle.om_parser_parts.specs.Reading.{Outcome, syntax, too_deep}
use Rattle.om_parser_tree.specs.Tree.{ExpressionTree, Prefix}
use Rattle.om_parser_tree.specs.Spelling.{prefix_mark}
use Rattle.om_parser_parts.specs.Outcomes.{some}
use Rattle.om_parser_parts.proofs.ExpressionSound.{prefix_is, take_operator_is}

-- the last operator is the innermost
prefixed_last : (os : List (PrefixOperator × Span)) (o : PrefixOperator × Span) (e : ExpressionTree)
    → prefixed (os ++ o ∷ []) e ≡ prefixed os (Prefix o.0 o.1 e)
prefixed_last [] o e = refl
prefixed_last (p ∷ os) o e = ap (λ (x : ExpressionTree). Prefix p.0 p.1 x) (prefixed_last os o e)

-- the last one is put before the operand, and the others round it
pub prefixed_inwards : (os left : List (PrefixOperator × Span)) (o : PrefixOperator × Span) (e : ExpressionTree)
    (whole : ExpressionTree) → os ≡ left ++ o ∷ [] → prefixed os e ≡ whole → prefixed left (Prefix o.0 o.1 e) ≡ whole
prefixed_inwards os left o e whole parts is = sym (prefixed_last left o e)
    ∙ ap (λ (x : List (PrefixOperator × Span)). prefixed x e) (sym parts) ∙ is

behind_last : (os : List (PrefixOperator × Span)) (o : PrefixOperator × Span)
    (read : Outcome (ExpressionTree × List Token)) → behind os (behind (o ∷ []) read) ≡ behind (os ++ o ∷ []) read
behind_last os o (Ok x) = rw (prefixed_last os o x.0) refl
behind_last os o (Err f) = refl

-- what is still to be read, behind the operators so far, makes the whole
abbrev pub GoesOnBehind : (beyond turns : ℕ) → List Token → List (PrefixOperator × Span) → (left : ℕ) → List Token
    → Type 0
GoesOnBehind beyond turns ts os left us = (left ≤ turns) × ((room : ℕ) → operand_at beyond turns room ts
    ≡ behind os (operand_at beyond left room us))

module _ (beyond turns : ℕ) (ts : List Token) (os : List (PrefixOperator × Span)) (us : List Token) where
  pub run_ends : (left : ℕ) → take_operator prefix_of us ≡ None → GoesOnBehind beyond turns ts os left us
      → (room : ℕ) → operand_at beyond turns room ts ≡ behind os (postfix_at beyond left room us)
  unfolding unary_step
  run_ends left none goes room = goes.1 room ∙ rw none refl

  module _ (o : PrefixOperator) (s : Span) (vs : List Token) (taken : take_operator prefix_of us
      ≡ some ((o, s), vs)) where
    pub run_over : (left : ℕ) → nat_le beyond (length vs) ≡ false → GoesOnBehind beyond turns ts os left us
        → (room : ℕ) → operand_at beyond turns room ts ≡ Err (too_deep s)
    unfolding unary_step within
    run_over left over goes room = goes.1 room ∙ rw (taken, over) refl

    pub run_lasts : (left : ℕ) → left ≡ 0 → nat_le beyond (length vs) ≡ true → GoesOnBehind beyond turns ts os left
        us → (room : ℕ) → operand_at beyond turns room ts ≡ Err (syntax vs)
    unfolding unary_step unary_at within
    run_lasts zero none inside goes room = goes.1 room ∙ rw (taken, inside) refl
    run_lasts (suc left) none inside goes room = absurd (omega arith)

    pub run_goes_on : (left fewer : ℕ) → left ≡ suc fewer → nat_le beyond (length vs) ≡ true → GoesOnBehind beyond
        turns ts os left us → GoesOnBehind beyond turns ts (os ++ (o, s) ∷ []) fewer vs
    unfolding unary_step unary_at within
    run_goes_on left fewer more inside goes =
        let begun = subst (λ (n : ℕ). GoesOnBehind beyond turns ts os n us) more goes in (
          omega (arith, begun.0),
          λ room. begun.1 room ∙ rw (taken, inside)
              (behind_last os (o, s) (operand_at beyond fewer room vs)),
        )

-- an operator that is taken leaves fewer tokens
pub prefix_shorter : (ts : List Token) (o : PrefixOperator) (s : Span) (us : List Token) → take_operator prefix_of
    ts ≡ some ((o, s), us) → length us < length ts
prefix_shorter ts o s us e = let is = ap length (take_operator_is prefix_of prefix_mark prefix_is ts ((o, s), us)
    e) in omega (arith, is)

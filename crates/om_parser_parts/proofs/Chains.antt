-- Reading what goes on with a tree step by step, as a loop does.
use Rattle.std.proofs.Common.{◌≡◌, ℕ, zero, suc, ◌<◌, ◌≤◌, ◌+◌, ◌-◌, List, length, Option, Some, None, Ok, Err, ◌⊎◌}
use Rattle.std.proofs.Common.{inl, inr, refl, sym, ap, subst, ◌∙◌, arith, length-append, true, false}
use Rattle.std.proofs.Math.Nat.{le-suc_iff}
use Rattle.std.specs.Prelude.{nat_le, Bool}
use Rattle.om_lexer.specs.declared.fault.SourceFault.{SourceFault}
use Rattle.om_lexer.specs.Faults.{no_memory}
use Rattle.om_lexer.specs.declared.token.Punctuator.TheVariants.{Comma}
use Rattle.om_lexer.specs.declared.token.Span.{Span}
use Rattle.om_lexer.specs.declared.token.Token.{Token}
use Rattle.om_parser_parts.specs.declared.expression.TheConstants.{LEVELS}
use Rattle.om_parser_tree.specs.declared.tree.BinaryOperator.{BinaryOperator}
use Rattle.om_parser_tree.specs.declared.tree.PostfixOperator.{PostfixOperator}
use Rattle.om_parser_parts.specs.ExpressionReading.{within, postfix_of, level_operator, take_operator, More, chain_at}
use Rattle.om_parser_parts.specs.ExpressionReading.{postfix_more, binary_more, binary_at, argument_at, expression_at}
use Rattle.om_parser_parts.specs.ExpressionReading.{expression_step, expression_after, operand_at}
use Rattle.om_parser_parts.specs.Reading.{Outcome, Reader, too_deep, mark_at}
use Rattle.om_parser_tree.specs.Tree.{ExpressionTree, Postfix, Binary}
use Rattle.om_parser_tree.specs.Spelling.{postfix_mark, expression_spelling}
use Rattle.om_parser_parts.specs.Outcomes.{ok, ok_is, some, bind_ok, choose_cases}
use Rattle.om_parser_parts.specs.Taken.{mark_at_is}
use Rattle.om_parser_parts.proofs.ExpressionSound.{within_ok, option_map_is, postfix_is, take_operator_is, take_level_is}
use Rattle.om_parser_parts.proofs.ExpressionSound.{operand_sound, all_sound}

-- what is still to be read makes the whole
abbrev pub GoesOn : More → ExpressionTree → List Token → Outcome (ExpressionTree × List Token) → Type 0
GoesOn more a ts total = (n : ℕ) × (length ts ≤ n) × (chain_at more n a ts ≡ total)

module _ (more : More) (a : ExpressionTree) (ts : List Token) (total : Outcome (ExpressionTree × List Token)) where
  pub chain_ends : more a ts ≡ None → GoesOn more a ts total → total ≡ Ok (a, ts)
  unfolding chain_at
  chain_ends none (zero, le, e) = sym e
  chain_ends none (suc n, le, e) = sym e ∙ rw none refl

  pub chain_stops : (f : SourceFault) → more a ts ≡ some (Err f) → 0 < length ts → GoesOn more a ts total → total
      ≡ Err f
  unfolding chain_at
  chain_stops f stops lt (zero, le, e) = absurd (omega arith)
  chain_stops f stops lt (suc n, le, e) = sym e ∙ rw stops refl

  pub chain_goes_on : (b : ExpressionTree) (us : List Token) → more a ts ≡ some (ok (b, us)) → length us < length ts
      → GoesOn more a ts total → GoesOn more b us total
  unfolding chain_at
  chain_goes_on b us goes lt (zero, le, e) = absurd (omega arith)
  chain_goes_on b us goes lt (suc n, le, e) = (n, omega arith, rw goes at e)

module _ (beyond : ℕ) (a : ExpressionTree) (ts : List Token) where
  pub no_postfix : take_operator postfix_of ts ≡ None → postfix_more beyond a ts ≡ None
  unfolding postfix_more
  no_postfix none = rw none refl

  module _ (o : PostfixOperator) (s : Span) (us : List Token) (taken : take_operator postfix_of ts
      ≡ some ((o, s), us)) where
    pub postfix_over : nat_le beyond (length us) ≡ false → postfix_more beyond a ts ≡ some (Err (too_deep s))
    unfolding postfix_more within
    postfix_over over = rw (taken, over) refl

    pub postfix_on : nat_le beyond (length us) ≡ true → postfix_more beyond a ts ≡ some (ok (Postfix a o s, us))
    unfolding postfix_more within
    postfix_on inside = rw (taken, inside) refl

module _ (beyond m : ℕ) (operand : Reader ExpressionTree) (a : ExpressionTree) (ts : List Token) where
  pub no_binary : take_operator (level_operator m) ts ≡ None → binary_more beyond m operand a ts ≡ None
  unfolding binary_more
  no_binary none = rw none refl

  module _ (o : BinaryOperator) (s : Span) (us : List Token) (taken : take_operator (level_operator m) ts
      ≡ some ((o, s), us)) where
    pub binary_over : nat_le beyond (length us) ≡ false → binary_more beyond m operand a ts ≡ some (Err (too_deep s))
    unfolding binary_more within
    binary_over over = rw (taken, over) refl

    pub binary_fails : (f : SourceFault) → nat_le beyond (length us) ≡ true → operand us ≡ Err f
        → binary_more beyond m operand a ts ≡ some (Err f)
    unfolding binary_more within
    binary_fails f inside fails = rw (taken, inside, fails) refl

    pub binary_on : (b : ExpressionTree) (vs : List Token) → nat_le beyond (length us) ≡ true → operand us
        ≡ Ok (b, vs) → binary_more beyond m operand a ts ≡ some (ok (Binary a o s b, vs))
    unfolding binary_more within
    binary_on b vs inside reads = rw (taken, inside, reads) refl

-- an operator that is taken leaves fewer tokens
pub postfix_shorter : (ts : List Token) (o : PostfixOperator) (s : Span) (us : List Token)
    → take_operator postfix_of ts ≡ some ((o, s), us) → length us < length ts
postfix_shorter ts o s us e = let is = ap length (take_operator_is postfix_of postfix_mark postfix_is ts
    ((o, s), us) e) in omega (arith, is)

pub binary_shorter : (m : ℕ) (ts : List Token) (o : BinaryOperator) (s : Span) (us : List Token)
    → take_operator (level_operator m) ts ≡ some ((o, s), us) → length us < length ts
binary_shorter m ts o s us e = let is = ap length (take_level_is m ts ((o, s), us) e).0 in omega (arith, is)

-- ---- no reader gives back more tokens than it got

chain_shrinks : (more : More) → ((a : ExpressionTree) (ts : List Token) (b : ExpressionTree × List Token)
    → more a ts ≡ some (ok b) → length b.1 ≤ length ts) → (k : ℕ) (a : ExpressionTree) (ts : List Token)
    (x : ExpressionTree × List Token) → chain_at more k a ts ≡ ok x → length x.1 ≤ length ts
unfolding chain_at
chain_shrinks more step zero a ts x h = let same = ap (λ (y : ExpressionTree × List Token). length y.1)
    (ok_is (a, ts) x h) in omega (arith, same)
chain_shrinks more step (suc k) a ts x h = elim (choose_cases (more a ts) _ _ (ok x) h) [
  | inr g ↦ let same = ap (λ (y : ExpressionTree × List Token). length y.1) (ok_is (a, ts) x g.1) in omega (arith, same)
  | inl r ↦
      let b = bind_ok r.0 _ x r.2 in
      let one = step a ts b.0 (r.1 ∙ ap some b.1) in
      let rest = chain_shrinks more step k b.0.0 b.0.1 x b.2 in
      omega (arith, one, rest)
]

binary_more_shrinks : (beyond m : ℕ) (operand : Reader ExpressionTree)
    → ((ts : List Token) (x : ExpressionTree × List Token) → operand ts ≡ ok x → length x.1 ≤ length ts)
    → (a : ExpressionTree) (us : List Token) (b : ExpressionTree × List Token) → binary_more beyond m operand a us
    ≡ some (ok b) → length b.1 ≤ length us
unfolding binary_more
binary_more_shrinks beyond m operand h a us b more =
    let o = option_map_is _ (take_operator (level_operator m) us) (ok b) more in
    let w = within_ok beyond o.0.0.1 o.0.1 _ b o.2 in
    let r = bind_ok (operand o.0.1) _ b w.1 in
    let same = ap (λ (y : ExpressionTree × List Token). length y.1) (ok_is (Binary a o.0.0.0 o.0.0.1 r.0.0, r.0.1) b
    r.2) in
    let is = ap length (take_level_is m us o.0 o.1).0 in
    let inner = h o.0.1 r.0 r.1 in
    omega (arith, same, is, inner)

binary_shrinks : (beyond : ℕ) (unary : Reader ExpressionTree) → ((ts : List Token) (x : ExpressionTree × List Token)
    → unary ts ≡ ok x → length x.1 ≤ length ts) → (k : ℕ) (ts : List Token) (x : ExpressionTree × List Token)
    → binary_at beyond unary k ts ≡ ok x → length x.1 ≤ length ts
unfolding binary_at
binary_shrinks beyond unary h zero ts x e = h ts x e
binary_shrinks beyond unary h (suc k) ts x e =
    let a = bind_ok (binary_at beyond unary k ts) _ x e in
    let first = binary_shrinks beyond unary h k ts a.0 a.1 in
    let rest = chain_shrinks (binary_more beyond (8 - k) (binary_at beyond unary k))
    (binary_more_shrinks beyond (8 - k) (binary_at beyond unary k) (binary_shrinks beyond unary h k))
    (length a.0.1) a.0.0 a.0.1 x a.2 in
    omega (arith, first, rest)

pub operand_shorter : (beyond turns room k : ℕ) (us : List Token) (b : ExpressionTree) (vs : List Token)
    → binary_at beyond (operand_at beyond turns room) k us ≡ Ok (b, vs) → length vs ≤ length us
operand_shorter beyond turns room k us b vs e = binary_shrinks beyond (operand_at beyond turns room)
    (λ ts x h. let r = operand_sound beyond turns room ts x h in omega (
      arith,
      ap length r.parts,
      length-append
          (expression_spelling x.0) x.1,
    )) k us (b, vs) e

pub argument_shorter : (beyond turns room : ℕ) (ts : List Token) (a : Option Span × ExpressionTree)
    (us : List Token) → argument_at beyond (expression_at beyond turns true room) ts ≡ Ok (a, us)
    → length us < length ts
unfolding argument_at
argument_shorter beyond turns room ts a us h =
    let c = bind_ok (mark_at Comma ts) _ (a, us) h in
    let w = within_ok beyond c.0.0 c.0.1 _ (a, us) c.2 in
    let e = bind_ok (expression_at beyond turns true room c.0.1) _ (a, us) w.1 in
    let r = (all_sound beyond turns room).any true c.0.1 e.0 e.1 in
    let same = ap (λ (y : (Option Span × ExpressionTree) × List Token). length y.1)
    (ok_is ((Some c.0.0, e.0.0), e.0.1) (a, us) e.2) in
    omega (
      arith,
      ap length (mark_at_is Comma ts c.0 c.1),
      ap length r.parts,
      length-append
          (expression_spelling e.0.0) e.0.1,
      same,
    )

-- what stops a part stops the whole, or memory ran out
pub fails_or : {A B : Type 0} {part : Outcome A} {whole : Outcome B} (f : SourceFault) → (f ≡ no_memory)
    ⊎ (part ≡ Err f) → (part ≡ Err f → whole ≡ Err f) → (f ≡ no_memory) ⊎ (whole ≡ Err f)
fails_or f (inl memory) go = inl memory
fails_or f (inr fails) go = inr (go fails)

-- ---- operators of one level after those of another

-- what stops the operands of some levels stops those of all
pub binary_stops : (beyond : ℕ) (unary : Reader ExpressionTree) (ts : List Token) (f : SourceFault) (k m : ℕ)
    → k ≤ m → binary_at beyond unary k ts ≡ Err f → binary_at beyond unary m ts ≡ Err f
unfolding binary_at
binary_stops beyond unary ts f k zero le e = let same : k ≡ 0 = omega (arith, le) in subst
    (λ (n : ℕ). binary_at beyond unary n ts ≡ Err f) same e
binary_stops beyond unary ts f k (suc m) le e = elim (le-suc_iff.0 le) [
  | inl less ↦ rw (binary_stops beyond unary ts f k m less e) refl
  | inr same ↦ subst (λ (n : ℕ). binary_at beyond unary n ts ≡ Err f) same e
]

module _ (beyond : ℕ) (unary : Reader ExpressionTree) (ts : List Token) (k : ℕ) (a : ExpressionTree)
    (us : List Token) (reads : binary_at beyond unary k ts ≡ Ok (a, us)) where
  pub level_stops : (f : SourceFault) (m : ℕ) → k < m
      → chain_at (binary_more beyond (8 - k) (binary_at beyond unary k)) (length us) a us ≡ Err f → binary_at beyond
      unary m ts ≡ Err f
  unfolding binary_at
  level_stops f m lt stops = binary_stops beyond unary ts f (suc k) m lt (rw (reads, stops) refl)

  pub level_ends : (b : ExpressionTree) (vs : List Token)
      → chain_at (binary_more beyond (8 - k) (binary_at beyond unary k)) (length us) a us ≡ Ok (b, vs)
      → binary_at beyond unary (k + 1) ts ≡ Ok (b, vs)
  unfolding binary_at
  level_ends b vs ends =
      let next : binary_at beyond unary (suc k) ts ≡ Ok (b, vs) = rw (reads, ends) refl in
      let same : suc k ≡ k + 1 = omega arith in
      subst (λ (n : ℕ). binary_at beyond unary n ts ≡ Ok (b, vs)) same next

-- an expression of which the operands are read
pub turn_goes_on : (beyond turns fewer room : ℕ) (may_assign : Bool) (ts : List Token) (a : ExpressionTree)
    (us : List Token) → turns ≡ suc fewer → binary_at beyond (operand_at beyond fewer room) LEVELS ts ≡ Ok (a, us)
    → expression_at beyond turns may_assign room ts ≡ expression_after beyond may_assign
    (expression_at beyond fewer true room) (expression_at beyond fewer false room) a us
unfolding expression_at expression_step
turn_goes_on beyond turns fewer room may_assign ts a us taken reads = subst (λ (n : ℕ). expression_at beyond n
    may_assign room ts ≡ expression_after beyond may_assign (expression_at beyond fewer true room)
    (expression_at beyond fewer false room) a us) (sym taken) (rw reads refl)

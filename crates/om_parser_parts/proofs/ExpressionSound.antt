-- An expression that is read is well-formed, within the limits, and spelled as the tokens were.
use Rattle.std.proofs.Common.{◌≡◌, ℕ, zero, suc, ◌-◌, ◌≤◌, List, [], ◌∷◌, ◌++◌, length, Option, Some, None, Err, refl, sym, ap, subst, ◌∙◌, Bool, true, false, cond, ◌&&◌, arith, append_assoc, length-append, ◌⊎◌, inl, inr, All, option_map}
use Rattle.std.proofs.lemmas.Bool.{leb-true, eqb-true}
use Rattle.std.proofs.lemmas.List.Elements.{All-head, All-tail}
use Rattle.std.proofs.lemmas.Slice.Eq.{bytes_eq-Decides}
use Rattle.std.specs.List.{flat_map}
use Rattle.std.specs.Prelude.{nat_le, nat_eq, bytes_eq, codes}
use Rattle.om_lexer.specs.declared.token.Punctuator.{Punctuator}
use Rattle.om_lexer.specs.declared.token.Punctuator.TheVariants as punctuators
use Rattle.om_lexer.specs.declared.token.Span.{Span}
use Rattle.om_lexer.specs.declared.token.Token.{Token}
use Rattle.om_lexer.specs.declared.token.TokenKind.{TokenKind}
use Rattle.om_lexer.specs.declared.token.TokenKind.TheVariants as kinds
use Rattle.om_pragma.specs.declared.clause.Name as names
use Rattle.om_parser_tree.specs.declared.tree.AssignOperator.{AssignOperator}
use Rattle.om_parser_tree.specs.declared.tree.BinaryOperator.{BinaryOperator}
use Rattle.om_parser_tree.specs.declared.tree.PostfixOperator.{PostfixOperator}
use Rattle.om_parser_tree.specs.declared.tree.PrefixOperator.{PrefixOperator}
use Rattle.om_parser_tree.specs.declared.tree.Text as texts
use Rattle.om_parser_parts.specs.ExpressionReading.{within, prefix_of, postfix_of, binary_of, assign_of, of_level, level_operator, take_operator, take_assign, text_of, take_text, Inside, enter, closed_by, paren_after, index_after, first_at, argument_at, arguments_at, arguments_after, call_after, named_after, primary_step, More, chain_at, postfix_more, binary_more, postfix_step, unary_step, binary_at, conditional_after, expression_after, expression_step, deeper, unary_at, expression_at, operand_at, whole_at}
use Rattle.om_parser_tree.specs.Formed.{level, binary_level, IsExpression, AreFurther, IsTextOf}
use Rattle.om_parser_tree.specs.Limits.{Limits, nesting, arguments_nesting}
use Rattle.om_parser_parts.specs.Reading.{◌>>=◌, Outcome, Reader, choose, take, too_deep, take_mark, take_number, mark_at, name_at}
use Rattle.om_parser_parts.specs.Repetition.{until}
use Rattle.om_parser_tree.specs.Spelling.{token, mark, name, text, perhaps, prefix_mark, postfix_mark, binary_mark, assign_mark, expression_spelling, arguments_spelling}
use Rattle.om_parser_tree.specs.Tree.{ExpressionTree, Name, Constant, Text, Paren, Index, Call, Prefix, Postfix, Binary, Conditional, Assign, NoArguments, Argument, arguments}
use Rattle.om_parser_parts.specs.Outcomes.{ok, ok_is, some, some_is, bind_ok, choose_cases, after_front, after_token, cond_some}
use Rattle.om_parser_parts.specs.Taken.{take_is, take_mark_is, take_number_is, mark_at_is, name_at_is}
use Rattle.om_parser_parts.specs.Laws.{IsRead, IsSound}
use Rattle.om_parser_parts.specs.ItemsSound.{until_sound}

-- an expression that stands at the front, binds at least so tightly, and keeps the limits
pub record IsExpressionRead (m beyond room : ℕ) (ts : List Token) (x : ExpressionTree × List Token) : Type 0 where
  pub parts : ts ≡ expression_spelling x.0 ++ x.1
  pub formed : IsExpression x.0
  pub tight : m ≤ level x.0
  pub nested : nesting x.0 ≤ room
  pub left : beyond ≤ length x.1

abbrev pub IsExpressionSound : (m beyond room : ℕ) → Reader ExpressionTree → Type 0
IsExpressionSound m beyond room r = (ts : List Token) (x : ExpressionTree × List Token) → r ts ≡ ok x → IsExpressionRead m beyond room ts x

pub looser : (m n beyond room : ℕ) (ts : List Token) (x : ExpressionTree × List Token) → n ≤ m → IsExpressionRead m beyond room ts x → IsExpressionRead n beyond room ts x
looser m n beyond room ts x le r = record { parts = r.parts; formed = r.formed; tight = omega (arith, r.tight); nested = r.nested; left = r.left }

pub within_ok : {A : Type 0} (beyond : ℕ) (s : Span) (rest : List Token) (r : Outcome A) (x : A) → within beyond s rest r ≡ ok x → (beyond ≤ length rest) × (r ≡ ok x)
unfolding within
within_ok beyond s rest r x e = go (nat_le beyond (length rest)) refl e
  where
    go : (b : Bool) → nat_le beyond (length rest) ≡ b → cond b r (Err (too_deep s)) ≡ ok x → (beyond ≤ length rest) × (r ≡ ok x)
    go true is h = (leb-true _ _ is, h)
    go false is h = absurd cc

pub option_map_is : {A B : Type 0} (f : A → B) (o : Option A) (y : B) → option_map f o ≡ some y → (x : A) × (o ≡ some x) × (f x ≡ y)
option_map_is f (Some x) y e = (x, refl, some_is (f x) y e)
option_map_is f None y e = absurd cc

-- ---- operators

pub prefix_is : (k : TokenKind) (o : PrefixOperator) → prefix_of k ≡ some o → k ≡ kinds.Punctuator (prefix_mark o)
prefix_is (kinds.Punctuator punctuators.Plus) o e = ap (λ p. kinds.Punctuator (prefix_mark p)) (some_is _ o e)
prefix_is (kinds.Punctuator punctuators.Minus) o e = ap (λ p. kinds.Punctuator (prefix_mark p)) (some_is _ o e)
prefix_is (kinds.Punctuator punctuators.Bang) o e = ap (λ p. kinds.Punctuator (prefix_mark p)) (some_is _ o e)
prefix_is (kinds.Punctuator punctuators.PlusPlus) o e = ap (λ p. kinds.Punctuator (prefix_mark p)) (some_is _ o e)
prefix_is (kinds.Punctuator punctuators.MinusMinus) o e = ap (λ p. kinds.Punctuator (prefix_mark p)) (some_is _ o e)
prefix_is _ o e = absurd cc

pub postfix_is : (k : TokenKind) (o : PostfixOperator) → postfix_of k ≡ some o → k ≡ kinds.Punctuator (postfix_mark o)
postfix_is (kinds.Punctuator punctuators.PlusPlus) o e = ap (λ p. kinds.Punctuator (postfix_mark p)) (some_is _ o e)
postfix_is (kinds.Punctuator punctuators.MinusMinus) o e = ap (λ p. kinds.Punctuator (postfix_mark p)) (some_is _ o e)
postfix_is _ o e = absurd cc

pub binary_is : (k : TokenKind) (o : BinaryOperator) → binary_of k ≡ some o → k ≡ kinds.Punctuator (binary_mark o)
binary_is (kinds.Punctuator punctuators.OrOr) o e = ap (λ p. kinds.Punctuator (binary_mark p)) (some_is _ o e)
binary_is (kinds.Punctuator punctuators.AndAnd) o e = ap (λ p. kinds.Punctuator (binary_mark p)) (some_is _ o e)
binary_is (kinds.Punctuator punctuators.EqualEqual) o e = ap (λ p. kinds.Punctuator (binary_mark p)) (some_is _ o e)
binary_is (kinds.Punctuator punctuators.BangEqual) o e = ap (λ p. kinds.Punctuator (binary_mark p)) (some_is _ o e)
binary_is (kinds.Punctuator punctuators.Less) o e = ap (λ p. kinds.Punctuator (binary_mark p)) (some_is _ o e)
binary_is (kinds.Punctuator punctuators.Greater) o e = ap (λ p. kinds.Punctuator (binary_mark p)) (some_is _ o e)
binary_is (kinds.Punctuator punctuators.LessEqual) o e = ap (λ p. kinds.Punctuator (binary_mark p)) (some_is _ o e)
binary_is (kinds.Punctuator punctuators.GreaterEqual) o e = ap (λ p. kinds.Punctuator (binary_mark p)) (some_is _ o e)
binary_is (kinds.Punctuator punctuators.Plus) o e = ap (λ p. kinds.Punctuator (binary_mark p)) (some_is _ o e)
binary_is (kinds.Punctuator punctuators.Minus) o e = ap (λ p. kinds.Punctuator (binary_mark p)) (some_is _ o e)
binary_is (kinds.Punctuator punctuators.Star) o e = ap (λ p. kinds.Punctuator (binary_mark p)) (some_is _ o e)
binary_is (kinds.Punctuator punctuators.Slash) o e = ap (λ p. kinds.Punctuator (binary_mark p)) (some_is _ o e)
binary_is (kinds.Punctuator punctuators.Percent) o e = ap (λ p. kinds.Punctuator (binary_mark p)) (some_is _ o e)
binary_is _ o e = absurd cc

pub assign_is : (k : TokenKind) (o : AssignOperator) → assign_of k ≡ some o → k ≡ kinds.Punctuator (assign_mark o)
assign_is (kinds.Punctuator punctuators.Equal) o e = ap (λ p. kinds.Punctuator (assign_mark p)) (some_is _ o e)
assign_is (kinds.Punctuator punctuators.PlusEqual) o e = ap (λ p. kinds.Punctuator (assign_mark p)) (some_is _ o e)
assign_is (kinds.Punctuator punctuators.MinusEqual) o e = ap (λ p. kinds.Punctuator (assign_mark p)) (some_is _ o e)
assign_is (kinds.Punctuator punctuators.StarEqual) o e = ap (λ p. kinds.Punctuator (assign_mark p)) (some_is _ o e)
assign_is (kinds.Punctuator punctuators.SlashEqual) o e = ap (λ p. kinds.Punctuator (assign_mark p)) (some_is _ o e)
assign_is (kinds.Punctuator punctuators.PercentEqual) o e = ap (λ p. kinds.Punctuator (assign_mark p)) (some_is _ o e)
assign_is _ o e = absurd cc

level_is : (m : ℕ) (found : Option BinaryOperator) (o : BinaryOperator) → of_level m found ≡ some o → (found ≡ some o) × (binary_level o ≡ m)
level_is m None o e = absurd cc
level_is m (Some p) o e =
    let g = cond_some (nat_eq (binary_level p) m) p o e in
    (ap some g.1, sym (ap binary_level g.1) ∙ eqb-true _ _ g.0)

pub take_operator_is : {O : Type 0} (f : TokenKind → Option O) (spell : O → Punctuator) → ((k : TokenKind) (o : O) → f k ≡ some o → k ≡ kinds.Punctuator (spell o)) → (ts : List Token) (x : (O × Span) × List Token) → take_operator f ts ≡ some x → ts ≡ mark (spell x.0.0) x.0.1 ∷ x.1
unfolding take_operator
take_operator_is f spell is ts x e =
    let t = take_is (λ t. choose (f t.kind) (λ o. Some (o, t.span)) None) ts x.0 x.1 e in
    elim (choose_cases (f t.0.kind) (λ o. some (o, t.0.span)) None (some x.0) t.2) [
      | inl o ↦ t.1 ∙ ap (λ k. token k t.0.span ∷ x.1) (is t.0.kind o.0 o.1) ∙ ap (λ y. mark (spell y.0) y.1 ∷ x.1) (some_is (o.0, t.0.span) x.0 o.2)
      | inr n ↦ absurd cc
    ]

-- a binary operator that is taken is of the level
pub take_level_is : (m : ℕ) (ts : List Token) (x : (BinaryOperator × Span) × List Token) → take_operator (level_operator m) ts ≡ some x → (ts ≡ mark (binary_mark x.0.0) x.0.1 ∷ x.1) × (binary_level x.0.0 ≡ m)
unfolding take_operator
take_level_is m ts x e = (take_operator_is (level_operator m) binary_mark (λ k o h. binary_is k o (level_is m (binary_of k) o h).0) ts x e, found)
  where
    found : binary_level x.0.0 ≡ m
    found =
        let t = take_is (λ t. choose (level_operator m t.kind) (λ o. Some (o, t.span)) None) ts x.0 x.1 e in
        elim (choose_cases (level_operator m t.0.kind) (λ o. some (o, t.0.span)) None (some x.0) t.2) [
          | inl o ↦ ap (λ (y : BinaryOperator × Span). binary_level y.0) (sym (some_is (o.0, t.0.span) x.0 o.2)) ∙ (level_is m (binary_of t.0.kind) o.0 o.1).1
          | inr n ↦ absurd cc
        ]

pub take_assign_is : (may : Bool) (target : ExpressionTree) (ts : List Token) (x : (AssignOperator × Span) × List Token) → take_assign may target ts ≡ some x → (may ≡ true) × (9 ≤ level target) × (ts ≡ mark (assign_mark x.0.0) x.0.1 ∷ x.1)
unfolding take_assign
take_assign_is may target ts x e = go may (nat_le 9 (level target)) refl e
  where
    go : (b c : Bool) → nat_le 9 (level target) ≡ c → cond (b && c) (take_operator assign_of ts) None ≡ some x → (b ≡ true) × (9 ≤ level target) × (ts ≡ mark (assign_mark x.0.0) x.0.1 ∷ x.1)
    go true true is h = (refl, leb-true _ _ is, take_operator_is assign_of assign_mark assign_is ts x h)
    go true false is h = absurd cc
    go false c is h = absurd cc

text_is : (k : TokenKind) (s : Span) (t : texts.Text) → text_of k s ≡ some t → token k s ≡ text t
text_is (kinds.Text value) s t e = ap text (some_is _ t e)
text_is _ s t e = absurd cc

pub take_text_is : (n : names.Name) (ts : List Token) (x : texts.Text × List Token) → take_text n ts ≡ some x → (n.text ≡ codes "printf") × (ts ≡ text x.0 ∷ x.1)
unfolding take_text
take_text_is n ts x e = go (bytes_eq n.text (codes "printf")) (bytes_eq-Decides n.text (codes "printf")).0 e
  where
    go : (b : Bool) → (b ≡ true → n.text ≡ codes "printf") → cond b (take (λ t. text_of t.kind t.span) ts) None ≡ some x → (n.text ≡ codes "printf") × (ts ≡ text x.0 ∷ x.1)
    go true named h = let t = take_is (λ t. text_of t.kind t.span) ts x.0 x.1 h in (named refl, t.1 ∙ ap (λ u. u ∷ x.1) (text_is t.0.kind t.0.span x.0 t.2))
    go false named h = absurd cc

-- ---- what stands in brackets

-- the reader of what stands in a bracket is sound, with room for one bracket less
abbrev pub IsInsideSound : (beyond room : ℕ) → Inside → Type 0
IsInsideSound beyond room None = Unit {0}
IsInsideSound beyond room (Some whole) = (r : ℕ) × (room ≡ suc r) × IsExpressionSound 1 beyond r whole

pub enter_ok : {A : Type 0} (beyond room : ℕ) (inside : Inside) → IsInsideSound beyond room inside → (left : Span) (go : Reader ExpressionTree → Outcome A) (x : A) → enter inside left go ≡ ok x
    → (whole : Reader ExpressionTree) × (r : ℕ) × (room ≡ suc r) × IsExpressionSound 1 beyond r whole × (go whole ≡ ok x)
enter_ok beyond room None s left go x h = absurd cc
enter_ok beyond room (Some whole) s left go x h = (whole, s.0, s.1, s.2, h)

record IsClosed (beyond room : ℕ) (p : Punctuator) (ts : List Token) (x : (ExpressionTree × Span) × List Token) : Type 0 where
  pub parts : ts ≡ (expression_spelling x.0.0 ++ mark p x.0.1 ∷ []) ++ x.1
  pub formed : IsExpression x.0.0
  pub nested : nesting x.0.0 ≤ room
  pub left : beyond ≤ length x.1

-- an argument behind its comma
abbrev pub argument_spelling : Option Span × ExpressionTree → List Token
argument_spelling a = perhaps (λ at. mark punctuators.Comma at ∷ []) a.0 ++ expression_spelling a.1

abbrev pub IsFurther : Option Span × ExpressionTree → Type 0
IsFurther (Some comma, e) = IsExpression e
IsFurther (None, e) = ⊥

pub arguments_flat : (xs : List (Option Span × ExpressionTree)) → arguments_spelling (arguments xs) ≡ flat_map argument_spelling xs
unfolding arguments_spelling
arguments_flat [] = refl
arguments_flat (x ∷ xs) = ap (λ w. perhaps (λ at. mark punctuators.Comma at ∷ []) x.0 ++ expression_spelling x.1 ++ w) (arguments_flat xs) ∙ simp append_assoc

module _ (room : ℕ) where
  abbrev pub IsGoodArgument : Option Span × ExpressionTree → Type 0
  IsGoodArgument a = IsFurther a × (nesting a.1 ≤ room)

  pub arguments_good : (xs : List (Option Span × ExpressionTree)) → All IsGoodArgument xs → AreFurther (arguments xs) × (arguments_nesting (arguments xs) ≤ room)
  unfolding IsExpression
  arguments_good [] h = (tt, omega arith)
  arguments_good ((Some comma, e) ∷ xs) h =
      let first = All-head IsGoodArgument (Some comma, e) xs h in
      let rest = arguments_good xs (All-tail IsGoodArgument (Some comma, e) xs h) in
      ((first.0, rest.0), omega (arith, first.1, rest.1))
  arguments_good ((None, e) ∷ xs) h = absurd (All-head IsGoodArgument (None, e) xs h).0

module _ (beyond room : ℕ) (whole : Reader ExpressionTree) (sound : IsExpressionSound 1 beyond room whole) where
  closed_by_sound : (p : Punctuator) (ts : List Token) (x : (ExpressionTree × Span) × List Token) → closed_by beyond p whole ts ≡ ok x → IsClosed beyond room p ts x
  unfolding closed_by
  closed_by_sound p ts x h =
      let e = bind_ok (whole ts) _ x h in
      let r = bind_ok (mark_at p e.0.1) _ x e.2 in
      let w = within_ok beyond r.0.0 r.0.1 _ x r.2 in
      let inner = sound ts e.0 e.1 in
      subst (IsClosed beyond room p ts) (ok_is ((e.0.0, r.0.0), r.0.1) x w.1) (record {
        parts = after_front ts (expression_spelling e.0.0) e.0.1 (mark p r.0.0 ∷ []) r.0.1 inner.parts (mark_at_is p e.0.1 r.0 r.1);
        formed = inner.formed;
        nested = inner.nested;
        left = w.0;
      })

  paren_after_sound : (left : Span) (us : List Token) (x : ExpressionTree × List Token) → paren_after beyond whole left us ≡ ok x → IsExpressionRead 11 beyond (suc room) (mark punctuators.OpenParen left ∷ us) x
  unfolding paren_after expression_spelling IsExpression
  paren_after_sound left us x h =
      let e = bind_ok (closed_by beyond punctuators.CloseParen whole us) _ x h in
      let c = closed_by_sound punctuators.CloseParen us e.0 e.1 in
      subst (IsExpressionRead 11 beyond (suc room) (mark punctuators.OpenParen left ∷ us)) (ok_is (Paren left e.0.0.0 e.0.0.1, e.0.1) x e.2) (record {
        parts = ap (λ w. mark punctuators.OpenParen left ∷ w) c.parts;
        formed = c.formed;
        tight = omega arith;
        nested = omega (arith, c.nested);
        left = c.left;
      })

  index_after_sound : (n : names.Name) (left : Span) (us : List Token) (x : ExpressionTree × List Token) → index_after beyond whole n left us ≡ ok x → IsExpressionRead 11 beyond (suc room) (name n ∷ mark punctuators.OpenBracket left ∷ us) x
  unfolding index_after expression_spelling IsExpression
  index_after_sound n left us x h =
      let e = bind_ok (closed_by beyond punctuators.CloseBracket whole us) _ x h in
      let c = closed_by_sound punctuators.CloseBracket us e.0 e.1 in
      subst (IsExpressionRead 11 beyond (suc room) (name n ∷ mark punctuators.OpenBracket left ∷ us)) (ok_is (Index n left e.0.0.0 e.0.0.1, e.0.1) x e.2) (record {
        parts = ap (λ w. name n ∷ mark punctuators.OpenBracket left ∷ w) c.parts;
        formed = c.formed;
        tight = omega arith;
        nested = omega (arith, c.nested);
        left = c.left;
      })

  pub argument_sound : IsSound argument_spelling (IsGoodArgument room) (argument_at beyond whole)
  unfolding argument_at
  argument_sound ts x h =
      let c = bind_ok (mark_at punctuators.Comma ts) _ x h in
      let w = within_ok beyond c.0.0 c.0.1 _ x c.2 in
      let e = bind_ok (whole c.0.1) _ x w.1 in
      let inner = sound c.0.1 e.0 e.1 in
      subst (IsRead argument_spelling (IsGoodArgument room) ts) (ok_is ((Some c.0.0, e.0.0), e.0.1) x e.2) (record {
        parts = after_token (mark punctuators.Comma c.0.0) ts c.0.1 (expression_spelling e.0.0) e.0.1 (mark_at_is punctuators.Comma ts c.0 c.1) inner.parts;
        formed = (inner.formed, inner.nested);
      })

  abbrev IsGoodFirst : names.Name → ExpressionTree → Type 0
  IsGoodFirst n e = (IsExpression e ⊎ IsTextOf n e) × (nesting e ≤ room)

  pub first_sound : (n : names.Name) → IsSound expression_spelling (IsGoodFirst n) (first_at beyond whole n)
  unfolding first_at expression_spelling
  first_sound n ts x h = elim (choose_cases (take_text n ts) _ _ (ok x) h) [
    | inl t ↦
        let w = within_ok beyond t.0.0.span t.0.1 _ x t.2 in
        let is = take_text_is n ts t.0 t.1 in
        subst (IsRead expression_spelling (IsGoodFirst n) ts) (ok_is (Text t.0.0, t.0.1) x w.1) (record { parts = is.1; formed = (inr is.0, omega arith) })
    | inr g ↦ let r = sound ts x g.1 in record { parts = r.parts; formed = (inl r.formed, r.nested) }
  ]

  call_after_sound : (n : names.Name) (left : Span) (us : List Token) (x : ExpressionTree × List Token) → call_after beyond whole n left us ≡ ok x → IsExpressionRead 11 beyond (suc room) (name n ∷ mark punctuators.OpenParen left ∷ us) x
  unfolding call_after arguments_after arguments_at expression_spelling arguments_spelling IsExpression
  call_after_sound n left us x h = elim (choose_cases (take_mark punctuators.CloseParen us) _ _ (ok x) h) [
    | inl r ↦
        let w = within_ok beyond r.0.0 r.0.1 _ x r.2 in
        subst (IsExpressionRead 11 beyond (suc room) (name n ∷ mark punctuators.OpenParen left ∷ us)) (ok_is (Call n left NoArguments r.0.0, r.0.1) x w.1) (record {
          parts = ap (λ w. name n ∷ mark punctuators.OpenParen left ∷ w) (take_mark_is punctuators.CloseParen us r.0.0 r.0.1 r.1);
          formed = tt;
          tight = omega arith;
          nested = omega arith;
          left = w.0;
        })
    | inr g ↦
        let a = bind_ok (first_at beyond whole n us) _ x g.1 in
        let q = bind_ok (until (take_mark punctuators.CloseParen) (argument_at beyond whole) (length a.0.1) a.0.1 >>= λ m. ok ((None, a.0.0) ∷ m.0, m.1, m.2)) _ x a.2 in
        let u = bind_ok (until (take_mark punctuators.CloseParen) (argument_at beyond whole) (length a.0.1) a.0.1) _ q.0 q.1 in
        let made = subst (λ (y : List (Option Span × ExpressionTree) × Span × List Token). within beyond y.1 y.2 (ok (Call n left (arguments y.0) y.1, y.2)) ≡ ok x) (sym (ok_is ((None, a.0.0) ∷ u.0.0, u.0.1, u.0.2) q.0 u.2)) q.2 in
        let w = within_ok beyond u.0.1 u.0.2 _ x made in
        let first = first_sound n us a.0 a.1 in
        let r = until_sound argument_spelling (IsGoodArgument room) (mark punctuators.CloseParen) (take_mark punctuators.CloseParen) (argument_at beyond whole) (take_mark_is punctuators.CloseParen) argument_sound (length a.0.1) a.0.1 u.0 u.1 in
        let good = arguments_good room u.0.0 r.formed in
        subst (IsExpressionRead 11 beyond (suc room) (name n ∷ mark punctuators.OpenParen left ∷ us)) (ok_is (Call n left (Argument None a.0.0 (arguments u.0.0)) u.0.1, u.0.2) x w.1) (record {
          parts = ap (λ w. name n ∷ mark punctuators.OpenParen left ∷ w) (first.parts ∙ ap (λ w. expression_spelling a.0.0 ++ w) (r.parts ∙ ap (λ w. (w ++ mark punctuators.CloseParen u.0.1 ∷ []) ++ u.0.2) (sym (arguments_flat u.0.0))) ∙ simp append_assoc);
          formed = (first.formed.0, good.0);
          tight = omega arith;
          nested = omega (arith, first.formed.1, good.1);
          left = w.0;
        })
  ]

-- ---- operands

module _ (beyond room : ℕ) (inside : Inside) (sound : IsInsideSound beyond room inside) where
  named_after_sound : (n : names.Name) (us : List Token) (x : ExpressionTree × List Token) → beyond ≤ length us → named_after beyond inside n us ≡ ok x → IsExpressionRead 11 beyond room (name n ∷ us) x
  unfolding named_after expression_spelling IsExpression
  named_after_sound n us x le h = elim (choose_cases (take_mark punctuators.OpenBracket us) _ _ (ok x) h) [
    | inl l ↦
        let w = within_ok beyond l.0.0 l.0.1 _ x l.2 in
        let e = enter_ok beyond room inside sound l.0.0 _ x w.1 in
        let r = index_after_sound beyond e.1 e.0 e.3 n l.0.0 l.0.1 x e.4 in
        subst (λ v. IsExpressionRead 11 beyond room (name n ∷ v) x) (sym (take_mark_is punctuators.OpenBracket us l.0.0 l.0.1 l.1)) (subst (λ v. IsExpressionRead 11 beyond v (name n ∷ mark punctuators.OpenBracket l.0.0 ∷ l.0.1) x) (sym e.2) r)
    | inr g ↦ elim (choose_cases (take_mark punctuators.OpenParen us) _ _ (ok x) g.1) [
      | inl l ↦
          let w = within_ok beyond l.0.0 l.0.1 _ x l.2 in
          let e = enter_ok beyond room inside sound l.0.0 _ x w.1 in
          let r = call_after_sound beyond e.1 e.0 e.3 n l.0.0 l.0.1 x e.4 in
          subst (λ v. IsExpressionRead 11 beyond room (name n ∷ v) x) (sym (take_mark_is punctuators.OpenParen us l.0.0 l.0.1 l.1)) (subst (λ v. IsExpressionRead 11 beyond v (name n ∷ mark punctuators.OpenParen l.0.0 ∷ l.0.1) x) (sym e.2) r)
      | inr k ↦ subst (IsExpressionRead 11 beyond room (name n ∷ us)) (ok_is (Name n, us) x k.1) (record { parts = refl; formed = tt; tight = omega arith; nested = omega arith; left = le })
    ]
  ]

  pub primary_step_sound : IsExpressionSound 11 beyond room (primary_step beyond inside)
  unfolding primary_step expression_spelling IsExpression
  primary_step_sound ts x h = elim (choose_cases (take_number ts) _ _ (ok x) h) [
    | inl n ↦
        let w = within_ok beyond n.0.0.span n.0.1 _ x n.2 in
        subst (IsExpressionRead 11 beyond room ts) (ok_is (Constant n.0.0, n.0.1) x w.1) (record { parts = take_number_is ts n.0.0 n.0.1 n.1; formed = tt; tight = omega arith; nested = omega arith; left = w.0 })
    | inr g ↦ elim (choose_cases (take_mark punctuators.OpenParen ts) _ _ (ok x) g.1) [
      | inl l ↦
          let w = within_ok beyond l.0.0 l.0.1 _ x l.2 in
          let e = enter_ok beyond room inside sound l.0.0 _ x w.1 in
          let r = paren_after_sound beyond e.1 e.0 e.3 l.0.0 l.0.1 x e.4 in
          subst (λ v. IsExpressionRead 11 beyond room v x) (sym (take_mark_is punctuators.OpenParen ts l.0.0 l.0.1 l.1)) (subst (λ v. IsExpressionRead 11 beyond v (mark punctuators.OpenParen l.0.0 ∷ l.0.1) x) (sym e.2) r)
      | inr k ↦
          let n = bind_ok (name_at ts) _ x k.1 in
          let w = within_ok beyond n.0.0.span n.0.1 _ x n.2 in
          subst (λ v. IsExpressionRead 11 beyond room v x) (sym (name_at_is ts n.0 n.1)) (named_after_sound n.0.0 n.0.1 x w.0 w.1)
    ]
  ]

-- ---- operators

-- each step of a chain leaves an expression that is read
abbrev pub IsStepSound : (m beyond room : ℕ) → More → Type 0
IsStepSound m beyond room more = (ts : List Token) (a : ExpressionTree) (us : List Token) (b : ExpressionTree × List Token) → IsExpressionRead m beyond room ts (a, us) → more a us ≡ some (ok b) → IsExpressionRead m beyond room ts b

pub chain_sound : (m beyond room : ℕ) (more : More) → IsStepSound m beyond room more → (k : ℕ) (ts : List Token) (a : ExpressionTree) (us : List Token) (x : ExpressionTree × List Token) → IsExpressionRead m beyond room ts (a, us) → chain_at more k a us ≡ ok x → IsExpressionRead m beyond room ts x
unfolding chain_at
chain_sound m beyond room more step zero ts a us x front h = subst (IsExpressionRead m beyond room ts) (ok_is (a, us) x h) front
chain_sound m beyond room more step (suc k) ts a us x front h = elim (choose_cases (more a us) _ _ (ok x) h) [
  | inr g ↦ subst (IsExpressionRead m beyond room ts) (ok_is (a, us) x g.1) front
  | inl r ↦
      let b = bind_ok r.0 _ x r.2 in
      chain_sound m beyond room more step k ts b.0.0 b.0.1 x (step ts a us b.0 front (r.1 ∙ ap some b.1)) b.2
]

pub postfix_more_sound : (beyond room : ℕ) → IsStepSound 10 beyond room (postfix_more beyond)
unfolding postfix_more expression_spelling IsExpression
postfix_more_sound beyond room ts a us b front h =
    let o = option_map_is _ (take_operator postfix_of us) (ok b) h in
    let w = within_ok beyond o.0.0.1 o.0.1 _ b o.2 in
    subst (IsExpressionRead 10 beyond room ts) (ok_is (Postfix a o.0.0.0 o.0.0.1, o.0.1) b w.1) (record {
      parts = after_front ts (expression_spelling a) us (mark (postfix_mark o.0.0.0) o.0.0.1 ∷ []) o.0.1 front.parts (take_operator_is postfix_of postfix_mark postfix_is us o.0 o.1);
      formed = (front.formed, front.tight);
      tight = omega arith;
      nested = front.nested;
      left = w.0;
    })

pub binary_more_sound : (beyond room k : ℕ) → k ≤ 5 → (operand : Reader ExpressionTree) → IsExpressionSound (9 - k) beyond room operand → IsStepSound (8 - k) beyond room (binary_more beyond (8 - k) operand)
unfolding binary_more expression_spelling IsExpression
binary_more_sound beyond room k le operand sound ts a us b front h =
    let o = option_map_is _ (take_operator (level_operator (8 - k)) us) (ok b) h in
    let w = within_ok beyond o.0.0.1 o.0.1 _ b o.2 in
    let r = bind_ok (operand o.0.1) _ b w.1 in
    let right = sound o.0.1 r.0 r.1 in
    let is = take_level_is (8 - k) us o.0 o.1 in
    subst (IsExpressionRead (8 - k) beyond room ts) (ok_is (Binary a o.0.0.0 o.0.0.1 r.0.0, r.0.1) b r.2) (record {
      parts = after_front ts (expression_spelling a) us (mark (binary_mark o.0.0.0) o.0.0.1 ∷ expression_spelling r.0.0) r.0.1 front.parts (after_token (mark (binary_mark o.0.0.0) o.0.0.1) us o.0.1 (expression_spelling r.0.0) r.0.1 is.0 right.parts);
      formed = (front.formed, right.formed, omega (arith, is.1, front.tight), omega (arith, is.1, right.tight));
      tight = omega (arith, is.1);
      nested = omega (arith, front.nested, right.nested);
      left = right.left;
    })

postfix_step_sound : (beyond room : ℕ) (primary : Reader ExpressionTree) → IsExpressionSound 11 beyond room primary → IsExpressionSound 10 beyond room (postfix_step beyond primary)
unfolding postfix_step
postfix_step_sound beyond room primary sound ts x h =
    let a = bind_ok (primary ts) _ x h in
    chain_sound 10 beyond room (postfix_more beyond) (postfix_more_sound beyond room) (length a.0.1) ts a.0.0 a.0.1 x (looser 11 10 beyond room ts a.0 (omega arith) (sound ts a.0 a.1)) a.2

pub unary_step_sound : (beyond room : ℕ) (again : Reader ExpressionTree) (inside : Inside) → IsExpressionSound 9 beyond room again → IsInsideSound beyond room inside → IsExpressionSound 9 beyond room (unary_step beyond again inside)
unfolding unary_step expression_spelling IsExpression
unary_step_sound beyond room again inside sound enters ts x h = elim (choose_cases (take_operator prefix_of ts) _ _ (ok x) h) [
  | inl o ↦
      let w = within_ok beyond o.0.0.1 o.0.1 _ x o.2 in
      let e = bind_ok (again o.0.1) _ x w.1 in
      let inner = sound o.0.1 e.0 e.1 in
      subst (IsExpressionRead 9 beyond room ts) (ok_is (Prefix o.0.0.0 o.0.0.1 e.0.0, e.0.1) x e.2) (record {
        parts = after_token (mark (prefix_mark o.0.0.0) o.0.0.1) ts o.0.1 (expression_spelling e.0.0) e.0.1 (take_operator_is prefix_of prefix_mark prefix_is ts o.0 o.1) inner.parts;
        formed = (inner.formed, inner.tight);
        tight = omega arith;
        nested = inner.nested;
        left = inner.left;
      })
  | inr g ↦ looser 10 9 beyond room ts x (omega arith) (postfix_step_sound beyond room (primary_step beyond inside) (primary_step_sound beyond room inside enters) ts x g.1)
]

pub binary_sound : (beyond room : ℕ) (unary : Reader ExpressionTree) → IsExpressionSound 9 beyond room unary → (k : ℕ) → k ≤ 6 → IsExpressionSound (9 - k) beyond room (binary_at beyond unary k)
unfolding binary_at
binary_sound beyond room unary sound zero le ts x h = looser 9 (9 - 0) beyond room ts x (omega arith) (sound ts x h)
binary_sound beyond room unary sound (suc k) le ts x h =
    let tighter = binary_sound beyond room unary sound k (omega arith) in
    let a = bind_ok (binary_at beyond unary k ts) _ x h in
    let first = looser (9 - k) (8 - k) beyond room ts a.0 (omega arith) (tighter ts a.0 a.1) in
    looser (8 - k) (9 - suc k) beyond room ts x (omega arith) (chain_sound (8 - k) beyond room (binary_more beyond (8 - k) (binary_at beyond unary k)) (binary_more_sound beyond room k (omega arith) (binary_at beyond unary k) tighter) (length a.0.1) ts a.0.0 a.0.1 x first a.2)

-- ---- conditional expressions and assignments

-- the level of what is read, where it may be an assignment or not
abbrev pub grade : Bool → ℕ
grade true = 1
grade false = 2

grade_least : (may : Bool) → grade may ≤ 2
grade_least true = omega arith
grade_least false = omega arith

module _ (beyond room : ℕ) (whole choice : Reader ExpressionTree) (sound : IsExpressionSound 1 beyond room whole) (chosen : IsExpressionSound 2 beyond room choice) where
  conditional_after_sound : (ts : List Token) (c : ExpressionTree) (q : Span) (us : List Token) (x : ExpressionTree × List Token) → IsExpressionRead 3 beyond room ts (c, mark punctuators.Question q ∷ us) → conditional_after beyond whole choice c q us ≡ ok x → IsExpressionRead 2 beyond room ts x
  unfolding conditional_after expression_spelling IsExpression
  conditional_after_sound ts c q us x front h =
      let a = bind_ok (whole us) _ x h in
      let colon = bind_ok (mark_at punctuators.Colon a.0.1) _ x a.2 in
      let w = within_ok beyond colon.0.0 colon.0.1 _ x colon.2 in
      let b = bind_ok (choice colon.0.1) _ x w.1 in
      let middle = sound us a.0 a.1 in
      let last = chosen colon.0.1 b.0 b.1 in
      let behind = after_front us (expression_spelling a.0.0) a.0.1 (mark punctuators.Colon colon.0.0 ∷ expression_spelling b.0.0) b.0.1 middle.parts (after_token (mark punctuators.Colon colon.0.0) a.0.1 colon.0.1 (expression_spelling b.0.0) b.0.1 (mark_at_is punctuators.Colon a.0.1 colon.0 colon.1) last.parts) in
      subst (IsExpressionRead 2 beyond room ts) (ok_is (Conditional c q a.0.0 colon.0.0 b.0.0, b.0.1) x b.2) (record {
        parts = after_front ts (expression_spelling c) (mark punctuators.Question q ∷ us) (mark punctuators.Question q ∷ (expression_spelling a.0.0 ++ mark punctuators.Colon colon.0.0 ∷ expression_spelling b.0.0)) b.0.1 front.parts (ap (λ w. mark punctuators.Question q ∷ w) behind);
        formed = (front.formed, middle.formed, last.formed, front.tight, last.tight);
        tight = omega arith;
        nested = omega (arith, front.nested, middle.nested, last.nested);
        left = last.left;
      })

  pub expression_step_sound : (operand : Reader ExpressionTree) → IsExpressionSound 3 beyond room operand → (may : Bool) → IsExpressionSound (grade may) beyond room (expression_step beyond may operand whole choice)
  unfolding expression_step expression_after expression_spelling IsExpression
  expression_step_sound operand operands may ts x h =
      let c = bind_ok (operand ts) _ x h in
      let first = operands ts c.0 c.1 in
      elim (choose_cases (take_mark punctuators.Question c.0.1) _ _ (ok x) c.2) [
        | inl q ↦
            let w = within_ok beyond q.0.0 q.0.1 _ x q.2 in
            looser 2 (grade may) beyond room ts x (grade_least may) (conditional_after_sound ts c.0.0 q.0.0 q.0.1 x (subst (λ v. IsExpressionRead 3 beyond room ts (c.0.0, v)) (take_mark_is punctuators.Question c.0.1 q.0.0 q.0.1 q.1) first) w.1)
        | inr g ↦ elim (choose_cases (take_assign may c.0.0 c.0.1) _ _ (ok x) g.1) [
          | inl o ↦
              let w = within_ok beyond o.0.0.1 o.0.1 _ x o.2 in
              let v = bind_ok (whole o.0.1) _ x w.1 in
              let is = take_assign_is may c.0.0 c.0.1 o.0 o.1 in
              let value = sound o.0.1 v.0 v.1 in
              subst (λ b. IsExpressionRead (grade b) beyond room ts x) (sym is.0) (subst (IsExpressionRead 1 beyond room ts) (ok_is (Assign c.0.0 o.0.0.0 o.0.0.1 v.0.0, v.0.1) x v.2) (record {
                parts = after_front ts (expression_spelling c.0.0) c.0.1 (mark (assign_mark o.0.0.0) o.0.0.1 ∷ expression_spelling v.0.0) v.0.1 first.parts (after_token (mark (assign_mark o.0.0.0) o.0.0.1) c.0.1 o.0.1 (expression_spelling v.0.0) v.0.1 is.2 value.parts);
                formed = (first.formed, value.formed, is.1);
                tight = omega arith;
                nested = omega (arith, first.nested, value.nested);
                left = value.left;
              }))
          | inr k ↦ subst (IsExpressionRead (grade may) beyond room ts) (ok_is c.0 x k.1) (looser 3 (grade may) beyond room ts c.0 (omega (arith, grade_least may)) first)
        ]
      ]

-- ---- the whole

inside_sound : (beyond turns : ℕ) → ((r : ℕ) → IsExpressionSound 1 beyond r (expression_at beyond turns true r)) → (room : ℕ) → IsInsideSound beyond room (deeper (expression_at beyond turns true) room)
inside_sound beyond turns h zero = tt
inside_sound beyond turns h (suc room) = (room, refl, h room)

pub record AreSound (beyond turns room : ℕ) : Type 0 where
  pub unary : IsExpressionSound 9 beyond room (unary_at beyond turns room)
  pub any : (may : Bool) → IsExpressionSound (grade may) beyond room (expression_at beyond turns may room)

pub all_sound : (beyond turns room : ℕ) → AreSound beyond turns room
unfolding unary_at expression_at
all_sound beyond zero room = record { unary = λ ts x h. absurd cc; any = λ may ts x h. absurd cc }
all_sound beyond (suc turns) room =
    let below = all_sound beyond turns room in
    let inside = inside_sound beyond turns (λ r. (all_sound beyond turns r).any true) room in
    let operand : IsExpressionSound 9 beyond room (operand_at beyond turns room) = unary_step_sound beyond room (unary_at beyond turns room) (deeper (expression_at beyond turns true) room) below.unary inside in
    record {
      unary = operand;
      any = λ may. expression_step_sound beyond room (expression_at beyond turns true room) (expression_at beyond turns false room) (below.any true) (below.any false) (binary_at beyond (operand_at beyond turns room) 6)
          (λ ts x h. looser (9 - 6) 3 beyond room ts x (omega arith) (binary_sound beyond room (operand_at beyond turns room) operand 6 (omega arith) ts x h)) may;
    }

-- an operand with so many turns left
pub operand_sound : (beyond turns room : ℕ) → IsExpressionSound 9 beyond room (operand_at beyond turns room)
unfolding unary_at
operand_sound beyond turns room = (all_sound beyond (suc turns) room).unary

-- a whole expression
pub whole_sound : (l : Limits) (room : ℕ) → IsSound expression_spelling (λ e. IsExpression e × (nesting e ≤ room) × (length (expression_spelling e) ≤ l.tokens)) (whole_at l room)
unfolding whole_at
whole_sound l room ts x h =
    let r = (all_sound (length ts - l.tokens) (length ts) room).any true ts x h in
    record { parts = r.parts; formed = (r.formed, r.nested, omega (arith, r.left, ap length r.parts, length-append (expression_spelling x.0) x.1)) }

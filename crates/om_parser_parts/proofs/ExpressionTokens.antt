-- The tokens at both ends of an expression, and operators and brackets that are read again.
use Rattle.std.proofs.Common.{◌≡◌, ℕ, zero, suc, ◌-◌, ◌<◌, ◌≤◌, List, [], ◌∷◌, ◌++◌, length, Option, Some, None, Err, refl, sym, ap, subst, ◌∙◌, Bool, true, false, arith, append_assoc, length-append, ◌⊎◌, inl, inr}
use Rattle.std.proofs.lemmas.Bool.{leb-true, leb-false}
use Rattle.std.proofs.lemmas.Bool.Decides.{eqb_tells}
use Rattle.std.proofs.lemmas.Slice.Eq.{bytes_eq-Decides}
use Rattle.std.specs.Prelude.{nat_le, bytes_eq, codes, if◌then◌else◌}
use denote.Enum.Bare.{sameb, same_true}
use Rattle.om_lexer.specs.contracts.token.Punctuator.{the_type as the_punctuators}
use Rattle.om_lexer.specs.declared.token.Punctuator.{Punctuator}
use Rattle.om_lexer.specs.declared.token.Punctuator.TheVariants as punctuators
use Rattle.om_lexer.specs.declared.token.Span.{Span}
use Rattle.om_lexer.specs.declared.token.Token.{Token}
use Rattle.om_lexer.specs.declared.token.TokenKind.{TokenKind}
use Rattle.om_lexer.specs.declared.token.TokenKind.TheVariants as kinds
use Rattle.om_pragma.specs.declared.clause.Name as names
use Rattle.om_parser_tree.specs.declared.tree.AssignOperator.{AssignOperator}
use Rattle.om_parser_tree.specs.declared.tree.AssignOperator.TheVariants as assigns
use Rattle.om_parser_tree.specs.declared.tree.BinaryOperator.{BinaryOperator}
use Rattle.om_parser_tree.specs.declared.tree.BinaryOperator.TheVariants as binaries
use Rattle.om_parser_tree.specs.declared.tree.PostfixOperator.{PostfixOperator}
use Rattle.om_parser_tree.specs.declared.tree.PostfixOperator.TheVariants as postfixes
use Rattle.om_parser_tree.specs.declared.tree.PrefixOperator.{PrefixOperator}
use Rattle.om_parser_tree.specs.declared.tree.PrefixOperator.TheVariants as prefixes
use Rattle.om_parser_tree.specs.declared.tree.Text as texts
use Rattle.om_parser_parts.specs.ExpressionReading.{prefix_of, postfix_of, assign_of, of_level, level_operator, take_operator, take_assign, text_of, take_text, primary_step, More, chain_at, postfix_more, binary_more, postfix_step, unary_step, binary_at, expression_after, expression_step, deeper, expression_at, operand_at}
use Rattle.om_parser_tree.specs.Formed.{level, binary_level, IsExpression}
use Rattle.om_parser_tree.specs.Limits.{nesting}
use Rattle.om_parser_parts.specs.Reading.{Reader, choose, take, same_mark, mark_of, take_mark}
use Rattle.om_parser_tree.specs.Spelling.{mark, text, prefix_mark, postfix_mark, binary_mark, assign_mark, expression_spelling}
use Rattle.om_parser_tree.specs.Tree.{ExpressionTree, Name, Constant, Text, Paren, Index, Call, Prefix, Postfix, Binary, Conditional, Assign}
use Rattle.om_parser_parts.specs.Outcomes.{some}
use Rattle.om_parser_parts.specs.Again.{take_operator_again}
use Rattle.om_parser_parts.specs.Laws.{Stopping, IsAnswer}
use Rattle.om_parser_parts.proofs.ExpressionSound.{grade}

-- ---- the token behind an expression

-- how tightly a token would go on with the expression before it; 0 where it does not
abbrev pub mark_strength : Punctuator → ℕ
mark_strength punctuators.OpenParen = 11
mark_strength punctuators.OpenBracket = 11
mark_strength punctuators.PlusPlus = 10
mark_strength punctuators.MinusMinus = 10
mark_strength punctuators.Star = 8
mark_strength punctuators.Slash = 8
mark_strength punctuators.Percent = 8
mark_strength punctuators.Plus = 7
mark_strength punctuators.Minus = 7
mark_strength punctuators.Less = 6
mark_strength punctuators.Greater = 6
mark_strength punctuators.LessEqual = 6
mark_strength punctuators.GreaterEqual = 6
mark_strength punctuators.EqualEqual = 5
mark_strength punctuators.BangEqual = 5
mark_strength punctuators.AndAnd = 4
mark_strength punctuators.OrOr = 3
mark_strength punctuators.Question = 2
mark_strength punctuators.Equal = 1
mark_strength punctuators.PlusEqual = 1
mark_strength punctuators.MinusEqual = 1
mark_strength punctuators.StarEqual = 1
mark_strength punctuators.SlashEqual = 1
mark_strength punctuators.PercentEqual = 1
mark_strength _ = 0

abbrev pub strength : TokenKind → ℕ
strength (kinds.Punctuator p) = mark_strength p
strength _ = 0

-- how tightly these tokens would go on with an expression before them
abbrev pub following : List Token → ℕ
following [] = 0
following (t ∷ ts) = strength t.kind

operator_none : {O : Type 0} (f : TokenKind → Option O) (n : ℕ) → ((k : TokenKind) → strength k < n → f k ≡ None) → (ts : List Token) → following ts < n → take_operator f ts ≡ None
unfolding take_operator take
operator_none f n none [] lt = refl
operator_none f n none (t ∷ ts) lt = rw (none t.kind lt) refl

postfix_none : (k : TokenKind) → strength k < 10 → postfix_of k ≡ None
postfix_none (kinds.Punctuator punctuators.PlusPlus) lt = absurd (omega arith)
postfix_none (kinds.Punctuator punctuators.MinusMinus) lt = absurd (omega arith)
postfix_none _ lt = refl

assign_none : (k : TokenKind) → strength k < 1 → assign_of k ≡ None
assign_none (kinds.Punctuator punctuators.Equal) lt = absurd (omega arith)
assign_none (kinds.Punctuator punctuators.PlusEqual) lt = absurd (omega arith)
assign_none (kinds.Punctuator punctuators.MinusEqual) lt = absurd (omega arith)
assign_none (kinds.Punctuator punctuators.StarEqual) lt = absurd (omega arith)
assign_none (kinds.Punctuator punctuators.SlashEqual) lt = absurd (omega arith)
assign_none (kinds.Punctuator punctuators.PercentEqual) lt = absurd (omega arith)
assign_none _ lt = refl

of_level_none : (m : ℕ) (o : BinaryOperator) → binary_level o < m → of_level m (Some o) ≡ None
of_level_none m o lt = elim (eqb_tells (binary_level o) m) [
  | inl same ↦ absurd (omega (arith, same.1))
  | inr other ↦ rw other.0 refl
]

level_none : (m : ℕ) (k : TokenKind) → strength k < m → level_operator m k ≡ None
level_none m (kinds.Punctuator punctuators.OrOr) lt = of_level_none m binaries.Or lt
level_none m (kinds.Punctuator punctuators.AndAnd) lt = of_level_none m binaries.And lt
level_none m (kinds.Punctuator punctuators.EqualEqual) lt = of_level_none m binaries.Equal lt
level_none m (kinds.Punctuator punctuators.BangEqual) lt = of_level_none m binaries.NotEqual lt
level_none m (kinds.Punctuator punctuators.Less) lt = of_level_none m binaries.Less lt
level_none m (kinds.Punctuator punctuators.Greater) lt = of_level_none m binaries.Greater lt
level_none m (kinds.Punctuator punctuators.LessEqual) lt = of_level_none m binaries.LessEqual lt
level_none m (kinds.Punctuator punctuators.GreaterEqual) lt = of_level_none m binaries.GreaterEqual lt
level_none m (kinds.Punctuator punctuators.Plus) lt = of_level_none m binaries.Add lt
level_none m (kinds.Punctuator punctuators.Minus) lt = of_level_none m binaries.Subtract lt
level_none m (kinds.Punctuator punctuators.Star) lt = of_level_none m binaries.Multiply lt
level_none m (kinds.Punctuator punctuators.Slash) lt = of_level_none m binaries.Divide lt
level_none m (kinds.Punctuator punctuators.Percent) lt = of_level_none m binaries.Remainder lt
level_none m _ lt = refl

-- a token that is another mark
pub other_mark : (p q : Punctuator) (s : Span) (ts : List Token) → (q ≡ p → ⊥) → take_mark p (mark q s ∷ ts) ≡ None
unfolding take_mark take same_mark
other_mark p q s ts other = go (sameb the_punctuators q p) refl
  where
    go : (b : Bool) → sameb the_punctuators q p ≡ b → choose {B = Option (Span × List Token)} (if b then Some s else None) (λ x. some (x, ts)) None ≡ None
    go true is = absurd (other (same_true the_punctuators tt q p is))
    go false is = refl

pub mark_none : (p : Punctuator) (ts : List Token) → following ts < mark_strength p → take_mark p ts ≡ None
unfolding take_mark take
mark_none p [] lt = refl
mark_none p (t ∷ ts) lt = kind t.kind lt
  where
    kind : (k : TokenKind) → strength k < mark_strength p → choose {B = Option (Span × List Token)} (mark_of p k t.span) (λ x. some (x, ts)) None ≡ None
    kind (kinds.Punctuator q) less = other_mark p q t.span ts (λ same. let e = ap mark_strength same in omega (arith, e, less))
    kind (kinds.Name n) less = refl
    kind (kinds.Constant n) less = refl
    kind (kinds.Keyword n) less = refl
    kind (kinds.Text n) less = refl
    kind kinds.DirectiveBegin less = refl
    kind kinds.DirectiveEnd less = refl
    kind kinds.End less = refl

-- ---- the token that an expression begins with

-- the marks that an expression may begin with
abbrev pub begins_expression : Punctuator → Bool
begins_expression punctuators.OpenParen = true
begins_expression punctuators.Plus = true
begins_expression punctuators.Minus = true
begins_expression punctuators.Bang = true
begins_expression punctuators.PlusPlus = true
begins_expression punctuators.MinusMinus = true
begins_expression _ = false

begins_prefix : (o : PrefixOperator) → begins_expression (prefix_mark o) ≡ true
begins_prefix prefixes.Plus = refl
begins_prefix prefixes.Minus = refl
begins_prefix prefixes.Not = refl
begins_prefix prefixes.Increment = refl
begins_prefix prefixes.Decrement = refl

differs : (p q : Punctuator) → begins_expression p ≡ false → begins_expression q ≡ true → q ≡ p → ⊥
differs p q fails holds same = let e : true ≡ false = sym holds ∙ ap begins_expression same ∙ fails in absurd cc

-- no expression begins with another mark
pub no_mark : (p : Punctuator) → begins_expression p ≡ false → (t : ExpressionTree) (rest : List Token) → take_mark p (expression_spelling t ++ rest) ≡ None
unfolding take_mark take expression_spelling
no_mark p none (Name n) rest = refl
no_mark p none (Constant n) rest = refl
no_mark p none (Text t) rest = refl
no_mark p none (Paren left e right) rest = other_mark p punctuators.OpenParen left _ (differs p punctuators.OpenParen none refl)
no_mark p none (Index n left e right) rest = refl
no_mark p none (Call n left values right) rest = refl
no_mark p none (Prefix o at e) rest = other_mark p (prefix_mark o) at _ (differs p (prefix_mark o) none (begins_prefix o))
no_mark p none (Postfix e o at) rest = rw append_assoc (no_mark p none e _)
no_mark p none (Binary a o at b) rest = rw append_assoc (no_mark p none a _)
no_mark p none (Conditional c question a colon b) rest = rw append_assoc (no_mark p none c _)
no_mark p none (Assign a o at b) rest = rw append_assoc (no_mark p none a _)

-- no well-formed one with a text
no_text : (n : names.Name) (t : ExpressionTree) → IsExpression t → (rest : List Token) → take (λ t. text_of t.kind t.span) (expression_spelling t ++ rest) ≡ None
unfolding take expression_spelling IsExpression
no_text n (Name m) f rest = refl
no_text n (Constant m) f rest = refl
no_text n (Text t) f rest = absurd f
no_text n (Paren left e right) f rest = refl
no_text n (Index m left e right) f rest = refl
no_text n (Call m left values right) f rest = refl
no_text n (Prefix o at e) f rest = refl
no_text n (Postfix e o at) f rest = rw append_assoc (no_text n e f.0 _)
no_text n (Binary a o at b) f rest = rw append_assoc (no_text n a f.0 _)
no_text n (Conditional c question a colon b) f rest = rw append_assoc (no_text n c f.0 _)
no_text n (Assign a o at b) f rest = rw append_assoc (no_text n a f.0 _)

pub no_text_here : (n : names.Name) (t : ExpressionTree) → IsExpression t → (rest : List Token) → take_text n (expression_spelling t ++ rest) ≡ None
unfolding take_text
no_text_here n t f rest = go (bytes_eq n.text (codes "printf"))
  where
    go : (b : Bool) → (if b then take (λ t. text_of t.kind t.span) (expression_spelling t ++ rest) else None) ≡ None
    go true = no_text n t f rest
    go false = refl

pub text_again : (n : names.Name) (t : texts.Text) (rest : List Token) → n.text ≡ codes "printf" → take_text n (text t ∷ rest) ≡ some (t, rest)
unfolding take_text take
text_again n t rest named = rw ((bytes_eq-Decides n.text (codes "printf")).1 named) refl

pub binary_most : (o : BinaryOperator) → binary_level o ≤ 8
binary_most binaries.Or = omega arith
binary_most binaries.And = omega arith
binary_most binaries.Equal = omega arith
binary_most binaries.NotEqual = omega arith
binary_most binaries.Less = omega arith
binary_most binaries.Greater = omega arith
binary_most binaries.LessEqual = omega arith
binary_most binaries.GreaterEqual = omega arith
binary_most binaries.Add = omega arith
binary_most binaries.Subtract = omega arith
binary_most binaries.Multiply = omega arith
binary_most binaries.Divide = omega arith
binary_most binaries.Remainder = omega arith

pub binary_least : (o : BinaryOperator) → 3 ≤ binary_level o
binary_least binaries.Or = omega arith
binary_least binaries.And = omega arith
binary_least binaries.Equal = omega arith
binary_least binaries.NotEqual = omega arith
binary_least binaries.Less = omega arith
binary_least binaries.Greater = omega arith
binary_least binaries.LessEqual = omega arith
binary_least binaries.GreaterEqual = omega arith
binary_least binaries.Add = omega arith
binary_least binaries.Subtract = omega arith
binary_least binaries.Multiply = omega arith
binary_least binaries.Divide = omega arith
binary_least binaries.Remainder = omega arith

-- what binds tighter than an operator before it begins with none
no_prefix : (t : ExpressionTree) → IsExpression t → 10 ≤ level t → (rest : List Token) → take_operator prefix_of (expression_spelling t ++ rest) ≡ None
unfolding take_operator take expression_spelling IsExpression
no_prefix (Name n) f le rest = refl
no_prefix (Constant n) f le rest = refl
no_prefix (Text t) f le rest = absurd f
no_prefix (Paren left e right) f le rest = refl
no_prefix (Index n left e right) f le rest = refl
no_prefix (Call n left values right) f le rest = refl
no_prefix (Prefix o at e) f le rest = absurd (omega arith)
no_prefix (Postfix e o at) f le rest = rw append_assoc (no_prefix e f.0 f.1 _)
no_prefix (Binary a o at b) f le rest = absurd (omega (arith, le, binary_most o))
no_prefix (Conditional c question a colon b) f le rest = absurd (omega arith)
no_prefix (Assign a o at b) f le rest = absurd (omega arith)

pub expression_some : (t : ExpressionTree) → 0 < length (expression_spelling t)
unfolding expression_spelling
expression_some (Name n) = omega arith
expression_some (Constant n) = omega arith
expression_some (Text t) = omega arith
expression_some (Paren left e right) = omega arith
expression_some (Index n left e right) = omega arith
expression_some (Call n left values right) = omega arith
expression_some (Prefix o at e) = omega arith
expression_some (Postfix e o at) = omega (arith, expression_some e, length-append (expression_spelling e) (mark (postfix_mark o) at ∷ []))
expression_some (Binary a o at b) = omega (arith, expression_some a, length-append (expression_spelling a) (mark (binary_mark o) at ∷ expression_spelling b))
expression_some (Conditional c question a colon b) = omega (arith, expression_some c, length-append (expression_spelling c) (mark punctuators.Question question ∷ (expression_spelling a ++ mark punctuators.Colon colon ∷ expression_spelling b)))
expression_some (Assign a o at b) = omega (arith, expression_some a, length-append (expression_spelling a) (mark (assign_mark o) at ∷ expression_spelling b))

-- ---- operators are read again

pub prefix_again : (o : PrefixOperator) → prefix_of (kinds.Punctuator (prefix_mark o)) ≡ some o
prefix_again prefixes.Plus = refl
prefix_again prefixes.Minus = refl
prefix_again prefixes.Not = refl
prefix_again prefixes.Increment = refl
prefix_again prefixes.Decrement = refl

pub postfix_again : (o : PostfixOperator) → postfix_of (kinds.Punctuator (postfix_mark o)) ≡ some o
postfix_again postfixes.Increment = refl
postfix_again postfixes.Decrement = refl

pub level_again : (o : BinaryOperator) → level_operator (binary_level o) (kinds.Punctuator (binary_mark o)) ≡ some o
level_again binaries.Or = refl
level_again binaries.And = refl
level_again binaries.Equal = refl
level_again binaries.NotEqual = refl
level_again binaries.Less = refl
level_again binaries.Greater = refl
level_again binaries.LessEqual = refl
level_again binaries.GreaterEqual = refl
level_again binaries.Add = refl
level_again binaries.Subtract = refl
level_again binaries.Multiply = refl
level_again binaries.Divide = refl
level_again binaries.Remainder = refl

pub binary_strength : (o : BinaryOperator) → mark_strength (binary_mark o) ≡ binary_level o
binary_strength binaries.Or = refl
binary_strength binaries.And = refl
binary_strength binaries.Equal = refl
binary_strength binaries.NotEqual = refl
binary_strength binaries.Less = refl
binary_strength binaries.Greater = refl
binary_strength binaries.LessEqual = refl
binary_strength binaries.GreaterEqual = refl
binary_strength binaries.Add = refl
binary_strength binaries.Subtract = refl
binary_strength binaries.Multiply = refl
binary_strength binaries.Divide = refl
binary_strength binaries.Remainder = refl

pub postfix_strength : (o : PostfixOperator) → mark_strength (postfix_mark o) ≡ 10
postfix_strength postfixes.Increment = refl
postfix_strength postfixes.Decrement = refl

pub assign_strength : (o : AssignOperator) → mark_strength (assign_mark o) ≡ 1
assign_strength assigns.Set = refl
assign_strength assigns.Add = refl
assign_strength assigns.Subtract = refl
assign_strength assigns.Multiply = refl
assign_strength assigns.Divide = refl
assign_strength assigns.Remainder = refl

assign_again : (o : AssignOperator) → assign_of (kinds.Punctuator (assign_mark o)) ≡ some o
assign_again assigns.Set = refl
assign_again assigns.Add = refl
assign_again assigns.Subtract = refl
assign_again assigns.Multiply = refl
assign_again assigns.Divide = refl
assign_again assigns.Remainder = refl

pub take_assign_again : (target : ExpressionTree) (o : AssignOperator) (s : Span) (ts : List Token) → 9 ≤ level target → take_assign true target (mark (assign_mark o) s ∷ ts) ≡ some ((o, s), ts)
unfolding take_assign
take_assign_again target o s ts le = go (nat_le 9 (level target)) refl
  where
    go : (b : Bool) → nat_le 9 (level target) ≡ b → (if b then take_operator assign_of (mark (assign_mark o) s ∷ ts) else None) ≡ some ((o, s), ts)
    go true is = take_operator_again assign_of assign_mark assign_again o s ts
    go false is = let lt = leb-false _ _ is in absurd (omega (arith, le, lt))

no_assign : (may : Bool) (target : ExpressionTree) (ts : List Token) → following ts < grade may → take_assign may target ts ≡ None
unfolding take_assign
no_assign false target ts lt = refl
no_assign true target ts lt = go (nat_le 9 (level target))
  where
    go : (b : Bool) → (if b then take_operator assign_of ts else None) ≡ None
    go true = operator_none assign_of 1 assign_none ts lt
    go false = refl

-- ---- what is read again

-- the limits, where these tokens are left behind the expression
abbrev pub Fits : (beyond room : ℕ) → ExpressionTree → List Token → Type 0
Fits beyond room t rest = (nesting t ≤ room) × (beyond ≤ length rest)

-- a reader of every limit and number of turns
abbrev Readers : Type 0
Readers = (beyond turns room : ℕ) → Reader ExpressionTree

abbrev pub primaries : Readers
primaries beyond turns room = primary_step beyond (deeper (expression_at beyond turns true) room)

abbrev pub postfixed : Readers
postfixed beyond turns room = postfix_step beyond (primaries beyond turns room)

abbrev pub binaries_of : ℕ → Readers
binaries_of k beyond turns room = binary_at beyond (operand_at beyond turns room) k

abbrev pub expressions : Bool → Readers
expressions may beyond turns room = expression_at beyond (suc turns) may room

-- this tree is read again where tokens follow that go on less tightly
abbrev pub Again : Readers → (m : ℕ) → ExpressionTree → Type 0
Again reader m t = (beyond turns room : ℕ) (rest : List Token) → length (expression_spelling t) ≤ suc turns → following rest < m → IsAnswer (Fits beyond room t rest) (reader beyond turns room (expression_spelling t ++ rest)) (t, rest)

-- what goes on with it is read with this tree on the left
abbrev pub Begins : Readers → ((beyond turns room : ℕ) → More) → (m : ℕ) → ExpressionTree → Type 0
Begins reader more m t = (beyond turns room : ℕ) (rest : List Token) → length (expression_spelling t) ≤ suc turns → following rest < suc m
    → ((k : ℕ) × (length rest ≤ k) × (reader beyond turns room (expression_spelling t ++ rest) ≡ chain_at (more beyond turns room) k t rest))
    ⊎ ((stop : Stopping) × (reader beyond turns room (expression_spelling t ++ rest) ≡ Err stop.fault) × (Fits beyond room t rest → ⊥))

abbrev pub postfix_mores : (beyond turns room : ℕ) → More
postfix_mores beyond turns room = postfix_more beyond

abbrev pub binary_mores : ℕ → (beyond turns room : ℕ) → More
binary_mores k beyond turns room = binary_more beyond (8 - k) (binary_at beyond (operand_at beyond turns room) k)

pub ends : (reader : Readers) (more : (beyond turns room : ℕ) → More) (m : ℕ) (t : ExpressionTree) → ((beyond turns room : ℕ) (a : ExpressionTree) (ts : List Token) → following ts < m → more beyond turns room a ts ≡ None) → Begins reader more m t → Again reader m t
unfolding chain_at
ends reader more m t none begins beyond turns room rest len lt = elim (begins beyond turns room rest len (omega arith)) [
  | inl (zero, le, e) ↦ inl e
  | inl (suc k, le, e) ↦ inl (e ∙ rw (none beyond turns room t rest lt) refl)
  | inr deep ↦ inr deep
]

no_postfix : (beyond turns room : ℕ) (a : ExpressionTree) (ts : List Token) → following ts < 10 → postfix_more beyond a ts ≡ None
unfolding postfix_more
no_postfix beyond turns room a ts lt = rw (operator_none postfix_of 10 postfix_none ts lt) refl

pub no_binary : (k beyond turns room : ℕ) (a : ExpressionTree) (ts : List Token) → following ts < 8 - k → binary_mores k beyond turns room a ts ≡ None
unfolding binary_more
no_binary k beyond turns room a ts lt = rw (operator_none (level_operator (8 - k)) (8 - k) (level_none (8 - k)) ts lt) refl

pub postfix_from : (t : ExpressionTree) → Again primaries 11 t → Begins postfixed postfix_mores 10 t
unfolding postfix_step
postfix_from t again beyond turns room rest len lt = elim (again beyond turns room rest len lt) [
  | inl e ↦ inl (length rest, omega arith, rw e refl)
  | inr (stop, e, never) ↦ inr (stop, rw e refl, never)
]

pub unary_from : (t : ExpressionTree) → IsExpression t → 10 ≤ level t → Begins postfixed postfix_mores 10 t → Again operand_at 10 t
unfolding unary_step
unary_from t f le begins beyond turns room rest len lt = rw (no_prefix t f le rest) (ends postfixed postfix_mores 10 t no_postfix begins beyond turns room rest len lt)

pub binary_from : (k : ℕ) (t : ExpressionTree) → k ≤ 5 → Again (binaries_of k) (9 - k) t → Begins (binaries_of (suc k)) (binary_mores k) (8 - k) t
unfolding binary_at
binary_from k t le again beyond turns room rest len lt = elim (again beyond turns room rest len (omega (arith, lt, le))) [
  | inl e ↦ inl (length rest, omega arith, rw e refl)
  | inr (stop, e, never) ↦ inr (stop, rw e refl, never)
]

pub weaken : (reader : Readers) (m n : ℕ) (t : ExpressionTree) → n ≤ m → Again reader m t → Again reader n t
weaken reader m n t le again beyond turns room rest len lt = again beyond turns room rest len (omega arith)

-- the next looser level follows
step_up : (t : ExpressionTree) (l : ℕ) → l ≤ 5 → Again (binaries_of l) (9 - l) t → Again (binaries_of (suc l)) (9 - suc l) t
step_up t l le again = weaken (binaries_of (suc l)) (8 - l) (9 - suc l) t (omega arith) (ends (binaries_of (suc l)) (binary_mores l) (8 - l) t (no_binary l) (binary_from l t le again))

le_cases : (k l : ℕ) → k ≤ suc l → (k ≤ l) ⊎ (k ≡ suc l)
le_cases k l le = go (nat_le k l) refl
  where
    go : (b : Bool) → nat_le k l ≡ b → (k ≤ l) ⊎ (k ≡ suc l)
    go true is = inl (leb-true _ _ is)
    go false is = inr (let lt = leb-false _ _ is in omega (arith, le, lt))

pub up : (t : ExpressionTree) (k l : ℕ) → k ≤ l → l ≤ 6 → Again (binaries_of k) (9 - k) t → Again (binaries_of l) (9 - l) t
up t k zero le most again = let same : k ≡ 0 = omega (arith, le) in subst (λ n. Again (binaries_of n) (9 - n) t) same again
up t k (suc l) le most again = elim (le_cases k l le) [
  | inl less ↦ step_up t l (omega (arith, most)) (up t k l less (omega (arith, most)) again)
  | inr same ↦ subst (λ n. Again (binaries_of n) (9 - n) t) same again
]

pub expression_from : (may : Bool) (t : ExpressionTree) → Again (binaries_of 6) 3 t → Again (expressions may) (grade may) t
unfolding expression_at expression_step expression_after
expression_from may t again beyond turns room rest len lt = elim (again beyond turns room rest len (omega (arith, lt, least may))) [
  | inl e ↦ inl (rw (e, mark_none punctuators.Question rest (omega (arith, lt, least may)), no_assign may t rest lt) refl)
  | inr (stop, e, never) ↦ inr (stop, rw e refl, never)
]
  where
    least : (may : Bool) → grade may ≤ 2
    least true = omega arith
    least false = omega arith

-- For proofs: reading an expression from the left.
use Rattle.std.specs.Prelude.{◌≡◌, ℕ, zero, suc, ◌-◌, List, [], ◌∷◌, length, Option, Some, None, Result, Ok, Err, ⊤}
use Rattle.std.specs.Prelude.{Bool, true, false, ◌&&◌, nat_le, nat_eq, bytes_eq, codes, option_map, if◌then◌else◌}
use Rattle.om_lexer.specs.declared.fault.SourceFault.{SourceFault}
use Rattle.om_lexer.specs.declared.token.Punctuator.{Punctuator}
use Rattle.om_lexer.specs.declared.token.Punctuator.TheVariants as punctuators
use Rattle.om_lexer.specs.declared.token.Span.{Span}
use Rattle.om_lexer.specs.declared.token.Token.{Token}
use Rattle.om_lexer.specs.declared.token.TokenKind.{TokenKind}
use Rattle.om_lexer.specs.declared.token.TokenKind.TheVariants as kinds
use Rattle.om_pragma.specs.declared.clause.Name as names
use Rattle.om_parser_parts.specs.declared.expression.TheConstants.{LEVELS}
use Rattle.om_parser_tree.specs.declared.tree.AssignOperator.{AssignOperator}
use Rattle.om_parser_tree.specs.declared.tree.AssignOperator.TheVariants as assigns
use Rattle.om_parser_tree.specs.declared.tree.BinaryOperator.{BinaryOperator}
use Rattle.om_parser_tree.specs.declared.tree.BinaryOperator.TheVariants as binaries
use Rattle.om_parser_tree.specs.declared.tree.PostfixOperator.{PostfixOperator}
use Rattle.om_parser_tree.specs.declared.tree.PostfixOperator.TheVariants as postfixes
use Rattle.om_parser_tree.specs.declared.tree.PrefixOperator.{PrefixOperator}
use Rattle.om_parser_tree.specs.declared.tree.PrefixOperator.TheVariants as prefixes
use Rattle.om_parser_tree.specs.declared.tree.Text as texts
use Rattle.om_parser_tree.specs.Formed.{binary_level, level}
use Rattle.om_parser_tree.specs.Limits.{Limits}
use Rattle.om_parser_parts.specs.Reading.{◌>>=◌, choose, Outcome, Reader, syntax, too_deep, take, take_mark, take_number}
use Rattle.om_parser_parts.specs.Reading.{mark_at, name_at}
use Rattle.om_parser_parts.specs.Repetition.{until}
use Rattle.om_parser_tree.specs.Tree.{ExpressionTree, Name, Constant, Text, Paren, Index, Call, Prefix, Postfix, Binary}
use Rattle.om_parser_tree.specs.Tree.{Conditional, Assign, NoArguments, arguments}

-- goes on, unless the token before these is beyond the expression's limit: at least so many tokens are left
-- behind those that it may have
unfoldable pub within : {A : Type 0} → (beyond : ℕ) → Span → List Token → Outcome A → Outcome A
within beyond s rest read = if nat_le beyond (length rest) then read else Err (too_deep s)

-- the token before these belongs to the expression, or is refused at its span
abbrev pub IsTakenWithin : (beyond : ℕ) → Span → List Token → Result ⊤ SourceFault → Type 0
IsTakenWithin beyond s rest (Ok done) = nat_le beyond (length rest) ≡ true
IsTakenWithin beyond s rest (Err e) = (nat_le beyond (length rest) ≡ false) × (e ≡ too_deep s)

-- ---- operators

abbrev pub prefix_of : TokenKind → Option PrefixOperator
prefix_of (kinds.Punctuator punctuators.Plus) = Some prefixes.Plus
prefix_of (kinds.Punctuator punctuators.Minus) = Some prefixes.Minus
prefix_of (kinds.Punctuator punctuators.Bang) = Some prefixes.Not
prefix_of (kinds.Punctuator punctuators.PlusPlus) = Some prefixes.Increment
prefix_of (kinds.Punctuator punctuators.MinusMinus) = Some prefixes.Decrement
prefix_of _ = None

abbrev pub postfix_of : TokenKind → Option PostfixOperator
postfix_of (kinds.Punctuator punctuators.PlusPlus) = Some postfixes.Increment
postfix_of (kinds.Punctuator punctuators.MinusMinus) = Some postfixes.Decrement
postfix_of _ = None

abbrev pub binary_of : TokenKind → Option BinaryOperator
binary_of (kinds.Punctuator punctuators.OrOr) = Some binaries.Or
binary_of (kinds.Punctuator punctuators.AndAnd) = Some binaries.And
binary_of (kinds.Punctuator punctuators.EqualEqual) = Some binaries.Equal
binary_of (kinds.Punctuator punctuators.BangEqual) = Some binaries.NotEqual
binary_of (kinds.Punctuator punctuators.Less) = Some binaries.Less
binary_of (kinds.Punctuator punctuators.Greater) = Some binaries.Greater
binary_of (kinds.Punctuator punctuators.LessEqual) = Some binaries.LessEqual
binary_of (kinds.Punctuator punctuators.GreaterEqual) = Some binaries.GreaterEqual
binary_of (kinds.Punctuator punctuators.Plus) = Some binaries.Add
binary_of (kinds.Punctuator punctuators.Minus) = Some binaries.Subtract
binary_of (kinds.Punctuator punctuators.Star) = Some binaries.Multiply
binary_of (kinds.Punctuator punctuators.Slash) = Some binaries.Divide
binary_of (kinds.Punctuator punctuators.Percent) = Some binaries.Remainder
binary_of _ = None

abbrev pub assign_of : TokenKind → Option AssignOperator
assign_of (kinds.Punctuator punctuators.Equal) = Some assigns.Set
assign_of (kinds.Punctuator punctuators.PlusEqual) = Some assigns.Add
assign_of (kinds.Punctuator punctuators.MinusEqual) = Some assigns.Subtract
assign_of (kinds.Punctuator punctuators.StarEqual) = Some assigns.Multiply
assign_of (kinds.Punctuator punctuators.SlashEqual) = Some assigns.Divide
assign_of (kinds.Punctuator punctuators.PercentEqual) = Some assigns.Remainder
assign_of _ = None

-- an operator, if it is of this level
abbrev pub of_level : ℕ → Option BinaryOperator → Option BinaryOperator
of_level m None = None
of_level m (Some o) = if nat_eq (binary_level o) m then Some o else None

-- the binary operator of a level that a token is
abbrev pub level_operator : ℕ → TokenKind → Option BinaryOperator
level_operator m k = of_level m (binary_of k)

-- an operator and its span, if one stands first
unfoldable pub take_operator : {O : Type 0} → (TokenKind → Option O) → List Token → Option ((O × Span) × List Token)
take_operator f = take (λ t. choose (f t.kind) (λ o. Some (o, t.span)) None)

-- an operator that assigns behind what may be assigned to, where an assignment may stand
unfoldable pub take_assign : Bool → ExpressionTree → List Token → Option ((AssignOperator × Span) × List Token)
take_assign may target ts = if may && nat_le 9 (level target) then take_operator assign_of ts else None

-- the text that a token is
abbrev pub text_of : TokenKind → Span → Option texts.Text
text_of (kinds.Text value) s = Some (record { value = value; span = s })
text_of _ s = None

-- a text, if one stands first
abbrev pub take_any_text : List Token → Option (texts.Text × List Token)
take_any_text = take (λ t. text_of t.kind t.span)

-- a text, where the function is `printf`
unfoldable pub take_text : names.Name → List Token → Option (texts.Text × List Token)
take_text n ts = if bytes_eq n.text (codes "printf") then take_any_text ts else None

-- ---- one step of each part of the grammar, over the readers of its parts

-- the reader of what stands in a bracket, if one may be opened
abbrev pub Inside : Type 0
Inside = Option (Reader ExpressionTree)

-- goes on with that reader; without one the bracket at this span is too deep
abbrev pub enter : {A : Type 0} → Inside → Span → (Reader ExpressionTree → Outcome A) → Outcome A
enter None left go = Err (too_deep left)
enter (Some whole) left go = go whole

-- an expression and the mark that closes its bracket
unfoldable pub closed_by : (beyond : ℕ) → Punctuator → Reader ExpressionTree → Reader (ExpressionTree × Span)
closed_by beyond p whole ts = do
  e ← whole ts
  r ← mark_at p e.1
  within beyond r.0 r.1 (Ok ((e.0, r.0), r.1))

-- the rest of an expression in parentheses, behind the left one
unfoldable pub paren_after : (beyond : ℕ) → Reader ExpressionTree → Span → Reader ExpressionTree
paren_after beyond whole left ts = closed_by beyond punctuators.CloseParen whole ts >>= λ e. Ok
    (Paren left e.0.0 e.0.1, e.1)

-- the rest of an element of an array, behind the left bracket
unfoldable pub index_after : (beyond : ℕ) → Reader ExpressionTree → names.Name → Span → Reader ExpressionTree
index_after beyond whole n left ts = closed_by beyond punctuators.CloseBracket whole ts >>= λ e. Ok
    (Index n left e.0.0 e.0.1, e.1)

-- the first argument of a call of this function
unfoldable pub first_at : (beyond : ℕ) → Reader ExpressionTree → names.Name → Reader ExpressionTree
first_at beyond whole n ts = choose (take_text n ts) (λ t. within beyond t.0.span t.1 (Ok (Text t.0, t.1))) (whole ts)

-- a comma and an argument
unfoldable pub argument_at : (beyond : ℕ) → Reader ExpressionTree → Reader (Option Span × ExpressionTree)
argument_at beyond whole ts = do
  c ← mark_at punctuators.Comma ts
  within beyond c.0 c.1 (whole c.1 >>= λ e. Ok ((Some c.0, e.0), e.1))

-- the arguments of a call, of which the first is read, and the parenthesis behind them
unfoldable pub arguments_at : (beyond : ℕ) → Reader ExpressionTree → ExpressionTree → List Token
    → Outcome (List (Option Span × ExpressionTree) × Span × List Token)
arguments_at beyond whole first ts = until (take_mark punctuators.CloseParen) (argument_at beyond whole) (length ts)
    ts >>= λ m. Ok ((None, first) ∷ m.0, m.1, m.2)

-- the rest of a call with arguments, behind the first one
unfoldable pub arguments_after : (beyond : ℕ) → Reader ExpressionTree → names.Name → Span → ExpressionTree
    → Reader ExpressionTree
arguments_after beyond whole n left first ts = arguments_at beyond whole first ts >>= λ m. within beyond m.1 m.2
    (Ok (Call n left (arguments m.0) m.1, m.2))

-- the rest of a call, behind the left parenthesis (C17 6.5.2.2)
unfoldable pub call_after : (beyond : ℕ) → Reader ExpressionTree → names.Name → Span → Reader ExpressionTree
call_after beyond whole n left ts = choose (take_mark punctuators.CloseParen ts)
    (λ r. within beyond r.0 r.1 (Ok (Call n left NoArguments r.0, r.1)))
    (first_at beyond whole n ts >>= λ a. arguments_after beyond whole n left a.0 a.1)

-- a name, behind which its index or its arguments may stand
unfoldable pub named_after : (beyond : ℕ) → Inside → names.Name → Reader ExpressionTree
named_after beyond inside n ts = choose (take_mark punctuators.OpenBracket ts)
    (λ l. within beyond l.0 l.1 (enter inside l.0 (λ whole. index_after beyond whole n l.0 l.1)))
    (choose (take_mark punctuators.OpenParen ts)
    (λ l. within beyond l.0 l.1 (enter inside l.0 (λ whole. call_after beyond whole n l.0 l.1)))
    (Ok (Name n, ts)))

-- a constant, an expression in parentheses, or what begins with a name (C17 6.5.1, 6.5.2)
unfoldable pub primary_step : (beyond : ℕ) → Inside → Reader ExpressionTree
primary_step beyond inside ts = choose (take_number ts)
    (λ n. within beyond n.0.span n.1 (Ok (Constant n.0, n.1)))
    (choose (take_mark punctuators.OpenParen ts)
    (λ l. within beyond l.0 l.1 (enter inside l.0 (λ whole. paren_after beyond whole l.0 l.1)))
    (name_at ts >>= λ n. within beyond n.0.span n.1 (named_after beyond inside n.0 n.1)))

-- what makes a tree of the tree before these tokens and some of them, if they go on with it
abbrev pub More : Type 0
More = ExpressionTree → List Token → Option (Outcome (ExpressionTree × List Token))

-- a tree, and what goes on with it from the left, at most so often
unfoldable pub chain_at : More → ℕ → ExpressionTree → Reader ExpressionTree
chain_at more zero a ts = Ok (a, ts)
chain_at more (suc k) a ts = choose (more a ts) (λ read. read >>= λ b. chain_at more k b.0 b.1) (Ok (a, ts))

-- an operator behind its operand
unfoldable pub postfix_more : (beyond : ℕ) → More
postfix_more beyond a ts = option_map (λ o. within beyond o.0.1 o.1 (Ok (Postfix a o.0.0 o.0.1, o.1)))
    (take_operator postfix_of ts)

-- an operator of this level and its right operand
unfoldable pub binary_more : (beyond m : ℕ) → Reader ExpressionTree → More
binary_more beyond m operand a ts = option_map
    (λ o. within beyond o.0.1 o.1 (operand o.1 >>= λ b. Ok (Binary a o.0.0 o.0.1 b.0, b.1)))
    (take_operator (level_operator m) ts)

-- an operand with the operators behind it (C17 6.5.2)
unfoldable pub postfix_step : (beyond : ℕ) → Reader ExpressionTree → Reader ExpressionTree
postfix_step beyond primary ts = primary ts >>= λ a. chain_at (postfix_more beyond) (length a.1) a.0 a.1

-- an operator before its operand, or an operand without (C17 6.5.3)
unfoldable pub unary_step : (beyond : ℕ) → Reader ExpressionTree → Inside → Reader ExpressionTree
unary_step beyond again inside ts = choose (take_operator prefix_of ts)
    (λ o. within beyond o.0.1 o.1 (again o.1 >>= λ e. Ok (Prefix o.0.0 o.0.1 e.0, e.1)))
    (postfix_step beyond (primary_step beyond inside) ts)

-- operands and the operators between them, of the tightest so many levels (C17 6.5.5 to 6.5.14)
unfoldable pub binary_at : (beyond : ℕ) → Reader ExpressionTree → (levels : ℕ) → Reader ExpressionTree
binary_at beyond unary zero ts = unary ts
binary_at beyond unary (suc k) ts = binary_at beyond unary k ts >>= λ a. chain_at
    (binary_more beyond (8 - k) (binary_at beyond unary k)) (length a.1) a.0 a.1

-- the rest of a conditional expression, behind the question mark (C17 6.5.15)
unfoldable pub conditional_after : (beyond : ℕ) → (whole choice : Reader ExpressionTree) → ExpressionTree → Span
    → Reader ExpressionTree
conditional_after beyond whole choice c question ts = do
  a ← whole ts
  colon ← mark_at punctuators.Colon a.1
  within beyond colon.0 colon.1 (choice colon.1 >>= λ b. Ok (Conditional c question a.0 colon.0 b.0, b.1))

-- what goes on with an operand: the rest of a conditional expression, of an assignment, or nothing
unfoldable pub expression_after : (beyond : ℕ) → (may_assign : Bool) → (whole choice : Reader ExpressionTree)
    → ExpressionTree → Reader ExpressionTree
expression_after beyond may_assign whole choice c ts = choose (take_mark punctuators.Question ts)
    (λ q. within beyond q.0 q.1 (conditional_after beyond whole choice c q.0 q.1))
    (choose (take_assign may_assign c ts)
    (λ o. within beyond o.0.1 o.1 (whole o.1 >>= λ v. Ok (Assign c o.0.0 o.0.1 v.0, v.1)))
    (Ok (c, ts)))

-- an expression, or one that is no assignment (C17 6.5.15, 6.5.16)
unfoldable pub expression_step : (beyond : ℕ) → (may_assign : Bool) → (operand whole choice : Reader ExpressionTree)
    → Reader ExpressionTree
expression_step beyond may_assign operand whole choice ts = operand ts >>= λ c. expression_after beyond may_assign
    whole choice c.0 c.1

-- ---- the whole, by turns, of which one is taken at each operator before an operand, bracket, question mark,
-- colon and assignment

-- a reader with room for one bracket less
abbrev pub deeper : (ℕ → Reader ExpressionTree) → ℕ → Inside
deeper read zero = None
deeper read (suc room) = Some (read room)

unfoldable mutual
  -- an operand with the operators round it
  pub unary_at : (beyond turns room : ℕ) → Reader ExpressionTree
  unary_at beyond zero room ts = Err (syntax ts)
  unary_at beyond (suc turns) room ts = unary_step beyond (unary_at beyond turns room)
      (deeper (expression_at beyond turns true) room) ts

  -- an expression, or one that is no assignment, with room for so many brackets round a part of it
  pub expression_at : (beyond turns : ℕ) → (may_assign : Bool) → (room : ℕ) → Reader ExpressionTree
  expression_at beyond zero may_assign room ts = Err (syntax ts)
  expression_at beyond (suc turns) may_assign room ts =
      expression_step beyond may_assign
      (binary_at beyond (unary_step beyond (unary_at beyond turns room)
      (deeper (expression_at beyond turns true) room)) LEVELS)
      (expression_at beyond turns true room) (expression_at beyond turns false room) ts

-- an operand with the operators round it, with so many turns left
abbrev pub operand_at : (beyond turns room : ℕ) → Reader ExpressionTree
operand_at beyond turns room = unary_step beyond (unary_at beyond turns room)
    (deeper (expression_at beyond turns true) room)

-- an operand with the operators behind it, with so many turns left
abbrev pub postfix_at : (beyond turns room : ℕ) → Reader ExpressionTree
postfix_at beyond turns room = postfix_step beyond (primary_step beyond (deeper (expression_at beyond turns true) room))

-- an operand behind these operators
abbrev pub prefixed : List (PrefixOperator × Span) → ExpressionTree → ExpressionTree
prefixed [] e = e
prefixed (o ∷ more) e = Prefix o.0 o.1 (prefixed more e)

-- what reading an operand gives, behind these operators
abbrev pub behind : List (PrefixOperator × Span) → Outcome (ExpressionTree × List Token)
    → Outcome (ExpressionTree × List Token)
behind operators read = read >>= λ e. Ok (prefixed operators e.0, e.1)

-- a whole expression, which begins with the first token, with room for so many brackets round a part of it
unfoldable pub whole_at : Limits → (room : ℕ) → Reader ExpressionTree
whole_at l room ts = expression_at (length ts - l.tokens) (length ts) true room ts

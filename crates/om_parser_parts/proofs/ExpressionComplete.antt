-- What a well-formed expression spells is read again as that expression, within the limits.
use Rattle.std.proofs.Common.{◌≡◌, ℕ, zero, suc, ◌-◌, ◌<◌, ◌≤◌, List, [], ◌∷◌, ◌++◌, length, Option, Some, None, Err, refl, sym, ap, subst, ◌∙◌, Bool, true, false, arith, append_assoc, length-append, ◌⊎◌, inl, inr}
use Rattle.std.proofs.lemmas.Bool.{leb-true, leb-false}
use Rattle.std.specs.Prelude.{nat_le, codes}
use Rattle.om_lexer.specs.declared.token.Punctuator.{Punctuator}
use Rattle.om_lexer.specs.declared.token.Punctuator.TheVariants as punctuators
use Rattle.om_lexer.specs.declared.token.Span.{Span}
use Rattle.om_lexer.specs.declared.token.Token.{Token}
use Rattle.om_lexer.specs.declared.token.TokenKind.TheVariants as kinds
use Rattle.om_pragma.specs.declared.clause.Name as names
use Rattle.om_pragma.specs.declared.clause.Number.{Number}
use Rattle.om_parser_tree.specs.declared.tree.AssignOperator.{AssignOperator}
use Rattle.om_parser_tree.specs.declared.tree.BinaryOperator.{BinaryOperator}
use Rattle.om_parser_tree.specs.declared.tree.PostfixOperator.{PostfixOperator}
use Rattle.om_parser_tree.specs.declared.tree.PrefixOperator.{PrefixOperator}
use Rattle.om_parser_tree.specs.declared.tree.Text as texts
use Rattle.om_parser_parts.specs.ExpressionReading.{within, prefix_of, postfix_of, level_operator, take_operator, closed_by, paren_after, index_after, first_at, argument_at, arguments_at, arguments_after, call_after, named_after, primary_step, chain_at, postfix_more, binary_more, unary_step, binary_at, conditional_after, expression_after, expression_step, unary_at, expression_at, operand_at, whole_at}
use Rattle.om_parser_tree.specs.Formed.{level, binary_level, IsExpression, AreArguments, AreFurther, IsTextOf}
use Rattle.om_parser_tree.specs.Limits.{Limits, nesting, arguments_nesting}
use Rattle.om_parser_parts.specs.Reading.{◌>>=◌, Reader, take, take_mark, take_number}
use Rattle.om_parser_parts.specs.Repetition.{until}
use Rattle.om_parser_tree.specs.Spelling.{mark, name, prefix_mark, postfix_mark, binary_mark, assign_mark, expression_spelling, arguments_spelling}
use Rattle.om_parser_tree.specs.Tree.{ExpressionTree, Name, Constant, Text, Paren, Index, Call, Prefix, Postfix, Binary, Conditional, Assign, ArgumentsTree, NoArguments, Argument, arguments}
use Rattle.om_parser_parts.specs.Outcomes.{ok, some}
use Rattle.om_parser_parts.specs.Again.{take_mark_again, take_number_again, mark_again, name_again, take_operator_again, take_operator_here, deep_at, bind_answer, narrower, within_answer}
use Rattle.om_parser_parts.specs.Laws.{Stopping, IsAnswer}
use Rattle.om_parser_parts.proofs.ExpressionSound.{grade}
use Rattle.om_parser_parts.proofs.ExpressionTokens.{following, other_mark, mark_none, no_mark, no_text_here, text_again, binary_most, binary_least, expression_some, prefix_again, postfix_again, level_again, binary_strength, postfix_strength, assign_strength, take_assign_again, Fits, primaries, postfixed, binaries_of, expressions, Again, Begins, postfix_mores, binary_mores, ends, no_binary, postfix_from, unary_from, binary_from, weaken, up, expression_from}

-- ---- what stands in brackets

closed_again : (beyond room : ℕ) (whole : Reader ExpressionTree) (p : Punctuator) (t : ExpressionTree) (right : Span) (rest : List Token)
    → IsAnswer (Fits beyond room t (mark p right ∷ rest)) (whole (expression_spelling t ++ mark p right ∷ rest)) (t, mark p right ∷ rest)
    → IsAnswer (Fits beyond room t rest) (closed_by beyond p whole (expression_spelling t ++ mark p right ∷ rest)) ((t, right), rest)
unfolding closed_by
closed_again beyond room whole p t right rest inner =
    bind_answer (whole (expression_spelling t ++ mark p right ∷ rest)) _ (t, mark p right ∷ rest) ((t, right), rest) (λ w. (w.0, omega (arith, w.1))) inner
    (rw (mark_again p right rest) (within_answer beyond right rest (ok ((t, right), rest)) ((t, right), rest) (λ w. w.1) (inl refl)))

name_read : (n : names.Name) → Again primaries 11 (Name n)
unfolding primary_step named_after expression_spelling take_number take_mark take
name_read n beyond turns room rest len lt =
    rw (name_again n rest, mark_none punctuators.OpenBracket rest lt, mark_none punctuators.OpenParen rest lt) (within_answer beyond n.span rest (ok (Name n, rest)) (Name n, rest) (λ w. w.1) (inl refl))

constant_read : (n : Number) → Again primaries 11 (Constant n)
unfolding primary_step expression_spelling
constant_read n beyond turns room rest len lt = rw (take_number_again n rest) (within_answer beyond n.span rest (ok (Constant n, rest)) (Constant n, rest) (λ w. w.1) (inl refl))

paren_read : (left : Span) (t : ExpressionTree) (right : Span) → Again (expressions true) 1 t → Again primaries 11 (Paren left t right)
unfolding primary_step paren_after expression_spelling take_number take
paren_read left t right again beyond zero room rest len lt = absurd (omega (arith, len, length-append (expression_spelling t) (mark punctuators.CloseParen right ∷ [])))
paren_read left t right again beyond (suc turns) zero rest len lt =
    rw (append_assoc, take_mark_again punctuators.OpenParen left) (within_answer beyond left _ _ (Paren left t right, rest) (λ w. absurd (omega (arith, w.0))) (inr (deep_at left, refl, λ w. omega (arith, w.0))))
paren_read left t right again beyond (suc turns) (suc room) rest len lt =
    let behind : List Token = mark punctuators.CloseParen right ∷ rest in
    let whole = expression_at beyond (suc turns) true room in
    let inner = again beyond turns room behind (omega (arith, len, length-append (expression_spelling t) (mark punctuators.CloseParen right ∷ []))) (omega arith) in
    let closed = closed_again beyond room whole punctuators.CloseParen t right rest inner in
    rw (append_assoc, take_mark_again punctuators.OpenParen left) (within_answer beyond left _ _ (Paren left t right, rest) (λ w. omega (arith, w.1, length-append (expression_spelling t) behind))
    (bind_answer (closed_by beyond punctuators.CloseParen whole (expression_spelling t ++ behind)) _ ((t, right), rest) (Paren left t right, rest) (λ w. (omega (arith, w.0), w.1)) closed (inl refl)))

name_no_number : (n : names.Name) (ts : List Token) → take_number (name n ∷ ts) ≡ None
unfolding take_number take
name_no_number n ts = refl

name_no_paren : (n : names.Name) (ts : List Token) → take_mark punctuators.OpenParen (name n ∷ ts) ≡ None
unfolding take_mark take
name_no_paren n ts = refl

index_read : (n : names.Name) (left : Span) (t : ExpressionTree) (right : Span) → Again (expressions true) 1 t → Again primaries 11 (Index n left t right)
unfolding primary_step named_after index_after expression_spelling
index_read n left t right again beyond zero room rest len lt = absurd (omega (arith, len, length-append (expression_spelling t) (mark punctuators.CloseBracket right ∷ [])))
index_read n left t right again beyond (suc turns) zero rest len lt =
    rw (append_assoc, name_no_number n, name_no_paren n, name_again n, take_mark_again punctuators.OpenBracket left) (within_answer beyond n.span _ _ (Index n left t right, rest) (λ w. absurd (omega (arith, w.0))) (within_answer beyond left _ _ (Index n left t right, rest) (λ w. absurd (omega (arith, w.0))) (inr (deep_at left, refl, λ w. omega (arith, w.0)))))
index_read n left t right again beyond (suc turns) (suc room) rest len lt =
    let behind : List Token = mark punctuators.CloseBracket right ∷ rest in
    let whole = expression_at beyond (suc turns) true room in
    let inner = again beyond turns room behind (omega (arith, len, length-append (expression_spelling t) (mark punctuators.CloseBracket right ∷ []))) (omega arith) in
    let closed = closed_again beyond room whole punctuators.CloseBracket t right rest inner in
    rw (append_assoc, name_no_number n, name_no_paren n, name_again n, take_mark_again punctuators.OpenBracket left) (within_answer beyond n.span _ _ (Index n left t right, rest) (λ w. omega (arith, w.1, length-append (expression_spelling t) behind)) (within_answer beyond left _ _ (Index n left t right, rest) (λ w. omega (arith, w.1, length-append (expression_spelling t) behind))
    (bind_answer (closed_by beyond punctuators.CloseBracket whole (expression_spelling t ++ behind)) _ ((t, right), rest) (Index n left t right, rest) (λ w. (omega (arith, w.0), w.1)) closed (inl refl))))

-- ---- calls

-- the arguments as a list
abbrev listed : ArgumentsTree → List (Option Span × ExpressionTree)
listed NoArguments = []
listed (Argument comma e rest) = (comma, e) ∷ listed rest

listed_again : (values : ArgumentsTree) → arguments (listed values) ≡ values
listed_again NoArguments = refl
listed_again (Argument comma e rest) = ap (Argument comma e) (listed_again rest)

abbrev FitsArguments : (beyond room : ℕ) → ArgumentsTree → List Token → Type 0
FitsArguments beyond room values rest = (arguments_nesting values ≤ room) × (beyond ≤ length rest)

-- the arguments behind the first are read again, up to the parenthesis
abbrev AreAgain : ArgumentsTree → Type 0
AreAgain values = (beyond turns room k : ℕ) (right : Span) (rest : List Token) → length (arguments_spelling values) ≤ suc turns → length (arguments_spelling values) < k
    → IsAnswer (FitsArguments beyond room values rest) (until (take_mark punctuators.CloseParen) (argument_at beyond (expression_at beyond (suc turns) true room)) k (arguments_spelling values ++ mark punctuators.CloseParen right ∷ rest)) (listed values, right, rest)

no_arguments_again : AreAgain NoArguments
unfolding until arguments_spelling
no_arguments_again beyond turns room zero right rest len lt = absurd (omega arith)
no_arguments_again beyond turns room (suc k) right rest len lt = inl (rw (take_mark_again punctuators.CloseParen right rest) refl)

-- a comma or the parenthesis stands behind an argument
after_argument : (values : ArgumentsTree) → AreFurther values → (right : Span) (rest : List Token) → following (arguments_spelling values ++ mark punctuators.CloseParen right ∷ rest) < 1
unfolding arguments_spelling IsExpression
after_argument NoArguments f right rest = omega arith
after_argument (Argument None e more) f right rest = absurd f
after_argument (Argument (Some comma) e more) f right rest = omega arith

argument_again : (comma : Span) (e : ExpressionTree) (more : ArgumentsTree) → AreFurther more → Again (expressions true) 1 e → AreAgain more → AreAgain (Argument (Some comma) e more)
unfolding until argument_at arguments_spelling
argument_again comma e more f again others beyond turns room zero right rest len lt = absurd (omega arith)
argument_again comma e more f again others beyond turns room (suc k) right rest len lt =
    let close : List Token = mark punctuators.CloseParen right ∷ rest in
    let behind : List Token = arguments_spelling more ++ close in
    let sum = length-append (expression_spelling e) (arguments_spelling more) in
    let whole = expression_at beyond (suc turns) true room in
    let inner = again beyond turns room behind (omega (arith, len, sum)) (after_argument more f right rest) in
    let next = others beyond turns room k right rest (omega (arith, len, sum)) (omega (arith, lt, sum)) in
    let spelled : mark punctuators.Comma comma ∷ (expression_spelling e ++ behind) ≡ arguments_spelling (Argument (Some comma) e more) ++ close = ap (λ w. mark punctuators.Comma comma ∷ w) (sym (append_assoc (expression_spelling e) (arguments_spelling more) close)) in
    subst (λ us. IsAnswer (FitsArguments beyond room (Argument (Some comma) e more) rest) (until (take_mark punctuators.CloseParen) (argument_at beyond whole) (suc k) us) ((Some comma, e) ∷ listed more, right, rest)) spelled
    (rw (other_mark punctuators.CloseParen punctuators.Comma comma (expression_spelling e ++ behind) (λ same. absurd cc), mark_again punctuators.Comma comma (expression_spelling e ++ behind))
    (bind_answer (within beyond comma (expression_spelling e ++ behind) (whole (expression_spelling e ++ behind) >>= λ x. ok ((Some comma, x.0), x.1))) _ ((Some comma, e), behind) ((Some comma, e) ∷ listed more, right, rest) (λ w. w)
    (within_answer beyond comma (expression_spelling e ++ behind) _ ((Some comma, e), behind) (λ w. omega (arith, w.1, length-append (expression_spelling e) behind, length-append (arguments_spelling more) close))
    (bind_answer (whole (expression_spelling e ++ behind)) _ (e, behind) ((Some comma, e), behind) (λ w. (omega (arith, w.0), omega (arith, w.1, length-append (arguments_spelling more) close))) inner (inl refl)))
    (bind_answer (until (take_mark punctuators.CloseParen) (argument_at beyond whole) k behind) _ (listed more, right, rest) ((Some comma, e) ∷ listed more, right, rest) (λ w. (omega (arith, w.0), w.1)) next (inl refl))))

-- the first argument is read again
abbrev FirstAgain : names.Name → ExpressionTree → Type 0
FirstAgain n e = (beyond turns room : ℕ) (rest : List Token) → length (expression_spelling e) ≤ suc turns → following rest < 1 → IsAnswer (Fits beyond room e rest) (first_at beyond (expression_at beyond (suc turns) true room) n (expression_spelling e ++ rest)) (e, rest)

first_expression : (n : names.Name) (e : ExpressionTree) → IsExpression e → Again (expressions true) 1 e → FirstAgain n e
unfolding first_at
first_expression n e f again beyond turns room rest len lt = rw (no_text_here n e f rest) (again beyond turns room rest len lt)

first_text : (n : names.Name) (t : texts.Text) → n.text ≡ codes "printf" → FirstAgain n (Text t)
unfolding first_at expression_spelling
first_text n t named beyond turns room rest len lt = rw (text_again n t rest named) (within_answer beyond t.span rest (ok (Text t, rest)) (Text t, rest) (λ w. w.1) (inl refl))

call_read : (n : names.Name) (left : Span) (values : ArgumentsTree) (right : Span)
    → ((beyond turns room : ℕ) (rest : List Token) → length (arguments_spelling values) ≤ suc turns → IsAnswer (FitsArguments beyond room values rest) (call_after beyond (expression_at beyond (suc turns) true room) n left (arguments_spelling values ++ mark punctuators.CloseParen right ∷ rest)) (Call n left values right, rest))
    → Again primaries 11 (Call n left values right)
unfolding primary_step named_after expression_spelling
call_read n left values right again beyond zero room rest len lt = absurd (omega (arith, len, length-append (arguments_spelling values) (mark punctuators.CloseParen right ∷ [])))
call_read n left values right again beyond (suc turns) zero rest len lt =
    let behind : List Token = arguments_spelling values ++ mark punctuators.CloseParen right ∷ rest in
    rw (append_assoc, name_no_number n (mark punctuators.OpenParen left ∷ behind), name_no_paren n (mark punctuators.OpenParen left ∷ behind), name_again n (mark punctuators.OpenParen left ∷ behind), other_mark punctuators.OpenBracket punctuators.OpenParen left behind (λ same. absurd cc), take_mark_again punctuators.OpenParen left behind)
    (within_answer beyond n.span _ _ (Call n left values right, rest) (λ w. absurd (omega (arith, w.0))) (within_answer beyond left _ _ (Call n left values right, rest) (λ w. absurd (omega (arith, w.0))) (inr (deep_at left, refl, λ w. omega (arith, w.0)))))
call_read n left values right again beyond (suc turns) (suc room) rest len lt =
    let behind : List Token = arguments_spelling values ++ mark punctuators.CloseParen right ∷ rest in
    let sum = length-append (arguments_spelling values) (mark punctuators.CloseParen right ∷ rest) in
    let inner = again beyond turns room rest (omega (arith, len, length-append (arguments_spelling values) (mark punctuators.CloseParen right ∷ []))) in
    rw (append_assoc, name_no_number n (mark punctuators.OpenParen left ∷ behind), name_no_paren n (mark punctuators.OpenParen left ∷ behind), name_again n (mark punctuators.OpenParen left ∷ behind), other_mark punctuators.OpenBracket punctuators.OpenParen left behind (λ same. absurd cc), take_mark_again punctuators.OpenParen left behind)
    (within_answer beyond n.span _ _ (Call n left values right, rest) (λ w. omega (arith, w.1, sum)) (within_answer beyond left _ _ (Call n left values right, rest) (λ w. omega (arith, w.1, sum)) (narrower _ (Call n left values right, rest) (λ w. (omega (arith, w.0), w.1)) inner)))

-- a call without arguments
empty_call : (n : names.Name) (left right : Span) (beyond turns room : ℕ) (rest : List Token) → IsAnswer (FitsArguments beyond room NoArguments rest) (call_after beyond (expression_at beyond (suc turns) true room) n left (arguments_spelling NoArguments ++ mark punctuators.CloseParen right ∷ rest)) (Call n left NoArguments right, rest)
unfolding call_after arguments_spelling
empty_call n left right beyond turns room rest = rw (take_mark_again punctuators.CloseParen right rest) (within_answer beyond right rest (ok (Call n left NoArguments right, rest)) (Call n left NoArguments right, rest) (λ w. w.1) (inl refl))

-- a call with arguments
full_call : (n : names.Name) (left right : Span) (e : ExpressionTree) (more : ArgumentsTree) → AreFurther more → FirstAgain n e → AreAgain more → (beyond turns room : ℕ) (rest : List Token) → length (arguments_spelling (Argument None e more)) ≤ suc turns
    → IsAnswer (FitsArguments beyond room (Argument None e more) rest) (call_after beyond (expression_at beyond (suc turns) true room) n left (arguments_spelling (Argument None e more) ++ mark punctuators.CloseParen right ∷ rest)) (Call n left (Argument None e more) right, rest)
unfolding call_after arguments_after arguments_at arguments_spelling
full_call n left right e more f first others beyond turns room rest len =
    let close : List Token = mark punctuators.CloseParen right ∷ rest in
    let behind : List Token = arguments_spelling more ++ close in
    let sum = length-append (expression_spelling e) (arguments_spelling more) in
    let end = length-append (arguments_spelling more) close in
    let whole = expression_at beyond (suc turns) true room in
    let inner = first beyond turns room behind (omega (arith, len, sum)) (after_argument more f right rest) in
    let next = others beyond turns room (length behind) right rest (omega (arith, len, sum)) (omega (arith, end)) in
    let spelled : expression_spelling e ++ behind ≡ arguments_spelling (Argument None e more) ++ close = sym (append_assoc (expression_spelling e) (arguments_spelling more) close) in
    subst (λ us. IsAnswer (FitsArguments beyond room (Argument None e more) rest) (call_after beyond whole n left us) (Call n left (Argument None e more) right, rest)) spelled
    (rw (no_mark punctuators.CloseParen refl e behind)
    (bind_answer (first_at beyond whole n (expression_spelling e ++ behind)) _ (e, behind) (Call n left (Argument None e more) right, rest) (λ w. (omega (arith, w.0), omega (arith, w.1, end))) inner
    (bind_answer (until (take_mark punctuators.CloseParen) (argument_at beyond whole) (length behind) behind >>= λ m. ok ((None, e) ∷ m.0, m.1, m.2)) _ ((None, e) ∷ listed more, right, rest) (Call n left (Argument None e more) right, rest) (λ w. w)
    (bind_answer (until (take_mark punctuators.CloseParen) (argument_at beyond whole) (length behind) behind) _ (listed more, right, rest) ((None, e) ∷ listed more, right, rest) (λ w. (omega (arith, w.0), w.1)) next (inl refl))
    (rw (listed_again more) (within_answer beyond right rest _ (Call n left (Argument None e more) right, rest) (λ w. w.1) (inl refl))))))

-- ---- operators

postfix_read : (e : ExpressionTree) (o : PostfixOperator) (at : Span) → Begins postfixed postfix_mores 10 e → Begins postfixed postfix_mores 10 (Postfix e o at)
unfolding chain_at postfix_more within expression_spelling
postfix_read e o at begins beyond turns room rest len lt =
    rw append_assoc (elim (begins beyond turns room (mark (postfix_mark o) at ∷ rest) (omega (arith, len, length-append (expression_spelling e) (mark (postfix_mark o) at ∷ []))) (omega (arith, postfix_strength o))) [
      | inr (stop, stops, never) ↦ inr (stop, stops, λ w. never (omega (arith, w.0), omega (arith, w.1)))
      | inl (zero, le, same) ↦ absurd (omega arith)
      | inl (suc k, le, same) ↦ go k le same (nat_le beyond (length rest)) refl
    ])
  where
    go : (k : ℕ) → length (mark (postfix_mark o) at ∷ rest) ≤ suc k → postfixed beyond turns room (expression_spelling e ++ mark (postfix_mark o) at ∷ rest) ≡ chain_at (postfix_more beyond) (suc k) e (mark (postfix_mark o) at ∷ rest) → (b : Bool) → nat_le beyond (length rest) ≡ b
        → ((k : ℕ) × (length rest ≤ k) × (postfixed beyond turns room (expression_spelling e ++ mark (postfix_mark o) at ∷ rest) ≡ chain_at (postfix_more beyond) k (Postfix e o at) rest)) ⊎ ((stop : Stopping) × (postfixed beyond turns room (expression_spelling e ++ mark (postfix_mark o) at ∷ rest) ≡ Err stop.fault) × (Fits beyond room (Postfix e o at) rest → ⊥))
    go k le same true is = inl (k, omega (arith, le), same ∙ rw (take_operator_again postfix_of postfix_mark postfix_again o at rest, is) refl)
    go k le same false is = inr (deep_at at, same ∙ rw (take_operator_again postfix_of postfix_mark postfix_again o at rest, is) refl, λ w. let over = leb-false _ _ is in omega (arith, w.1, over))

prefix_read : (o : PrefixOperator) (at : Span) (e : ExpressionTree) → Again operand_at 9 e → Again operand_at 9 (Prefix o at e)
unfolding unary_step unary_at expression_spelling
prefix_read o at e again beyond zero room rest len lt = absurd (omega (arith, len, expression_some e))
prefix_read o at e again beyond (suc turns) room rest len lt =
    let inner = again beyond turns room rest (omega (arith, len)) lt in
    rw (take_operator_again prefix_of prefix_mark prefix_again o at (expression_spelling e ++ rest))
    (within_answer beyond at _ _ (Prefix o at e, rest) (λ w. omega (arith, w.1, length-append (expression_spelling e) rest))
    (bind_answer (operand_at beyond turns room (expression_spelling e ++ rest)) _ (e, rest) (Prefix o at e, rest) (λ w. w) inner (inl refl)))

binary_read : (k : ℕ) → k ≤ 5 → (a : ExpressionTree) (o : BinaryOperator) (at : Span) (b : ExpressionTree) → binary_level o ≡ 8 - k → Begins (binaries_of (suc k)) (binary_mores k) (8 - k) a → Again (binaries_of k) (9 - k) b → Begins (binaries_of (suc k)) (binary_mores k) (8 - k) (Binary a o at b)
unfolding chain_at binary_more within expression_spelling
binary_read k le a o at b tight begins again beyond turns room rest len lt =
    let behind : List Token = mark (binary_mark o) at ∷ (expression_spelling b ++ rest) in
    let sum = length-append (expression_spelling a) (mark (binary_mark o) at ∷ expression_spelling b) in
    let end = length-append (expression_spelling b) rest in
    let inner = again beyond turns room rest (omega (arith, len, sum)) (omega (arith, lt, le)) in
    rw append_assoc (elim (begins beyond turns room behind (omega (arith, len, sum)) (omega (arith, binary_strength o, tight))) [
      | inr (stop, stops, never) ↦ inr (stop, stops, λ w. never (omega (arith, w.0), omega (arith, w.1, end)))
      | inl (zero, more, same) ↦ absurd (omega arith)
      | inl (suc n, more, same) ↦ go n more same inner (nat_le beyond (length (expression_spelling b ++ rest))) refl
    ])
  where
    taken : take_operator (level_operator (8 - k)) (mark (binary_mark o) at ∷ (expression_spelling b ++ rest)) ≡ some ((o, at), expression_spelling b ++ rest)
    taken = take_operator_here (level_operator (8 - k)) (binary_mark o) o at (expression_spelling b ++ rest) (subst (λ m. level_operator m (kinds.Punctuator (binary_mark o)) ≡ some o) tight (level_again o))

    go : (n : ℕ) → length (mark (binary_mark o) at ∷ (expression_spelling b ++ rest)) ≤ suc n → binaries_of (suc k) beyond turns room (expression_spelling a ++ mark (binary_mark o) at ∷ (expression_spelling b ++ rest)) ≡ chain_at (binary_mores k beyond turns room) (suc n) a (mark (binary_mark o) at ∷ (expression_spelling b ++ rest))
        → IsAnswer (Fits beyond room b rest) (binaries_of k beyond turns room (expression_spelling b ++ rest)) (b, rest)
        → (c : Bool) → nat_le beyond (length (expression_spelling b ++ rest)) ≡ c
        → ((m : ℕ) × (length rest ≤ m) × (binaries_of (suc k) beyond turns room (expression_spelling a ++ mark (binary_mark o) at ∷ (expression_spelling b ++ rest)) ≡ chain_at (binary_mores k beyond turns room) m (Binary a o at b) rest)) ⊎ ((stop : Stopping) × (binaries_of (suc k) beyond turns room (expression_spelling a ++ mark (binary_mark o) at ∷ (expression_spelling b ++ rest)) ≡ Err stop.fault) × (Fits beyond room (Binary a o at b) rest → ⊥))
    go n more same inner false is = inr (deep_at at, same ∙ rw (taken, is) refl, λ w. let over = leb-false _ _ is in omega (arith, w.1, over, length-append (expression_spelling b) rest))
    go n more same (inl e) true is = inl (n, omega (arith, more, length-append (expression_spelling b) rest), same ∙ rw (taken, is, e) refl)
    go n more same (inr (stop, e, never)) true is = inr (stop, same ∙ rw (taken, is, e) refl, λ w. never (omega (arith, w.0), w.1))

-- ---- conditional expressions and assignments

conditional_read : (c : ExpressionTree) (question : Span) (a : ExpressionTree) (colon : Span) (b : ExpressionTree) → Again (binaries_of 6) 3 c → Again (expressions true) 1 a → Again (expressions false) 2 b → (may : Bool) → Again (expressions may) (grade may) (Conditional c question a colon b)
unfolding expression_at expression_step expression_after conditional_after expression_spelling
conditional_read c question a colon b cs firsts bs may beyond zero room rest len lt = absurd (omega (arith, len, expression_some c, expression_some a, length-append (expression_spelling c) (mark punctuators.Question question ∷ (expression_spelling a ++ mark punctuators.Colon colon ∷ expression_spelling b))))
conditional_read c question a colon b cs firsts bs may beyond (suc turns) room rest len lt =
    let last : List Token = expression_spelling b ++ rest in
    let middle : List Token = expression_spelling a ++ mark punctuators.Colon colon ∷ last in
    let ts : List Token = expression_spelling c ++ mark punctuators.Question question ∷ middle in
    let spelled : ts ≡ expression_spelling (Conditional c question a colon b) ++ rest = simp append_assoc in
    let whole = expression_at beyond (suc turns) true room in
    let choice = expression_at beyond (suc turns) false room in
    let one = length-append (expression_spelling c) (mark punctuators.Question question ∷ (expression_spelling a ++ mark punctuators.Colon colon ∷ expression_spelling b)) in
    let two = length-append (expression_spelling a) (mark punctuators.Colon colon ∷ expression_spelling b) in
    let three = length-append (expression_spelling a) (mark punctuators.Colon colon ∷ last) in
    let four = length-append (expression_spelling b) rest in
    let some_c = expression_some c in
    subst (λ us. IsAnswer (Fits beyond room (Conditional c question a colon b) rest) (expression_at beyond (suc (suc turns)) may room us) (Conditional c question a colon b, rest)) spelled
    (bind_answer (binaries_of 6 beyond (suc turns) room ts) _ (c, mark punctuators.Question question ∷ middle) (Conditional c question a colon b, rest) (λ w. (omega (arith, w.0), omega (arith, w.1, three, four))) (cs beyond (suc turns) room (mark punctuators.Question question ∷ middle) (omega (arith, len, one)) (omega arith))
    (rw (take_mark_again punctuators.Question question middle) (within_answer beyond question middle _ (Conditional c question a colon b, rest) (λ w. omega (arith, w.1, three, four))
    (bind_answer (whole middle) _ (a, mark punctuators.Colon colon ∷ last) (Conditional c question a colon b, rest) (λ w. (omega (arith, w.0), omega (arith, w.1, four))) (firsts beyond turns room (mark punctuators.Colon colon ∷ last) (omega (arith, len, one, two, some_c)) (omega arith))
    (rw (mark_again punctuators.Colon colon last) (within_answer beyond colon last _ (Conditional c question a colon b, rest) (λ w. omega (arith, w.1, four))
    (bind_answer (choice last) _ (b, rest) (Conditional c question a colon b, rest) (λ w. (omega (arith, w.0), w.1)) (bs beyond turns room rest (omega (arith, len, one, two, some_c)) (least may lt)) (inl refl))))))))
  where
    least : (may : Bool) → following rest < grade may → following rest < 2
    least true lt = omega arith
    least false lt = omega arith

assign_read : (a : ExpressionTree) (o : AssignOperator) (at : Span) (b : ExpressionTree) → 9 ≤ level a → Again (binaries_of 6) 3 a → Again (expressions true) 1 b → Again (expressions true) 1 (Assign a o at b)
unfolding expression_at expression_step expression_after expression_spelling
assign_read a o at b le firsts bs beyond zero room rest len lt = absurd (omega (arith, len, expression_some a, expression_some b, length-append (expression_spelling a) (mark (assign_mark o) at ∷ expression_spelling b)))
assign_read a o at b le firsts bs beyond (suc turns) room rest len lt =
    let value : List Token = expression_spelling b ++ rest in
    let behind : List Token = mark (assign_mark o) at ∷ value in
    let ts : List Token = expression_spelling a ++ behind in
    let spelled : ts ≡ expression_spelling (Assign a o at b) ++ rest = simp append_assoc in
    let whole = expression_at beyond (suc turns) true room in
    let one = length-append (expression_spelling a) (mark (assign_mark o) at ∷ expression_spelling b) in
    let end = length-append (expression_spelling b) rest in
    let some_a = expression_some a in
    subst (λ us. IsAnswer (Fits beyond room (Assign a o at b) rest) (expression_at beyond (suc (suc turns)) true room us) (Assign a o at b, rest)) spelled
    (bind_answer (binaries_of 6 beyond (suc turns) room ts) _ (a, behind) (Assign a o at b, rest) (λ w. (omega (arith, w.0), omega (arith, w.1, end))) (firsts beyond (suc turns) room behind (omega (arith, len, one)) (omega (arith, assign_strength o)))
    (rw (mark_none punctuators.Question behind (omega (arith, assign_strength o)), take_assign_again a o at value le) (within_answer beyond at value _ (Assign a o at b, rest) (λ w. omega (arith, w.1, end))
    (bind_answer (whole value) _ (b, rest) (Assign a o at b, rest) (λ w. (omega (arith, w.0), w.1)) (bs beyond turns room rest (omega (arith, len, one, some_a)) lt) (inl refl)))))

-- ---- every well-formed tree

record IsReadAgain (t : ExpressionTree) : Type 0 where
  postfix : 10 ≤ level t → Begins postfixed postfix_mores 10 t
  unary : 9 ≤ level t → Again operand_at 9 t
  begins : (k : ℕ) → k ≤ 5 → 8 - k ≤ level t → Begins (binaries_of (suc k)) (binary_mores k) (8 - k) t
  exact : (k : ℕ) → k ≤ 6 → 9 - k ≤ level t → Again (binaries_of k) (9 - k) t
  whole : (may : Bool) → grade may ≤ level t → Again (expressions may) (grade may) t

of_unary : (t : ExpressionTree) → (10 ≤ level t → Begins postfixed postfix_mores 10 t) → Again operand_at 9 t → IsReadAgain t
unfolding binary_at
of_unary t postfix again =
    let zero_level : Again (binaries_of 0) (9 - 0) t = λ beyond turns room rest len lt. again beyond turns room rest len (omega (arith, lt)) in
    let exact : (k : ℕ) → k ≤ 6 → Again (binaries_of k) (9 - k) t = λ k le. up t 0 k (omega arith) le zero_level in
    record {
      postfix = postfix;
      unary = λ le. again;
      begins = λ k le tight. binary_from k t le (exact k (omega (arith, le)));
      exact = λ k le tight. exact k le;
      whole = λ may tight. expression_from may t (weaken (binaries_of 6) (9 - 6) 3 t (omega arith) (exact 6 (omega arith)));
    }

of_primary : (t : ExpressionTree) → IsExpression t → 10 ≤ level t → Again primaries 11 t → IsReadAgain t
of_primary t f le again =
    let begins = postfix_from t again in
    of_unary t (λ tight. begins) (weaken operand_at 10 9 t (omega arith) (unary_from t f le begins))

of_binary : (k : ℕ) → k ≤ 5 → (t : ExpressionTree) → level t ≡ 8 - k → Begins (binaries_of (suc k)) (binary_mores k) (8 - k) t → IsReadAgain t
of_binary own le t tight begins =
    let own_exact : Again (binaries_of (suc own)) (9 - suc own) t = weaken (binaries_of (suc own)) (8 - own) (9 - suc own) t (omega arith) (ends (binaries_of (suc own)) (binary_mores own) (8 - own) t (no_binary own) begins) in
    let exact : (k : ℕ) → k ≤ 6 → suc own ≤ k → Again (binaries_of k) (9 - k) t = λ k most least. up t (suc own) k least most own_exact in
    record {
      postfix = λ at_least. absurd (omega (arith, tight, at_least));
      unary = λ at_least. absurd (omega (arith, tight, at_least));
      begins = λ k most at_least. choose_own k most at_least exact (nat_le (suc own) k) refl;
      exact = λ k most at_least. exact k most (omega (arith, tight, at_least, le, most));
      whole = λ may at_least. expression_from may t (weaken (binaries_of 6) (9 - 6) 3 t (omega arith) (exact 6 (omega arith) (omega (arith, le))));
    }
  where
    choose_own : (k : ℕ) → k ≤ 5 → 8 - k ≤ level t → ((k : ℕ) → k ≤ 6 → suc own ≤ k → Again (binaries_of k) (9 - k) t) → (b : Bool) → nat_le (suc own) k ≡ b → Begins (binaries_of (suc k)) (binary_mores k) (8 - k) t
    choose_own k most at_least exact true is = binary_from k t most (exact k (omega (arith, most)) (leb-true _ _ is))
    choose_own k most at_least exact false is =
        let same : own ≡ k = let lt = leb-false _ _ is in omega (arith, lt, tight, at_least, le, most) in
        subst (λ n. Begins (binaries_of (suc n)) (binary_mores n) (8 - n) t) same begins

level_least : (t : ExpressionTree) → 1 ≤ level t
level_least (Name n) = omega arith
level_least (Constant n) = omega arith
level_least (Text t) = omega arith
level_least (Paren left e right) = omega arith
level_least (Index n left e right) = omega arith
level_least (Call n left values right) = omega arith
level_least (Prefix o at e) = omega arith
level_least (Postfix e o at) = omega arith
level_least (Binary a o at b) = omega (arith, binary_least o)
level_least (Conditional c question a colon b) = omega arith
level_least (Assign a o at b) = omega arith

first_read : (n : names.Name) (e : ExpressionTree) → IsExpression e ⊎ IsTextOf n e → (IsExpression e → IsReadAgain e) → FirstAgain n e
first_read n (Text t) (inr named) again = first_text n t named
first_read n _ (inr other) again = absurd other
first_read n e (inl f) again = first_expression n e f ((again f).whole true (level_least e))

assigned : {t : ExpressionTree} → Again (expressions true) 1 t → (may : Bool) → grade may ≤ 1 → Again (expressions may) (grade may) t
assigned again true le = again
assigned again false le = absurd (omega arith)

mutual
  unfolding IsExpression

  read_again : (t : ExpressionTree) → IsExpression t → IsReadAgain t
  read_again (Name n) f = of_primary (Name n) f (omega arith) (name_read n)
  read_again (Constant n) f = of_primary (Constant n) f (omega arith) (constant_read n)
  read_again (Text t) f = absurd f
  read_again (Paren left e right) f = of_primary (Paren left e right) f (omega arith) (paren_read left e right ((read_again e f).whole true (level_least e)))
  read_again (Index n left e right) f = of_primary (Index n left e right) f (omega arith) (index_read n left e right ((read_again e f).whole true (level_least e)))
  read_again (Call n left values right) f = of_primary (Call n left values right) f (omega arith) (call_read n left values right (values_again n left values right f))
  read_again (Prefix o at e) f = of_unary (Prefix o at e) (λ le. absurd (omega arith)) (prefix_read o at e ((read_again e f.0).unary f.1))
  read_again (Postfix e o at) f =
      let begins = postfix_read e o at ((read_again e f.0).postfix f.1) in
      of_unary (Postfix e o at) (λ le. begins) (weaken operand_at 10 9 (Postfix e o at) (omega arith) (unary_from (Postfix e o at) f (omega arith) begins))
  read_again (Binary a o at b) f =
      let k = 8 - binary_level o in
      let le : k ≤ 5 = omega (arith, binary_least o) in
      let tight : binary_level o ≡ 8 - k = omega (arith, binary_most o) in
      of_binary k le (Binary a o at b) tight (binary_read k le a o at b tight ((read_again a f.0).begins k le (omega (arith, tight, f.2))) ((read_again b f.1).exact k (omega (arith, le)) (omega (arith, tight, f.3, binary_most o))))
  read_again (Conditional c question a colon b) f = record {
    postfix = λ le. absurd (omega arith);
    unary = λ le. absurd (omega arith);
    begins = λ k le tight. absurd (omega (arith, le, tight));
    exact = λ k le tight. absurd (omega (arith, le, tight));
    whole = λ may le. conditional_read c question a colon b (weaken (binaries_of 6) (9 - 6) 3 c (omega arith) ((read_again c f.0).exact 6 (omega arith) (omega (arith, f.3)))) ((read_again a f.1).whole true (level_least a)) ((read_again b f.2).whole false f.4) may;
  }
  read_again (Assign a o at b) f = record {
    postfix = λ le. absurd (omega arith);
    unary = λ le. absurd (omega arith);
    begins = λ k le tight. absurd (omega (arith, le, tight));
    exact = λ k le tight. absurd (omega (arith, le, tight));
    whole = assigned (assign_read a o at b f.2 (weaken (binaries_of 6) (9 - 6) 3 a (omega arith) ((read_again a f.0).exact 6 (omega arith) (omega (arith, f.2)))) ((read_again b f.1).whole true (level_least b)));
  }

  values_again : (n : names.Name) (left : Span) (values : ArgumentsTree) (right : Span) → AreArguments n values → (beyond turns room : ℕ) (rest : List Token) → length (arguments_spelling values) ≤ suc turns
      → IsAnswer (FitsArguments beyond room values rest) (call_after beyond (expression_at beyond (suc turns) true room) n left (arguments_spelling values ++ mark punctuators.CloseParen right ∷ rest)) (Call n left values right, rest)
  values_again n left NoArguments right f beyond turns room rest len = empty_call n left right beyond turns room rest
  values_again n left (Argument None e more) right f beyond turns room rest len = full_call n left right e more f.1 (first_read n e f.0 (λ g. read_again e g)) (further_again more f.1) beyond turns room rest len
  values_again n left (Argument (Some comma) e more) right f beyond turns room rest len = absurd f

  further_again : (values : ArgumentsTree) → AreFurther values → AreAgain values
  further_again NoArguments f = no_arguments_again
  further_again (Argument None e more) f = absurd f
  further_again (Argument (Some comma) e more) f = argument_again comma e more f.1 ((read_again e f.0).whole true (level_least e)) (further_again more f.1)

-- a whole expression is read again, where a token follows that does not go on with it
pub whole_again : (l : Limits) (room : ℕ) (e : ExpressionTree) (rest : List Token) → IsExpression e → following rest < 1 → IsAnswer ((nesting e ≤ room) × (length (expression_spelling e) ≤ l.tokens)) (whole_at l room (expression_spelling e ++ rest)) (e, rest)
unfolding whole_at
whole_again l room e rest f lt = go (length ts) refl
  where
    ts : List Token
    ts = expression_spelling e ++ rest

    go : (n : ℕ) → length ts ≡ n → IsAnswer ((nesting e ≤ room) × (length (expression_spelling e) ≤ l.tokens)) (expression_at (length ts - l.tokens) n true room ts) (e, rest)
    go zero is = absurd (omega (arith, is, expression_some e, length-append (expression_spelling e) rest))
    go (suc n) is = narrower (expression_at (length ts - l.tokens) (suc n) true room ts) (e, rest) (λ w. (w.0, omega (arith, w.1, length-append (expression_spelling e) rest))) ((read_again e f).whole true (level_least e) (length ts - l.tokens) n room rest (omega (arith, is, length-append (expression_spelling e) rest)) lt)

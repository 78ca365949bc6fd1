-- The tokens of an expression close their parentheses, and those of a directive line end it at the last.
use Rattle.std.proofs.Common.{◌≡◌, ℕ, ◌+◌, ◌-◌, List, [], ◌∷◌, ◌++◌, length, Option, Some, None, true, false, refl, ap}
use Rattle.std.proofs.Common.{subst, arith, append_assoc, All}
use Rattle.std.specs.Prelude.{◌≢◌}
use Rattle.std.proofs.lemmas.List.Elements.{All-nil, All-cons}
use Rattle.std.specs.List.{flat_map}
use Rattle.std.proofs.lemmas.Bool.{ne_eqb}
use Rattle.std.proofs.lemmas.List.{append-nil}
use Rattle.om_lexer.specs.declared.token.Punctuator.{Punctuator}
use Rattle.om_lexer.specs.declared.token.Punctuator.TheVariants as punctuators
use Rattle.om_lexer.specs.declared.token.Span.{Span}
use Rattle.om_lexer.specs.declared.token.Token.{Token}
use Rattle.om_lexer.specs.declared.token.TokenKind.TheVariants as kinds
use Rattle.om_pragma.specs.declared.clause.Clause.{Clause}
use Rattle.om_pragma.specs.declared.clause.Clause.TheVariants as clauses
use Rattle.om_pragma.specs.declared.clause.ClauseItem.{ClauseItem}
use Rattle.om_pragma.specs.declared.clause.ClauseKind.{ClauseKind}
use Rattle.om_pragma.specs.declared.clause.ClauseKind.TheVariants as clause_kinds
use Rattle.om_pragma.specs.declared.clause.ReductionOperator.{ReductionOperator}
use Rattle.om_pragma.specs.declared.clause.ReductionOperator.TheVariants as operators
use Rattle.om_pragma.specs.declared.clause.ScheduleKind.{ScheduleKind}
use Rattle.om_pragma.specs.declared.clause.ScheduleKind.TheVariants as schedules
use Rattle.om_pragma.specs.declared.clause.Sharing.{Sharing}
use Rattle.om_pragma.specs.declared.clause.Sharing.TheVariants as sharings
use Rattle.om_pragma.specs.declared.clause.Name as names
use Rattle.om_pragma.specs.declared.clause.NameList as lists
use Rattle.om_pragma.specs.declared.clause.Number.{Number}
use Rattle.om_pragma.specs.declared.tree.Directive.{Directive}
use Rattle.om_pragma.specs.declared.tree.DirectiveName.{DirectiveName}
use Rattle.om_pragma.specs.declared.tree.DirectiveName.TheVariants as directives
use Rattle.om_pragma.specs.Expressions.{Closes, IsClosed}
use Rattle.om_pragma.specs.Reading.{is_end}
use Rattle.om_pragma.specs.Refusals.{EndsOnce}
use Rattle.om_pragma.specs.Spelling.{kind_of, further_spelling, names_spelling, list_spelling, chunk_spelling}
use Rattle.om_pragma.specs.Spelling.{argument_spelling, comma_spelling, clause_spelling, item_spelling}
use Rattle.om_pragma.specs.Spelling.{critical_spelling, flush_spelling, name_spelling, opening_spelling}
use Rattle.om_pragma.specs.Spelling.{directive_spelling}
use Rattle.om_pragma.specs.Words.{same_mark, sharing_word, operator_word, schedule_word, clause_word}
use Rattle.om_parser_tree.specs.declared.tree.AssignOperator.{AssignOperator}
use Rattle.om_parser_tree.specs.declared.tree.AssignOperator.TheVariants as assigns
use Rattle.om_parser_tree.specs.declared.tree.BinaryOperator.{BinaryOperator}
use Rattle.om_parser_tree.specs.declared.tree.BinaryOperator.TheVariants as binaries
use Rattle.om_parser_tree.specs.declared.tree.PostfixOperator.{PostfixOperator}
use Rattle.om_parser_tree.specs.declared.tree.PostfixOperator.TheVariants as postfixes
use Rattle.om_parser_tree.specs.declared.tree.PrefixOperator.{PrefixOperator}
use Rattle.om_parser_tree.specs.declared.tree.PrefixOperator.TheVariants as prefixes
use Rattle.om_parser_tree.specs.Spelling.{token, mark, prefix_mark, postfix_mark, binary_mark, assign_mark}
use Rattle.om_parser_tree.specs.Spelling.{expression_spelling, arguments_spelling}
use Rattle.om_parser_tree.specs.Tree.{ExpressionTree, Name, Constant, Text, Paren, Index, Call, Prefix, Postfix, Binary}
use Rattle.om_parser_tree.specs.Tree.{Conditional, Assign, ArgumentsTree, NoArguments, Argument}
use Rattle.om_parser_parts.proofs.ExpressionTokens.{expression_some}
use Rattle.om_parser_parts.proofs.LineRuns.{Endless, endless_both}

-- ---- parentheses

-- a mark that is no parenthesis leaves open what was open
IsFlat : Punctuator → Type 0
IsFlat p = (n : ℕ) (s : Span) (us : List Token) → Closes n us → Closes n (mark p s ∷ us)

prefix_flat : (o : PrefixOperator) → IsFlat (prefix_mark o)
unfolding IsFlat Closes same_mark
prefix_flat prefixes.Plus n s us h = h
prefix_flat prefixes.Minus n s us h = h
prefix_flat prefixes.Not n s us h = h
prefix_flat prefixes.Increment n s us h = h
prefix_flat prefixes.Decrement n s us h = h

postfix_flat : (o : PostfixOperator) → IsFlat (postfix_mark o)
unfolding IsFlat Closes same_mark
postfix_flat postfixes.Increment n s us h = h
postfix_flat postfixes.Decrement n s us h = h

binary_flat : (o : BinaryOperator) → IsFlat (binary_mark o)
unfolding IsFlat Closes same_mark
binary_flat binaries.Or n s us h = h
binary_flat binaries.And n s us h = h
binary_flat binaries.Equal n s us h = h
binary_flat binaries.NotEqual n s us h = h
binary_flat binaries.Less n s us h = h
binary_flat binaries.Greater n s us h = h
binary_flat binaries.LessEqual n s us h = h
binary_flat binaries.GreaterEqual n s us h = h
binary_flat binaries.Add n s us h = h
binary_flat binaries.Subtract n s us h = h
binary_flat binaries.Multiply n s us h = h
binary_flat binaries.Divide n s us h = h
binary_flat binaries.Remainder n s us h = h

assign_flat : (o : AssignOperator) → IsFlat (assign_mark o)
unfolding IsFlat Closes same_mark
assign_flat assigns.Set n s us h = h
assign_flat assigns.Add n s us h = h
assign_flat assigns.Subtract n s us h = h
assign_flat assigns.Multiply n s us h = h
assign_flat assigns.Divide n s us h = h
assign_flat assigns.Remainder n s us h = h

other_flat : (p : Punctuator) → same_mark p punctuators.OpenParen ≡ false → same_mark p punctuators.CloseParen
    ≡ false → IsFlat p
unfolding IsFlat Closes
other_flat p not_open not_close n s us h = rw (not_open, not_close) h

question_flat : IsFlat punctuators.Question
unfolding same_mark
question_flat = other_flat punctuators.Question refl refl

colon_flat : IsFlat punctuators.Colon
unfolding same_mark
colon_flat = other_flat punctuators.Colon refl refl

comma_flat : IsFlat punctuators.Comma
unfolding same_mark
comma_flat = other_flat punctuators.Comma refl refl

open_bracket_flat : IsFlat punctuators.OpenBracket
unfolding same_mark
open_bracket_flat = other_flat punctuators.OpenBracket refl refl

close_bracket_flat : IsFlat punctuators.CloseBracket
unfolding same_mark
close_bracket_flat = other_flat punctuators.CloseBracket refl refl

open_closes : (n : ℕ) (s : Span) (us : List Token) → Closes (n + 1) us → Closes n (mark punctuators.OpenParen s ∷ us)
unfolding Closes same_mark
open_closes n s us h = h

close_closes : (n : ℕ) (s : Span) (us : List Token) → Closes n us → Closes (n + 1) (mark punctuators.CloseParen s ∷ us)
unfolding Closes same_mark
close_closes n s us h =
    let some_open = ne_eqb (n + 1) 0 (λ e. omega (arith, e)) in
    let back : n + 1 - 1 ≡ n = omega arith in
    rw (some_open, back) h

mutual
  unfolding expression_spelling IsFlat Closes

  -- what is open before an expression is open behind it
  closes_behind : (e : ExpressionTree) (n : ℕ) (us : List Token) → Closes n us → Closes n (expression_spelling e ++ us)
  closes_behind (Name m) n us h = h
  closes_behind (Constant m) n us h = h
  closes_behind (Text t) n us h = h
  closes_behind (Paren left e right) n us h = open_closes n left
      ((expression_spelling e ++ mark punctuators.CloseParen right ∷ []) ++ us)
      (rw append_assoc (closes_behind e (n + 1) (mark punctuators.CloseParen right ∷ us) (close_closes n right us h)))
  closes_behind (Index m left e right) n us h = open_bracket_flat n left
      ((expression_spelling e ++ mark punctuators.CloseBracket right ∷ []) ++ us)
      (rw append_assoc (closes_behind e n (mark punctuators.CloseBracket right ∷ us) (close_bracket_flat n right us h)))
  closes_behind (Call m left values right) n us h = open_closes n left
      ((arguments_spelling values ++ mark punctuators.CloseParen right ∷ []) ++ us)
      (rw append_assoc (all_close values (n + 1) (mark punctuators.CloseParen right ∷ us) (close_closes n right us h)))
  closes_behind (Prefix o at e) n us h = prefix_flat o n at (expression_spelling e ++ us) (closes_behind e n us h)
  closes_behind (Postfix e o at) n us h = rw append_assoc (closes_behind e n (mark (postfix_mark o) at ∷ us)
      (postfix_flat o n at us h))
  closes_behind (Binary a o at b) n us h = rw append_assoc
      (closes_behind a n (mark (binary_mark o) at ∷ (expression_spelling b ++ us))
      (binary_flat o n at (expression_spelling b ++ us) (closes_behind b n us h)))
  closes_behind (Conditional c question a colon b) n us h =
      let other : List Token = expression_spelling b ++ us in
      let inner : List Token = expression_spelling a ++ mark punctuators.Colon colon ∷ other in
      let same : expression_spelling c ++ mark punctuators.Question question ∷ inner
      ≡ (expression_spelling c ++ mark punctuators.Question question
      ∷ (expression_spelling a ++ mark punctuators.Colon colon ∷ expression_spelling b))
      ++ us = simp append_assoc in
      subst (λ (ts : List Token). Closes n ts) same (closes_behind c n (mark punctuators.Question question ∷ inner)
      (question_flat n question inner (closes_behind a n (mark punctuators.Colon colon ∷ other)
      (colon_flat n colon other (closes_behind b n us h)))))
  closes_behind (Assign a o at b) n us h = rw append_assoc
      (closes_behind a n (mark (assign_mark o) at ∷ (expression_spelling b ++ us))
      (assign_flat o n at (expression_spelling b ++ us) (closes_behind b n us h)))

  all_close : (values : ArgumentsTree) (n : ℕ) (us : List Token) → Closes n us → Closes n (arguments_spelling values
      ++ us)
  all_close NoArguments n us h = h
  all_close (Argument None e more) n us h = rw append_assoc (closes_behind e n (arguments_spelling more ++ us)
      (all_close more n us h))
  all_close (Argument (Some comma) e more) n us h = comma_flat n comma
      ((expression_spelling e ++ arguments_spelling more) ++ us)
      (rw append_assoc (closes_behind e n (arguments_spelling more ++ us) (all_close more n us h)))

pub expression_closed : (e : ExpressionTree) → IsClosed (expression_spelling e)
unfolding Closes
expression_closed e = (
  some_tokens,
  subst (λ (ts : List Token). Closes 0 ts) (append-nil (expression_spelling e))
      (closes_behind e 0 [] refl),
)
  where
    some_tokens : expression_spelling e ≡ [] → ⊥
    some_tokens none = let none_long : length (expression_spelling e) ≡ 0 = ap length none in absurd
        (omega (arith, none_long, expression_some e))

-- ---- the end of the line

flat_endless : {A : Type 0} (f : A → List Token) → ((x : A) → Endless (f x)) → (xs : List A) → Endless (flat_map f xs)
unfolding Endless
flat_endless f each [] = tt
flat_endless f each (x ∷ xs) = endless_both (f x) (flat_map f xs) (each x) (flat_endless f each xs)

mutual
  unfolding expression_spelling Endless

  expression_endless : (e : ExpressionTree) → Endless (expression_spelling e)
  expression_endless (Name m) = (refl, tt)
  expression_endless (Constant m) = (refl, tt)
  expression_endless (Text t) = (refl, tt)
  expression_endless (Paren left e right) = (
    refl,
    endless_both (expression_spelling e) _ (expression_endless e)
        (refl, tt),
  )
  expression_endless (Index m left e right) =
      (refl, (refl, endless_both (expression_spelling e) _ (expression_endless e) (refl, tt)))
  expression_endless (Call m left values right) =
      (refl, (refl, endless_both (arguments_spelling values) _ (arguments_endless values) (refl, tt)))
  expression_endless (Prefix o at e) = (refl, expression_endless e)
  expression_endless (Postfix e o at) = endless_both (expression_spelling e) _ (expression_endless e) (refl, tt)
  expression_endless (Binary a o at b) = endless_both (expression_spelling a) _ (expression_endless a)
      (refl, expression_endless b)
  expression_endless (Conditional c question a colon b) = endless_both (expression_spelling c) _
      (expression_endless c) (
        refl,
        endless_both (expression_spelling a) _ (expression_endless a)
            (refl, expression_endless b),
      )
  expression_endless (Assign a o at b) = endless_both (expression_spelling a) _ (expression_endless a)
      (refl, expression_endless b)

  arguments_endless : (values : ArgumentsTree) → Endless (arguments_spelling values)
  arguments_endless NoArguments = tt
  arguments_endless (Argument None e more) = endless_both (expression_spelling e) (arguments_spelling more)
      (expression_endless e) (arguments_endless more)
  arguments_endless (Argument (Some comma) e more) = (
    refl,
    endless_both (expression_spelling e)
        (arguments_spelling more) (expression_endless e) (arguments_endless more),
  )

names_endless : (first : names.Name) (rest : List (Span × names.Name)) (close : Span)
    → Endless (names_spelling first rest close)
unfolding Endless names_spelling further_spelling
names_endless first rest close = (
  refl,
  endless_both (flat_map further_spelling rest) _
      (flat_endless further_spelling (λ n. (refl, (refl, tt))) rest) (refl, tt),
)

list_endless : (l : lists.NameList) → Endless (list_spelling l)
unfolding Endless list_spelling
list_endless l = (refl, names_endless l.first l.rest l.close_paren)

sharing_no_end : (k : Sharing) → is_end (sharing_word k) ≡ false
sharing_no_end sharings.Shared = refl
sharing_no_end sharings.None = refl

operator_no_end : (k : ReductionOperator) → is_end (operator_word k) ≡ false
operator_no_end operators.Add = refl
operator_no_end operators.Multiply = refl
operator_no_end operators.Max = refl
operator_no_end operators.Min = refl

schedule_no_end : (k : ScheduleKind) → is_end (schedule_word k) ≡ false
schedule_no_end schedules.Static = refl
schedule_no_end schedules.Dynamic = refl

clause_no_end : (k : ClauseKind) → is_end (clause_word k) ≡ false
clause_no_end clause_kinds.NumThreads = refl
clause_no_end clause_kinds.Filter = refl
clause_no_end clause_kinds.Default = refl
clause_no_end clause_kinds.Shared = refl
clause_no_end clause_kinds.Private = refl
clause_no_end clause_kinds.Firstprivate = refl
clause_no_end clause_kinds.Reduction = refl
clause_no_end clause_kinds.Schedule = refl
clause_no_end clause_kinds.Nowait = refl
clause_no_end clause_kinds.Update = refl
clause_no_end clause_kinds.Read = refl
clause_no_end clause_kinds.Write = refl
clause_no_end clause_kinds.SeqCst = refl
clause_no_end clause_kinds.Relaxed = refl

chunk_endless : (c : Option (Span × Number)) → Endless (chunk_spelling c)
unfolding Endless chunk_spelling
chunk_endless (Some c) = (refl, (refl, tt))
chunk_endless None = tt

argument_endless : (c : Clause ExpressionTree) → Endless (argument_spelling expression_spelling c)
unfolding Endless argument_spelling
argument_endless (clauses.Value k s v) = (
  refl,
  endless_both (expression_spelling v.expression) _
      (expression_endless v.expression) (refl, tt),
)
argument_endless (clauses.Default s a) = (refl, (sharing_no_end a.sharing, (refl, tt)))
argument_endless (clauses.Data k s l) = list_endless l
argument_endless (clauses.Reduction s r) =
    (refl, (operator_no_end r.operator, (refl, names_endless r.first r.rest r.close_paren)))
argument_endless (clauses.Schedule s a) =
    (refl, (schedule_no_end a.kind, endless_both (chunk_spelling a.chunk) _ (chunk_endless a.chunk) (refl, tt)))
argument_endless (clauses.Plain k s) = tt

comma_endless : (c : Option Span) → Endless (comma_spelling c)
unfolding Endless
comma_endless (Some s) = (refl, tt)
comma_endless None = tt

item_endless : (i : ClauseItem ExpressionTree) → Endless (item_spelling expression_spelling i)
unfolding Endless item_spelling clause_spelling
item_endless i = endless_both (comma_spelling i.comma) _ (comma_endless i.comma) (
  clause_no_end (kind_of i.clause),
  argument_endless i.clause,
)

critical_endless : (n : Option (Span × names.Name × Span)) → Endless (critical_spelling n)
unfolding Endless critical_spelling
critical_endless (Some n) = (refl, (refl, (refl, tt)))
critical_endless None = tt

flush_endless : (l : Option lists.NameList) → Endless (flush_spelling l)
unfolding Endless flush_spelling
flush_endless (Some l) = list_endless l
flush_endless None = tt

name_endless : (n : DirectiveName) → Endless (name_spelling n)
unfolding Endless name_spelling
name_endless (directives.ParallelFor s t) = (refl, (refl, tt))
name_endless (directives.ParallelSections s t) = (refl, (refl, tt))
name_endless (directives.Critical s n) = (refl, critical_endless n)
name_endless (directives.Flush s l) = (refl, flush_endless l)
name_endless _ = (refl, tt)

-- the tokens of a directive line before its end
pub before_end : Directive ExpressionTree → List Token
before_end d = opening_spelling d.hash d.pragma d.omp
    ++ (name_spelling d.name ++ flat_map (item_spelling expression_spelling) d.clauses)

pub before_end_endless : (d : Directive ExpressionTree) → Endless (before_end d)
unfolding before_end Endless opening_spelling
before_end_endless d = (
  refl,
  (
    refl,
    (
      refl,
      endless_both (name_spelling d.name) _ (name_endless d.name)
          (flat_endless (item_spelling expression_spelling) item_endless d.clauses),
    ),
  ),
)

-- the end stands last
pub end_last : (d : Directive ExpressionTree) → directive_spelling expression_spelling d ≡ before_end d
    ++ token kinds.DirectiveEnd d.end ∷ []
unfolding before_end directive_spelling
end_last d = simp append_assoc

-- and nowhere else
pub spelled_once : (d : Directive ExpressionTree) → EndsOnce (directive_spelling expression_spelling d)
unfolding Endless
spelled_once d = record {
  front = before_end d;
  end = d.end;
  parts = end_last d;
  endless = all_endless (before_end d) (before_end_endless d);
}
  where
    all_endless : (ts : List Token) → Endless ts → All (λ t. t.kind ≢ kinds.DirectiveEnd) ts
    all_endless [] e = All-nil (λ t. t.kind ≢ kinds.DirectiveEnd)
    all_endless (t ∷ ts) e = All-cons (λ t. t.kind ≢ kinds.DirectiveEnd) t ts (λ is. let both : is_end t.kind
        ≡ true = ap is_end is in absurd cc) (all_endless ts e.1)

-- Behind a part of a tree at most as many numbers more are given as its weight is.
use Rattle.std.proofs.Common.{◌≡◌, ◌≤◌, ◌+◌, ℕ, List, [], ◌∷◌, ◌++◌, length, map, ap, arith}
use Rattle.std.specs.Prelude.{Option, sum}
use Rattle.std.specs.List.{flat_map}
use Rattle.std.specs.Str.{bytes_eq}
use Rattle.om_lexer.specs.declared.token.Span.{Span}
use Rattle.om_scope_tree.specs.declared.resolved.ConstructKind.{ConstructKind}
use Rattle.om_scope_tree.specs.ResolvedTree.{ResolvedExpressionTree, ResolvedClauseTree}
use Rattle.om_scope_tree.specs.ResolvedTree.{ResolvedLoopTree, ResolvedStartTree, ResolvedStatementTree}
use Rattle.om_scope_tree.specs.ResolvedTree.{ResolvedFunctionTree, ResolvedStatementsTree}
use Rattle.om_scope_tree.specs.Weights.{expression_weight, perhaps_weight, start_weight}
use Rattle.om_scope_tree.specs.Weights.{clause_weight, function_weight, loop_weight, statement_weight, statements_weight}
use Rattle.om_lower_rules.specs.Bodies.{Numbers, behind, behind_all, behind_function, next_body}
use Rattle.om_lower_rules.specs.Mentions.{Mention, all_mentioned, clause_mentioned, expression_formats}
use Rattle.om_lower_rules.specs.Mentions.{format_mention, function_mentioned, lock_mention}
use Rattle.om_lower_rules.specs.Mentions.{loop_mentioned, mentioned, perhaps_mentioned, start_mentioned}
use Rattle.om_lower_rules.specs.Numbering.{numbers_of}
use Rattle.om_lower_rules.specs.declared.tables.Numbers as tables
use Rattle.om_lower_rules.specs.Tables.{with_sight}
use Rattle.om_lower_tables.specs.declared.mentions.Mentions.{Mentions}
use Rattle.om_lower_tables.specs.Noted.{AreNoted, noted}
use Rattle.om_lower_tables.specs.Room.{given_numbers, texts_in}
use Rattle.om_lower_tables.specs.Weighed.{clauses_few, expression_few, loop_few, perhaps_few}
use Rattle.om_lower_tables.specs.Weighed.{construct_few, head_few, start_few, statement_few, statements_few, clause_few}
use Rattle.om_lower_tables.proofs.Noted.{are_noted_few, noted_length}

-- ---- of texts

pub formats_behind : (e : ResolvedExpressionTree) (old new : List (List ℕ)) → new ≡ noted old (expression_formats e)
    → length new ≤ length old + expression_weight e
formats_behind e old new same =
    omega (arith, ap length same, noted_length old (expression_formats e), expression_few e)

pub text_behind : (text : List ℕ) (old new : List (List ℕ)) → new ≡ with_sight bytes_eq old text
    → length new ≤ length old + 1
text_behind text old new same = omega (arith, ap length same, noted_length old (text ∷ []))

pub value_behind : (e : ResolvedExpressionTree) (old new : Mentions) → AreNoted (λ A m. m.in_expression e) old new
    → texts_in new ≤ texts_in old + expression_weight e
value_behind e old new all = omega (arith, are_noted_few (λ A m. m.in_expression e) old new all, expression_few e)

-- by the texts alone
pub perhaps_texts : (e : Option ResolvedExpressionTree) (formats all_formats locks all_locks : List (List ℕ))
    → all_formats ≡ noted formats (perhaps_mentioned format_mention e)
    → all_locks ≡ noted locks (perhaps_mentioned lock_mention e)
    → length all_formats + length all_locks ≤ length formats + length locks + perhaps_weight e
perhaps_texts e formats all_formats locks all_locks formats_are locks_are =
    omega (
      arith,
      ap length formats_are,
      ap length locks_are,
      noted_length formats (perhaps_mentioned format_mention e),
      noted_length locks (perhaps_mentioned lock_mention e),
      perhaps_few e,
    )

pub perhaps_behind : (e : Option ResolvedExpressionTree) (old new : Mentions)
    → AreNoted (λ A m. perhaps_mentioned m e) old new → texts_in new ≤ texts_in old + perhaps_weight e
perhaps_behind e old new all = perhaps_texts e old.formats new.formats old.locks new.locks all.0 all.1

pub start_behind : (start : ResolvedStartTree) (old new : Mentions)
    → AreNoted (λ A m. start_mentioned m start) old new → texts_in new ≤ texts_in old + start_weight start
start_behind start old new all =
    omega (arith, are_noted_few (λ A m. start_mentioned m start) old new all, start_few start)

pub clause_behind : (clause : ResolvedClauseTree) (old new : Mentions)
    → AreNoted (λ A m. clause_mentioned m clause) old new → texts_in new ≤ texts_in old + clause_weight clause
clause_behind clause old new all =
    omega (arith, are_noted_few (λ A m. clause_mentioned m clause) old new all, clause_few clause)

pub clauses_behind : (clauses : List ResolvedClauseTree) (old new : Mentions)
    → AreNoted (λ A m. flat_map (clause_mentioned m) clauses) old new
    → texts_in new ≤ texts_in old + sum (map clause_weight clauses)
clauses_behind clauses old new all =
    omega (arith, are_noted_few (λ A m. flat_map (clause_mentioned m) clauses) old new all, clauses_few clauses)

pub loop_behind : (l : ResolvedLoopTree) (old new : Mentions) → AreNoted (λ A m. loop_mentioned m l) old new
    → texts_in new ≤ texts_in old + loop_weight l
loop_behind l old new all = omega (arith, are_noted_few (λ A m. loop_mentioned m l) old new all, loop_few l)

pub construct_behind : (at : Span) (kind : ConstructKind) (old new : Mentions)
    → AreNoted (λ A m. m.by_construct at kind) old new → texts_in new ≤ texts_in old + 1
construct_behind at kind old new all =
    omega (arith, are_noted_few (λ A m. m.by_construct at kind) old new all, construct_few kind)

pub head_behind : (start : ResolvedStartTree) (test after : Option ResolvedExpressionTree) (old new : Mentions)
    → AreNoted (λ A m. start_mentioned m start ++ (perhaps_mentioned m test ++ perhaps_mentioned m after)) old new
    → texts_in new ≤ texts_in old + (start_weight start + (perhaps_weight test + perhaps_weight after))
head_behind start test after old new all =
    let by : (A : Type 0) → Mention A → List A = λ A m. start_mentioned m start
    ++ (perhaps_mentioned m test ++ perhaps_mentioned m after) in
    omega (arith, are_noted_few by old new all, head_few start test after)

-- ---- of a walk

abbrev pub given : Numbers → ℕ
given n = n.bodies + n.picks

pub statement_behind : (s : ResolvedStatementTree) (n : Numbers) (numbers : tables.Numbers) (old new : Mentions)
    → numbers_of numbers ≡ behind n s → AreNoted (λ A m. mentioned m s) old new
    → given_numbers numbers + texts_in new ≤ given n + texts_in old + statement_weight s
statement_behind s n numbers old new is all =
    omega (arith, ap given is, are_noted_few (λ A m. mentioned m s) old new all, statement_few n s)

pub statements_behind : (items : ResolvedStatementsTree) (n : Numbers) (numbers : tables.Numbers) (old new : Mentions)
    → numbers_of numbers ≡ behind_all n items → AreNoted (λ A m. all_mentioned m items) old new
    → given_numbers numbers + texts_in new ≤ given n + texts_in old + statements_weight items
statements_behind items n numbers old new is all =
    omega (arith, ap given is, are_noted_few (λ A m. all_mentioned m items) old new all, statements_few n items)

pub function_behind : (f : ResolvedFunctionTree) (n : Numbers) (numbers : tables.Numbers)
    (formats all_formats locks all_locks : List (List ℕ)) → numbers_of numbers ≡ behind_function n f
    → all_formats ≡ noted formats (function_mentioned format_mention f)
    → all_locks ≡ noted locks (function_mentioned lock_mention f)
    → given_numbers numbers + (length all_formats + length all_locks)
    ≤ given n + (length formats + length locks) + function_weight f
function_behind f n numbers formats all_formats locks all_locks is formats_are locks_are =
    omega (
      arith,
      ap given is,
      ap length formats_are,
      ap length locks_are,
      noted_length formats (function_mentioned format_mention f),
      noted_length locks (function_mentioned lock_mention f),
      statements_few (next_body n) f.body,
    )

-- ---- of numbers alone

pub numbers_behind : (s : ResolvedStatementTree) (n : Numbers) (numbers : tables.Numbers)
    → numbers_of numbers ≡ behind n s → given_numbers numbers ≤ given n + statement_weight s
numbers_behind s n numbers is = omega (arith, ap given is, statement_few n s)

pub all_numbers_behind : (items : ResolvedStatementsTree) (n : Numbers) (numbers : tables.Numbers)
    → numbers_of numbers ≡ behind_all n items → given_numbers numbers ≤ given n + statements_weight items
all_numbers_behind items n numbers is = omega (arith, ap given is, statements_few n items)

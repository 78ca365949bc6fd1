-- The values of a call, as a loop goes through them.
use Rattle.std.proofs.Common.{◌≡◌, ℕ, suc, ◌+◌, ◌<◌, List, [], ◌∷◌, ◌++◌, map, length, Some, None, Option, true, zero}
use Rattle.std.proofs.Common.{refl, sym, ap, ◌∙◌, arith}
use Rattle.om_lexer.specs.declared.fault.SourceFault.{SourceFault}
use Rattle.om_lexer.specs.declared.token.Span.{Span}
use Rattle.om_parser_tree.specs.declared.tree.Expression.{Expression}
use Rattle.om_parser_tree.specs.View.{view_argument}
use Rattle.om_parser_tree.specs.Tree.{ExpressionTree, ArgumentsTree, NoArguments, Argument, arguments}
use Rattle.om_scope_rules.specs.ExpressionRules.{argument_breaches, argument_count, arguments_breaches, expression_breaches}
use Rattle.om_scope_rules.specs.ExpressionRules.{printed_breaches}
use Rattle.om_scope_rules.specs.Faults.{first_of}
use Rattle.om_scope_rules.specs.Outcomes.{Refuses}
use Rattle.om_scope_rules.specs.Perhaps.{◌>>=◌}
use Rattle.om_scope_rules.specs.Resolution.{resolved_expression, resolved_printed, resolved_values}
use Rattle.om_scope_tree.specs.ResolvedTree.{ResolvedExpressionTree, ValuesTree, NoValues, Value, values}
use Rattle.om_scope_rules.specs.Scopes.{Scopes}
use Rattle.om_scope_rules.specs.InRow.{first_of_left}

pub argument_count_is : (values : List (Option Span × Expression))
    → argument_count (arguments (map view_argument values)) ≡ length values
argument_count_is [] = refl
argument_count_is (value ∷ values) = omega (arith, argument_count_is values)

pub arguments_step : (scopes : Scopes) (all : ArgumentsTree) (comma : Option Span) (e : ExpressionTree)
    (rest : ArgumentsTree)
    → arguments_breaches scopes all ≡ arguments_breaches scopes (Argument comma e rest) → expression_breaches scopes
    true e ≡ []
    → arguments_breaches scopes all ≡ arguments_breaches scopes rest
unfolding arguments_breaches
arguments_step scopes all comma e rest left whole = left ∙ ap (λ here. here ++ arguments_breaches scopes rest) whole

pub arguments_refuse : (scopes : Scopes) (all : ArgumentsTree) (comma : Option Span) (e : ExpressionTree)
    (rest : ArgumentsTree) (fault : SourceFault)
    → arguments_breaches scopes all ≡ arguments_breaches scopes (Argument comma e rest)
    → Refuses (expression_breaches scopes true e) fault
    → Refuses (arguments_breaches scopes all) fault
unfolding arguments_breaches
arguments_refuse scopes all comma e rest fault left refused other = ap first_of left ∙ first_of_left _ _ fault
    (refused other)

pub printed_refuse : (scopes : Scopes) (place : ℕ) (all : ArgumentsTree) (comma : Option Span) (e : ExpressionTree)
    (rest : ArgumentsTree) (fault : SourceFault)
    → printed_breaches scopes 0 all ≡ printed_breaches scopes place (Argument comma e rest)
    → Refuses (argument_breaches scopes place e) fault
    → Refuses (printed_breaches scopes 0 all) fault
unfolding printed_breaches
printed_refuse scopes place all comma e rest fault left refused other = ap first_of left ∙ first_of_left _ _ fault
    (refused other)

pub printed_step : (scopes : Scopes) (place : ℕ) (all : ArgumentsTree) (comma : Option Span) (e : ExpressionTree)
    (rest : ArgumentsTree)
    → printed_breaches scopes 0 all ≡ printed_breaches scopes place (Argument comma e rest) → argument_breaches
    scopes place e ≡ []
    → printed_breaches scopes 0 all ≡ printed_breaches scopes (place + 1) rest
unfolding printed_breaches
printed_step scopes place all comma e rest left whole = left
    ∙ ap (λ here. here ++ printed_breaches scopes (place + 1) rest) whole

-- behind the format
pub printed_behind : (scopes : Scopes) (place : ℕ) (all : ArgumentsTree) (comma : Option Span) (e : ExpressionTree)
    (rest : ArgumentsTree)
    → place ≡ 0 → printed_breaches scopes 0 all ≡ printed_breaches scopes place (Argument comma e rest)
    → printed_breaches scopes 0 all ≡ printed_breaches scopes 1 rest
unfolding printed_breaches
printed_behind scopes place all comma e rest first left = left
    ∙ ap (λ p. printed_breaches scopes p (Argument comma e rest)) first

-- ---- what is made of them

-- these values before others
abbrev pub before : List ResolvedExpressionTree → ValuesTree → ValuesTree
before [] rest = rest
before (e ∷ es) rest = Value e (before es rest)

before_none : (es : List ResolvedExpressionTree) → before es NoValues ≡ values es
before_none [] = refl
before_none (e ∷ es) = ap (Value e) (before_none es)

before_one : (es : List ResolvedExpressionTree) (e : ResolvedExpressionTree) (rest : ValuesTree)
    → before (es ++ e ∷ []) rest ≡ before es (Value e rest)
before_one [] e rest = refl
before_one (x ∷ es) e rest = ap (Value x) (before_one es e rest)

whole : (found : Option ValuesTree) → found ≡ (found >>= λ rest. Some rest)
whole None = refl
whole (Some rest) = refl

-- all are resolved as those that are made and then those that are left
abbrev pub IsMade : Scopes → ArgumentsTree → List ResolvedExpressionTree → ArgumentsTree → Type 0
IsMade scopes all made left = resolved_values scopes all
    ≡ (resolved_values scopes left >>= λ rest. Some (before made rest))

next : (found : Option ValuesTree) (made : List ResolvedExpressionTree) (e : ResolvedExpressionTree)
    → ((found >>= λ rest. Some (Value e rest)) >>= λ rest. Some (before made rest))
    ≡ (found >>= λ rest. Some (before (made ++ e ∷ []) rest))
next None made e = refl
next (Some rest) made e = ap Some (sym (before_one made e rest))

pub made_step : (scopes : Scopes) (all : ArgumentsTree) (made : List ResolvedExpressionTree) (comma : Option Span)
    (e : ExpressionTree) (rest : ArgumentsTree) (x : ResolvedExpressionTree)
    → IsMade scopes all made (Argument comma e rest) → resolved_expression scopes e ≡ Some x → IsMade scopes all
    (made ++ x ∷ []) rest
unfolding resolved_values
made_step scopes all made comma e rest x left here =
    left ∙ ap (λ found. (found >>= λ y. resolved_values scopes rest >>= λ ys. Some (Value y ys)) >>= λ ys. Some
    (before made ys)) here
    ∙ next (resolved_values scopes rest) made x

pub made_all : (scopes : Scopes) (all left : ArgumentsTree) (made : List ResolvedExpressionTree) → left
    ≡ NoArguments → IsMade scopes all made left
    → resolved_values scopes all ≡ Some (values made)
unfolding resolved_values
made_all scopes all left made none made_of = made_of ∙ ap (λ l. resolved_values scopes l >>= λ rest. Some
    (before made rest)) none ∙ ap Some (before_none made)

-- the same of the values behind a format, which stands at place 0
abbrev pub ArePrinted : Scopes → ArgumentsTree → ℕ → List ResolvedExpressionTree → ArgumentsTree → Type 0
ArePrinted scopes all place made left =
    (place ≡ 0 → resolved_printed scopes all ≡ (resolved_printed scopes left >>= λ rest. Some (before made rest)))
    × (0 < place → resolved_printed scopes all ≡ (resolved_values scopes left >>= λ rest. Some (before made rest)))

pub printed_format : (scopes : Scopes) (all : ArgumentsTree) (place : ℕ) (made : List ResolvedExpressionTree)
    (comma : Option Span) (e : ExpressionTree) (rest : ArgumentsTree)
    → place ≡ 0 → ArePrinted scopes all place made (Argument comma e rest) → ArePrinted scopes all 1 made rest
unfolding resolved_printed
printed_format scopes all place made comma e rest first left = (
  λ one. absurd (omega (arith, one)),
  λ above. left.0
      first,
)

pub printed_made : (scopes : Scopes) (all : ArgumentsTree) (place : ℕ) (made : List ResolvedExpressionTree)
    (comma : Option Span) (e : ExpressionTree) (rest : ArgumentsTree) (x : ResolvedExpressionTree)
    → 0 < place → ArePrinted scopes all place made (Argument comma e rest) → resolved_expression scopes e ≡ Some x
    → ArePrinted scopes all (place + 1) (made ++ x ∷ []) rest
unfolding resolved_values
printed_made scopes all place made comma e rest x above left here = (
  λ none. absurd (omega (arith, none)),
  λ more.
      left.1 above ∙ ap (λ found. (found >>= λ y. resolved_values scopes rest >>= λ ys. Some (Value y ys)) >>= λ ys.
      Some (before made ys)) here
      ∙ next (resolved_values scopes rest) made x,
)

pub printed_all : (scopes : Scopes) (all left : ArgumentsTree) (place : ℕ) (made : List ResolvedExpressionTree)
    → left ≡ NoArguments → ArePrinted scopes all place made left
    → resolved_printed scopes all ≡ Some (values made)
unfolding resolved_printed resolved_values
printed_all scopes all left zero made none printed =
    printed.0 refl ∙ ap (λ l. resolved_printed scopes l >>= λ rest. Some (before made rest)) none
    ∙ ap Some (before_none made)
printed_all scopes all left (suc place) made none printed =
    printed.1 (omega arith) ∙ ap (λ l. resolved_values scopes l >>= λ rest. Some (before made rest)) none
    ∙ ap Some (before_none made)

-- Matter of proofs, for om_scope too: a construct of a proper tree has a resolution where its statement has one.
use Rattle.std.proofs.Common.{◌≡◌, ℕ, Bool, true, false, List, Option, None, Some, refl, subst}
use Rattle.std.specs.Prelude.{IfSome, IsSome, ◌&&◌}
use Rattle.om_lexer.specs.declared.token.Span.{Span}
use Rattle.om_pragma.specs.declared.tree.AtomicKind.{AtomicKind}
use Rattle.om_pragma.specs.declared.tree.AtomicKind.TheVariants as kinds
use Rattle.om_pragma.specs.declared.tree.Directive.{Directive}
use Rattle.om_pragma.specs.declared.tree.DirectiveName.{DirectiveName}
use Rattle.om_pragma.specs.declared.tree.DirectiveName.TheVariants as directives
use Rattle.om_pragma.specs.Questions.{atomic_kind, is_atomic}
use Rattle.om_scope_tree.specs.declared.resolved.Side.{Side}
use Rattle.om_scope_tree.specs.ResolvedTree as resolved
use Rattle.om_scope_tree.specs.ResolvedTree.{ResolvedClauseTree, ResolvedExpressionTree, ResolvedStatementTree}
use Rattle.om_scope_rules.specs.DirectiveRules.{traits_of}
use Rattle.om_scope_rules.specs.Perhaps.{◌>>=◌}
use Rattle.om_scope_rules.specs.Places.{expression_first}
use Rattle.om_scope_rules.specs.Proper.{AreProperParts, IsProper}
use Rattle.om_scope_rules.specs.Resolution.{TargetTree, Scalar, ElementOf, assigned, prefixed, resolved_expression}
use Rattle.om_scope_rules.specs.Resolution.{resolved_target, stepped}
use Rattle.om_scope_rules.specs.Scopes.{Scopes}
use Rattle.om_scope_rules.specs.StatementResolution.{atomic_of, construct_of, resolved_statement, with_update}
use Rattle.om_scope_rules.specs.Updates.{expression_update, operation, update_of, value_operation}
use Rattle.om_parser_tree.specs.AtomicForms.{has_atomic_form, is_atomic_operator, is_operation_on, is_step, is_update}
use Rattle.om_parser_tree.specs.AtomicForms.{is_updated}
use Rattle.om_parser_tree.specs.declared.tree.AssignOperator.{AssignOperator}
use Rattle.om_parser_tree.specs.declared.tree.AssignOperator.TheVariants as assigns
use Rattle.om_parser_tree.specs.declared.tree.BinaryOperator.{BinaryOperator}
use Rattle.om_parser_tree.specs.declared.tree.BinaryOperator.TheVariants as binaries
use Rattle.om_parser_tree.specs.declared.tree.PostfixOperator.{PostfixOperator}
use Rattle.om_parser_tree.specs.declared.tree.PrefixOperator.{PrefixOperator}
use Rattle.om_parser_tree.specs.declared.tree.PrefixOperator.TheVariants as prefixes
use Rattle.om_parser_tree.specs.Formed.{AreFurtherParts, AreParts, ArePartItems, AreStatements, IsConstruct, IsStatement}
use Rattle.om_parser_tree.specs.Sizes.{HasForms, PartsHaveForms, Where}
use Rattle.om_parser_tree.specs.Tree as trees
use Rattle.om_parser_tree.specs.Tree.{ExpressionTree, StatementTree, Construct, Expression, NoParts, NoStatements, Part}
use Rattle.om_parser_tree.specs.Tree.{PartsTree, Statement, StatementsTree}

-- ---- steps

if_any : {A : Type 0} (P : A → Type 0) (o : Option A) → ((x : A) → P x) → IfSome o P
if_any P None all = tt
if_any P (Some x) all = all x

if_then : {A B : Type 0} (P : A → Type 0) (Q : B → Type 0) (o : Option A) (f : A → Option B) → IfSome o P
    → ((x : A) → P x → IfSome (f x) Q) → IfSome (o >>= f) Q
if_then P Q None f h next = tt
if_then P Q (Some x) f h next = next x h

given : {A : Type 0} (P : A → Type 0) (o : Option A) (x : A) → IfSome o P → o ≡ Some x → P x
given P None x h e = cc
given P (Some y) x h e = let same : y ≡ x = cc in subst P same h

both : (a b : Bool) → (a && b) ≡ true → (a ≡ true) × (b ≡ true)
both true b e = (refl, e)
both false b e = cc

some_then : {A B : Type 0} (o : Option A) (f : A → B) → IsSome o → IsSome (o >>= λ x. Some (f x))
some_then None f h = cc
some_then (Some x) f h = refl

-- ---- updates

binary_there : (side : Side) (o : BinaryOperator) (a b : ResolvedExpressionTree) → is_atomic_operator o ≡ true
    → IsSome (value_operation side (resolved.Binary a o b))
binary_there side binaries.Add a b is = refl
binary_there side binaries.Subtract a b is = refl
binary_there side binaries.Multiply a b is = refl
binary_there side binaries.Divide a b is = refl
binary_there side _ a b is = cc

value_there : (scopes : Scopes) (side : Side) (x e : ExpressionTree) → is_operation_on x e ≡ true
    → IfSome (resolved_expression scopes e) (λ y. IsSome (value_operation side y))
unfolding is_operation_on resolved_expression
value_there scopes side x (trees.Binary a o at b) form =
    let P = λ (y : ResolvedExpressionTree). IsSome (value_operation side y) in
    if_then (λ y. Unit {0}) P (resolved_expression scopes a) _ (if_any (λ y. Unit {0}) (resolved_expression scopes a)
    (λ y. tt)) (λ y u. if_then (λ z. Unit {0}) P (resolved_expression scopes b) _ (if_any (λ z. Unit {0})
    (resolved_expression scopes b) (λ z. tt)) (λ z v. binary_there side o y z (both (is_atomic_operator o) _ form).0))
value_there scopes side x _ form = cc

operation_there : (scopes : Scopes) (side : Side) (x : ExpressionTree) (o : AssignOperator) (e : ExpressionTree)
    → is_updated x o e ≡ true → IfSome (resolved_expression scopes e) (λ y. IsSome (operation side o y))
unfolding is_updated
operation_there scopes side x assigns.Set e form = value_there scopes side x e form
operation_there scopes side x assigns.Add e form = if_any _ (resolved_expression scopes e) (λ y. refl)
operation_there scopes side x assigns.Subtract e form = if_any _ (resolved_expression scopes e) (λ y. refl)
operation_there scopes side x assigns.Multiply e form = if_any _ (resolved_expression scopes e) (λ y. refl)
operation_there scopes side x assigns.Divide e form = if_any _ (resolved_expression scopes e) (λ y. refl)
operation_there scopes side x assigns.Remainder e form = cc

assigned_there : (at : Span) (side : Side) (t : TargetTree) (o : AssignOperator) (y : ResolvedExpressionTree)
    → IsSome (operation side o y) → IsSome (expression_update at side (assigned t o y))
assigned_there at side (Scalar v) o y h = some_then (operation side o y) _ h
assigned_there at side (ElementOf v i) o y h = some_then (operation side o y) _ h

stepped_there : (at : Span) (side : Side) (t : TargetTree) (o : PostfixOperator)
    → IsSome (expression_update at side (stepped t o))
stepped_there at side (Scalar v) o = refl
stepped_there at side (ElementOf v i) o = refl

prefixed_there : (at : Span) (side : Side) (o : PrefixOperator) (target : Option TargetTree)
    (operand : Option ResolvedExpressionTree) → is_step o ≡ true
    → IfSome (prefixed o target operand) (λ y. IsSome (expression_update at side y))
prefixed_there at side prefixes.Increment target operand is = if_then (λ t. Unit {0}) _ target _
    (if_any (λ t. Unit {0}) target (λ t. tt)) (λ t u. assigned_there at side t assigns.Add _ refl)
prefixed_there at side prefixes.Decrement target operand is = if_then (λ t. Unit {0}) _ target _
    (if_any (λ t. Unit {0}) target (λ t. tt)) (λ t u. assigned_there at side t assigns.Subtract _ refl)
prefixed_there at side _ target operand is = cc

expression_there : (scopes : Scopes) (at : Span) (side : Side) (e : ExpressionTree) → is_update e ≡ true
    → IfSome (resolved_expression scopes e) (λ y. IsSome (expression_update at side y))
unfolding is_update resolved_expression
expression_there scopes at side (trees.Prefix o sign x) form = prefixed_there at side o _ _ (both (is_step o) _ form).0
expression_there scopes at side (trees.Postfix x o sign) form = if_then (λ t. Unit {0}) _ (resolved_target scopes x) _
    (if_any (λ t. Unit {0}) (resolved_target scopes x) (λ t. tt)) (λ t u. stepped_there at side t o)
expression_there scopes at side (trees.Assign x o sign e) form =
    if_then (λ t. Unit {0}) _ (resolved_target scopes x) _
    (if_any (λ t. Unit {0}) (resolved_target scopes x) (λ t. tt)) (λ t u.
    if_then (λ y. IsSome (operation side o y)) _ (resolved_expression scopes e) _
    (operation_there scopes side x o e (both _ (is_updated x o e) form).1) (λ y h. assigned_there at side t o y h))
expression_there scopes at side _ form = cc

update_there : (scopes : Scopes) (parallel : Option ℕ) (side : Side) (s : StatementTree)
    → has_atomic_form kinds.Update s ≡ true
    → IfSome (resolved_statement scopes parallel s) (λ t. IsSome (update_of side t))
unfolding has_atomic_form resolved_statement
update_there scopes parallel side (Expression e semicolon) form =
    if_then (λ y. IsSome (expression_update (expression_first e) side y)) _ (resolved_expression scopes e) _
    (expression_there scopes (expression_first e) side e form) (λ y h. h)
update_there scopes parallel side _ form = cc

-- ---- constructs

with_update_there : (at : Span) (update : Option resolved.ResolvedUpdateTree) → IsSome update
    → IsSome (with_update at update)
with_update_there at None h = cc
with_update_there at (Some update) h = refl

atomic_there : (kind : AtomicKind) (side : Side) (at : Span) (cs : List ResolvedClauseTree)
    (body : ResolvedStatementTree) → (kind ≡ kinds.Update → IsSome (update_of side body))
    → IsSome (atomic_of kind side at cs body)
atomic_there kinds.Update side at cs body h = with_update_there at (update_of side body) (h refl)
atomic_there kinds.Read side at cs body h = refl
atomic_there kinds.Write side at cs body h = refl

named_there : (parallel : Option ℕ) (side : Side) (d : Directive ExpressionTree) (name : DirectiveName)
    (cs : List ResolvedClauseTree) (body : ResolvedStatementTree) (Form Forms : Type 0) → IsConstruct name
    → (traits_of name).takes_loop ≡ false → Where (is_atomic name) Form Forms
    → (Form → atomic_kind d ≡ kinds.Update → IsSome (update_of side body))
    → IsSome (construct_of parallel side d name cs body)
unfolding construct_of
named_there parallel side d (directives.Atomic s) cs body Form Forms is plain forms update =
    atomic_there (atomic_kind d) side d.hash cs body (update forms)
named_there parallel side d (directives.Parallel s) cs body Form Forms is plain forms update = refl
named_there parallel side d (directives.Task s) cs body Form Forms is plain forms update = refl
named_there parallel side d (directives.Taskgroup s) cs body Form Forms is plain forms update = refl
named_there parallel side d (directives.Single s) cs body Form Forms is plain forms update = refl
named_there parallel side d (directives.Masked s) cs body Form Forms is plain forms update = refl
named_there parallel side d (directives.Master s) cs body Form Forms is plain forms update = refl
named_there parallel side d (directives.Critical s name) cs body Form Forms is plain forms update = refl
named_there parallel side d (directives.For s) cs body Form Forms is plain forms update = cc
named_there parallel side d (directives.ParallelFor s t) cs body Form Forms is plain forms update = cc
named_there parallel side d (directives.Section s) cs body Form Forms is plain forms update =
    let clash = is.1 in cc
named_there parallel side d (directives.Sections s) cs body Form Forms is plain forms update =
    let clash = is.2 in cc
named_there parallel side d (directives.ParallelSections s t) cs body Form Forms is plain forms update =
    let clash = is.2 in cc
named_there parallel side d _ cs body Form Forms is plain forms update = let clash = is.0 in cc

forms_inside : (is_atomic : Bool) (kind : AtomicKind) (s : StatementTree)
    → Where is_atomic (has_atomic_form kind s ≡ true) (HasForms true s) → HasForms true s
unfolding has_atomic_form HasForms
forms_inside false kind s forms = forms
forms_inside true kind (Expression e semicolon) forms = tt
forms_inside true kind _ forms = cc

-- the statement of a proper construct is proper
pub proper_inside : (d : Directive ExpressionTree) (s : StatementTree) → IsProper (Construct d s) → IsProper s
unfolding IsStatement HasForms
proper_inside d s proper = (proper.0.2, forms_inside (is_atomic d.name) (atomic_kind d) s proper.1)

-- a proper construct that is for any statement is there, round what its statement resolves to
pub construct_there : (scopes : Scopes) (within outer : Option ℕ) (d : Directive ExpressionTree) (s : StatementTree)
    (side : Side) (cs : List ResolvedClauseTree) (body : ResolvedStatementTree) → IsProper (Construct d s)
    → (traits_of d.name).takes_loop ≡ false → resolved_statement scopes within s ≡ Some body
    → IsSome (construct_of outer side d d.name cs body)
unfolding IsStatement HasForms
construct_there scopes within outer d s side cs body proper plain found =
    named_there outer side d d.name cs body (has_atomic_form (atomic_kind d) s ≡ true) (HasForms true s) proper.0.1
    plain proper.1 (λ form kind. given (λ t. IsSome (update_of side t)) (resolved_statement scopes within s) body
    (update_there scopes within side s (subst (λ k. has_atomic_form k s ≡ true) kind form)) found)

-- ---- parts of `sections`

items_formed : (ss : StatementsTree) → ArePartItems ss → AreStatements ss
unfolding IsStatement
items_formed NoStatements formed = tt
items_formed (Statement s rest) formed = (formed.0, items_formed rest formed.2)

further_proper : (parts : PartsTree) → AreFurtherParts parts → PartsHaveForms true parts → AreProperParts parts
unfolding IsStatement HasForms
further_proper NoParts formed forms = tt
further_proper (Part section items rest) formed forms =
    ((items_formed items formed.2, forms.0), further_proper rest formed.3 forms.1)

pub parts_proper : (parts : PartsTree) → AreParts parts → PartsHaveForms true parts → AreProperParts parts
unfolding IsStatement HasForms
parts_proper NoParts formed forms = absurd formed
parts_proper (Part section items rest) formed forms =
    ((items_formed items formed.2, forms.0), further_proper rest formed.3 forms.1)

-- What is in a statement is smaller than it, and has code where that does.
use Rattle.std.proofs.Common.{◌≡◌, ◌<◌, ◌≤◌, suc, Bool, true, false, List, [], ◌∷◌, None, length, map, option_map}
use Rattle.std.proofs.Common.{add-one, refl, sym, ap, ◌∙◌, subst, arith}
use Rattle.std.specs.Prelude.{IfSome, is_some}
use Rattle.om_lower_emit.specs.declared.spot.Spot.{Spot}
use Rattle.om_lower_emit.specs.Stretches.{IsNoAtomic}
use Rattle.om_scope_tree.specs.declared.resolved.AtomicAccess.{AtomicAccess}
use Rattle.om_scope_tree.specs.declared.resolved.ConstructKind.{ConstructKind}
use Rattle.om_scope_tree.specs.declared.resolved.ConstructKind.TheVariants as constructs
use Rattle.om_scope_tree.specs.declared.resolved.ResolvedPart.{ResolvedPart}
use Rattle.om_scope_tree.specs.declared.resolved.ResolvedStatement.{ResolvedStatement}
use Rattle.om_scope_tree.specs.declared.resolved.ResolvedStatement.TheVariants as v
use Rattle.om_scope_tree.specs.declared.resolved.ResolvedStatement.TheViews.{size-ResolvedStatement, sized-Construct}
use Rattle.om_scope_tree.specs.declared.resolved.ResolvedStatement.TheViews.{sized-Do, sized-For, sized-If, sized-IfElse}
use Rattle.om_scope_tree.specs.declared.resolved.ResolvedStatement.TheViews.{sized-Loop, sized-While}
use Rattle.om_scope_tree.specs.ResolvedTree as trees
use Rattle.om_scope_tree.specs.ResolvedTree.{ResolvedPartsTree, ResolvedStatementTree, ResolvedStatementsTree}
use Rattle.om_scope_tree.specs.ResolvedView as view
use Rattle.om_scope_tree.specs.Whole.{part_count}
use Rattle.om_lower_rules.specs.Bodies.{Numbers, behind}
use Rattle.om_lower_rules.specs.Coded.{AssignmentHasCode, EffectHasCode, LoopHasCode, PartsHaveCode, RegionIsCoded}
use Rattle.om_lower_rules.specs.Coded.{StartHasCode, StatementHasCode, StatementsHaveCode, ValueHasCode}
use Rattle.om_lower_rules.specs.declared.tables.Numbers as tables
use Rattle.om_lower.proofs.Views.{view_construct, view_do, view_for, view_if, view_if_else, view_loop, view_sections}
use Rattle.om_lower.proofs.Views.{view_region, view_while}

-- ---- smaller

pub if_inside : (tree x : ResolvedStatement) (at : _) (c : _) (s : _) → tree ≡ v.If at c s → x ≡ s.value
    → size-ResolvedStatement x < size-ResolvedStatement tree
if_inside tree x at c s is same =
    omega (arith, ap size-ResolvedStatement is, sized-If at c s, ap size-ResolvedStatement same)

pub then_inside : (tree x : ResolvedStatement) (at : _) (c : _) (s : _) (t : _) → tree ≡ v.IfElse at c s t
    → x ≡ s.value
    → size-ResolvedStatement x < size-ResolvedStatement tree
then_inside tree x at c s t is same =
    omega (arith, ap size-ResolvedStatement is, sized-IfElse at c s t, ap size-ResolvedStatement same)

pub else_inside : (tree x : ResolvedStatement) (at : _) (c : _) (s : _) (t : _) → tree ≡ v.IfElse at c s t
    → x ≡ t.value
    → size-ResolvedStatement x < size-ResolvedStatement tree
else_inside tree x at c s t is same =
    omega (arith, ap size-ResolvedStatement is, sized-IfElse at c s t, ap size-ResolvedStatement same)

pub while_inside : (tree x : ResolvedStatement) (at : _) (c : _) (s : _) → tree ≡ v.While at c s → x ≡ s.value
    → size-ResolvedStatement x < size-ResolvedStatement tree
while_inside tree x at c s is same =
    omega (arith, ap size-ResolvedStatement is, sized-While at c s, ap size-ResolvedStatement same)

pub do_inside : (tree x : ResolvedStatement) (at : _) (s : _) (c : _) → tree ≡ v.Do at s c → x ≡ s.value
    → size-ResolvedStatement x < size-ResolvedStatement tree
do_inside tree x at s c is same =
    omega (arith, ap size-ResolvedStatement is, sized-Do at s c, ap size-ResolvedStatement same)

pub for_inside : (tree x : ResolvedStatement) (at : _) (h : _) (s : _) → tree ≡ v.For at h s → x ≡ s.value
    → size-ResolvedStatement x < size-ResolvedStatement tree
for_inside tree x at h s is same =
    omega (arith, ap size-ResolvedStatement is, sized-For at h s, ap size-ResolvedStatement same)

pub loop_inside : (tree x : ResolvedStatement) (at : _) (clauses : _) (nowait : _) (l : _) (s : _)
    → tree ≡ v.Loop at clauses nowait l s → x ≡ s.value
    → size-ResolvedStatement x < size-ResolvedStatement tree
loop_inside tree x at clauses nowait l s is same =
    omega (arith, ap size-ResolvedStatement is, sized-Loop at clauses nowait l s, ap size-ResolvedStatement same)

pub construct_inside : (tree x : ResolvedStatement) (at : _) (kind : _) (clauses : _) (s : _)
    → tree ≡ v.Construct at kind clauses s → x ≡ s.value
    → size-ResolvedStatement x < size-ResolvedStatement tree
construct_inside tree x at kind clauses s is same =
    omega (arith, ap size-ResolvedStatement is, sized-Construct at kind clauses s, ap size-ResolvedStatement same)

-- ---- code

pub if_code : (breaks continues : Bool) (tree : ResolvedStatement) (at : _) (c : _) (s : _) → tree ≡ v.If at c s
    → StatementHasCode breaks continues (view.statement tree)
    → ValueHasCode (view.expression c) × StatementHasCode breaks continues (view.statement s.value)
if_code breaks continues tree at c s is code =
    subst (λ z. StatementHasCode breaks continues z) (ap view.statement is ∙ view_if at c s) code

pub if_else_code : (breaks continues : Bool) (tree : ResolvedStatement) (at : _) (c : _) (s : _) (t : _)
    → tree ≡ v.IfElse at c s t → StatementHasCode breaks continues (view.statement tree)
    → ValueHasCode (view.expression c) × StatementHasCode breaks continues (view.statement s.value)
    × StatementHasCode breaks continues (view.statement t.value)
if_else_code breaks continues tree at c s t is code =
    subst (λ z. StatementHasCode breaks continues z) (ap view.statement is ∙ view_if_else at c s t) code

pub while_code : (breaks continues : Bool) (tree : ResolvedStatement) (at : _) (c : _) (s : _)
    → tree ≡ v.While at c s → StatementHasCode breaks continues (view.statement tree)
    → ValueHasCode (view.expression c) × StatementHasCode true true (view.statement s.value)
while_code breaks continues tree at c s is code =
    subst (λ z. StatementHasCode breaks continues z) (ap view.statement is ∙ view_while at c s) code

pub region_code : (breaks continues : Bool) (tree : ResolvedStatement) (at : _) (kind : _) (clauses : _) (captures : _)
    (s : _) (xs : _) → tree ≡ v.Region at kind clauses captures s → xs ≡ clauses.items
    → StatementHasCode breaks continues (view.statement tree)
    → RegionIsCoded true kind (map view.clause xs)
region_code breaks continues tree at kind clauses captures s xs is listed code =
    subst (λ ys. RegionIsCoded true kind (map view.clause ys)) (sym listed)
    (subst (λ z. StatementHasCode breaks continues z) (ap view.statement is
    ∙ view_region at kind clauses captures s) code)

pub do_code : (breaks continues : Bool) (tree : ResolvedStatement) (at : _) (s : _) (c : _) → tree ≡ v.Do at s c
    → StatementHasCode breaks continues (view.statement tree)
    → StatementHasCode true true (view.statement s.value) × ValueHasCode (view.expression c)
do_code breaks continues tree at s c is code =
    subst (λ z. StatementHasCode breaks continues z) (ap view.statement is ∙ view_do at s c) code

pub for_code : (breaks continues : Bool) (tree : ResolvedStatement) (at : _) (h : _) (s : _) → tree ≡ v.For at h s
    → StatementHasCode breaks continues (view.statement tree)
    → StartHasCode (view.start h.value.start)
    × IfSome (option_map view.expression h.value.condition) ValueHasCode
    × IfSome (option_map view.expression h.value.step) EffectHasCode
    × StatementHasCode true true (view.statement s.value)
for_code breaks continues tree at h s is code =
    subst (λ z. StatementHasCode breaks continues z) (ap view.statement is ∙ view_for at h s) code

pub loop_code : (breaks continues : Bool) (tree : ResolvedStatement) (at : _) (clauses : _) (nowait : _) (l : _)
    (s : _) → tree ≡ v.Loop at clauses nowait l s
    → StatementHasCode breaks continues (view.statement tree)
    → LoopHasCode (view.loop l.value) × StatementHasCode false true (view.statement s.value)
loop_code breaks continues tree at clauses nowait l s is code =
    subst (λ z. StatementHasCode breaks continues z) (ap view.statement is
    ∙ view_loop at clauses nowait l s) code

kind_code : (breaks continues : Bool) (at : _) (kind : ConstructKind) (clauses : _) (s : ResolvedStatementTree)
    → IsNoAtomic kind → StatementHasCode breaks continues (trees.Construct at kind clauses s)
    → StatementHasCode false false s
kind_code breaks continues at (constructs.Single nowait) clauses s h code = code
kind_code breaks continues at constructs.Masked clauses s h code = code.1
kind_code breaks continues at (constructs.Critical name) clauses s h code = code
kind_code breaks continues at (constructs.Atomic access) clauses s h code = absurd h
kind_code breaks continues at constructs.Taskgroup clauses s h code = code

pub construct_code : (breaks continues : Bool) (tree : ResolvedStatement) (at : _) (kind : ConstructKind)
    (clauses : _) (s : _) → IsNoAtomic kind → tree ≡ v.Construct at kind clauses s
    → StatementHasCode breaks continues (view.statement tree)
    → StatementHasCode false false (view.statement s.value)
construct_code breaks continues tree at kind clauses s h is code =
    kind_code breaks continues at kind (map view.clause clauses.items) (view.statement s.value) h
    (subst (λ z. StatementHasCode breaks continues z) (ap view.statement is
    ∙ view_construct at kind clauses s) code)

pub sections_code : (breaks continues : Bool) (tree : ResolvedStatement) (at : _) (clauses : _) (nowait : _)
    (parts : _) → tree ≡ v.Sections at clauses nowait parts
    → StatementHasCode breaks continues (view.statement tree)
    → (part_count (trees.parts (map view.part parts.items)) ≤ 256)
    × PartsHaveCode (trees.parts (map view.part parts.items))
sections_code breaks continues tree at clauses nowait parts is code =
    subst (λ z. StatementHasCode breaks continues z) (ap view.statement is
    ∙ view_sections at clauses nowait parts) code

parts_counted : (ps : List ResolvedPart) → length ps ≡ part_count (trees.parts (map view.part ps))
parts_counted [] = refl
parts_counted (p ∷ ps) = ap suc (parts_counted ps) ∙ sym (add-one (part_count (trees.parts (map view.part ps))))

-- its parts are few
pub sections_few : (breaks continues : Bool) (tree : ResolvedStatement) (xs : List ResolvedPart) (at : _)
    (clauses : _) (nowait : _) (parts : _) → tree ≡ v.Sections at clauses nowait parts → xs ≡ parts.items
    → StatementHasCode breaks continues (view.statement tree) → length xs ≤ 256
sections_few breaks continues tree xs at clauses nowait parts is same code =
    omega (
      arith,
      ap length same,
      parts_counted parts.items,
      (sections_code breaks continues tree at clauses nowait parts is code).0,
    )

-- no body begins in the assignment of an `atomic`
assignment_ends : (n : Numbers) (s : ResolvedStatementTree) → AssignmentHasCode s → n ≡ behind n s
assignment_ends n (trees.Expression at e) code = refl
assignment_ends n _ code = absurd code

pub atomic_ends : (breaks continues : Bool) (n : Numbers) (tree : ResolvedStatement) (at : _) (kind : ConstructKind)
    (access : AtomicAccess) (clauses : _) (s : _) → tree ≡ v.Construct at kind clauses s
    → kind ≡ constructs.Atomic access
    → StatementHasCode breaks continues (view.statement tree) → n ≡ behind n (view.statement tree)
atomic_ends breaks continues n tree at kind access clauses s is plain code =
    let seen = ap view.statement is ∙ view_construct at kind clauses s in
    let assigned : AssignmentHasCode (view.statement s.value) =
    subst (λ k. StatementHasCode breaks continues (trees.Construct at k (map view.clause clauses.items)
    (view.statement s.value))) plain (subst (λ z. StatementHasCode breaks continues z) seen code) in
    assignment_ends n (view.statement s.value) assigned ∙ ap (λ z. behind n z) (sym seen)

-- where it stands at a spot
pub code_at : (x y : Spot) (s t : ResolvedStatement) → x ≡ y → s ≡ t
    → StatementHasCode (is_some y.jumps.over) (is_some y.jumps.next) (view.statement t)
    → StatementHasCode (is_some x.jumps.over) (is_some x.jumps.next) (view.statement s)
code_at x y s t e f h =
    subst (λ z. StatementHasCode (is_some z.jumps.over) (is_some z.jumps.next) (view.statement s)) (sym e)
    (subst (λ z. StatementHasCode (is_some y.jumps.over) (is_some y.jumps.next) (view.statement z)) (sym f) h)

-- ---- code in a loop

pub code_here : (x y : Spot) (left rest : ResolvedStatementsTree) (s : ResolvedStatementTree) → x ≡ y
    → left ≡ trees.Statement s rest → StatementsHaveCode (is_some y.jumps.over) (is_some y.jumps.next) left
    → StatementHasCode (is_some x.jumps.over) (is_some x.jumps.next) s
code_here x y left rest s e here code =
    let both : StatementsHaveCode (is_some y.jumps.over) (is_some y.jumps.next) (trees.Statement s rest) =
    subst (λ z. StatementsHaveCode (is_some y.jumps.over) (is_some y.jumps.next) z) here code in
    subst (λ z. StatementHasCode (is_some z.jumps.over) (is_some z.jumps.next) s) (sym e) both.0

pub parts_code_here : (x : Spot) (n : tables.Numbers) (left rest : ResolvedPartsTree) (xs ys : List ResolvedStatement)
    → x ≡ record { numbers = n; jumps = record { over = None; next = None } } → xs ≡ ys
    → left ≡ trees.Part (trees.statements (map view.statement ys)) rest → PartsHaveCode left
    → StatementsHaveCode (is_some x.jumps.over) (is_some x.jumps.next)
    (trees.statements (map view.statement xs))
parts_code_here x n left rest xs ys e same here code =
    let both : PartsHaveCode (trees.Part (trees.statements (map view.statement ys)) rest) =
    subst (λ z. PartsHaveCode z) here code in
    subst (λ z. StatementsHaveCode (is_some z.jumps.over) (is_some z.jumps.next)
    (trees.statements (map view.statement xs))) (sym e)
    (subst (λ zs. StatementsHaveCode false false (trees.statements (map view.statement zs))) (sym same) both.0)

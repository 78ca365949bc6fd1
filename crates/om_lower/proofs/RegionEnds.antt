-- The numbers behind the regions in a statement are those behind the regions in its parts.
use Rattle.std.proofs.Common.{◌≡◌, ◌<◌, List, map, sym, ap, ◌∙◌, subst}
use Rattle.om_scope_tree.specs.declared.resolved.ResolvedStatement.{ResolvedStatement}
use Rattle.om_scope_tree.specs.declared.resolved.ResolvedStatement.TheVariants as v
use Rattle.om_scope_tree.specs.ResolvedTree as trees
use Rattle.om_scope_tree.specs.ResolvedTree.{ResolvedPartsTree, ResolvedStatementTree, ResolvedStatementsTree}
use Rattle.om_scope_tree.specs.ResolvedView as view
use Rattle.om_lower_rules.specs.Bodies.{Numbers, behind, behind_all, next_body, next_pick, region_variables}
use Rattle.om_lower_emit.specs.declared.spot.Spot.{Spot}
use Rattle.om_lower_rules.specs.Ends.{HasAllEnds, HasEnds, HasPartsEnds, IsKnown, KnownBodies}
use Rattle.om_lower_rules.specs.Numbering.{numbers_of}
use Rattle.om_lower.proofs.Views.{view_construct, view_do, view_for, view_if, view_if_else, view_loop}
use Rattle.om_lower.proofs.Views.{view_region, view_sections, view_while}

pub if_ends : (ends : KnownBodies) (n : Numbers) (tree : ResolvedStatement) (at : _) (c : _) (s : _)
    → tree ≡ v.If at c s → HasEnds ends n (view.statement tree)
    → HasEnds ends n (view.statement s.value)
if_ends ends n tree at c s is has =
    subst (λ z. HasEnds ends n z) (ap view.statement is ∙ view_if at c s) has

pub if_else_ends : (ends : KnownBodies) (n : Numbers) (tree : ResolvedStatement) (at : _) (c : _) (s : _) (t : _)
    → tree ≡ v.IfElse at c s t → HasEnds ends n (view.statement tree)
    → HasEnds ends n (view.statement s.value)
    × HasEnds ends (behind n (view.statement s.value)) (view.statement t.value)
if_else_ends ends n tree at c s t is has =
    subst (λ z. HasEnds ends n z) (ap view.statement is ∙ view_if_else at c s t) has

pub while_ends : (ends : KnownBodies) (n : Numbers) (tree : ResolvedStatement) (at : _) (c : _) (s : _)
    → tree ≡ v.While at c s → HasEnds ends n (view.statement tree)
    → HasEnds ends n (view.statement s.value)
while_ends ends n tree at c s is has =
    subst (λ z. HasEnds ends n z) (ap view.statement is ∙ view_while at c s) has

pub do_ends : (ends : KnownBodies) (n : Numbers) (tree : ResolvedStatement) (at : _) (s : _) (c : _)
    → tree ≡ v.Do at s c → HasEnds ends n (view.statement tree)
    → HasEnds ends n (view.statement s.value)
do_ends ends n tree at s c is has =
    subst (λ z. HasEnds ends n z) (ap view.statement is ∙ view_do at s c) has

pub for_ends : (ends : KnownBodies) (n : Numbers) (tree : ResolvedStatement) (at : _) (h : _) (s : _)
    → tree ≡ v.For at h s → HasEnds ends n (view.statement tree)
    → HasEnds ends n (view.statement s.value)
for_ends ends n tree at h s is has =
    subst (λ z. HasEnds ends n z) (ap view.statement is ∙ view_for at h s) has

pub loop_ends : (ends : KnownBodies) (n : Numbers) (tree : ResolvedStatement) (at : _) (clauses : _)
    (nowait : _) (l : _) (s : _) → tree ≡ v.Loop at clauses nowait l s
    → HasEnds ends n (view.statement tree)
    → HasEnds ends n (view.statement s.value)
loop_ends ends n tree at clauses nowait l s is has =
    subst (λ z. HasEnds ends n z) (ap view.statement is ∙ view_loop at clauses nowait l s) has

pub construct_ends : (ends : KnownBodies) (n : Numbers) (tree : ResolvedStatement) (at : _) (kind : _)
    (clauses : _) (s : _) → tree ≡ v.Construct at kind clauses s
    → HasEnds ends n (view.statement tree)
    → HasEnds ends n (view.statement s.value)
construct_ends ends n tree at kind clauses s is has =
    subst (λ z. HasEnds ends n z) (ap view.statement is ∙ view_construct at kind clauses s) has

pub sections_ends : (ends : KnownBodies) (n : Numbers) (tree : ResolvedStatement) (at : _) (clauses : _)
    (nowait : _) (parts : _) → tree ≡ v.Sections at clauses nowait parts
    → HasEnds ends n (view.statement tree)
    → (n.picks < 4294967295) × HasPartsEnds ends (next_pick n) (trees.parts (map view.part parts.items))
sections_ends ends n tree at clauses nowait parts is has =
    subst (λ z. HasEnds ends n z) (ap view.statement is ∙ view_sections at clauses nowait parts) has

pub region_ends : (ends : KnownBodies) (n : Numbers) (tree x : ResolvedStatement) (at : _) (kind : _) (clauses : _)
    (captures : _) (s : _) (xs : _) → tree ≡ v.Region at kind clauses captures s → x ≡ s.value → xs ≡ clauses.items
    → HasEnds ends n (view.statement tree)
    → IsKnown ends n.bodies (behind (next_body n) (view.statement x))
    (region_variables (map view.clause xs) (view.statement x))
region_ends ends n tree x at kind clauses captures s xs is same listed has =
    let known : HasEnds ends n (trees.Region at kind (map view.clause clauses.items) captures
    (view.statement s.value)) =
    subst (λ z. HasEnds ends n z) (ap view.statement is ∙ view_region at kind clauses captures s) has in
    subst (λ ys. IsKnown ends n.bodies (behind (next_body n) (view.statement x))
    (region_variables (map view.clause ys) (view.statement x))) (sym listed)
    (subst (λ z. IsKnown ends n.bodies (behind (next_body n) (view.statement z))
    (region_variables (map view.clause clauses.items) (view.statement z))) (sym same) known)

-- where it stands at a spot
pub ends_at : (ends : KnownBodies) (x y : Spot) (s t : ResolvedStatement) → x ≡ y → s ≡ t
    → HasEnds ends (numbers_of y.numbers) (view.statement t)
    → HasEnds ends (numbers_of x.numbers) (view.statement s)
ends_at ends x y s t e f h =
    subst (λ z. HasEnds ends (numbers_of z.numbers) (view.statement s)) (sym e)
    (subst (λ z. HasEnds ends (numbers_of y.numbers) (view.statement z)) (sym f) h)

-- behind another statement
pub ends_behind : (ends : KnownBodies) (x y : Spot) (n : Numbers) (before s t u : ResolvedStatement)
    → x ≡ y → numbers_of y.numbers ≡ behind n (view.statement before) → before ≡ u → s ≡ t
    → HasEnds ends (behind n (view.statement u)) (view.statement t)
    → HasEnds ends (numbers_of x.numbers) (view.statement s)
ends_behind ends x y n before s t u e is same f h =
    subst (λ z. HasEnds ends (numbers_of z.numbers) (view.statement s)) (sym e)
    (subst (λ m. HasEnds ends m (view.statement s))
    (sym (is ∙ ap (λ z. behind n (view.statement z)) same))
    (subst (λ z. HasEnds ends (behind n (view.statement u)) (view.statement z)) (sym f) h))

-- ---- in a loop

pub ends_next : (ends : KnownBodies) (now after : Numbers) (left rest : ResolvedStatementsTree)
    (s : ResolvedStatementTree) → left ≡ trees.Statement s rest → after ≡ behind now s
    → HasAllEnds ends now left → HasAllEnds ends after rest
ends_next ends now after left rest s here is has =
    let both : HasAllEnds ends now (trees.Statement s rest) = subst (λ z. HasAllEnds ends now z) here has in
    subst (λ m. HasAllEnds ends m rest) (sym is) both.1

pub ends_here : (ends : KnownBodies) (x y : Spot) (left rest : ResolvedStatementsTree)
    (s : ResolvedStatementTree) → x ≡ y → left ≡ trees.Statement s rest
    → HasAllEnds ends (numbers_of y.numbers) left → HasEnds ends (numbers_of x.numbers) s
ends_here ends x y left rest s e here has =
    let both : HasAllEnds ends (numbers_of y.numbers) (trees.Statement s rest) =
    subst (λ z. HasAllEnds ends (numbers_of y.numbers) z) here has in
    subst (λ z. HasEnds ends (numbers_of z.numbers) s) (sym e) both.0

pub parts_ends_next : (ends : KnownBodies) (now after : Numbers) (left rest : ResolvedPartsTree)
    (items : ResolvedStatementsTree) → left ≡ trees.Part items rest → after ≡ behind_all now items
    → HasPartsEnds ends now left → HasPartsEnds ends after rest
parts_ends_next ends now after left rest items here is has =
    let both : HasPartsEnds ends now (trees.Part items rest) = subst (λ z. HasPartsEnds ends now z) here has in
    subst (λ m. HasPartsEnds ends m rest) (sym is) both.1

pub parts_ends_here : (ends : KnownBodies) (x y : Spot) (left rest : ResolvedPartsTree)
    (xs ys : List ResolvedStatement) → x ≡ y → xs ≡ ys
    → left ≡ trees.Part (trees.statements (map view.statement ys)) rest
    → HasPartsEnds ends (numbers_of y.numbers) left
    → HasAllEnds ends (numbers_of x.numbers) (trees.statements (map view.statement xs))
parts_ends_here ends x y left rest xs ys e same here has =
    let both : HasPartsEnds ends (numbers_of y.numbers)
    (trees.Part (trees.statements (map view.statement ys)) rest) =
    subst (λ z. HasPartsEnds ends (numbers_of y.numbers) z) here has in
    subst (λ z. HasAllEnds ends (numbers_of z.numbers) (trees.statements (map view.statement xs))) (sym e)
    (subst (λ zs. HasAllEnds ends (numbers_of y.numbers) (trees.statements (map view.statement zs))) (sym same)
    both.0)

-- What stands in a statement is smaller than it, has code where that does, and the numbers behind its regions are
-- known where those behind the statement's are. This is what the call for it needs.
use Rattle.std.proofs.Common.{◌≡◌, ◌≤◌, ◌<◌, ℕ, ◌+◌, ◌*◌, List, None, Some, length, get_or, map, refl, sym, ap}
use Rattle.std.proofs.Common.{◌∙◌, subst, arith}
use denote.Param.Weighed.{at_most, most}
use Rattle.std.specs.Prelude.{is_some}
use Rattle.om_lower_emit.specs.declared.spot.Spot.{Spot}
use Rattle.om_lower_emit.specs.Stretches.{IsNoAtomic}
use Rattle.om_scope_tree.specs.declared.resolved.ConstructKind.{ConstructKind}
use Rattle.om_scope_tree.specs.declared.resolved.ResolvedPart.{ResolvedPart}
use Rattle.om_scope_tree.specs.declared.resolved.ResolvedStatement.{ResolvedStatement}
use Rattle.om_scope_tree.specs.declared.resolved.ResolvedStatement.TheVariants as v
use Rattle.om_scope_tree.specs.declared.resolved.ResolvedStatement.TheViews.{size-ResolvedPart, size-ResolvedStatement}
use Rattle.om_scope_tree.specs.declared.resolved.ResolvedStatement.TheViews.{sized-Block, sized-Sections}
use Rattle.om_scope_tree.specs.ResolvedTree as trees
use Rattle.om_scope_tree.specs.ResolvedView as view
use Rattle.om_lower_rules.specs.Bodies.{Numbers, behind, next_pick}
use Rattle.om_lower_rules.specs.Coded.{PartsHaveCode, StatementHasCode, StatementsHaveCode}
use Rattle.om_lower_rules.specs.declared.tables.Numbers as tables
use Rattle.om_lower_rules.specs.Ends.{HasAllEnds, HasEnds, HasPartsEnds, KnownBodies}
use Rattle.om_lower_rules.specs.Numbering.{numbers_of}
use Rattle.om_lower.proofs.Inside.{code_at, construct_code, construct_inside, do_code, do_inside, else_inside, sections_code}
use Rattle.om_lower.proofs.Inside.{for_code, for_inside, if_code, if_else_code, if_inside, loop_code, loop_inside}
use Rattle.om_lower.proofs.Inside.{then_inside, while_code, while_inside}
use Rattle.om_lower.proofs.RegionEnds.{construct_ends, do_ends, ends_at, ends_behind, for_ends, if_ends}
use Rattle.om_lower.proofs.RegionEnds.{if_else_ends, loop_ends, sections_ends, while_ends}
use Rattle.om_lower.proofs.Views.{view_block}

abbrev Within : (ends : KnownBodies) → (tree s : ResolvedStatement) → Spot → Type 0
Within ends tree s x = (size-ResolvedStatement s < size-ResolvedStatement tree)
    × StatementHasCode (is_some x.jumps.over) (is_some x.jumps.next) (view.statement s)
    × HasEnds ends (numbers_of x.numbers) (view.statement s)

-- a statement has code at a spot
abbrev HasCodeAt : Spot → ResolvedStatement → Type 0
HasCodeAt x tree = StatementHasCode (is_some x.jumps.over) (is_some x.jumps.next) (view.statement tree)

-- the numbers behind its regions are known there
abbrev HasEndsAt : (ends : KnownBodies) → Spot → ResolvedStatement → Type 0
HasEndsAt ends x tree = HasEnds ends (numbers_of x.numbers) (view.statement tree)

pub if_within : (ends : KnownBodies) (y : Spot) (tree s : ResolvedStatement) (at : _) (c : _) (body : _)
    → tree ≡ v.If at c body → s ≡ body.value → HasCodeAt y tree → HasEndsAt ends y tree → Within ends tree s y
if_within ends y tree s at c body is same code has = (
  if_inside tree s at c body is same,
  code_at y y s body.value refl same (if_code _ _ tree at c body is code).1,
  ends_at ends y y s body.value refl same (if_ends ends _ tree at c body is has),
)

pub then_within : (ends : KnownBodies) (y : Spot) (tree s : ResolvedStatement) (at : _) (c : _) (body : _) (other : _)
    → tree ≡ v.IfElse at c body other → s ≡ body.value → HasCodeAt y tree → HasEndsAt ends y tree
    → Within ends tree s y
then_within ends y tree s at c body other is same code has = (
  then_inside tree s at c body other is same,
  code_at y y s body.value refl same (if_else_code _ _ tree at c body other is code).1,
  ends_at ends y y s body.value refl same (if_else_ends ends _ tree at c body other is has).0,
)

pub else_within : (ends : KnownBodies) (x y : Spot) (between : tables.Numbers) (tree before s : ResolvedStatement)
    (at : _) (c : _) (body : _) (other : _) → tree ≡ v.IfElse at c body other → before ≡ body.value → s ≡ other.value
    → x ≡ record { numbers = between; jumps = y.jumps }
    → numbers_of between ≡ behind (numbers_of y.numbers) (view.statement before)
    → HasCodeAt y tree → HasEndsAt ends y tree → Within ends tree s x
else_within ends x y between tree before s at c body other is first same e behind_it code has = (
  else_inside tree s at c body other is same,
  code_at x (record { numbers = between; jumps = y.jumps }) s other.value e same
      (if_else_code _ _ tree at c body other is code).2,
  ends_behind ends x (record { numbers = between; jumps = y.jumps }) (numbers_of y.numbers) before s other.value
      body.value e behind_it first same (if_else_ends ends _ tree at c body other is has).1,
)

-- in a loop of the text
abbrev in_loop : tables.Numbers → (over next : ℕ) → Spot
in_loop n over next = record { numbers = n; jumps = record { over = Some over; next = Some next } }

pub while_within : (ends : KnownBodies) (x y : Spot) (over next : ℕ) (tree s : ResolvedStatement) (at : _) (c : _)
    (body : _)
    → tree ≡ v.While at c body → s ≡ body.value → x ≡ in_loop y.numbers over next → HasCodeAt y tree
    → HasEndsAt ends y tree → Within ends tree s x
while_within ends x y over next tree s at c body is same e code has = (
  while_inside tree s at c body is same,
  code_at x (in_loop y.numbers over next) s body.value e same (while_code _ _ tree at c body is code).1,
  ends_at ends x (in_loop y.numbers over next) s body.value e same (while_ends ends _ tree at c body is has),
)

pub do_within : (ends : KnownBodies) (x y : Spot) (over next : ℕ) (tree s : ResolvedStatement) (at : _) (body : _)
    (c : _)
    → tree ≡ v.Do at body c → s ≡ body.value → x ≡ in_loop y.numbers over next → HasCodeAt y tree
    → HasEndsAt ends y tree → Within ends tree s x
do_within ends x y over next tree s at body c is same e code has = (
  do_inside tree s at body c is same,
  code_at x (in_loop y.numbers over next) s body.value e same (do_code _ _ tree at body c is code).0,
  ends_at ends x (in_loop y.numbers over next) s body.value e same (do_ends ends _ tree at body c is has),
)

pub for_within : (ends : KnownBodies) (x y : Spot) (over next : ℕ) (tree s : ResolvedStatement) (at : _) (h : _)
    (body : _)
    → tree ≡ v.For at h body → s ≡ body.value → x ≡ in_loop y.numbers over next → HasCodeAt y tree
    → HasEndsAt ends y tree → Within ends tree s x
for_within ends x y over next tree s at h body is same e code has = (
  for_inside tree s at h body is same,
  code_at x (in_loop y.numbers over next) s body.value e same (for_code _ _ tree at h body is code).3,
  ends_at ends x (in_loop y.numbers over next) s body.value e same (for_ends ends _ tree at h body is has),
)

pub loop_within : (ends : KnownBodies) (x y : Spot) (next : ℕ) (tree s : ResolvedStatement) (at : _) (clauses : _)
    (nowait : _) (l : _) (body : _)
    → tree ≡ v.Loop at clauses nowait l body → s ≡ body.value
    → x ≡ record { numbers = y.numbers; jumps = record { over = None; next = Some next } } → HasCodeAt y tree
    → HasEndsAt ends y tree → Within ends tree s x
loop_within ends x y next tree s at clauses nowait l body is same e code has = (
  loop_inside tree s at clauses nowait l body is same,
  code_at x (record { numbers = y.numbers; jumps = record { over = None; next = Some next } }) s body.value e same
      (loop_code _ _ tree at clauses nowait l body is code).1,
  ends_at ends x (record { numbers = y.numbers; jumps = record { over = None; next = Some next } }) s body.value e same
      (loop_ends ends _ tree at clauses nowait l body is has),
)

pub construct_within : (ends : KnownBodies) (x y : Spot) (tree s : ResolvedStatement) (at : _)
    (kind : ConstructKind) (clauses : _) (body : _)
    → IsNoAtomic kind → tree ≡ v.Construct at kind clauses body → s ≡ body.value
    → x ≡ record { numbers = y.numbers; jumps = record { over = None; next = None } } → HasCodeAt y tree
    → HasEndsAt ends y tree → Within ends tree s x
construct_within ends x y tree s at kind clauses body plain is same e code has = (
  construct_inside tree s at kind clauses body is same,
  code_at x (record { numbers = y.numbers; jumps = record { over = None; next = None } }) s body.value e same
      (construct_code _ _ tree at kind clauses body plain is code),
  ends_at ends x (record { numbers = y.numbers; jumps = record { over = None; next = None } }) s body.value e same
      (construct_ends ends _ tree at kind clauses body is has),
)

-- ---- lists

pub block_within : (ends : KnownBodies) (y : Spot) (tree : ResolvedStatement) (xs : List ResolvedStatement) (at : _)
    (items : _) → tree ≡ v.Block at items → xs ≡ items.items → HasCodeAt y tree → HasEndsAt ends y tree
    → (most size-ResolvedStatement xs < size-ResolvedStatement tree)
    × StatementsHaveCode (is_some y.jumps.over) (is_some y.jumps.next)
    (trees.statements (map view.statement xs))
    × HasAllEnds ends (numbers_of y.numbers) (trees.statements (map view.statement xs))
block_within ends y tree xs at items is same code has =
    let seen = ap view.statement is ∙ view_block at items in
    let listed = ap (λ ys. trees.statements (map view.statement ys)) (sym same) in (
      omega (
        arith,
        ap size-ResolvedStatement is,
        sized-Block at items,
        ap (most size-ResolvedStatement) same,
      ),
      subst (λ z. StatementsHaveCode (is_some y.jumps.over) (is_some y.jumps.next) z) listed
          (subst (λ z. StatementHasCode (is_some y.jumps.over) (is_some y.jumps.next) z) seen code),
      subst (λ z. HasAllEnds ends (numbers_of y.numbers) z) listed
          (subst (λ z. HasEnds ends (numbers_of y.numbers) z) seen has),
    )

pub parts_within : (ends : KnownBodies) (m : Numbers) (y : Spot) (tree : ResolvedStatement) (xs : List ResolvedPart)
    (at : _) (clauses : _) (nowait : _) (parts : _) → tree ≡ v.Sections at clauses nowait parts → xs ≡ parts.items
    → m ≡ next_pick (numbers_of y.numbers) → HasCodeAt y tree → HasEndsAt ends y tree
    → (most size-ResolvedPart xs < size-ResolvedStatement tree)
    × PartsHaveCode (trees.parts (map view.part xs))
    × HasPartsEnds ends m (trees.parts (map view.part xs))
parts_within ends m y tree xs at clauses nowait parts is same begun code has =
    let listed = ap (λ ys. trees.parts (map view.part ys)) (sym same) in (
      omega (
        arith,
        ap size-ResolvedStatement is,
        sized-Sections at clauses nowait parts,
        ap (most size-ResolvedPart) same,
      ),
      subst (λ z. PartsHaveCode z) listed (sections_code _ _ tree at clauses nowait parts is code).1,
      subst (λ k. HasPartsEnds ends k (trees.parts (map view.part xs))) (sym begun)
          (subst (λ z. HasPartsEnds ends (next_pick (numbers_of y.numbers)) z) listed
          (sections_ends ends (numbers_of y.numbers) tree at clauses nowait parts is has).1),
    )

-- an item is no larger than the largest one; `size` is the one by which the call of the loop's function is measured
pub with_depth : {X : Type 0} (size : X → ℕ) (m a : ℕ) (items : List X) (i : ℕ) (item : X) {n : ℕ} {G : Type 0}
    → i < length items → item ≡ get_or items i item → m * most size items + a ≡ n
    → (size item ≤ most size items → G) → G
with_depth size m a items i item below is measure goes_on =
    goes_on (subst (λ x. size x ≤ most size items) (sym is) (at_most size items i item below))

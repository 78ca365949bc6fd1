-- Statements one behind the other.
use Rattle.std.proofs.Common.{◌≡◌, refl, Bool, ℕ, suc, ◌+◌, ◌<◌, ◌≤◌, List, ◌∷◌, map, get_or, drop, drop-cons, add-one}
use Rattle.std.proofs.Common.{length, sym, ap, ◌∙◌, subst, arith}
use Rattle.std.specs.Prelude.{Err, IfOk, Result}
use Rattle.om_lower_emit.specs.Drafts.{Written}
use Rattle.om_lower_emit.specs.Emits.{site}
use Rattle.om_lower_emit.specs.Writing.{goes_end}
use Rattle.om_scope_tree.specs.declared.resolved.ResolvedStatement.{ResolvedStatement}
use Rattle.om_scope_tree.specs.ResolvedTree as trees
use Rattle.om_scope_tree.specs.ResolvedTree.{ResolvedStatementTree, ResolvedStatementsTree, NoStatements, Statement}
use Rattle.om_scope_tree.specs.ResolvedView as view
use Rattle.om_lower_emit.specs.Stretches.{IsNoAtomic}
use Rattle.om_scope_tree.specs.declared.resolved.AtomicAccess.{AtomicAccess}
use Rattle.om_scope_tree.specs.declared.resolved.ConstructKind.{ConstructKind}
use Rattle.om_scope_tree.specs.declared.resolved.ConstructKind.TheVariants as constructs
use Rattle.om_lower_rules.specs.Bodies.{Numbers, behind, behind_all}
use Rattle.om_lower_rules.specs.Coded.{StatementsHaveCode}
use Rattle.om_lower_emit.specs.declared.spot.Spot.{Spot}
use Rattle.om_lower_rules.specs.Numbering.{numbers_of}
use Rattle.om_lower_rules.specs.Rows.{end}
use Rattle.om_lower_rules.specs.Statements.{statement, statements}
use Rattle.om_lower_emit.specs.declared.spot.JumpLabels.{JumpLabels}
use Rattle.om_lower_emit.specs.Statements.{jumps_at, EmitsStatement, GoesWith}
use Rattle.om_lower_emit.specs.Going.{then_with, with_none}
use Rattle.om_lower_rules.specs.Numbered.{Numbered}
use Rattle.om_lower_rules.specs.Picks.{own_picks, all_own_picks}

-- whoever writes what is left, with the numbers there, has written all
unfoldable pub Onward : (k : ℕ) → Numbered → JumpLabels → (first now : Numbers) → (all left : ResolvedStatementsTree)
    → (begun so_far : Written) → Type 0
Onward k names jumps first now all left begun so_far = (k ≤ length so_far.places) × ((c : Written)
    → GoesWith k (all_own_picks now left) (λ done at. statements (site names done) now left (jumps_at at jumps))
    so_far c
    → GoesWith k (all_own_picks first all) (λ done at. statements (site names done) first all (jumps_at at jumps))
    begun c)

pub onward_begin : (names : Numbered) (jumps : JumpLabels) (n : Numbers) (all : ResolvedStatementsTree) (a : Written)
    → Onward (length a.places) names jumps n n all all a a
unfolding Onward
onward_begin names jumps n all a = (omega arith, λ c g. g)

pub onward_next : (k : ℕ) (names : Numbered) (jumps : JumpLabels) (first now after : Numbers)
    (all rest : ResolvedStatementsTree) (s : ResolvedStatementTree) (begun a b : Written)
    → after ≡ behind now s → Onward k names jumps first now all (Statement s rest) begun a → EmitsStatement names
    now s jumps a b
    → Onward k names jumps first after all rest begun b
unfolding Onward
onward_next k names jumps first now after all rest s begun a b is g e = (
  omega (arith, g.0, e.more),
  λ c h. g.1 c
      (then_with k (length a.places) k (own_picks now s) (all_own_picks (behind now s) rest)
      (λ done at. statement (site names done) now s (jumps_at at jumps)) (λ done at. statements (site names done)
      (behind now s) rest (jumps_at at jumps)) a b c g.0 (omega arith) e
      (subst (λ m. GoesWith k (all_own_picks m rest) (λ done at. statements (site names done) m rest
      (jumps_at at jumps)) b c) is h)),
)

pub onward_end : (k : ℕ) (names : Numbered) (jumps : JumpLabels) (first now : Numbers) (all : ResolvedStatementsTree)
    (begun a : Written)
    → Onward k names jumps first now all NoStatements begun a → GoesWith k (all_own_picks first all)
    (λ done at. statements (site names done) first all (jumps_at at jumps)) begun a
unfolding Onward
onward_end k names jumps first now all begun a g = g.1 a (with_none k (λ done at. end) a a (goes_end k a))

-- what is left begins with the item that is met
pub left_item : (items : List ResolvedStatement) (k : ℕ) (x : ResolvedStatement) → k < length items → x
    ≡ get_or items k x
    → trees.statements (map view.statement (drop k items)) ≡ Statement (view.statement x)
    (trees.statements (map view.statement (drop (k + 1) items)))
left_item items k x lt is =
    ap (λ xs. trees.statements (map view.statement xs))
    (drop-cons items k x lt ∙ ap (λ y. y ∷ drop (suc k) items) (sym is) ∙ ap (λ j. x ∷ drop j items) (sym (add-one k)))

-- what is left has code, its numbers lead to those behind all, and whoever writes it has written all
pub left_next : (breaks continues : Bool) (k : ℕ) (names : Numbered) (jumps : JumpLabels) (first now after : Numbers)
    (all left rest : ResolvedStatementsTree) (s : ResolvedStatementTree) (begun a b : Written)
    → left ≡ Statement s rest → after ≡ behind now s → EmitsStatement names now s jumps a b
    → StatementsHaveCode breaks continues left → behind_all now left ≡ behind_all first all → Onward k names jumps
    first now all left begun a
    → StatementsHaveCode breaks continues rest × (behind_all after rest ≡ behind_all first all)
    × Onward k names jumps first after all rest begun b
left_next breaks continues k names jumps first now after all left rest s begun a b here is e code numbers onward =
    let code2 : StatementsHaveCode breaks continues (Statement s rest) = subst
    (λ z. StatementsHaveCode breaks continues z) here code in
    let numbers2 : behind_all (behind now s) rest ≡ behind_all first all = subst (λ z. behind_all now z
    ≡ behind_all first all) here numbers in (
      code2.1,
      ap (λ m. behind_all m rest) is ∙ numbers2,
      onward_next k names jumps first now after all rest s begun a b is
          (subst (λ z. Onward k names jumps first now all z begun a) here onward) e,
    )

pub onward_done : (k : ℕ) (names : Numbered) (jumps : JumpLabels) (first now : Numbers)
    (all left : ResolvedStatementsTree) (begun a : Written)
    → left ≡ NoStatements → Onward k names jumps first now all left begun a → GoesWith k (all_own_picks first all)
    (λ done at. statements (site names done) first all (jumps_at at jumps)) begun a
onward_done k names jumps first now all left begun a none g =
    onward_end k names jumps first now all begun a (subst (λ z. Onward k names jumps first now all z begun a) none g)

-- the same spot
pub spot_is : (names : Numbered) (s : ResolvedStatementTree) (x y : Spot) (a b : Written) → x ≡ y
    → EmitsStatement names (numbers_of x.numbers) s x.jumps a b → EmitsStatement names (numbers_of y.numbers) s
    y.jumps a b
spot_is names s x y a b e h = subst (λ z. EmitsStatement names (numbers_of z.numbers) s z.jumps a b) e h

-- the same statement
pub statement_is : (names : Numbered) (n : Numbers) (x y : ResolvedStatementTree) (jumps : JumpLabels) (a b : Written)
    → x ≡ y
    → EmitsStatement names n x jumps a b → EmitsStatement names n y jumps a b
statement_is names n x y jumps a b e h = subst (λ z. EmitsStatement names n z jumps a b) e h

-- the same numbers
pub numbers_are : (names : Numbered) (n m : Numbers) (s : ResolvedStatementTree) (jumps : JumpLabels) (a b : Written)
    → n ≡ m
    → EmitsStatement names n s jumps a b → EmitsStatement names m s jumps a b
numbers_are names n m s jumps a b e h = subst (λ z. EmitsStatement names z s jumps a b) e h

-- where memory runs out, nothing is promised
pub nothing_on_error : {T E : Type 0} (r : Result T E) (P : T → Type 0) (e : E) → r ≡ Err e → IfOk r P
nothing_on_error r P e is = subst (λ found. IfOk found P) (sym is) tt

pub no_atomic : (kind : ConstructKind) → ((access : AtomicAccess) → kind ≡ constructs.Atomic access → ⊥)
    → IsNoAtomic kind
no_atomic (constructs.Single nowait) h = search
no_atomic constructs.Masked h = search
no_atomic (constructs.Critical name) h = search
no_atomic (constructs.Atomic access) h = h access refl
no_atomic constructs.Taskgroup h = search

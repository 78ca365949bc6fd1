-- The scopes of what is written before the statement of a `for`.
use Rattle.std.proofs.Common.{ℕ, Option, Some, None}
use Rattle.om_lower_emit.specs.declared.spot.TurnLabels.{TurnLabels}
use Rattle.om_lower_emit.specs.declared.writing.ScopeStack.{ScopeStack}
use Rattle.om_lower_emit.specs.Drafts.{Written, Defines}
use Rattle.om_lower_emit.specs.Emits.{Writes, Emits, site}
use Rattle.om_lower_emit.specs.Scoped.{ScopesStand}
use Rattle.om_lower_emit.specs.Scoping.{stand_before, stand_behind, writes_as, writes_behind, writes_fresh, writes_here}
use Rattle.om_lower_emit.specs.Stretches.{FreshTurn}
use Rattle.om_scope_tree.specs.ResolvedTree.{ResolvedExpressionTree, ResolvedStartTree}
use Rattle.om_lower_rules.specs.Numbered.{Numbered}
use Rattle.om_lower_rules.specs.Rows.{Site, end, perhaps}
use Rattle.om_lower_rules.specs.Scopes.{Scoping, for_head, start_scopes, tested}
use Rattle.om_lower_rules.specs.Statements.{test}

module _ (names : Numbered) where
  abbrev Stand : (Site → Scoping) → Written → ScopeStack → Written → ScopeStack → Type 0
  Stand row a x b y = ScopesStand names row a x b y

  three_fresh : (labels : TurnLabels) (a b : Written) → FreshTurn labels a b → Writes (λ done at. end) a b
  three_fresh labels a b h =
      writes_behind (λ done at. end) a h.second b (writes_fresh labels.again a h.second h.again)
      (writes_behind (λ done at. end) h.second h.third b (writes_fresh labels.next h.second h.third h.next)
      (writes_fresh labels.over h.third b h.over))

  tested_perhaps : (at : Site) (l f : ℕ) (c : Option ResolvedExpressionTree) (p q : ℕ) → perhaps (test at l f) c p q
      → perhaps (tested at l) c p q
  tested_perhaps at l f None p q r = r
  tested_perhaps at l f (Some c) p q r = (f, r)

  pub for_begins : (l : ℕ) (begin : ResolvedStartTree) (c : Option ResolvedExpressionTree) (labels : TurnLabels)
      (a b d e f : Written) (x y : ScopeStack) → FreshTurn labels a b → Stand (λ at. start_scopes at l begin) b x d y
      → Defines labels.again d e
      → Emits (λ done at. perhaps (test (site names done) l (at labels.over)) c) e f
      → Stand (λ at. for_head at l begin c) a x f y
  for_begins l begin c labels a b d e f x y fresh begun defined test =
      stand_behind names (λ at. for_head at l begin c) a b x f y (three_fresh labels a b fresh)
      (stand_before names (λ at. start_scopes at l begin) (λ at. perhaps (tested at l) c) b x d y f begun
      (writes_behind (λ done at. perhaps (tested (site names done) l) c) d e f (writes_here labels.again d e defined)
      (writes_as _ (λ done at. perhaps (tested (site names done) l) c) e f
      (λ done at p q r. tested_perhaps (site names done) l (at labels.over) c p q r) test.writes)))

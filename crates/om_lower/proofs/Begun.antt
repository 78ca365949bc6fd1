-- The scopes of what is written before the statement of a worksharing loop, and before the parts of a `sections`.
use Rattle.std.proofs.Common.{◌≡◌, ℕ, List, None, length, refl, sym, ap}
use Rattle.om_code.specs.declared.instruction.Instr.{Instr}
use Rattle.om_lower_emit.specs.Drafts.{Written, Defines, Fresh, FreshList, Puts}
use Rattle.om_lower_emit.specs.Emits.{Writes, Emits, site}
use Rattle.om_scope_tree.specs.ResolvedTree.{ResolvedClauseTree, ResolvedLoopTree}
use Rattle.om_lower_rules.specs.Expressions.{value}
use Rattle.om_lower_rules.specs.Rows.{Site, end}
use Rattle.om_lower_rules.specs.Scopes.{Scoping, after, bounds_scopes, clause_scope, each_scope, instructions}
use Rattle.om_lower_rules.specs.Scopes.{loop_head, opens, sections_head}
use Rattle.om_lower_emit.specs.declared.writing.ScopeStack.{ScopeStack}
use Rattle.om_lower_emit.specs.Scoped.{BeginsOneScope, ScopesStand}
use Rattle.om_lower_emit.specs.Scoping.{counted, stand_after, stand_before, stand_behind, stand_both, stand_opens}
use Rattle.om_lower_emit.specs.Scoping.{writes_behind, writes_fresh, writes_here, writes_put}
use Rattle.om_lower_rules.specs.Numbered.{Numbered}
use Rattle.om_lower.proofs.PartsOpened.{grows_listed}

-- the list of a PICK, and the labels of its parts
pub writes_list : (number first count : ℕ) (a b : Written) → FreshList number first count a b
    → Writes (λ done at. end) a b
writes_list number first count a b h = record {
  grows = grows_listed number first count a b h;
  stands = λ done at fits. sym (ap length h.code);
}

module _ (names : Numbered) where
  abbrev Stand : (Site → Scoping) → Written → ScopeStack → Written → ScopeStack → Type 0
  Stand row a x b y = ScopesStand names row a x b y

  one : (l : ℕ) (x : Instr) (a b : Written) → Puts l x a b → Writes (λ done at. instructions 1) a b
  one l x a b h = writes_put names l x a b h

  pub bounds_stand : (l : ℕ) (clauses : List ResolvedClauseTree) (loop : ResolvedLoopTree) (a b d e : Written)
      (x y : ScopeStack) → Emits (λ done at. value (site names done) loop.at.line loop.from) a b
      → Emits (λ done at. value (site names done) loop.at.line loop.to) b d
      → Stand (λ at. each_scope (clause_scope at l) clauses) d x e y
      → Stand (λ at. bounds_scopes at l clauses loop) a x e y
  bounds_stand l clauses loop a b d e x y from to starts =
      stand_after names (λ at. value at loop.at.line loop.from)
      (λ at. after (value at loop.at.line loop.to) (each_scope (clause_scope at l) clauses)) a b x e y from.writes
      (stand_after names (λ at. value at loop.at.line loop.to) (λ at. each_scope (clause_scope at l) clauses) b d x e y
      to.writes starts)

  pub loop_begins : (l : ℕ) (clauses : List ResolvedClauseTree) (loop : ResolvedLoopTree) (chunk again over from : ℕ)
      (v w u : Instr) (a b c d e f g h i j : Written) (x y z : ScopeStack)
      → Fresh chunk a b → Fresh again b c → Fresh over c d → Stand (λ at. bounds_scopes at l clauses loop) d x e y
      → from ≡ length e.code → BeginsOneScope from None loop.variable y z → Puts l v e f → Defines chunk f g → Puts l w g h
      → Defines again h i → Puts l u i j → Stand (λ at. loop_head at l clauses loop) a x j z
  loop_begins l clauses loop chunk again over from v w u a b c d e f g h i j x y z m n o bounds here begun p q r s t =
      stand_behind names (λ at. loop_head at l clauses loop) a d x j z
      (writes_behind (λ done at. end) a b d (writes_fresh chunk a b m)
      (writes_behind (λ done at. end) b c d (writes_fresh again b c n) (writes_fresh over c d o)))
      (stand_both names (λ at. bounds_scopes at l clauses loop) (λ at. opens None loop.variable (instructions 3)) d x e
      y j z bounds
      (stand_opens names from None loop.variable (λ at. instructions 3) e j y z here begun
      (counted 1 2 3 e f j refl (one l v e f p)
      (writes_behind (λ done at. instructions 2) f g j (writes_here chunk f g q)
      (counted 1 1 2 g h j refl (one l w g h r)
      (writes_behind (λ done at. instructions 1) h i j (writes_here again h i s) (one l u i j t)))))))

  pub sections_begin : (l : ℕ) (clauses : List ResolvedClauseTree) (again over : ℕ) (v w u : Instr)
      (a b c d e f g h : Written) (x y : ScopeStack) → Fresh again a b → Fresh over b c
      → Stand (λ at. each_scope (clause_scope at l) clauses) c x d y → Puts l v d e → Defines again e f → Puts l w f g
      → Puts l u g h → Stand (λ at. sections_head at l clauses) a x h y
  sections_begin l clauses again over v w u a b c d e f g h x y m n starts p q r s =
      stand_behind names (λ at. sections_head at l clauses) a c x h y
      (writes_behind (λ done at. end) a b c (writes_fresh again a b m) (writes_fresh over b c n))
      (stand_before names (λ at. each_scope (clause_scope at l) clauses) (λ at. instructions 3) c x d y h starts
      (counted 1 2 3 d e h refl (one l v d e p)
      (writes_behind (λ done at. instructions 2) e f h (writes_here again e f q)
      (counted 1 1 2 f g h refl (one l w f g r) (one l u g h s)))))

-- The scopes of copies, and of what is written before the statement of a construct.
use Rattle.std.proofs.Common.{◌≡◌, ℕ, List, Option, None, Bool, length, refl, sym, subst, arith}
use Rattle.om_code.specs.declared.instruction.Instr.{Instr}
use Rattle.om_lower_emit.specs.Drafts.{Written, Fresh, Puts}
use Rattle.om_lower_emit.specs.Emits.{Writes, Emits, site}
use Rattle.om_lower_emit.specs.Writing.{goes_end}
use Rattle.om_scope_tree.specs.declared.resolved.ConstructKind.TheVariants as constructs
use Rattle.om_scope_tree.specs.declared.resolved.CopyKind.TheVariants as copies
use Rattle.om_scope_tree.specs.ResolvedTree.{ResolvedClauseTree, ClauseValue, Shared, Copied}
use Rattle.om_lower_rules.specs.Rows.{Site, Row, end, part, ◌▸◌}
use Rattle.om_lower_rules.specs.Scopes.{Scoping, plain, each_scope, instructions}
use Rattle.om_lower_rules.specs.Scopes.{clause_scope, team_scope, task_scope, construct_head}
use Rattle.om_lower_rules.specs.Statements.{clause_start, clause_reduction_start, clause_value, filter_row}
use Rattle.om_lower_emit.specs.declared.writing.ScopeStack.{ScopeStack}
use Rattle.om_lower_emit.specs.Going.{writes_then}
use Rattle.om_lower_emit.specs.Scoped.{BeginsCopy, BeginsOneScope, ScopesStand, team_from}
use Rattle.om_lower_emit.specs.Scoping.{counted, stand_after, stand_behind, stand_opens, stand_opens_at, stand_plain}
use Rattle.om_lower_emit.specs.Scoping.{writes_behind, writes_fresh, writes_put}
use Rattle.om_lower_rules.specs.Numbered.{Numbered}

module _ (names : Numbered) where
  abbrev Stand : (Site → Scoping) → Written → ScopeStack → Written → ScopeStack → Type 0
  Stand row a x b y = ScopesStand names row a x b y

  abbrev Codes : (Site → Row) → Written → Written → Type 0
  Codes row a b = Writes (λ done at. row (site names done)) a b

  one : (l : ℕ) (x : Instr) (a b : Written) → Puts l x a b → Writes (λ done at. instructions 1) a b
  one l x a b h = writes_put names l x a b h

  -- ---- variables

  pub copy_stands : (l : ℕ) (clause : ResolvedClauseTree) (from : ℕ) (a b : Written) (x y : ScopeStack)
      → from ≡ length a.code → BeginsCopy from clause x y → Codes (λ at. clause_start at l clause) a b
      → Stand (λ at. clause_scope at l clause) a x b y
  copy_stands l (ClauseValue kind e) from a b x y here same w =
      subst (λ z. Stand (λ at. plain end) a x b z) (sym same) (stand_plain names (λ at. end) a b x w)
  copy_stands l (Shared v) from a b x y here same w =
      subst (λ z. Stand (λ at. plain end) a x b z) (sym same) (stand_plain names (λ at. end) a b x w)
  copy_stands l (Copied kind v copy) from a b x y here begun w =
      stand_opens names from None copy (λ at. clause_start at l (Copied kind v copy)) a b x y here begun w

  pub team_stands : (l : ℕ) (clause : ResolvedClauseTree) (from : ℕ) (a b : Written) (x y : ScopeStack)
      → from ≡ team_from (length a.code) clause → BeginsCopy from clause x y
      → Codes (λ at. clause_reduction_start at l clause) a b → Stand (λ at. team_scope at l clause) a x b y
  team_stands l (ClauseValue kind e) from a b x y here same w =
      subst (λ z. Stand (λ at. plain end) a x b z) (sym same) (stand_plain names (λ at. end) a b x w)
  team_stands l (Shared v) from a b x y here same w =
      subst (λ z. Stand (λ at. plain end) a x b z) (sym same) (stand_plain names (λ at. end) a b x w)
  team_stands l (Copied copies.Private v copy) from a b x y here begun w =
      stand_opens_at names 0 None copy (λ at. end) a b x y (omega arith) (subst (λ p. BeginsOneScope p None copy x y) here begun) w
  team_stands l (Copied copies.Firstprivate v copy) from a b x y here begun w =
      stand_opens_at names 0 None copy (λ at. end) a b x y (omega arith) (subst (λ p. BeginsOneScope p None copy x y) here begun) w
  team_stands l (Copied (copies.Reduction o) v copy) from a b x y here begun w =
      stand_opens names from None copy (λ at. clause_reduction_start at l (Copied (copies.Reduction o) v copy)) a b x y
      here begun w

  pub task_stands : (clause : ResolvedClauseTree) (a : Written) (x y : ScopeStack) → BeginsCopy 0 clause x y
      → Stand (λ at. task_scope clause) a x a y
  task_stands (ClauseValue kind e) a x y same =
      subst (λ z. Stand (λ at. plain end) a x a z) (sym same) (stand_plain names (λ at. end) a a x (goes_end 0 a).writes)
  task_stands (Shared v) a x y same =
      subst (λ z. Stand (λ at. plain end) a x a z) (sym same) (stand_plain names (λ at. end) a a x (goes_end 0 a).writes)
  task_stands (Copied kind v copy) a x y begun =
      stand_opens_at names 0 None copy (λ at. end) a a x y (omega arith) begun (goes_end 0 a).writes

  -- ---- begins

  pub single_begins : (l : ℕ) (nowait : Bool) (clauses : List ResolvedClauseTree) (label : ℕ) (v : Instr)
      (a b c d : Written) (x y : ScopeStack) → Fresh label a b → Puts l v b c
      → Stand (λ at. each_scope (clause_scope at l) clauses) c x d y
      → Stand (λ at. construct_head at l (constructs.Single nowait) clauses) a x d y
  single_begins l nowait clauses label v a b c d x y m p starts =
      stand_behind names (λ at. construct_head at l (constructs.Single nowait) clauses) a b x d y
      (writes_fresh label a b m)
      (stand_after names (λ at. instructions 1) (λ at. each_scope (clause_scope at l) clauses) b c x d y
      (one l v b c p) starts)

  pub masked_begins : (l : ℕ) (clauses : List ResolvedClauseTree) (label : ℕ) (v : Instr) (a b c d : Written)
      (x : ScopeStack) → Fresh label a b
      → Emits (λ done at. filter_row (site names done) l (clause_value clauses)) b c → Puts l v c d
      → Stand (λ at. construct_head at l constructs.Masked clauses) a x d x
  masked_begins l clauses label v a b c d x m filter p =
      stand_plain names (λ at. part (filter_row at l (clause_value clauses)) ▸ instructions 1) a d x
      (writes_behind _ a b d (writes_fresh label a b m)
      (writes_then (λ done at. filter_row (site names done) l (clause_value clauses)) (λ done at. instructions 1) b c d
      filter.writes (one l v c d p)))

  pub critical_begins : (l : ℕ) (name : Option (List ℕ)) (clauses : List ResolvedClauseTree) (label : ℕ) (v w : Instr)
      (a b c d : Written) (x : ScopeStack) → Fresh label a b → Puts l v b c → Puts l w c d
      → Stand (λ at. construct_head at l (constructs.Critical name) clauses) a x d x
  critical_begins l name clauses label v w a b c d x m p q =
      stand_plain names (λ at. instructions 2) a d x
      (writes_behind (λ done at. instructions 2) a b d (writes_fresh label a b m)
      (counted 1 1 2 b c d refl (one l v b c p) (one l w c d q)))

  pub group_begins : (l : ℕ) (clauses : List ResolvedClauseTree) (label : ℕ) (v : Instr) (a b c : Written)
      (x : ScopeStack) → Fresh label a b → Puts l v b c
      → Stand (λ at. construct_head at l constructs.Taskgroup clauses) a x c x
  group_begins l clauses label v a b c x m p =
      stand_plain names (λ at. instructions 1) a c x
      (writes_behind (λ done at. instructions 1) a b c (writes_fresh label a b m) (one l v b c p))

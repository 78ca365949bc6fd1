-- The scopes of each statement: of what is written before the statement in it, of that, and of what comes behind.
use Rattle.std.proofs.Common.{◌≡◌, ℕ, ◌≤◌, List, Option, Bool, length, map, sym, subst}
use Rattle.om_code.specs.declared.instruction.Instr.{Instr}
use Rattle.om_lower_emit.specs.Drafts.{Labels, Written, Defines, Puts}
use Rattle.om_lower_emit.specs.Emits.{Finished, Writes, Goes, Emits, site}
use Rattle.om_lexer.specs.declared.token.Span.{Span}
use Rattle.om_scope_tree.specs.declared.resolved.ConstructKind.{ConstructKind}
use Rattle.om_scope_tree.specs.declared.resolved.ConstructKind.TheVariants as constructs
use Rattle.om_scope_tree.specs.ResolvedTree.{ResolvedExpressionTree, ResolvedClauseTree}
use Rattle.om_scope_tree.specs.ResolvedTree.{ResolvedLoopTree, ResolvedStartTree, ResolvedStatementTree, If, IfElse, While}
use Rattle.om_scope_tree.specs.declared.resolved.ResolvedClause.{ResolvedClause}
use Rattle.om_scope_tree.specs.declared.resolved.ResolvedPart.{ResolvedPart}
use Rattle.om_scope_tree.specs.ResolvedTree as trees
use Rattle.om_scope_tree.specs.ResolvedTree.{Do, For, Loop, Sections, Construct, ResolvedPartsTree}
use Rattle.om_scope_tree.specs.ResolvedView as view
use Rattle.om_scope_tree.specs.ResolvedTree.{ResolvedStatementsTree}
use Rattle.om_lower_rules.specs.Bodies.{Numbers}
use Rattle.om_lower_rules.specs.Expressions.{effect}
use Rattle.om_lower_rules.specs.Rows.{Site, Row, end, part, ◌▸◌, perhaps}
use Rattle.om_lower_rules.specs.Scopes as rows
use Rattle.om_lower_rules.specs.Scopes.{Scoping, plain, after, before, both, block, instructions, tested}
use Rattle.om_lower_rules.specs.Scopes.{stands, construct_head}
use Rattle.om_lower_rules.specs.Scopes.{construct_scopes, loop_head, sections_head, for_head, scopes, all_scopes}
use Rattle.om_lower_rules.specs.Scopes.{part_scopes}
use Rattle.om_lower_rules.specs.Statements.{closes, statement}
use Rattle.om_lower_emit.specs.declared.spot.JumpLabels.{JumpLabels}
use Rattle.om_lower_emit.specs.declared.spot.LoopLabels.{LoopLabels}
use Rattle.om_lower_emit.specs.declared.spot.TurnLabels.{TurnLabels}
use Rattle.om_lower_emit.specs.declared.writing.ScopeStack.{ScopeStack}
use Rattle.om_lower_emit.specs.Statements.{jumps_at}
use Rattle.om_lower_emit.specs.Going.{writes_then}
use Rattle.om_lower_emit.specs.Scoped.{EndsScopes, ScopesStand}
use Rattle.om_lower_emit.specs.Scoping.{stand_after, stand_ahead, stand_before, stand_behind, stand_block}
use Rattle.om_lower_emit.specs.Scoping.{stand_both, stand_plain, writes_as, writes_behind}
use Rattle.om_lower_emit.specs.Scoping.{ScopesOn, scopes_end, scopes_next, writes_here, writes_put}
use Rattle.om_lower_emit.specs.Stretches.{Begins, BeginsTurn, Opens, construct_end, do_begin, do_end}
use Rattle.om_lower_emit.specs.Stretches.{else_begin, for_end, IsNoAtomic, loop_end, test_at, while_begin}
use Rattle.om_lower_rules.specs.Numbered.{Numbered}

module _ (names : Numbered) where
  abbrev Stand : (Site → Scoping) → Written → ScopeStack → Written → ScopeStack → Type 0
  Stand row a x b y = ScopesStand names row a x b y

  abbrev Codes : (Site → Row) → Written → Written → Type 0
  Codes row a b = Writes (λ done at. row (site names done)) a b

  -- a statement in which no scope begins or ends
  pub alone : (n : Numbers) (s : ResolvedStatementTree) (jumps : JumpLabels) (a b : Written) (x : ScopeStack)
      → Writes (λ done at. statement (site names done) n s (jumps_at at jumps)) a b
      → Stand (λ at. plain (stands at s)) a x b x
  alone n s jumps a b x w =
      stand_plain names (λ at. stands at s) a b x
      (writes_as (λ done at. statement (site names done) n s (jumps_at at jumps)) (λ done at. stands (site names done) s)
      a b (λ done at p q r. (n, jumps_at at jumps, r)) w)

  tested_from : (l label : ℕ) (c : ResolvedExpressionTree) (a b : Written) → Begins label (test_at names l label c) a b
      → Codes (λ at. tested at l c) a b
  tested_from l label c a b h =
      writes_as (test_at names l label c) (λ done at. tested (site names done) l c) a b
      (λ done at p q r. (at label, r)) h.goes.writes

  abbrev inner : ResolvedStatementTree → Site → Scoping
  inner s at = block (scopes at s)

  pub if_scopes : (first : Span) (c : ResolvedExpressionTree) (s : ResolvedStatementTree) (label : ℕ)
      (a b d e : Written) (x y : ScopeStack) → Begins label (test_at names first.line label c) a b
      → Stand (inner s) b x d y → Defines label d e → Stand (λ at. scopes at (If first c s)) a x e y
  if_scopes first c s label a b d e x y head h defined =
      stand_ahead names (λ at. after (tested at first.line c) (inner s at)) a x d y e
      (stand_after names (λ at. tested at first.line c) (inner s) a b x d y (tested_from first.line label c a b head) h)
      (writes_here label d e defined)

  pub if_else_scopes : (first : Span) (c : ResolvedExpressionTree) (s t : ResolvedStatementTree) (head label : ℕ)
      (a b d e f g : Written) (x y z : ScopeStack) → Begins head (test_at names first.line head c) a b
      → Stand (inner s) b x d y → Opens head label (else_begin names first.line head label) d e
      → Stand (inner t) e y f z → Defines label f g → Stand (λ at. scopes at (IfElse first c s t)) a x g z
  if_else_scopes first c s t head label a b d e f g x y z begun h between k defined =
      stand_ahead names (λ at. after (tested at first.line c) (both (inner s at) (after (instructions 1) (inner t at))))
      a x f z g
      (stand_after names (λ at. tested at first.line c) (λ at. both (inner s at) (after (instructions 1) (inner t at))) a
      b x f z (tested_from first.line head c a b begun)
      (stand_both names (inner s) (λ at. after (instructions 1) (inner t at)) b x d y f z h
      (stand_after names (λ at. instructions 1) (inner t) d e y f z
      (writes_as (else_begin names first.line head label) (λ done at. instructions 1) d e
      (λ done at p q r. sym r.1.1) between.goes.writes) k)))
      (writes_here label f g defined)

  ended_loop : (l : ℕ) (labels : LoopLabels) (a b : Written) → Goes labels.over (loop_end names l labels) a b
      → Writes (λ done at. instructions 1) a b
  ended_loop l labels a b g =
      writes_as (loop_end names l labels) (λ done at. instructions 1) a b (λ done at p q r. sym r.1.1) g.writes

  pub while_scopes : (first : Span) (c : ResolvedExpressionTree) (s : ResolvedStatementTree) (labels : LoopLabels)
      (a b d e : Written) (x y : ScopeStack) → Begins labels.over (while_begin names first.line c labels) a b
      → Stand (inner s) b x d y → Goes labels.over (loop_end names first.line labels) d e
      → Stand (λ at. scopes at (While first c s)) a x e y
  while_scopes first c s labels a b d e x y head h over =
      stand_after names (λ at. tested at first.line c) (λ at. before (inner s at) (instructions 1)) a b x e y
      (writes_as (while_begin names first.line c labels) (λ done at. tested (site names done) first.line c) a b
      (λ done at p q r. (at labels.over, r.1)) head.goes.writes)
      (stand_before names (inner s) (λ at. instructions 1) b x d y e h (ended_loop first.line labels d e over))

  pub do_scopes : (first : Span) (c : ResolvedExpressionTree) (s : ResolvedStatementTree) (labels : TurnLabels)
      (a b d e : Written) (x y : ScopeStack) → BeginsTurn labels (do_begin labels) a b → Stand (inner s) b x d y
      → Goes labels.next (do_end names first.line labels c) d e → Stand (λ at. scopes at (Do first s c)) a x e y
  do_scopes first c s labels a b d e x y head h over =
      stand_behind names (λ at. scopes at (Do first s c)) a b x e y
      (writes_as (do_begin labels) (λ done at. end) a b (λ done at p q r. r.1) head.next.goes.writes)
      (stand_before names (inner s) (λ at. part (tested at first.line c) ▸ instructions 1) b x d y e h
      (writes_as (do_end names first.line labels c)
      (λ done at. part (tested (site names done) first.line c) ▸ instructions 1) d e
      (λ done at p q r. let u = r.1 in (u.0, (at labels.over, u.1), sym u.2.1.1)) over.writes))

  pub for_scopes : (first : Span) (begin : ResolvedStartTree) (c step : Option ResolvedExpressionTree)
      (s : ResolvedStatementTree) (labels : TurnLabels) (height to : ℕ) (a b d e : Written) (x y z w : ScopeStack)
      → height ≡ length x.opened.items → to ≡ length e.code → Stand (λ at. for_head at first.line begin c) a x b y
      → Stand (inner s) b y d z → Goes labels.next (for_end names first.line labels step) d e
      → (height ≤ length z.opened.items → EndsScopes height to z w)
      → Stand (λ at. scopes at (For first begin c step s)) a x e w
  for_scopes first begin c step s labels height to a b d e x y z w high here head h over ends =
      stand_block names (λ at. both (for_head at first.line begin c) (before (inner s at) (behind at))) a x e z w height
      to high here
      (stand_both names (λ at. for_head at first.line begin c) (λ at. before (inner s at) (behind at)) a x b y e z head
      (stand_before names (inner s) behind b y d z e h
      (writes_as (for_end names first.line labels step) (λ done at. behind (site names done)) d e
      (λ done at p q r. let u = r.1 in (u.0, u.1, sym u.2.1.1)) over.writes))) ends
    where
      behind : Site → Row
      behind at = part (perhaps (effect at first.line) step) ▸ instructions 1

  pub loop_scopes : (first : Span) (clauses : List ResolvedClauseTree) (nowait : Bool) (loop : ResolvedLoopTree)
      (s : ResolvedStatementTree) (labels : LoopLabels) (height to : ℕ) (a b d e f : Written) (x y z w : ScopeStack)
      → height ≡ length x.opened.items → to ≡ length f.code
      → Stand (λ at. loop_head at first.line clauses loop) a x b y → Stand (inner s) b y d z
      → Goes labels.over (loop_end names first.line labels) d e
      → Emits (λ done at. closes (site names done) first.line clauses nowait) e f
      → (height ≤ length z.opened.items → EndsScopes height to z w)
      → Stand (λ at. scopes at (Loop first clauses nowait loop s)) a x f w
  loop_scopes first clauses nowait loop s labels height to a b d e f x y z w high here head h over closed ends =
      stand_block names (λ at. both (loop_head at first.line clauses loop) (before (inner s at)
      (part (instructions 1) ▸ closes at first.line clauses nowait))) a x f z w height to high here
      (stand_both names (λ at. loop_head at first.line clauses loop) (λ at. before (inner s at)
      (part (instructions 1) ▸ closes at first.line clauses nowait)) a x b y f z head
      (stand_before names (inner s) (λ at. part (instructions 1) ▸ closes at first.line clauses nowait) b y d z f h
      (writes_then (λ done at. instructions 1) (λ done at. closes (site names done) first.line clauses nowait) d e f
      (ended_loop first.line labels d e over) closed.writes))) ends

  pub sections_scopes : (first : Span) (clauses : List ResolvedClauseTree) (nowait : Bool)
      (sections : ResolvedPartsTree) (label height to : ℕ) (a b d e f : Written) (x y z w : ScopeStack)
      → height ≡ length x.opened.items → to ≡ length f.code
      → Stand (λ at. sections_head at first.line clauses) a x b y → Stand (λ at. part_scopes at sections) b y d z
      → Defines label d e → Emits (λ done at. closes (site names done) first.line clauses nowait) e f
      → (height ≤ length z.opened.items → EndsScopes height to z w)
      → Stand (λ at. scopes at (Sections first clauses nowait sections)) a x f w
  sections_scopes first clauses nowait sections label height to a b d e f x y z w high here head h defined closed ends =
      stand_block names (λ at. both (sections_head at first.line clauses)
      (before (part_scopes at sections) (closes at first.line clauses nowait))) a x f z w height to high here
      (stand_both names (λ at. sections_head at first.line clauses)
      (λ at. before (part_scopes at sections) (closes at first.line clauses nowait)) a x b y f z head
      (stand_before names (λ at. part_scopes at sections) (λ at. closes at first.line clauses nowait) b y d z f h
      (writes_behind (λ done at. closes (site names done) first.line clauses nowait) d e f (writes_here label d e defined)
      closed.writes))) ends

  construct_ended : (l : ℕ) (kind : ConstructKind) (label : ℕ) (done : Finished) (at : Labels) (p q : ℕ)
      → construct_end names l kind label done at p q → rows.construct_end (site names done) l kind p q
  construct_ended l (constructs.Single nowait) label done at p q r = r.1
  construct_ended l constructs.Masked label done at p q r = sym r.1.1
  construct_ended l (constructs.Critical name) label done at p q r = sym r.1
  construct_ended l (constructs.Atomic access) label done at p q r = absurd r
  construct_ended l constructs.Taskgroup label done at p q r = sym r.1

  construct_is : (l : ℕ) (kind : ConstructKind) (clauses : List ResolvedClauseTree) (s : ResolvedStatementTree)
      (a : Written) (x : ScopeStack) (b : Written) (y : ScopeStack) → IsNoAtomic kind
      → Stand (λ at. block (both (construct_head at l kind clauses) (before (inner s at) (rows.construct_end at l kind))))
      a x b y
      → Stand (λ at. construct_scopes at l kind clauses s (scopes at s)) a x b y
  construct_is l (constructs.Single nowait) clauses s a x b y other h = h
  construct_is l constructs.Masked clauses s a x b y other h = h
  construct_is l (constructs.Critical name) clauses s a x b y other h = h
  construct_is l (constructs.Atomic access) clauses s a x b y other h = absurd other
  construct_is l constructs.Taskgroup clauses s a x b y other h = h

  pub construct_stands : (first : Span) (kind : ConstructKind) (clauses : List ResolvedClauseTree)
      (s : ResolvedStatementTree) (label height to : ℕ) (a b d e : Written) (x y z w : ScopeStack) → IsNoAtomic kind
      → height ≡ length x.opened.items → to ≡ length e.code
      → Stand (λ at. construct_head at first.line kind clauses) a x b y → Stand (inner s) b y d z
      → Goes label (construct_end names first.line kind label) d e
      → (height ≤ length z.opened.items → EndsScopes height to z w)
      → Stand (λ at. scopes at (Construct first kind clauses s)) a x e w
  construct_stands first kind clauses s label height to a b d e x y z w other high here head h over ends =
      construct_is first.line kind clauses s a x e w other
      (stand_block names (λ at. both (construct_head at first.line kind clauses)
      (before (inner s at) (rows.construct_end at first.line kind))) a x e z w height to high here
      (stand_both names (λ at. construct_head at first.line kind clauses)
      (λ at. before (inner s at) (rows.construct_end at first.line kind)) a x b y e z head
      (stand_before names (inner s) (λ at. rows.construct_end at first.line kind) b y d z e h
      (writes_as (construct_end names first.line kind label)
      (λ done at. rows.construct_end (site names done) first.line kind) d e
      (construct_ended first.line kind label) over.writes))) ends)

  -- a part of `sections`: its label is placed, its statements are a block, and JMP stands behind it
  pub part_stands : (l label : ℕ) (v : Instr) (items : ResolvedStatementsTree) (height to : ℕ) (a b d e : Written)
      (x y z : ScopeStack) → height ≡ length x.opened.items → to ≡ length d.code → Defines label a b
      → Stand (λ at. all_scopes at items) b x d y → (height ≤ length y.opened.items → EndsScopes height to y z)
      → Puts l v d e → Stand (λ at. before (block (all_scopes at items)) (instructions 1)) a x e z
  part_stands l label v items height to a b d e x y z high here defined h ends p =
      stand_behind names (λ at. before (block (all_scopes at items)) (instructions 1)) a b x e z
      (writes_here label a b defined)
      (stand_before names (λ at. block (all_scopes at items)) (λ at. instructions 1) b x d z e
      (stand_block names (λ at. all_scopes at items) b x d y z height to high here h ends) (writes_put names l v d e p))

  -- the same statement
  pub scopes_are : (s t : ResolvedStatementTree) (a : Written) (x : ScopeStack) (b : Written) (y : ScopeStack) → s ≡ t
      → Stand (λ at. scopes at s) a x b y → Stand (λ at. scopes at t) a x b y
  scopes_are s t a x b y e h = subst (λ z. Stand (λ at. scopes at z) a x b y) e h

  -- the same clauses, and the same parts
  pub loop_scopes_clauses : (l : ℕ) (loop : ResolvedLoopTree) (xs ys : List ResolvedClause) (a : Written)
      (x : ScopeStack) (b : Written) (y : ScopeStack) → xs ≡ ys
      → Stand (λ at. loop_head at l (map view.clause xs) loop) a x b y
      → Stand (λ at. loop_head at l (map view.clause ys) loop) a x b y
  loop_scopes_clauses l loop xs ys a x b y e h =
      subst (λ z. Stand (λ at. loop_head at l (map view.clause z) loop) a x b y) e h

  pub sections_scopes_clauses : (l : ℕ) (xs ys : List ResolvedClause) (a : Written) (x : ScopeStack) (b : Written)
      (y : ScopeStack) → xs ≡ ys → Stand (λ at. sections_head at l (map view.clause xs)) a x b y
      → Stand (λ at. sections_head at l (map view.clause ys)) a x b y
  sections_scopes_clauses l xs ys a x b y e h =
      subst (λ z. Stand (λ at. sections_head at l (map view.clause z)) a x b y) e h

  pub construct_scopes_clauses : (l : ℕ) (kind : ConstructKind) (xs ys : List ResolvedClause) (a : Written)
      (x : ScopeStack) (b : Written) (y : ScopeStack) → xs ≡ ys
      → Stand (λ at. construct_head at l kind (map view.clause xs)) a x b y
      → Stand (λ at. construct_head at l kind (map view.clause ys)) a x b y
  construct_scopes_clauses l kind xs ys a x b y e h =
      subst (λ z. Stand (λ at. construct_head at l kind (map view.clause z)) a x b y) e h

  pub part_scopes_are : (xs ys : List ResolvedPart) (a : Written) (x : ScopeStack) (b : Written) (y : ScopeStack)
      → xs ≡ ys → Stand (λ at. part_scopes at (trees.parts (map view.part xs))) a x b y
      → Stand (λ at. part_scopes at (trees.parts (map view.part ys))) a x b y
  part_scopes_are xs ys a x b y e h =
      subst (λ z. Stand (λ at. part_scopes at (trees.parts (map view.part z))) a x b y) e h

  -- one behind another
  pub all_scopes_next : (all left rest : ResolvedStatementsTree) (s : ResolvedStatementTree) (a : Written)
      (x : ScopeStack) (b : Written) (y : ScopeStack) (c : Written) (z : ScopeStack) → left ≡ trees.Statement s rest
      → ScopesOn names (λ at. all_scopes at all) (λ at. all_scopes at left) a x b y → Stand (λ at. scopes at s) b y c z
      → ScopesOn names (λ at. all_scopes at all) (λ at. all_scopes at rest) a x c z
  all_scopes_next all left rest s a x b y c z here g h =
      scopes_next names (λ at. all_scopes at all) (λ at. scopes at s) (λ at. all_scopes at rest) a x b y c z
      (subst (λ k. ScopesOn names (λ at. all_scopes at all) (λ at. all_scopes at k) a x b y) here g) h

  pub all_scopes_done : (all left : ResolvedStatementsTree) (a : Written) (x : ScopeStack) (b : Written)
      (y : ScopeStack) → left ≡ trees.NoStatements
      → ScopesOn names (λ at. all_scopes at all) (λ at. all_scopes at left) a x b y
      → Stand (λ at. all_scopes at all) a x b y
  all_scopes_done all left a x b y none g =
      scopes_end names (λ at. all_scopes at all) a x b y
      (subst (λ k. ScopesOn names (λ at. all_scopes at all) (λ at. all_scopes at k) a x b y) none g)

  pub part_scopes_next : (all left rest : ResolvedPartsTree) (items : ResolvedStatementsTree) (a : Written)
      (x : ScopeStack) (b : Written) (y : ScopeStack) (c : Written) (z : ScopeStack) → left ≡ trees.Part items rest
      → ScopesOn names (λ at. part_scopes at all) (λ at. part_scopes at left) a x b y
      → Stand (λ at. before (block (all_scopes at items)) (instructions 1)) b y c z
      → ScopesOn names (λ at. part_scopes at all) (λ at. part_scopes at rest) a x c z
  part_scopes_next all left rest items a x b y c z here g h =
      scopes_next names (λ at. part_scopes at all) (λ at. before (block (all_scopes at items)) (instructions 1))
      (λ at. part_scopes at rest) a x b y c z
      (subst (λ k. ScopesOn names (λ at. part_scopes at all) (λ at. part_scopes at k) a x b y) here g) h

  pub part_scopes_done : (all left : ResolvedPartsTree) (a : Written) (x : ScopeStack) (b : Written)
      (y : ScopeStack) → left ≡ trees.NoParts
      → ScopesOn names (λ at. part_scopes at all) (λ at. part_scopes at left) a x b y
      → Stand (λ at. part_scopes at all) a x b y
  part_scopes_done all left a x b y none g =
      scopes_end names (λ at. part_scopes at all) a x b y
      (subst (λ k. ScopesOn names (λ at. part_scopes at all) (λ at. part_scopes at k) a x b y) none g)

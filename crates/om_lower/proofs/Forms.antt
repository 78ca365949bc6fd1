-- The row of each form, of what is written before its statement, of the statement, and of what is written behind it.
use Rattle.std.proofs.Common.{◌≡◌, ℕ, List, Option, Some, None, Bool, map, length, sym, subst, arith}
use Rattle.om_code.specs.declared.instruction.Comparison.{Comparison}
use Rattle.om_lower_emit.specs.declared.spot.LoopLabels.{LoopLabels}
use Rattle.om_lower_emit.specs.declared.spot.TurnLabels.{TurnLabels}
use Rattle.om_lower_emit.specs.Stretches.{Opens, Begins, BeginsTurn, construct_begin, construct_end}
use Rattle.om_lower_emit.specs.Stretches.{do_begin, do_end, else_begin, for_begin, for_end, loop_end, test_at}
use Rattle.om_lower_emit.specs.Stretches.{while_begin, worksharing_begin, worksharing_rest}
use Rattle.om_lower_emit.specs.Drafts.{Labels, Written, Defines}
use Rattle.om_lower_emit.specs.Emits.{Finished, Part, site, Goes, Emits}
use Rattle.om_lexer.specs.declared.token.Span.{Span}
use Rattle.om_scope_tree.specs.declared.resolved.ConstructKind.{ConstructKind}
use Rattle.om_scope_tree.specs.declared.resolved.ConstructKind.TheVariants as constructs
use Rattle.om_scope_tree.specs.declared.resolved.ResolvedClause.{ResolvedClause}
use Rattle.om_scope_tree.specs.ResolvedView as view
use Rattle.om_scope_tree.specs.ResolvedTree.{ResolvedExpressionTree, ResolvedClauseTree, ResolvedLoopTree}
use Rattle.om_scope_tree.specs.ResolvedTree.{ResolvedStartTree, ResolvedStatementTree, If, IfElse, While, Do, For, Loop}
use Rattle.om_scope_tree.specs.ResolvedTree.{Construct}
use Rattle.om_lower_rules.specs.Bodies.{Numbers, behind}
use Rattle.om_lower_rules.specs.Operators.{comparison_of}
use Rattle.om_lower_rules.specs.Rows.{Row, end, part, here, given}
use Rattle.om_lower_rules.specs.Statements.{closes, statement, construct_row, loop_rest, in_iteration}
use Rattle.om_lower_emit.specs.declared.spot.JumpLabels.{JumpLabels}
use Rattle.om_lower_emit.specs.Statements.{jumps_at, EmitsStatement}
use Rattle.om_lower_emit.specs.Going.{before_with, goes_place, goes_then, then_with, with_as, with_behind}
use Rattle.om_lower_rules.specs.Numbered.{Numbered}
use Rattle.om_lower_rules.specs.Picks.{own_picks}

-- the code of a statement
abbrev Written_as : Numbered → Numbers → ResolvedStatementTree → JumpLabels → Part
Written_as names n s jumps done at = statement (site names done) n s (jumps_at at jumps)

abbrev loop_jumps : (over next : ℕ) → JumpLabels
loop_jumps over next = record { over = Some over; next = Some next }

pub emits_if : (names : Numbered) (n : Numbers) (first : Span) (c : ResolvedExpressionTree) (s : ResolvedStatementTree)
    (jumps : JumpLabels) (label : ℕ) (a b d e : Written)
    → Begins label (test_at names first.line label c) a b → EmitsStatement names n s jumps b d → Defines label d e
    → EmitsStatement names n (If first c s) jumps a e
emits_if names n first c s jumps label a b d e g h j =
    with_as k _ (λ done at. part (test_at names first.line label c done at)
    (part (Written_as names n s jumps done at) (here (at label) end))) _ a e
    (λ done at p q r.
    let t = r.1 in (
      at label,
      (
        t.0,
        t.1,
        (
          t.2.0,
          (
            r.2.0,
            subst (λ z. Written_as names n s jumps done at z r.2.0) (sym t.2.1) r.2.1,
            r.2.2,
          ),
        ),
      ),
    ))
    (before_with k k k _ _ _ a b e (omega arith) (omega arith) g.goes
    (with_behind k (length b.places) label _ _ _ b d e g.goes.keeps.more g.above h (goes_place label d e j)))
  where
    k : ℕ
    k = length a.places

pub emits_if_else : (names : Numbered) (n : Numbers) (first : Span) (c : ResolvedExpressionTree)
    (s t : ResolvedStatementTree) (jumps : JumpLabels) (head label : ℕ) (a b d e f g : Written)
    → Begins head (test_at names first.line head c) a b → EmitsStatement names n s jumps b d → Opens head label
    (else_begin names first.line head label) d e
    → EmitsStatement names (behind n s) t jumps e f → Defines label f g
    → EmitsStatement names n (IfElse first c s t) jumps a g
emits_if_else names n first c s t jumps head label a b d e f g h1 h2 h3 h4 h5 =
    with_as k _ (λ done at. part (test_at names first.line head c done at) (part (Written_as names n s jumps done at)
    (part (else_begin names first.line head label done at) (part (Written_as names (behind n s) t jumps done at)
    (here (at label) end))))) _ a g
    (λ done at p q r.
    let x = r.1 in
    let y = r.2.2.1 in
    let z = r.2.2.2 in (
      at head,
      at label,
      (
        x.0,
        x.1,
        (
          x.2.0,
          (
            r.2.0,
            subst (λ m. Written_as names n s jumps done at m r.2.0) (sym x.2.1) r.2.1,
            (
              y.0,
              (
                y.1.0,
                (
                  z.0,
                  subst (λ m. Written_as names (behind n s) t jumps done at m z.0) (sym y.1.1) z.1,
                  z.2,
                ),
              ),
            ),
          ),
        ),
      ),
    ))
    (before_with k k k _ _ _ a b g (omega arith) (omega arith) h1.goes
    (then_with k (length b.places) k (own_picks n s) (own_picks (behind n s) t) _ _ b d g h1.goes.keeps.more
    (omega arith) h2
    (before_with k head k _ _ _ d e g h1.above (omega arith) h3.goes
    (with_behind k (length e.places) label _ _ _ e f g
    (omega (arith, h1.goes.keeps.more, h2.more, h3.goes.keeps.more)) (omega (arith, h1.above, h3.above)) h4
    (goes_place label f g h5)))))
  where
    k : ℕ
    k = length a.places

pub emits_while : (names : Numbered) (n : Numbers) (first : Span) (c : ResolvedExpressionTree)
    (s : ResolvedStatementTree) (jumps : JumpLabels) (labels : LoopLabels) (a b d e : Written)
    → Begins labels.over (while_begin names first.line c labels) a b → EmitsStatement names n s
    (loop_jumps labels.over labels.again) b d
    → Goes labels.over (loop_end names first.line labels) d e
    → EmitsStatement names n (While first c s) jumps a e
emits_while names n first c s jumps labels a b d e h1 h2 h3 =
    with_as k _ (λ done at. part (while_begin names first.line c labels done at)
    (part (Written_as names n s (loop_jumps labels.over labels.again) done at)
    (loop_end names first.line labels done at))) _ a e
    (λ done at p q r.
    let t = r.1.1 in (
      at labels.again,
      at labels.over,
      (
        r.1.0,
        (
          t.0,
          t.1,
          (
            t.2.0,
            (
              r.2.0,
              subst (λ m. Written_as names n s (loop_jumps labels.over labels.again) done at m r.2.0) (sym t.2.1) r.2.1,
              r.2.2,
            ),
          ),
        ),
      ),
    ))
    (before_with k k k _ _ _ a b e (omega arith) (omega arith) h1.goes
    (with_behind k (length b.places) labels.over _ _ _ b d e h1.goes.keeps.more h1.above h2 h3))
  where
    k : ℕ
    k = length a.places

pub emits_do : (names : Numbered) (n : Numbers) (first : Span) (c : ResolvedExpressionTree) (s : ResolvedStatementTree)
    (jumps : JumpLabels) (labels : TurnLabels) (a b d e : Written)
    → BeginsTurn labels (do_begin labels) a b → EmitsStatement names n s (loop_jumps labels.over labels.next) b d
    → Goes labels.next (do_end names first.line labels c) d e
    → EmitsStatement names n (Do first s c) jumps a e
emits_do names n first c s jumps labels a b d e h1 h2 h3 =
    with_as k _ (λ done at. part (do_begin labels done at)
    (part (Written_as names n s (loop_jumps labels.over labels.next) done at) (do_end names first.line labels c done
    at))) _ a e
    (λ done at p q r.
    let y = r.2.2 in
    let t = y.1.1 in (
      at labels.again,
      at labels.next,
      at labels.over,
      (
        r.1.0,
        (
          r.2.0,
          subst (λ m. Written_as names n s (loop_jumps labels.over labels.next) done at m r.2.0) (sym r.1.1) r.2.1,
          (
            y.0,
            (
              t.0,
              t.1,
              (
                t.2.0,
                subst (λ m. loop_end names first.line (record { again = labels.again; over = labels.over }) done at m
                    q) (sym t.2.1) y.1.2,
              ),
            ),
          ),
        ),
      ),
    ))
    (before_with k k k _ _ _ a b e (omega arith) (omega arith) h1.next.goes
    (with_behind k (length b.places) labels.next _ _ _ b d e h1.next.goes.keeps.more h1.next.above h2 h3))
  where
    k : ℕ
    k = length a.places

pub emits_for : (names : Numbered) (n : Numbers) (first : Span) (begin : ResolvedStartTree)
    (c step : Option ResolvedExpressionTree) (s : ResolvedStatementTree) (jumps : JumpLabels)
    → (labels : TurnLabels) (a b d e : Written)
    → BeginsTurn labels (for_begin names first.line begin c labels) a b → EmitsStatement names n s
    (loop_jumps labels.over labels.next) b d
    → Goes labels.next (for_end names first.line labels step) d e
    → EmitsStatement names n (For first begin c step s) jumps a e
emits_for names n first begin c step s jumps labels a b d e h1 h2 h3 =
    with_as k _ (λ done at. part (for_begin names first.line begin c labels done at)
    (part (Written_as names n s (loop_jumps labels.over labels.next) done at) (for_end names first.line labels step
    done at))) _ a e
    (λ done at p q r.
    let x = r.1 in
    (at labels.again, at labels.next, at labels.over, (x.0, x.1, (x.2.0, (r.0, x.2.1, r.2)))))
    (before_with k k k _ _ _ a b e (omega arith) (omega arith) h1.next.goes
    (with_behind k (length b.places) labels.next _ _ _ b d e h1.next.goes.keeps.more h1.next.above h2 h3))
  where
    k : ℕ
    k = length a.places

-- ---- worksharing loops

loop_named : (names : Numbered) (l : ℕ) (clauses : List ResolvedClauseTree) (nowait : Bool) (loop : ResolvedLoopTree)
    (labels : LoopLabels) (body : ℕ → Row) (done : Finished) (at : Labels)
    → (comparison : Option Comparison) (chunk p m m2 m3 q : ℕ)
    → given comparison (λ x. worksharing_rest names l clauses loop labels chunk x done at) p m
    → body (at labels.again) m m2
    → loop_end names l labels done at m2 m3 → closes (site names done) l clauses nowait m3 q
    → given comparison (loop_rest (site names done) l clauses nowait loop body) p q
loop_named names l clauses nowait loop labels body done at None chunk p m m2 m3 q w s y z = absurd w
loop_named names l clauses nowait loop labels body done at (Some comparison) chunk p m m2 m3 q w s y z =
    let b = w.1 in
    let g = w.2.1.1 in (
      at chunk,
      at labels.again,
      at labels.over,
      (
        b.0,
        b.1,
        (
          b.2.0,
          b.2.1,
          (
            w.0,
            b.2.2,
            (
              w.2.0,
              (
                w.2.1.0,
                (
                  g.0,
                  (
                    g.1.0,
                    (
                      g.1.1.0,
                      (
                        m2,
                        subst (λ k. body (at labels.again) k m2) (sym g.1.1.1) s,
                        (
                          y.0,
                          (
                            y.1.0,
                            subst (λ k. closes (site names done) l clauses nowait k q) (sym y.1.1) z,
                          ),
                        ),
                      ),
                    ),
                  ),
                ),
              ),
            ),
          ),
        ),
      ),
    )

pub emits_loop : (names : Numbered) (n : Numbers) (first : Span) (clauses : List ResolvedClauseTree) (nowait : Bool)
    (loop : ResolvedLoopTree) (s : ResolvedStatementTree) (jumps : JumpLabels)
    → (labels : LoopLabels) (a b d e f : Written)
    → Begins labels.over (worksharing_begin names first.line clauses loop labels) a b → EmitsStatement names n s
    (record { over = None; next = Some labels.again }) b d
    → Goes labels.over (loop_end names first.line labels) d e
    → Emits (λ done at. closes (site names done) first.line clauses nowait) e f
    → EmitsStatement names n (Loop first clauses nowait loop s) jumps a f
emits_loop names n first clauses nowait loop s jumps labels a b d e f h1 h2 h3 h4 =
    with_as k _ (λ done at. part (worksharing_begin names first.line clauses loop labels done at)
    (part (Written_as names n s (record { over = None; next = Some labels.again }) done at)
    (part (loop_end names first.line labels done at) (closes (site names done) first.line clauses nowait)))) _ a f
    (λ done at p q r. loop_named names first.line clauses nowait loop labels (λ next. statement (site names done) n
    s (in_iteration next)) done at
    (comparison_of loop.comparison) r.1.0 p r.0 r.2.0 r.2.2.0 q r.1.1 r.2.1 r.2.2.1 r.2.2.2)
    (before_with k k k _ _ _ a b f (omega arith) (omega arith) h1.goes
    (with_behind k (length b.places) k _ _ _ b d f h1.goes.keeps.more (omega arith) h2
    (goes_then k labels.over (length e.places) _ _ d e f h1.above
    (omega (arith, h1.goes.keeps.more, h2.more, h3.keeps.more)) h3 h4)))
  where
    k : ℕ
    k = length a.places

-- ---- constructs

construct_named : (names : Numbered) (l : ℕ) (kind : ConstructKind) (clauses : List ResolvedClauseTree)
    (s : ResolvedStatementTree) (body : Row) (label : ℕ) (done : Finished) (at : Labels)
    → (p m m2 q : ℕ) → construct_begin names l kind clauses label done at p m → body m m2 → construct_end names l
    kind label done at m2 q
    → construct_row (site names done) l kind clauses s body p q
construct_named names l (constructs.Single nowait) clauses s body label done at p m m2 q x y z =
    (at label, (x.0, (m, x.1, (m2, y, z))))
construct_named names l constructs.Masked clauses s body label done at p m m2 q x y z =
    (at label, (x.0, x.1, (x.2.0, (m2, subst (λ k. body k m2) (sym x.2.1) y, z))))
construct_named names l (constructs.Critical name) clauses s body label done at p m m2 q x y z =
    (x.0, (x.1.0, (m2, subst (λ k. body k m2) (sym x.1.1) y, z)))
construct_named names l (constructs.Atomic access) clauses s body label done at p m m2 q x y z = absurd x
construct_named names l constructs.Taskgroup clauses s body label done at p m m2 q x y z =
    (x.0, (m2, subst (λ k. body k m2) (sym x.1) y, z))

pub emits_construct : (names : Numbered) (n : Numbers) (first : Span) (kind : ConstructKind)
    (clauses : List ResolvedClauseTree) (s : ResolvedStatementTree) (jumps : JumpLabels) (label : ℕ) (a b d e : Written)
    → Begins label (construct_begin names first.line kind clauses label) a b → EmitsStatement names n s
    (record { over = None; next = None }) b d
    → Goes label (construct_end names first.line kind label) d e
    → EmitsStatement names n (Construct first kind clauses s) jumps a e
emits_construct names n first kind clauses s jumps label a b d e h1 h2 h3 =
    with_as k _ (λ done at. part (construct_begin names first.line kind clauses label done at)
    (part (Written_as names n s (record { over = None; next = None }) done at) (construct_end names first.line kind
    label done at))) _ a e
    (λ done at p q r. construct_named names first.line kind clauses s
    (Written_as names n s (record { over = None; next = None }) done at) label done at p r.0 r.2.0 q r.1 r.2.1
    r.2.2)
    (before_with k k k _ _ _ a b e (omega arith) (omega arith) h1.goes
    (with_behind k (length b.places) label _ _ _ b d e h1.goes.keeps.more h1.above h2 h3))
  where
    k : ℕ
    k = length a.places

-- ---- the same clauses

pub loop_clauses_are : (names : Numbered) (l : ℕ) (loop : ResolvedLoopTree) (labels : LoopLabels)
    (xs ys : List ResolvedClause) (a b : Written) → xs ≡ ys
    → Begins labels.over (worksharing_begin names l (map view.clause xs) loop labels) a b
    → Begins labels.over (worksharing_begin names l (map view.clause ys) loop labels) a b
loop_clauses_are names l loop labels xs ys a b e h = subst
    (λ z. Begins labels.over (worksharing_begin names l (map view.clause z) loop labels) a b) e h

pub close_clauses_are : (names : Numbered) (l : ℕ) (nowait : Bool) (xs ys : List ResolvedClause) (a b : Written)
    → xs ≡ ys
    → Emits (λ done at. closes (site names done) l (map view.clause xs) nowait) a b
    → Emits (λ done at. closes (site names done) l (map view.clause ys) nowait) a b
close_clauses_are names l nowait xs ys a b e h = subst
    (λ z. Emits (λ done at. closes (site names done) l (map view.clause z) nowait) a b) e h

pub construct_clauses_are : (names : Numbered) (l : ℕ) (kind : ConstructKind) (label : ℕ) (xs ys : List ResolvedClause)
    (a b : Written) → xs ≡ ys
    → Begins label (construct_begin names l kind (map view.clause xs) label) a b
    → Begins label (construct_begin names l kind (map view.clause ys) label) a b
construct_clauses_are names l kind label xs ys a b e h = subst
    (λ z. Begins label (construct_begin names l kind (map view.clause z) label) a b) e h

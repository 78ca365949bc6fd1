use Rattle.std.proofs.Common.{arith, inr, refl}
use Rattle.std.proofs.lemmas.Result.{err_from_is_err_and}
use Rattle.om_lexer.proofs.Progress.{refused_there, too_long, read_more, below_limit}
use Rattle.om_lexer.proofs.lexer.take_source.Goals as goal
use Rattle.om_lexer.proofs.lexer.take_source.Goals.{else-source-gt-SOURCE_LIMIT-via-then-source-gt-SOURCE_LIMIT+else-end-ge-SOURCE_LIMIT}
use Rattle.om_lexer.proofs.lexer.take_source.Goals.{else-source-gt-SOURCE_LIMIT-via-else-source-gt-SOURCE_LIMIT}

pub returns-in_err-piece-clause-refusal : goal.returns-in_err-piece-clause-refusal
returns-in_err-piece-clause-refusal c =
    let p = err_from_is_err_and c.from_residual.result c.from_residual.ensures.1 in
    rw (p.1, p.2) (refused_there _ _ _ _ _ _ _ (below_limit _ _ c.loop-at-test.true c.loop-at.invariant.below)
    c.loop-at.invariant.read c.in_err-piece.ensures.fault)

pub returns-then-end-ge-SOURCE_LIMIT-clause-refusal : goal.returns-then-end-ge-SOURCE_LIMIT-clause-refusal
returns-then-end-ge-SOURCE_LIMIT-clause-refusal c =
    inr (
      refl,
      too_long _ _ _ _ _ _ _ c.if-source-gt-SOURCE_LIMIT.true c.if-end-ge-SOURCE_LIMIT.true
          c.loop-at.invariant.read c.in_ok-piece.ensures.piece,
    )

pub loop-at-preserved : goal.loop-at-preserved
loop-at-preserved c = record {
  inside = c.in_ok-piece.ensures.inside;
  below = λ above. elim c.else-source-gt-SOURCE_LIMIT.branch [
    | else-source-gt-SOURCE_LIMIT-via-then-source-gt-SOURCE_LIMIT+else-end-ge-SOURCE_LIMIT w ↦
        w.if-end-ge-SOURCE_LIMIT.false
    | else-source-gt-SOURCE_LIMIT-via-else-source-gt-SOURCE_LIMIT w ↦ absurd
        (omega (arith, above, w.if-source-gt-SOURCE_LIMIT.false))
  ];
  read = read_more _ _ _ _ _ _ _ _ _ _ _ c.loop-at.invariant.read c.in_ok-piece.ensures.piece
      c.in_ok-state.ensures.tokens c.line_behind-line.ensures c.in_ok-state.ensures.state c.in_ok-state.ensures.macros;
}

use Rattle.std.proofs.Common.{◌++◌, ◌∷◌, [], arith}
use Rattle.om_lexer.proofs.Gaps.{spaces_more}
use Rattle.om_lexer.proofs.white_space.gap_end.Goals as goal

pub loop-end-preserved : goal.loop-end-preserved
loop-end-preserved c =
    let passed = c.loop-end.invariant.passed in
    let told = c.in-Some.ensures in
    record {
      inside = told.inside;
      behind = omega (arith, told.moves, c.loop-end.invariant.behind);
      passed = (
        passed.0 ++ c.in-Some.end ∷ [],
        spaces_more c.args.source.now c.args.from _ _ passed.0 passed.1
            told.found,
      );
    }

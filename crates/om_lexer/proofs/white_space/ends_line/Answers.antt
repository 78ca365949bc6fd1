use Rattle.std.proofs.Common.{subst}
use Rattle.om_lexer.specs.HashLines.{IsLineEnding}
use Rattle.om_lexer.proofs.Gaps.{gap_one}
use Rattle.om_lexer.proofs.white_space.ends_line.Goals as goal

pub returns : goal.returns
returns c =
    let gap = c.gap_end.ensures.gap in (
      (λ yes. record { end = c.gap_end.result; gap = gap; ends = c.ends_at.ensures.0 yes }),
      (λ tail. c.ends_at.ensures.1 (subst (IsLineEnding c.args.source.now) (gap_one c.args.source.now c.args.from
          tail.end c.gap_end.result tail.gap gap) tail.ends)),
    )

use Rattle.std.proofs.Common.{sym, arith, refl, length-take-le}
use Rattle.om_shell.specs.Lines.{kept}
use Rattle.om_shell.proofs.KeptSource.{kept_all}
use Rattle.om_shell.proofs.source.kept.Goals as goal

pub slice_bounds-result-end : goal.slice_bounds-result-end
slice_bounds-result-end c =
    sym (length-take-le 4194304 c.args.source.now (omega (arith, c.if-source-gt-MOST_KEPT.true)))

pub returns-then-source-gt-MOST_KEPT : goal.returns-then-source-gt-MOST_KEPT
unfolding kept
returns-then-source-gt-MOST_KEPT c = refl

pub returns-else-source-gt-MOST_KEPT : goal.returns-else-source-gt-MOST_KEPT
returns-else-source-gt-MOST_KEPT c =
    sym (kept_all c.args.source.now (omega (arith, c.if-source-gt-MOST_KEPT.false)))

use Rattle.std.proofs.Common.{◌≡◌, ◌-◌, ap, ◌∙◌, arith, get_or}
use Rattle.lab_explore_rows.proofs.CutLemmas.{cut_taken}
use Rattle.lab_explore_rows.proofs.row.cut_len.Goals as goal

pub returns-else-entries-len-eq0-clause-cut : goal.returns-else-entries-len-eq0-clause-cut
returns-else-entries-len-eq0-clause-cut c =
    cut_taken c.args.entries.now c.loop-len.len c.loop-len.invariant.zeros
    (λ m is zero. let last : c.loop-len.len - 1 ≡ m = omega (arith, is) in
    c.if-entries-len-eq0.false (ap (λ k. get_or c.args.entries.now k 0) last ∙ zero))

pub returns-after-loop-len-clause-cut : goal.returns-after-loop-len-clause-cut
returns-after-loop-len-clause-cut c =
    cut_taken c.args.entries.now c.loop-len.len c.loop-len.invariant.zeros (λ m is zero. omega (arith, is))

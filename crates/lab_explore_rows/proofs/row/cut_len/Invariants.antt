use Rattle.std.proofs.Common.{◌≡◌, ◌≤◌, ℕ, length, get_or}
use Rattle.lab_explore_rows.proofs.row.cut_len.Given as goal

-- behind what is left there are zeros
abbrev pub invariant-loop-len : goal.invariant-loop-len
invariant-loop-len l = record {
  within : l.len ≤ length l.entries;
  zeros : (i : ℕ) → l.len ≤ i → get_or l.entries i 0 ≡ 0;
}

abbrev pub decreases-loop-len : goal.decreases-loop-len
decreases-loop-len l = l.len

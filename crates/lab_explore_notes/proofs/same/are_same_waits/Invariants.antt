use Rattle.std.proofs.Common.{◌≡◌, drop}
use Rattle.std.specs.Cmp.Lexicographic.{pointwise}
use Rattle.lab_explore_notes.specs.Same.{same_wait}
use Rattle.lab_explore_notes.proofs.same.are_same_waits.Given as goal

-- the answer for what is left is the answer for all
abbrev pub invariant-loop-wait : goal.invariant-loop-wait
invariant-loop-wait l = pointwise same_wait (drop l.wait-index l.a) l.rest ≡ pointwise same_wait l.a l.b

use Rattle.std.proofs.Common.{◌≡◌, drop}
use Rattle.std.specs.Cmp.Lexicographic.{pointwise}
use Rattle.lab_explore_notes.specs.Same.{same_met}
use Rattle.lab_explore_notes.proofs.same.are_same_mets.Given as goal

-- the answer for what is left is the answer for all
abbrev pub invariant-loop-met : goal.invariant-loop-met
invariant-loop-met l = pointwise same_met (drop l.met-index l.a) l.rest ≡ pointwise same_met l.a l.b

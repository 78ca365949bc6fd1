use Rattle.std.proofs.Common.{◌≡◌, length}
use Rattle.om_lower.specs.Texts.{cut_behind}
use Rattle.om_lower.proofs.texts.cut_format.Given as goal

abbrev pub decreases-loop-byte : goal.decreases-loop-byte
decreases-loop-byte l = length l.left

abbrev pub invariant-loop-byte : goal.invariant-loop-byte
invariant-loop-byte l = cut_behind l.cut l.left ≡ cut_behind l.fn.cut l.format

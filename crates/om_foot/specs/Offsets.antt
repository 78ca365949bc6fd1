-- Which offsets of a block are in a set.
use Rattle.std.specs.Prelude.{Bool, nat_eq, ℕ}
use Rattle.std.specs.Int.{bit_at}

abbrev pub has_offset : ℕ → ℕ → Bool
has_offset bits k = nat_eq (bit_at bits k) 1

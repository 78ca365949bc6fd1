-- Which seeds a hunt has.
use Rattle.std.specs.Prelude.{◌+◌, ◌-◌, min, ℕ}

-- the last of so many seeds, from a first one on: none is above 2^64 - 1
abbrev pub last_seed : ℕ → ℕ → ℕ
last_seed first count = min (first - 1 + count) 18446744073709551615

-- Which serials are in a set.
use Rattle.std.specs.Prelude.{Bool, false, nat_eq, ℕ}
use Rattle.om_foot.specs.declared.serials.Serials.{Serials}
use Rattle.om_foot.specs.declared.serials.Serials.TheVariants as serials
use Rattle.om_foot.specs.Blocks.{has_in}

abbrev pub has : Serials → ℕ → Bool
has serials.None s = false
has (serials.One only) s = nat_eq only s
has (serials.Many blocks) s = has_in blocks.value s

-- Tables that are searched by a map beside them: what the map has at each thing is what the table has.
use Rattle.std.specs.Prelude.{◌≡◌, ℕ, List, Vec, nat_eq}
use Rattle.std.specs.BTreeMap.{is_at}
use Rattle.std.specs.Cmp.Lexicographic.{slice_cmp}
use Rattle.std.specs.Map.{lookup}
use Rattle.std.specs.Ordering.{nat_cmp}
use Rattle.std.specs.Str.{bytes_eq}
use Rattle.std.specs.declared.alloc.Global.{Global}
use Rattle.om_lower_rules.specs.Tables.{found_in}

-- the map has at each variable its number in the table, and nothing where it is not there
abbrev pub AreNumbers : List ℕ → List (ℕ × ℕ) → Type 0
AreNumbers table numbers = (x : ℕ) → lookup (is_at (nat_cmp x)) numbers ≡ found_in (nat_eq x) table

-- the map has at each variable what the table of pairs has
abbrev pub AreAlike : List (ℕ × ℕ) → List (ℕ × ℕ) → Type 0
AreAlike table values = (x : ℕ) → lookup (is_at (nat_cmp x)) values ≡ lookup (nat_eq x) table

-- the map has at each text its number in the table, and nothing where it is not there
abbrev pub AreTextNumbers : List (List ℕ) → List (Vec ℕ Global × ℕ) → Type 0
AreTextNumbers table numbers =
    (text : List ℕ) → lookup (is_at (λ key. slice_cmp nat_cmp text key.items)) numbers ≡ found_in (bytes_eq text) table

-- Texts behind further sights are at most as many more as there are sights.
use Rattle.std.proofs.Common.{◌≤◌, ◌+◌, ℕ, Bool, true, false, List, [], ◌∷◌, ◌++◌, length, ap, arith}
use Rattle.std.specs.Prelude.{if◌then◌else◌}
use Rattle.std.specs.List.{list_any}
use Rattle.std.specs.Str.{bytes_eq}
use Rattle.std.proofs.lemmas.List.{length-append}
use Rattle.om_lower_rules.specs.Mentions.{Mention, format_mention, lock_mention}
use Rattle.om_lower_tables.specs.declared.mentions.Mentions.{Mentions}
use Rattle.om_lower_tables.specs.Noted.{AreNoted, noted}
use Rattle.om_lower_tables.specs.Room.{texts_in}
use Rattle.om_lower_tables.specs.Weighed.{texts_of}

sight_length : (known : Bool) (texts : List (List ℕ)) (text : List ℕ)
    → length (if known then texts else texts ++ text ∷ []) ≤ length texts + 1
sight_length true texts text = omega arith
sight_length false texts text = omega (arith, length-append texts (text ∷ []))

pub noted_length : (texts sights : List (List ℕ)) → length (noted texts sights) ≤ length texts + length sights
noted_length texts [] = omega arith
noted_length texts (text ∷ sights) =
    let known = list_any (bytes_eq text) texts in
    let first = sight_length known texts text in
    let rest = noted_length (if known then texts else texts ++ text ∷ []) sights in
    omega (arith, first, rest)

pub are_noted_few : (by : (A : Type 0) → Mention A → List A) (old new : Mentions) → AreNoted by old new
    → texts_in new ≤ texts_in old + texts_of by
are_noted_few by old new noted =
    let formats = noted_length old.formats (by _ format_mention) in
    let locks = noted_length old.locks (by _ lock_mention) in
    omega (arith, ap length noted.0, ap length noted.1, formats, locks)

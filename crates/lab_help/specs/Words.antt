-- What the words of a code are like.
use Rattle.std.specs.Prelude.{◌≡◌, ℕ, true, not, List, ◌==◌}
use Rattle.std.specs.List.{list_all}

-- words that fit behind a mark: they have no line feed
abbrev pub IsOneLine : List ℕ → Type 0
IsOneLine text = list_all (λ byte. not (byte == 10)) text ≡ true

-- Names that stand for a text.
use Rattle.std.specs.Prelude.{ℕ, Bool, false, List, [], ◌∷◌, ◌||◌, if◌then◌else◌}
use Rattle.std.specs.Str.{bytes_eq}
use Rattle.std.specs.List.{list_any}
use Rattle.lab_port_tokens.specs.declared.piece.Piece.{Piece}
use Rattle.lab_port_tokens.specs.Pieces.{pieces_of}
use Rattle.lab_port_rules.specs.declared.rule.Meaning.{Meaning}

-- it is one of these names
abbrev pub is_known : List ℕ → List Meaning → Bool
is_known name names = list_any (λ next. bytes_eq next.name name) names

-- what stands for a word: the text of the first of these names that it is, or itself
abbrev pub meaning_of : List ℕ → List Meaning → List ℕ
meaning_of word [] = word
meaning_of word (next ∷ rest) = if bytes_eq next.name word then next.text else meaning_of word rest

-- one of these names is a token among these
abbrev pub has_name : List Piece → List Meaning → Bool
has_name text names = list_any (λ piece. is_known piece.text names) text

-- a name stands in the text of one before it: C17 6.10.3.4 reads that text again where it is used, with the names that are
-- known there
abbrev pub are_tangled : List Meaning → Bool
are_tangled [] = false
are_tangled (next ∷ rest) = has_name (pieces_of next.text) rest || are_tangled rest

-- The brackets behind the name of an array.
use Rattle.std.specs.Prelude.{ℕ, Bool, true, false, ◌+◌, ◌-◌, ◌==◌, ◌||◌, ◌&&◌, not, if◌then◌else◌, drop, Option, None, Some, List, [], ◌∷◌, ◌++◌}
use Rattle.lab_port_tokens.specs.declared.piece.Piece.{Piece}
use Rattle.lab_port_words.specs.declared.class.Class.{Class}
use Rattle.lab_port_words.specs.declared.class.Class.TheVariants as classes
use Rattle.lab_port_words.specs.declared.class.Sign.TheVariants as signs
use Rattle.lab_port_words.specs.Classes.{is_gap}
use Rattle.lab_port_words.specs.Tables.{class_of}
use Rattle.lab_port_context.specs.Contexts.{deeper}

abbrev pub is_open_bracket : Class → Bool
is_open_bracket (classes.Sign signs.OpenBracket) = true
is_open_bracket _ = false

abbrev pub is_close_bracket : Class → Bool
is_close_bracket (classes.Sign signs.CloseBracket) = true
is_close_bracket _ = false

-- what stands in no index
abbrev pub is_foreign : Class → Bool
is_foreign (classes.Sign signs.Semicolon) = true
is_foreign (classes.Sign signs.OpenBrace) = true
is_foreign (classes.Sign signs.CloseBrace) = true
is_foreign (classes.Sign signs.Hash) = true
is_foreign _ = false

abbrev pub depth_behind : ℕ → Class → ℕ
depth_behind depth class =
    if is_open_bracket class then deeper depth else if is_close_bracket class then depth - 1 else depth

-- a piece after which brackets cannot go on, where so many are open
abbrev pub breaks : ℕ → Class → Bool
breaks depth class =
    is_foreign class || (depth == 0 && not (is_gap class || is_open_bracket class))

-- the last one of the brackets
abbrev pub closes : ℕ → Class → Bool
closes depth class = depth == 1 && is_close_bracket class

-- how many pieces there are up to the `]` of the brackets that begin directly here, and with it, besides these
abbrev pub bracket_end : ℕ → ℕ → List Piece → Option ℕ
bracket_end passed depth [] = None
bracket_end passed depth (piece ∷ rest) =
    if breaks depth (class_of piece) then None
    else if closes depth (class_of piece) then Some (passed + 1)
    else bracket_end (passed + 1) (depth_behind depth (class_of piece)) rest

abbrev pub bracket_size : List Piece → Option ℕ
bracket_size rest = bracket_end 0 0 rest

abbrev pub sum_of : ℕ → Option ℕ → Option ℕ
sum_of size None = None
sum_of size (Some more) = Some (size + more)

abbrev pub pair_by : Option ℕ → List Piece → Option ℕ
pair_by None rest = None
pair_by (Some size) rest = sum_of size (bracket_size (drop size rest))

-- how many pieces two indices have that stand directly here
abbrev pub pair_size : List Piece → Option ℕ
pair_size rest = pair_by (bracket_size rest) rest

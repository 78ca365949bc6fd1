-- What PRINT writes for a format, as it is cut piece by piece.
use Rattle.std.specs.Prelude.{◌≡◌, ℕ, Bool, true, false, List, [], ◌∷◌, ◌++◌, Option, None, Some, map, option_map}
use denote.Ref.{Bor}
use Rattle.om_code.specs.declared.raw.Piece as texts
use Rattle.om_code.specs.declared.raw.Piece.TheVariants as pieces
use Rattle.om_lower.specs.declared.texts.Cut.{Cut}
use Rattle.om_scope_tree.specs.Formats.{Piece, converted, pieces_of}
use Rattle.om_lower_rules.specs.Mentions.{text_piece}

-- a format as PRINT writes it, if it is one
abbrev pub text_of : List ℕ → Option (List texts.Piece)
text_of format = option_map (map text_piece) (pieces_of format)

-- bytes that are written before pieces
abbrev pub with_run : List ℕ → List texts.Piece → List texts.Piece
with_run [] rest = rest
with_run (byte ∷ run) [] = pieces.Bytes (byte ∷ run) ∷ []
with_run (byte ∷ run) (pieces.Bytes bytes ∷ rest) = pieces.Bytes (byte ∷ (run ++ bytes)) ∷ rest
with_run (byte ∷ run) (pieces.Value ∷ rest) = pieces.Bytes (byte ∷ run) ∷ pieces.Value ∷ rest

-- what was cut, and then the rest
abbrev pub behind_cut : Cut → List Piece → List texts.Piece
behind_cut cut rest = cut.pieces.items ++ with_run cut.run.items (map text_piece rest)

-- where the rest of a format is cut behind what was
abbrev pub cut_behind : Cut → List ℕ → Option (List texts.Piece)
cut_behind cut format = option_map (behind_cut cut) (pieces_of format)

-- what was cut, and then the pieces of what follows a `%`, if a format goes on so
abbrev pub converted_behind : Cut → List ℕ → Option (List texts.Piece)
converted_behind cut behind = option_map (behind_cut cut) (converted behind)

-- The function `all` puts what is cut before the rest of a format. The new cut with the rest comes to what the
-- old cut came to with all of it.
abbrev pub CutsFrom : (List Piece → List Piece) → Cut → Cut → Type 0
CutsFrom all old new = (rest : List Piece) → behind_cut new rest ≡ behind_cut old (all rest)

-- what is left of a format, if it goes on
abbrev pub cut_on : Cut → Option (List ℕ) → Option (List texts.Piece)
cut_on cut None = None
cut_on cut (Some rest) = cut_behind cut rest

-- what is left of a format that is lent, if it goes on
abbrev pub cut_left : Cut → Option (Bor (List ℕ)) → Option (List texts.Piece)
cut_left cut left = cut_on cut (option_map (λ rest. rest.now) left)

-- the pieces, where all of it was cut
abbrev pub cut_pieces : Cut → (is_whole : Bool) → Option (List texts.Piece)
cut_pieces cut true = Some cut.pieces.items
cut_pieces cut false = None

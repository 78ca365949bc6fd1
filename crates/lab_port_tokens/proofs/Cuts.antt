-- Where the pieces of a source are cut.
use Rattle.std.proofs.Common.{◌≡◌, ℕ, zero, suc, ◌+◌, ◌≤◌, ◌<◌, List, [], ◌∷◌, ◌++◌, take, drop, length, get_or, refl, sym, ◌∙◌, ap, arith, add-one, drop-cons, append_assoc, append-nil, drop_of_length-le, length-drop, take_all, ◌-◌}
use Rattle.std.proofs.lemmas.List.{take-append-drop, drop-drop, length-take-le}
use Rattle.std.specs.Prelude.{slice_index, flat_map}
use Rattle.lab_port_tokens.specs.declared.scan.Scan.{Scan}
use Rattle.lab_port_tokens.specs.declared.scan.Next.{Next}
use Rattle.lab_port_tokens.specs.declared.scan.Next.TheVariants.{Stops, Ends, Goes}
use Rattle.lab_port_tokens.specs.Scans.{scan_after, size_from, step}
use Rattle.lab_port_tokens.specs.declared.piece.Piece.{Piece}
use Rattle.lab_port_tokens.specs.declared.piece.PieceKind.{PieceKind}
use Rattle.lab_port_tokens.specs.Pieces.{kind_of, piece_of, piece_at, size_of, pieces_behind, pieces_of, bytes_of}

-- a piece ends in its source
pub size_inside : (scan : Scan) (bytes : List ℕ) → size_from scan bytes ≤ length bytes
size_inside scan [] = omega arith
size_inside scan (b ∷ rest) =
    elim (step scan b) as (λ s. (elim s [ Stops ↦ 0 | Ends ↦ 1 | Goes next ↦ suc (size_from next rest) ]) ≤ suc (length rest)) [
      | Stops ↦ omega arith
      | Ends ↦ omega arith
      | Goes next ↦ (let h : size_from next rest ≤ length rest = size_inside next rest in omega arith)
    ]

-- the bytes that belong to the piece before can be dropped first
pub drop_passed : (at passed : ℕ) (bytes : List ℕ) →
    pieces_behind at passed bytes ≡ pieces_behind (at + passed) 0 (drop passed bytes)
drop_passed at zero [] = refl
drop_passed at (suc passed) [] = refl
drop_passed at zero (b ∷ rest) = ap (λ k. pieces_behind k 0 (b ∷ rest)) (omega arith)
drop_passed at (suc passed) (b ∷ rest) =
    let same : at + 1 + passed ≡ at + suc passed = omega arith in
    drop_passed (at + 1) passed rest ∙ ap (λ k. pieces_behind k 0 (drop passed rest)) same

-- the bytes of the pieces are the bytes that they are cut from
pub bytes_behind : (at passed : ℕ) (bytes : List ℕ) → bytes_of (pieces_behind at passed bytes) ≡ drop passed bytes
bytes_behind at zero [] = refl
bytes_behind at (suc passed) [] = refl
bytes_behind at zero (b ∷ rest) =
    let size = size_from (scan_after b) rest in
    ap (λ t. (b ∷ take size rest) ++ t) (bytes_behind (at + 1) size rest)
    ∙ ap (λ t. b ∷ t) (take-append-drop size rest)
bytes_behind at (suc passed) (b ∷ rest) = bytes_behind (at + 1) passed rest

-- a piece has so many bytes
pub text_size : (first : ℕ) (rest : List ℕ) → length (take (size_of first rest) (first ∷ rest)) ≡ size_of first rest
text_size first rest =
    let h : size_from (scan_after first) rest ≤ length rest = size_inside (scan_after first) rest in
    ap suc (length-take-le (size_from (scan_after first) rest) rest h)

-- the pieces from a byte on: the one there, and those from its end on
next_pieces : (at first : ℕ) (rest : List ℕ) →
    pieces_behind at 0 (first ∷ rest)
    ≡ piece_of at first rest
    ∷ pieces_behind (at + length (piece_of at first rest).text) 0 (drop (size_from (scan_after first) rest) rest)
next_pieces at first rest =
    let size = size_from (scan_after first) rest in
    let same : at + 1 + size ≡ at + length (take (size_of first rest) (first ∷ rest)) =
    omega (arith, text_size first rest) in
    ap (λ t. piece_of at first rest ∷ t)
    (drop_passed (at + 1) size rest ∙ ap (λ k. pieces_behind k 0 (drop size rest)) same)

pub here : (source : List ℕ) (at : ℕ) → at < length source →
    drop at source ≡ slice_index source at ∷ drop (at + 1) source
here source at below =
    drop-cons source at 0 below ∙ ap (λ k. slice_index source at ∷ drop k source) (sym (add-one at))

next_piece : (source : List ℕ) (at : ℕ) → at < length source →
    pieces_behind at 0 (drop at source)
    ≡ piece_at source at
    ∷ pieces_behind (at + length (piece_at source at).text) 0 (drop (at + length (piece_at source at).text) source)
next_piece source at below =
    let first = slice_index source at in
    let rest = drop (at + 1) source in
    let size = size_from (scan_after first) rest in
    let end : at + 1 + size ≡ at + length (piece_at source at).text = omega (arith, text_size first rest) in
    ap (pieces_behind at 0) (here source at below) ∙ next_pieces at first rest
    ∙ ap (λ l. piece_at source at ∷ pieces_behind (at + length (piece_at source at).text) 0 l)
    (drop-drop size (at + 1) source ∙ ap (λ k. drop k source) end)

-- a piece of this kind at this place
abbrev pub piece_with : PieceKind → ℕ → List ℕ → Piece
piece_with kind at text = record { kind = kind; at = at; text = text }

-- what a slice from a place on has
pub slice_from : (source : List ℕ) (at : ℕ) → take (length source - at) (drop at source) ≡ drop at source
slice_from source at =
    take_all (length source - at) (drop at source) (let h = length-drop at source in omega (arith, h))

-- the piece at a place, by what the code finds there
pub piece_there : (source : List ℕ) (at : ℕ) (scan : Scan) (size second : ℕ) (kind : PieceKind)
    (text rest there : List ℕ)
    → at < length source
    → rest ≡ drop (at + 1) source
    → there ≡ drop at source
    → scan ≡ scan_after (slice_index source at)
    → size ≡ size_from scan rest
    → second ≡ slice_index rest 0
    → kind ≡ kind_of (slice_index source at) second
    → text ≡ take (size + 1) there
    → piece_with kind at text ≡ piece_at source at
piece_there source at scan size second kind text rest there below rests theres scans sizes seconds kinds texts =
    let first = slice_index source at in
    let tail = drop (at + 1) source in
    let sized : size + 1 ≡ size_of first tail =
    add-one size ∙ ap suc (sizes ∙ ap (λ s. size_from s rest) scans ∙ ap (size_from (scan_after first)) rests) in
    let spelt : text ≡ take (size_of first tail) (first ∷ tail) =
    texts ∙ ap (λ k. take k there) sized
    ∙ ap (take (size_of first tail)) (theres ∙ here source at below) in
    ap (λ k. piece_with k at text)
    (kinds ∙ ap (kind_of first) (seconds ∙ ap (λ l. slice_index l 0) rests))
    ∙ ap (piece_with (kind_of first (slice_index tail 0)) at) spelt

-- with one piece more, what is left gives all pieces still
pub read_on : (source : List ℕ) (at size : ℕ) (piece : Piece) (done more : List Piece)
    → at < length source
    → done ++ pieces_behind at 0 (drop at source) ≡ pieces_of source
    → piece ≡ piece_at source at
    → size ≡ length piece.text
    → more ≡ done ++ (piece ∷ [])
    → more ++ pieces_behind (at + size) 0 (drop (at + size) source) ≡ pieces_of source
read_on source at size piece done more below read is sized pushed =
    let left : ℕ → List Piece = λ k. pieces_behind (at + k) 0 (drop (at + k) source) in
    let there = piece_at source at in
    ap (λ l. l ++ left size) pushed
    ∙ ap (λ p. (done ++ (p ∷ [])) ++ left size) is
    ∙ ap (λ k. (done ++ (there ∷ [])) ++ left k) (sized ∙ ap (λ p. length p.text) is)
    ∙ append_assoc done (there ∷ []) (left (length there.text))
    ∙ ap (λ l. done ++ l) (sym (next_piece source at below))
    ∙ read

-- behind the last piece, the bytes of the pieces are the source
pub whole : (source : List ℕ) (at : ℕ) (done : List Piece)
    → length source ≤ at
    → done ++ pieces_behind at 0 (drop at source) ≡ pieces_of source
    → bytes_of done ≡ source
whole source at done past read =
    let all : done ≡ pieces_of source =
    sym (append-nil done) ∙ ap (λ l. done ++ pieces_behind at 0 l) (sym (drop_of_length-le source past)) ∙ read in
    ap bytes_of all ∙ bytes_behind 0 0 source

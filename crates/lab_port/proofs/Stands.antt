-- The changes of a source stand in it, one behind another.
use Rattle.std.proofs.Common.{◌≡◌, ℕ, zero, suc, ◌+◌, ◌-◌, ◌≤◌, List, [], ◌∷◌, ◌++◌, take, drop, length, map, refl, sym, subst, ap, ◌∙◌, arith, append_assoc, length-drop, length-append}
use Rattle.std.proofs.lemmas.List.{take-append-drop, length-take-le, drop-drop}
use Rattle.std.proofs.Math.Seq.{take-append_seam, drop-append_seam}
use Rattle.std.proofs.lemmas.Grind.{flat_map-append}
use Rattle.lab_port_tokens.specs.declared.scan.Scan.{Scan}
use Rattle.lab_port_tokens.specs.declared.scan.Next.TheVariants.{Stops, Ends, Goes}
use Rattle.lab_port_tokens.specs.Scans.{scan_after, size_from, step}
use Rattle.lab_port_tokens.specs.declared.piece.Piece.{Piece}
use Rattle.lab_port_tokens.specs.Pieces.{size_of, pieces_behind, pieces_of, bytes_of}
use Rattle.lab_port_rules.specs.declared.rule.Rule.{Rule}
use Rattle.lab_port_rules.specs.declared.rule.Meaning.{Meaning}
use Rattle.lab_port.specs.declared.stage.Stage.{Stage}
use Rattle.lab_port_rules.specs.declared.mark.Mark.{Mark}
use Rattle.lab_port_rules.specs.declared.mark.Mark.TheVariants as marks
use Rattle.lab_port.specs.declared.ported.Change.{Change}
use Rattle.lab_port.specs.Texts.{flat_byte, new_text, flat_text}
use Rattle.lab_port.specs.Written.{part, end_of, line_feeds, Stands, Stand}
use Rattle.lab_port.specs.Portings.{changes_at, changes_from, stage_marks, stage_names, changes_in}
use Rattle.lab_port.proofs.Takes.{Fit, stage_takes}

-- each piece stands where the one before it ends
abbrev Placed : ℕ → List Piece → Type 0
Placed at [] = Unit
Placed at (piece ∷ rest) = (piece.at ≡ at) × Placed (at + length piece.text) rest

size_inside : (scan : Scan) (bytes : List ℕ) → size_from scan bytes ≤ length bytes
size_inside scan [] = omega arith
size_inside scan (b ∷ rest) =
    elim (step scan b) as (λ s. (elim s [ Stops ↦ 0 | Ends ↦ 1 | Goes next ↦ suc (size_from next rest) ]) ≤ suc (length rest)) [
      | Stops ↦ omega arith
      | Ends ↦ omega arith
      | Goes next ↦ (let h : size_from next rest ≤ length rest = size_inside next rest in omega arith)
    ]

text_size : (first : ℕ) (rest : List ℕ) → length (take (size_of first rest) (first ∷ rest)) ≡ size_of first rest
text_size first rest =
    let h : size_from (scan_after first) rest ≤ length rest = size_inside (scan_after first) rest in
    ap suc (length-take-le (size_from (scan_after first) rest) rest h)

placed_behind : (at passed : ℕ) (bytes : List ℕ) → Placed (at + passed) (pieces_behind at passed bytes)
placed_behind at zero [] = tt
placed_behind at (suc passed) [] = tt
placed_behind at zero (b ∷ rest) =
    let size = size_from (scan_after b) rest in
    let here : at ≡ at + 0 = omega arith in
    let end : at + 1 + size ≡ at + 0 + length (take (size_of b rest) (b ∷ rest)) = omega (arith, text_size b rest) in
    (here, subst (λ k. Placed k (pieces_behind (at + 1) size rest)) end (placed_behind (at + 1) size rest))
placed_behind at (suc passed) (b ∷ rest) =
    let same : at + 1 + passed ≡ at + suc passed = omega arith in
    subst (λ k. Placed k (pieces_behind (at + 1) passed rest)) same (placed_behind (at + 1) passed rest)

-- the bytes of the pieces are the source
bytes_behind : (at passed : ℕ) (bytes : List ℕ) → bytes_of (pieces_behind at passed bytes) ≡ drop passed bytes
bytes_behind at zero [] = refl
bytes_behind at (suc passed) [] = refl
bytes_behind at zero (b ∷ rest) =
    let size = size_from (scan_after b) rest in
    ap (λ t. (b ∷ take size rest) ++ t) (bytes_behind (at + 1) size rest)
    ∙ ap (λ t. b ∷ t) (take-append-drop size rest)
bytes_behind at (suc passed) (b ∷ rest) = bytes_behind (at + 1) passed rest

-- from an earlier place they stand as well
earlier : (source : List ℕ) (from to : ℕ) (changes : List Change) → from ≤ to
    → Stand source to changes
    → Stand source from changes
earlier source from to [] below stand = tt
earlier source from to (change ∷ more) below ((after, inside, old, new), rest) =
    let first : from ≤ change.at = omega (arith, below, after) in
    ((first, inside, old, new), rest)

-- a line end becomes a space
flat_feeds : (bytes : List ℕ) → line_feeds (map flat_byte bytes) ≡ 0
flat_feeds [] = refl
flat_feeds (b ∷ rest) = grind (arith, flat_feeds rest)

-- the change that a rule makes of a piece and those that it takes
abbrev change_by : List Meaning → Rule → Piece → List Piece → Change
change_by names rule piece taken = record {
  at = piece.at;
  rule = rule;
  old = bytes_of (piece ∷ taken);
  new = flat_text names rule piece.text taken;
}

-- the pieces from one on, those that its rule takes first
parted : (piece : Piece) (rest : List Piece) (taken : ℕ)
    → bytes_of (piece ∷ rest) ≡ bytes_of (piece ∷ take taken rest) ++ bytes_of (drop taken rest)
parted piece rest taken =
    ap (λ l. piece.text ++ bytes_of l) (sym (take-append-drop taken rest))
    ∙ ap (λ l. piece.text ++ l) (flat_map-append (λ p. p.text) (take taken rest) (drop taken rest))
    ∙ sym (append_assoc piece.text (bytes_of (take taken rest)) (bytes_of (drop taken rest)))

-- such a change stands at its piece
stands_there : (names : List Meaning) (source : List ℕ) (at taken : ℕ) (rule : Rule) (piece : Piece) (rest : List Piece)
    → piece.at ≡ at
    → drop at source ≡ bytes_of (piece ∷ rest)
    → at ≤ length source
    → Stands source at (change_by names rule piece (take taken rest))
stands_there names source at taken rule piece rest here bytes below =
    let change = change_by names rule piece (take taken rest) in
    let old = bytes_of (piece ∷ take taken rest) in
    let more = bytes_of (drop taken rest) in
    let tail : drop at source ≡ old ++ more = bytes ∙ parted piece rest taken in
    let size : length source - at ≡ length old + length more =
    sym (length-drop at source) ∙ ap length tail ∙ length-append old more in
    let after : at ≤ change.at = omega (arith, here) in
    let inside : end_of change ≤ length source = omega (arith, here, size, below) in
    let count : end_of change - change.at ≡ length old = omega arith in
    let same : part source change.at (end_of change) ≡ old =
    ap (λ k. take k (drop change.at source)) count
    ∙ ap (λ k. take (length old) (drop k source)) here
    ∙ ap (take (length old)) tail
    ∙ take-append_seam old more in
    (after, inside, same, flat_feeds (new_text names rule piece.text (take taken rest)))

-- behind a piece the bytes are those of the pieces behind it
next_bytes : (source : List ℕ) (at : ℕ) (piece : Piece) (rest : List Piece)
    → drop at source ≡ bytes_of (piece ∷ rest)
    → drop (at + length piece.text) source ≡ bytes_of rest
next_bytes source at piece rest bytes =
    sym (drop-drop (length piece.text) at source)
    ∙ ap (drop (length piece.text)) bytes
    ∙ drop-append_seam piece.text (bytes_of rest)

next_inside : (source : List ℕ) (at : ℕ) (piece : Piece) (rest : List Piece)
    → drop at source ≡ bytes_of (piece ∷ rest)
    → at ≤ length source
    → at + length piece.text ≤ length source
next_inside source at piece rest bytes below =
    let size : length source - at ≡ length piece.text + length (bytes_of rest) =
    sym (length-drop at source) ∙ ap length bytes ∙ length-append piece.text (bytes_of rest) in
    omega (arith, size, below)

-- the changes of some pieces, of which the first ones are taken by a rule before
stand_on : (names : List Meaning) (source : List ℕ) (at taken : ℕ) (pieces : List Piece) (some : List Mark)
    → Placed at pieces
    → drop at source ≡ bytes_of pieces
    → at ≤ length source
    → Fit taken some
    → Stand source (at + length (bytes_of (take taken pieces))) (changes_from names pieces some)
stand_on names source at taken [] some placed bytes below fit = tt
stand_on names source at taken (piece ∷ rest) [] placed bytes below fit = tt
stand_on names source at zero (piece ∷ rest) (marks.Kept ∷ more) (here, placed) bytes below fit =
    earlier source (at + 0) (at + length piece.text + 0) (changes_from names rest more) (omega arith)
    (stand_on names source (at + length piece.text) 0 rest more placed (next_bytes source at piece rest bytes)
    (next_inside source at piece rest bytes below) fit)
stand_on names source at zero (piece ∷ rest) (marks.Taken ∷ more) (here, placed) bytes below fit =
    earlier source (at + 0) (at + length piece.text + 0) (changes_from names rest more) (omega arith)
    (stand_on names source (at + length piece.text) 0 rest more placed (next_bytes source at piece rest bytes)
    (next_inside source at piece rest bytes below) fit)
stand_on names source at zero (piece ∷ rest) (marks.Lacking reason ∷ more) (here, placed) bytes below fit =
    earlier source (at + 0) (at + length piece.text + 0) (changes_from names rest more) (omega arith)
    (stand_on names source (at + length piece.text) 0 rest more placed (next_bytes source at piece rest bytes)
    (next_inside source at piece rest bytes below) fit)
stand_on names source at zero (piece ∷ rest) (marks.Changed rule taken ∷ more) (here, placed) bytes below fit =
    let stand = stand_on names source (at + length piece.text) taken rest more placed (next_bytes source at piece rest bytes)
    (next_inside source at piece rest bytes below) fit in
    let end : at + length piece.text + length (bytes_of (take taken rest))
    ≡ end_of (change_by names rule piece (take taken rest)) =
    omega (arith, here, length-append piece.text (bytes_of (take taken rest))) in
    let first : at + 0 ≤ piece.at = omega (arith, here) in
    let there = stands_there names source at taken rule piece rest here bytes below in
    ((first, there.1, there.2, there.3), subst (λ k. Stand source k (changes_from names rest more)) end stand)
stand_on names source at (suc taken) (piece ∷ rest) (mark ∷ more) (here, placed) bytes below (is, fit) =
    let stand = stand_on names source (at + length piece.text) taken rest more placed (next_bytes source at piece rest bytes)
    (next_inside source at piece rest bytes below) fit in
    let end : at + length piece.text + length (bytes_of (take taken rest))
    ≡ at + length (piece.text ++ bytes_of (take taken rest)) =
    omega (arith, length-append piece.text (bytes_of (take taken rest))) in
    let none : changes_from names rest more ≡ changes_at names mark piece rest ++ changes_from names rest more =
    ap (λ m. changes_at names m piece rest ++ changes_from names rest more) (sym is) in
    subst (Stand source (at + length (piece.text ++ bytes_of (take taken rest)))) none
    (subst (λ k. Stand source k (changes_from names rest more)) end stand)

pub changes_stand : (stage : Stage) (text : List ℕ) → Stand text 0 (changes_in stage text)
changes_stand stage text =
    let pieces = pieces_of text in
    let below : 0 ≤ length text = omega arith in
    stand_on (stage_names stage pieces) text 0 0 pieces (stage_marks stage pieces) (placed_behind 0 0 text)
    (sym (bytes_behind 0 0 text)) below (stage_takes stage pieces)

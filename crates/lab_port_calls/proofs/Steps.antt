-- With one piece more, what is left gives the whole answer still.
use Rattle.std.proofs.Common.{◌≡◌, ℕ, ◌+◌, ◌-◌, ◌<◌, ◌==◌, if◌then◌else◌, Option, List, [], ◌∷◌, ◌++◌, drop, take, length, get_or, sym, ap, ◌∙◌, arith, append_assoc, length-drop, take_all}
use Rattle.std.proofs.lemmas.List.{drop_more}
use Rattle.lab_port_tokens.specs.declared.piece.Piece.{Piece}
use Rattle.lab_port_rules.specs.declared.rule.Meaning.{Meaning}
use Rattle.lab_port_rules.specs.declared.mark.Mark.{Mark}
use Rattle.lab_port_rules.specs.declared.mark.Mark.TheVariants as marks
use Rattle.lab_port_calls.specs.declared.place.Spot.{Spot}
use Rattle.lab_port_calls.specs.Places.{found_at, mark_by, mark_here, names_by, names_here, spot_behind, marks_from, names_from}

-- the pieces behind a place of a source
abbrev slice_behind : List Piece → ℕ → List Piece
slice_behind all i = take (length all - (i + 1)) (drop (i + 1) all)

whole_behind : (all : List Piece) (i : ℕ) → slice_behind all i ≡ drop (i + 1) all
whole_behind all i =
    take_all (length all - (i + 1)) (drop (i + 1) all) (let h = length-drop (i + 1) all in omega (arith, h))

parted : (all : List Piece) (i : ℕ) (piece : Piece) → i < length all → piece ≡ get_or all i piece
    → drop i all ≡ piece ∷ drop (i + 1) all
parted all i piece inside is = drop_more all i piece inside ∙ ap (λ x. x ∷ drop (i + 1) all) (sym is)

-- the mark of a piece, by what is defined there
abbrev mark_with : Option Meaning → List Meaning → Spot → Piece → List Piece → Mark
mark_with found names spot piece rest =
    if spot.taken == 0 then mark_by found names spot piece rest else marks.Taken

abbrev names_with : Option Meaning → List Meaning → Spot → List Meaning
names_with found names spot = if spot.taken == 0 then names_by found names else names

mark_is : (all rest : List Piece) (piece : Piece) (names : List Meaning) (spot : Spot) (found : Option Meaning) (mark : Mark)
    → found ≡ found_at spot piece rest all
    → mark ≡ mark_with found names spot piece rest
    → mark ≡ mark_here names spot piece rest all
mark_is all rest piece names spot found mark finds marked =
    marked ∙ ap (λ f. mark_with f names spot piece rest) finds

names_are : (all rest : List Piece) (piece : Piece) (names more : List Meaning) (spot : Spot) (found : Option Meaning)
    → found ≡ found_at spot piece rest all
    → more ≡ names_with found names spot
    → more ≡ names_here names spot piece rest all
names_are all rest piece names more spot found finds named =
    named ∙ ap (λ f. names_with f names spot) finds

pub marks_on : (all : List Piece) (i : ℕ) (piece : Piece) (names more : List Meaning) (spot next : Spot)
    (found : Option Meaning) (mark : Mark) (done after total : List Mark)
    → i < length all
    → piece ≡ get_or all i piece
    → found ≡ found_at spot piece (slice_behind all i) all
    → mark ≡ mark_with found names spot piece (slice_behind all i)
    → more ≡ names_with found names spot
    → next ≡ spot_behind spot mark piece (slice_behind all i)
    → after ≡ done ++ (mark ∷ [])
    → done ++ marks_from all names spot (drop i all) ≡ total
    → after ++ marks_from all more next (drop (i + 1) all) ≡ total
marks_on all i piece names more spot next found mark done after total inside is finds marked named gone pushed read =
    let rest = drop (i + 1) all in
    let seen = slice_behind all i in
    let whole = whole_behind all i in
    let here = mark_here names spot piece rest all in
    let known = names_here names spot piece rest all in
    let mark_here_is = mark_is all seen piece names spot found mark finds marked
    ∙ ap (λ r. mark_here names spot piece r all) whole in
    let known_is = names_are all seen piece names more spot found finds named
    ∙ ap (λ r. names_here names spot piece r all) whole in
    let next_is = gone ∙ ap (λ r. spot_behind spot mark piece r) whole
    ∙ ap (λ m. spot_behind spot m piece rest) mark_here_is in
    ap (λ l. l ++ marks_from all more next rest) pushed
    ∙ append_assoc done (mark ∷ []) (marks_from all more next rest)
    ∙ ap (λ m. done ++ (m ∷ marks_from all more next rest)) mark_here_is
    ∙ ap (λ n. done ++ (here ∷ marks_from all n next rest)) known_is
    ∙ ap (λ s. done ++ (here ∷ marks_from all known s rest)) next_is
    ∙ ap (λ l. done ++ marks_from all names spot l) (sym (parted all i piece inside is))
    ∙ read

pub names_on : (all : List Piece) (i : ℕ) (piece : Piece) (names more total : List Meaning) (spot next : Spot)
    (found : Option Meaning) (mark : Mark)
    → i < length all
    → piece ≡ get_or all i piece
    → found ≡ found_at spot piece (slice_behind all i) all
    → mark ≡ mark_with found names spot piece (slice_behind all i)
    → more ≡ names_with found names spot
    → next ≡ spot_behind spot mark piece (slice_behind all i)
    → names_from all names spot (drop i all) ≡ total
    → names_from all more next (drop (i + 1) all) ≡ total
names_on all i piece names more total spot next found mark inside is finds marked named gone read =
    let rest = drop (i + 1) all in
    let seen = slice_behind all i in
    let whole = whole_behind all i in
    let known = names_here names spot piece rest all in
    let mark_here_is = mark_is all seen piece names spot found mark finds marked
    ∙ ap (λ r. mark_here names spot piece r all) whole in
    let known_is = names_are all seen piece names more spot found finds named
    ∙ ap (λ r. names_here names spot piece r all) whole in
    let next_is = gone ∙ ap (λ r. spot_behind spot mark piece r) whole
    ∙ ap (λ m. spot_behind spot m piece rest) mark_here_is in
    ap (λ n. names_from all n next rest) known_is
    ∙ ap (λ s. names_from all known s rest) next_is
    ∙ ap (λ l. names_from all names spot l) (sym (parted all i piece inside is))
    ∙ read

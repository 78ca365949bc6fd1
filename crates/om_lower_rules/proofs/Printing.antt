-- PRINT writes what `printf` means.
use Rattle.std.proofs.Common.{◌≡◌, ℕ, suc, ◌+◌, ℤ, Bool, true, false, List, [], ◌∷◌, ◌++◌, length, Option, Some, None}
use Rattle.std.proofs.Common.{refl, sym, ap, ◌∙◌, subst, arith}
use Rattle.std.specs.Prelude.{slice_get, map, option_map, unwrap_or, reverse, take, drop, nat_le, ◌||◌, if◌then◌else◌}
use Rattle.std.specs.List.{AllZip, list_any}
use Rattle.std.specs.Str.{bytes_eq}
use Rattle.std.specs.Fmt.{signed_decimal}
use Rattle.std.proofs.lemmas.Bool.{le-leb}
use Rattle.std.proofs.lemmas.List.{append_assoc, length-map, length-reverse, reverse-append, reverse-reverse}
use Rattle.std.proofs.Math.Seq.{take-append_seam, drop-append_seam}
use Rattle.std.proofs.lemmas.Slice.Eq.{bytes_eq-Decides}
use Rattle.om_code.specs.declared.frame.Operand.{Operand}
use Rattle.om_code.specs.declared.frame.Operand.TheVariants as operand
use Rattle.om_code.specs.declared.instruction.Instr.TheVariants as i
use Rattle.om_code.specs.declared.instruction.Serial.TheVariants as serials
use Rattle.om_code.specs.declared.raw.Piece as texts
use Rattle.om_code.specs.declared.raw.Raw.{Raw}
use Rattle.om_code.specs.declared.raw.Slot.{Slot}
use Rattle.om_code.specs.Frames as frames
use Rattle.om_code.specs.Frames.{FrameTurn, acted}
use Rattle.om_code.specs.Printing.{printed, ints, ints_on}
use Rattle.om_scope_tree.specs.Formats.{Piece, Bytes, Value, pieces_of}
use Rattle.om_lower_rules.specs.Mentions.{IsTextOf, text_piece}
use Rattle.om_lower_rules.specs.Tables.{number_in}
use Rattle.om_lower_rules.specs.Running.{frame, with_int}
use Rattle.om_lower_rules.specs.Worlds.{World, written, text_of, print}
use Rattle.om_lower_rules.proofs.Acting.{turn_on}

-- ---- bytes

same_bytes : (pieces : List Piece) (values : List ℤ) → printed (map text_piece pieces) values ≡ written pieces values
same_bytes [] values = refl
same_bytes (Bytes bytes ∷ rest) values = ap (λ z. bytes ++ z) (same_bytes rest values)
same_bytes (Value ∷ rest) [] = same_bytes rest []
same_bytes (Value ∷ rest) (v ∷ values) = ap (λ z. signed_decimal v ++ z) (same_bytes rest values)

text_bytes : (format : List ℕ) (text : List texts.Piece) (values : List ℤ) → IsTextOf format text
    → printed text values ≡ text_of format values
text_bytes format text values is = cut (pieces_of format) is
  where
    cut : (pieces : Option (List Piece)) → option_map (map text_piece) pieces ≡ Some text
        → printed text values ≡ unwrap_or (option_map (λ p. written p values) pieces) []
    cut None is = absurd cc
    cut (Some p) is = let same : map text_piece p ≡ text = cc is in ap (λ z. printed z values) (sym same)
        ∙ same_bytes p values

text_at : (formats : List (List ℕ)) (all : List (List texts.Piece)) (format : List ℕ) → AllZip IsTextOf formats all
    → list_any (bytes_eq format) formats ≡ true
    → (text : List texts.Piece) × (slice_get all (number_in (bytes_eq format) formats) ≡ Some text)
    × IsTextOf format text
text_at [] all format zip e = absurd cc
text_at (f ∷ fs) [] format zip e = absurd zip
text_at (f ∷ fs) (t ∷ ts) format zip e = first (bytes_eq format f) refl e (text_at fs ts format zip.1)
  where
    first : (b : Bool) → bytes_eq format f ≡ b → (b || list_any (bytes_eq format) fs) ≡ true
        → (list_any (bytes_eq format) fs ≡ true → (text : List texts.Piece)
        × (slice_get ts (number_in (bytes_eq format) fs) ≡ Some text) × IsTextOf format text)
        → (text : List texts.Piece) × (slice_get (t ∷ ts) (if b then 0 else number_in (bytes_eq format) fs + 1)
        ≡ Some text) × IsTextOf format text
    first true same e rest = (t, refl, subst (λ z. IsTextOf z t) (sym ((bytes_eq-Decides format f).0 same)) zip.0)
    first false same e rest =
        let found = rest e in
        let next : number_in (bytes_eq format) fs + 1 ≡ suc (number_in (bytes_eq format) fs) = omega arith in
        (found.0, ap (λ z. slice_get (t ∷ ts) z) next ∙ found.1, found.2)

pub bytes_of : (formats : List (List ℕ)) (all : List (List texts.Piece)) (format : List ℕ) (values : List ℤ)
    → AllZip IsTextOf formats all
    → list_any (bytes_eq format) formats ≡ true
    → printed (unwrap_or (slice_get all (number_in (bytes_eq format) formats)) []) values ≡ text_of format values
bytes_of formats all format values zip e =
    let text = text_at formats all format zip e in
    ap (λ z. printed (unwrap_or z []) values) text.1 ∙ text_bytes format text.0 values text.2

-- ---- values on the stack

-- values on operands, the last on top
abbrev pub with_ints : List ℤ → List Operand → List Operand
with_ints [] s = s
with_ints (v ∷ values) s = with_ints values (with_int v s)

abbrev as_int : ℤ → Operand
as_int v = operand.Int v

stack_long : (values : List ℤ) (s : List Operand) → length (with_ints values s) ≡ length values + length s
stack_long [] s = omega arith
stack_long (v ∷ values) s = let e = stack_long values (with_int v s) in omega (arith, e)

-- from the bottom
below : List ℤ → List Operand
below values = reverse (map as_int values)

stacked : (values : List ℤ) (s : List Operand) → with_ints values s ≡ below values ++ s
unfolding below
stacked [] s = refl
stacked (v ∷ values) s =
    stacked values (with_int v s)
    ∙ sym (append_assoc (reverse (map as_int values)) (as_int v ∷ []) s)
    ∙ ap (λ z. z ++ s) (sym (reverse-append (as_int v ∷ []) (map as_int values)))

below_long : (values : List ℤ) → length (below values) ≡ length values
unfolding below
below_long values = length-reverse (map as_int values) ∙ length-map values as_int

ints_all : (values : List ℤ) → ints (map as_int values) ≡ Some values
ints_all [] = refl
ints_all (v ∷ values) = ap (λ z. option_map (λ vs. v ∷ vs) z) (ints_all values)

-- what was pushed is on the stack, and what was there before stands below it
pub ints_there : (values : List ℤ) (s : List Operand) → ints_on (length values) (with_ints values s) ≡ Some values
unfolding below
ints_there values s =
    let enough : nat_le (length values) (length (with_ints values s)) ≡ true = le-leb (length values)
    (length (with_ints values s)) (omega (arith, stack_long values s)) in
    let front : take (length values) (with_ints values s) ≡ below values =
    ap (λ z. take (length values) z) (stacked values s) ∙ ap (λ n. take n (below values ++ s))
    (sym (below_long values)) ∙ take-append_seam (below values) s in
    ap (λ b. if b then ints (reverse (take (length values) (with_ints values s))) else None) enough
    ∙ ap (λ z. ints (reverse z)) front ∙ ap ints (reverse-reverse (map as_int values)) ∙ ints_all values

pub rest_there : (values : List ℤ) (s : List Operand) → drop (length values) (with_ints values s) ≡ s
rest_there values s =
    ap (λ z. drop (length values) z) (stacked values s) ∙ ap (λ n. drop n (below values ++ s))
    (sym (below_long values)) ∙ drop-append_seam (below values) s

-- ---- the turn of PRINT

-- the frame behind PRINT
abbrev written_out : ℕ → World → List ℕ → List Operand → FrameTurn
written_out p w bytes rest = frames.Onward (record {
  place = p + 1;
  operands = rest;
  slots = w.slots;
  globals = w.globals;
  output = w.output ++ bytes;
})

pub prints : (raw : Raw) (slots : List Slot) (formats : List (List ℕ)) (format : List ℕ) (values : List ℤ)
    (count p : ℕ) (s : List Operand) (w : World)
    → AllZip IsTextOf formats raw.texts → list_any (bytes_eq format) formats ≡ true → length values ≡ count
    → turn_on raw slots (i.Serial (serials.Print (number_in (bytes_eq format) formats) count)) p (with_ints values s) w
    ≡ frames.Onward (frame (p + 1) s (print format values w))
prints raw slots formats format values count p s w zip there long =
    subst (λ n. turn_on raw slots (i.Serial (serials.Print (number_in (bytes_eq format) formats) n)) p (with_ints values s) w
    ≡ frames.Onward (frame (p + 1) s (print format values w))) long
    (ap (λ z. acted raw (frame p (with_ints values s) w) (frames.print (number_in (bytes_eq format) formats)
    (length values) z)) (ints_there values s)
    ∙ ap (λ z. written_out p w (printed (unwrap_or (slice_get raw.texts (number_in (bytes_eq format) formats)) [])
    (unwrap_or z [])) (drop (length values) (with_ints values s)))
    (ints_there values s)
    ∙ ap (λ z. written_out p w z (drop (length values) (with_ints values s))) (bytes_of formats raw.texts format
    values zip there)
    ∙ ap (λ z. written_out p w (text_of format values) z) (rest_there values s))

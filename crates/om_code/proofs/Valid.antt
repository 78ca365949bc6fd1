-- What valid code says of one body and of one instruction.
use Rattle.std.proofs.Common.{◌≡◌, ℕ, get_or, ◌<◌, List, length, Option, Some, None, slice_get, subst, option_and_then}
use Rattle.std.proofs.Common.{unwrap_or, option_map, [], sym, refl, ◌∙◌}
use Rattle.std.specs.Prelude.{All}
use Rattle.std.proofs.lemmas.Option.{slice_get-get_or, slice_get_within}
use Rattle.om_code.specs.declared.raw.Body.{Body}
use Rattle.om_code.specs.declared.raw.Line.{Line}
use Rattle.om_code.specs.declared.raw.Raw.{Raw}
use Rattle.om_code.specs.Places.{at_place, slots_of}
use Rattle.om_code.specs.Validity.{IsValid, IsValidBody, NamesKnown}

-- an element that is found is one of all
of_all : {X : Type 0} (P : X → Type 0) (xs : List X) (k : ℕ) (x : X) → All P xs → slice_get xs k ≡ Some x → P x
of_all P xs k x all is =
    let lt : k < length xs = slice_get_within xs k x is in
    let same : Some (get_or xs k x) ≡ Some x = sym (slice_get-get_or xs k x lt) ∙ is in
    let e : get_or xs k x ≡ x = cc in
    subst P e (all k x lt)

-- a body of valid code is valid
pub body_valid : (raw : Raw) (number : ℕ) (body : Body) → IsValid raw → slice_get raw.bodies number ≡ Some body
    → IsValidBody raw body
body_valid raw number body valid is = of_all (λ b. IsValidBody raw b) raw.bodies number body valid.bodies is

-- what an instruction of valid code names exists
pub names_known : (raw : Raw) (body : Body) (at : ℕ) (line : Line) → IsValidBody raw body → slice_get body.code at
    ≡ Some line → NamesKnown raw body.slots line.instruction
names_known raw body at line valid is = of_all (λ l. NamesKnown raw body.slots l.instruction) body.code at line
    valid.known.names is

-- what the instruction at a place names exists
pub known_at : (raw : Raw) (number at : ℕ) (line : Line) → IsValid raw → at_place raw number at ≡ Some line
    → NamesKnown raw (slots_of raw number) line.instruction
known_at raw number at line valid is = in_body (slice_get raw.bodies number) (λ body e. body_valid raw number body
    valid e) is
  where
    in_body : (found : Option Body) → ((body : Body) → found ≡ Some body → IsValidBody raw body) → option_and_then
        (λ b. slice_get b.code at) found ≡ Some line → NamesKnown raw (unwrap_or (option_map (λ b. b.slots) found)
        []) line.instruction
    in_body None valid' e = cc
    in_body (Some body) valid' e = names_known raw body at line (valid' body refl) e

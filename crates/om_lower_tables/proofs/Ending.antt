-- A table that is filled: the numbers behind a body take the place of what was put there for them.
use Rattle.std.proofs.Common.{◌≡◌, ◌<◌, ℕ, zero, suc, List, [], ◌∷◌, ◌++◌, length, map, refl, sym, ap, ◌∙◌, arith}
use Rattle.std.specs.Prelude.{set}
use Rattle.std.proofs.Math.Seq.{set-append_seam}
use Rattle.std.proofs.lemmas.List.{append_assoc, length-append, length-map, map-append}
use Rattle.om_lower_rules.specs.Bodies.{Numbers}
use Rattle.om_lower_rules.specs.declared.tables.Numbers as tables
use Rattle.om_lower_rules.specs.Numbering.{numbers_of}

map_set : (xs : List tables.Numbers) (i : ℕ) (x : tables.Numbers)
    → map numbers_of (set xs i x) ≡ set (map numbers_of xs) i (numbers_of x)
map_set [] i x = refl
map_set (y ∷ xs) zero x = refl
map_set (y ∷ xs) (suc i) x = ap (λ rest. numbers_of y ∷ rest) (map_set xs i x)

pub end_placed : (old pushed noted new : List tables.Numbers) (inner behind_it : tables.Numbers) (k : ℕ)
    (n : Numbers) (rest : List Numbers)
    → k ≡ length old → pushed ≡ old ++ inner ∷ []
    → map numbers_of noted ≡ map numbers_of pushed ++ rest → new ≡ set noted k behind_it
    → numbers_of behind_it ≡ n
    → map numbers_of new ≡ map numbers_of old ++ n ∷ rest
end_placed old pushed noted new inner behind_it k n rest at first filled same is =
    let seen = map numbers_of old in
    let whole : map numbers_of noted ≡ seen ++ numbers_of inner ∷ rest =
    filled ∙ ap (λ all. map numbers_of all ++ rest) first ∙ ap (λ all. all ++ rest) (map-append numbers_of old (inner ∷ []))
    ∙ append_assoc seen (numbers_of inner ∷ []) rest in
    ap (λ all. map numbers_of all) same ∙ map_set noted k behind_it
    ∙ ap (λ all. set all k (numbers_of behind_it)) whole
    ∙ ap (λ i. set (seen ++ numbers_of inner ∷ rest) i (numbers_of behind_it)) (at ∙ sym (length-map old numbers_of))
    ∙ set-append_seam seen (numbers_of inner) rest (numbers_of behind_it)
    ∙ ap (λ x. seen ++ x ∷ rest) is

-- there is a place for them
pub end_there : (old pushed noted : List tables.Numbers) (inner : tables.Numbers) (k : ℕ) (rest : List Numbers)
    → k ≡ length old → pushed ≡ old ++ inner ∷ []
    → map numbers_of noted ≡ map numbers_of pushed ++ rest → k < length noted
end_there old pushed noted inner k rest at first filled =
    let seen = sym (length-map noted numbers_of) ∙ ap (λ all. length all) filled
    ∙ length-append (map numbers_of pushed) rest in
    let pushed_long = length-map pushed numbers_of ∙ ap (λ all. length all) first ∙ length-append old (inner ∷ []) in
    omega (arith, at, seen, pushed_long)

-- The place of the last call, and the numbers of seats.
use Rattle.std.specs.Prelude.{◌≡◌, ◌+◌, ℕ, zero, suc, List, [], ◌∷◌, ◌++◌, length, map, slice_get, Some, refl}
use Rattle.std.proofs.Common.{◌∙◌, ap, sym, arith}
use Rattle.om_book.specs.Seats.{SeatView}
use Rattle.om_book.specs.Standing.{number_of}
use Rattle.om_book.specs.declared.receipt.Receipt.{Receipt}
use Rattle.om_drive.specs.Calls.{Place, place_of, last_place_in}

last_of : (rs : List Receipt) (r : Receipt) → last_place_in (rs ++ r ∷ []) ≡ Some r.place
last_of [] r = refl
last_of (x ∷ []) r = refl
last_of (x ∷ y ∷ rest) r = last_of (y ∷ rest) r

pub last_made : (made before : List Receipt) (r : Receipt) → made ≡ before ++ r ∷ [] → last_place_in made ≡ Some r.place
last_made made before r e = ap last_place_in e ∙ last_of before r

pub last_at : (rs : List Receipt) (n : ℕ) (r : Receipt) → length rs ≡ n + 1 → slice_get rs n ≡ Some r
    → last_place_in rs ≡ Some r.place
last_at [] n r long e = absurd (omega (arith, long))
last_at (x ∷ []) zero r long e = cc
last_at (x ∷ []) (suc n) r long e = absurd (omega (arith, long))
last_at (x ∷ y ∷ rest) zero r long e = absurd (omega (arith, long))
last_at (x ∷ y ∷ rest) (suc n) r long e = last_at (y ∷ rest) n r (omega (arith, long)) e

numbers_in : (workers : ℕ) (ss : List SeatView) → map (λ (p : Place). p.number) (map (place_of workers) ss)
    ≡ map number_of ss
numbers_in workers [] = refl
numbers_in workers (s ∷ ss) = ap (λ ns. s.number ∷ ns) (numbers_in workers ss)

-- seats at the same places have the same numbers
pub numbers_same : (workers : ℕ) (ss ts : List SeatView) → map (place_of workers) ss ≡ map (place_of workers) ts
    → map number_of ss ≡ map number_of ts
numbers_same workers ss ts e = sym (numbers_in workers ss) ∙ ap (λ ps. map (λ (p : Place). p.number) ps) e
    ∙ numbers_in workers ts

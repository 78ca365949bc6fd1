-- Binary searches for constructs by their depths.
use Rattle.std.specs.Prelude.{nat_lt}
use Rattle.std.proofs.Common.{◌≡◌, ℕ, zero, suc, ◌-◌, ◌<◌, ◌≤◌, Bool, true, false, List, [], ◌∷◌, ◌++◌, Option, None}
use Rattle.std.proofs.Common.{Some, if◌then◌else◌, length, get_or, refl, sym, ap, ◌∙◌, arith, Bor, leb}
use Rattle.std.proofs.lemmas.Bool.{leb-false, leb-true, le-ltb, lt-ltb}
use Rattle.std.proofs.lemmas.Option.{slice_get-get_or, slice_get_past, slice_get_read}
use Rattle.std.proofs.lemmas.List.{get_or_push, length_push}
use Rattle.std.proofs.lemmas.List.Sorted.{IsNonDecreasingBy-push}
use Rattle.std.specs.List.{slice_get}
use Rattle.std.specs.List.Sorted.{IsPartitionPoint}
use Rattle.std.specs.Option.{option_copied, option_or}
use Rattle.std.specs.Slice.{IsItemAt}
use Rattle.om_scope_symbols.specs.declared.landmark.Landmark.{Landmark}
use Rattle.om_scope_symbols.specs.Landmarks.{Descend, IsCountWithin, first_deeper, last_within}

-- ---- the place that a binary search finds

-- from what a binary search by this test answers
pub searched-place : (landmarks : List Landmark) (depth place : ℕ) → IsPartitionPoint
    (λ landmark. leb landmark.depth depth ≡ true) (λ landmark. leb landmark.depth depth ≡ false) landmarks place
    → IsCountWithin landmarks depth place
searched-place landmarks depth place is = (
  λ k d le lt. leb-true _ _ (is.0 k d le lt),
  λ k d le lt. leb-false _ _ (is.1 k d le lt),
)

place-inner : (first : Landmark) (inner : List Landmark) (depth place : ℕ) → IsCountWithin (first ∷ inner) depth
    (suc place) → IsCountWithin inner depth place
place-inner first inner depth place is = (
  λ k d le lt. is.0 (suc k) d (omega arith) (omega (arith, lt)),
  λ k d le lt. is.1 (suc k) d (omega (arith, le)) (omega (arith, lt)),
)

within-first : (first : Landmark) (inner : List Landmark) (depth place : ℕ) → IsCountWithin (first ∷ inner) depth
    (suc place) → nat_lt depth first.depth ≡ false
within-first first inner depth place is = le-ltb depth first.depth
    (is.0 0 first (omega arith) (omega arith))

-- what stands at an index
pub lent : (landmarks : List Landmark) (index : ℕ) (found : Option (Bor Landmark)) → IsItemAt landmarks index found
    → option_copied found ≡ slice_get landmarks index
lent landmarks index None is = sym (slice_get_past landmarks index is.3)
lent landmarks index (Some item) is = sym (slice_get_read landmarks (length landmarks) index item.now refl is.3.0 is.1)

pub first-found : (landmarks : List Landmark) (place depth : ℕ) → IsCountWithin landmarks depth place
    → slice_get landmarks place ≡ first_deeper landmarks depth
first-found [] place depth is = refl
first-found (first ∷ inner) zero depth is = sym (ap (λ b. if b then Some first else first_deeper inner depth)
    (lt-ltb depth first.depth (is.1 0 first (omega arith) (omega arith))))
first-found (first ∷ inner) (suc place) depth is = first-found inner place depth (place-inner first inner depth
    place is) ∙ sym (ap (λ b. if b then Some first else first_deeper inner depth)
    (within-first first inner depth place is))

pub none-found : (landmarks : List Landmark) (depth : ℕ) → IsCountWithin landmarks depth 0 → last_within landmarks depth
    ≡ None
none-found [] depth is = refl
none-found (first ∷ inner) depth is =
    ap (λ b. option_or (last_within inner depth) (if b then None else Some first))
    (lt-ltb depth first.depth (is.1 0 first (omega arith) (omega arith)))
    ∙ ap (λ found. option_or found None) (none-found inner depth (
      λ k d le lt. absurd (omega (arith, lt)),
      λ k d le lt. is.1 (suc k) d (omega arith) (omega (arith, lt)),
    ))

last-there : (landmarks : List Landmark) (place depth : ℕ) → IsCountWithin landmarks depth (suc place)
    → place < length landmarks → slice_get landmarks place ≡ last_within landmarks depth
last-there [] place depth is lt = absurd (omega (arith, lt))
last-there (first ∷ inner) zero depth is lt =
    sym (ap (λ found. option_or found (if nat_lt depth first.depth then None else Some first))
    (none-found inner depth (place-inner first inner depth 0 is)) ∙ ap (λ b. if b then None else Some first)
    (within-first first inner depth 0 is))
last-there (first ∷ inner) (suc place) depth is lt =
    let there = slice_get-get_or inner place first (omega (arith, lt)) in
    there ∙ sym (ap (λ found. option_or found (if nat_lt depth first.depth then None else Some first))
    (sym (last-there inner place depth (place-inner first inner depth (suc place) is) (omega (arith, lt))) ∙ there))

pub last-found : (landmarks : List Landmark) (count depth : ℕ) → IsCountWithin landmarks depth count → 0 < count
    → count ≤ length landmarks → slice_get landmarks (count - 1) ≡ last_within landmarks depth
last-found landmarks zero depth is some le = absurd (omega (arith, some))
last-found landmarks (suc place) depth is some le =
    let before : suc place - 1 ≡ place = omega arith in
    ap (slice_get landmarks) before ∙ last-there landmarks place depth is le

-- ---- one more, that stands deeper

pub first-push : (landmarks : List Landmark) (last : Landmark) (depth : ℕ) → first_deeper (landmarks ++ last ∷ [])
    depth ≡ option_or (first_deeper landmarks depth) (if nat_lt depth last.depth then Some last else None)
first-push [] last depth = refl
first-push (first ∷ inner) last depth = by (nat_lt depth first.depth) (first-push inner last depth)
  where
    by : (b : Bool) → first_deeper (inner ++ last ∷ []) depth ≡ option_or (first_deeper inner depth)
        (if nat_lt depth last.depth then Some last else None)
        → (if b then Some first else first_deeper (inner ++ last ∷ []) depth) ≡ option_or
        (if b then Some first else first_deeper inner depth) (if nat_lt depth last.depth then Some last else None)
    by true rest = refl
    by false rest = rest

pub last-push : (landmarks : List Landmark) (last : Landmark) (depth : ℕ) → last_within (landmarks ++ last ∷ [])
    depth ≡ option_or (if nat_lt depth last.depth then None else Some last) (last_within landmarks depth)
last-push [] last depth = by (if nat_lt depth last.depth then None else Some last)
  where
    by : (found : Option Landmark) → found ≡ option_or found None
    by None = refl
    by (Some l) = refl
last-push (first ∷ inner) last depth =
    ap (λ found. option_or found (if nat_lt depth first.depth then None else Some first)) (last-push inner last depth)
    ∙ by (if nat_lt depth last.depth then None else Some last)
  where
    by : (found : Option Landmark) → option_or (option_or found (last_within inner depth))
        (if nat_lt depth first.depth then None else Some first) ≡ option_or found
        (option_or (last_within inner depth) (if nat_lt depth first.depth then None else Some first))
    by None = refl
    by (Some l) = refl

-- ---- each stands deeper than the one before

-- and none deeper than so
abbrev pub DescendTo : List Landmark → ℕ → Type 0
DescendTo landmarks end = Descend landmarks × ((k : ℕ) (d : Landmark) → k < length landmarks
    → (get_or landmarks k d).depth ≤ end)

pub descend-none : (end : ℕ) → DescendTo [] end
descend-none end = (λ i j d le lt. absurd (omega (arith, lt)), λ k d lt. absurd (omega (arith, lt)))

-- with one more, or without it
pub descend-next : (more : Bool) (landmarks : List Landmark) (last : Landmark) (before end : ℕ) → DescendTo
    landmarks before → before ≤ last.depth → last.depth ≤ end
    → DescendTo (if more then landmarks ++ last ∷ [] else landmarks) end
descend-next true landmarks last before end descend le within =
    let all : Descend (landmarks ++ last ∷ []) = IsNonDecreasingBy-push (λ l. l.depth) landmarks last descend.0
    (λ d some. omega (arith, descend.1 (length landmarks - 1) d (omega (arith, some)), le)) in (
      all,
      λ k d lt. let count = length_push landmarks last in omega (
        arith,
        all k (length landmarks) d (omega (arith, lt, count)) (omega (arith, count)),
        ap (λ l. l.depth) (get_or_push landmarks last d (length landmarks) refl),
        within,
      ),
    )
descend-next false landmarks last before end descend le within = (
  descend.0,
  λ k d lt. omega (arith, descend.1 k d lt, le, within),
)

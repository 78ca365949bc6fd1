-- Where a place stands, where an earlier one is known.
use Rattle.std.proofs.Common.{◌≡◌, ℕ, ◌+◌, ◌-◌, ◌≤◌, List, [], ◌∷◌, ◌++◌, ◌==◌, cond, if◌then◌else◌, take, drop, length, refl, sym, ap, ◌∙◌, arith, length-drop, take_all, take-add}
use Rattle.std.proofs.lemmas.List.{length-take-le, length-take}
use Rattle.std.proofs.lemmas.List.Sums.{sum_by-append, sum_by-take-le, count_by-le-length}
use Rattle.lab_port.specs.Written.{line_feeds}
use Rattle.lab_port.specs.Places.{line_of, front_behind, front_of}

-- what a slice from a place on has
pub slice_from : (source : List ℕ) (at : ℕ) → take (length source - at) (drop at source) ≡ drop at source
slice_from source at =
    take_all (length source - at) (drop at source) (let h = length-drop at source in omega (arith, h))

-- what stands before a later place
taken_to : (source : List ℕ) (from to : ℕ) → from ≤ to
    → take to source ≡ take from source ++ take (to - from) (drop from source)
taken_to source from to below =
    let same : to ≡ from + (to - from) = omega arith in
    ap (λ k. take k source) same ∙ take-add from (to - from) source

pub between_size : (source : List ℕ) (from to : ℕ) → from ≤ to → to ≤ length source
    → length (take (to - from) (drop from source)) ≡ to - from
between_size source from to below inside =
    length-take-le (to - from) (drop from source) (let h = length-drop from source in omega (arith, h, below, inside))

-- the line of a later place
pub line_on : (source : List ℕ) (from to line : ℕ) → from ≤ to
    → line ≡ line_of source from
    → line + line_feeds (take (to - from) (drop from source)) ≡ line_of source to
line_on source from to line below here =
    let all = sum_by-append (λ byte. cond (byte == 10) 1 0) (take from source) (take (to - from) (drop from source)) in
    omega (arith, all, here, ap line_feeds (taken_to source from to below))

-- there are no more line feeds than bytes
pub line_inside : (source : List ℕ) (at : ℕ) → line_of source at ≤ length source + 1
line_inside source at =
    let some = sum_by-take-le (λ byte. cond (byte == 10) 1 0) source at in
    let all = count_by-le-length (λ byte. byte == 10) source in
    omega (arith, some, all)

front_append : (size : ℕ) (xs ys : List ℕ) → front_behind size (xs ++ ys) ≡ front_behind (front_behind size xs) ys
front_append size [] ys = refl
front_append size (b ∷ rest) ys = front_append (if b == 10 then 0 else size + 1) rest ys

-- what stands before a later place on its line
pub front_on : (source : List ℕ) (from to front : ℕ) → from ≤ to
    → front ≡ front_of source from
    → front_behind front (take (to - from) (drop from source)) ≡ front_of source to
front_on source from to front below here =
    ap (λ k. front_behind k (take (to - from) (drop from source))) here
    ∙ sym (front_append 0 (take from source) (take (to - from) (drop from source)))
    ∙ ap (front_behind 0) (sym (taken_to source from to below))

front_size : (size : ℕ) (bytes : List ℕ) → front_behind size bytes ≤ size + length bytes
front_size size [] = omega arith
front_size size (b ∷ rest) = grind (arith, front_size 0 rest, front_size (size + 1) rest)

pub front_inside : (source : List ℕ) (at : ℕ) → front_of source at ≤ at
front_inside source at =
    let size = front_size 0 (take at source) in
    let few = length-take at source in
    grind (arith, size, few)

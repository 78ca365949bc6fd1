-- Changes of height, as moves along a tape.
use Rattle.std.proofs.Common.{◌≡◌, ◌∙◌, sym, ap, refl, ℕ, ◌+◌, ◌-◌, ◌<◌, ◌≤◌, List, [], ◌∷◌, ◌++◌, length, take}
use Rattle.std.proofs.Common.{drop, reverse, Some, None, slice_get, unwrap_or, map, arith, take-append-drop}
use Rattle.std.proofs.Common.{length-take-le, length-drop}
use Rattle.std.proofs.lemmas.List.{get_or-reverse, map-append, drop-take, take-take, drop-drop, drop_at, take_at}
use Rattle.std.proofs.lemmas.List.{drop_all, length-reverse, reverse-append, reverse-reverse}
use Rattle.std.proofs.lemmas.Option.{slice_get-get_or, slice_get_past}
use Rattle.om_memory.specs.Tapes.{TapeView, tape_at, lowered, raised, pushed, unpushed}

same_tape : {T : Type 0} → (a b c d : List T) → a ≡ b → c ≡ d
    → ◌≡◌ {A = TapeView T} (record { items = a; taken = c }) (record { items = b; taken = d })
same_tape a b c d e f = rw (e, f) refl

take_sum : {T : Type 0} → (m n : ℕ) (xs : List T) → take (m + n) xs ≡ take m xs ++ take n (drop m xs)
take_sum m n xs = sym (take-append-drop m (take (m + n) xs)) ∙ rw (
  take-take m (m + n) xs (omega arith),
  drop-take m n xs,
) refl

length_between : {T : Type 0} → (m n : ℕ) (xs : List T) → m + n ≤ length xs → length (take n (drop m xs)) ≡ n
length_between m n xs h = length-take-le n (drop m xs) (rw (length-drop m xs) (omega (arith, h)))

reverse_sum : {T : Type 0} → (m n : ℕ) (xs : List T) → reverse (take (m + n) xs)
    ≡ reverse (take n (drop m xs)) ++ reverse (take m xs)
reverse_sum m n xs = ap reverse (take_sum m n xs) ∙ reverse-append (take m xs) (take n (drop m xs))

length_reversed : {T : Type 0} → (m n : ℕ) (xs : List T) → m + n ≤ length xs
    → length (reverse (take n (drop m xs))) ≡ n
length_reversed m n xs h = length-reverse (take n (drop m xs)) ∙ length_between m n xs h

pub lowered_items : {T : Type 0} → (m n : ℕ) (xs : List T) → m + n ≤ length xs
    → reverse (take m xs) ≡ drop n (reverse (take (m + n) xs))
lowered_items m n xs h = sym (ap (drop n) (reverse_sum m n xs)
    ∙ drop_at (reverse (take n (drop m xs))) (reverse (take m xs)) n (length_reversed m n xs h))

lowered_taken : {T : Type 0} → (m n : ℕ) (xs : List T) → m + n ≤ length xs
    → drop m xs ≡ reverse (take n (reverse (take (m + n) xs))) ++ drop (m + n) xs
lowered_taken m n xs h =
    sym (rw (
      reverse_sum m n xs,
      take_at (reverse (take n (drop m xs))) (reverse (take m xs)) n
          (length_reversed m n xs h),
      reverse-reverse (take n (drop m xs)),
      ← drop-drop n m xs,
    ) (take-append-drop n (drop m xs)))

pub lowered_at : {T : Type 0} → (m n : ℕ) (xs : List T) → m + n ≤ length xs
    → tape_at m xs ≡ lowered n (tape_at (m + n) xs)
lowered_at m n xs h = same_tape _ _ _ _ (lowered_items m n xs h) (lowered_taken m n xs h)

pub raised_at : {T : Type 0} → (m n : ℕ) (xs : List T) → tape_at (m + n) xs ≡ raised n (tape_at m xs)
raised_at m n xs = same_tape _ _ _ _ (reverse_sum m n xs) (sym (drop-drop n m xs))

-- a height lowered by some of what stands
pub lowered_by : {T : Type 0} → (h n : ℕ) (xs : List T) → h ≤ length xs → n ≤ length (reverse (take h xs))
    → tape_at (h - n) xs ≡ lowered n (tape_at h xs)
lowered_by {T = T} h n xs fits few =
    let within : n ≤ h = omega (arith, rw (length-reverse (take h xs), length-take-le h xs fits) at few) in
    let whole : (h - n) + n ≡ h = omega (arith, within) in
    rw whole at (lowered_at {T = T} (h - n) n xs (rw whole fits))

-- the last push into new room, taken back
pub unpushed_at : {T : Type 0} → (h : ℕ) (xs : List T) → 0 < length (reverse (take h xs)) → h ≤ length xs
    → drop h xs ≡ [] → tape_at (h - 1) (take (h - 1) xs) ≡ unpushed None (tape_at h xs)
unpushed_at {T = T} h xs some fits none =
    let within : 0 < h = omega (arith, rw (length-reverse (take h xs), length-take-le h xs fits) at some) in
    let whole : (h - 1) + 1 ≡ h = omega (arith, within) in
    same_tape _ _ _ _
    (ap reverse (take-take (h - 1) (h - 1) xs (omega arith)) ∙ (rw whole at (lowered_items {T = T} (h - 1) 1 xs
    (rw whole fits))))
    (drop_all (h - 1) (take (h - 1) xs) (rw (length-take-le (h - 1) xs (omega (arith, fits))) (omega arith))
    ∙ sym none)

-- what was lowered is raised again
pub raised_lowered : {T : Type 0} → (n : ℕ) (t : TapeView T) → n ≤ length t.items → raised n (lowered n t) ≡ t
raised_lowered n t few =
    let count : length (reverse (take n t.items)) ≡ n = length-reverse (take n t.items)
    ∙ length-take-le n t.items few in
    let count_again : length (reverse (reverse (take n t.items))) ≡ n = length-reverse (reverse (take n t.items))
    ∙ count in
    same_tape _ _ _ _
    (rw (take_at (reverse (take n t.items)) t.taken n count, reverse-reverse (take n t.items))
    (take-append-drop n t.items))
    (drop_at (reverse (take n t.items)) t.taken n count)

-- what was pushed is taken back
pub unpushed_pushed : {T : Type 0} → (x : T) (items taken : List T)
    → unpushed (slice_get taken 0) (pushed x (record { items = items; taken = taken }))
    ≡ record { items = items; taken = taken }
unpushed_pushed x items [] = refl
unpushed_pushed x items (y ∷ ys) = refl

-- the top that was swapped down is swapped up again
pub top_again : {T : Type 0} → (x : T) (xs : List T) → Some x ≡ slice_get xs 0 → x ∷ drop 1 xs ≡ xs
top_again x [] e = grind (arith, e)
top_again x (y ∷ ys) e = grind (arith, e)

-- two values that are the same item
pub same_item : {T : Type 0} → (x y : T) → Some x ≡ Some y → x ≡ y
same_item x y e = ap (λ o. unwrap_or o x) e

-- a map of items turned round
pub map_reversed : {A B : Type 0} → (f : A → B) (xs : List A) → map f (reverse xs) ≡ reverse (map f xs)
map_reversed f [] = refl
map_reversed f (x ∷ xs) =
    ap (map f) (reverse-append (x ∷ []) xs)
    ∙ map-append f (reverse xs) (x ∷ [])
    ∙ ap (λ l. l ++ f x ∷ []) (map_reversed f xs)
    ∙ sym (reverse-append (f x ∷ []) (map f xs))

-- items from the top down, kept with the top last

at_some : {T : Type 0} (xs : List T) (d : T) (k : ℕ) → k < length xs
    → slice_get (reverse xs) k ≡ slice_get xs (length xs - 1 - k)
at_some xs d k h =
    slice_get-get_or (reverse xs) k d (omega (arith, h, length-reverse xs))
    ∙ ap Some (get_or-reverse xs k d h)
    ∙ sym (slice_get-get_or xs (length xs - 1 - k) d (omega (arith, h)))

pub at_depth : {T : Type 0} (xs : List T) (k : ℕ) → k < length xs
    → slice_get (reverse xs) k ≡ slice_get xs (length xs - 1 - k)
at_depth [] k h = cc
at_depth (x ∷ xs) k h = at_some (x ∷ xs) x k h

pub past_depth : {T : Type 0} (xs : List T) (k : ℕ) → length xs ≤ k → slice_get (reverse xs) k ≡ None
past_depth xs k h = slice_get_past (reverse xs) k (omega (arith, h, length-reverse xs))

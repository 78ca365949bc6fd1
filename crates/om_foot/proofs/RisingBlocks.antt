-- Blocks in a list, by rising numbers: what is found, added and taken out.
use Rattle.std.proofs.Common.{◌≡◌, refl, sym, ◌∙◌, ap, subst, Bool, true, false, cond, ℕ, zero, suc, ◌<◌, ◌≤◌, nat_lt, nat_eq, arith}
use Rattle.std.proofs.Common.{Option, None, Some, [], ◌∷◌, ◌++◌, length, get_or}
use Rattle.std.specs.Prelude.{slice_get, slice_set, insert, remove, is_some}
use Rattle.std.specs.List.Sorted.{IsPartitionPoint, IsPartitionedBy}
use Rattle.std.specs.Ordering.{nat_cmp}
use Rattle.std.specs.BTreeMap.{is_at}
use Rattle.om_foot.specs.Blocks.{Numbered, block_of, AreBefore, AreRising}

at_is : (q n : ℕ) → is_at (nat_cmp q) n ≡ nat_eq n q
at_is q n = grind arith

-- a block before others
pub step : (b : ℕ × ℕ) (bs : Numbered) (q : ℕ) → block_of (b ∷ bs) q ≡ cond (nat_eq b.0 q) (Some b.1) (block_of bs q)
step b bs q = ap (λ t. cond t (Some b.1) (block_of bs q)) (at_is q b.0)

same-is : (n q : ℕ) → n ≡ q → nat_eq n q ≡ true
same-is n q e = grind (arith, e)

below-is : (n q : ℕ) → n < q → nat_eq n q ≡ false
below-is n q lt = grind (arith, lt)

above-is : (n q : ℕ) → q < n → nat_eq n q ≡ false
above-is n q lt = grind (arith, lt)

here : (b : ℕ × ℕ) (bs : Numbered) (q : ℕ) → b.0 ≡ q → block_of (b ∷ bs) q ≡ Some b.1
here b bs q e = step b bs q ∙ ap (λ t. cond t (Some b.1) (block_of bs q)) (same-is b.0 q e)

behind : (b : ℕ × ℕ) (bs : Numbered) (q : ℕ) → b.0 < q → block_of (b ∷ bs) q ≡ block_of bs q
behind b bs q lt = step b bs q ∙ ap (λ t. cond t (Some b.1) (block_of bs q)) (below-is b.0 q lt)

before : (b : ℕ × ℕ) (bs : Numbered) (q : ℕ) → q < b.0 → block_of (b ∷ bs) q ≡ block_of bs q
before b bs q lt = step b bs q ∙ ap (λ t. cond t (Some b.1) (block_of bs q)) (above-is b.0 q lt)

-- a number below all blocks has none
missing : (q low : ℕ) (bs : Numbered) → AreRising low bs → q < low → block_of bs q ≡ None
missing q low [] h lt = refl
missing q low (b ∷ bs) h lt = before b bs q (omega (arith, h.0, lt)) ∙ missing q (suc b.0) bs h.1 (omega (arith, h.0, lt))

-- ---- a search

-- the place of a number: all blocks before it are below, and the others are not
abbrev pub IsPlace : ℕ → Numbered → ℕ → Type 0
IsPlace number bs zero = AreRising number bs
IsPlace number [] (suc i) = ⊥
IsPlace number (b ∷ bs) (suc i) = (b.0 < number) × IsPlace number bs i

ordered-above : (low : ℕ) (bs : Numbered) (j : ℕ) (d : ℕ × ℕ) → AreRising low bs → j < length bs → low ≤ (get_or bs j d).0
ordered-above low [] j d h lt = absurd (omega (arith, lt))
ordered-above low (x ∷ xs) zero d h lt = h.0
ordered-above low (x ∷ xs) (suc j) d h lt =
    let above : suc x.0 ≤ (get_or xs j d).0 = ordered-above (suc x.0) xs j d h.1 (omega (arith, lt)) in
    omega (arith, above, h.0)

ordered : (low : ℕ) (bs : Numbered) (i j : ℕ) (d : ℕ × ℕ) → AreRising low bs → i ≤ j → j < length bs
    → (get_or bs i d).0 ≤ (get_or bs j d).0
ordered low [] i j d h le lt = absurd (omega (arith, lt))
ordered low (x ∷ xs) zero zero d h le lt = omega arith
ordered low (x ∷ xs) zero (suc j) d h le lt =
    let above : suc x.0 ≤ (get_or xs j d).0 = ordered-above (suc x.0) xs j d h.1 (omega (arith, lt)) in
    omega (arith, above)
ordered low (x ∷ xs) (suc i) zero d h le lt = absurd (omega (arith, le))
ordered low (x ∷ xs) (suc i) (suc j) d h le lt = ordered (suc x.0) xs i j d h.1 (omega (arith, le)) (omega (arith, lt))

parted : (number : ℕ) (bs : Numbered) → AreRising 0 bs → IsPartitionedBy (λ (b : ℕ × ℕ). nat_lt b.0 number) bs
parted number bs h = λ i j d le lt below.
    let no_higher : (get_or bs i d).0 ≤ (get_or bs j d).0 = ordered 0 bs i j d h le lt in
    let less : (get_or bs j d).0 < number = grind (arith, below) in
    let lower : (get_or bs i d).0 < number = omega (arith, no_higher, less) in
    grind (arith, lower)

placed : (low number : ℕ) (bs : Numbered) (i : ℕ) → AreRising low bs → i ≤ length bs
    → IsPartitionPoint (λ (b : ℕ × ℕ). nat_lt b.0 number ≡ true) (λ (b : ℕ × ℕ). nat_lt b.0 number ≡ false) bs i
    → IsPlace number bs i
placed low number [] zero h within parts = tt
placed low number [] (suc i) h within parts = absurd (omega (arith, within))
placed low number (x ∷ xs) zero h within parts =
    let no_less : nat_lt x.0 number ≡ false = parts.1 0 x (omega arith) (omega arith) in
    let from : number ≤ x.0 = grind (arith, no_less) in
    (from, h.1)
placed low number (x ∷ xs) (suc i) h within parts =
    let less : nat_lt x.0 number ≡ true = parts.0 0 x (omega arith) (omega arith) in
    let below : x.0 < number = grind (arith, less) in (
      below,
      placed (suc x.0) number xs i h.1 (omega (arith, within)) (
        λ k d le lt. parts.0 (suc k) d (omega arith) (omega (arith, lt)),
        λ k d le lt. parts.1 (suc k) d (omega (arith, le)) (omega (arith, lt)),
      ),
    )

-- the place that a binary search finds
pub found_place : (number : ℕ) (bs lent : Numbered) (i : ℕ) → lent ≡ bs → AreRising 0 bs → i ≤ length lent
    → (IsPartitionedBy (λ (b : ℕ × ℕ). nat_lt b.0 number) lent
    → IsPartitionPoint (λ (b : ℕ × ℕ). nat_lt b.0 number ≡ true) (λ (b : ℕ × ℕ). nat_lt b.0 number ≡ false) lent i)
    → IsPlace number bs i
found_place number bs lent i same h within parts =
    let rising : AreRising 0 lent = subst (AreRising 0) (sym same) h in
    subst (λ xs. IsPlace number xs i) same (placed 0 number lent i rising within (parts (parted number lent rising)))

-- the block at the place of a number is the first from there on
pub record IsFirstFrom (number : ℕ) (bs : Numbered) (b : ℕ × ℕ) : Type 0 where
  pub there : block_of bs b.0 ≡ Some b.1
  pub from : number ≤ b.0
  pub first : (q : ℕ) → number ≤ q → q < b.0 → block_of bs q ≡ None

pub first-at : (number : ℕ) (bs : Numbered) (i : ℕ) (b : ℕ × ℕ) → IsPlace number bs i → slice_get bs i ≡ Some b
    → IsFirstFrom number bs b
first-at number [] i b place at = cc
first-at number (x ∷ xs) zero b place at =
    let same : x ≡ b = cc in
    subst (IsFirstFrom number (x ∷ xs)) same (record {
      there = here x xs x.0 refl;
      from = place.0;
      first = λ q le lt. before x xs q lt ∙ missing q (suc x.0) xs place.1 (omega (arith, lt));
    })
first-at number (x ∷ xs) (suc i) b place at =
    let rest : IsFirstFrom number xs b = first-at number xs i b place.1 at in
    record {
      there = behind x xs b.0 (omega (arith, place.0, rest.from)) ∙ rest.there;
      from = rest.from;
      first = λ q le lt. behind x xs q (omega (arith, place.0, le)) ∙ rest.first q le lt;
    }

pub none-from : (number : ℕ) (bs : Numbered) (i : ℕ) → IsPlace number bs i → slice_get bs i ≡ None
    → (q : ℕ) → number ≤ q → block_of bs q ≡ None
none-from number [] i place at q le = refl
none-from number (x ∷ xs) zero place at q le = cc
none-from number (x ∷ xs) (suc i) place at q le =
    behind x xs q (omega (arith, place.0, le)) ∙ none-from number xs i place.1 at q le

-- ---- a block is added

swapped : (n m q : ℕ) (x y z : Option ℕ) → n < m
    → cond (nat_eq n q) x (cond (nat_eq m q) y z) ≡ cond (nat_eq m q) y (cond (nat_eq n q) x z)
swapped n m q x y z lt = go (nat_eq n q) refl
  where
    go : (b : Bool) → nat_eq n q ≡ b → cond b x (cond (nat_eq m q) y z) ≡ cond (nat_eq m q) y (cond b x z)
    go false is = refl
    go true is =
        let same : n ≡ q = grind (arith, is) in
        sym (ap (λ t. cond t y x) (above-is m q (omega (arith, lt, same))))

pub inserted : (number o : ℕ) (bs : Numbered) (i q : ℕ) → IsPlace number bs i
    → block_of (insert bs i (number, o)) q ≡ cond (nat_eq number q) (Some o) (block_of bs q)
inserted number o bs zero q place = step (number, o) bs q
inserted number o [] (suc i) q place = absurd place
inserted number o (x ∷ xs) (suc i) q place =
    step x (insert xs i (number, o)) q
    ∙ ap (λ t. cond (nat_eq x.0 q) (Some x.1) t) (inserted number o xs i q place.1)
    ∙ swapped x.0 number q (Some x.1) (Some o) (block_of xs q) place.0
    ∙ sym (ap (λ t. cond (nat_eq number q) (Some o) t) (step x xs q))

-- blocks that rise from a number, and do not have it, are above it
without-first : (number : ℕ) (bs : Numbered) → AreRising number bs → block_of bs number ≡ None → AreRising (suc number) bs
without-first number [] h none = tt
without-first number (x ∷ xs) h none = (decide (nat_eq x.0 number) refl, h.1)
  where
    decide : (b : Bool) → nat_eq x.0 number ≡ b → suc number ≤ x.0
    decide true is =
        let same : x.0 ≡ number = grind (arith, is) in
        let no : Some x.1 ≡ None = sym (here x xs number same) ∙ none in cc
    decide false is =
        let le : number ≤ x.0 = h.0 in grind (arith, is, le)

pub rising-insert : (low number o : ℕ) (bs : Numbered) (i : ℕ) → AreRising low bs → low ≤ number → IsPlace number bs i
    → block_of bs number ≡ None → AreRising low (insert bs i (number, o))
rising-insert low number o bs zero h le place none = (le, without-first number bs place none)
rising-insert low number o [] (suc i) h le place none = absurd place
rising-insert low number o (x ∷ xs) (suc i) h le place none = (
  h.0,
  rising-insert (suc x.0) number o xs i h.1 (omega (arith, place.0)) place.1
      (sym (behind x xs number place.0) ∙ none),
)

-- a number that all blocks are before has its place at the end
end-place : (low number : ℕ) (bs : Numbered) → AreRising low bs → AreBefore number bs → IsPlace number bs (length bs)
end-place low number [] h all = tt
end-place low number (x ∷ xs) h all = (
  below,
  end-place (suc x.0) number xs h.1 (λ q from.
      let le : number ≤ q = grind (arith, from) in
      sym (behind x xs q (omega (arith, below, le))) ∙ all q from),
)
  where
    decide : (b : Bool) → nat_lt x.0 number ≡ b → x.0 < number
    decide true is = grind (arith, is)
    decide false is = let no : Some x.1 ≡ None = sym (here x xs x.0 refl) ∙ all x.0 is in cc

    below : x.0 < number
    below = decide (nat_lt x.0 number) refl

insert-end : (bs : Numbered) (b : ℕ × ℕ) → insert bs (length bs) b ≡ bs ++ b ∷ []
insert-end [] b = refl
insert-end (x ∷ xs) b = ap (λ (ys : Numbered). x ∷ ys) (insert-end xs b)

pub pushed : (number o : ℕ) (bs : Numbered) (q : ℕ) → AreRising 0 bs → AreBefore number bs
    → block_of (bs ++ (number, o) ∷ []) q ≡ cond (nat_eq number q) (Some o) (block_of bs q)
pushed number o bs q h all = subst (λ ys. block_of ys q ≡ cond (nat_eq number q) (Some o) (block_of bs q))
    (insert-end bs (number, o)) (inserted number o bs (length bs) q (end-place 0 number bs h all))

pub rising-push : (number o : ℕ) (bs : Numbered) → AreRising 0 bs → AreBefore number bs
    → AreRising 0 (bs ++ (number, o) ∷ [])
rising-push number o bs h all = subst (AreRising 0) (insert-end bs (number, o))
    (rising-insert 0 number o bs (length bs) h (omega arith) (end-place 0 number bs h all)
    (all number (grind arith)))

-- ---- a block is replaced, or taken out

pub place-within : (number : ℕ) (bs : Numbered) (i : ℕ) → IsPlace number bs i → is_some (block_of bs number) ≡ true
    → i < length bs
place-within number [] i place some = cc
place-within number (x ∷ xs) zero place some = omega arith
place-within number (x ∷ xs) (suc i) place some =
    let rest : i < length xs = place-within number xs i place.1 (sym (ap is_some (behind x xs number place.0)) ∙ some) in
    omega (arith, rest)

first-is : (number : ℕ) (x : ℕ × ℕ) (xs : Numbered) → AreRising number (x ∷ xs)
    → is_some (block_of (x ∷ xs) number) ≡ true → x.0 ≡ number
first-is number x xs h some = decide (nat_lt number x.0) refl
  where
    decide : (b : Bool) → nat_lt number x.0 ≡ b → x.0 ≡ number
    decide false is = let le : number ≤ x.0 = h.0 in grind (arith, is, le)
    decide true is =
        let lt : number < x.0 = grind (arith, is) in
        let no : block_of (x ∷ xs) number ≡ None =
        before x xs number lt ∙ missing number (suc x.0) xs h.1 (omega (arith, lt)) in
        let not_some : false ≡ true = sym (ap is_some no) ∙ some in cc

twice : (b : Bool) (x y z : Option ℕ) → cond b x (cond b y z) ≡ cond b x z
twice true x y z = refl
twice false x y z = refl

pub replaced : (number o : ℕ) (bs : Numbered) (i q : ℕ) → IsPlace number bs i → is_some (block_of bs number) ≡ true
    → block_of (slice_set bs i (number, o)) q ≡ cond (nat_eq number q) (Some o) (block_of bs q)
replaced number o [] i q place some = cc
replaced number o (x ∷ xs) zero q place some =
    step (number, o) xs q
    ∙ sym (twice (nat_eq number q) (Some o) (Some x.1) (block_of xs q))
    ∙ ap (λ n. cond (nat_eq number q) (Some o) (cond (nat_eq n q) (Some x.1) (block_of xs q)))
    (sym (first-is number x xs place some))
    ∙ sym (ap (λ t. cond (nat_eq number q) (Some o) t) (step x xs q))
replaced number o (x ∷ xs) (suc i) q place some =
    step x (slice_set xs i (number, o)) q
    ∙ ap (λ t. cond (nat_eq x.0 q) (Some x.1) t)
    (replaced number o xs i q place.1 (sym (ap is_some (behind x xs number place.0)) ∙ some))
    ∙ swapped x.0 number q (Some x.1) (Some o) (block_of xs q) place.0
    ∙ sym (ap (λ t. cond (nat_eq number q) (Some o) t) (step x xs q))

pub rising-replace : (low number o : ℕ) (bs : Numbered) (i : ℕ) → AreRising low bs → IsPlace number bs i
    → is_some (block_of bs number) ≡ true → AreRising low (slice_set bs i (number, o))
rising-replace low number o [] i h place some = cc
rising-replace low number o (x ∷ xs) zero h place some =
    let same : x.0 ≡ number = first-is number x xs place some in
    (subst (λ n. low ≤ n) same h.0, subst (λ n. AreRising (suc n) xs) same h.1)
rising-replace low number o (x ∷ xs) (suc i) h place some =
    (h.0, rising-replace (suc x.0) number o xs i h.1 place.1 (sym (ap is_some (behind x xs number place.0)) ∙ some))

pub removed : (number : ℕ) (bs : Numbered) (i q : ℕ) → IsPlace number bs i → is_some (block_of bs number) ≡ true
    → block_of (remove bs i) q ≡ cond (nat_eq number q) None (block_of bs q)
removed number [] i q place some = cc
removed number (x ∷ xs) zero q place some =
    let same : x.0 ≡ number = first-is number x xs place some in
    go same (nat_eq number q) refl
  where
    go : x.0 ≡ number → (b : Bool) → nat_eq number q ≡ b → block_of xs q ≡ cond b None (block_of (x ∷ xs) q)
    go same true is =
        let at : number ≡ q = grind (arith, is) in missing q (suc x.0) xs place.1 (omega (arith, same, at))
    go same false is = sym (step x xs q
        ∙ ap (λ n. cond (nat_eq n q) (Some x.1) (block_of xs q)) same
        ∙ ap (λ t. cond t (Some x.1) (block_of xs q)) is)
removed number (x ∷ xs) (suc i) q place some =
    step x (remove xs i) q
    ∙ ap (λ t. cond (nat_eq x.0 q) (Some x.1) t)
    (removed number xs i q place.1 (sym (ap is_some (behind x xs number place.0)) ∙ some))
    ∙ swapped x.0 number q (Some x.1) None (block_of xs q) place.0
    ∙ sym (ap (λ t. cond (nat_eq number q) None t) (step x xs q))

rising-lower : (low lower : ℕ) (bs : Numbered) → lower ≤ low → AreRising low bs → AreRising lower bs
rising-lower low lower [] le h = tt
rising-lower low lower (x ∷ xs) le h = (omega (arith, h.0, le), h.1)

pub rising-remove : (low : ℕ) (bs : Numbered) (i : ℕ) → AreRising low bs → AreRising low (remove bs i)
rising-remove low [] zero h = tt
rising-remove low [] (suc i) h = tt
rising-remove low (x ∷ xs) zero h = rising-lower (suc x.0) low xs (omega (arith, h.0)) h.1
rising-remove low (x ∷ xs) (suc i) h = (h.0, rising-remove (suc x.0) xs i h.1)

-- ---- the last block is taken out

pub rising-front : (low : ℕ) (bs more : Numbered) → AreRising low (bs ++ more) → AreRising low bs
rising-front low [] more h = tt
rising-front low (x ∷ xs) more h = (h.0, rising-front (suc x.0) xs more h.1)

last-above : (low : ℕ) (bs : Numbered) (b : ℕ × ℕ) → AreRising low (bs ++ b ∷ []) → low ≤ b.0
last-above low [] b h = h.0
last-above low (x ∷ xs) b h =
    let above : suc x.0 ≤ b.0 = last-above (suc x.0) xs b h.1 in omega (arith, above, h.0)

pub before-last : (low : ℕ) (bs : Numbered) (b : ℕ × ℕ) → AreRising low (bs ++ b ∷ []) → AreBefore b.0 bs
before-last low [] b h q from = refl
before-last low (x ∷ xs) b h q from =
    let above : suc x.0 ≤ b.0 = last-above (suc x.0) xs b h.1 in
    let le : b.0 ≤ q = grind (arith, from) in
    behind x xs q (omega (arith, above, le)) ∙ before-last (suc x.0) xs b h.1 q from

-- what is so where the last block is taken out
pub record IsPopped (bs left : Numbered) (b : ℕ × ℕ) : Type 0 where
  pub was : block_of bs b.0 ≡ Some b.1
  pub taken : (q : ℕ) → block_of left q ≡ cond (nat_eq b.0 q) None (block_of bs q)
  pub last : AreBefore b.0 left

pub popped : (bs left : Numbered) (b : ℕ × ℕ) → bs ≡ left ++ b ∷ [] → AreRising 0 bs → IsPopped bs left b
popped bs left b is h = record {
  was = all b.0 ∙ ap (λ t. cond t (Some b.1) (block_of left b.0)) (same-is b.0 b.0 refl);
  taken = λ q. go q (nat_eq b.0 q) refl;
  last = last;
}
  where
    whole : AreRising 0 (left ++ b ∷ [])
    whole = subst (AreRising 0) is h

    last : AreBefore b.0 left
    last = before-last 0 left b whole

    all : (q : ℕ) → block_of bs q ≡ cond (nat_eq b.0 q) (Some b.1) (block_of left q)
    all q = ap (λ ys. block_of ys q) is ∙ pushed b.0 b.1 left q (rising-front 0 left (b ∷ []) whole) last

    go : (q : ℕ) (t : Bool) → nat_eq b.0 q ≡ t → block_of left q ≡ cond t None (block_of bs q)
    go q true at = last q (let same : b.0 ≡ q = grind (arith, at) in grind (arith, same))
    go q false other = sym (all q ∙ ap (λ t. cond t (Some b.1) (block_of left q)) other)

-- The writes of beginnings of one slot, with one more and with fewer.
use Rattle.std.proofs.Common.{◌≡◌, refl, sym, ◌∙◌, ap, Bool, true, false, cond, ◌&&◌, nat_eq, nat_lt, ℕ, zero, suc, ◌<◌, arith}
use Rattle.std.proofs.Common.{Option, None, Some, List, [], ◌∷◌, ◌++◌, length, set, take, get_or, ◌+◌}
use Rattle.std.specs.Prelude.{slice_get}
use Rattle.std.proofs.lemmas.Bool.Decides.{nat_tests}
use Rattle.std.proofs.lemmas.List.{take_more}
use Rattle.om_undo_touches.specs.declared.spans.SpanTouches.{SpanTouches}
use Rattle.om_foot.specs.Serials.{has}
use Rattle.om_undo_touches.specs.Slots.{has_span}
use Rattle.om_undo_touches.specs.Workers.{number_is, puts_at}

-- whether an entry wrote the cell of an index, by what is kept at a place
abbrev pub span_at : Option SpanTouches → ℕ → ℕ → Bool
span_at None i s = false
span_at (Some x) i s = nat_lt i x.count && has x.serials s

pub some_same : (a b : SpanTouches) → Some a ≡ Some b → a ≡ b
some_same a b h = cc

-- one place changes

set_here : (e x r : Bool) → cond (cond e true x) true r ≡ cond e true (cond x true r)
set_here true x r = refl
set_here false x r = refl

set_there : (e x r : Bool) → cond x true (cond e true r) ≡ cond e true (cond x true r)
set_there true true r = refl
set_there true false r = refl
set_there false x r = refl

pub span_put : (xs : List SpanTouches) (k : ℕ) (old x : SpanTouches) (i s : ℕ) (e : Bool)
    → slice_get xs k ≡ Some old → span_at (Some x) i s ≡ cond e true (span_at (Some old) i s)
    → has_span (set xs k x) i s ≡ cond e true (has_span xs i s)
span_put [] k old x i s e there h = cc
span_put (y ∷ ys) zero old x i s e there h =
    ap (λ b. cond b true (has_span ys i s)) (h ∙ ap (λ o. cond e true (span_at o i s)) (sym there))
    ∙ set_here e (span_at (Some y) i s) (has_span ys i s)
span_put (y ∷ ys) (suc k) old x i s e there h =
    ap (cond (span_at (Some y) i s) true) (span_put ys k old x i s e there h)
    ∙ set_there e (span_at (Some y) i s) (has_span ys i s)

put_and : (l n h : Bool) → l && cond n true h ≡ cond (n && l) true (l && h)
put_and true true h = refl
put_and true false h = refl
put_and false true h = refl
put_and false false h = refl

-- one write more in a place
pub span_added : (old x : SpanTouches) (count i s serial : ℕ) → x.count ≡ count → old.count ≡ count
    → has x.serials s ≡ cond (nat_eq serial s) true (has old.serials s)
    → span_at (Some x) i s ≡ cond (nat_eq serial s && nat_lt i count) true (span_at (Some old) i s)
span_added old x count i s serial new_is old_is h =
    (λ j. nat_lt i (new_is j) && h j)
    ∙ put_and (nat_lt i count) (nat_eq serial s) (has old.serials s)
    ∙ ap (λ n. cond (nat_eq serial s && nat_lt i count) true (nat_lt i n && has old.serials s)) (sym old_is)

pub span_kept : (xs : List SpanTouches) (k : ℕ) (old x : SpanTouches) (i s : ℕ) → slice_get xs k ≡ Some old
    → x.count ≡ old.count → has x.serials s ≡ has old.serials s → has_span (set xs k x) i s ≡ has_span xs i s
span_kept xs k old x i s there same kept =
    span_put xs k old x i s false there (λ n. nat_lt i (same n) && kept n)

-- one place more

and_flip : (a b : Bool) → a && b ≡ b && a
and_flip true true = refl
and_flip true false = refl
and_flip false true = refl
and_flip false false = refl

pub span_push : (xs : List SpanTouches) (x : SpanTouches) (i s : ℕ) (e : Bool) → span_at (Some x) i s ≡ e
    → has_span (xs ++ x ∷ []) i s ≡ cond e true (has_span xs i s)
span_push [] x i s e h = ap (λ b. cond b true false) h
span_push (y ∷ ys) x i s e h =
    ap (cond (span_at (Some y) i s) true) (span_push ys x i s e h)
    ∙ set_there e (span_at (Some y) i s) (has_span ys i s)

pub span_one : (x : SpanTouches) (i s serial count : ℕ) → x.count ≡ count → has x.serials s ≡ nat_eq serial s
    → span_at (Some x) i s ≡ nat_eq serial s && nat_lt i count
span_one x i s serial count is h =
    (λ j. nat_lt i (is j) && h j) ∙ and_flip (nat_lt i count) (nat_eq serial s)

-- a search goes on by one place
pub span_next : (xs : List SpanTouches) (k : ℕ) (x : SpanTouches) (i s : ℕ) → k < length xs → x ≡ get_or xs k x
    → has_span (take (k + 1) xs) i s ≡ cond (has_span (take k xs) i s) true (span_at (Some x) i s)
span_next xs k x i s within is =
    ap (λ ys. has_span ys i s) (take_more xs k x within ∙ ap (λ y. take k xs ++ y ∷ []) (sym is))
    ∙ more (take k xs)
  where
    last : (b : Bool) → cond b true false ≡ b
    last true = refl
    last false = refl

    step : (a b r : Bool) → cond a true (cond r true b) ≡ cond (cond a true r) true b
    step true b r = refl
    step false b r = refl

    more : (ys : List SpanTouches) → has_span (ys ++ x ∷ []) i s ≡ cond (has_span ys i s) true (span_at (Some x) i s)
    more [] = last (span_at (Some x) i s)
    more (y ∷ ys) =
        ap (cond (span_at (Some y) i s) true) (more ys)
        ∙ step (span_at (Some y) i s) (span_at (Some x) i s) (has_span ys i s)

-- the writes of an entry are taken out of each place

-- the writes of an entry are gone from so many places
abbrev pub AreTaken : ℕ → ℕ → List SpanTouches → List SpanTouches → Type 0
AreTaken serial k old new = (length new ≡ length old)
    × ((i s j : ℕ) → span_at (slice_get new j) i s
    ≡ cond (nat_eq serial s && nat_lt j k) false (span_at (slice_get old j) i s))

pub taken_none : (serial : ℕ) (xs : List SpanTouches) → AreTaken serial 0 xs xs
taken_none serial xs = (refl, λ i s j. none (nat_eq serial s) (nat_lt j 0) (span_at (slice_get xs j) i s) (never j))
  where
    never : (j : ℕ) → nat_lt j 0 ≡ false
    never j = grind (arith, nat_tests)

    none : (e l x : Bool) → l ≡ false → x ≡ cond (e && l) false x
    none e true x h = cc
    none true false x h = refl
    none false false x h = refl

take_and : (l n h : Bool) → l && cond n false h ≡ cond n false (l && h)
take_and true true h = refl
take_and true false h = refl
take_and false true h = refl
take_and false false h = refl

pub taken_next : (serial k : ℕ) (old mid : List SpanTouches) (was x : SpanTouches)
    → AreTaken serial k old mid → slice_get mid k ≡ Some was → x.count ≡ was.count
    → ((s : ℕ) → has x.serials s ≡ cond (nat_eq serial s) false (has was.serials s))
    → length (set mid k x) ≡ length mid
    → AreTaken serial (k + 1) old (set mid k x)
taken_next serial k old mid was x h there same taken long = (long ∙ h.0, λ i s j. at i s j)
  where
    gone : (i s : ℕ) → span_at (Some x) i s ≡ cond (nat_eq serial s) false (span_at (Some was) i s)
    gone i s = (λ n. nat_lt i (same n) && taken s n) ∙ take_and (nat_lt i was.count) (nat_eq serial s) (has was.serials s)

    turn : (e l q y z : Bool) → z ≡ cond (e && l) false y → cond q (cond e false z) z ≡ cond (e && cond l true q) false y
    turn true true true y z h = refl
    turn true true false y z h = h
    turn true false true y z h = refl
    turn true false false y z h = h
    turn false l true y z h = h
    turn false l false y z h = h

    less : (j : ℕ) → cond (nat_lt j k) true (nat_eq k j) ≡ nat_lt j (k + 1)
    less j = grind (arith, nat_tests)

    put : (q : Bool) (i s j : ℕ) → nat_eq k j ≡ q → span_at (cond q (Some x) (slice_get mid j)) i s
        ≡ cond q (cond (nat_eq serial s) false (span_at (slice_get mid j) i s)) (span_at (slice_get mid j) i s)
    put false i s j is = refl
    put true i s j is =
        gone i s ∙ ap (λ o. cond (nat_eq serial s) false (span_at o i s))
        (sym there ∙ ap (slice_get mid) (number_is k j is))

    at : (i s j : ℕ) → span_at (slice_get (set mid k x) j) i s
        ≡ cond (nat_eq serial s && nat_lt j (k + 1)) false (span_at (slice_get old j) i s)
    at i s j =
        ap (λ o. span_at o i s) (puts_at mid k was x there j)
        ∙ put (nat_eq k j) i s j refl
        ∙ turn (nat_eq serial s) (nat_lt j k) (nat_eq k j) (span_at (slice_get old j) i s) (span_at (slice_get mid j) i s)
        (h.1 i s j)
        ∙ ap (λ l. cond (nat_eq serial s && l) false (span_at (slice_get old j) i s)) (less j)

-- once they are gone from all places
pub taken_all : (serial : ℕ) (old new : List SpanTouches) → AreTaken serial (length old) old new
    → (i s : ℕ) → has_span new i s ≡ cond (nat_eq serial s) false (has_span old i s)
taken_all serial old new h i s = go old new h.0 (λ j. all j)
  where
    in_front : (e l x : Bool) → (l ≡ false → x ≡ false) → cond (e && l) false x ≡ cond e false x
    in_front true true x h = refl
    in_front true false x h = h refl
    in_front false l x h = refl

    behind : (xs : List SpanTouches) (j : ℕ) → nat_lt j (length xs) ≡ false → span_at (slice_get xs j) i s ≡ false
    behind [] j h = refl
    behind (x ∷ xs) zero h = absurd (grind (arith, nat_tests, h))
    behind (x ∷ xs) (suc j) h = behind xs j (grind (arith, nat_tests, h))

    all : (j : ℕ) → span_at (slice_get new j) i s ≡ cond (nat_eq serial s) false (span_at (slice_get old j) i s)
    all j = h.1 i s j
        ∙ in_front (nat_eq serial s) (nat_lt j (length old)) (span_at (slice_get old j) i s) (behind old j)

    none : (e : Bool) → false ≡ cond e false false
    none true = refl
    none false = refl

    both : (e x r : Bool) → cond (cond e false x) true (cond e false r) ≡ cond e false (cond x true r)
    both true x r = refl
    both false x r = refl

    go : (xs ys : List SpanTouches) → length ys ≡ length xs
        → ((j : ℕ) → span_at (slice_get ys j) i s ≡ cond (nat_eq serial s) false (span_at (slice_get xs j) i s))
        → has_span ys i s ≡ cond (nat_eq serial s) false (has_span xs i s)
    go [] [] long f = none (nat_eq serial s)
    go (x ∷ xs) (y ∷ ys) long f =
        (λ n. cond (f 0 n) true (go xs ys (omega (arith, long)) (λ j. f (suc j)) n))
        ∙ both (nat_eq serial s) (span_at (Some x) i s) (has_span xs i s)
    go [] (y ∷ ys) long f = absurd (omega (arith, long))
    go (x ∷ xs) [] long f = absurd (omega (arith, long))

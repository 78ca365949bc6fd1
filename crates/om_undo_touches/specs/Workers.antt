-- Matter of proofs: what is kept for each worker, with a change at one of them, told by a reading of it.
use Rattle.std.proofs.Common.{◌≡◌, ◌≢◌, refl, sym, ◌∙◌, ap, Bool, true, false, cond, ◌&&◌, nat_eq, ℕ, zero, suc, arith}
use Rattle.std.proofs.Common.{Option, None, Some, List, [], ◌∷◌, ◌++◌, ◌≤◌, length, set}
use Rattle.std.proofs.lemmas.Bool.{eqb-false}
use Rattle.std.proofs.lemmas.Bool.Decides.{Decides-eqb}
use Rattle.std.specs.Prelude.{slice_get}

get_put : {X : Type 0} (xs : List X) (worker : ℕ) (old x : X) → slice_get xs worker ≡ Some old
    → slice_get (set xs worker x) worker ≡ Some x
get_put [] worker old x h = cc
get_put (y ∷ ys) zero old x h = refl
get_put (y ∷ ys) (suc worker) old x h = get_put ys worker old x h

get_other : {X : Type 0} (xs : List X) (worker w : ℕ) (x : X) → w ≢ worker → slice_get (set xs worker x) w ≡ slice_get xs w
get_other [] worker w x h = refl
get_other (y ∷ ys) zero zero x h = absurd (h refl)
get_other (y ∷ ys) zero (suc w) x h = refl
get_other (y ∷ ys) (suc worker) zero x h = refl
get_other (y ∷ ys) (suc worker) (suc w) x h = get_other ys worker w x (λ e. h (ap suc e))

pub number_is : (k q : ℕ) → nat_eq k q ≡ true → k ≡ q
number_is k q h = (Decides-eqb k q).0 h

-- what is kept for each worker, where x is put at one that has something
pub puts_at : {X : Type 0} (xs : List X) (worker : ℕ) (old x : X) → slice_get xs worker ≡ Some old → (w : ℕ)
    → slice_get (set xs worker x) w ≡ cond (nat_eq worker w) (Some x) (slice_get xs w)
puts_at xs worker old x there w = go (nat_eq worker w) refl
  where
    go : (same : Bool) → nat_eq worker w ≡ same → slice_get (set xs worker x) w ≡ cond same (Some x) (slice_get xs w)
    go true is = ap (slice_get (set xs worker x)) (sym (number_is worker w is)) ∙ get_put xs worker old x there
    go false is = get_other xs worker w x (λ e. eqb-false worker w is (sym e))

with_all : (e b x : Bool) → cond e b x ≡ cond (e && true) b x
with_all true b x = refl
with_all false b x = refl

with_none : (e b x : Bool) → x ≡ cond (e && false) b x
with_none true b x = refl
with_none false b x = refl

-- a change of what is kept for a worker
pub kept-set : {X : Type 0} (b e : Bool) (read : Option X → Bool) (xs : List X) (worker : ℕ) (old x : X)
    → slice_get xs worker ≡ Some old → read (Some x) ≡ cond e b (read (Some old))
    → (w : ℕ) → read (slice_get (set xs worker x) w) ≡ cond (e && nat_eq worker w) b (read (slice_get xs w))
kept-set b e read xs worker old x there changed w =
    ap read (puts_at xs worker old x there w) ∙ go (nat_eq worker w) refl
  where
    go : (same : Bool) → nat_eq worker w ≡ same → read (cond same (Some x) (slice_get xs w))
        ≡ cond (e && same) b (read (slice_get xs w))
    go false is = with_none e b (read (slice_get xs w))
    go true is =
        changed ∙ with_all e b (read (Some old))
        ∙ ap (λ o. cond (e && true) b (read o)) (sym there ∙ ap (slice_get xs) (number_is worker w is))

-- what reads the same in the place of something else changes nothing
pub kept-same : {X : Type 0} (read : Option X → Bool) (xs : List X) (worker : ℕ) (old x : X)
    → slice_get xs worker ≡ Some old → read (Some x) ≡ read (Some old)
    → (w : ℕ) → read (slice_get (set xs worker x) w) ≡ read (slice_get xs w)
kept-same read xs worker old x there same w =
    ap read (puts_at xs worker old x there w) ∙ go (nat_eq worker w) refl
  where
    go : (b : Bool) → nat_eq worker w ≡ b → read (cond b (Some x) (slice_get xs w)) ≡ read (slice_get xs w)
    go false is = refl
    go true is = same ∙ ap read (sym there ∙ ap (slice_get xs) (number_is worker w is))

-- one more item, behind all others, changes nothing where it reads as nothing does
pub kept-more : {X : Type 0} (read : Option X → Bool) (xs : List X) (x : X) → read (Some x) ≡ read None
    → (w : ℕ) → read (slice_get (xs ++ x ∷ []) w) ≡ read (slice_get xs w)
kept-more read [] x new zero = new
kept-more read [] x new (suc w) = refl
kept-more read (y ∷ ys) x new zero = refl
kept-more read (y ∷ ys) x new (suc w) = kept-more read ys x new w

-- nothing is kept behind the end
pub none_behind : {X : Type 0} (xs : List X) (w : ℕ) → length xs ≤ w → slice_get xs w ≡ None
none_behind [] w h = refl
none_behind (x ∷ xs) zero h = absurd (omega arith)
none_behind (x ∷ xs) (suc w) h = none_behind xs w (omega arith)

none_in : (b : Bool) → false ≡ cond b false false
none_in true = refl
none_in false = refl

-- for a worker that has nothing there is nothing to take out
pub kept-unset : {X : Type 0} (e : Bool) (read : Option X → Bool) (xs : List X) (worker : ℕ)
    → slice_get xs worker ≡ None → read None ≡ false
    → (w : ℕ) → read (slice_get xs w) ≡ cond (e && nat_eq worker w) false (read (slice_get xs w))
kept-unset e read xs worker none nothing w = go (nat_eq worker w) refl
  where
    go : (same : Bool) → nat_eq worker w ≡ same
        → read (slice_get xs w) ≡ cond (e && same) false (read (slice_get xs w))
    go false is = with_none e false (read (slice_get xs w))
    go true is =
        let absent : read (slice_get xs w) ≡ false =
        ap read (ap (slice_get xs) (sym (number_is worker w is)) ∙ none) ∙ nothing in
        absent ∙ none_in (e && true) ∙ ap (cond (e && true) false) (sym absent)

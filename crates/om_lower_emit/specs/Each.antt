-- Matter of proofs, for om_lower too: how the rows of a list are written one behind the other.
use Rattle.std.specs.Prelude.{slice_index_or}
use Rattle.std.specs.List.{All}
use Rattle.std.proofs.lemmas.List.{length-map}
use Rattle.std.proofs.Common.{◌≡◌, ℕ, zero, suc, ◌+◌, ◌<◌, ◌≤◌, List, [], ◌∷◌, map, get_or, refl, drop, drop-cons, add-one}
use Rattle.std.proofs.Common.{length, sym, ap, ◌∙◌, subst, arith}
use Rattle.om_lower_emit.specs.Drafts.{Written}
use Rattle.om_lower_emit.specs.Emits.{Emits, Goes, site}
use Rattle.om_lower_emit.specs.Writing.{goes_end, goes_part}
use Rattle.om_lower_rules.specs.Rows.{Site, Row, each}
use Rattle.om_lower_rules.specs.Numbered.{Numbered}

-- whoever writes what is left has written all
unfoldable pub GoesOn : {A B : Type 0} → (n : ℕ) → (names : Numbered) → (row : Site → B → Row) → (view : A → B)
    → (all left : List A) → (first now : Written) → Type 0
GoesOn n names row view all left first now = (n ≤ length now.places) × ((c : Written)
    → Goes n (λ done at. each (row (site names done)) (map view left)) now c
    → Goes n (λ done at. each (row (site names done)) (map view all)) first c)

pub begin_each : {A B : Type 0} → (names : Numbered) (row : Site → B → Row) (view : A → B) (all : List A) (a : Written)
    → GoesOn (length a.places) names row view all all a a
unfolding GoesOn
begin_each names row view all a = (omega arith, λ c g. g)

pub next_each : {A B : Type 0} → (n : ℕ) (names : Numbered) (row : Site → B → Row) (view : A → B) (all : List A)
    (k : ℕ) (x : A) (first a b : Written)
    → k < length all → x ≡ get_or all k x → GoesOn n names row view all (drop k all) first a
    → Emits (λ done at. row (site names done) (view x)) a b → GoesOn n names row view all (drop (k + 1) all) first b
unfolding GoesOn
next_each n names row view all k x first a b lt is g e = (
  omega (arith, g.0, e.keeps.more),
  λ c h. g.1 c
      (subst (λ xs. Goes n (λ done at. each (row (site names done)) (map view xs)) a c) (sym here)
      (goes_part n (λ done at. row (site names done) (view x)) (λ done at. each (row (site names done))
      (map view (drop (k + 1) all))) a b c g.0 e h)),
)
  where
    here : drop k all ≡ x ∷ drop (k + 1) all
    here = drop-cons all k x lt ∙ ap (λ y. y ∷ drop (suc k) all) (sym is) ∙ ap (λ j. x ∷ drop j all) (sym (add-one k))

pub end_each : {A B : Type 0} → (n : ℕ) (names : Numbered) (row : Site → B → Row) (view : A → B) (all left : List A)
    (first a : Written)
    → left ≡ [] → GoesOn n names row view all left first a
    → Goes n (λ done at. each (row (site names done)) (map view all)) first a
unfolding GoesOn
end_each n names row view all left first a none g =
    g.1 a (subst (λ xs. Goes n (λ done at. each (row (site names done)) (map view xs)) a a) (sym none) (goes_end n a))

-- an element that is read, whatever stands for one that is not there
pub got : {A : Type 0} → (xs : List A) (k : ℕ) (d : A) → k < length xs → get_or xs k d ≡ get_or xs k (get_or xs k d)
got [] k d lt = absurd (omega arith)
got (x ∷ xs) zero d lt = refl
got (x ∷ xs) (suc k) d lt = got xs k d (omega arith)

-- what holds of all holds of the one that is met
mapped_item : {A B : Type 0} → (f : A → B) (xs : List A) (k : ℕ) (x : A) → k < length xs → x ≡ get_or xs k x
    → slice_index_or (map f xs) k (f x) ≡ f x
mapped_item f [] k x lt e = absurd (omega arith)
mapped_item f (y ∷ ys) zero x lt e = ap f (sym e)
mapped_item f (y ∷ ys) (suc k) x lt e = mapped_item f ys k x (omega arith) e

pub all_item : {A B : Type 0} → (P : B → Type 0) (f : A → B) (xs : List A) (k : ℕ) (x : A) → All P (map f xs)
    → k < length xs → x ≡ get_or xs k x → P (f x)
all_item P f xs k x h lt e =
    subst P (mapped_item f xs k x lt e) (h k (f x) (omega (arith, length-map xs f)))

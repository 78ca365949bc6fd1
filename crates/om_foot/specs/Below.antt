-- What `is_below` decides: matter of proofs, for whoever asks for descendants.
use Rattle.std.proofs.Common.{◌≡◌, ℕ, suc, ◌<◌, List, ◌∷◌, ◌++◌, Bool, true, false, ◌&&◌, length, take, drop, get_or}
use Rattle.std.proofs.Common.{refl, sym, ◌∙◌, ap, arith, ◌↔◌, IsTrue, nat_lt, nat_eq, length-append, take-append-drop}
use Rattle.std.specs.Bool.{Decides}
use Rattle.std.proofs.lemmas.Bool.Decides.{Decides-eqb, Decides-ltb}
use Rattle.std.proofs.lemmas.Slice.Eq.{slice_eq-Decides}
use Rattle.std.proofs.Math.Seq.{take-append_seam, drop-cons}
use Rattle.std.specs.Cmp.Lexicographic.{pointwise}
use Rattle.om_foot.specs.Names.{IsDescendant, is_below}

pub same_list : (xs ys : List ℕ) → Decides (pointwise nat_eq xs ys) (xs ≡ ys)
same_list xs ys = slice_eq-Decides Decides-eqb xs ys (pointwise nat_eq xs ys) refl

pub two_true : (p q : Bool) → p && q ≡ true → (p ≡ true) × (q ≡ true)
two_true true q h = (refl, h)
two_true false q h = cc

pub both_true : (p q : Bool) → p ≡ true → q ≡ true → p && q ≡ true
both_true p q a b = λ i. a i && b i

pub below_to : (a b : List ℕ) → is_below a b ≡ true → IsDescendant a b
below_to a b h =
    let two = two_true (nat_lt (length b) (length a)) (pointwise nat_eq (take (length b) a) b) h in
    let less : length b < length a = (Decides-ltb (length b) (length a)).0 two.0 in
    let front : take (length b) a ≡ b = (same_list (take (length b) a) b).0 two.1 in (
      get_or a (length b) 0,
      drop (suc (length b)) a,
      sym (take-append-drop (length b) a) ∙ ap (λ r. take (length b) a ++ r) (drop-cons a (length b) 0 less)
          ∙ ap (λ t. t ++ get_or a (length b) 0 ∷ drop (suc (length b)) a) front,
    )

below_here : (b : List ℕ) (x : ℕ) (rest : List ℕ) → is_below (b ++ x ∷ rest) b ≡ true
below_here b x rest =
    both_true _ _
    ((Decides-ltb (length b) (length (b ++ x ∷ rest))).1 (omega (arith, length-append b (x ∷ rest))))
    ((same_list (take (length b) (b ++ x ∷ rest)) b).1 (take-append_seam b (x ∷ rest)))

pub below_from : (a b : List ℕ) → IsDescendant a b → is_below a b ≡ true
below_from a b h = ap (λ xs. is_below xs b) h.2 ∙ below_here b h.0 h.1

pub below_means : (a b : List ℕ) → IsTrue (is_below a b) ↔ IsDescendant a b
below_means a b = (below_to a b, below_from a b)

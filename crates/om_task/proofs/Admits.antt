-- Which contexts admit a task.
use Rattle.std.proofs.Common.{◌≡◌, refl, sym, ◌∙◌, ap, ℕ, ◌+◌, List, ◌∷◌, Bool, true, false, drop}
use Rattle.std.specs.Prelude.{IsTrue, ◌↔◌, Some, slice_get, if◌then◌else◌}
use Rattle.std.proofs.lemmas.List.{drop_more}
use Rattle.std.proofs.lemmas.Option.{get_or_from_slice_get, slice_get_within}
use Rattle.om_foot.specs.Names.{IsDescendant, is_below}
use Rattle.om_foot.specs.Below.{below_to, below_from}
use Rattle.om_code.specs.declared.raw.Raw.{Raw}
use Rattle.om_state.specs.declared.control.Context.{Context}
use Rattle.om_task.specs.Rules.{admits_on, admits_all}

same_test : (x y : Bool) → (x ≡ true → y ≡ true) → (y ≡ true → x ≡ true) → x ≡ y
same_test true y h k = sym (h refl)
same_test false true h k = k refl
same_test false false h k = refl

pub is_same : (x : Bool) (a b : List ℕ) → IsTrue x ↔ IsDescendant a b → x ≡ is_below a b
is_same x a b h = same_test x (is_below a b) (λ t. below_from a b (h.0 t)) (λ t. h.1 (below_to a b t))

from_context : (xs : List Context) (k : ℕ) (x : Context) → slice_get xs k ≡ Some x → drop k xs ≡ x ∷ drop (k + 1) xs
from_context xs k x h = drop_more xs k x (slice_get_within xs k x h) ∙ ap (λ y. y ∷ drop (k + 1) xs)
    (get_or_from_slice_get xs k x x h)

refuses : (b rest : Bool) → b ≡ false → false ≡ (if b then rest else false)
refuses true rest h = cc
refuses false rest h = refl

goes_on : (b rest : Bool) → b ≡ true → rest ≡ (if b then rest else false)
goes_on true rest h = refl
goes_on false rest h = cc

pub admits_none : (program : Raw) (name : List ℕ) (cs : List Context) (k : ℕ) (c : Context) → slice_get cs k
    ≡ Some c → admits_on program name c ≡ false → false ≡ admits_all program name (drop k cs)
admits_none program name cs k c found h = refuses (admits_on program name c)
    (admits_all program name (drop (k + 1) cs)) h ∙ ap (admits_all program name) (sym (from_context cs k c found))

pub admits_more : (program : Raw) (name : List ℕ) (cs : List Context) (k : ℕ) (c : Context) → slice_get cs k
    ≡ Some c → admits_on program name c ≡ true → admits_all program name (drop (k + 1) cs) ≡ admits_all program name
    (drop k cs)
admits_more program name cs k c found h = goes_on (admits_on program name c)
    (admits_all program name (drop (k + 1) cs)) h ∙ ap (admits_all program name) (sym (from_context cs k c found))

-- Names as keys of maps, and lists that have each name once: matter of proofs, for om_scope_symbols too.
use Rattle.std.proofs.Common.{◌≡◌, Bool, true, false, cond, ℕ, Option, Some, List, [], refl, sym, ap, ◌∙◌, Vec}
use Rattle.std.proofs.lemmas.Cmp.{nat_list_eq_equiv}
use Rattle.std.proofs.lemmas.Map.Text.{is_eq-slice_cmp}
use Rattle.std.proofs.lemmas.Slice.Eq.{bytes_eq-Decides}
use Rattle.std.specs.BTreeMap.{is_at}
use Rattle.std.specs.Cmp.{IsEquivalence}
use Rattle.std.specs.Cmp.Lexicographic.{slice_cmp}
use Rattle.std.specs.List.{IsDistinct}
use Rattle.std.specs.Map.{KeepsOthers, lookup}
use Rattle.std.specs.Ordering.{eq_by_cmp, is_eq, nat_cmp}
use Rattle.std.specs.Str.{bytes_eq}
use Rattle.std.specs.declared.alloc.Global.{Global}
use Rattle.std.specs.declared.cmp.Ordering.{Ordering}
use Rattle.om_scope_rules.specs.NameLists.{same_name}

-- ---- maps

-- how names compare as keys
abbrev pub names_cmp : Vec ℕ Global → Vec ℕ Global → Ordering
names_cmp one other = slice_cmp nat_cmp one.items other.items

-- what a map has at a name
abbrev pub at_name : {X : Type 0} → List ℕ → List (Vec ℕ Global × X) → Option X
at_name name entries = lookup (is_at (λ key. slice_cmp nat_cmp name key.items)) entries

same_bytes : (one other : List ℕ) → is_eq (slice_cmp nat_cmp one other) ≡ true → one ≡ other
same_bytes one other e = (bytes_eq-Decides one other).0 (sym (is_eq-slice_cmp one other) ∙ e)

-- once a name has another value, each finds that one, or what it found before
pub at_name-changed : {X : Type 0} (old new : List (Vec ℕ Global × X)) (changed : List ℕ) (value : X)
    → at_name changed new ≡ Some value
    → KeepsOthers (eq_by_cmp names_cmp) (is_at (λ key. slice_cmp nat_cmp changed key.items)) old new
    → (name : List ℕ) → at_name name new ≡ cond (bytes_eq name changed) (Some value) (at_name name old)
unfolding KeepsOthers
at_name-changed {X} old new changed value put keeps name = by (bytes_eq name changed) refl
  where
    by : (same : Bool) → bytes_eq name changed ≡ same → at_name name new ≡ cond same (Some value) (at_name name old)
    by true e = ap (λ n. at_name n new) ((bytes_eq-Decides name changed).0 e) ∙ put
    by false e = keeps (is_at (λ key. slice_cmp nat_cmp name key.items))
        (λ x y h. ap (λ n. is_eq (slice_cmp nat_cmp n y.items)) (same_bytes name x.items h))
        (λ key h. ap (λ n. is_eq (slice_cmp nat_cmp name n)) (sym (same_bytes changed key.items h))
        ∙ is_eq-slice_cmp name changed ∙ e)

-- ---- each name once

pub same_name-equiv : IsEquivalence same_name
same_name-equiv = record {
  refl = λ x. nat_list_eq_equiv.refl x.items;
  symm = λ x y. nat_list_eq_equiv.symm x.items y.items;
  congr = λ x y z. nat_list_eq_equiv.congr x.items y.items z.items;
}

pub no_names : IsDistinct same_name []
unfolding IsDistinct
no_names = tt

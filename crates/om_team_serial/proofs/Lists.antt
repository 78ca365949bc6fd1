-- Lists that are made from the front: what is there, and what is left.
use Rattle.std.proofs.Common.{◌≡◌, refl, sym, ◌∙◌, ap, ℕ, ℤ, ◌+◌, ◌<◌, List, [], ◌∷◌, ◌++◌, Option}
use Rattle.std.proofs.Common.{None, Some, Bool, true, false, append_assoc, get_or, drop, length, slice_get}
use Rattle.std.specs.Prelude.{is_some, if◌then◌else◌}
use Rattle.std.proofs.lemmas.List.{drop_more}
use Rattle.std.proofs.lemmas.Option.{get_or_from_slice_get, slice_get_within}
use Rattle.om_code.specs.declared.frame.Cell.TheVariants as cell
use Rattle.om_state.specs.declared.control.Construct.{Construct}
use Rattle.om_state.specs.declared.step.Update.{Update}
use Rattle.om_state.specs.declared.step.Update.TheVariants.{Put}
use Rattle.om_state.specs.declared.value.Val.TheVariants as value
use Rattle.om_team_serial.specs.Objects.{puts, group_name, group_in, or_else, is_in_region}

-- the puts behind one more
pub puts_past : (us : List Update) (xs : List ℤ) (i : ℕ) (x d : ℤ) → i < length xs → x ≡ get_or xs i d
    → (us ++ Put (value.Cell (cell.Int x)) ∷ []) ++ puts (drop (i + 1) xs) ≡ us ++ puts (drop i xs)
puts_past us xs i x d h is = append_assoc us _ _ ∙ ap (λ y. us ++ Put (value.Cell (cell.Int y))
    ∷ puts (drop (i + 1) xs)) is ∙ ap (λ zs. us ++ puts zs) (sym (drop_more xs i d h))

-- a list from an item on
pub from_item : {T : Type 0} (xs : List T) (k : ℕ) (x : T) → slice_get xs k ≡ Some x → drop k xs ≡ x ∷ drop (k + 1) xs
from_item xs k x h = drop_more xs k x (slice_get_within xs k x h) ∙ ap (λ y. y ∷ drop (k + 1) xs)
    (get_or_from_slice_get xs k x x h)

-- the group where a region is one, and where it is none
some_name : (n other : Option (List ℕ)) → is_some n ≡ true → n ≡ or_else n other
some_name (Some name) other h = refl
some_name None other h = cc

no_name : (n other : Option (List ℕ)) → is_some n ≡ false → other ≡ or_else n other
no_name (Some name) other h = cc
no_name None other h = refl

pub group_here : (cs : List Construct) (began : Option (List ℕ)) (k : ℕ) (c : Construct) → slice_get cs k ≡ Some c
    → is_some (group_name c) ≡ true → group_name c ≡ group_in (drop k cs) began
group_here cs began k c found h = some_name (group_name c) (group_in (drop (k + 1) cs) began) h
    ∙ ap (λ l. group_in l began) (sym (from_item cs k c found))

pub group_below : (cs : List Construct) (began : Option (List ℕ)) (k : ℕ) (c : Construct) → slice_get cs k ≡ Some c
    → is_some (group_name c) ≡ false → group_in (drop (k + 1) cs) began ≡ group_in (drop k cs) began
group_below cs began k c found h = no_name (group_name c) (group_in (drop (k + 1) cs) began) h
    ∙ ap (λ l. group_in l began) (sym (from_item cs k c found))

region_here : (n : Option (List ℕ)) (rest : Bool) → n ≡ None → true ≡ (if is_some n then rest else true)
region_here None rest h = refl
region_here (Some name) rest h = cc

region_beyond : (n : Option (List ℕ)) (name : List ℕ) (rest : Bool) → n ≡ Some name → rest
    ≡ (if is_some n then rest else true)
region_beyond None name rest h = cc
region_beyond (Some other) name rest h = refl

pub region_at : (cs : List Construct) (k : ℕ) (c : Construct) → slice_get cs k ≡ Some c → group_name c ≡ None → true
    ≡ is_in_region (drop k cs)
region_at cs k c found h = region_here (group_name c) (is_in_region (drop (k + 1) cs)) h ∙ ap is_in_region
    (sym (from_item cs k c found))

pub region_below : (cs : List Construct) (k : ℕ) (c : Construct) (name : List ℕ) → slice_get cs k ≡ Some c
    → group_name c ≡ Some name → is_in_region (drop (k + 1) cs) ≡ is_in_region (drop k cs)
region_below cs k c name found h = region_beyond (group_name c) name (is_in_region (drop (k + 1) cs)) h
    ∙ ap is_in_region (sym (from_item cs k c found))

-- Putting an expression in place of a directive's own, and finding it, as loops do.
use Rattle.std.proofs.Common.{◌≡◌, ◌+◌, ◌≤◌, ◌<◌, ℕ, List, [], ◌∷◌, ◌++◌, length, map, Option, Some, None, refl, sym}
use Rattle.std.proofs.Common.{ap, subst, ◌∙◌, arith, append_assoc, length-append}
use Rattle.std.proofs.lemmas.List.{append-nil}
use Rattle.std.specs.Prelude.{option_to_list}
use Rattle.std.specs.List.{flat_map}
use Rattle.om_pragma.specs.declared.clause.ClauseItem.{ClauseItem}
use Rattle.om_pragma.specs.Expressions.{clause_expression, clause_expressions, first_expression, or_else, take_item}
use Rattle.om_pragma.specs.Expressions.{map_item, IsValue}
use Rattle.om_pragma.proofs.Outcomes.{some, some_is}

abbrev pub in_items : {E : Type 0} → List (ClauseItem E) → List E
in_items = flat_map (λ i. clause_expressions i.clause)

-- what is made so far, and what the rest makes, are all
pub record IsFilling {E F : Type 0} (value left : Option F) (made : List (ClauseItem F))
    (rest items : List (ClauseItem E)) : Type 0 where
  pub few : length (in_items rest) ≤ length (option_to_list left)
  pub still : (f : E → F) → IsValue f value → IsValue f left
  pub whole : (f : E → F) → IsValue f value → made ++ map (map_item f) rest ≡ map (map_item f) items

pub filling_begins : {E F : Type 0} (value : Option F) (items : List (ClauseItem E)) → length (in_items items) ≤
    length (option_to_list value) → IsFilling value value [] items items
filling_begins value items few = record { few = few; still = λ f is. is; whole = λ f is. refl }

module _ {E F : Type 0} (value left : Option F) (made : List (ClauseItem F)) (rest items : List (ClauseItem E))
    (h : IsFilling value left made rest items) where
  pub filling_ends : rest ≡ [] → (f : E → F) → IsValue f value → made ≡ map (map_item f) items
  filling_ends none f is = sym (append-nil made) ∙ (rw none at h.whole f is)

  pub few_first : (i : ClauseItem E) (more : List (ClauseItem E)) → rest ≡ i ∷ more
      → length (clause_expressions i.clause) ≤ length (option_to_list left)
  few_first i more is =
      let few : length (clause_expressions i.clause ++ in_items more) ≤ length (option_to_list left) = subst
      (λ (r : List (ClauseItem E)). length (in_items r) ≤ length (option_to_list left)) is h.few in
      omega (arith, few, length-append (clause_expressions i.clause) (in_items more))

  pub filling_goes_on : (i : ClauseItem E) (more : List (ClauseItem E)) (next : ClauseItem F) (remains : Option F)
      → rest ≡ i ∷ more → ((f : E → F) → IsValue f left → next ≡ map_item f i)
      → ((f : E → F) → IsValue f left → IsValue f remains) → length (option_to_list left) ≤ length
      (clause_expressions i.clause) + length (option_to_list remains) → IsFilling value remains (made ++ next ∷ [])
      more items
  filling_goes_on i more next remains is makes keeps few = record {
    few =
        let before : length (clause_expressions i.clause ++ in_items more) ≤ length (option_to_list left) = subst
        (λ (r : List (ClauseItem E)). length (in_items r) ≤ length (option_to_list left)) is h.few in
        counted (clause_expression i.clause) (length-append (clause_expressions i.clause) (in_items more)) before few;
    still = λ f v. keeps f (h.still f v);
    whole = λ f v. append_assoc made (next ∷ []) (map (map_item f) more) ∙ rw (makes f (h.still f v))
        (rw is at h.whole f v);
  }
    where
      counted : (o : Option E) → length (option_to_list o ++ in_items more) ≡ length (option_to_list o) + length
          (in_items more) → length (option_to_list o ++ in_items more) ≤ length (option_to_list left)
          → length (option_to_list left) ≤ length (option_to_list o) + length (option_to_list remains)
          → length (in_items more) ≤ length (option_to_list remains)
      counted o sum before few = omega (arith, sum, before, few)

pub one_less : (n m : ℕ) → n + 1 ≡ m → n < m
one_less n m e = omega arith

item_is : {E : Type 0} (items : List (ClauseItem E)) (i : ClauseItem E) (more : List (ClauseItem E))
    → take_item items ≡ some (i, more) → items ≡ i ∷ more
item_is [] i more e = absurd cc
item_is {E} (j ∷ items) i more e = ap (λ (p : ClauseItem E × List (ClauseItem E)). p.0 ∷ p.1)
    (some_is (j, items) (i, more) e)

pub first_ends : {E : Type 0} (items : List (ClauseItem E)) → take_item items ≡ None → first_expression items ≡ None
unfolding first_expression
first_ends [] e = refl
first_ends (i ∷ items) e = absurd cc

pub first_found : {E : Type 0} (items : List (ClauseItem E)) (i : ClauseItem E) (more : List (ClauseItem E)) (x : E)
    → take_item items ≡ some (i, more) → clause_expression i.clause ≡ some x → first_expression items ≡ some x
unfolding first_expression
first_found items i more x is has = rw (item_is items i more is, has) refl

pub first_goes_on : {E : Type 0} (items : List (ClauseItem E)) (i : ClauseItem E) (more : List (ClauseItem E))
    → take_item items ≡ some (i, more) → clause_expression i.clause ≡ None → first_expression more
    ≡ first_expression items
unfolding first_expression
first_goes_on items i more is has = rw (item_is items i more is, has) refl

pub item_shorter : {E : Type 0} (items : List (ClauseItem E)) (i : ClauseItem E) (more : List (ClauseItem E))
    → take_item items ≡ some (i, more) → length more + 1 ≡ length items
item_shorter items i more is = omega (arith, ap length (item_is items i more is))

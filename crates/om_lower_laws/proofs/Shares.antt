-- Slots with the cells of slots of the body round it stand for the variables of these.
use Rattle.std.proofs.Common.{◌≡◌, ℕ, Bool, true, false, List, [], ◌∷◌, ◌++◌, Option, None, Some, map, refl, sym, ap}
use Rattle.std.proofs.Common.{◌∙◌, subst}
use Rattle.std.specs.Prelude.{All, nat_eq, option_map, slice_get, ◌||◌, if◌then◌else◌}
use Rattle.std.specs.List.{AllZip, flat_map, list_any}
use Rattle.std.proofs.lemmas.Bool.{eqb-true}
use Rattle.std.proofs.lemmas.List.Elements.{All-head, All-tail}
use Rattle.std.proofs.lemmas.Option.{slice_get-map}
use Rattle.om_code.specs.declared.raw.Body.{Body}
use Rattle.om_code.specs.declared.raw.Raw.{Raw}
use Rattle.om_code.specs.declared.raw.Source.TheVariants.{Own, Outer}
use Rattle.om_scope_tree.specs.declared.resolved.Capture.{Capture}
use Rattle.om_scope_tree.specs.Captures.{captured_variable}
use Rattle.om_scope_tree.specs.ResolvedTree.{ResolvedFunctionTree, ResolvedTree}
use Rattle.om_lower_rules.specs.Bodies.{BodySite, BodyTree, FunctionBody, RegionBody, bodies_of}
use Rattle.om_lower_rules.specs.Bodies.{variables_in, variables_of}
use Rattle.om_lower_rules.specs.Code.{IsBodyOf, captures_of, slots_of}
use Rattle.om_lower_rules.specs.Mentions.{extents_of}
use Rattle.om_lower_rules.specs.Slots.{is_shared, parameter_sight, region_clause_sights, shares, slot_of, slot_with}
use Rattle.om_lower_rules.specs.Slots.{source_of, statement_sights, statements_sights}
use Rattle.om_lower_laws.specs.ShareLaws.{IsShared, SharesWell, SharedStandOutside}
use Rattle.om_lower_laws.proofs.Captured.{IsCaptured, bodies_captured}
use Rattle.om_lower_laws.proofs.Tables.{Distinct, Has, number_found, places_apart, table_distinct}

-- what is shared is taken
pub taken : (outer : List ℕ) (captures : List Capture) (x : ℕ) → Has outer (map captured_variable captures)
    → list_any (shares x) captures ≡ true → list_any (nat_eq x) outer ≡ true
taken outer [] x h e = absurd cc
taken outer (c ∷ cs) x h e = first (nat_eq c.variable x) refl e (taken outer cs x h.1)
  where
    first : (b : Bool) → nat_eq c.variable x ≡ b
        → ((if b then is_shared c.taking else false) || list_any (shares x) cs) ≡ true
        → (list_any (shares x) cs ≡ true → list_any (nat_eq x) outer ≡ true) → list_any (nat_eq x) outer ≡ true
    first true same e rest = ap (λ z. list_any (nat_eq z) outer) (sym (eqb-true c.variable x same)) ∙ h.0
    first false same e rest = rest e

-- a variable with the cells of a slot outside is that of this slot
stands_outside : (outer : List ℕ) (captures : List Capture) (x k : ℕ) → Has outer (map captured_variable captures)
    → source_of outer captures x ≡ Outer k → slice_get outer k ≡ Some x
stands_outside outer captures x k h e = by (list_any (shares x) captures) refl e
  where
    by : (b : Bool) → list_any (shares x) captures ≡ b → (if b then Outer (slot_of outer x) else Own) ≡ Outer k
        → slice_get outer k ≡ Some x
    by true shared e =
        let same : slot_of outer x ≡ k = cc e in
        subst (λ n. slice_get outer n ≡ Some x) same (number_found nat_eq eqb-true x outer (taken outer captures x h shared))
    by false shared e = absurd cc

-- what stands in a list of images is the image of what stands there
image : {A B : Type 0} (f : A → B) (xs : List A) (i : ℕ) (y : B) → slice_get (map f xs) i ≡ Some y
    → (x : A) × (slice_get xs i ≡ Some x) × (f x ≡ y)
image {A} {B} f xs i y e = by (slice_get xs i) refl (sym (slice_get-map f xs i) ∙ e)
  where
    by : (o : Option A) → slice_get xs i ≡ o → option_map f o ≡ Some y → (x : A) × (slice_get xs i ≡ Some x) × (f x ≡ y)
    by None here e = absurd cc
    by (Some x) here e = (x, here, cc e)

distinct : (f : ResolvedFunctionTree) (t : BodyTree) → Distinct (variables_in f t)
distinct f FunctionBody = table_distinct (map parameter_sight f.parameters ++ statements_sights f.body)
distinct f (RegionBody first kind clauses captures s) = table_distinct (flat_map region_clause_sights clauses
    ++ statement_sights s)

module _ (tree : ResolvedTree) (raw : Raw) (b : BodySite) (body : Body) (is : IsBodyOf tree raw b body)
    (here : IsCaptured b) where
  abbrev Both : ℕ → ℕ → Type 0
  Both i k = (x : ℕ) × (slice_get (variables_of b) i ≡ Some x) × (slice_get b.outer k ≡ Some x)

  same : (i k : ℕ) → IsShared body i k → Both i k
  same i k shared =
      let slot = shared.0 in
      let with = slot_with (extents_of b.function) b.outer (captures_of b.tree) in
      let there : slice_get (slots_of b) i ≡ Some slot = ap (λ slots. slice_get slots i) (sym is.slots) ∙ shared.1 in
      let found = image with (variables_of b) i slot there in
      let source : source_of b.outer (captures_of b.tree) found.0 ≡ Outer k = ap (λ s. s.source) found.2 ∙ shared.2 in
      (found.0, found.1, stands_outside b.outer (captures_of b.tree) found.0 k here source)

  apart : (i j k : ℕ) → IsShared body i k → IsShared body j k → i ≡ j
  apart i j k first second =
      let x = same i k first in
      let y = same j k second in
      let one : y.0 ≡ x.0 = cc (sym y.2 ∙ x.2) in
      places_apart (variables_of b) i j x.0 (distinct b.function b.tree) x.1 (y.1 ∙ ap (λ z. Some z) one)

  well : SharesWell b body
  well = record { same = same; apart = apart }

all_well : (tree : ResolvedTree) (raw : Raw) (bs : List BodySite) (bodies : List Body)
    → AllZip (IsBodyOf tree raw) bs bodies → All IsCaptured bs → AllZip SharesWell bs bodies
all_well tree raw [] [] zip all = tt
all_well tree raw [] (body ∷ bodies) zip all = absurd zip
all_well tree raw (b ∷ bs) [] zip all = absurd zip
all_well tree raw (b ∷ bs) (body ∷ bodies) zip all = (
  well tree raw b body zip.0 (All-head IsCaptured b bs all),
  all_well tree raw bs bodies zip.1 (All-tail IsCaptured b bs all),
)

pub shared_stand_outside : SharedStandOutside
shared_stand_outside tree raw code =
    all_well tree raw (bodies_of tree) raw.bodies code.bodies (bodies_captured tree)

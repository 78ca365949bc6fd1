-- Different variables have different places, with their cells, and no others are asked for.
use Rattle.std.proofs.Common.{◌≡◌, ℕ, ◌<◌, List, [], ◌∷◌, ◌++◌, Option, Some, None, length, refl, sym, ap}
use Rattle.std.proofs.Common.{◌∙◌, Bool, true, false, zero, suc, arith}
use Rattle.std.specs.Prelude.{nat_eq, map, option_map, slice_get, unwrap_or, All, Contains, ◌||◌}
use Rattle.std.specs.List.{AllZip, flat_map, list_any}
use Rattle.std.proofs.lemmas.Bool.{eqb-true, eq-eqb}
use Rattle.std.proofs.lemmas.List.Elements.{All-head, All-tail}
use Rattle.std.proofs.lemmas.Option.{slice_get-map, slice_get_read}
use Rattle.om_code.specs.declared.raw.Body.{Body}
use Rattle.om_code.specs.declared.raw.GlobalVariable as raws
use Rattle.om_code.specs.declared.raw.Raw.{Raw}
use Rattle.om_code.specs.declared.raw.Slot.{Slot}
use Rattle.om_scope_tree.specs.declared.resolved.GlobalVariable.{GlobalVariable}
use Rattle.om_scope_tree.specs.declared.resolved.Variable.{Variable}
use Rattle.om_scope_tree.specs.declared.resolved.Variable.TheVariants.{Global, Local}
use Rattle.om_scope_tree.specs.ResolvedTree.{ResolvedFunctionTree, ResolvedTree}
use Rattle.om_scope_tree.specs.Whole.{within}
use Rattle.om_lower_rules.specs.Bodies.{BodyTree, FunctionBody, RegionBody, BodySite, bodies_of, variables_of}
use Rattle.om_lower_rules.specs.Bodies.{Numbers, function_variables, region_variables}
use Rattle.om_lower_rules.specs.Code.{IsBodyOf, IsCodeOf, captures_of, global_of}
use Rattle.om_lower_rules.specs.Layouts.{IsNamedIn, IsTrueLayout, PlacesAlike, TrueLayouts, body_meaning, declared_cells}
use Rattle.om_lower_rules.specs.MeaningLaws.{layout_of}
use Rattle.om_lower_rules.specs.Mentions.{extents_of}
use Rattle.om_lower_rules.specs.Slots.{cells_of_length, parameter_sight, place_of, region_clause_sights}
use Rattle.om_lower_rules.specs.Slots.{slot_of, statement_sights, statements_sights}
use Rattle.om_lower_rules.specs.Worlds.{World, Layout}
use Rattle.om_lower_rules.proofs.Asked.{meaning_same, meanings_same}
use Rattle.om_lower_rules.proofs.Given.{slot_is}
use Rattle.om_lower_rules.proofs.Named.{has_back, number_found, table_has}
use Rattle.om_lower_rules.proofs.NamedExpressions.{same_nat}
use Rattle.om_lower_rules.proofs.Placed.{IsPlaced, bodies_placed}

-- ---- lists

-- what a list contains stands at some place of it
place_of_contained : (xs : List ℕ) (x : ℕ) → Contains xs x → (k : ℕ) × (slice_get xs k ≡ Some x)
place_of_contained xs x h = (h.0, slice_get_read xs (length xs) h.0 x refl h.1 (sym h.2))

found_at : (xs : List ℕ) (k x : ℕ) → slice_get xs k ≡ Some x → list_any (nat_eq x) xs ≡ true
found_at [] k x e = absurd cc
found_at (y ∷ ys) zero x e =
    let same : y ≡ x = cc e in ap (λ b. b || list_any (nat_eq x) ys) (eq-eqb x y (sym same))
found_at (y ∷ ys) (suc k) x e = either (nat_eq x y) (found_at ys k x e)
  where
    either : (b : Bool) → list_any (nat_eq x) ys ≡ true → (b || list_any (nat_eq x) ys) ≡ true
    either true e = refl
    either false e = e

found_among : (xs : List ℕ) (x : ℕ) → Contains xs x → list_any (nat_eq x) xs ≡ true
found_among xs x h = let at = place_of_contained xs x h in found_at xs at.0 x at.1

there : {A : Type 0} (xs : List A) (k : ℕ) → k < length xs → (x : A) × (slice_get xs k ≡ Some x)
there [] k lt = absurd (omega (arith, lt))
there (x ∷ xs) zero lt = (x, refl)
there (x ∷ xs) (suc k) lt = there xs k (omega (arith, lt))

-- ---- places

-- what stands at the slot of a variable is that variable
at_slot : (variables : List ℕ) (x : ℕ) → Contains variables x → slice_get variables (slot_of variables x) ≡ Some x
at_slot variables x h =
    let found = number_found (nat_eq x) variables (found_among variables x h) in
    found.1 ∙ ap (λ y. Some y) (sym (eqb-true x found.0 found.2))

slots_apart : (variables : List ℕ) (x y : ℕ) → Contains variables x → Contains variables y
    → slot_of variables x ≡ slot_of variables y → x ≡ y
slots_apart variables x y h g e =
    let same : Some x ≡ Some y = sym (at_slot variables x h) ∙ ap (λ k. slice_get variables k) e
    ∙ at_slot variables y g in
    cc same

places_apart : (tree : ResolvedTree) (b : BodySite) (x y : Variable) → IsNamedIn tree b x → IsNamedIn tree b y
    → place_of (variables_of b) x ≡ place_of (variables_of b) y → x ≡ y
places_apart tree b (Global n) (Global m) h g e = let same : n ≡ m = cc e in ap (λ k. Global k) same
places_apart tree b (Global n) (Local y) h g e = absurd cc
places_apart tree b (Local x) (Global m) h g e = absurd cc
places_apart tree b (Local x) (Local y) h g e =
    let same : slot_of (variables_of b) x ≡ slot_of (variables_of b) y = cc e in
    ap (λ k. Local k) (slots_apart (variables_of b) x y h g same)

-- ---- cells

length_cells : (length : Option ℕ) → unwrap_or length 1 ≡ cells_of_length length
length_cells None = refl
length_cells (Some n) = refl

-- the cells of a global of the code are those of the tree's
global_cells : (globals : List GlobalVariable) (number : ℕ) → number < length globals
    → option_map (λ (global : GlobalVariable). cells_of_length global.length) (slice_get globals number)
    ≡ Some (unwrap_or (option_map (λ (global : raws.GlobalVariable). unwrap_or global.length 1)
    (slice_get (map global_of globals) number)) 0)
global_cells globals number lt =
    let at = there globals number lt in
    ap (λ o. option_map (λ (global : GlobalVariable). cells_of_length global.length) o) at.1
    ∙ ap (λ n. Some n) (sym (length_cells at.0.length))
    ∙ ap (λ o. Some (unwrap_or (option_map (λ (global : raws.GlobalVariable). unwrap_or global.length 1) o) 0))
    (sym (slice_get-map global_of globals number ∙ ap (λ o. option_map global_of o) at.1))

module _ (tree : ResolvedTree) (raw : Raw) (code : IsCodeOf tree raw) (b : BodySite) (body : Body)
    (is : IsBodyOf tree raw b body) where
  abbrev At : Layout
  At = layout_of raw body (variables_of b)

  cells_declared : (x : Variable) → IsNamedIn tree b x → declared_cells tree b.function x ≡ Some (At.cells (At.place x))
  cells_declared (Global number) h =
      global_cells tree.globals number h
      ∙ ap (λ globals. Some (unwrap_or (option_map (λ (global : raws.GlobalVariable). unwrap_or global.length 1)
      (slice_get globals number)) 0)) (sym code.globals)
  cells_declared (Local x) h =
      let slot = ap (λ slots. slice_get slots (slot_of (variables_of b) x)) is.slots
      ∙ slot_is (extents_of b.function) b.outer (captures_of b.tree) (variables_of b) x
      (found_among (variables_of b) x h) in
      ap (λ o. Some (unwrap_or (option_map (λ (slot : Slot). slot.cells) o) 0)) (sym slot)

-- ---- the meaning

-- what the statements of a body name, it has
asked : (tree : ResolvedTree) (f : ResolvedFunctionTree) (t : BodyTree) (outer : List ℕ) (m : Numbers)
    → IsPlaced tree (record { function = f; tree = t; outer = outer; numbers = m })
    → (at other : Layout)
    → ((x : Variable) → IsNamedIn tree (record { function = f; tree = t; outer = outer; numbers = m }) x
    → PlacesAlike at other x)
    → (n : ℕ) (w : World) → body_meaning at f t n w ≡ body_meaning other f t n w
asked tree f FunctionBody outer m p at other alike n w =
    let b : BodySite = record { function = f; tree = FunctionBody; outer = outer; numbers = m } in
    let h = table_has nat_eq same_nat (map parameter_sight f.parameters ++ statements_sights f.body) in
    meanings_same tree b at other alike f.body p.around p.here.0 p.whole
    (has_back nat_eq (function_variables f) (map parameter_sight f.parameters) (statements_sights f.body) h) n w
asked tree f (RegionBody first kind clauses captures s) outer m p at other alike n w =
    let b : BodySite = record {
      function = f;
      tree = RegionBody first kind clauses captures s;
      outer = outer;
      numbers = m;
    } in
    let h = table_has nat_eq same_nat (flat_map region_clause_sights clauses ++ statement_sights s) in
    meaning_same tree b at other alike s (within p.around clauses) p.here.0 p.whole.body
    (has_back nat_eq (region_variables clauses s) (flat_map region_clause_sights clauses) (statement_sights s) h) n w

-- ---- all bodies

layouts : (tree : ResolvedTree) (raw : Raw) → IsCodeOf tree raw → (bs : List BodySite) (xs : List Body)
    → AllZip (IsBodyOf tree raw) bs xs → All (IsPlaced tree) bs
    → AllZip (λ b body. IsTrueLayout tree b (layout_of raw body (variables_of b))) bs xs
layouts tree raw code [] [] zip placed = tt
layouts tree raw code [] (x ∷ xs) zip placed = absurd zip
layouts tree raw code (b ∷ bs) [] zip placed = absurd zip
layouts tree raw code (b ∷ bs) (x ∷ xs) zip placed = (
  record {
    apart = λ y z. places_apart tree b y z;
    globals = λ number. refl;
    cells = λ y. cells_declared tree raw code b x zip.0 y;
    asked = asked tree b.function b.tree b.outer b.numbers (All-head (IsPlaced tree) b bs placed)
        (layout_of raw x (variables_of b));
  },
  layouts tree raw code bs xs zip.1 (All-tail (IsPlaced tree) b bs placed),
)

pub true_layouts : TrueLayouts
true_layouts tree raw whole copies code =
    layouts tree raw code (bodies_of tree) raw.bodies code.bodies (bodies_placed tree whole copies)

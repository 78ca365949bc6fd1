-- The code of a whole tree is valid, but for operand heights.
use Rattle.std.proofs.Common.{◌≡◌, ℕ, zero, suc, ◌^◌, ◌<◌, ◌≤◌, true, false, List, [], ◌∷◌, length, Option, Some, None}
use Rattle.std.proofs.Common.{sym, ap, ◌∙◌, subst, ⊎_elim, arith}
use Rattle.std.specs.Prelude.{slice_get, map, codes, position, All, Any, IsSomeAnd, sum_by}
use Rattle.std.specs.List.{AllByRecursion, IsDistinct}
use Rattle.std.proofs.lemmas.List.{length-map}
use Rattle.std.proofs.lemmas.List.Elements.{All-nil, All-cons, All-head, All-tail}
use Rattle.std.proofs.lemmas.List.Sums.{sum_by-cons}
use Rattle.std.proofs.lemmas.Map.Keys.{IsDistinct-head, IsDistinct-tail}
use Rattle.std.proofs.lemmas.Option.{slice_get-get_or}
use Rattle.std.proofs.lemmas.Slice.Eq.{bytes_eq-Decides}
use Rattle.om_code.specs.declared.fault.CodeFault.TheVariants.{Memory, JumpOut, Heights, TooHigh, Unknown}
use Rattle.om_code.specs.declared.raw.Body.{Body}
use Rattle.om_code.specs.declared.raw.GlobalVariable as raws
use Rattle.om_code.specs.declared.raw.Raw.{Raw}
use Rattle.om_code.specs.Validity.{HasLength, HasTables, HasOneHeight, StaysInside, IsLow, IsKnown, IsKnownBody}
use Rattle.om_code.specs.Validity.{IsValidBody}
use Rattle.om_scope_tree.specs.declared.resolved.GlobalVariable.{GlobalVariable}
use Rattle.om_scope_tree.specs.Beside.{TreeCopiesBehind}
use Rattle.om_scope_tree.specs.ResolvedTree.{ResolvedFunctionTree, ResolvedTree}
use Rattle.om_scope_tree.specs.Uses.{is_main_function}
use Rattle.om_scope_tree.specs.Whole.{cells_of, cell_count, IsMain, same_name, IsWholeTree}
use Rattle.om_lower_rules.specs.Bodies.{called_body, bodies_of}
use Rattle.om_lower_rules.specs.Code.{global_of, IsCodeOf}
use Rattle.om_lower_rules.specs.Laws.{IsLevel, AreNumbered, CodeIsValid, CodeFaults}
use Rattle.om_lower_rules.proofs.CodeLevels.{code_is_level}
use Rattle.om_lower_rules.proofs.KnownBodies.{calls, all_known}
use Rattle.om_lower_rules.proofs.Placed.{bodies_placed}
use Rattle.om_lower_rules.proofs.TreeCode.{mapped_there, position_there}

-- ---- globals

has_length : (length : Option ℕ) → 1 ≤ cells_of length → cells_of length ≤ 65536 → HasLength length
has_length None one most = tt
has_length (Some n) one most = (one, most)

abbrev HasCell : GlobalVariable → Type 0
HasCell global = 1 ≤ cell_count global

abbrev HasRawLength : raws.GlobalVariable → Type 0
HasRawLength global = HasLength global.length

globals_have_lengths : (gs : List GlobalVariable) → All HasCell gs → sum_by cell_count gs ≤ 65536 → All HasRawLength
    (map global_of gs)
globals_have_lengths [] all sum = All-nil HasRawLength
globals_have_lengths (g ∷ gs) all sum =
    let split = sum_by-cons cell_count g gs in
    All-cons HasRawLength (global_of g) (map global_of gs)
    (has_length g.length (All-head HasCell g gs all) (omega (arith, split, sum)))
    (globals_have_lengths gs (All-tail HasCell g gs all) (omega (arith, split, sum)))

few_globals : (gs : List GlobalVariable) → All HasCell gs → length gs ≤ sum_by cell_count gs
few_globals [] all = omega arith
few_globals (g ∷ gs) all =
    let split = sum_by-cons cell_count g gs in let rest = few_globals gs (All-tail HasCell g gs all) in let one =
    All-head HasCell g gs all in
    omega (arith, split, rest, one)

-- ---- the main function

each_at : {A : Type 0} (P : A → Type 0) (xs : List A) (k : ℕ) (x : A) → AllByRecursion P xs → slice_get xs k
    ≡ Some x → P x
each_at P [] k x all e = absurd cc
each_at P (y ∷ xs) zero x all e = let same : y ≡ x = cc e in subst P same all.0
each_at P (y ∷ xs) (suc k) x all e = each_at P xs k x all.1 e

-- two with the name `main` have one name
same_main : (f g : ResolvedFunctionTree) → is_main_function f ≡ true → is_main_function g ≡ true → same_name f g ≡ true
same_main f g a b =
    (bytes_eq-Decides f.name g.name).1 ((bytes_eq-Decides f.name (codes "main")).0 a
    ∙ sym ((bytes_eq-Decides g.name (codes "main")).0 b))

main_takes_nothing : (fs : List ResolvedFunctionTree) → IsDistinct same_name fs
    → (k j : ℕ) (f g : ResolvedFunctionTree) → slice_get fs k ≡ Some f → is_main_function f ≡ true
    → slice_get fs j ≡ Some g → IsMain g → f.parameters ≡ []
main_takes_nothing [] distinct k j f g ek m ej main = absurd cc
main_takes_nothing (h ∷ fs) distinct zero zero f g ek m ej main = let same : f ≡ g = cc (ek, ej) in
    ap (λ (z : ResolvedFunctionTree). z.parameters) same ∙ main.parameters
main_takes_nothing (h ∷ fs) distinct zero (suc j) f g ek m ej main =
    let same : h ≡ f = cc ek in
    let differ : same_name h g ≡ false = each_at (λ y. same_name h y ≡ false) fs j g
    (IsDistinct-head same_name h fs distinct) ej in
    let one : same_name h g ≡ true = same_main h g (ap is_main_function same ∙ m) main.named in
    absurd cc
main_takes_nothing (h ∷ fs) distinct (suc k) zero f g ek m ej main =
    let same : h ≡ g = cc ej in
    let differ : same_name h f ≡ false = each_at (λ y. same_name h y ≡ false) fs k f
    (IsDistinct-head same_name h fs distinct) ek in
    let one : same_name h f ≡ true = same_main h f (ap is_main_function same ∙ main.named) m in
    absurd cc
main_takes_nothing (h ∷ fs) distinct (suc k) (suc j) f g ek m ej main = main_takes_nothing fs
    (IsDistinct-tail same_name h fs distinct) k j f g ek m ej main

-- ---- all rules but those on heights

record IsFine (raw : Raw) : Type 0 where
  tables : HasTables raw
  inside : All (λ body. StaysInside raw.picks body.code) raw.bodies
  heights : All (λ body. HasOneHeight raw.picks body.code) raw.bodies
  known : All (λ body. IsKnown raw body) raw.bodies

all_inside : (picks : List (List ℕ)) (xs : List Body) → All (λ body. IsLevel picks body.code) xs
    → All (λ body. length body.code < 2 ^ 32) xs
    → All (λ body. StaysInside picks body.code) xs
all_inside picks [] level small = All-nil (λ (body : Body). StaysInside picks body.code)
all_inside picks (x ∷ xs) level small =
    All-cons (λ (body : Body). StaysInside picks body.code) x xs
    ((All-head (λ (body : Body). IsLevel picks body.code) x xs level).inside
    (All-head (λ (body : Body). length body.code < 2 ^ 32) x xs small))
    (all_inside picks xs (All-tail (λ (body : Body). IsLevel picks body.code) x xs level)
    (All-tail (λ (body : Body). length body.code < 2 ^ 32) x xs small))

all_heights : (picks : List (List ℕ)) (xs : List Body) → All (λ body. IsLevel picks body.code) xs
    → All (λ body. HasOneHeight picks body.code) xs
all_heights picks [] level = All-nil (λ (body : Body). HasOneHeight picks body.code)
all_heights picks (x ∷ xs) level =
    All-cons (λ (body : Body). HasOneHeight picks body.code) x xs
    (All-head (λ (body : Body). IsLevel picks body.code) x xs level).one_height
    (all_heights picks xs (All-tail (λ (body : Body). IsLevel picks body.code) x xs level))

code_tables : (tree : ResolvedTree) (raw : Raw) → IsWholeTree tree → IsCodeOf tree raw → HasTables raw
code_tables tree raw w code =
    let k = mapped_there (called_body tree.functions) (position is_main_function tree.functions) raw.main code.main in
    let f = position_there is_main_function tree.functions k.0 k.1 in
    let j = w.main.0 in let g = w.main.1 in
    let at_j : slice_get tree.functions j ≡ Some g = slice_get-get_or tree.functions j g w.main.2 ∙ ap Some w.main.3 in
    let none : f.0.parameters ≡ [] = main_takes_nothing tree.functions w.names k.0 j f.0 g f.1 f.2 at_j w.main.4 in
    let long : length f.0.parameters ≡ 0 = ap (λ z. length z) none in
    record {
      numbered = omega (
        arith,
        ap (λ z. length z) code.globals,
        length-map tree.globals global_of,
        few_globals
            tree.globals w.elements,
        w.cells,
      );
      globals = subst (λ z. All HasRawLength z) (sym code.globals) (globals_have_lengths tree.globals w.elements
          w.cells);
      main = subst (λ z. IsKnownBody raw.bodies [] z 0) k.2
          (calls tree raw code k.0 0 (subst (λ z. IsSomeAnd z (λ function. length function.parameters ≡ 0))
          (sym f.1) long));
    }

code_is_fine : (tree : ResolvedTree) (raw : Raw) → IsWholeTree tree → TreeCopiesBehind tree → IsCodeOf tree raw
    → AreNumbered raw → IsFine raw
code_is_fine tree raw w behind code numbered = record {
  tables = code_tables tree raw w code;
  inside = all_inside raw.picks raw.bodies (code_is_level tree raw code) numbered.code;
  heights = all_heights raw.picks raw.bodies (code_is_level tree raw code);
  known = all_known tree raw code (bodies_of tree) raw.bodies code.bodies (bodies_placed tree w behind) numbered.slots;
}

all_valid : (raw : Raw) (xs : List Body) → All (λ body. StaysInside raw.picks body.code) xs
    → All (λ body. HasOneHeight raw.picks body.code) xs
    → All (λ body. IsLow raw.picks body.code) xs → All (λ body. IsKnown raw body) xs
    → All (λ body. IsValidBody raw body) xs
all_valid raw [] inside heights low known = All-nil (λ body. IsValidBody raw body)
all_valid raw (x ∷ xs) inside heights low known =
    All-cons (λ body. IsValidBody raw body) x xs
    (record {
      stays_inside = All-head (λ (body : Body). StaysInside raw.picks body.code) x xs inside;
      one_height = All-head (λ (body : Body). HasOneHeight raw.picks body.code) x xs heights;
      low = All-head (λ (body : Body). IsLow raw.picks body.code) x xs low;
      known = All-head (λ body. IsKnown raw body) x xs known;
    })
    (all_valid raw xs (All-tail (λ (body : Body). StaysInside raw.picks body.code) x xs inside)
    (All-tail (λ (body : Body). HasOneHeight raw.picks body.code) x xs heights)
    (All-tail (λ (body : Body). IsLow raw.picks body.code) x xs low) (All-tail (λ body. IsKnown raw body) x xs known))

pub code_is_valid : CodeIsValid
code_is_valid tree raw w behind code numbered low =
    let f = code_is_fine tree raw w behind code numbered in
    record { tables = f.tables; bodies = all_valid raw raw.bodies f.inside f.heights low f.known }

-- what holds of all fails of none
none_fails : {A : Type 0} (P : A → Type 0) (xs : List A) → All P xs → Any (λ x. ¬ (P x)) xs → ⊥
none_fails P xs all any = any.4 (subst P any.3 (all any.0 any.1 any.2))

pub code_faults : CodeFaults
code_faults tree raw w behind code numbered Memory b = tt
code_faults tree raw w behind code numbered JumpOut b =
    none_fails (λ (body : Body). StaysInside raw.picks body.code) raw.bodies (code_is_fine tree raw w behind code
    numbered).inside b
code_faults tree raw w behind code numbered Heights b =
    none_fails (λ (body : Body). HasOneHeight raw.picks body.code) raw.bodies (code_is_fine tree raw w behind code
    numbered).heights b
code_faults tree raw w behind code numbered TooHigh b = tt
code_faults tree raw w behind code numbered Unknown b =
    ⊎_elim
    (λ (no_tables : ¬ (HasTables raw)). no_tables (code_is_fine tree raw w behind code numbered).tables)
    (λ (unknown : Any (λ body. ¬ (IsKnown raw body)) raw.bodies). none_fails (λ body. IsKnown raw body) raw.bodies
    (code_is_fine tree raw w behind code numbered).known unknown)
    b

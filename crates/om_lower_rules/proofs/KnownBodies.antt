-- What the code of a whole tree names exists.
use Rattle.std.proofs.Common.{◌≡◌, ℕ, zero, suc, ◌^◌, ◌≤◌, Bool, true, false, List, [], ◌∷◌, ◌++◌, length, Option, Some}
use Rattle.std.proofs.Common.{None, refl, sym, ap, ◌∙◌, subst, arith}
use Rattle.std.specs.Prelude.{slice_get, map, nat_eq, All, IfSome, IsSomeAnd, position, ◌<◌}
use Rattle.std.specs.List.{AllZip, flat_map, list_any}
use Rattle.std.specs.Str.{bytes_eq}
use Rattle.std.proofs.lemmas.List.{length-map}
use Rattle.std.proofs.lemmas.Option.{slice_get_within}
use Rattle.std.proofs.lemmas.List.Quantifiers.{position-Some}
use Rattle.std.proofs.lemmas.List.Elements.{All-nil, All-cons, All-head, All-tail, All-map}
use Rattle.om_code.specs.declared.raw.Body.{Body}
use Rattle.om_code.specs.declared.raw.Line.{Line}
use Rattle.om_code.specs.declared.raw.Raw.{Raw}
use Rattle.om_code.specs.declared.raw.Scope.{Scope}
use Rattle.om_code.specs.declared.raw.Slot.{Slot}
use Rattle.om_code.specs.Validity.{FitsOuter, CanBegin, IsKnownBody, IsKnown, IsGiven, NamesKnown, HasNames}
use Rattle.om_code.specs.Validity.{IsScopeOf}
use Rattle.om_scope_tree.specs.declared.resolved.LocalVariable.{LocalVariable}
use Rattle.om_scope_tree.specs.declared.resolved.RegionKind.TheVariants as kinds
use Rattle.om_scope_tree.specs.ResolvedTree.{ResolvedFunctionTree, ResolvedTree}
use Rattle.om_scope_tree.specs.Whole.{within, of_parallel}
use Rattle.om_lower_rules.specs.Bodies.{Numbers, first_numbers, called_body, BodyTree, FunctionBody, RegionBody}
use Rattle.om_lower_rules.specs.Bodies.{BodySite, variables_of, region_variables, function_variables, bodies_of}
use Rattle.om_lower_rules.specs.Code.{given_variables, captures_of, slots_of, given_of, site_of, IsBodyOf}
use Rattle.om_lower_rules.specs.Code.{IsCodeOf}
use Rattle.om_lower_rules.specs.declared.variables.VariableScope.{VariableScope}
use Rattle.om_lower_rules.specs.Scopes.{scope_in, slot_among}
use Rattle.om_lower_rules.specs.Mentions.{extents_of, format_mention, formats_of, tree_mentioned}
use Rattle.om_lower_rules.specs.Laws.{FunctionBodies, FormatsAreNumbered}
use Rattle.om_lower_rules.specs.Rows.{Site}
use Rattle.om_lower_rules.specs.Slots.{FirstCopy, parameter_sight, region_clause_sights, statement_sights, statements_sights}
use Rattle.om_lower_rules.specs.Slots.{slot_of, slot_with, source_of, cells_in, shares, first_copies}
use Rattle.om_lower_rules.specs.Statements.{last_instruction, nowhere, given_copies}
use Rattle.om_lower_rules.proofs.Given.{cells_there, given_own, fits_round, first_unshared, IsUnshared, IsOrdered, ordered}
use Rattle.om_lower_rules.proofs.Given.{has_itself}
use Rattle.om_lower_rules.proofs.Named.{Named, named_end, named_ins, named_part, Has, has_front, has_back, table_has}
use Rattle.om_lower_rules.proofs.NamedBodies as parts
use Rattle.om_lower_rules.proofs.NamedBodies.{Bodies}
use Rattle.om_lower_rules.proofs.NamedExpressions.{Program, same_bytes, same_nat}
use Rattle.om_lower_rules.proofs.NamedStatements as heads
use Rattle.om_lower_rules.proofs.Placed.{IsPlaced}
use Rattle.om_lower_rules.specs.Positions.{function_body_there, stands_whole}

-- what stands beside the k-th of one list in the other
zip_there : {A B : Type 0} (R : A → B → Type 0) (xs : List A) (ys : List B) (k : ℕ) (x : A) → AllZip R xs ys
    → slice_get xs k ≡ Some x
    → (y : B) × (slice_get ys k ≡ Some y) × R x y
zip_there R [] ys k x zip e = absurd cc
zip_there R (a ∷ xs) [] k x zip e = absurd zip
zip_there R (a ∷ xs) (y ∷ ys) zero x zip e = let same : a ≡ x = cc e in (y, refl, subst (λ z. R z y) same zip.0)
zip_there R (a ∷ xs) (y ∷ ys) (suc k) x zip e = zip_there R xs ys k x zip.1 e

all_from_get : {A : Type 0} (P : A → Type 0) (xs : List A) → ((k : ℕ) (x : A) → slice_get xs k ≡ Some x → P x)
    → All P xs
all_from_get P [] f = All-nil P
all_from_get P (x ∷ xs) f = All-cons P x xs (f 0 x refl) (all_from_get P xs (λ k y e. f (suc k) y e))

all_of : {A : Type 0} (P : A → Type 0) (xs : List A) → ((x : A) → P x) → All P xs
all_of P [] f = All-nil P
all_of P (x ∷ xs) f = All-cons P x xs (f x) (all_of P xs f)

module _ (tree : ResolvedTree) (raw : Raw) (code : IsCodeOf tree raw) where
  -- the body of the program that is this one of the tree
  there : (k : ℕ) (b : BodySite) → slice_get (bodies_of tree) k ≡ Some b → (body : Body)
      × (slice_get raw.bodies k ≡ Some body) × IsBodyOf tree raw b body
  there k b e = zip_there (IsBodyOf tree raw) (bodies_of tree) raw.bodies k b code.bodies e

  -- a body can begin with its values beside a frame of the body round it
  begins : (k : ℕ) (b : BodySite) (outer : List Slot) → slice_get (bodies_of tree) k ≡ Some b
      → ((x : ℕ) → FitsOuter outer (cells_in (extents_of b.function) x) (source_of b.outer (captures_of b.tree) x))
      → IsKnownBody raw.bodies outer k (length (given_of b))
  begins k b outer e fits =
      let body = there k b e in
      subst (λ z. IsSomeAnd z (λ x. CanBegin outer (length (given_of b)) x)) (sym body.1)
      (record {
        given = ap (λ z. length z) body.2.given;
        fits = subst (λ z. All (λ slot. FitsOuter outer slot.cells slot.source) z) (sym body.2.slots)
            (All-map (λ (slot : Slot). FitsOuter outer slot.cells slot.source) (slot_with (extents_of b.function)
            b.outer (captures_of b.tree)) (variables_of b)
            (all_of (λ x. FitsOuter outer (cells_in (extents_of b.function) x)
            (source_of b.outer (captures_of b.tree) x)) (variables_of b) fits));
      })

  pub calls : (k count : ℕ) → IsSomeAnd (slice_get tree.functions k) (λ function. length function.parameters ≡ count)
      → IsKnownBody raw.bodies [] (called_body tree.functions k) count
  calls k count w = found (slice_get tree.functions k) refl w
    where
      found : (f : Option ResolvedFunctionTree) → slice_get tree.functions k ≡ f
          → IsSomeAnd f (λ function. length function.parameters ≡ count)
          → IsKnownBody raw.bodies [] (called_body tree.functions k) count
      found None e w = absurd w
      found (Some f) e w =
          let body = function_body_there tree.functions k f first_numbers (bodies_of tree)
          (stands_whole (bodies_of tree)) e in
          let b : BodySite = record { function = f; tree = FunctionBody; outer = []; numbers = body.0 } in
          let long : length (given_of b) ≡ count =
          length-map (map parameter_sight f.parameters) (slot_of (variables_of b)) ∙ length-map f.parameters
          parameter_sight ∙ w in
          subst (λ z. IsKnownBody raw.bodies [] (called_body tree.functions k) z) long
          (begins (called_body tree.functions k) b [] body.1 (λ x. tt))

  module _ (b : BodySite) (body : Body) (is : IsBodyOf tree raw b body) (placed : IsPlaced tree b) where
    abbrev at : Site
    at = site_of tree raw b body

    slot_count : length body.slots ≡ length (variables_of b)
    slot_count = ap (λ z. length z) is.slots ∙ length-map (variables_of b) (slot_with (extents_of b.function)
        b.outer (captures_of b.tree))

    program : Program tree raw at body.slots
    program = record { globals = code.globals; texts = code.texts; slot_count = slot_count; calls = calls }

    bodies : Bodies tree raw at body.slots b.function
    bodies = record {
      locks = code.locks;
      picks = refl;
      region = λ k other e same_function same_outer v.
          begins k other body.slots e
          (λ x. subst (λ (z : List Slot). FitsOuter z (cells_in (extents_of other.function) x)
          (source_of other.outer (captures_of other.tree) x)) (sym is.slots)
          (subst (λ (z : ResolvedFunctionTree). FitsOuter (slots_of b) (cells_in (extents_of z) x)
          (source_of other.outer (captures_of other.tree) x)) (sym same_function)
          (subst (λ (z : List ℕ). FitsOuter (slots_of b) (cells_in (extents_of b.function) x)
          (source_of z (captures_of other.tree) x)) (sym same_outer)
          (fits_round (extents_of b.function) b.outer (captures_of b.tree) (captures_of other.tree) (variables_of b)
          x v))));
    }

    -- ---- values are given to slots of the body itself

    abbrev Given : ℕ → Type 0
    Given x = IsGiven (slots_of b) (slot_of (variables_of b) x)

    given_parameters : (xs : List LocalVariable) → captures_of b.tree ≡ [] → Has nat_eq (variables_of b)
        (map parameter_sight xs) → All Given (map parameter_sight xs)
    given_parameters [] none h = All-nil Given
    given_parameters (x ∷ xs) none h =
        All-cons Given x.at (map parameter_sight xs)
        (given_own (extents_of b.function) b.outer (captures_of b.tree) (variables_of b) x.at h.0
        (ap (λ z. list_any (shares x.at) z) none))
        (given_parameters xs none h.1)

    given_copied : (xs : List FirstCopy) → All (IsOrdered (IsUnshared (captures_of b.tree)) (variables_of b)) xs
        → All Given (map (λ copy. copy.variable) xs)
    given_copied [] all = All-nil Given
    given_copied (x ∷ xs) all =
        let one = All-head (IsOrdered (IsUnshared (captures_of b.tree)) (variables_of b)) x xs all in
        All-cons Given x.variable (map (λ (copy : FirstCopy). copy.variable) xs)
        (given_own (extents_of b.function) b.outer (captures_of b.tree) (variables_of b) x.variable one.there one.so)
        (given_copied xs (All-tail (IsOrdered (IsUnshared (captures_of b.tree)) (variables_of b)) x xs all))

    all_given : All Given (given_variables b.function b.tree) → All (λ number. IsGiven body.slots number) body.given
    all_given all =
        subst (λ z. All (λ number. IsGiven z number) body.given) (sym is.slots)
        (subst (λ z. All (λ number. IsGiven (slots_of b) number) z) (sym is.given)
        (All-map (λ number. IsGiven (slots_of b) number) (slot_of (variables_of b))
        (given_variables b.function b.tree) all))

    cells : All (λ slot. 1 ≤ slot.cells) body.slots
    cells =
        subst (λ z. All (λ slot. 1 ≤ slot.cells) z) (sym is.slots)
        (All-map (λ (slot : Slot). 1 ≤ slot.cells) (slot_with (extents_of b.function) b.outer (captures_of b.tree))
        (variables_of b)
        (all_of (λ x. 1 ≤ cells_in (extents_of b.function) x) (variables_of b)
        (λ x. cells_there (extents_of b.function) x placed.extents)))

    -- ---- the variables of scopes are slots

    has_names : HasNames body.slots body.names
    has_names =
        subst (λ z. HasNames body.slots z) (sym is.names.named)
        (record {
          scopes = All-map (λ (scope : Scope). IsScopeOf body.slots scope) (scope_in (variables_of b))
              is.names.scopes
              (all_of (λ (v : VariableScope). IsScopeOf body.slots (scope_in (variables_of b) v))
              is.names.scopes (λ v. slot_within v.variable (position (nat_eq v.variable) (variables_of b))
              refl));
          outer = omega (arith, slot_count, length-map (variables_of b) (slot_among b.outer));
        })
      where
        slot_within : (x : ℕ) (found : Option ℕ) → position (nat_eq x) (variables_of b) ≡ found
            → IfSome found (λ slot. slot < length body.slots)
        slot_within x None e = tt
        slot_within x (Some k) e = omega (arith, slot_count, (position-Some (nat_eq x) (variables_of b) k 0 e).0)

    all_named : Named raw body.slots body.code 0 (length body.code)
        → All (λ line. NamesKnown raw body.slots line.instruction) body.code
    all_named n = all_from_get (λ (line : Line). NamesKnown raw body.slots line.instruction) body.code
        (λ k line e. n.by k (omega arith) (slice_get_within body.code k line e) line e)

  last_known : (slots : List Slot) (is_main : Bool) → NamesKnown raw slots (last_instruction is_main false)
  last_known slots true = tt
  last_known slots false = tt

  -- a body knows what it names, whatever it is a body of
  known_site : (f : ResolvedFunctionTree) (t : BodyTree) (outer : List ℕ) (n : Numbers) (body : Body)
      → IsBodyOf tree raw (record { function = f; tree = t; outer = outer; numbers = n }) body
      → IsPlaced tree (record { function = f; tree = t; outer = outer; numbers = n })
      → length body.slots ≤ 2 ^ 32 → IsKnown raw body
  known_site f FunctionBody outer n body is p small =
      let b : BodySite = record { function = f; tree = FunctionBody; outer = outer; numbers = n } in
      let h = table_has nat_eq same_nat (map parameter_sight f.parameters ++ statements_sights f.body) in
      let vp = has_front nat_eq (function_variables f) (map parameter_sight f.parameters) (statements_sights f.body)
      h in
      let vs = has_back nat_eq (function_variables f) (map parameter_sight f.parameters) (statements_sights f.body) h in
      record {
        numbered = small;
        cells = cells b body is p;
        given = all_given b body is p (given_parameters b body is p f.parameters refl vp);
        names = all_named b body is p
            (named_part is.code
            (parts.statements_names tree raw (at b body is p) body.slots (program b body is p) f
            (bodies b body is p) f.body n nowhere p.around p.here p.whole vs
            p.formats p.locks p.inside 0)
            (λ m r. named_ins r (last_known body.slots (at b body is p).is_main) named_end));
        named = has_names b body is p;
      }
  known_site f (RegionBody first kinds.Parallel clauses captures s) outer n body is p small =
      let b : BodySite = record {
        function = f;
        tree = RegionBody first kinds.Parallel clauses captures s;
        outer = outer;
        numbers = n;
      } in
      let h = table_has nat_eq same_nat (flat_map region_clause_sights clauses ++ statement_sights s) in
      let vc = has_front nat_eq (region_variables clauses s) (flat_map region_clause_sights clauses)
      (statement_sights s) h in
      let vs = has_back nat_eq (region_variables clauses s) (flat_map region_clause_sights clauses)
      (statement_sights s) h in
      let own = ordered (IsUnshared captures) (region_variables clauses s) (region_variables clauses s)
      (first_copies clauses captures)
      (has_itself (region_variables clauses s)) (first_unshared first.start clauses captures s p.whole.region.taken
      p.whole.copies) in
      record {
        numbered = small;
        cells = cells b body is p;
        given = all_given b body is p (given_copied b body is p (given_copies clauses captures s) own);
        names = all_named b body is p
            (named_ins is.code tt (λ r.
            named_part r (heads.reduction_starts_names tree raw (at b body is p) body.slots (program b body is p)
            first.line clauses vc 1) (λ m r.
            named_part r
            (parts.statement_names tree raw (at b body is p) body.slots (program b body is p) f (bodies b body is p)
            s n nowhere (within p.around clauses) p.here
            p.whole.body vs p.formats p.locks p.inside m) (λ m r.
            named_part r
            (heads.reductions_names tree raw (at b body is p) body.slots (program b body is p) first.line clauses
            p.around of_parallel p.here p.whole.listed vc m) (λ m r.
            named_ins r tt (λ r. named_ins r tt named_end))))));
        named = has_names b body is p;
      }
  known_site f (RegionBody first kinds.Task clauses captures s) outer n body is p small =
      let b : BodySite = record {
        function = f;
        tree = RegionBody first kinds.Task clauses captures s;
        outer = outer;
        numbers = n;
      } in
      let h = table_has nat_eq same_nat (flat_map region_clause_sights clauses ++ statement_sights s) in
      let vs = has_back nat_eq (region_variables clauses s) (flat_map region_clause_sights clauses)
      (statement_sights s) h in
      let own = ordered (IsUnshared captures) (region_variables clauses s) (region_variables clauses s)
      (first_copies clauses captures)
      (has_itself (region_variables clauses s)) (first_unshared first.start clauses captures s p.whole.region.taken
      p.whole.copies) in
      record {
        numbered = small;
        cells = cells b body is p;
        given = all_given b body is p (given_copied b body is p (given_copies clauses captures s) own);
        names = all_named b body is p
            (named_part is.code
            (parts.statement_names tree raw (at b body is p) body.slots (program b body is p) f (bodies b body is p)
            s n nowhere (within p.around clauses) p.here
            p.whole.body vs p.formats p.locks p.inside 0)
            (λ m r. named_ins r tt named_end));
        named = has_names b body is p;
      }

  pub all_known : (bs : List BodySite) (xs : List Body) → AllZip (IsBodyOf tree raw) bs xs → All (IsPlaced tree) bs
      → All (λ body. length body.slots ≤ 2 ^ 32) xs → All (λ body. IsKnown raw body) xs
  all_known [] [] zip p small = All-nil (λ body. IsKnown raw body)
  all_known [] (x ∷ xs) zip p small = absurd zip
  all_known (b ∷ bs) [] zip p small = absurd zip
  all_known (b ∷ bs) (x ∷ xs) zip p small =
      All-cons (λ body. IsKnown raw body) x xs
      (known_site b.function b.tree b.outer b.numbers x zip.0 (All-head (IsPlaced tree) b bs p)
      (All-head (λ (body : Body). length body.slots ≤ 2 ^ 32) x xs small))
      (all_known bs xs zip.1 (All-tail (IsPlaced tree) b bs p)
      (All-tail (λ (body : Body). length body.slots ≤ 2 ^ 32) x xs small))

pub function_bodies : FunctionBodies
function_bodies tree raw code k f e =
    let m = function_body_there tree.functions k f first_numbers (bodies_of tree) (stands_whole (bodies_of tree)) e in
    let b : BodySite = record { function = f; tree = FunctionBody; outer = []; numbers = m.0 } in
    let body = there tree raw code (called_body tree.functions k) b m.1 in
    (m.0, subst (λ z. IsSomeAnd z (IsBodyOf tree raw b)) (sym body.1) body.2)

has_all : (table xs : List (List ℕ)) → Has bytes_eq table xs → All (λ x. list_any (bytes_eq x) table ≡ true) xs
has_all table [] h = All-nil (λ x. list_any (bytes_eq x) table ≡ true)
has_all table (x ∷ xs) h = All-cons (λ x. list_any (bytes_eq x) table ≡ true) x xs h.0 (has_all table xs h.1)

pub formats_are_numbered : FormatsAreNumbered
formats_are_numbered tree =
    has_all (formats_of tree) (tree_mentioned format_mention tree)
    (table_has bytes_eq same_bytes (tree_mentioned format_mention tree))

-- What is known of the bodies of a function, by their numbers.
use Rattle.std.proofs.Common.{◌≡◌, ◌<◌, ℕ, zero, suc, ◌+◌, ◌-◌, ◌^◌, List, [], ◌∷◌, ◌++◌, Some, All, length, map, take}
use Rattle.std.proofs.Common.{slice_get, refl, sym, ap, subst, ◌∙◌, arith}
use Rattle.std.proofs.lemmas.List.{append_assoc, length-append, length-map, map-append, take-map}
use Rattle.std.proofs.lemmas.List.Elements.{All-nil, All-cons, All-append}
use Rattle.std.proofs.lemmas.List.Sums.{sum_by-cons}
use Rattle.std.specs.Prelude.{sum}
use Rattle.std.proofs.lemmas.Option.{slice_get_within}
use Rattle.std.specs.List.{AllZip}
use Rattle.om_lower.specs.Limits.{HasFewSlots}
use Rattle.om_lower.specs.Ready.{IsListed, IsPlaced}
use Rattle.om_lower.proofs.Items.{all_at, take_pushed}
use Rattle.om_scope_tree.specs.ResolvedTree.{ResolvedStatementTree, Declaration, Block, Empty, Expression, If, IfElse}
use Rattle.om_scope_tree.specs.ResolvedTree.{While, Do, For, Return, Break, Continue, Region, Loop, Sections}
use Rattle.om_scope_tree.specs.ResolvedTree.{Construct, Update, StandAlone, ResolvedStatementsTree, NoStatements}
use Rattle.om_scope_tree.specs.ResolvedTree.{Statement, ResolvedPartsTree, NoParts, Part, ResolvedFunctionTree}
use Rattle.om_scope_tree.specs.Weights.{function_weight, parts_weight, statement_weight, statements_weight}
use Rattle.om_lower_tables.specs.Weighed.{statement_few, statements_few}
use Rattle.om_lower_rules.specs.Bodies.{BodySite, BodyTree, FunctionBody, Numbers, RegionBody, all_regions}
use Rattle.om_lower_rules.specs.Bodies.{behind, behind_all, behind_function, behind_functions, first_numbers}
use Rattle.om_lower_rules.specs.Bodies.{function_bodies, function_variables, next_body, next_pick, parts_regions}
use Rattle.om_lower_rules.specs.Bodies.{region_variables, regions, variables_of}
use Rattle.om_lower_rules.specs.Slots.{Extent}
use Rattle.om_lower_rules.specs.Positions.{StandsAt, all_regions_long, function_long, get_back, get_front, regions_long}
use Rattle.om_lower_rules.specs.Positions.{stands_back, stands_front, stands_head, stands_whole}
use Rattle.om_lower_rules.specs.Ends.{HasAllEnds, HasEnds, HasPartsEnds, IsKnown, KnownBodies, all_region_ends, ends_from}
use Rattle.om_lower_rules.specs.Ends.{function_ends, parts_region_ends, region_ends}
use Rattle.om_lower_rules.specs.ProgramTables.{AreCellsOf}

-- ---- the numbers behind bodies

abbrev body_end : Numbers → ResolvedFunctionTree → BodyTree → Numbers
body_end n f FunctionBody = behind_all n f.body
body_end n f (RegionBody first kind clauses captures s) = behind n s

abbrev end_of : BodySite → Numbers
end_of b = body_end b.numbers b.function b.tree

joined : (xs ys : List Numbers) (left right : List BodySite) → xs ≡ map end_of left → ys ≡ map end_of right
    → xs ++ ys ≡ map end_of (left ++ right)
joined xs ys left right one other =
    ap (λ zs. zs ++ ys) one ∙ ap (λ zs. map end_of left ++ zs) other ∙ sym (map-append end_of left right)

-- they are found as the bodies stand
mutual
  unfolding regions all_regions parts_regions

  same_ends : (f : ResolvedFunctionTree) (outer : List ℕ) (n : Numbers) (s : ResolvedStatementTree)
      → region_ends n s ≡ map end_of (regions f outer n s)
  same_ends f outer n (Declaration at ds) = refl
  same_ends f outer n (Block at items) = same_all f outer n items
  same_ends f outer n (Empty at) = refl
  same_ends f outer n (Expression at e) = refl
  same_ends f outer n (If at c s) = same_ends f outer n s
  same_ends f outer n (IfElse at c s t) =
      joined _ _ (regions f outer n s) (regions f outer (behind n s) t) (same_ends f outer n s)
      (same_ends f outer (behind n s) t)
  same_ends f outer n (While at c s) = same_ends f outer n s
  same_ends f outer n (Do at s c) = same_ends f outer n s
  same_ends f outer n (For at start condition step s) = same_ends f outer n s
  same_ends f outer n (Return at value) = refl
  same_ends f outer n (Break at) = refl
  same_ends f outer n (Continue at) = refl
  same_ends f outer n (Region at kind clauses captures s) =
      ap (λ rest. behind (next_body n) s ∷ rest) (same_ends f (region_variables clauses s) (next_body n) s)
  same_ends f outer n (Loop at clauses nowait l s) = same_ends f outer n s
  same_ends f outer n (Sections at clauses nowait parts) = same_parts f outer (next_pick n) parts
  same_ends f outer n (Construct at kind clauses s) = same_ends f outer n s
  same_ends f outer n (Update at u) = refl
  same_ends f outer n (StandAlone at directive) = refl

  same_all : (f : ResolvedFunctionTree) (outer : List ℕ) (n : Numbers) (items : ResolvedStatementsTree)
      → all_region_ends n items ≡ map end_of (all_regions f outer n items)
  same_all f outer n NoStatements = refl
  same_all f outer n (Statement s rest) =
      joined _ _ (regions f outer n s) (all_regions f outer (behind n s) rest) (same_ends f outer n s)
      (same_all f outer (behind n s) rest)

  same_parts : (f : ResolvedFunctionTree) (outer : List ℕ) (n : Numbers) (parts : ResolvedPartsTree)
      → parts_region_ends n parts ≡ map end_of (parts_regions f outer n parts)
  same_parts f outer n NoParts = refl
  same_parts f outer n (Part items rest) =
      joined _ _ (all_regions f outer n items) (parts_regions f outer (behind_all n items) rest)
      (same_all f outer n items) (same_parts f outer (behind_all n items) rest)

same_function : (n : Numbers) (f : ResolvedFunctionTree) → function_ends n f ≡ map end_of (function_bodies n f)
same_function n f = ap (λ rest. behind_function n f ∷ rest) (same_all f (function_variables f) (next_body n) f.body)

ends_long : (n : Numbers) (f : ResolvedFunctionTree) → n.bodies + length (function_ends n f)
    ≡ (behind_function n f).bodies
ends_long n f =
    let same = ap (λ all. length all) (same_function n f) ∙ length-map (function_bodies n f) end_of in
    let long = function_long f n in omega (arith, same, long)

-- ---- those of a function among those of a program

function_stands : (ends : List Numbers) (n : Numbers) (fs : List ResolvedFunctionTree) (k : ℕ)
    (f : ResolvedFunctionTree) → StandsAt ends n.bodies (ends_from n fs) → slice_get fs k ≡ Some f
    → StandsAt ends (behind_functions n (take k fs)).bodies (function_ends (behind_functions n (take k fs)) f)
function_stands ends n [] k f h at = cc
function_stands ends n (g ∷ fs) zero f h at =
    let same : g ≡ f = cc in
    subst (λ x. StandsAt ends n.bodies (function_ends n x)) same
    (stands_front ends (function_ends n g) (ends_from (behind_function n g) fs) n.bodies h)
function_stands ends n (g ∷ fs) (suc k) f h at =
    function_stands ends (behind_function n g) fs k f
    (stands_back ends (function_ends n g) (ends_from (behind_function n g) fs) n.bodies
    (behind_function n g).bodies (ends_long n g) h) at

-- by the tables of a program
pub ends_stand : (ends : List Numbers) (fs : List ResolvedFunctionTree) (k : ℕ) (f : ResolvedFunctionTree)
    (n : Numbers) → ends ≡ ends_from first_numbers fs → slice_get fs k ≡ Some f
    → n ≡ behind_functions first_numbers (take k fs) → StandsAt ends n.bodies (function_ends n f)
ends_stand ends fs k f n same at is =
    subst (λ m. StandsAt ends m.bodies (function_ends m f)) (sym is)
    (subst (λ all. StandsAt all (behind_functions first_numbers (take k fs)).bodies
    (function_ends (behind_functions first_numbers (take k fs)) f)) (sym same)
    (function_stands (ends_from first_numbers fs) first_numbers fs k f (stands_whole (ends_from first_numbers fs)) at))

-- those behind the function itself
pub end_there : (ends : List Numbers) (n : Numbers) (f : ResolvedFunctionTree)
    → StandsAt ends n.bodies (function_ends n f) → n.bodies < length ends
end_there ends n f h =
    slice_get_within ends n.bodies (behind_function n f)
    (stands_head ends (behind_function n f) (all_region_ends (next_body n) f.body) n.bodies h)

pub end_is : (ends : List Numbers) (n : Numbers) (f : ResolvedFunctionTree) (x : Numbers)
    → StandsAt ends n.bodies (function_ends n f) → slice_get ends n.bodies ≡ Some x → x ≡ behind_function n f
end_is ends n f x h at =
    let there = stands_head ends (behind_function n f) (all_region_ends (next_body n) f.body) n.bodies h in cc

-- ---- bodies that are known

-- from this number on, these bodies are known
record AreKnown (known : KnownBodies) (k : ℕ) (bodies : List BodySite) : Type 0 where
  by : (i : ℕ) (b : BodySite) → slice_get bodies i ≡ Some b → IsKnown known (k + i) (end_of b) (variables_of b)

known_as : (known : KnownBodies) (k m : ℕ) (b : BodySite) → k ≡ m → IsKnown known m (end_of b) (variables_of b)
    → IsKnown known k (end_of b) (variables_of b)
known_as known k m b same is = subst (λ i. IsKnown known i (end_of b) (variables_of b)) (sym same) is

known_front : (known : KnownBodies) (xs ys : List BodySite) (k : ℕ) → AreKnown known k (xs ++ ys)
    → AreKnown known k xs
known_front known xs ys k h = record { by = λ i b at. h.by i b (get_front xs ys i b at) }

known_back : (known : KnownBodies) (xs ys : List BodySite) (k m : ℕ) → k + length xs ≡ m
    → AreKnown known k (xs ++ ys) → AreKnown known m ys
known_back known xs ys k m same h = record {
  by = λ i b at. known_as known (m + i) (k + (length xs + i)) b (omega (arith, same))
      (h.by (length xs + i) b (get_back xs ys i b at));
}

known_head : (known : KnownBodies) (b : BodySite) (xs : List BodySite) (k : ℕ) → AreKnown known k (b ∷ xs)
    → IsKnown known k (end_of b) (variables_of b)
known_head known b xs k h = known_as known k (k + 0) b (omega arith) (h.by 0 b refl)

known_tail : (known : KnownBodies) (b : BodySite) (xs : List BodySite) (k : ℕ) → AreKnown known k (b ∷ xs)
    → AreKnown known (k + 1) xs
known_tail known b xs k h = record {
  by = λ i x at. known_as known (k + 1 + i) (k + suc i) x (omega arith) (h.by (suc i) x at);
}

-- its variables stand at its number
listed_at : (known : KnownBodies) (b : BodySite) (k : ℕ) → IsKnown known k (end_of b) (variables_of b)
    → b.numbers.bodies ≡ k + 1 → IsListed known.slots b
listed_at known b k is next =
    let number : b.numbers.bodies - 1 ≡ k = omega (arith, next) in record {
      begun = omega (arith, next);
      there = ap (λ i. slice_get known.slots i) number ∙ is.slots;
    }

-- behind a part of this weight numbers have 32 bits
abbrev pub Room : Numbers → (weight : ℕ) → Type 0
Room n weight = n.bodies + n.picks + weight < 2 ^ 32

-- so are the regions in a part of a body, and in them; the numbers behind its lists of PICK have 32 bits
mutual
  unfolding regions all_regions parts_regions statement_weight statements_weight parts_weight

  knows : (known : KnownBodies) (f : ResolvedFunctionTree) (outer : List ℕ) (n : Numbers)
      (s : ResolvedStatementTree) → Room n (statement_weight s) → AreKnown known n.bodies (regions f outer n s)
      → HasEnds known n s × All (IsPlaced known) (regions f outer n s)
  knows known f outer n (Declaration at ds) r h = (tt, All-nil (IsPlaced known))
  knows known f outer n (Block at items) r h = knows_all known f outer n items r h
  knows known f outer n (Empty at) r h = (tt, All-nil (IsPlaced known))
  knows known f outer n (Expression at e) r h = (tt, All-nil (IsPlaced known))
  knows known f outer n (If at c s) r h = knows known f outer n s (omega (arith, r)) h
  knows known f outer n (IfElse at c s t) r h =
      let left = regions f outer n s in
      let right = regions f outer (behind n s) t in
      let one = knows known f outer n s (omega (arith, r)) (known_front known left right n.bodies h) in
      let other = knows known f outer (behind n s) t (omega (arith, r, statement_few n s))
      (known_back known left right n.bodies (behind n s).bodies (regions_long f s outer n) h) in (
        (one.0, other.0),
        All-append (IsPlaced known) left right one.1 other.1,
      )
  knows known f outer n (While at c s) r h = knows known f outer n s (omega (arith, r)) h
  knows known f outer n (Do at s c) r h = knows known f outer n s (omega (arith, r)) h
  knows known f outer n (For at start condition step s) r h = knows known f outer n s (omega (arith, r)) h
  knows known f outer n (Return at value) r h = (tt, All-nil (IsPlaced known))
  knows known f outer n (Break at) r h = (tt, All-nil (IsPlaced known))
  knows known f outer n (Continue at) r h = (tt, All-nil (IsPlaced known))
  knows known f outer n (Region at kind clauses captures s) r h =
      let here : BodySite = record {
        function = f;
        tree = RegionBody at kind clauses captures s;
        outer = outer;
        numbers = next_body n;
      } in
      let inner = regions f (region_variables clauses s) (next_body n) s in
      let head = known_head known here inner n.bodies h in
      let rest = knows known f (region_variables clauses s) (next_body n) s (omega (arith, r))
      (known_tail known here inner n.bodies h) in (
        head,
        All-cons (IsPlaced known) here inner (record { listed = listed_at known here n.bodies head refl; regions = rest.0 })
            rest.1,
      )
  knows known f outer n (Loop at clauses nowait l s) r h = knows known f outer n s (omega (arith, r)) h
  knows known f outer n (Sections at clauses nowait parts) r h =
      let rest = knows_parts known f outer (next_pick n) parts (omega (arith, r)) h in
      ((omega (arith, r), rest.0), rest.1)
  knows known f outer n (Construct at kind clauses s) r h = knows known f outer n s (omega (arith, r)) h
  knows known f outer n (Update at u) r h = (tt, All-nil (IsPlaced known))
  knows known f outer n (StandAlone at directive) r h = (tt, All-nil (IsPlaced known))

  knows_all : (known : KnownBodies) (f : ResolvedFunctionTree) (outer : List ℕ) (n : Numbers)
      (items : ResolvedStatementsTree) → Room n (statements_weight items) → AreKnown known n.bodies (all_regions f outer n items)
      → HasAllEnds known n items × All (IsPlaced known) (all_regions f outer n items)
  knows_all known f outer n NoStatements r h = (tt, All-nil (IsPlaced known))
  knows_all known f outer n (Statement s rest) r h =
      let left = regions f outer n s in
      let right = all_regions f outer (behind n s) rest in
      let one = knows known f outer n s (omega (arith, r)) (known_front known left right n.bodies h) in
      let other = knows_all known f outer (behind n s) rest (omega (arith, r, statement_few n s))
      (known_back known left right n.bodies (behind n s).bodies (regions_long f s outer n) h) in (
        (one.0, other.0),
        All-append (IsPlaced known) left right one.1 other.1,
      )

  knows_parts : (known : KnownBodies) (f : ResolvedFunctionTree) (outer : List ℕ) (n : Numbers)
      (parts : ResolvedPartsTree) → Room n (parts_weight parts) → AreKnown known n.bodies (parts_regions f outer n parts)
      → HasPartsEnds known n parts × All (IsPlaced known) (parts_regions f outer n parts)
  knows_parts known f outer n NoParts r h = (tt, All-nil (IsPlaced known))
  knows_parts known f outer n (Part items rest) r h =
      let left = all_regions f outer n items in
      let right = parts_regions f outer (behind_all n items) rest in
      let one = knows_all known f outer n items (omega (arith, r)) (known_front known left right n.bodies h) in
      let other = knows_parts known f outer (behind_all n items) rest (omega (arith, r, statements_few n items))
      (known_back known left right n.bodies (behind_all n items).bodies (all_regions_long f items outer n) h) in (
        (one.0, other.0),
        All-append (IsPlaced known) left right one.1 other.1,
      )

function_placed : (known : KnownBodies) (f : ResolvedFunctionTree) (n : Numbers) → Room n (function_weight f)
    → AreKnown known n.bodies (function_bodies n f) → All (IsPlaced known) (function_bodies n f)
function_placed known f n r h =
    let here : BodySite = record { function = f; tree = FunctionBody; outer = []; numbers = next_body n } in
    let inner = all_regions f (function_variables f) (next_body n) f.body in
    let rest = knows_all known f (function_variables f) (next_body n) f.body (omega (arith, r))
    (known_tail known here inner n.bodies h) in
    All-cons (IsPlaced known) here inner
    (record { listed = listed_at known here n.bodies (known_head known here inner n.bodies h) refl; regions = rest.0 })
    rest.1

get_map : {A B : Type 0} (view : A → B) (xs : List A) (i : ℕ) (x : A) → slice_get xs i ≡ Some x
    → slice_get (map view xs) i ≡ Some (view x)
get_map view [] i x at = cc
get_map view (y ∷ xs) zero x at = let same : y ≡ x = cc in ap (λ z. Some (view z)) same
get_map view (y ∷ xs) (suc i) x at = get_map view xs i x at

-- by the tables of a program, and by the variables of its bodies up to those of a function
pub placed_by : (ends : List Numbers) (old slots : List (List ℕ)) (f : ResolvedFunctionTree) (n : Numbers)
    → Room n (function_weight f) → StandsAt ends n.bodies (function_ends n f) → length old ≡ n.bodies
    → slots ≡ old ++ map variables_of (function_bodies n f) → All HasFewSlots (function_bodies n f)
    → All (IsPlaced (record { ends = ends; slots = slots })) (function_bodies n f)
placed_by ends old slots f n room stand long same few =
    let bodies = function_bodies n f in
    function_placed (record { ends = ends; slots = slots }) f n room (record {
      by = λ i b at.
          let place : n.bodies + i ≡ length old + i = omega (arith, long) in record {
            ends = stand.by i (end_of b) (ap (λ all. slice_get all i) (same_function n f) ∙ get_map end_of bodies i b at);
            slots = ap (λ all. slice_get all (n.bodies + i)) same
                ∙ ap (λ k. slice_get (old ++ map variables_of bodies) k) place
                ∙ get_back old (map variables_of bodies) i (variables_of b) (get_map variables_of bodies i b at);
            few = all_at HasFewSlots bodies i b few at;
          };
    })

-- as many as there are bodies then
pub slots_long : (old new : List (List ℕ)) (f : ResolvedFunctionTree) (n : Numbers) → length old ≡ n.bodies
    → new ≡ old ++ map variables_of (function_bodies n f) → length new ≡ (behind_function n f).bodies
slots_long old new f n long same =
    let all = ap (λ xs. length xs) same ∙ length-append old (map variables_of (function_bodies n f)) in
    let mapped = length-map (function_bodies n f) variables_of in
    let bodies = function_long f n in omega (arith, long, all, mapped, bodies)

-- one more is added
pub slots_next : (first old new : List (List ℕ)) (bodies : List BodySite) (k : ℕ) (b : BodySite)
    → slice_get bodies k ≡ Some b → old ≡ first ++ map variables_of (take k bodies)
    → new ≡ old ++ variables_of b ∷ [] → new ≡ first ++ map variables_of (take (k + 1) bodies)
slots_next first old new bodies k b at filled added =
    let next : suc k ≡ k + 1 = omega arith in
    added ∙ ap (λ xs. xs ++ variables_of b ∷ []) filled
    ∙ append_assoc first (map variables_of (take k bodies)) (variables_of b ∷ [])
    ∙ ap (λ xs. first ++ xs) (sym (map-append variables_of (take k bodies) (b ∷ [])))
    ∙ ap (λ xs. first ++ map variables_of xs) (sym (take_pushed bodies k b at))
    ∙ ap (λ n. first ++ map variables_of (take n bodies)) next

-- ---- two lists, side by side

pub zip_long : {A B : Type 0} (R : A → B → Type 0) (xs : List A) (ys : List B) → AllZip R xs ys
    → length xs ≡ length ys
zip_long R [] [] zip = refl
zip_long R [] (y ∷ ys) zip = absurd zip
zip_long R (x ∷ xs) [] zip = absurd zip
zip_long R (x ∷ xs) (y ∷ ys) zip = ap (λ n. suc n) (zip_long R xs ys zip.1)

pub zip_at : {A B : Type 0} (R : A → B → Type 0) (xs : List A) (ys : List B) (k : ℕ) (x : A) (y : B)
    → AllZip R xs ys → slice_get xs k ≡ Some x → slice_get ys k ≡ Some y → R x y
zip_at R [] ys k x y zip at is = cc
zip_at R (z ∷ xs) [] k x y zip at is = absurd zip
zip_at R (z ∷ xs) (w ∷ ys) zero x y zip at is =
    let one : z ≡ x = cc in
    let other : w ≡ y = cc in subst (λ v. R x v) other (subst (λ v. R v w) one zip.0)
zip_at R (z ∷ xs) (w ∷ ys) (suc k) x y zip at is = zip_at R xs ys k x y zip.1 at is

pub extents_there : (fs : List ResolvedFunctionTree) (extents : List (List Extent)) (k : ℕ) (f : ResolvedFunctionTree)
    → AllZip AreCellsOf fs extents → slice_get fs k ≡ Some f → k < length extents
extents_there fs extents k f zip at =
    subst (λ n. k < n) (zip_long AreCellsOf fs extents zip) (slice_get_within fs k f at)

-- ---- the variables of the bodies that are not yet over

pub round_seen : {X : Type 0} (all kept : List X) (see : X → List ℕ) (n : ℕ) → kept ≡ take n all
    → map see kept ≡ take n (map see all)
round_seen all kept see n same = ap (λ xs. map see xs) same ∙ sym (take-map see n all)

pub round_pushed : {X : Type 0} (all kept new : List X) (see : X → List ℕ) (n : ℕ) (x : X) (v : List ℕ)
    → kept ≡ take n all → new ≡ kept ++ x ∷ [] → see x ≡ v → map see new ≡ take n (map see all) ++ v ∷ []
round_pushed all kept new see n x v same added is =
    ap (λ xs. map see xs) added ∙ map-append see kept (x ∷ [])
    ∙ ap (λ xs. xs ++ see x ∷ []) (round_seen all kept see n same)
    ∙ ap (λ y. take n (map see all) ++ y ∷ []) is

-- ---- numbers are enough for each function, where they are for all

pub room_at : (fs : List ResolvedFunctionTree) (n : Numbers) (i : ℕ) (f : ResolvedFunctionTree) → slice_get fs i ≡ Some f
    → Room n (sum (map function_weight fs)) → Room (behind_functions n (take i fs)) (function_weight f)
room_at [] n i f at room = cc
room_at (g ∷ fs) n zero f at room =
    let same : g ≡ f = cc in
    omega (arith, room, ap function_weight same, sum_by-cons (λ k. k) (function_weight g) (map function_weight fs))
room_at (g ∷ fs) n (suc i) f at room =
    room_at fs (behind_function n g) i f at
    (omega (
      arith,
      room,
      statements_few (next_body n) g.body,
      sum_by-cons (λ k. k) (function_weight g) (map function_weight fs),
    ))

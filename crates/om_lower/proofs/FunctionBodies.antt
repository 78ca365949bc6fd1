-- The bodies of functions, function by function.
use Rattle.std.proofs.Common.{◌≡◌, ◌<◌, ℕ, zero, suc, List, [], ◌∷◌, ◌++◌, Some, All, Any, length, take, slice_get}
use Rattle.std.proofs.Common.{slice_index_or, refl, sym, ap, subst, arith}
use Rattle.std.proofs.lemmas.List.Elements.{All-nil, All-cons, All-head, All-tail, All-append, Contains-append_left}
use Rattle.std.proofs.lemmas.List.Elements.{Contains-append_right}
use Rattle.std.specs.List.{AllZip, flat_map}
use Rattle.om_code.specs.declared.raw.Body.{Body}
use Rattle.om_code.specs.Validity.{IsLow}
use Rattle.om_lower_emit.specs.declared.draft.PickList.{PickList}
use Rattle.om_lower_emit.specs.Settled.{ListsStand}
use Rattle.om_lower.specs.Heights.{AreLow, IsHigh}
use Rattle.om_lower.specs.Limits.{IsOver, IsWithin, high}
use Rattle.om_lower.specs.Made.{AreFunctions, AreMade, IsMade}
use Rattle.om_scope_tree.specs.ResolvedTree.{ResolvedFunctionTree, ResolvedTree}
use Rattle.om_lower_rules.specs.Bodies.{BodySite, Numbers, behind_function, behind_functions, bodies_from, function_bodies}

some_same : {A : Type 0} (x y : A) → Some x ≡ Some y → x ≡ y
some_same x y e = cc

pub all_behind : {A : Type 0} (P : A → Type 0) (xs ys : List A) → All P (xs ++ ys) → All P ys
all_behind P [] ys all = all
all_behind P (x ∷ xs) ys all = all_behind P xs ys (All-tail P x (xs ++ ys) all)

pub all_front : {A : Type 0} (P : A → Type 0) (xs ys : List A) → All P (xs ++ ys) → All P xs
all_front P [] ys all = All-nil P
all_front P (x ∷ xs) ys all =
    All-cons P x xs (All-head P x (xs ++ ys) all) (all_front P xs ys (All-tail P x (xs ++ ys) all))

pub any_here : {A : Type 0} (P : A → Type 0) (x : A) (xs : List A) → P x → Any P (x ∷ xs)
any_here P x xs p = (0, x, omega arith, refl, p)

pub any_behind : {A : Type 0} (P : A → Type 0) (x : A) (xs : List A) → Any P xs → Any P (x ∷ xs)
any_behind P x xs any = (suc any.0, any.1, let lt = any.2 in omega (arith, lt), any.3, any.4)

-- ---- one function more

pub next_numbers : (n : Numbers) (fs : List ResolvedFunctionTree) (k : ℕ) (f : ResolvedFunctionTree)
    → slice_get fs k ≡ Some f
    → behind_functions n (take (suc k) fs) ≡ behind_function (behind_functions n (take k fs)) f
next_numbers n [] k f at = cc
next_numbers n (g ∷ fs) zero f at = ap (λ h. behind_function n h) (some_same g f at)
next_numbers n (g ∷ fs) (suc k) f at = next_numbers (behind_function n g) fs k f at

pub pushed : (tree : ResolvedTree) (picked : List PickList) (n : Numbers) (fs : List ResolvedFunctionTree)
    (lists : List (List Body))
    (f : ResolvedFunctionTree) (bodies : List Body)
    → AreFunctions tree picked n fs lists → slice_get fs (length lists) ≡ Some f
    → AreMade tree picked (function_bodies (behind_functions n (take (length lists) fs)) f) bodies
    → AreFunctions tree picked n fs (lists ++ bodies ∷ [])
pushed tree picked n [] lists f bodies made at more = cc
pushed tree picked n (g ∷ fs) [] f bodies made at more =
    (subst (λ h. AreMade tree picked (function_bodies n h) bodies) (sym (some_same g f at)) more, tt)
pushed tree picked n (g ∷ fs) (first ∷ lists) f bodies made at more =
    (made.0, pushed tree picked (behind_function n g) fs lists f bodies made.1 at more)

pub function_holds : (P : BodySite → Type 0) (n : Numbers) (fs : List ResolvedFunctionTree) (k : ℕ)
    (f : ResolvedFunctionTree)
    → All P (bodies_from n fs) → slice_get fs k ≡ Some f
    → All P (function_bodies (behind_functions n (take k fs)) f)
function_holds P n [] k f all at = cc
function_holds P n (g ∷ fs) zero f all at =
    subst (λ h. All P (function_bodies n h)) (some_same g f at)
    (all_front P (function_bodies n g) (bodies_from (behind_function n g) fs) all)
function_holds P n (g ∷ fs) (suc k) f all at =
    function_holds P (behind_function n g) fs k f
    (all_behind P (function_bodies n g) (bodies_from (behind_function n g) fs) all) at

-- ---- what holds of them

pub within_made : (tree : ResolvedTree) (picked : List PickList) (picks : List (List ℕ)) (sites : List BodySite)
    (bodies : List Body)
    → ListsStand picked picks → AreMade tree picked sites bodies → AreLow picks bodies → All (λ b. IsWithin tree b)
    sites
within_made tree picked picks [] [] stand made low = All-nil (λ b. IsWithin tree b)
within_made tree picked picks [] (body ∷ bodies) stand made low = absurd made
within_made tree picked picks (b ∷ sites) [] stand made low = absurd made
within_made tree picked picks (b ∷ sites) (body ∷ bodies) stand made low =
    let one = made.0 in
    All-cons (λ b. IsWithin tree b) b sites
    (record {
      room = one.room;
      picks = picks;
      code = body.code;
      is_code = one.code picks stand;
      short = one.short;
      low = All-head (λ x. IsLow picks x.code) body bodies low;
    })
    (within_made tree picked picks sites bodies stand made.1 (All-tail (λ x. IsLow picks x.code) body bodies low))

pub within_functions : (tree : ResolvedTree) (picked : List PickList) (picks : List (List ℕ)) (n : Numbers)
    (fs : List ResolvedFunctionTree)
    (lists : List (List Body)) → ListsStand picked picks → AreFunctions tree picked n fs lists
    → All (λ bodies. AreLow picks bodies) lists
    → All (λ b. IsWithin tree b) (bodies_from n (take (length lists) fs))
within_functions tree picked picks n fs [] stand made low = All-nil (λ b. IsWithin tree b)
within_functions tree picked picks n [] (bodies ∷ lists) stand made low = absurd made
within_functions tree picked picks n (f ∷ fs) (bodies ∷ lists) stand made low =
    All-append (λ b. IsWithin tree b) (function_bodies n f)
    (bodies_from (behind_function n f) (take (length lists) fs))
    (within_made tree picked picks (function_bodies n f) bodies stand made.0
    (All-head (λ bodies. AreLow picks bodies) bodies lists low))
    (within_functions tree picked picks (behind_function n f) fs lists stand made.1
    (All-tail (λ bodies. AreLow picks bodies) bodies lists low))

pub first_functions : (tree : ResolvedTree) (picked : List PickList) (n : Numbers) (fs : List ResolvedFunctionTree)
    (lists : List (List Body)) (k : ℕ) → AreFunctions tree picked n fs lists
    → AreFunctions tree picked n fs (take k lists)
first_functions tree picked n fs [] zero made = tt
first_functions tree picked n fs [] (suc k) made = tt
first_functions tree picked n fs (bodies ∷ lists) zero made = tt
first_functions tree picked n [] (bodies ∷ lists) (suc k) made = absurd made
first_functions tree picked n (f ∷ fs) (bodies ∷ lists) (suc k) made =
    (made.0, first_functions tree picked (behind_function n f) fs lists k made.1)

pub made_at : (tree : ResolvedTree) (picked : List PickList) (n : Numbers) (fs : List ResolvedFunctionTree)
    (lists : List (List Body))
    (k : ℕ) (f : ResolvedFunctionTree) (bodies : List Body)
    → AreFunctions tree picked n fs lists → slice_get lists k ≡ Some bodies → slice_get fs k ≡ Some f
    → AreMade tree picked (function_bodies (behind_functions n (take k fs)) f) bodies
made_at tree picked n fs [] k f bodies made there at = cc
made_at tree picked n [] (first ∷ lists) k f bodies made there at = absurd made
made_at tree picked n (g ∷ fs) (first ∷ lists) zero f bodies made there at =
    subst (λ h. AreMade tree picked (function_bodies n h) bodies) (some_same g f at)
    (subst (λ all. AreMade tree picked (function_bodies n g) all) (some_same first bodies there) made.0)
made_at tree picked n (g ∷ fs) (first ∷ lists) (suc k) f bodies made there at =
    made_at tree picked (behind_function n g) fs lists k f bodies made.1 there at

over_at : (tree : ResolvedTree) (picked : List PickList) (picks : List (List ℕ)) (sites : List BodySite)
    (bodies : List Body) (k : ℕ) (body : Body)
    → ListsStand picked picks → AreMade tree picked sites bodies
    → k < length bodies → slice_index_or bodies k body ≡ body → ¬ (IsLow picks body.code)
    → Any (λ b. IsOver tree b) sites
over_at tree picked picks sites [] k body stand made lt at high_code = let none : ⊥ = omega (arith, lt) in absurd none
over_at tree picked picks [] (first ∷ bodies) k body stand made lt at high_code = absurd made
over_at tree picked picks (b ∷ sites) (first ∷ bodies) zero body stand made lt at high_code =
    let one = made.0 in
    any_here (λ b. IsOver tree b) b sites
    (high picks first.code (one.code picks stand) (subst (λ x. ¬ (IsLow picks x.code)) (sym at) high_code))
over_at tree picked picks (b ∷ sites) (first ∷ bodies) (suc k) body stand made lt at high_code =
    any_behind (λ b. IsOver tree b) b sites
    (over_at tree picked picks sites bodies k body stand made.1
    (let below : k < length bodies = omega (arith, lt) in below) at high_code)

pub over_high : (tree : ResolvedTree) (picked : List PickList) (picks : List (List ℕ)) (sites : List BodySite)
    (bodies : List Body)
    → ListsStand picked picks → AreMade tree picked sites bodies → IsHigh picks bodies → Any (λ b. IsOver tree b) sites
over_high tree picked picks sites bodies stand made any = over_at tree picked picks sites bodies any.0 any.1 stand
    made any.2 any.3 any.4

-- ---- side by side

zip_append : {A B : Type 0} (R : A → B → Type 0) (xs ys : List A) (us vs : List B) → AllZip R xs us
    → AllZip R ys vs → AllZip R (xs ++ ys) (us ++ vs)
zip_append R [] ys [] vs one other = other
zip_append R [] ys (u ∷ us) vs one other = absurd one
zip_append R (x ∷ xs) ys [] vs one other = absurd one
zip_append R (x ∷ xs) ys (u ∷ us) vs one other = (one.0, zip_append R xs ys us vs one.1 other)

pub side_by_side : (tree : ResolvedTree) (picked : List PickList) (n : Numbers) (fs : List ResolvedFunctionTree)
    (lists : List (List Body)) → AreFunctions tree picked n fs lists
    → length lists ≡ length fs → AreMade tree picked (bodies_from n fs) (flat_map (λ bodies. bodies) lists)
side_by_side tree picked n [] [] made long = tt
side_by_side tree picked n [] (bodies ∷ lists) made long = absurd made
side_by_side tree picked n (f ∷ fs) [] made long = cc
side_by_side tree picked n (f ∷ fs) (bodies ∷ lists) made long =
    zip_append (λ b body. IsMade tree picked b body) (function_bodies n f)
    (bodies_from (behind_function n f) fs) bodies (flat_map (λ bodies. bodies) lists)
    made.0 (side_by_side tree picked (behind_function n f) fs lists made.1
    (let shorter : length lists ≡ length fs = omega (arith, long) in shorter))

-- ---- more lists

-- where more lists stand, the bodies are the same
pub wider_made : (tree : ResolvedTree) (some all : List PickList) (sites : List BodySite) (bodies : List Body)
    → ((picks : List (List ℕ)) → ListsStand all picks → ListsStand some picks)
    → AreMade tree some sites bodies → AreMade tree all sites bodies
wider_made tree some all [] [] wider made = tt
wider_made tree some all [] (body ∷ bodies) wider made = absurd made
wider_made tree some all (b ∷ sites) [] wider made = absurd made
wider_made tree some all (b ∷ sites) (body ∷ bodies) wider made =
    let one = made.0 in (
      record {
        code = λ picks stand. one.code picks (wider picks stand);
        slots = one.slots;
        given = one.given;
        atomic = one.atomic;
        names = record {
          scopes = one.names.scopes;
          stand = λ picks stand. one.names.stand picks (wider picks stand);
          named = one.names.named;
        };
        room = one.room;
        short = one.short;
      },
      wider_made tree some all sites bodies wider made.1,
    )

pub wider_functions : (tree : ResolvedTree) (some all : List PickList) (n : Numbers)
    (fs : List ResolvedFunctionTree) (lists : List (List Body))
    → ((picks : List (List ℕ)) → ListsStand all picks → ListsStand some picks)
    → AreFunctions tree some n fs lists → AreFunctions tree all n fs lists
wider_functions tree some all n fs [] wider made = tt
wider_functions tree some all n [] (bodies ∷ lists) wider made = absurd made
wider_functions tree some all n (f ∷ fs) (bodies ∷ lists) wider made = (
  wider_made tree some all (function_bodies n f) bodies wider made.0,
  wider_functions tree some all (behind_function n f) fs lists wider made.1,
)

pub stand_front : (xs ys : List PickList) (picks : List (List ℕ)) → ListsStand (xs ++ ys) picks → ListsStand xs picks
stand_front xs ys picks stand list there = stand list (Contains-append_left xs ys list there)

pub stand_behind : (xs ys : List PickList) (picks : List (List ℕ)) → ListsStand (xs ++ ys) picks → ListsStand ys picks
stand_behind xs ys picks stand list there = stand list (Contains-append_right xs ys list there)

-- The program that is put together.
use Rattle.std.proofs.Common.{◌≡◌, ◌<◌, ◌≤◌, ◌^◌, ℕ, zero, suc, take, true, List, [], ◌∷◌, All, length, map, refl, sym}
use Rattle.std.proofs.Common.{ap, subst, ◌∙◌, arith}
use Rattle.std.proofs.lemmas.List.Elements.{All-nil, All-cons, All-head, All-tail, All-append}
use Rattle.std.specs.List.{AllZip, flat_map}
use Rattle.std.specs.Prelude.{OnOk, Result, Ok, Err}
use Rattle.om_code.specs.declared.raw.Body.{Body}
use Rattle.om_code.specs.declared.raw.Raw.{Raw}
use Rattle.om_code.specs.Validity.{IsLow, IsValid}
use Rattle.om_lower_emit.specs.declared.draft.PickList.{PickList}
use Rattle.om_lower_emit.specs.Settled.{ListsStand}
use Rattle.om_lower.specs.Heights.{AreLevel, AreLow, IsLevelBody}
use Rattle.om_lower.specs.Limits.{AreWithin, IsWithin}
use Rattle.om_lower.specs.Made.{AreFunctions, AreMade, IsLowered}
use Rattle.om_lower.proofs.FunctionBodies.{side_by_side, within_functions}
use Rattle.om_scope_tree.specs.Beside.{TreeCopiesBehind}
use Rattle.om_scope_tree.specs.ResolvedTree.{ResolvedFunctionTree, ResolvedTree}
use Rattle.om_scope_tree.specs.Whole.{IsWholeTree}
use Rattle.om_lower_rules.specs.Bodies.{BodySite, Numbers, behind_function, behind_functions, bodies_from, bodies_of}
use Rattle.om_lower_rules.specs.Bodies.{first_numbers, function_bodies, variables_of}
use Rattle.om_lower_rules.specs.Code.{IsBodyOf, IsCodeOf}
use Rattle.om_lower_rules.specs.Laws.{AreNumbered, BodyIsLevel, CodeIsValid}

-- ---- levels

level_bodies : (law : BodyIsLevel) (tree : ResolvedTree) (picked : List PickList) (picks : List (List ℕ))
    (sites : List BodySite) (bodies : List Body)
    → ListsStand picked picks → AreMade tree picked sites bodies → AreLevel picks bodies
level_bodies law tree picked picks [] [] stand made = All-nil (λ body. IsLevelBody picks body)
level_bodies law tree picked picks [] (body ∷ bodies) stand made = absurd made
level_bodies law tree picked picks (b ∷ sites) [] stand made = absurd made
level_bodies law tree picked picks (b ∷ sites) (body ∷ bodies) stand made =
    let one = made.0 in
    All-cons (λ body. IsLevelBody picks body) body bodies
    (record { level = law _ b.numbers b.function b.tree (one.code picks stand); short = one.short })
    (level_bodies law tree picked picks sites bodies stand made.1)

pub level_functions : (law : BodyIsLevel) (tree : ResolvedTree) (picked : List PickList) (picks : List (List ℕ))
    (n : Numbers)
    (fs : List ResolvedFunctionTree) (lists : List (List Body))
    → ListsStand picked picks → AreFunctions tree picked n fs lists → All (λ bodies. AreLevel picks bodies) lists
level_functions law tree picked picks n fs [] stand made = All-nil (λ bodies. AreLevel picks bodies)
level_functions law tree picked picks n [] (bodies ∷ lists) stand made = absurd made
level_functions law tree picked picks n (f ∷ fs) (bodies ∷ lists) stand made =
    All-cons (λ bodies. AreLevel picks bodies) bodies lists
    (level_bodies law tree picked picks (function_bodies n f) bodies stand made.0)
    (level_functions law tree picked picks (behind_function n f) fs lists stand made.1)

pub low_flat : (picks : List (List ℕ)) (lists : List (List Body)) → All (λ bodies. AreLow picks bodies) lists
    → AreLow picks (flat_map (λ bodies. bodies) lists)
low_flat picks [] low = All-nil (λ body. IsLow picks body.code)
low_flat picks (bodies ∷ lists) low =
    All-append (λ body. IsLow picks body.code) bodies (flat_map (λ bodies. bodies) lists)
    (All-head (λ bodies. AreLow picks bodies) bodies lists low)
    (low_flat picks lists (All-tail (λ bodies. AreLow picks bodies) bodies lists low))

-- ---- numbers

map_long : {A B : Type 0} (f : A → B) (xs : List A) → length (map f xs) ≡ length xs
map_long f [] = refl
map_long f (x ∷ xs) = ap (λ n. suc n) (map_long f xs)

pub numbered_code : (tree : ResolvedTree) (picked : List PickList) (sites : List BodySite) (bodies : List Body)
    → AreMade tree picked sites bodies → All (λ body. length body.code < 2 ^ 32) bodies
numbered_code tree picked [] [] made = All-nil (λ body. length body.code < 2 ^ 32)
numbered_code tree picked [] (body ∷ bodies) made = absurd made
numbered_code tree picked (b ∷ sites) [] made = absurd made
numbered_code tree picked (b ∷ sites) (body ∷ bodies) made =
    let short = made.0.short in
    All-cons (λ body. length body.code < 2 ^ 32) body bodies
    (let few : length body.code < 2 ^ 32 = omega (arith, short) in few)
    (numbered_code tree picked sites bodies made.1)

pub numbered_slots : (tree : ResolvedTree) (picked : List PickList) (sites : List BodySite) (bodies : List Body)
    → AreMade tree picked sites bodies → All (λ body. length body.slots ≤ 2 ^ 32) bodies
numbered_slots tree picked [] [] made = All-nil (λ body. length body.slots ≤ 2 ^ 32)
numbered_slots tree picked [] (body ∷ bodies) made = absurd made
numbered_slots tree picked (b ∷ sites) [] made = absurd made
numbered_slots tree picked (b ∷ sites) (body ∷ bodies) made =
    let few = made.0.room.slots in
    let long : length body.slots ≡ length (variables_of b) = ap length made.0.slots
    ∙ map_long _ (variables_of b) in
    All-cons (λ body. length body.slots ≤ 2 ^ 32) body bodies
    (let fits : length body.slots ≤ 2 ^ 32 = omega (arith, few, long) in fits)
    (numbered_slots tree picked sites bodies made.1)

-- ---- the program

pub side_by_side_in : (tree : ResolvedTree) (picked : List PickList) (raw : Raw) (sites : List BodySite)
    (bodies : List Body)
    → ListsStand picked raw.picks → AreMade tree picked sites bodies → AllZip (IsBodyOf tree raw) sites bodies
side_by_side_in tree picked raw [] [] stand made = tt
side_by_side_in tree picked raw [] (body ∷ bodies) stand made = absurd made
side_by_side_in tree picked raw (b ∷ sites) [] stand made = absurd made
side_by_side_in tree picked raw (b ∷ sites) (body ∷ bodies) stand made =
    let one = made.0 in (
      record {
        code = one.code raw.picks stand;
        slots = one.slots;
        given = one.given;
        atomic = one.atomic;
        names = record {
          scopes = one.names.scopes;
          stand = one.names.stand raw.picks stand;
          named = one.names.named;
        };
      },
      side_by_side_in tree picked raw sites bodies stand made.1,
    )

take_all : {A : Type 0} (xs : List A) (k : ℕ) → k ≡ length xs → take k xs ≡ xs
take_all [] zero same = refl
take_all [] (suc k) same = cc
take_all (x ∷ xs) zero same = cc
take_all (x ∷ xs) (suc k) same =
    ap (λ rest. x ∷ rest) (take_all xs k (let less : k ≡ length xs = omega (arith, same) in less))

pub made_bodies : (tree : ResolvedTree) (picks : List (List ℕ)) (lists : List (List Body))
    → (lowered : IsLowered tree picks lists true)
    → AreMade tree lowered.lists (bodies_of tree) (flat_map (λ bodies. bodies) lists)
made_bodies tree picks lists lowered =
    side_by_side tree lowered.lists first_numbers tree.functions lists lowered.made lowered.stops

-- the program has all lists
pub all_lists : (tree : ResolvedTree) (picks : List (List ℕ)) (lists : List (List Body)) → IsLowered tree picks
    lists true
    → length picks ≡ (behind_functions first_numbers tree.functions).picks
all_lists tree picks lists lowered =
    lowered.long ∙ ap (λ fs. (behind_functions first_numbers fs).picks) (take_all tree.functions (length lists)
    lowered.stops)

pub valid : (law : CodeIsValid) (tree : ResolvedTree) (raw : Raw) (picks : List (List ℕ)) (lists : List (List Body))
    → IsWholeTree tree → TreeCopiesBehind tree
    → IsLowered tree picks lists true → All (λ bodies. AreLow picks bodies) lists → IsCodeOf tree raw
    → raw.bodies ≡ flat_map (λ bodies. bodies) lists → raw.picks ≡ picks → IsValid raw
valid law tree raw picks lists whole copies lowered low code bodies same =
    let made : AreMade tree lowered.lists (bodies_of tree) raw.bodies =
    subst (λ all. AreMade tree lowered.lists (bodies_of tree) all) (sym bodies)
    (made_bodies tree picks lists lowered) in
    let few : AreNumbered raw =
    record {
      code = numbered_code tree lowered.lists (bodies_of tree) raw.bodies made;
      slots = numbered_slots tree lowered.lists (bodies_of tree) raw.bodies made;
    } in
    let flat : AreLow picks raw.bodies = subst (λ all. AreLow picks all) (sym bodies) (low_flat picks lists low) in
    law tree raw whole copies code few
    (subst (λ lists. AreLow lists raw.bodies) (sym same) flat)

pub all_within : (tree : ResolvedTree) (picks : List (List ℕ)) (lists : List (List Body)) → IsLowered tree picks
    lists true
    → All (λ bodies. AreLow picks bodies) lists → AreWithin tree
all_within tree picks lists lowered low =
    subst (λ fs. All (λ b. IsWithin tree b) (bodies_from first_numbers fs))
    (take_all tree.functions (length lists) lowered.stops)
    (within_functions tree lowered.lists picks first_numbers tree.functions lists lowered.stand lowered.made low)

-- what holds of the tree holds whatever is found
pub ok_anyway : {X E P : Type 0} (found : Result X E) → P → OnOk found P
ok_anyway (Ok x) p = p
ok_anyway (Err e) p = tt

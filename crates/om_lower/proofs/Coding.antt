-- A body, as it was emitted.
use Rattle.std.proofs.Common.{◌≡◌, ◌<◌, ◌≤◌, inl, inr, ℕ, zero, suc, Bool, true, List, [], ◌∷◌, ◌++◌, Option, None}
use Rattle.std.proofs.Common.{Some, Any, length, map, slice_get, take, ◌+◌, false, refl, sym, ap, subst, ◌∙◌, arith}
use Rattle.std.specs.Prelude.{Err, IfOk, Ok, Result}
use Rattle.std.proofs.lemmas.List.{append_assoc, append-nil, map-append}
use Rattle.std.specs.List.{flat_map}
use Rattle.om_lower.specs.declared.body.Emitted.{Emitted}
use Rattle.om_lower_emit.specs.declared.draft.PickList.{PickList}
use Rattle.om_lower.specs.Emitted.{FitsRow}
use Rattle.om_lower_emit.specs.Settled.{number_of}
use Rattle.om_code.specs.declared.raw.Body.{Body}
use Rattle.om_code.specs.declared.raw.Names as raws
use Rattle.om_code.specs.declared.raw.Slot.{Slot}
use Rattle.om_lower.specs.Frames.{FitsFrame}
use Rattle.om_lower.specs.Limits.{HasFewSlots, HasManySlots, IsOver, long, many_cells, many_slots}
use Rattle.om_lower.specs.Made.{AddsBody, AddsFunction, AreAdded, AreFunctions, AreListsOf, AreMade, FitsBodies}
use Rattle.om_lower.specs.Made.{FitsCode, FitsFunction, IsGathered, IsMade, IsPut}
use Rattle.om_lower.specs.declared.bodies.Bodies.{Bodies}
use Rattle.om_lower.specs.declared.functions.Lowered.{Lowered}
use Rattle.om_lower.specs.Once.{site_picks}
use Rattle.om_lower.proofs.Items.{take_pushed, zip_pushed}
use Rattle.om_lower.proofs.SlotTables.{slots_same}
use Rattle.om_lower.proofs.FunctionBodies.{next_numbers, pushed, stand_behind, stand_front, wider_functions, wider_made}
use Rattle.om_scope_tree.specs.declared.resolved.Capture.{Capture}
use Rattle.om_scope_tree.specs.ResolvedTree.{ResolvedFunctionTree, ResolvedTree}
use Rattle.om_scope_tree.specs.Uses.{is_main_function}
use Rattle.om_lower_rules.specs.AtomicPlaces.{atomic_places}
use Rattle.om_lower_rules.specs.Bodies.{BodySite, Numbers, behind_function, behind_functions, bodies_from, first_numbers}
use Rattle.om_lower_rules.specs.Bodies.{function_bodies, variables_of}
use Rattle.om_lower_rules.specs.Code.{captures_of, given_of, slots_of}
use Rattle.om_lower_rules.specs.Scopes.{names_with}
use Rattle.om_lower_rules.specs.Mentions.{atomic_lines, extents_of}
use Rattle.om_lower_rules.specs.Slots.{Extent, cells_in, slot_with}
use Rattle.om_lower_rules.specs.Numbered.{Numbered, numbered_in}

-- the code of a body, by whichever tables it was written
pub fits_at : (tree : ResolvedTree) (b : BodySite) (names : Numbered) (variables : List ℕ) (main : Bool)
    (made : Option Emitted) → names ≡ numbered_in tree variables main → main ≡ is_main_function b.function
    → variables ≡ variables_of b → FitsRow names b.numbers b.function b.tree made → FitsCode tree b made
fits_at tree b names variables main made same_names same_main same_variables fits =
    subst (λ x. FitsRow (numbered_in tree x (is_main_function b.function)) b.numbers b.function b.tree made)
    same_variables (subst (λ x. FitsRow (numbered_in tree variables x) b.numbers b.function b.tree made) same_main
    (subst (λ x. FitsRow x b.numbers b.function b.tree made) same_names fits))

-- the slots, by whichever table of cells
pub frame_at : (b : BodySite) (extents : List Extent) (outer : List ℕ) (captures : List Capture)
    (variables : List ℕ) (frame : Option (List Slot))
    → ((variable : ℕ) → cells_in extents variable ≡ cells_in (extents_of b.function) variable)
    → outer ≡ b.outer → captures ≡ captures_of b.tree → variables ≡ variables_of b
    → FitsFrame variables (map (slot_with extents outer captures) variables) frame
    → FitsFrame (variables_of b) (slots_of b) frame
frame_at b extents outer captures variables frame same same_outer same_captures same_variables fits =
    let first = subst (λ x. FitsFrame variables (map (slot_with extents x captures) variables) frame)
    same_outer fits in
    let second = subst (λ x. FitsFrame variables (map (slot_with extents b.outer x) variables) frame)
    same_captures first in
    let third = subst (λ x.
    FitsFrame x (map (slot_with extents b.outer (captures_of b.tree)) x) frame) same_variables second in
    subst (λ slots. FitsFrame (variables_of b) slots frame)
    (slots_same extents (extents_of b.function) b.outer (captures_of b.tree) (variables_of b) same) third

-- the frame passes a limit
pub over_frame : (tree : ResolvedTree) (b : BodySite) → FitsFrame (variables_of b) (slots_of b) None
    → IsOver tree b
over_frame tree b (inl many) = many_slots many
over_frame tree b (inr many) = many_cells many

-- the code passes one
pub over_code : (tree : ResolvedTree) (b : BodySite) → FitsCode tree b None → IsOver tree b
over_code tree b fits = long fits.0 fits.1 fits.2 fits.3

-- or none does
pub made_body : (tree : ResolvedTree) (b : BodySite) (made : Emitted) (slots : List Slot)
    (given atomic : List ℕ) (names : raws.Names)
    → FitsFrame (variables_of b) (slots_of b) (Some slots) → FitsCode tree b (Some made)
    → given ≡ given_of b → atomic ≡ atomic_places (atomic_lines tree) made.code
    → names ≡ names_with b.function.name (variables_of b) b.outer made.scopes.items
    → IsMade tree made.lists.items b
    (record { code = made.code; slots = slots; given = given; names = names; atomic = atomic })
made_body tree b made slots given atomic names frame fits same accesses named = record {
  code = fits.0;
  slots = frame.0;
  given = same;
  atomic = accesses;
  names = record { scopes = made.scopes.items; stand = fits.3; named = named };
  room = record { slots = frame.1; cells = frame.2 };
  short = fits.1;
}

-- ---- the limit on slots

pub many_at : (b : BodySite) (count : ℕ) (variables : List ℕ) → 256 < count → count ≡ length variables
    → variables ≡ variables_of b → HasManySlots b
many_at b count variables more same at =
    subst (λ all. 256 < length all) at (subst (λ n. 256 < n) same more)

pub few_at : (b : BodySite) (count : ℕ) (variables : List ℕ) → count ≤ 256 → count ≡ length variables
    → variables ≡ variables_of b → HasFewSlots b
few_at b count variables less same at =
    subst (λ all. length all ≤ 256) at (subst (λ n. n ≤ 256) same less)

-- ---- function by function

get_within : {A : Type 0} (xs : List A) (k : ℕ) (x : A) → slice_get xs k ≡ Some x → k < length xs
get_within [] k x at = cc
get_within (y ∷ xs) zero x at = omega arith
get_within (y ∷ xs) (suc k) x at = let below = get_within xs k x at in omega (arith, below)

-- behind k functions: their bodies, their lists, and the numbers behind them
pub record IsBehind (tree : ResolvedTree) (lists : List PickList) (functions : List (List Body)) (k : ℕ)
    (n : Numbers) : Type 0 where
  pub made : AreFunctions tree lists first_numbers tree.functions functions
  pub count : length functions ≡ k
  pub numbers : n ≡ behind_functions first_numbers (take k tree.functions)
  pub listed : AreListsOf (bodies_from first_numbers (take k tree.functions)) lists

pub stopped : (tree : ResolvedTree) (lists : List PickList) (functions : List (List Body)) (k : ℕ)
    (f : ResolvedFunctionTree)
    (n : Numbers) → IsBehind tree lists functions k n
    → slice_get tree.functions k ≡ Some f → FitsFunction tree n f None → IsGathered tree lists n.picks functions false
stopped tree lists functions k f n h at fits =
    let there : slice_get tree.functions (length functions) ≡ Some f =
    subst (λ i. slice_get tree.functions i ≡ Some f) (sym h.count) at in
    let here : n ≡ behind_functions first_numbers (take (length functions) tree.functions) =
    h.numbers ∙ ap (λ i. behind_functions first_numbers (take i tree.functions)) (sym h.count) in
    record {
      made = h.made;
      stops = record {
        within = get_within tree.functions (length functions) f there;
        function = f;
        there = there;
        over = subst (λ m. Any (λ b. IsOver tree b) (function_bodies m f)) here fits;
      };
      listed = subst (λ i. AreListsOf (bodies_from first_numbers (take i tree.functions)) lists) (sym h.count) h.listed;
      counted = ap (λ m. m.picks) here;
    }

-- all functions
pub gathered : (tree : ResolvedTree) (lists : List PickList) (functions : List (List Body)) (k : ℕ) (n : Numbers)
    → IsBehind tree lists functions k n → k ≡ length tree.functions → IsGathered tree lists n.picks functions true
gathered tree lists functions k n h whole = record {
  made = h.made;
  stops = h.count ∙ whole;
  listed = subst (λ i. AreListsOf (bodies_from first_numbers (take i tree.functions)) lists) (sym h.count) h.listed;
  counted = ap (λ m. m.picks) (h.numbers ∙ ap (λ i. behind_functions first_numbers (take i tree.functions))
      (sym h.count));
}

push_long : {A : Type 0} (xs : List A) (x : A) → length (xs ++ x ∷ []) ≡ length xs + 1
push_long [] x = refl
push_long (y ∷ xs) x = let rest = push_long xs x in omega (arith, rest)

-- the bodies of one function more
bodies_next : (n : Numbers) (fs : List ResolvedFunctionTree) (k : ℕ) (f : ResolvedFunctionTree) → slice_get fs k
    ≡ Some f
    → bodies_from n (take (suc k) fs) ≡ bodies_from n (take k fs) ++ function_bodies (behind_functions n (take k fs)) f
bodies_next n [] k f at = cc
bodies_next n (g ∷ fs) zero f at =
    append-nil (function_bodies n g) ∙ ap (λ h. function_bodies n h) (let same : g ≡ f = cc in same)
bodies_next n (g ∷ fs) (suc k) f at =
    ap (λ rest. function_bodies n g ++ rest) (bodies_next (behind_function n g) fs k f at)
    ∙ sym (append_assoc (function_bodies n g) (bodies_from (behind_function n g) (take k fs))
    (function_bodies (behind_functions (behind_function n g) (take k fs)) f))

pub flat-append : (xs ys : List BodySite) → flat_map site_picks (xs ++ ys) ≡ flat_map site_picks xs
    ++ flat_map site_picks ys
flat-append [] ys = refl
flat-append (x ∷ xs) ys =
    ap (λ rest. site_picks x ++ rest) (flat-append xs ys)
    ∙ sym (append_assoc (site_picks x) (flat_map site_picks xs) (flat_map site_picks ys))

-- the lists of some bodies, and then those of others
pub listed_on : (xs ys : List BodySite) (some more : List PickList) → AreListsOf xs some → AreListsOf ys more
    → AreListsOf (xs ++ ys) (some ++ more)
listed_on xs ys some more one other =
    map-append number_of some more ∙ ap (λ z. z ++ map number_of more) one
    ∙ ap (λ z. flat_map site_picks xs ++ z) other ∙ sym (flat-append xs ys)

-- one body more
pub body_more : (tree : ResolvedTree) (sites : List BodySite) (k : ℕ) (b : BodySite) (lists grown : List PickList)
    (bodies new : List Body) (body : Body) (more : List PickList)
    → slice_get sites k ≡ Some b → new ≡ bodies ++ body ∷ [] → grown ≡ lists ++ more
    → AreMade tree lists (take k sites) bodies → AreListsOf (take k sites) lists → IsMade tree more b body
    → map number_of more ≡ site_picks b
    → AreMade tree grown (take (k + 1) sites) new × AreListsOf (take (k + 1) sites) grown
body_more tree sites k b lists grown bodies new body more at added joined made listed fits picks_of =
    let before = wider_made tree lists (lists ++ more) (take k sites) bodies
    (λ picks stand. stand_front lists more picks stand) made in
    let mine = wider_made tree more (lists ++ more) (b ∷ []) (body ∷ [])
    (λ picks stand. stand_behind lists more picks stand) (fits, tt) in
    let next : suc k ≡ k + 1 = omega arith in
    let sites_next : take k sites ++ b ∷ [] ≡ take (k + 1) sites =
    sym (take_pushed sites k b at) ∙ ap (λ i. take i sites) next in (
      subst (λ ls. AreMade tree ls (take (k + 1) sites) new) (sym joined)
          (zip_pushed (λ b body. IsMade tree (lists ++ more) b body) sites bodies new k b body at added before
          mine.0),
      subst (λ ls. AreListsOf (take (k + 1) sites) ls) (sym joined)
          (subst (λ all. AreListsOf all (lists ++ more)) sites_next
          (listed_on (take k sites) (b ∷ []) lists more listed (picks_of ∙ sym (append-nil (site_picks b))))),
    )

-- of no bodies none is made
pub none_made : (tree : ResolvedTree) (sites : List BodySite) (made : Bodies) → made.bodies ≡ [] → made.lists ≡ []
    → AreMade tree made.lists (take 0 sites) made.bodies × AreListsOf (take 0 sites) made.lists
none_made tree sites made none empty = (
  subst (λ bodies. AreMade tree made.lists (take 0 sites) bodies) (sym none) (none_of sites),
  ap (map number_of) empty ∙ listed sites,
)
  where
    none_of : (sites : List BodySite) → AreMade tree made.lists (take 0 sites) []
    none_of [] = tt
    none_of (b ∷ sites) = tt

    listed : (sites : List BodySite) → map number_of [] ≡ flat_map site_picks (take 0 sites)
    listed [] = refl
    listed (b ∷ sites) = refl

-- the same, as a function adds it
pub body_added : (tree : ResolvedTree) (sites : List BodySite) (k : ℕ) (b : BodySite) (old new : Bodies)
    → slice_get sites k ≡ Some b
    → AreMade tree old.lists (take k sites) old.bodies × AreListsOf (take k sites) old.lists
    → AddsBody tree b old new true
    → AreMade tree new.lists (take (k + 1) sites) new.bodies × AreListsOf (take (k + 1) sites) new.lists
body_added tree sites k b old new at made adds =
    body_more tree sites k b old.lists new.lists old.bodies new.bodies adds.0 adds.1 at adds.4 adds.5
    made.0 made.1 adds.2 adds.3

-- what holds of the bodies of a function that were added to none holds where they are put behind those of others
pub function_put : {E : Type 0} → (tree : ResolvedTree) (n : Numbers) (f : ResolvedFunctionTree) (old new : Lowered)
    (bodies : Bodies) (sites : List BodySite) (fits put : Result Bool E) → sites ≡ function_bodies n f
    → IfOk fits (λ fits. AreAdded tree sites bodies fits) → IfOk put (λ put. fits ≡ Ok put)
    → IfOk put (λ put. IsPut put old.functions (bodies.bodies ∷ []) new.functions)
    → IfOk put (λ put. IsPut put old.lists bodies.lists new.lists)
    → IfOk put (λ put. AddsFunction tree n f old new put)
function_put tree n f old new bodies sites fits (Err e) is added same functions lists = tt
function_put tree n f old new bodies sites fits (Ok true) is added same functions lists =
    let all : AreAdded tree sites bodies true =
    subst (λ found. IfOk found (λ fits. AreAdded tree sites bodies fits)) same added in
    (bodies, subst (λ all. FitsBodies tree all (Some bodies)) is all, functions, lists)
function_put tree n f old new bodies sites fits (Ok false) is added same functions lists =
    let over : AreAdded tree sites bodies false =
    subst (λ found. IfOk found (λ fits. AreAdded tree sites bodies fits)) same added in
    (subst (λ all. FitsBodies tree all None) is over, functions, lists)

pub one_more : (tree : ResolvedTree) (lists grown : List PickList) (functions new : List (List Body)) (k : ℕ)
    (f : ResolvedFunctionTree)
    (n m : Numbers) (bodies : Bodies) → IsBehind tree lists functions k n
    → slice_get tree.functions k ≡ Some f → FitsFunction tree n f (Some bodies) → new ≡ functions ++ bodies.bodies ∷ []
    → grown ≡ lists ++ bodies.lists → m ≡ behind_function n f
    → IsBehind tree grown new (k + 1) m
one_more tree lists grown functions new k f n m bodies h at fits added joined behind =
    let more = bodies.lists in
    let there : slice_get tree.functions (length functions) ≡ Some f =
    subst (λ i. slice_get tree.functions i ≡ Some f) (sym h.count) at in
    let here : n ≡ behind_functions first_numbers (take (length functions) tree.functions) =
    h.numbers ∙ ap (λ i. behind_functions first_numbers (take i tree.functions)) (sym h.count) in
    let before = wider_functions tree lists (lists ++ more) first_numbers tree.functions functions
    (λ picks stand. stand_front lists more picks stand) h.made in
    let mine = wider_made tree more (lists ++ more) (function_bodies n f) bodies.bodies
    (λ picks stand. stand_behind lists more picks stand) fits.0 in
    let placed = subst (λ m. AreMade tree (lists ++ more) (function_bodies m f) bodies.bodies) here mine in
    let all = pushed tree (lists ++ more) first_numbers tree.functions functions f bodies.bodies before there placed in
    let next : suc k ≡ k + 1 = omega arith in
    let sites : bodies_from first_numbers (take k tree.functions) ++ function_bodies n f ≡ bodies_from first_numbers
    (take (k + 1) tree.functions) =
    ap (λ z. bodies_from first_numbers (take k tree.functions) ++ function_bodies z f) h.numbers
    ∙ sym (bodies_next first_numbers tree.functions k f at)
    ∙ ap (λ i. bodies_from first_numbers (take i tree.functions)) next in
    record {
      made = subst (λ ls. AreFunctions tree ls first_numbers tree.functions new) (sym joined)
          (subst (λ all. AreFunctions tree (lists ++ more) first_numbers tree.functions all) (sym added) all);
      count = ap length added ∙ push_long functions bodies.bodies ∙ ap (λ i. i + 1) h.count;
      numbers = behind ∙ ap (λ m. behind_function m f) h.numbers
          ∙ sym (next_numbers first_numbers tree.functions k f at)
          ∙ ap (λ i. behind_functions first_numbers (take i tree.functions)) next;
      listed = subst (λ ls. AreListsOf (bodies_from first_numbers (take (k + 1) tree.functions)) ls) (sym joined)
          (subst (λ all. AreListsOf all (lists ++ more)) sites
          (listed_on (bodies_from first_numbers (take k tree.functions)) (function_bodies n f) lists more h.listed
          fits.1));
    }

-- ---- as functions add them

-- before the first function
pub none_yet : (tree : ResolvedTree) (lowered : Lowered) (n : Numbers) → lowered.functions ≡ []
    → lowered.lists ≡ [] → n ≡ first_numbers → IsBehind tree lowered.lists lowered.functions 0 n
none_yet tree lowered n no_functions no_lists first =
    subst (λ lists. IsBehind tree lists lowered.functions 0 n) (sym no_lists)
    (subst (λ functions. IsBehind tree [] functions 0 n) (sym no_functions)
    (record { made = tt; count = refl; numbers = first; listed = refl }))

pub stopped_at : (tree : ResolvedTree) (old new : Lowered) (k : ℕ) (f : ResolvedFunctionTree) (n : Numbers)
    → IsBehind tree old.lists old.functions k n → slice_get tree.functions k ≡ Some f
    → AddsFunction tree n f old new false → IsGathered tree new.lists n.picks new.functions false
stopped_at tree old new k f n h at adds =
    subst (λ lists. IsGathered tree lists n.picks new.functions false) (sym adds.2)
    (subst (λ functions. IsGathered tree old.lists n.picks functions false) (sym adds.1)
    (stopped tree old.lists old.functions k f n h at adds.0))

pub function_added : (tree : ResolvedTree) (old new : Lowered) (k : ℕ) (f : ResolvedFunctionTree) (n m : Numbers)
    → IsBehind tree old.lists old.functions k n → slice_get tree.functions k ≡ Some f
    → AddsFunction tree n f old new true → m ≡ behind_function n f
    → IsBehind tree new.lists new.functions (k + 1) m
function_added tree old new k f n m h at adds behind =
    one_more tree old.lists new.lists old.functions new.functions k f n m adds.0 h at adds.1 adds.2 adds.3 behind

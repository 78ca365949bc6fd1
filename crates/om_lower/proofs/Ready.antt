-- What a function's bodies are before they are lowered.
use Rattle.std.proofs.Common.{◌≡◌, ℕ, List, [], ◌∷◌, ◌++◌, All, map, sym, ap, subst, ◌∙◌}
use Rattle.std.proofs.lemmas.List.Elements.{All-nil, All-cons, All-head, All-tail}
use Rattle.om_lower.specs.declared.functions.Next.{Next}
use Rattle.om_lower.specs.Limits.{HasFewSlots}
use Rattle.om_lower.specs.Made.{IsNext, next_function, next_numbers}
use Rattle.om_lower.specs.Ready.{IsPlaced, IsReady}
use Rattle.om_lower.proofs.Knowing.{Room, placed_by}
use Rattle.om_lower.proofs.Rounds.{IsRound, round_function}
use Rattle.om_scope_tree.specs.ResolvedTree.{ResolvedFunctionTree}
use Rattle.om_scope_tree.specs.Weights.{function_weight}
use Rattle.om_lower_rules.specs.Numbering.{numbers_of}
use Rattle.om_lower_rules.specs.declared.tables.Numbers as numbers
use Rattle.om_lower_tables.specs.Room.{HasNumbers, IsRoomFor}
use Rattle.om_lower_rules.specs.Bodies.{BodySite, Numbers, function_bodies, variables_of}
use Rattle.om_lower_rules.specs.Coded.{BodyHasCode}
use Rattle.om_lower_rules.specs.Slots.{Extent}
use Rattle.om_lower_rules.specs.Ends.{KnownBodies}
use Rattle.om_lower_rules.specs.declared.tables.Tables.{Tables}
use Rattle.om_lower_rules.specs.ProgramTables.{AreCellsOf, ends_in, known_of}

-- a body has code
abbrev HasCode : BodySite → Type 0
HasCode b = BodyHasCode b.function b.tree

ready : (known : KnownBodies) (extents : List Extent) (f : ResolvedFunctionTree) (sites : List BodySite)
    → AreCellsOf f extents
    → All HasFewSlots sites → All (IsRound f) sites → All HasCode sites → All (IsPlaced known) sites
    → All (IsReady known extents) sites
ready known extents f [] table few round code placed = All-nil (IsReady known extents)
ready known extents f (b ∷ sites) table few round code placed =
    let here = All-head (IsRound f) b sites round in
    All-cons (IsReady known extents) b sites
    (record {
      cells = subst (λ g. AreCellsOf g extents) (sym here.0) table;
      few = All-head HasFewSlots b sites few;
      round = here.1;
      code = All-head HasCode b sites code;
      placed = All-head (IsPlaced known) b sites placed;
    })
    (ready known extents f sites table (All-tail HasFewSlots b sites few) (All-tail (IsRound f) b sites round)
    (All-tail HasCode b sites code) (All-tail (IsPlaced known) b sites placed))

pub function_ready : (known : KnownBodies) (extents : List Extent) (f : ResolvedFunctionTree) (n : Numbers)
    → AreCellsOf f extents → All HasFewSlots (function_bodies n f) → All HasCode (function_bodies n f)
    → All (IsPlaced known) (function_bodies n f) → All (IsReady known extents) (function_bodies n f)
function_ready known extents f n table few code placed =
    ready known extents f (function_bodies n f) table few (round_function f n few) code placed

room_of : (f : ResolvedFunctionTree) (given : numbers.Numbers) → HasNumbers (function_weight f) given
    → Room (numbers_of given) (function_weight f)
unfolding IsRoomFor
room_of f given room = room

-- those of the function that comes next, once their variables are found
pub next_ready : (tables : Tables) (old slots : List (List ℕ)) (next : Next) (sites : List BodySite)
    → IsNext tables old next → sites ≡ function_bodies (next_numbers next) (next_function next)
    → slots ≡ old ++ map variables_of sites → All HasFewSlots sites
    → All (IsReady (known_of tables slots) next.extents.now)
    (function_bodies (next_numbers next) (next_function next))
next_ready tables old slots next sites is same added few =
    let n = next_numbers next in
    let f = next_function next in
    let few_here = subst (λ all. All HasFewSlots all) same few in
    function_ready (known_of tables slots) next.extents.now f n is.cells few_here is.code
    (placed_by (ends_in tables) old slots f n (room_of f next.numbers is.room) is.ends is.before
    (added ∙ ap (λ all. old ++ map variables_of all) same) few_here)

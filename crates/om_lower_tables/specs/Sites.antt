-- The bodies of a function, as they are found.
use Rattle.std.specs.Prelude.{◌≡◌, ◌+◌, ◌-◌, ℕ, IfOk, List, [], ◌∷◌, ◌++◌, Result, Some, Vec, length}
use Rattle.std.specs.Prelude.{slice_get, take, unwrap_or}
use Rattle.std.specs.declared.alloc.Global.{Global}
use Rattle.om_lower_tables.specs.Regions.{region_tree}
use Rattle.om_lower_tables.specs.declared.sites.BodyPart.{BodyPart}
use Rattle.om_lower_tables.specs.declared.sites.BodyPart.TheVariants as parts
use Rattle.om_lower_tables.specs.declared.sites.Site.{Site}
use Rattle.om_scope_tree.specs.declared.resolved.ResolvedFunction.{ResolvedFunction}
use Rattle.om_scope_tree.specs.declared.resolved.ResolvedPart.{ResolvedPart}
use Rattle.om_scope_tree.specs.declared.resolved.ResolvedStatement.{ResolvedStatement}
use Rattle.om_scope_tree.specs.ResolvedTree.{ResolvedFunctionTree, ResolvedStatementTree}
use Rattle.om_scope_tree.specs.ResolvedView as view
use Rattle.om_lower_rules.specs.Bodies.{BodySite, BodyTree, FunctionBody, Numbers, all_regions, function_bodies, next_body}
use Rattle.om_lower_rules.specs.Bodies.{parts_regions, regions, variables_in}
use Rattle.om_lower_rules.specs.Numbering.{numbers_of}
use Rattle.om_lower_rules.specs.declared.tables.Numbers as tables
use Rattle.om_lower_tables.specs.Trees.{part_trees, statement_trees}

abbrev pub part_tree : BodyPart → BodyTree
part_tree parts.Function = FunctionBody
part_tree (parts.Region region) = region_tree region

-- the variables of a body, by their slots
abbrev pub variables_at : ResolvedFunctionTree → BodyPart → List ℕ
variables_at f part = variables_in f (part_tree part)

-- a body of a function, in a body with these variables
abbrev pub body_in : List ℕ → Site → BodySite
body_in outer site = record {
  function = view.function site.function.now;
  tree = part_tree site.part;
  outer = outer;
  numbers = numbers_of site.numbers;
}

abbrev pub function_of : Site → ResolvedFunctionTree
function_of site = view.function site.function.now

abbrev pub site_variables : Site → List ℕ
site_variables site = variables_at (function_of site) site.part

-- ---- the bodies round the next one, from the outermost in, by their variables

-- those of the innermost, if there is one
abbrev pub innermost : List (List ℕ) → List ℕ
innermost round = unwrap_or (slice_get round (length round - 1)) []

-- those round a body, which is as deep as it stands in so many of them
abbrev pub round_of : List (List ℕ) → Site → List (List ℕ)
round_of round site = take site.depth round

abbrev pub body_round : List (List ℕ) → Site → BodySite
body_round round site = body_in (innermost (round_of round site)) site

-- those behind the begin of a body
abbrev pub round_with : List (List ℕ) → Site → List (List ℕ)
round_with round site = round_of round site ++ variables_at (view.function site.function.now) site.part ∷ []

abbrev pub round_behind : List (List ℕ) → List Site → List (List ℕ)
round_behind round [] = round
round_behind round (site ∷ sites) = round_behind (round_with round site) sites

-- bodies in the order of the text, each in those round it
abbrev pub bodies_in : List (List ℕ) → List Site → List BodySite
bodies_in round [] = []
bodies_in round (site ∷ sites) = body_round round site ∷ bodies_in (round_with round site) sites

-- behind these bodies the one with these variables is still open, which stands in so many
abbrev pub IsRound : (depth : ℕ) → List ℕ → List Site → Type 0
IsRound depth variables sites = slice_get (round_behind [] sites) depth ≡ Some variables

-- the body that is open at this depth, and all in which it stands, are open again behind further bodies
abbrev pub KeepsRound : (depth : ℕ) → List Site → List Site → Type 0
KeepsRound depth old new = take (depth + 1) (round_behind [] new) ≡ take (depth + 1) (round_behind [] old)

-- a body is still open behind these
abbrev pub IsOpen : Site → List Site → Type 0
IsOpen site sites = IsRound site.depth (site_variables site) sites

-- bodies have been added in an open one, which is open again behind them, with all that it stands in
abbrev pub AddsBodies : Site → List BodySite → (old new : List Site) → Type 0
AddsBodies round added old new = (bodies_in [] new ≡ bodies_in [] old ++ added) × KeepsRound round.depth old new

-- the body of a region with this statement, in an open body, and the bodies in it
abbrev pub region_bodies : Site → BodyPart → Numbers → ResolvedStatementTree → List BodySite
region_bodies round part n s =
    let f = function_of round in
    record { function = f; tree = part_tree part; outer = site_variables round; numbers = n }
    ∷ regions f (variables_at f part) n s

-- the bodies of a function are found, from these numbers on, unless memory runs out
abbrev pub GivesBodies : {E : Type 0} → Result (Vec Site Global) E → tables.Numbers → ResolvedFunction → Type 0
GivesBodies result numbers function =
    IfOk result (λ sites. bodies_in [] sites.items ≡ function_bodies (numbers_of numbers) (view.function function))

-- ---- a part that stands in an open body, from these numbers on

-- a walk over it gives the numbers behind it, unless memory runs out
abbrev pub ComesBehind : {X E : Type 0} → Result tables.Numbers E → (behind : Numbers → X → Numbers) → tables.Numbers → X
    → Type 0
ComesBehind result behind numbers x = IfOk result (λ after. numbers_of after ≡ behind (numbers_of numbers) x)

-- the body of a region has been added, and those in it
abbrev pub AddsBody : Site → BodyPart → tables.Numbers → ResolvedStatement → (old new : Vec Site Global) → Type 0
AddsBody round part numbers body old new =
    let added = region_bodies round part (next_body (numbers_of numbers)) (view.statement body) in
    AddsBodies round added old.items new.items

-- those of the regions in a statement have been, in statements, and in the parts of a `sections`
abbrev pub AddsRegions : Site → tables.Numbers → ResolvedStatement → (old new : Vec Site Global) → Type 0
AddsRegions round numbers statement old new =
    let added = regions (function_of round) (site_variables round) (numbers_of numbers) (view.statement statement) in
    AddsBodies round added old.items new.items

abbrev pub AddsAllRegions : Site → tables.Numbers → List ResolvedStatement → (old new : Vec Site Global) → Type 0
AddsAllRegions round numbers items old new =
    let added = all_regions (function_of round) (site_variables round) (numbers_of numbers) (statement_trees items) in
    AddsBodies round added old.items new.items

abbrev pub AddsPartsRegions : Site → tables.Numbers → List ResolvedPart → (old new : Vec Site Global) → Type 0
AddsPartsRegions round numbers parts old new =
    let added = parts_regions (function_of round) (site_variables round) (numbers_of numbers) (part_trees parts) in
    AddsBodies round added old.items new.items

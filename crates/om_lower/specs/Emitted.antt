-- What is promised of the code of a body.
use Rattle.std.specs.Prelude.{◌≡◌, ◌<◌, ◌≤◌, ℕ, List, [], OnOk, Option, None, Result, Some, length, map}
use Rattle.om_code.specs.declared.raw.Line.{Line}
use Rattle.om_lower.specs.declared.body.Emitted.{Emitted}
use Rattle.om_lower_emit.specs.Drafts.{Written}
use Rattle.om_lower_emit.specs.Emits.{site}
use Rattle.om_lower_emit.specs.Settled.{ListsStand, number_of}
use Rattle.om_scope_tree.specs.declared.resolved.RegionKind.{RegionKind}
use Rattle.om_scope_tree.specs.declared.resolved.RegionKind.TheVariants as kinds
use Rattle.om_scope_tree.specs.declared.resolved.ResolvedFunction.{ResolvedFunction}
use Rattle.om_scope_tree.specs.ResolvedTree.{ResolvedFunctionTree}
use Rattle.om_scope_tree.specs.ResolvedView as view
use Rattle.om_lower_rules.specs.Bodies.{BodyTree, FunctionBody, Numbers}
use Rattle.om_lower_rules.specs.BodyTables.{numbered_by}
use Rattle.om_lower_rules.specs.Code.{body_row}
use Rattle.om_lower_rules.specs.Coded.{BodyHasCode}
use Rattle.om_lower_rules.specs.Ends.{HasBodyEnds}
use Rattle.om_lower_rules.specs.Numbering.{numbers_of}
use Rattle.om_lower_rules.specs.ProgramTables.{known_in}
use Rattle.om_lower_rules.specs.Scopes.{body_scopes}
use Rattle.om_lower_rules.specs.declared.body.BodyTables.{BodyTables}
use Rattle.om_lower_rules.specs.declared.copies.Region.{Region}
use Rattle.om_lower_rules.specs.declared.tables.Numbers as tables
use Rattle.om_lower_tables.specs.Regions.{tree_as}
use Rattle.om_lower_tables.specs.Sites.{body_in}
use Rattle.om_lower_tables.specs.declared.sites.Site.{Site}
use Rattle.om_lower_emit.specs.declared.writing.Writing.{Writing}
use Rattle.om_lower_emit.specs.Statements.{EmitsWith}
use Rattle.om_lower_emit.specs.Scoped.{AreInside, EmitsScopes}
use Rattle.om_lower_rules.specs.Numbered.{Numbered, site_with}
use Rattle.om_lower_rules.specs.Picks.{body_picks}

-- the row of a body stands in its code, wherever its lists of PICK stand in the program
abbrev pub HasRow : Numbered → Numbers → ResolvedFunctionTree → BodyTree → Emitted → Type 0
HasRow names n f tree made = (picks : List (List ℕ)) → ListsStand made.lists.items picks
    → body_row (site_with names made.code picks) n f tree 0 (length made.code)

-- and so do its scopes
abbrev pub HasScopesRow : Numbered → ResolvedFunctionTree → BodyTree → Emitted → Type 0
HasScopesRow names f tree made = (picks : List (List ℕ)) → ListsStand made.lists.items picks
    → body_scopes (site_with names made.code picks) f tree 0 (length made.code)
    (record { opened = []; closed = made.scopes.items })

-- it has the lists of the `sections` in it
abbrev pub HasLists : Numbers → ResolvedFunctionTree → BodyTree → Emitted → Type 0
HasLists n f tree made = map number_of made.lists.items ≡ body_picks n f tree

-- the code of a body, with its lists and its scopes, if it has at most 65,536 instructions;
-- else its code is longer
abbrev pub FitsRow : Numbered → Numbers → ResolvedFunctionTree → BodyTree → Option Emitted → Type 0
FitsRow names n f tree None =
    (picks : List (List ℕ)) × (code : List Line) × body_row (site_with names code picks) n f tree 0 (length code)
    × (65536 < length code)
FitsRow names n f tree (Some made) =
    HasRow names n f tree made × (length made.code ≤ 65536) × HasLists n f tree made × HasScopesRow names f tree made
    × AreInside (length made.code) made.scopes.items

-- all of a body is written, with the lists of the `sections` in it
abbrev pub EmitsBody : Numbered → Numbers → ResolvedFunctionTree → BodyTree → Written → Written → Type 0
EmitsBody names n f tree = EmitsWith (body_picks n f tree) (λ done at. body_row (site names done) n f tree)

-- the same of a region, in whichever function it stands
abbrev pub EmitsRegion : Numbered → Numbers → BodyTree → Written → Written → Type 0
EmitsRegion names n tree old new = (f : ResolvedFunctionTree) → EmitsBody names n f tree old new

abbrev pub EmitsRegionScopes : Numbered → BodyTree → Writing → Writing → Type 0
EmitsRegionScopes names tree old new =
    (f : ResolvedFunctionTree) → EmitsScopes names (λ at. body_scopes at f tree) old new

-- ---- the body at a site, by the tables of what its instructions name

-- it has code
abbrev pub HasSiteCode : Site → Type 0
HasSiteCode site =
    let b = body_in [] site in
    BodyHasCode b.function b.tree

-- the tables have the regions in it
abbrev pub HasSiteEnds : BodyTables → Site → Type 0
HasSiteEnds tables site =
    let b = body_in [] site in
    HasBodyEnds (known_in tables) b.numbers b.function b.tree

-- its code, or none where that has too many instructions
abbrev pub FitsSite : BodyTables → Site → Option Emitted → Type 0
FitsSite tables site made =
    let b = body_in [] site in
    FitsRow (numbered_by tables) b.numbers b.function b.tree made

-- ---- a function writes a body by those tables, unless memory runs out, and its scopes begin and end in it

-- the body at a site
abbrev pub WritesSiteBody : {T E : Type 0} → Result T E → BodyTables → Site → Writing → Writing → Type 0
WritesSiteBody result tables site old new =
    let b = body_in [] site in
    OnOk result (EmitsBody (numbered_by tables) b.numbers b.function b.tree old.draft new.draft)

abbrev pub WritesSiteScopes : {T E : Type 0} → Result T E → BodyTables → Site → Writing → Writing → Type 0
WritesSiteScopes result tables site old new =
    let b = body_in [] site in
    OnOk result (EmitsScopes (numbered_by tables) (λ at. body_scopes at b.function b.tree) old new)

-- the tables have the regions in the own body of a function
abbrev pub HasOwnEnds : BodyTables → tables.Numbers → ResolvedFunction → Type 0
HasOwnEnds tables numbers f = HasBodyEnds (known_in tables) (numbers_of numbers) (view.function f) FunctionBody

-- the own body of a function
abbrev pub WritesOwnBody : {T E : Type 0} → Result T E → BodyTables → tables.Numbers → ResolvedFunction → Writing
    → Writing → Type 0
WritesOwnBody result tables numbers f old new = OnOk result
    (EmitsBody (numbered_by tables) (numbers_of numbers) (view.function f) FunctionBody old.draft new.draft)

abbrev pub WritesOwnScopes : {T E : Type 0} → Result T E → BodyTables → ResolvedFunction → Writing → Writing → Type 0
WritesOwnScopes result tables f old new =
    OnOk result (EmitsScopes (numbered_by tables) (λ at. body_scopes at (view.function f) FunctionBody) old new)

-- the body of a region, as one of this kind
abbrev pub WritesBodyAs : {T E : Type 0} → RegionKind → Result T E → BodyTables → tables.Numbers → Region → Writing
    → Writing → Type 0
WritesBodyAs kind result tables numbers region old new = OnOk result
    (EmitsRegion (numbered_by tables) (numbers_of numbers) (tree_as kind region) old.draft new.draft)

abbrev pub WritesScopesAs : {T E : Type 0} → RegionKind → Result T E → BodyTables → Region → Writing → Writing → Type 0
WritesScopesAs kind result tables region old new =
    OnOk result (EmitsRegionScopes (numbered_by tables) (tree_as kind region) old new)

abbrev pub WritesRegionBody : {T E : Type 0} → Result T E → BodyTables → tables.Numbers → Region → Writing → Writing
    → Type 0
WritesRegionBody result tables numbers region old new = WritesBodyAs region.kind result tables numbers region old new

abbrev pub WritesRegionScopes : {T E : Type 0} → Result T E → BodyTables → Region → Writing → Writing → Type 0
WritesRegionScopes result tables region old new = WritesScopesAs region.kind result tables region old new

-- the body of a `parallel`, which each thread of a team runs
abbrev pub WritesParallelBody : {T E : Type 0} → Result T E → BodyTables → tables.Numbers → Region → Writing → Writing
    → Type 0
WritesParallelBody result tables numbers region old new =
    WritesBodyAs kinds.Parallel result tables numbers region old new

abbrev pub WritesParallelScopes : {T E : Type 0} → Result T E → BodyTables → Region → Writing → Writing → Type 0
WritesParallelScopes result tables region old new = WritesScopesAs kinds.Parallel result tables region old new

-- the body of a `task`
abbrev pub WritesTaskBody : {T E : Type 0} → Result T E → BodyTables → tables.Numbers → Region → Writing → Writing
    → Type 0
WritesTaskBody result tables numbers region old new =
    WritesBodyAs kinds.Task result tables numbers region old new

abbrev pub WritesTaskScopes : {T E : Type 0} → Result T E → BodyTables → Region → Writing → Writing → Type 0
WritesTaskScopes result tables region old new = WritesScopesAs kinds.Task result tables region old new

-- The constructs among the scopes round a place. In each list of constructs the first is the innermost, and in each
-- list of landmarks the last.
use Rattle.std.specs.Prelude.{◌≡◌, ℕ, suc, ◌<◌, List, [], ◌∷◌, ◌++◌, Bool, true, false, not, ◌&&◌}
use Rattle.std.specs.Prelude.{◌||◌, if◌then◌else◌, is_some, length, nat_eq, nat_lt}
use Rattle.std.specs.List.{list_any}
use Rattle.std.specs.Str.{bytes_eq}
use Rattle.om_scope_symbols.specs.declared.nesting.Construct.{Construct}
use Rattle.om_scope_symbols.specs.declared.landmark.Landmark.{Landmark}
use Rattle.om_scope_symbols.specs.declared.landmark.Marks.{Marks}
use Rattle.om_scope_rules.specs.declared.region.Region.{Region}
use Rattle.om_scope_rules.specs.declared.region.SharingKind.{SharingKind}
use Rattle.om_scope_rules.specs.DirectiveRules as rules
use Rattle.om_scope_rules.specs.Scopes.{Enclosing, Scope, plain}
use Rattle.om_scope_rules.specs.Sharing.{asks_for_clauses, is_parallel, is_task, is_task_without, lacks_clause}
use Rattle.om_scope_symbols.specs.Landmarks.{marks_behind}
use Rattle.om_scope_symbols.specs.Stacks.{innermost_of, seen_in, without_innermost}

-- the constructs round a scope of this depth stand one inside of the other
abbrev pub AreNested : List Construct → ℕ → Type 0
AreNested [] depth = Unit {0}
AreNested (construct ∷ outer) depth = (construct.depth < depth) × AreNested outer construct.depth

-- the construct, if any, that stands in the scope of this depth, where none stands in a deeper one
abbrev pub region_in : List Construct → ℕ → Region
region_in [] depth = plain
region_in (construct ∷ outer) depth = if nat_eq construct.depth depth then construct.region else plain

-- those round the innermost
abbrev pub further : List Construct → List Construct
further [] = []
further (construct ∷ outer) = outer

-- those that stand in the scopes round that one
abbrev pub outside_of : List Construct → ℕ → List Construct
outside_of [] depth = []
outside_of (construct ∷ outer) depth = if nat_eq construct.depth depth then outer else construct ∷ outer

-- the scopes round a place, with these constructs in them
abbrev pub enclosing_of : List Scope → List Construct → List Enclosing
enclosing_of [] constructs = []
enclosing_of (scope ∷ outer) constructs =
    record { scope = scope; region = region_in constructs (length outer) } ∷ enclosing_of outer
    (outside_of constructs (length outer))

-- ---- the innermost construct of a kind

-- it asks for a clause for each variable
abbrev pub asks : Region → Bool
asks region = asks_for_clauses region.default

-- it copies the variables that it does not list
abbrev pub copies : Region → Bool
copies region = is_task region.kind && not (is_some region.default)

abbrev pub lists : Region → List ℕ → Bool
lists region name = list_any (bytes_eq name) region.shared

-- how many scopes stand round the one in the innermost construct that is such; 0 where none is
abbrev pub innermost : (Region → Bool) → List Construct → ℕ
innermost is_such [] = 0
innermost is_such (construct ∷ outer) = if is_such construct.region then suc construct.depth else innermost is_such
    outer

-- the same of those that do not list a name
abbrev pub innermost_without : (Region → Bool) → List Construct → List ℕ → ℕ
innermost_without is_such [] name = 0
innermost_without is_such (construct ∷ outer) name =
    if is_such construct.region && not (lists construct.region name) then suc construct.depth else innermost_without
    is_such outer name

abbrev pub marks_of : List Construct → Marks
marks_of constructs = record { asking = innermost asks constructs; copying = innermost copies constructs }

abbrev pub marks_without : List Construct → List ℕ → Marks
marks_without constructs name = record {
  asking = innermost_without asks constructs name;
  copying = innermost_without copies constructs name;
}

-- those in a construct, round whose inner scope so many stand
abbrev pub marks_in : Region → ℕ → Marks → Marks
marks_in region inside outer = record {
  asking = if asks region then inside else outer.asking;
  copying = if copies region then inside else outer.copying;
}

-- each construct has the marks of itself and of those round it
abbrev pub AreMarked : List Construct → Type 0
AreMarked [] = Unit {0}
AreMarked (construct ∷ outer) = (construct.marks ≡ marks_of (construct ∷ outer)) × AreMarked outer

-- the constructs, once one is entered in the scope of this depth
abbrev pub entered : ℕ → Region → List Construct → List Construct
entered depth region outer = record {
  depth = depth;
  region = region;
  marks = marks_in region (suc depth) (marks_of outer);
} ∷ outer

-- ---- the constructs that list a name

-- such a construct, and what stands up to it of those that do not list the name
abbrev pub listing : ℕ → List Construct → List ℕ → Landmark
listing inside outer name = record { depth = inside; marks = marks_without outer name }

-- for each that lists the name, the innermost last
abbrev pub listings : List Construct → List ℕ → List Landmark
listings [] name = []
listings (construct ∷ outer) name =
    if lists construct.region name then listings outer name ++ listing (suc construct.depth) outer name
    ∷ [] else listings outer name

-- a table has the listings of each name
abbrev pub Lists : List (List ℕ × List Landmark) → List Construct → Type 0
Lists table constructs = (name : List ℕ) → seen_in table name ≡ listings constructs name

-- one more listing of a name that has these
abbrev pub with_listing : ℕ → Marks → List Landmark → List Landmark
with_listing inside all seen = seen ++ record { depth = inside; marks = marks_behind (innermost_of seen) all } ∷ []

-- of a table, for each of these names, what is noted changes so; for the others it stays
abbrev pub ChangedFor : (List Landmark → List Landmark) → (before now : List (List ℕ × List Landmark)) → List (List ℕ)
    → Type 0
ChangedFor change before now names =
    (other : List ℕ) → seen_in now other ≡ (if list_any (bytes_eq other) names then change (seen_in before other)
    else seen_in before other)

-- of a table, one more listing is noted of each of these names
abbrev pub AddsListings : ℕ → Marks → (before now : List (List ℕ × List Landmark)) → List (List ℕ) → Type 0
AddsListings inside all before now names = ChangedFor (with_listing inside all) before now names

-- what a construct of this kind says of the variables round it, by what its clauses list
abbrev pub region_listing : SharingKind → rules.Listed → Region
region_listing kind listed = record { kind = kind; default = listed.default; shared = listed.shared }

-- ---- each `parallel`

-- how deep the innermost of these stands, and one more
abbrev pub end_of : List Construct → ℕ
end_of [] = 0
end_of (construct ∷ outer) = suc construct.depth

-- the innermost, and what stands up to it
abbrev pub landmark_of : List Construct → Landmark
landmark_of constructs = record { depth = end_of constructs; marks = marks_of constructs }

-- one more construct of a kind, if it is a `parallel`
abbrev pub with_parallel : SharingKind → Landmark → List Landmark → List Landmark
with_parallel kind landmark seen = if is_parallel kind then seen ++ landmark ∷ [] else seen

-- each that is one, the innermost last
abbrev pub parallels : List Construct → List Landmark
parallels [] = []
parallels (construct ∷ outer) = with_parallel construct.region.kind (landmark_of (construct ∷ outer)) (parallels outer)

-- once the innermost construct is left, which is of this kind
abbrev pub without_parallel : SharingKind → List Landmark → List Landmark
without_parallel kind seen = if is_parallel kind then without_innermost seen else seen

-- ---- what constructs make of a name

-- one that stands in a scope of this depth, or in a deeper one, lacks a clause for a name
abbrev pub unlisted_since : List Construct → ℕ → List ℕ → Bool
unlisted_since [] depth name = false
unlisted_since (construct ∷ outer) depth name =
    if nat_lt construct.depth depth then false else lacks_clause construct.region name || unlisted_since outer depth
    name

-- none is a `parallel`, of those that stand in a scope of this depth or in a deeper one
abbrev pub alone_since : List Construct → ℕ → Bool
alone_since [] depth = true
alone_since (construct ∷ outer) depth = if nat_lt construct.depth depth then true else not
    (is_parallel construct.region.kind) && alone_since outer depth

-- a `task` of those makes a copy of a name's variable, as no `parallel` of those stands round it
abbrev pub copied_since : List Construct → ℕ → List ℕ → Bool
copied_since [] depth name = false
copied_since (construct ∷ outer) depth name =
    if nat_lt construct.depth depth then false else (is_task_without construct.region name && alone_since
    (construct ∷ outer) depth) || copied_since outer depth name

-- the constructs up to the outermost `parallel` of those; all, where there is none
abbrev pub to_parallel : List Construct → ℕ → List Construct
to_parallel [] depth = []
to_parallel (construct ∷ outer) depth = if alone_since outer depth then construct ∷ outer else to_parallel outer depth

-- ---- what is known of those round a place

-- whether one stands in the scope of this depth, where none stands in a deeper one
abbrev pub StandsIn : List Construct → ℕ → Bool → Type 0
StandsIn constructs depth stands = outside_of constructs depth ≡ (if stands then further constructs else constructs)

-- what is true of all constructs round a place, with a table of those that list a name, and of each `parallel`
abbrev pub AreHeld : List Construct → List (List ℕ × List Landmark) → List Landmark → Type 0
AreHeld constructs table held = AreMarked constructs × AreNested constructs (end_of constructs) × Lists table
    constructs × (held ≡ parallels constructs)

-- Constructs round a place that are found by how deep they stand. In each list the first is the outermost.
use Rattle.std.specs.Prelude.{ℕ, ◌<◌, ◌≤◌, List, [], ◌∷◌, Option, None, Some, if◌then◌else◌, nat_lt}
use Rattle.std.specs.List.Sorted.{IsNonDecreasingBy, IsPartitionPoint}
use Rattle.std.specs.Option.{option_or}
use Rattle.om_scope_symbols.specs.declared.landmark.Landmark.{Landmark}
use Rattle.om_scope_symbols.specs.declared.landmark.Marks.{Marks}

-- each stands deeper than those before it, or as deep
abbrev pub Descend : List Landmark → Type 0
Descend landmarks = IsNonDecreasingBy (λ landmark. landmark.depth) landmarks

-- so many do not stand deeper, and come first
abbrev pub IsCountWithin : List Landmark → ℕ → ℕ → Type 0
IsCountWithin landmarks depth = IsPartitionPoint (λ landmark. landmark.depth ≤ depth) (λ landmark. depth < landmark.depth)
    landmarks

-- the outermost that does: round the scope in it stand more scopes than this
abbrev pub first_deeper : List Landmark → ℕ → Option Landmark
first_deeper [] depth = None
first_deeper (landmark ∷ inner) depth = if nat_lt depth landmark.depth then Some landmark else first_deeper inner depth

-- the innermost that does not
abbrev pub last_within : List Landmark → ℕ → Option Landmark
last_within [] depth = None
last_within (landmark ∷ inner) depth = option_or (last_within inner depth)
    (if nat_lt depth landmark.depth then None else Some landmark)

-- the deeper of a construct of any name, and of one from round a listing
abbrev pub deeper : ℕ → ℕ → ℕ → ℕ
deeper listed any outer = if nat_lt listed any then any else outer

-- what stands round a place of those that do not list a name: by the innermost that does, and by all
abbrev pub marks_behind : Option Landmark → Marks → Marks
marks_behind None all = all
marks_behind (Some listing) all = record {
  asking = deeper listing.depth all.asking listing.marks.asking;
  copying = deeper listing.depth all.copying listing.marks.copying;
}

-- What is lowered, as a tree and the bodies in it, and what is known of it.
use Rattle.std.specs.Prelude.{◌≡◌, ℕ, Bool, List, map}
use denote.Ref.{Bor}
use Rattle.om_lower.specs.declared.bodies.Bodies.{Bodies}
use Rattle.om_lower.specs.declared.functions.Input.{Input}
use Rattle.om_lower.specs.declared.functions.Known.{Known}
use Rattle.om_lower.specs.declared.functions.SeenBody.{SeenBody}
use Rattle.om_lower.specs.Made.{AddsBody}
use Rattle.om_lower.specs.Ready.{IsReady}
use Rattle.om_scope_tree.specs.Beside.{TreeCopiesBehind}
use Rattle.om_scope_tree.specs.ResolvedTree.{ResolvedTree}
use Rattle.om_scope_tree.specs.ResolvedView as view
use Rattle.om_scope_tree.specs.Weights.{HasSmallWeight}
use Rattle.om_scope_tree.specs.Whole.{IsWholeTree}
use Rattle.om_lower_rules.specs.Bodies.{BodySite, variables_of}
use Rattle.om_lower_rules.specs.Coded.{TreeHasCode}
use Rattle.om_lower_rules.specs.Ends.{KnownBodies}
use Rattle.om_lower_rules.specs.ProgramTables.{IsTablesOf, known_of}
use Rattle.om_lower_tables.specs.declared.sites.Site.{Site}
use Rattle.om_lower_tables.specs.Sites.{body_in, body_round}

abbrev pub tree_of : Input → ResolvedTree
tree_of input = view.resolved input.resolved.now

-- Its tree is whole, each part of it has a row, each copy of a region stands behind where the region begins, and its
-- weight is small. The tables are those of the tree.
pub record IsInput (input : Input) : Type 0 where
  pub tables : IsTablesOf (tree_of input) input.tables.now
  pub whole : IsWholeTree (tree_of input)
  pub has_code : TreeHasCode (tree_of input)
  pub copies : TreeCopiesBehind (tree_of input)
  pub small : HasSmallWeight (tree_of input)

-- what is known of bodies, by the tables of their program
abbrev pub known_bodies : Known → KnownBodies
known_bodies known = known_of known.input.now.tables.now known.slots.now

-- the tree whose bodies these are
abbrev pub known_tree : Known → ResolvedTree
known_tree known = tree_of known.input.now

-- a body can be lowered with what is known
abbrev pub IsReadyIn : Known → BodySite → Type 0
IsReadyIn known b = IsReady (known_bodies known) known.extents.now b

-- the variables of the bodies that are not yet over, each as it is lent
abbrev pub seen_round : List (Bor (List ℕ)) → List (List ℕ)
seen_round round = map (λ one. one.now) round

-- the body at a site, in those round it, is put behind others, unless it passes a limit
abbrev pub AddsSite : Known → (round : List (Bor (List ℕ))) → Site → Bodies → Bodies → (fits : Bool) → Type 0
AddsSite known round site old new fits = AddsBody (known_tree known) (body_round (seen_round round) site) old new fits

-- a body, once its variables are known and those of the body round it
abbrev pub seen_body : SeenBody → BodySite
seen_body seen = body_in seen.outer.now seen.site.now

abbrev pub seen_tree : SeenBody → ResolvedTree
seen_tree seen = tree_of seen.known.now.input.now

-- A body can be lowered: what is lowered is an input, what has to be known of the body is known, and its variables are
-- these.
pub record IsSeen (seen : SeenBody) : Type 0 where
  pub input : IsInput seen.known.now.input.now
  pub ready : IsReady (known_bodies seen.known.now) seen.known.now.extents.now (seen_body seen)
  pub variables : seen.variables.now ≡ variables_of (seen_body seen)

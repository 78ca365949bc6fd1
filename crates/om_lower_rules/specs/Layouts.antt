-- Where the variables of a body are. Different variables have different places (C17 6.2.2p2: each declaration of a
-- local name denotes an entity of its own), each has the cells that its declaration gives it (C17 6.2.5p20), and what
-- the body means asks for no other variables.
use Rattle.std.specs.Prelude.{◌≡◌, ◌<◌, ℕ, Option, Some, Contains, length, option_map, slice_get}
use Rattle.std.specs.List.{AllZip}
use Rattle.om_code.specs.declared.instruction.Place.TheVariants as places
use Rattle.om_code.specs.declared.raw.Raw.{Raw}
use Rattle.om_scope_tree.specs.declared.resolved.Variable.{Variable}
use Rattle.om_scope_tree.specs.declared.resolved.Variable.TheVariants.{Global, Local}
use Rattle.om_scope_tree.specs.Beside.{TreeCopiesBehind}
use Rattle.om_scope_tree.specs.ResolvedTree.{ResolvedFunctionTree, ResolvedTree}
use Rattle.om_scope_tree.specs.Whole.{IsWholeTree}
use Rattle.om_lower_rules.specs.Bodies.{BodyTree, FunctionBody, RegionBody, BodySite, bodies_of, variables_of}
use Rattle.om_lower_rules.specs.Code.{IsCodeOf}
use Rattle.om_lower_rules.specs.Meaning.{Flow, meaning, meanings}
use Rattle.om_lower_rules.specs.MeaningLaws.{layout_of}
use Rattle.om_lower_rules.specs.Mentions.{extents_of}
use Rattle.om_lower_rules.specs.Slots.{cells_in, cells_of_length}
use Rattle.om_lower_rules.specs.Worlds.{World, Layout}

-- a variable that a body names: a global of the tree, or a variable of its function that it has
abbrev pub IsNamedIn : ResolvedTree → BodySite → Variable → Type 0
IsNamedIn tree b (Global number) = number < length tree.globals
IsNamedIn tree b (Local at) = Contains (variables_of b) at

-- how many cells the declaration of a variable gives it: one to a scalar, to an array as many as it is long
abbrev pub declared_cells : ResolvedTree → ResolvedFunctionTree → Variable → Option ℕ
declared_cells tree f (Global number) =
    option_map (λ global. cells_of_length global.length) (slice_get tree.globals number)
declared_cells tree f (Local at) = Some (cells_in (extents_of f) at)

-- two layouts give a variable the same place, and as many cells
abbrev pub PlacesAlike : Layout → Layout → Variable → Type 0
PlacesAlike at other x = (at.place x ≡ other.place x) × (at.cells (at.place x) ≡ other.cells (other.place x))

-- what the statements of a body mean, where its variables are there
abbrev pub body_meaning : Layout → ResolvedFunctionTree → BodyTree → ℕ → World → Flow
body_meaning at f FunctionBody n w = meanings at f.body n w
body_meaning at f (RegionBody first kind clauses captures s) n w = meaning at s n w

-- where the variables of a body are, in a program of the tree
pub record IsTrueLayout (tree : ResolvedTree) (b : BodySite) (at : Layout) : Type 0 where
  -- two different variables that it names have two different places
  pub apart : (x y : Variable) → IsNamedIn tree b x → IsNamedIn tree b y → at.place x ≡ at.place y → x ≡ y
  -- a global is the global of its number
  pub globals : (number : ℕ) → at.place (Global number) ≡ places.Global number
  -- each variable that it names has the cells that are declared
  pub cells : (x : Variable) → IsNamedIn tree b x →
      declared_cells tree b.function x ≡ Some (at.cells (at.place x))
  -- and it means the same wherever other variables are: its meaning asks for those alone that it names
  pub asked : (other : Layout) → ((x : Variable) → IsNamedIn tree b x → PlacesAlike at other x) →
      (n : ℕ) (w : World) → body_meaning at b.function b.tree n w ≡ body_meaning other b.function b.tree n w

-- so it is in each body: of a function, of a `parallel` and of a `task`
abbrev pub HasTrueLayouts : ResolvedTree → Raw → Type 0
HasTrueLayouts tree raw =
    AllZip (λ b body. IsTrueLayout tree b (layout_of raw body (variables_of b))) (bodies_of tree) raw.bodies

-- The code of a whole tree has true layouts, if each copy stands behind where its region begins.
abbrev pub TrueLayouts : Type 0
TrueLayouts =
    (tree : ResolvedTree) (raw : Raw) → IsWholeTree tree → TreeCopiesBehind tree → IsCodeOf tree raw →
    HasTrueLayouts tree raw

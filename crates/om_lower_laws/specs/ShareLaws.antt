-- What the bodies of `parallel` and `task` share with the body round it. A name of a shared variable means, within
-- the construct, the storage that it means outside (OpenMP API 5.2, section 5.4.2).
use Rattle.std.specs.Prelude.{◌≡◌, ℕ, Some, true, slice_get}
use Rattle.std.specs.List.{AllZip, list_any}
use Rattle.om_code.specs.declared.raw.Body.{Body}
use Rattle.om_code.specs.declared.raw.Raw.{Raw}
use Rattle.om_code.specs.declared.raw.Slot.{Slot}
use Rattle.om_code.specs.declared.raw.Source.TheVariants.{Outer}
use Rattle.om_scope_tree.specs.ResolvedTree.{ResolvedTree}
use Rattle.om_scope_tree.specs.Whole.{IsWholeTree}
use Rattle.om_lower_rules.specs.Bodies.{BodySite, bodies_of, variables_of}
use Rattle.om_lower_rules.specs.Code.{IsCodeOf, captures_of}
use Rattle.om_lower_rules.specs.Slots.{shares}

-- slot i of a body has the cells of slot k of the body round it
abbrev pub IsShared : Body → (i k : ℕ) → Type 0
IsShared body i k = (slot : Slot) × (slice_get body.slots i ≡ Some slot) × (slot.source ≡ Outer k)

-- a body, and its part of the tree
pub record SharesWell (b : BodySite) (body : Body) : Type 0 where
  -- such a slot stands for the variable that the slot outside stands for
  pub same : (i k : ℕ) → IsShared body i k
      → (x : ℕ) × (slice_get (variables_of b) i ≡ Some x) × (slice_get b.outer k ≡ Some x)
  -- and no two slots have the cells of one
  pub apart : (i j k : ℕ) → IsShared body i k → IsShared body j k → i ≡ j

-- So it is in the code of a tree.
abbrev pub SharedStandOutside : Type 0
SharedStandOutside = (tree : ResolvedTree) (raw : Raw) → IsCodeOf tree raw →
    AllZip SharesWell (bodies_of tree) raw.bodies

-- a variable has one slot in a body and one in the body round it, and both have the same cells
pub record HasOneStorage (b : BodySite) (body : Body) (variable : ℕ) : Type 0 where
  pub inside : ℕ
  pub outside : ℕ
  pub named : slice_get (variables_of b) inside ≡ Some variable
  pub found : slice_get b.outer outside ≡ Some variable
  pub shared : IsShared body inside outside

-- each variable that a `parallel` or a `task` takes from outside, and shares
abbrev pub SharesAll : BodySite → Body → Type 0
SharesAll b body = (variable : ℕ) → list_any (shares variable) (captures_of b.tree) ≡ true
    → HasOneStorage b body variable

-- So it is in the code of a whole tree.
abbrev pub SharedHaveSlots : Type 0
SharedHaveSlots = (tree : ResolvedTree) (raw : Raw) → IsWholeTree tree → IsCodeOf tree raw →
    AllZip SharesAll (bodies_of tree) raw.bodies

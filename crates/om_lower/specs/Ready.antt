-- What is known of a body that is lowered next.
use Rattle.std.specs.Prelude.{◌≡◌, ◌≤◌, ◌-◌, ℕ, List, Some, length, slice_get}
use Rattle.om_lower.specs.Limits.{HasFewSlots}
use Rattle.om_lower_rules.specs.Bodies.{BodySite, variables_of}
use Rattle.om_lower_rules.specs.Coded.{BodyHasCode}
use Rattle.om_lower_rules.specs.Mentions.{extents_of}
use Rattle.om_lower_rules.specs.Slots.{Extent, cells_in}
use Rattle.om_lower_rules.specs.Ends.{HasBodyEnds, KnownBodies}

-- the variables of a body stand in a table of those of bodies, at its number: the one before those at its begin
pub record IsListed (slots : List (List ℕ)) (b : BodySite) : Type 0 where
  pub begun : 1 ≤ b.numbers.bodies
  pub there : slice_get slots (b.numbers.bodies - 1) ≡ Some (variables_of b)

-- a body is in that table, and the regions in it are known
pub record IsPlaced (known : KnownBodies) (b : BodySite) : Type 0 where
  pub listed : IsListed known.slots b
  pub regions : HasBodyEnds known b.numbers b.function b.tree

-- a body can be lowered, with what is known of bodies and how many cells the variables of its function have
pub record IsReady (known : KnownBodies) (extents : List Extent) (b : BodySite) : Type 0 where
  pub cells : (variable : ℕ) → cells_in extents variable ≡ cells_in (extents_of b.function) variable
  pub few : HasFewSlots b
  pub round : length b.outer ≤ 256
  pub code : BodyHasCode b.function b.tree
  pub placed : IsPlaced known b

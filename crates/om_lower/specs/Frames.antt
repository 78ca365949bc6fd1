-- The slots of a frame, within their limits.
use Rattle.std.specs.Prelude.{◌≡◌, ◌<◌, ◌≤◌, ◌⊎◌, ℕ, List, Option, None, Some, length, map}
use Rattle.om_code.specs.declared.raw.Slot.{Slot}
use Rattle.om_lower.specs.Limits.{frame_cells}
use Rattle.om_scope_tree.specs.declared.resolved.Capture.{Capture}
use Rattle.om_lower_rules.specs.Bodies.{BodySite, variables_of}
use Rattle.om_lower_rules.specs.Code.{slots_of}
use Rattle.om_lower_rules.specs.Slots.{Extent, slot_with}

-- these slots, at most 256 of them with at most 4,096 cells, or none where a limit is passed
abbrev pub FitsFrame : (variables : List ℕ) → (slots : List Slot) → Option (List Slot) → Type 0
FitsFrame variables slots None = (256 < length variables) ⊎ (4096 < frame_cells slots)
FitsFrame variables slots (Some frame) = (frame ≡ slots) × (length variables ≤ 256)
    × (frame_cells slots ≤ 4096)

-- the slots of a body with these variables, which takes these from the body round it, or none where a limit is passed
abbrev pub FitsVariables : List Extent → (outer : List ℕ) → List Capture → (variables : List ℕ) → Option (List Slot)
    → Type 0
FitsVariables extents outer captures variables frame =
    FitsFrame variables (map (slot_with extents outer captures) variables) frame

-- the slots of a body, or none where a limit is passed
abbrev pub FitsSlots : BodySite → Option (List Slot) → Type 0
FitsSlots b frame = FitsFrame (variables_of b) (slots_of b) frame

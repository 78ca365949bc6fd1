-- Code that is being written: a jump names a label, and a label's place comes to be known once its code is
-- reached.
use Rattle.std.specs.Prelude.{◌≡◌, ◌≤◌, ◌<◌, ◌+◌, ◌^◌, ℕ, zero, suc, List, [], ◌∷◌, ◌++◌, Option, Some, None, length}
use Rattle.std.specs.Prelude.{All, map, slice_get, slice_set}
use Rattle.om_code.specs.declared.instruction.Instr.{Instr}
use Rattle.om_code.specs.declared.instruction.Instr.TheVariants as i
use Rattle.om_code.specs.declared.instruction.Serial.TheVariants as serials
use Rattle.om_code.specs.declared.instruction.Sharing.TheVariants as sharings
use Rattle.om_code.specs.declared.instruction.Region.TheVariants as regionals
use Rattle.om_code.specs.declared.raw.Line.{Line}
use Rattle.om_lower_emit.specs.declared.draft.DraftLine.{DraftLine}
use Rattle.om_lower_emit.specs.declared.draft.DraftLine.TheVariants as lines
use Rattle.om_lower_emit.specs.declared.draft.Jump.{Jump}
use Rattle.om_lower_emit.specs.declared.draft.Jump.TheVariants as jumps
use Rattle.om_lower_emit.specs.declared.draft.Pick.{Pick}

-- what is written so far
pub record Written : Type 0 where
  pub code : List Line
  -- where each label stands, by its number, once that is known
  pub places : List (Option ℕ)
  -- the lists of the PICKs in it
  pub picks : List Pick

abbrev pub nothing : Written
nothing = record { code = []; places = []; picks = [] }

-- a place for each label
abbrev pub Labels : Type 0
Labels = ℕ → ℕ

-- an instruction whose target is a place, in one whose target is a label
abbrev pub moved : Labels → Instr → Instr
moved at (i.Serial (serials.Jump label)) = i.Serial (serials.Jump (at label))
moved at (i.Serial (serials.JumpIfZero label)) = i.Serial (serials.JumpIfZero (at label))
moved at (i.Sharing (sharings.Grab label)) = i.Sharing (sharings.Grab (at label))
moved at (i.Sharing (sharings.Iterate slot label)) = i.Sharing (sharings.Iterate slot (at label))
moved at (i.Sharing (sharings.Single label)) = i.Sharing (sharings.Single (at label))
moved at (i.Region (regionals.Masked label)) = i.Region (regionals.Masked (at label))
moved at instruction = instruction

abbrev pub settled : Labels → Line → Line
settled at x = record { instruction = moved at x.instruction; line = x.line }

-- where a label stands; the begin of the body until that is known
abbrev pub known : Option (Option ℕ) → ℕ
known (Some (Some place)) = place
known _ = 0

abbrev pub place_in : List (Option ℕ) → Labels
place_in places label = known (slice_get places label)

-- the code with places in place of labels
abbrev pub settled_code : Written → List Line
settled_code d = map (settled (place_in d.places)) d.code

-- ---- how it is written down

-- a jump to a target, as an instruction
abbrev pub jump_to : Jump → (target : ℕ) → Instr
jump_to jumps.Always target = i.Serial (serials.Jump target)
jump_to jumps.IfZero target = i.Serial (serials.JumpIfZero target)
jump_to jumps.Grab target = i.Sharing (sharings.Grab target)
jump_to (jumps.Iterate slot) target = i.Sharing (sharings.Iterate slot target)
jump_to jumps.Single target = i.Sharing (sharings.Single target)
jump_to jumps.Masked target = i.Region (regionals.Masked target)

-- an instruction with its line; the target of a jump is its label
abbrev pub line_in : DraftLine → Line
line_in (lines.Plain line) = line
line_in (lines.Jump line jump label) = record { instruction = jump_to jump label; line = line }

-- an instruction that has no target
abbrev pub HasNoTarget : Instr → Type 0
HasNoTarget instruction = (at : Labels) → moved at instruction ≡ instruction

-- instructions, none of which has a target
abbrev pub HaveNoTarget : List Instr → Type 0
HaveNoTarget [] = Unit {0}
HaveNoTarget (x ∷ xs) = HasNoTarget x × HaveNoTarget xs

-- what is written as it stands, without a label, has no target
abbrev pub IsPlain : DraftLine → Type 0
IsPlain (lines.Plain line) = HasNoTarget line.instruction
IsPlain (lines.Jump line jump label) = Unit {0}

-- all places that are known have 32 bits
abbrev pub AreShort : List (Option ℕ) → Type 0
AreShort places = (label place : ℕ) → slice_get places label ≡ Some (Some place) → place < 2 ^ 32

-- only jumps have targets, and labels stand in the code or at its end
pub record IsDraft (code : List DraftLine) (places : List (Option ℕ)) : Type 0 where
  pub plain : All IsPlain code
  pub within : (label place : ℕ) → slice_get places label ≡ Some (Some place) → place ≤ length code

-- ---- what is added

-- an instruction
pub record Puts (line : ℕ) (instruction : Instr) (old new : Written) : Type 0 where
  pub code : new.code ≡ old.code ++ record { instruction = instruction; line = line } ∷ []
  pub places : new.places ≡ old.places
  pub picks : new.picks ≡ old.picks

-- an instruction with its line
abbrev pub line_of : ℕ → Instr → Line
line_of line instruction = record { instruction = instruction; line = line }

-- instructions of one line, one behind the other
pub record PutsAll (line : ℕ) (instructions : List Instr) (old new : Written) : Type 0 where
  pub code : new.code ≡ old.code ++ map (line_of line) instructions
  pub places : new.places ≡ old.places
  pub picks : new.picks ≡ old.picks

-- a label that stands nowhere yet
pub record Fresh (label : ℕ) (old new : Written) : Type 0 where
  pub code : new.code ≡ old.code
  pub is : label ≡ length old.places
  pub fits : label < 2 ^ 64
  pub places : new.places ≡ old.places ++ None ∷ []
  pub picks : new.picks ≡ old.picks

-- the place of a label: what is written next
pub record Defines (label : ℕ) (old new : Written) : Type 0 where
  pub free : slice_get old.places label ≡ Some None
  pub code : new.code ≡ old.code
  pub places : new.places ≡ slice_set old.places label (Some (length old.code))
  pub picks : new.picks ≡ old.picks

-- so many labels that stand nowhere yet
abbrev pub unplaced : ℕ → List (Option ℕ)
unplaced zero = []
unplaced (suc count) = None ∷ unplaced count

-- so many labels from this one on
abbrev pub labels_from : (first count : ℕ) → List ℕ
labels_from first zero = []
labels_from first (suc count) = first ∷ labels_from (first + 1) count

pub record FreshLabels (labels : List ℕ) (count : ℕ) (old new : Written) : Type 0 where
  pub code : new.code ≡ old.code
  pub are : labels ≡ labels_from (length old.places) count
  pub fit : 0 < count → length old.places + count ≤ 2 ^ 64
  pub places : new.places ≡ old.places ++ unplaced count
  pub picks : new.picks ≡ old.picks

-- the list of a PICK, with a new label for each of its parts
pub record FreshList (number first count : ℕ) (old new : Written) : Type 0 where
  pub code : new.code ≡ old.code
  pub is : first ≡ length old.places
  pub fit : first + count ≤ 2 ^ 64
  pub places : new.places ≡ old.places ++ unplaced count
  pub picks : new.picks ≡ old.picks ++ record { number = number; labels = labels_from first count } ∷ []

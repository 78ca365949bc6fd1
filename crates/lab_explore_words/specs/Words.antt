-- The words of controls. A stack of items is written from the bottom up.
use Rattle.std.specs.Prelude.{ℕ, List, [], ◌∷◌, ◌++◌, reverse}
use Rattle.om_code.specs.declared.frame.Operand.{Operand}
use Rattle.om_code.specs.declared.frame.Operand.TheVariants as operand
use Rattle.om_code.specs.declared.instruction.Schedule.{Schedule}
use Rattle.om_code.specs.declared.instruction.Schedule.TheVariants.{Static, StaticChunk, Dynamic}
use Rattle.om_code.specs.Faults.{fault_number}
use Rattle.om_state.specs.declared.control.Construct as constructs
use Rattle.om_state.specs.declared.control.Construct.TheVariants as construct
use Rattle.om_state.specs.declared.control.Context.{Context}
use Rattle.om_state.specs.declared.control.Control as controls
use Rattle.om_state.specs.declared.control.Control.TheVariants as control
use Rattle.om_state.specs.declared.control.Frame.{Frame}
use Rattle.om_state.specs.declared.control.Home.{Home}
use Rattle.om_state.specs.declared.control.Home.TheVariants.{Own, Elsewhere}
use Rattle.om_state.specs.declared.control.Kind as kinds
use Rattle.om_state.specs.declared.control.Kind.TheVariants as kind
use Rattle.om_state.specs.declared.control.Share.{Share}
use Rattle.om_state.specs.declared.control.Sharing.{Sharing}
use Rattle.om_state.specs.declared.control.Sharing.TheVariants as sharing
use Rattle.om_state.specs.declared.control.Stack.{Stack}
use Rattle.om_state.specs.declared.control.Team.{Team}
use Rattle.lab_explore_words.specs.Lists.{number_words, int_words, flag_words, list_words, option_words, name_words}

abbrev pub operand_words : Operand → List ℕ
operand_words (operand.Int value) = 0 ∷ int_words value
operand_words operand.NoValue = 1 ∷ []

abbrev pub home_words : Home → List ℕ
home_words Own = 0 ∷ []
home_words (Elsewhere task frame slot) = 1 ∷ (name_words task ++ (number_words frame ++ number_words slot))

unfoldable pub frame_words : Frame → List ℕ
frame_words f = number_words f.body ++ (number_words f.next ++ (number_words f.ordinal
    ++ (list_words operand_words (reverse f.operands) ++ list_words home_words f.homes)))

unfoldable pub team_words : Team → List ℕ
team_words t = name_words t.name ++ (number_words t.number ++ (number_words t.size ++ number_words t.level))

abbrev pub kind_words : kinds.Kind → List ℕ
kind_words kind.Initial = 0 ∷ []
kind_words kind.Implicit = 1 ∷ []
kind_words kind.Explicit = 2 ∷ []

abbrev pub sharing_words : Sharing → List ℕ
sharing_words sharing.Loop = 0 ∷ []
sharing_words sharing.Sections = 1 ∷ []

abbrev pub schedule_words : Schedule → List ℕ
schedule_words Static = 0 ∷ []
schedule_words (StaticChunk size) = 1 ∷ number_words size
schedule_words (Dynamic size) = 2 ∷ number_words size

-- what is shared out
unfoldable pub bounds_words : Share → List ℕ
bounds_words s = number_words s.region ++ (number_words s.count ++ (int_words s.lower ++ int_words s.step))

-- how far the member is
unfoldable pub chunk_words : Share → List ℕ
chunk_words s = number_words s.taken ++ (number_words s.next ++ number_words s.end)

unfoldable pub share_words : Share → List ℕ
share_words s = sharing_words s.sharing ++ (bounds_words s ++ (schedule_words s.schedule ++ chunk_words s))

abbrev pub construct_words : constructs.Construct → List ℕ
construct_words (construct.Share share) = 0 ∷ share_words share
construct_words (construct.Single runs) = 1 ∷ flag_words runs
construct_words construct.Masked = 2 ∷ []
construct_words (construct.Critical lock) = 3 ∷ number_words lock
construct_words (construct.Group name) = 4 ∷ name_words name

-- how far a context is: the numbers that it counts
unfoldable pub counted_words : Context → List ℕ
counted_words c = number_words c.phase ++ (number_words c.births ++ (number_words c.regions ++ number_words c.frames))

-- what it runs
unfoldable pub running_words : Context → List ℕ
running_words c = option_words name_words c.group ++ (list_words construct_words (reverse c.constructs)
    ++ (frame_words c.frame ++ list_words frame_words (reverse c.callers)))

unfoldable pub context_words : Context → List ℕ
context_words c = name_words c.task ++ (kind_words c.kind ++ (team_words c.team ++ (counted_words c
    ++ running_words c)))

unfoldable pub stack_words : Stack → List ℕ
stack_words s = context_words s.top ++ list_words context_words (reverse s.below)

abbrev pub control_words : controls.Control → List ℕ
control_words control.Idle = 0 ∷ []
control_words (control.Running stack) = 1 ∷ stack_words stack
control_words (control.Faulted fault stack) = 2 ∷ (number_words (fault_number fault) ++ stack_words stack)
control_words (control.Ended value) = 3 ∷ int_words value

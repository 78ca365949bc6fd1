-- How the instruction of a step accesses variables, for races.
use Rattle.std.specs.Prelude.{◌≡◌, Bool, cond, Option}
use Rattle.om_code.specs.declared.instruction.Instr.{Instr}
use Rattle.om_code.specs.declared.raw.Raw.{Raw}
use Rattle.om_foot.specs.declared.footprint.Mode.{Mode}
use Rattle.om_state.specs.declared.step.Label.{Label}
use Rattle.om_state.specs.State.{State}
use Rattle.lab_races.specs.declared.made.Manner.{Manner}
use Rattle.lab_races.specs.declared.made.Manner.TheVariants as manner
use Rattle.lab_races.specs.Races.{are_atomic_together}
use Rattle.lab_explore_closed.specs.declared.found.Atomicity.{Atomicity}
use Rattle.lab_explore_closed.specs.declared.found.Atomicity.TheVariants as atomicity
use Rattle.lab_explore_closed.specs.Endings.{control_at}
use Rattle.lab_explore_closed.specs.Races as steps
use Rattle.lab_explore_closed.specs.Races.{atomicity_of, ends_lives, instruction_of}

-- that of an instruction, by how it is atomic and whether it ends lives of variables
abbrev pub manner_of : Atomicity → (ends : Bool) → Manner
manner_of atomicity.Atomic ends = manner.Atomic
manner_of atomicity.Reduction ends = manner.Reduction
manner_of atomicity.Plain ends = cond ends manner.Ending manner.Plain

-- that of a label's step at a state
abbrev pub manner_at : Raw → State → Label → Manner
manner_at program s l = let control = control_at s l.worker in
    manner_of (atomicity_of program control l.choice) (ends_lives (instruction_of program control l.choice))

-- two accesses are atomic together by the manners of their instructions where they are so by how these are atomic
abbrev pub MannersTell : Type 0
MannersTell = (a b : Atomicity) (d e : Bool) (m n : Mode)
    → are_atomic_together (manner_of a d) m (manner_of b e) n ≡ steps.are_atomic_together a m b n

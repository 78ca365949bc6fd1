-- The numbers of the faults of a running program.
use Rattle.std.specs.Prelude.{ℕ}
use Rattle.om_code.specs.declared.frame.Fault.{Fault}
use Rattle.om_code.specs.declared.frame.Fault.TheVariants as fault

-- the number of a fault: 1 for F1
abbrev pub fault_number : Fault → ℕ
fault_number fault.Overflow = 1
fault_number fault.ZeroDivisor = 2
fault_number fault.Index = 3
fault_number fault.Unset = 4
fault_number fault.Dead = 5
fault_number fault.NoValue = 6
fault_number fault.Frames = 7
fault_number fault.Size = 8
fault_number fault.Nesting = 9
fault_number fault.Name = 10

-- The updates that runs stand for.
use Rattle.std.specs.Prelude.{ℕ, zero, suc, List, [], ◌∷◌, ◌++◌}
use Rattle.om_code.specs.declared.frame.Cell as cells
use Rattle.om_state.specs.declared.value.Run.{Run}
use Rattle.om_state.specs.declared.value.Was as wases
use Rattle.om_state.specs.declared.value.Was.TheVariants as was
use Rattle.om_state.specs.declared.step.Update.{Update}
use Rattle.om_state.specs.declared.step.Update.TheVariants.{Put}
use Rattle.om_state.specs.declared.value.Val.TheVariants as value

-- so many puts of a value
abbrev pub puts_of : cells.Cell → ℕ → List Update
puts_of cell zero = []
puts_of cell (suc count) = Put (value.Cell cell) ∷ puts_of cell count

abbrev pub run_puts : Run → List Update
run_puts r = puts_of r.cell r.count

abbrev pub runs_listed : List Run → List Update
runs_listed [] = []
runs_listed (r ∷ rs) = run_puts r ++ runs_listed rs

-- the puts of values that cells had
abbrev pub was_puts : wases.Was → List Update
was_puts (was.Cells r) = run_puts r
was_puts (was.Value v) = Put v ∷ []

abbrev pub were_listed : List wases.Was → List Update
were_listed [] = []
were_listed (w ∷ ws) = was_puts w ++ were_listed ws

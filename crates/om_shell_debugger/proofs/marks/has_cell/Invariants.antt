use Rattle.std.proofs.Common.{◌≡◌, drop}
use Rattle.om_shell_debugger.specs.Marked.{has_cell}
use Rattle.om_shell_debugger.proofs.marks.has_cell.Given as goal

abbrev pub invariant-loop-other : goal.invariant-loop-other
invariant-loop-other l = has_cell (drop l.other-index l.cells) l.cell ≡ has_cell l.initial.cells l.cell

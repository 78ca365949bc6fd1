use Rattle.std.proofs.Common.{◌≤◌, ◌-◌, take, length}
use Rattle.om_shell_commands.specs.Words.{spelled}
use Rattle.lab_macros.specs.Expansions.{Expands}
use Rattle.lab_macros.proofs.expanded.expand.Given as goal

-- the lines so far stand for the commands so far
abbrev pub invariant-lines : goal.invariant-lines
invariant-lines g l = record {
  so_far : Expands l.place (spelled (take l.index l.lines.items)) l.plain.items l.told.items;
  within : l.index ≤ length l.lines.items;
}

abbrev pub decreases-lines : goal.decreases-lines
decreases-lines g l = length l.lines.items - l.index

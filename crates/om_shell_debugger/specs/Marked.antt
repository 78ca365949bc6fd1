-- Breaks and watches that are set and taken back.
use Rattle.std.specs.Prelude.{ℕ, Bool, true, false, cond, nat_eq, ◌&&◌, List, [], ◌∷◌, ◌++◌}
use Rattle.om_shell_commands.specs.declared.value.GlobalCell.{GlobalCell}
use Rattle.om_shell_debugger.specs.declared.marks.Marks.{Marks}
use Rattle.om_shell_debugger.specs.Stops.{has_line}

-- a break is set once
abbrev pub with_break : ℕ → Marks → Marks
with_break line marks = record {
  breaks = cond (has_line marks.breaks line) marks.breaks (marks.breaks ++ line
      ∷ []);
  watches = marks.watches;
}

abbrev pub has_cell : List GlobalCell → GlobalCell → Bool
has_cell [] cell = false
has_cell (other ∷ cells) cell = cond (nat_eq other.variable cell.variable && nat_eq other.index cell.index) true
    (has_cell cells cell)

-- a watch that is set twice keeps its first place
abbrev pub with_watch : GlobalCell → Marks → Marks
with_watch cell marks = record {
  breaks = marks.breaks;
  watches = cond (has_cell marks.watches cell) marks.watches
      (marks.watches ++ cell ∷ []);
}

abbrev pub without : ℕ → List ℕ → List ℕ
without line [] = []
without line (other ∷ lines) = cond (nat_eq other line) (without line lines) (other ∷ without line lines)

abbrev pub without_break : ℕ → Marks → Marks
without_break line marks = record { breaks = without line marks.breaks; watches = marks.watches }

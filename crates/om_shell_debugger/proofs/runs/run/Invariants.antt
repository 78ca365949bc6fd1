use Rattle.std.proofs.Common.{◌≡◌, ◌+◌}
use Rattle.om_shell_debugger.specs.Runs.{run_within}
use Rattle.om_shell_debugger.proofs.runs.run.Given as goal

-- what is said from here on is what is said in all
abbrev pub invariant-steps : goal.invariant-steps
invariant-steps l = record {
  said : run_within l.left l.made l.marks l.book ≡ run_within l.initial.left 0 l.marks l.initial.book;
  text : l.text.items ≡ l.initial.text.items;
  count : l.made + l.left ≡ l.initial.left;
}

abbrev pub decreases-steps : goal.decreases-steps
decreases-steps l = l.left

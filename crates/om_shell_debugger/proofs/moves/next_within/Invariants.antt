use Rattle.std.proofs.Common.{◌≡◌, ◌<◌}
use Rattle.om_shell_debugger.specs.Moves.{next_within}
use Rattle.om_shell_debugger.proofs.moves.next_within.Given as goal

-- what is said from here on is what is said in all
abbrev pub invariant-steps : goal.invariant-steps
invariant-steps l = record {
  said : next_within l.further l.stay.line l.stay.worker l.book ≡ next_within l.initial.further l.stay.line
      l.stay.worker l.initial.book;
  text : l.text.items ≡ l.initial.text.items;
  in_range : l.stay.worker < l.book.start.workers;
}

abbrev pub decreases-steps : goal.decreases-steps
decreases-steps l = l.further

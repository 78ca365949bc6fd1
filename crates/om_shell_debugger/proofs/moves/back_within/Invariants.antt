use Rattle.std.proofs.Common.{◌≡◌, ◌<◌}
use Rattle.om_shell_debugger.specs.Moves.{back_within}
use Rattle.om_shell_debugger.proofs.moves.back_within.Given as goal

-- what is said from here on is what is said in all
abbrev pub invariant-undos : goal.invariant-undos
invariant-undos l = record {
  said : back_within l.further l.stay.line l.stay.worker l.book ≡ back_within l.initial.further l.stay.line
      l.stay.worker l.initial.book;
  text : l.text.items ≡ l.initial.text.items;
  in_range : l.stay.worker < l.book.start.workers;
}

abbrev pub decreases-undos : goal.decreases-undos
decreases-undos l = l.further

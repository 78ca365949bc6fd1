use Rattle.std.proofs.Common.{◌≡◌, ◌<◌, ◌+◌}
use Rattle.lab_macros.specs.Walks.{walk_within}
use Rattle.lab_macros.proofs.walk.walk_to.Given as goal

-- the way from here on is the whole way
abbrev pub invariant-steps : goal.invariant-steps
invariant-steps l = record {
  way : walk_within l.left l.made l.marks l.worker l.book ≡ walk_within l.initial.left 0 l.marks l.worker
      l.initial.book;
  count : l.made + l.left ≡ l.initial.left;
  in_range : l.worker < l.book.start.workers;
}

abbrev pub decreases-steps : goal.decreases-steps
decreases-steps l = l.left

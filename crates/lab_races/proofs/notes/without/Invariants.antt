use Rattle.std.proofs.Common.{◌≡◌, ◌++◌, drop}
use Rattle.std.specs.Prelude.{filter, not}
use Rattle.lab_races.specs.declared.made.Side.{Side}
use Rattle.lab_races.specs.Sweeps.{is_again}
use Rattle.lab_races.proofs.notes.without.Given as goal

-- what was kept so far, and what will be of the rest, are all
abbrev pub invariant-loop-other : goal.invariant-loop-other
invariant-loop-other l = l.kept.items ++ filter (λ (s : Side). not (is_again s l.side)) (drop l.other-index l.sides)
    ≡ filter (λ (s : Side). not (is_again s l.side)) l.sides

use Rattle.std.proofs.Common.{◌≡◌, drop}
use Rattle.lab_races.specs.Sweeps.{with_all}
use Rattle.lab_races.proofs.sweep.push_races.Given as goal

-- with those of what is left they will be all
abbrev pub invariant-loop-access : goal.invariant-loop-access
invariant-loop-access l = with_all (drop l.access-index l.variables) l.notes.entries l.made l.clock l.races.items
    ≡ with_all l.variables l.notes.entries l.made l.clock l.initial.races.items

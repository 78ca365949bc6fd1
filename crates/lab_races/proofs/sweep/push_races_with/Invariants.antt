use Rattle.std.proofs.Common.{◌≡◌, drop}
use Rattle.lab_races.specs.Sweeps.{with_races}
use Rattle.lab_races.proofs.sweep.push_races_with.Given as goal

-- with those of what is left they will be all
abbrev pub invariant-loop-earlier : goal.invariant-loop-earlier
invariant-loop-earlier l = with_races (drop l.earlier-index l.sides) l.object l.later l.clock l.races.items
    ≡ with_races l.sides l.object l.later l.clock l.initial.races.items

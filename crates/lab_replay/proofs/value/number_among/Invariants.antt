use Rattle.std.proofs.Common.{◌≡◌, drop}
use Rattle.lab_replay.specs.Said.{first_number}
use Rattle.lab_replay.proofs.value.number_among.Given as goal

-- the first number of what is left is that of all
abbrev pub invariant-loop-update : goal.invariant-loop-update
invariant-loop-update l = first_number (drop l.update-index l.updates) ≡ first_number l.updates

use Rattle.std.proofs.Common.{◌∙◌, ap, sym}
use Rattle.om_state.specs.Runs.{runs_listed}
use Rattle.lab_replay.specs.Said.{number_by}
use Rattle.lab_replay.proofs.Numbers.{first_of_three}
use Rattle.lab_replay.proofs.value.number_put.Goals as goal

pub returns : goal.returns
returns c =
    rw (c.or-2.ensures, c.or.ensures, c.number_among.ensures, c.number_in_runs.ensures, c.number_among-2.ensures)
    (first_of_three c.in-Updates.change.updates c.parts.result.0.now (runs_listed c.parts.result.1.now)
    c.parts.result.2.now c.parts.ensures ∙ sym (ap number_by c.in-Updates.is))

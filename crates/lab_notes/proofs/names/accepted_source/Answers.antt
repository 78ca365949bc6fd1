use Rattle.std.proofs.Common.{rules, ◌≢◌}
use Rattle.om_lexer.specs.declared.fault.FaultCode.TheVariants.{Memory}
use Rattle.lab_notes.specs.Sources.{accepted}
use Rattle.lab_notes.proofs.KnownLaws.{not_accepted}
use Rattle.lab_notes.proofs.names.accepted_source.Goals as goal

pub returns-in-Ok-functions_in : goal.returns-in-Ok-functions_in
returns-in-Ok-functions_in c = accepted _ c.in-Ok.ensures.program

pub returns-else-eq : goal.returns-else-eq
returns-else-eq c =
    let other : c.in-Err.fault.code ≢ Memory = search rules in
    not_accepted _ c.in-Err.fault c.in-Err.ensures.refused other

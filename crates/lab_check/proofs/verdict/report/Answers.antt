use Rattle.std.proofs.Common.{rules, ◌≢◌}
use Rattle.om_lexer.specs.declared.fault.FaultCode.TheVariants.{Memory}
use Rattle.lab_check.proofs.ReportLaws.{reports_refused}
use Rattle.lab_check.proofs.verdict.report.Goals as goal

pub returns-else-eq : goal.returns-else-eq
returns-else-eq c =
    let other : c.in-Err.fault.code ≢ Memory = search rules in
    reports_refused c.args.file.now c.args.source.now c.in-Err.fault c.refused.result c.in-Err.ensures.refused other
    c.refused.ensures.begins c.refused.ensures.status

use Rattle.std.proofs.Common.{rules}
use Rattle.om_shell.proofs.SessionLaws.{part_of, no_part}
use Rattle.om_shell.proofs.session.Session.answer.Goals as goal

pub returns-in_err-send-clause-begun_on_error : goal.returns-in_err-send-clause-begun_on_error
returns-in_err-send-clause-begun_on_error g c = search (rules, part_of, no_part)

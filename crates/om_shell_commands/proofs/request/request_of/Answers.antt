use Rattle.std.proofs.Common.{rules}
use Rattle.om_shell_commands.specs.Commands.{request_of}
use Rattle.om_shell_commands.proofs.request.request_of.Goals as goal

pub returns-then-line-gt-LONGEST_LINE-clause-asked : goal.returns-then-line-gt-LONGEST_LINE-clause-asked
unfolding request_of
returns-then-line-gt-LONGEST_LINE-clause-asked c = search rules

pub returns-clause-asked : goal.returns-clause-asked
unfolding request_of
returns-clause-asked c = search rules

pub returns-in-Some-clause-asked : goal.returns-in-Some-clause-asked
unfolding request_of
returns-in-Some-clause-asked c = search rules

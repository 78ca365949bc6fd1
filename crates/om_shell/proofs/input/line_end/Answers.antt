use Rattle.std.proofs.Common.{◌∙◌}
use Rattle.om_shell.proofs.Bytes.{slice_to_end}
use Rattle.om_shell.proofs.LineEnds.{found_after, none_after}
use Rattle.om_shell.proofs.input.line_end.Goals as goal

pub returns-in_err-further : goal.returns-in_err-further
returns-in_err-further c =
    let none = rw (slice_to_end c.args.bytes.now c.args.searched) at c.in_err-further.ensures.first in
    c.from_residual.ensures ∙ none_after c.args.bytes.now c.args.searched c.requires.known none

pub returns : goal.returns
returns c =
    let found = rw (slice_to_end c.args.bytes.now c.args.searched) at c.in_ok-further.ensures.first in
    found_after c.args.bytes.now c.args.searched c.in_ok-further.further c.requires.within c.requires.known found

use Rattle.om_shell_commands.proofs.Endings.{digit_room, digit_start, digit_written}
use Rattle.om_shell_commands.proofs.step.put_small.Goals as goal

pub put-requires-clause-room : goal.put-requires-clause-room
put-requires-clause-room c = digit_room c.args.number c.args.end c.if-number-lt10.true c.requires.room

pub returns-then-number-lt10-clause-start : goal.returns-then-number-lt10-clause-start
returns-then-number-lt10-clause-start c =
    digit_start c.args.number c.put.result c.args.end c.if-number-lt10.true c.put.ensures.start

pub returns-then-number-lt10-clause-written : goal.returns-then-number-lt10-clause-written
returns-then-number-lt10-clause-written c =
    digit_written c.args.number _ _ c.if-number-lt10.true c.put.ensures.written

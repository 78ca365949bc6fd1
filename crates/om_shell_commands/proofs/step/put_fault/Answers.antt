use Rattle.std.proofs.Common.{arith}
use Rattle.std.proofs.lemmas.Fmt.{length-decimal-le}
use Rattle.om_shell_commands.proofs.step.put_fault.Goals as goal

pub write_digits-number_at-requires : goal.write_digits-number_at-requires
write_digits-number_at-requires c =
    let n = length-decimal-le 20 c.number.result (omega arith) (omega arith) (omega arith) in
    (omega (arith, n, c.requires.room), c.requires.within)

pub put-requires-clause-room : goal.put-requires-clause-room
put-requires-clause-room c =
    let n = length-decimal-le 20 c.number.result (omega arith) (omega arith) (omega arith) in
    omega (arith, n, c.requires.room, c.write_digits-number_at.ensures.start)

pub returns-clause-start : goal.returns-clause-start
returns-clause-start c =
    let n = length-decimal-le 20 c.number.result (omega arith) (omega arith) (omega arith) in (
      omega (arith, c.write_digits-number_at.ensures.start, c.put.ensures.start),
      omega (arith, n, c.write_digits-number_at.ensures.start, c.put.ensures.start),
    )

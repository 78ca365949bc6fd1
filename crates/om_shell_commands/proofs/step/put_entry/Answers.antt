use Rattle.std.proofs.Common.{◌++◌, codes, decimal, sym, ap, ◌∙◌, arith}
use Rattle.std.proofs.lemmas.Fmt.{length-decimal-le}
use Rattle.om_shell_commands.proofs.Endings.{entry_before}
use Rattle.om_shell_commands.proofs.step.put_entry.Goals as goal

pub write_digits-line_at-requires : goal.write_digits-line_at-requires
write_digits-line_at-requires c =
    let l = length-decimal-le 20 c.args.at (omega arith) (omega arith) (omega arith) in
    (omega (arith, l, c.requires.room), c.requires.within)

pub put-line_word-requires-clause-room : goal.put-line_word-requires-clause-room
put-line_word-requires-clause-room c =
    let l = length-decimal-le 20 c.args.at (omega arith) (omega arith) (omega arith) in
    omega (arith, l, c.requires.room, c.write_digits-line_at.ensures.start)

pub put_small-worker_at-requires-clause-room : goal.put_small-worker_at-requires-clause-room
put_small-worker_at-requires-clause-room c =
    let l = length-decimal-le 20 c.args.at (omega arith) (omega arith) (omega arith) in
    let w = length-decimal-le 20 c.args.worker (omega arith) (omega arith) (omega arith) in
    omega (arith, l, w, c.requires.room, c.write_digits-line_at.ensures.start, c.put-line_word.ensures.start)

pub put_small-worker_at-requires-clause-within : goal.put_small-worker_at-requires-clause-within
put_small-worker_at-requires-clause-within c =
    omega (arith, c.requires.within, c.write_digits-line_at.ensures.start, c.put-line_word.ensures.start)

pub put-worker_word-requires-clause-room : goal.put-worker_word-requires-clause-room
put-worker_word-requires-clause-room c =
    let l = length-decimal-le 20 c.args.at (omega arith) (omega arith) (omega arith) in
    let w = length-decimal-le 20 c.args.worker (omega arith) (omega arith) (omega arith) in
    omega (
      arith,
      l,
      w,
      c.requires.room,
      c.write_digits-line_at.ensures.start,
      c.put-line_word.ensures.start,
      c.put_small-worker_at.ensures.start,
    )

pub write_digits-serial_at-requires : goal.write_digits-serial_at-requires
write_digits-serial_at-requires c =
    let l = length-decimal-le 20 c.args.at (omega arith) (omega arith) (omega arith) in
    let w = length-decimal-le 20 c.args.worker (omega arith) (omega arith) (omega arith) in
    let s = length-decimal-le 20 c.args.serial (omega arith) (omega arith) (omega arith) in
    let one = c.write_digits-line_at.ensures.start in
    let two = c.put-line_word.ensures.start in
    let three = c.put_small-worker_at.ensures.start in
    let four = c.put-worker_word.ensures.start in (
      omega (arith, l, w, s, c.requires.room, one, two, three, four),
      omega (arith, c.requires.within, one, two, three, four),
    )

pub put-requires-clause-room : goal.put-requires-clause-room
put-requires-clause-room c =
    let l = length-decimal-le 20 c.args.at (omega arith) (omega arith) (omega arith) in
    let w = length-decimal-le 20 c.args.worker (omega arith) (omega arith) (omega arith) in
    let s = length-decimal-le 20 c.args.serial (omega arith) (omega arith) (omega arith) in
    omega (
      arith,
      l,
      w,
      s,
      c.requires.room,
      c.write_digits-line_at.ensures.start,
      c.put-line_word.ensures.start,
      c.put_small-worker_at.ensures.start,
      c.put-worker_word.ensures.start,
      c.write_digits-serial_at.ensures.start,
    )

pub returns-clause-start : goal.returns-clause-start
returns-clause-start c =
    let l = length-decimal-le 20 c.args.at (omega arith) (omega arith) (omega arith) in
    let w = length-decimal-le 20 c.args.worker (omega arith) (omega arith) (omega arith) in
    let s = length-decimal-le 20 c.args.serial (omega arith) (omega arith) (omega arith) in
    let one = c.write_digits-line_at.ensures.start in
    let two = c.put-line_word.ensures.start in
    let three = c.put_small-worker_at.ensures.start in
    let four = c.put-worker_word.ensures.start in
    let five = c.write_digits-serial_at.ensures.start in
    let six = c.put.ensures.start in
    (omega (arith, one, two, three, four, five, six), omega (arith, l, w, s, one, two, three, four, five, six))

pub returns-clause-written : goal.returns-clause-written
returns-clause-written c =
    let s = decimal c.args.serial in
    let w = decimal c.args.worker in
    c.put.ensures.written
    ∙ ap (λ t. codes "#" ++ t) (c.write_digits-serial_at.ensures.written
    ∙ ap (λ t. s ++ t) (c.put-worker_word.ensures.written
    ∙ ap (λ t. codes " worker " ++ t) (c.put_small-worker_at.ensures.written
    ∙ ap (λ t. w ++ t) (c.put-line_word.ensures.written
    ∙ ap (λ t. codes " line " ++ t) c.write_digits-line_at.ensures.written))))
    ∙ sym (entry_before c.args.serial c.args.worker c.args.at _)

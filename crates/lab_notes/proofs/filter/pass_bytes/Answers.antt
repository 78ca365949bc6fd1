use Rattle.std.proofs.Common.{arith, rules, ◌≡◌, ◌≤◌, ◌+◌, ◌-◌, length}
use Rattle.std.proofs.lemmas.Result.{err_from_is_err_and}
use Rattle.lab_notes.proofs.PassLaws.{bytes_broken, bytes_passed}
use Rattle.lab_notes.proofs.filter.pass_bytes.Goals as goal

pub returns-in_err-send-clause-broken_off : goal.returns-in_err-send-clause-broken_off
returns-in_err-send-clause-broken_off g c =
    let p = err_from_is_err_and c.from_residual.result c.from_residual.ensures.1 in
    let pending = c.args.waiting.now.read.pending.items in
    let due = c.args.waiting.now.due in
    let count = c.smaller-count.result in
    let within : count ≤ length pending = search rules in
    let below : count ≤ due = search rules in
    let counted : due ≡ count + (due - count) = omega (arith, below) in
    let part = rw c.deref.ensures.value at c.in_err-send.ensures.begun_on_error in
    rw p.1 (bytes_broken _ _ pending count due (due - count) within counted part.1)

pub returns-clause-passed : goal.returns-clause-passed
returns-clause-passed g c = grind (arith, bytes_passed)

use Rattle.std.proofs.Common.{rules, ◌≡◌, ◌<◌, length, get_or, IsTrue, false}
use Rattle.om_book.specs.Backing.{Turn}
use Rattle.om_book.proofs.Backed.{not_true, passes_kept, passes_without}
use Rattle.om_book.proofs.Backed.{passes_end}
use Rattle.om_book.proofs.backing.Walk.take_turn.Goals as goal

pub returns-then-is_backed-clause-passes : goal.returns-then-is_backed-clause-passes
returns-then-is_backed-clause-passes c =
    let xs = c.args.self.now.answers.items in
    let at = c.args.self.now.at in
    let t : Turn = record { receipts = c.args.receipts.now; order = c.args.order.now } in
    let within : at < length xs = search rules in
    let is : c.index.result.now ≡ get_or xs at c.index.result.now = search rules in
    let yes : IsTrue c.is_backed.result = search rules in
    passes_kept t xs at c.index.result.now within is (c.is_backed.ensures.0 yes)

pub returns-else-is_backed-clause-passes : goal.returns-else-is_backed-clause-passes
returns-else-is_backed-clause-passes c =
    let xs = c.args.self.now.answers.items in
    let at = c.args.self.now.at in
    let t : Turn = record { receipts = c.args.receipts.now; order = c.args.order.now } in
    let within : at < length xs = search rules in
    let is : c.index.result.now ≡ get_or xs at c.index.result.now = search rules in
    let no : c.is_backed.result ≡ false = search rules in
    passes_without t xs c.remove.new.self.items at c.index.result.now within is
    (λ backed. not_true c.is_backed.result no (c.is_backed.ensures.1 backed)) c.remove.ensures.items

pub returns-then-self-len-clause-passes : goal.returns-then-self-len-clause-passes
returns-then-self-len-clause-passes c = search (rules, passes_kept, passes_without, passes_end)

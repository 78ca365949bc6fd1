use Rattle.std.proofs.Common.{rules, sym}
use Rattle.om_book_journal.specs.Growing.{list_leaves, told_again}
use Rattle.om_book.proofs.book.again.Goals as goal

pub returns-clause-reply : goal.returns-clause-reply
returns-clause-reply c =
    told_again c.args.machine.now c.requires.0 c.args.journal.now c.args.command.now _ c.requires.1
    (search rules) (search rules) (search rules)

pub returns-clause-same : goal.returns-clause-same
returns-clause-same c = sym (list_leaves c.args.machine.now c.args.command.now (search rules))

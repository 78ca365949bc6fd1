use Rattle.om_book_journal.proofs.Rolls.{roll_told}
use Rattle.om_book_journal.proofs.replies.roll_thrice.Goals as goal

pub returns-clause-same : goal.returns-clause-same
returns-clause-same c = (
  roll_told c.in_ok-receipt.receipt _ c.in_ok-answer.answer _ c.rolled.result c.in_ok-receipt.ensures.none
      c.in_ok-receipt.ensures.members c.in_ok-answer.ensures.reply c.in_ok-answer.ensures.no_entry
      c.rolled.ensures.some c.rolled.ensures.none,
  roll_told c.in_ok-kept.kept _ c.in_ok-answer.answer _ c.rolled-2.result c.in_ok-kept.ensures.none
      c.in_ok-kept.ensures.members c.in_ok-answer.ensures.reply c.in_ok-answer.ensures.no_entry
      c.rolled-2.ensures.some c.rolled-2.ensures.none,
)

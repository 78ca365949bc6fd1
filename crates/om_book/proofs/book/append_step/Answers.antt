use Rattle.std.proofs.Common.{sym, ap, ◌∙◌}
use Rattle.om_book_journal.specs.Runs.{reply_to}
use Rattle.om_book_journal.specs.declared.reply.Reply.TheVariants as reply
use Rattle.om_book.proofs.book.append_step.Goals as goal

-- With an answer here, the prover refuses a mistake in this function without a search for further ones.
pub prepared-requires : goal.prepared-requires
prepared-requires c = tt

-- the reply is the one of this machine
pub of_step-requires : goal.of_step-requires
of_step-requires c = (
  c.args.machine.now,
  ap (λ x. reply.Step x) c.in_ok-reply.ensures.reply ∙ ap (reply_to c.args.machine.now) (sym c.in-Ok.ensures.command),
)

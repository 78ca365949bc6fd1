use Rattle.std.proofs.Common.{ap, ◌∙◌}
use Rattle.om_book_journal.specs.declared.reply.Reply.TheVariants as reply
use Rattle.om_book_journal.proofs.replies.done_thrice.Goals as goal

pub returns-in_ok-step-in-Step-clause-reply : goal.returns-in_ok-step-in-Step-clause-reply
returns-in_ok-step-in-Step-clause-reply c =
    rw c.in-Step.is (c.stepped.ensures.reply ∙ ap (λ x. reply.Step x) c.in_ok-step-in-Step.ensures.reply)

pub returns-in_ok-step-in-Step-clause-after : goal.returns-in_ok-step-in-Step-clause-after
returns-in_ok-step-in-Step-clause-after c = rw c.in-Step.is c.in_ok-step-in-Step.ensures.after

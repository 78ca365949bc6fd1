use Rattle.std.proofs.lemmas.Result.{IfOk-weaker}
use Rattle.om_book_journal.proofs.Answering.{all_ready}
use Rattle.om_book_journal.proofs.replies.ready_list.Goals as goal

pub returns : goal.returns
returns c =
    IfOk-weaker c.ready.result _ _
    (λ names are. all_ready c.one_ready_list.ensures c.ready_names_are_ready.ensures c.args.machine.now names.items are)
    c.ready.ensures

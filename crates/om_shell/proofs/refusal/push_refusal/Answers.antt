use Rattle.std.proofs.Common.{rules, append_assoc}
use Rattle.std.proofs.lemmas.Result.{IfOk-equal}
use Rattle.om_shell.specs.Places.{refusal_text}
use Rattle.om_shell.proofs.refusal.push_refusal.Goals as goal

pub returns : goal.returns
unfolding refusal_text
returns c = search (rules, IfOk-equal, append_assoc)

use Rattle.std.proofs.Common.{rules}
use Rattle.om_state.proofs.WasLemmas.{value_more}
use Rattle.om_state.proofs.was.Noted.note.Goals as goal

pub returns : goal.returns
returns c = search (rules, value_more)

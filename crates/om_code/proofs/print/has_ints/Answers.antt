use Rattle.std.proofs.Common.{ap, ◌∙◌, is_some}
use Rattle.om_code.proofs.Tops.{top_ints}
use Rattle.om_code.proofs.print.has_ints.Goals as goal

pub returns : goal.returns
returns c = c.are_ints.ensures ∙ ap is_some (top_ints _ _ _ _ c.as_slice-all.ensures c.in-Some.ensures)

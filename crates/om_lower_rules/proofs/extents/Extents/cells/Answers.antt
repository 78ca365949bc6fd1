use Rattle.std.proofs.Common.{rules}
use Rattle.om_lower_rules.proofs.Cells.{cells_found}
use Rattle.om_lower_rules.proofs.extents.Extents.cells.Goals as goal

pub returns : goal.returns
returns c = search (rules, cells_found)

use Rattle.std.proofs.Common.{arith}
use Rattle.lab_text.specs.Unended.{is_noted}
use Rattle.lab_notes.proofs.filter.answer.Goals as goal

pub returns-clause-text : goal.returns-clause-text
returns-clause-text c = grind (arith, is_noted)

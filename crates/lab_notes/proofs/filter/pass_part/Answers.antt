use Rattle.lab_text.specs.Unended.{position_none}
use Rattle.lab_notes.proofs.filter.pass_part.Goals as goal

pub returns-in_default-clause-unended : goal.returns-in_default-clause-unended
returns-in_default-clause-unended g c = λ _. position_none _ _
    (rw c.deref.ensures.value at c.in_default.ensures.first)

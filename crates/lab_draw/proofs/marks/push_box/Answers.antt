use Rattle.std.proofs.Common.{rules}
use Rattle.lab_draw.specs.Marks.{box_text}
use Rattle.lab_draw.proofs.marks.push_box.Goals as goal

pub returns-then-scale : goal.returns-then-scale
unfolding box_text
returns-then-scale c = search rules

pub returns-else-scale : goal.returns-else-scale
unfolding box_text
returns-else-scale c = search rules

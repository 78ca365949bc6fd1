use Rattle.std.proofs.Common.{Some}
use Rattle.lab_text.specs.Sessions.{left_of}
use Rattle.lab_draw.proofs.session.hear.Goals as goal

pub returns-in_ok-turned_down-in-Ok : goal.returns-in_ok-turned_down-in-Ok
returns-in_ok-turned_down-in-Ok g c = (
  c.in-Ok.ended.status,
  (
    Some (left_of c.run.new.reader),
    rw c.into_text.ensures (rw (c.new-reader.ensures, c.new-answers.ensures) at c.in-Ok.ensures.runs_to_end),
  ),
)

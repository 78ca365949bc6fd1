use Rattle.std.proofs.Common.{ap, ◌∙◌, take}
use Rattle.lab_port.proofs.Lines.{slice_from}
use Rattle.lab_port.proofs.place.rest_of.Goals as goal

pub returns : goal.returns
returns c = c.first_of.ensures ∙ ap (take 200) (slice_from c.args.source.now c.args.at)

use Rattle.std.proofs.lemmas.Result.{IfOk-weaker}
use Rattle.std.specs.Option.{option_copied}
use Rattle.lab_races_answer.proofs.Judging.{judgement_of}
use Rattle.lab_races_answer.proofs.judged.judge.Goals as goal

pub returns-in-Ok : goal.returns-in-Ok
returns-in-Ok g c = IfOk-weaker c.verdict_on.result _ _
    (λ verdict is. judgement_of (g.R.Read.remaining c.args.reader.now) (g.R.Read.remaining c.read_all.new.reader)
    c.args.options.workers (option_copied c.args.options.source) c.in_ok-input.input.items c.deref.result.now
    c.in-Ok.heard.text.items c.in-Ok.ensures.0 c.in-Ok.heard.book verdict c.in_ok-input.ensures
    c.deref.ensures.value c.in-Ok.ensures.1 is) c.verdict_on.ensures

use Rattle.lab_judge.proofs.outcome.end_at.Goals as goal

pub returns : goal.returns
returns c = record {
  printed = c.in_ok-ended.ensures.printed;
  bad = rw c.in_ok-ended.ensures.why (rw c.in-Some.is at c.in_ok-why.ensures);
}

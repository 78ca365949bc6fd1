use Rattle.std.proofs.Common.{◌≡◌, ◌++◌, drop}
use Rattle.lab_port.specs.Places.{IsSeen}
use Rattle.lab_port.specs.Listings.{refusals_part}
use Rattle.lab_port.proofs.list.push_refusals.Given as goal

abbrev pub invariant-loop-refusal : goal.invariant-loop-refusal
invariant-loop-refusal l = record {
  seen : IsSeen l.source l.seen;
  lines : l.out.items ++ refusals_part l.file l.source (drop l.refusal-index l.refusals)
      ≡ l.initial.out.items ++ refusals_part l.file l.source l.refusals;
}

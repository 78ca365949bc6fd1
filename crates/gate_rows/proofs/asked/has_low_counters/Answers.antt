-- Few steps stand, so that no counter is above 2^63.
use Rattle.std.proofs.Common.{arith, ℕ, ◌≤◌, ◌^◌, List, ap, length}
use Rattle.std.specs.Prelude.{map}
use Rattle.std.proofs.lemmas.List.{length-map}
use Rattle.om_state.specs.declared.step.Entry.{Entry}
use Rattle.om_undo.specs.Machines.{MachineView, state_in}
use Rattle.gate_rows.proofs.asked.has_low_counters.Goals as goal

few_mapped : {X Y : Type 0} (f : X → Y) (xs : List X) (n : ℕ) → length xs ≤ n → length (map f xs) ≤ n
few_mapped f xs n few = omega (arith, few, length-map xs f)

pub returns : goal.returns
returns c =
    let m : MachineView = c.args.machine.now in
    let es : List Entry = m.history.entries in
    let few : length es ≤ 2 ^ 63 = omega (
      arith,
      c.if-len-gt-MOST_ENTRIES.false,
      c.len.ensures,
      c.in_ok-entries.entries.ok.0,
      ap (λ l. length l) c.in_ok-entries.ensures.entries,
    ) in
    c.low_counters.ensures m.program m.workers (2 ^ 63) _ (state_in m) c.history.ensures.headline.replayed
    (few_mapped _ es (2 ^ 63) few)

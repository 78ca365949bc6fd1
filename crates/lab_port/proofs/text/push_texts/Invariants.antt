use Rattle.std.proofs.Common.{◌≡◌, ◌++◌, drop, flat_map}
use Rattle.lab_port.proofs.text.push_texts.Given as goal

abbrev pub invariant-loop-next : goal.invariant-loop-next
invariant-loop-next l = l.out.items ++ flat_map (λ next. next.text) (drop l.next-index l.names)
    ≡ l.initial.out.items ++ flat_map (λ next. next.text) l.names

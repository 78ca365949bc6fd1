use Rattle.std.proofs.Common.{refl, sym, ◌∙◌}
use Rattle.om_shell_debugger.proofs.Bounded.{no_label, planned_label}
use Rattle.om_shell_debugger.proofs.runs.advance.Goals as goal

pub make-requires-clause-planned : goal.make-requires-clause-planned
make-requires-clause-planned c =
    (planned_label _ _ _ (rw c.machine.ensures.left at (sym c.in-Some.is ∙ c.in_ok-step.ensures.moved))).1

pub returns-in-Some-clause-moved : goal.returns-in-Some-clause-moved
returns-in-Some-clause-moved c =
    let first = (planned_label _ _ _ (rw c.machine.ensures.left at (sym c.in-Some.is
    ∙ c.in_ok-step.ensures.moved))).0 in
    rw first c.make.ensures.moved

pub returns-in-Some-clause-after : goal.returns-in-Some-clause-after
returns-in-Some-clause-after c =
    let first = (planned_label _ _ _ (rw c.machine.ensures.left at (sym c.in-Some.is
    ∙ c.in_ok-step.ensures.moved))).0 in
    rw first c.make.ensures.after

pub returns-in-None-clause-moved : goal.returns-in-None-clause-moved
returns-in-None-clause-moved c =
    let none = no_label _ _ (rw c.machine.ensures.left at (sym c.in-None.is ∙ c.in_ok-step.ensures.moved)) in
    rw none refl

pub returns-in-None-clause-after : goal.returns-in-None-clause-after
returns-in-None-clause-after c =
    let none = no_label _ _ (rw c.machine.ensures.left at (sym c.in-None.is ∙ c.in_ok-step.ensures.moved)) in
    rw none refl

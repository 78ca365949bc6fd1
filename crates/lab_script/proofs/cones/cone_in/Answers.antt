use Rattle.std.proofs.Common.{ap, ◌∙◌, inl, inr, refl}
use Rattle.std.proofs.lemmas.Result.{IfOk-weaker}
use Rattle.lab_script.specs.Cones.{cone_text}
use Rattle.lab_script.proofs.cones.cone_in.Goals as goal

pub returns-in-Some : goal.returns-in-Some
returns-in-Some c =
    let none = rw (c.in-Some.is, c.machine.ensures.left) at c.in_ok-taken.ensures.none in
    let members = rw (c.in-Some.is, c.machine.ensures.left) at c.in_ok-taken.ensures.members in
    IfOk-weaker c.taken_text.result _ _
    (λ text is. inr (λ gone. let broken = none.1 gone in cc, is ∙ ap cone_text (c.deref.ensures.value ∙ members)))
    c.taken_text.ensures

pub returns : goal.returns
returns c =
    let none = rw (c.in-None.is, c.machine.ensures.left) at c.in_ok-taken.ensures.none in
    IfOk-weaker c.gone_text.result _ _ (λ text is. inl (none.0 refl, is)) c.gone_text.ensures

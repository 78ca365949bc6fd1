use Rattle.std.proofs.Common.{sym, ◌∙◌, ap, List, ◌++◌}
use Rattle.std.proofs.lemmas.List.{append_assoc}
use Rattle.lab_schedules.specs.declared.block.Block.{Block}
use Rattle.lab_schedules.specs.Schedules.{labels_in, labels_of}
use Rattle.lab_play.proofs.Steps.{labels_push}
use Rattle.lab_play.proofs.blocks.push_block.Goals as goal

pub returns-in_ok-push-in-Some-joined : goal.returns-in_ok-push-in-Some-joined
returns-in_ok-push-in-Some-joined c =
    let rest : List Block = c.pop.new.self.items in
    let block : Block = c.args.block.now in
    ap labels_of c.in_ok-push-in-Some-joined.ensures.items
    ∙ labels_push rest c.in-Some-joined.one
    ∙ ap (λ ls. labels_of rest ++ ls) c.in-Some-joined.ensures
    ∙ sym (append_assoc (labels_of rest) (labels_in c.in-Some.last) (labels_in block))
    ∙ ap (λ ls. ls ++ labels_in block) (sym (labels_push rest c.in-Some.last))
    ∙ ap (λ bs. labels_of bs ++ labels_in block) (sym c.in-Some.ensures.items)

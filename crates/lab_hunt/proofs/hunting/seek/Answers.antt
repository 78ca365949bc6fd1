use Rattle.std.proofs.Common.{◌≡◌, is_some, true, rules}
use Rattle.std.proofs.lemmas.Result.{IfOk-weaker}
use Rattle.lab_judge.specs.Texts.{text_in}
use Rattle.lab_hunt.proofs.Dues.{sought_on}
use Rattle.lab_hunt.proofs.hunting.seek.Goals as goal
use Rattle.lab_hunt.proofs.hunting.seek.Goals.{then-is_some, else-is_some}

pub returns : goal.returns
returns g c = elim c.if-is_some.branch [
  | then-is_some w ↦
      let known : is_some (text_in c.args.ground.now.wanted.now.text) ≡ true = search rules in
      rw w.sought-is (IfOk-weaker w.compare-sought.result _ _
      (λ sought compared. sought_on c.args.ground.now c.args.field.now.source.now _ sought
      c.in_ok-tries.ensures known compared)
      w.compare-sought.ensures)
  | else-is_some w ↦ rw w.sought-is w.settle-sought.ensures
]

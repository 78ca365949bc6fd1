-- Matter of proofs, for om_task too: what is answered where two things asked are equal.
use Rattle.std.proofs.Common.{◌≡◌, subst}
use Rattle.std.specs.Prelude.{Result, IfOk}
use Rattle.om_state.specs.State.{State}
use Rattle.om_team_serial.specs.declared.row.Answer.{Answer}
use Rattle.om_team_serial.specs.Rows.{Asked, answered}

-- an answer to what is asked answers what is the same
pub to_same : {E : Type 0} (r : Result Answer E) (a b : Asked) (s : State) → a ≡ b
    → IfOk r (λ answer. answer ≡ answered a s) → IfOk r (λ answer. answer ≡ answered b s)
to_same r a b s e h = subst (λ (q : Asked). IfOk r (λ answer. answer ≡ answered q s)) e h

-- Rows of the table from their parts.
use Rattle.std.proofs.Common.{◌≡◌, refl, subst, ℕ, ℤ, arith, Bool, true, List, [], ◌∷◌, Option, None, Some}
use Rattle.std.specs.Prelude.{Result, IfOk}
use Rattle.std.proofs.lemmas.Grind.{common_steps}
use Rattle.om_foot.specs.declared.object.Obj.TheVariants as obj
use Rattle.om_code.specs.declared.instruction.LoopForm.{LoopForm}
use Rattle.om_code.specs.declared.instruction.Schedule.TheVariants as schedule
use Rattle.om_state.specs.declared.control.Construct.{Construct}
use Rattle.om_state.specs.declared.control.Construct.TheVariants as construct
use Rattle.om_state.specs.declared.control.Context.{Context}
use Rattle.om_state.specs.declared.control.Share.{Share}
use Rattle.om_events.specs.declared.kind.Work.{Work}
use Rattle.om_state.specs.State.{State}
use Rattle.om_team_serial.specs.declared.row.Answer.{Answer}
use Rattle.om_team_serial.specs.Objects.{write, events}
use Rattle.om_team_serial.specs.Rows.{Asked, answered}
use Rattle.om_team_worksharing.specs.Rows.{end_worksharing_row, closed_row, work_of, single_work, is_right_form, loop_of, open_row}
use Rattle.om_state.specs.OpenShares.{is_loop}
use Rattle.om_team_worksharing.specs.Rows.{loop_row, iteration_row, iterate_row, grab_row, static_row}
use Rattle.om_team_worksharing.specs.Rows.{is_critical, unlock_row, leave_critical_row}

-- what is promised of a row holds of the same row in other words
pub carried : {E : Type 0} (r : Result Answer E) (a b : Asked) (s : State) → a ≡ b
    → ((t : State) → IfOk r (λ answer. answer ≡ answered a t)) → IfOk r (λ answer. answer ≡ answered b s)
carried r a b s e h = subst (λ asked. IfOk r (λ answer. answer ≡ answered asked s)) e (h s)

pub loop_opened : (worker to : ℕ) (c : Context) (form : LoopForm) (low high : Option ℤ)
    (lower upper from_lower from_upper : ℤ) (share : Share) (right : Bool) → low ≡ Some lower → high ≡ Some upper
    → right ≡ is_right_form form → right ≡ true → share ≡ loop_of c.regions form from_lower from_upper → from_lower
    ≡ lower → from_upper ≡ upper → open_row worker to 2 c share ≡ loop_row worker to c form low high
loop_opened worker to c form low high lower upper from_lower from_upper share right e f g h k l m = grind
    (arith, common_steps)

pub iterated : (to otherwise : ℕ) (c : Context) (slot : ℕ) (found : Option Share) (share : Share) (right : Bool)
    → found ≡ Some share → right ≡ is_loop share.sharing → right ≡ true → iteration_row to otherwise c slot share
    ≡ iterate_row to otherwise c slot found
iterated to otherwise c slot found share right e g h = grind (arith, common_steps)

pub grabbed : (to otherwise : ℕ) (c : Context) (found : Option Share) (share : Share) → found ≡ Some share
    → share.schedule ≡ schedule.Static → static_row to otherwise c share None ≡ grab_row to otherwise c found
grabbed to otherwise c found share e g = grind (arith, common_steps)

pub grabbed_chunk : (to otherwise size : ℕ) (c : Context) (found : Option Share) (share : Share) → found
    ≡ Some share → share.schedule ≡ schedule.StaticChunk size → static_row to otherwise c share (Some size)
    ≡ grab_row to otherwise c found
grabbed_chunk to otherwise size c found share e g = grind (arith, common_steps)

pub share_closed : (worker to : ℕ) (c : Context) (found : Option Construct) (region : Construct) (share : Share)
    (w : Work) → found ≡ Some region → region ≡ construct.Share share → w ≡ work_of share.sharing
    → closed_row worker to c w share.count ≡ end_worksharing_row worker to c found
share_closed worker to c found region share w e g h = grind (arith, common_steps)

pub single_closed : (worker to : ℕ) (c : Context) (found : Option Construct) (region : Construct) (runs : Bool)
    (w : Work) → found ≡ Some region → region ≡ construct.Single runs → w ≡ single_work runs → closed_row worker to
    c w 1 ≡ end_worksharing_row worker to c found
single_closed worker to c found region runs w e g h = grind (arith, common_steps)

pub unlocked : (worker to number : ℕ) (lock : List ℕ) (region : Option Construct) → is_critical number region ≡ true
    → leave_critical_row worker to number lock region
    ≡ record { names = write (obj.Lock number) ∷ events worker ∷ []; row = λ _. unlock_row to lock }
unlocked worker to number lock region e = rw e refl

-- The answer of the end of a task, from its parts.
use Rattle.std.proofs.Common.{◌≡◌, sym, ◌∙◌, ap, ℕ, List, [], ◌∷◌, Some}
use Rattle.std.specs.Prelude.{slice_get}
use Rattle.om_foot.specs.Names.{above}
use Rattle.om_foot.specs.declared.footprint.Access.{Access}
use Rattle.om_code.specs.declared.raw.Slot.{Slot}
use Rattle.om_state.specs.declared.control.Context.{Context}
use Rattle.om_state.specs.declared.control.Kind.{Kind}
use Rattle.om_state.specs.declared.control.Kind.TheVariants as kind
use Rattle.om_state.specs.declared.control.Stack.{Stack}
use Rattle.om_state.specs.declared.control.Edit.TheVariants.{EndContext}
use Rattle.om_state.specs.State.{State}
use Rattle.om_team_serial.specs.declared.row.Answer.{Answer}
use Rattle.om_team_serial.specs.declared.row.Row.{Row}
use Rattle.om_team_serial.specs.declared.row.Row.TheVariants.{Goes}
use Rattle.om_team_serial.specs.Objects.{own_cells}
use Rattle.om_team_serial.specs.Rows.{Asked, answered}
use Rattle.om_task.specs.Rows.{ended_names, ended_updates, ended_row, end_row_of, task_end_row}

abbrev pub answer_of : List Access → Row → Answer
answer_of names row = record { names = names; row = row }

-- what is asked where a task ends above a context
abbrev pub ending : ℕ → Context → Context → List Access → Asked
ending worker c next own = ended_row worker c (next ∷ []) own

above_next : (worker : ℕ) (c next : Context) (below : List Context) (own : List Access) → slice_get below 0 ≡ Some next
    → ending worker c next own ≡ ended_row worker c below own
above_next worker c next [] own e = cc
above_next worker c next (b ∷ below) own e =
    let same : b ≡ next = cc in
    ap (λ (n : Context). ending worker c n own) (sym same)

is_ending : (worker : ℕ) (s : Stack) (next : Context) (slots : List Slot) → s.top.kind ≡ kind.Explicit
    → slice_get s.below 0 ≡ Some next → ending worker s.top next (own_cells s.top slots) ≡ task_end_row worker s slots
is_ending worker s next slots k e =
    above_next worker s.top next s.below (own_cells s.top slots) e
    ∙ ap (λ (n : Kind). end_row_of worker s slots n) (sym k)

pub ended_at : (worker : ℕ) (s : Stack) (slots : List Slot) (next : Context) (own names : List Access)
    (parent : List ℕ) (row : Row) (t : State) → s.top.kind ≡ kind.Explicit → slice_get s.below 0 ≡ Some next
    → own ≡ own_cells s.top slots → parent ≡ above s.top.task → names ≡ ended_names worker s.top own parent → row
    ≡ Goes (EndContext ∷ []) (ended_updates s.top own next.task)
    → answer_of names row ≡ answered (task_end_row worker s slots) t
ended_at worker s slots next own names parent row t k e o p n r =
    let made : answer_of names row ≡ answered (ending worker s.top next own) t =
    (λ i. record { names = (n ∙ ap (ended_names worker s.top own) p) i; row = r i }) in
    made
    ∙ ap (λ (cells : List Access). answered (ending worker s.top next cells) t) o
    ∙ ap (λ (a : Asked). answered a t) (is_ending worker s next slots k e)

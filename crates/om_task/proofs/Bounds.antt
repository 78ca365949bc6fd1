-- What every row keeps to: it counts up one number at most, begins and puts nothing that has counted more
-- than before, puts no count, and adds at most one.
use Rattle.std.proofs.Common.{ℕ, ◌+◌, ◌≤◌, pos, List, [], ◌∷◌}
use Rattle.std.specs.Prelude.{neg_ℤ, ◌≤ℤ◌}
use Rattle.om_state.specs.declared.control.Edit.{Edit}
use Rattle.om_state.specs.declared.control.Edit.TheVariants.{BeginFrame, BeginContext, CountBirth, CountRegion, CountPhase}
use Rattle.om_state.specs.declared.step.Update.{Update}
use Rattle.om_state.specs.declared.step.Update.TheVariants.{Put, Add}
use Rattle.om_state.specs.declared.value.Val.{Val}
use Rattle.om_team_serial.specs.declared.row.Row.{Row}
use Rattle.om_team_serial.specs.declared.row.Row.TheVariants.{Goes}
use Rattle.om_team_serial.specs.Rows.{Asked}
use Rattle.om_team.specs.Counters.{IsWithin, ValueWithin}
use Rattle.om_task.specs.Steps.{IsNoCount, AddOnce}

-- how much an edit counts up
abbrev pub counted : Edit → ℕ
counted (BeginFrame to takes body homes) = 1
counted CountBirth = 1
counted CountRegion = 1
counted CountPhase = 1
counted _ = 0

abbrev pub counts : List Edit → ℕ
counts [] = 0
counts (edit ∷ edits) = counted edit + counts edits

-- the contexts that edits begin have counted no more than n
abbrev pub BeginsWithin : ℕ → Edit → Type 0
BeginsWithin n (BeginContext context) = IsWithin n context
BeginsWithin n _ = Unit {0}

abbrev pub BeginWithin : ℕ → List Edit → Type 0
BeginWithin n [] = Unit {0}
BeginWithin n (edit ∷ edits) = BeginsWithin n edit × BeginWithin n edits

-- an update is modest, and puts no counter above n
abbrev pub IsGentle : ℕ → Update → Type 0
IsGentle n (Put v) = IsNoCount v × ValueWithin n v
IsGentle n (Add d) = (neg_ℤ (pos 1) ≤ℤ d) × (d ≤ℤ pos 1)
IsGentle n _ = Unit {0}

abbrev pub AreGentle : ℕ → List Update → Type 0
AreGentle n [] = Unit {0}
AreGentle n (u ∷ us) = IsGentle n u × AreGentle n us

-- a row keeps to its bounds where no counter was above n before
pub record GoesWithin (n : ℕ) (edits : List Edit) (us : List Update) : Type 0 where
  pub few : counts edits ≤ 1
  pub begun : BeginWithin n edits
  pub gentle : AreGentle n us

abbrev pub RowWithin : ℕ → Row → Type 0
RowWithin n (Goes edits us) = GoesWithin n edits us
RowWithin n _ = Unit {0}

pub record AskedWithin (n : ℕ) (a : Asked) (values : List Val) : Type 0 where
  pub names : AddOnce a.names
  pub row : RowWithin n (a.row values)

abbrev pub ValuesWithin : ℕ → List Val → Type 0
ValuesWithin n [] = Unit {0}
ValuesWithin n (v ∷ values) = ValueWithin n v × ValuesWithin n values

-- What is true of values stays true behind updates, where it is true of what they put and of all that only grows.
use Rattle.std.proofs.Common.{ℕ, zero, suc, ℤ, Bool, true, false, cond, List, [], ◌∷◌, ◌++◌, Option, None, Some, replicate}
use Rattle.om_code.specs.declared.frame.Cell.TheVariants as cell
use Rattle.om_foot.specs.Footprint.{obj_eq}
use Rattle.om_foot.specs.declared.object.Obj.{Obj}
use Rattle.om_foot.specs.declared.footprint.Access.{Access}
use Rattle.om_foot.specs.declared.footprint.Mode.{Mode}
use Rattle.om_foot.specs.declared.footprint.Mode.TheVariants as mode
use Rattle.om_events.specs.declared.event.Record.{Record}
use Rattle.om_state.specs.declared.step.Tail.{Tail}
use Rattle.om_state.specs.declared.step.Tail.TheVariants as tail
use Rattle.om_state.specs.declared.step.Update.{Update}
use Rattle.om_state.specs.declared.step.Update.TheVariants.{Keep, Put, Add, Append, Cut}
use Rattle.om_state.specs.declared.value.Val.{Val}
use Rattle.om_state.specs.declared.value.Val.TheVariants as value
use Rattle.om_state.specs.State.{State, value_after, state_after, updated}
use Rattle.om_state.specs.Values.{value_plus, value_with}
use Rattle.om_team_serial.specs.Objects.{deaths}
use Rattle.om_team_serial.specs.SerialRows.{unsets}
use Rattle.om_task.specs.Tasks.{additions}

-- of each count, of any output and of any records
pub record IsOfAll (P : Val → Type 0) : Type 0 where
  pub counts : (n : ℤ) → P (value.Count n)
  pub outputs : (bytes : List ℕ) → P (value.Output bytes)
  pub events : (records : List Record) → P (value.Events records)

abbrev pub Puts : (Val → Type 0) → Update → Type 0
Puts P (Put v) = P v
Puts P _ = Unit {0}

abbrev pub AllPut : (Val → Type 0) → List Update → Type 0
AllPut P [] = Unit {0}
AllPut P (u ∷ us) = Puts P u × AllPut P us

pub one_of : (P : Val → Type 0) (b : Bool) (v w : Val) → P v → P w → P (cond b v w)
one_of P true v w h k = h
one_of P false v w h k = k

pub weaker : (P Q : Val → Type 0) → ((v : Val) → P v → Q v) → (us : List Update) → AllPut P us → AllPut Q us
weaker P Q f [] h = tt
weaker P Q f (Put v ∷ us) h = (f v h.0, weaker P Q f us h.1)
weaker P Q f (Keep ∷ us) h = (tt, weaker P Q f us h.1)
weaker P Q f (Add d ∷ us) h = (tt, weaker P Q f us h.1)
weaker P Q f (Append t ∷ us) h = (tt, weaker P Q f us h.1)
weaker P Q f (Cut k ∷ us) h = (tt, weaker P Q f us h.1)

-- ---- the updates that rows make

pub append : (P : Val → Type 0) (us ws : List Update) → AllPut P us → AllPut P ws → AllPut P (us ++ ws)
append P [] ws h k = k
append P (u ∷ us) ws h k = (h.0, append P us ws h.1 k)

pub put_unsets : (P : Val → Type 0) (own : List Access) → P (value.Cell cell.Unset) → AllPut P (unsets own)
put_unsets P [] h = tt
put_unsets P (a ∷ own) h = (h, put_unsets P own h)

pub put_deaths : (P : Val → Type 0) (own : List Access) → P (value.Cell cell.Dead) → AllPut P (deaths own)
put_deaths P [] h = tt
put_deaths P (a ∷ own) h = (h, put_deaths P own h)

pub keeps : (P : Val → Type 0) (k : ℕ) → AllPut P (replicate k Keep)
keeps P zero = tt
keeps P (suc k) = (tt, keeps P k)

pub sums : (P : Val → Type 0) (d : ℤ) (group : Option (List ℕ)) (us : List Update) → AllPut P us
    → AllPut P (additions d group ++ us)
sums P d None us h = (tt, (tt, h))
sums P d (Some g) us h = (tt, (tt, (tt, h)))

-- ---- a state behind updates

module _ (P : Val → Type 0) (all : IsOfAll P) where
  plus : (d : ℤ) (v : Val) → P v → P (value_plus d v)
  plus d (value.Count k) h = all.counts _
  plus d (value.Control c) h = h
  plus d (value.Task t) h = h
  plus d (value.Cell c) h = h
  plus d (value.Number k) h = h
  plus d (value.Lock k) h = h
  plus d (value.Output k) h = h
  plus d (value.Events k) h = h

  with_more : (t : Tail) (v : Val) → P v → P (value_with t v)
  with_more (tail.Bytes bytes) (value.Output k) h = all.outputs _
  with_more (tail.Bytes bytes) (value.Events k) h = h
  with_more (tail.Bytes bytes) (value.Count k) h = h
  with_more (tail.Bytes bytes) (value.Control c) h = h
  with_more (tail.Bytes bytes) (value.Task t) h = h
  with_more (tail.Bytes bytes) (value.Cell c) h = h
  with_more (tail.Bytes bytes) (value.Number k) h = h
  with_more (tail.Bytes bytes) (value.Lock k) h = h
  with_more (tail.Events records) (value.Output k) h = h
  with_more (tail.Events records) (value.Events k) h = all.events _
  with_more (tail.Events records) (value.Count k) h = h
  with_more (tail.Events records) (value.Control c) h = h
  with_more (tail.Events records) (value.Task t) h = h
  with_more (tail.Events records) (value.Cell c) h = h
  with_more (tail.Events records) (value.Number k) h = h
  with_more (tail.Events records) (value.Lock k) h = h

  after : (m : Mode) (u : Update) (old : Val) → Puts P u → P old → P (value_after m u old)
  after mode.Write (Put v) old p h = p
  after mode.Write (Append t) old p h = with_more t old h
  after mode.Write (Add d) old p h = h
  after mode.Write Keep old p h = h
  after mode.Write (Cut k) old p h = h
  after mode.Add (Add d) old p h = plus d old h
  after mode.Add (Put v) old p h = h
  after mode.Add (Append t) old p h = h
  after mode.Add Keep old p h = h
  after mode.Add (Cut k) old p h = h
  after mode.Read (Put v) old p h = h
  after mode.Read (Append t) old p h = h
  after mode.Read (Add d) old p h = h
  after mode.Read Keep old p h = h
  after mode.Read (Cut k) old p h = h

  -- at an object, behind the updates of a footprint
  pub updated_at : (accesses : List Access) (us : List Update) (s : State) (q : Obj) → AllPut P us → P (s q)
      → P (updated accesses us s q)
  updated_at [] us s q p h = h
  updated_at (a ∷ rest) [] s q p h = h
  updated_at (a ∷ rest) (u ∷ us) s q p h =
      updated_at rest us (state_after a u s) q p.1
      (one_of P (obj_eq a.object q) (value_after a.mode u (s q)) (s q) (after a.mode u (s q) p.0 h) h)

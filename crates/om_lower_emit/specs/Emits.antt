-- What is promised of code that is written: whatever finished program agrees with it, the row of the part
-- stands there.
use Rattle.std.specs.Prelude.{◌≡◌, ◌<◌, ◌≤◌, ℕ, List, OnOk, Result, Some, length, map, slice_get}
use Rattle.om_code.specs.declared.instruction.Instr.{Instr}
use Rattle.om_code.specs.declared.instruction.Place.{Place}
use Rattle.om_code.specs.declared.raw.Line.{Line}
use Rattle.om_scope_tree.specs.declared.resolved.ResolvedExpression.{ResolvedExpression}
use Rattle.om_scope_tree.specs.declared.resolved.Variable.{Variable}
use Rattle.om_scope_tree.specs.ResolvedTree as trees
use Rattle.om_scope_tree.specs.ResolvedTree.{ResolvedExpressionTree, ValuesTree}
use Rattle.om_scope_tree.specs.ResolvedView as view
use Rattle.om_lower_rules.specs.BodyTables.{numbered_by}
use Rattle.om_lower_rules.specs.Expressions.{value, values}
use Rattle.om_lower_rules.specs.Rows.{Site, Row}
use Rattle.om_lower_rules.specs.Numbered.{Numbered, site_with}
use Rattle.om_lower_rules.specs.Slots.{place_of}
use Rattle.om_lower_emit.specs.declared.draft.Pick.{Pick}
use Rattle.om_lower_emit.specs.declared.spot.Here.{Here}
use Rattle.om_lower_emit.specs.Drafts.{Labels, Puts, Written, settled}

-- ---- where code is written

-- what is known once all is written: a body's code, and the lists of PICK of the program
pub record Finished : Type 0 where
  pub code : List Line
  pub picks : List (List ℕ)

-- where code stands in the end
abbrev pub site : Numbered → Finished → Site
site names done = site_with names done.code done.picks

-- a row, by what is finished and where the labels stand
abbrev pub Part : Type 1
Part = Finished → Labels → Row

-- ---- what was written

-- what is finished agrees with what was written from this place on, and with each place of a label that is
-- known
pub record Fits (done : Finished) (at : Labels) (p : ℕ) (d : Written) : Type 0 where
  pub code : (k : ℕ) (x : Line) → p ≤ k → slice_get d.code k ≡ Some x
      → slice_get done.code k ≡ Some (settled at x)
  pub places : (l x : ℕ) → slice_get d.places l ≡ Some (Some x) → at l ≡ x
  pub picks : (k : ℕ) (x : Pick) → slice_get d.picks k ≡ Some x
      → slice_get done.picks x.number ≡ Some (map at x.labels)

-- what was written stands, and labels keep a place that is known
pub record Grows (old new : Written) : Type 0 where
  pub longer : length old.code ≤ length new.code
  pub code : (k : ℕ) → k < length old.code → slice_get new.code k ≡ slice_get old.code k
  pub places : (l x : ℕ) → slice_get old.places l ≡ Some (Some x) → slice_get new.places l ≡ Some (Some x)
  pub picks : (k : ℕ) (x : Pick) → slice_get old.picks k ≡ Some x → slice_get new.picks k ≡ Some x

-- a row is written behind what was
pub record Writes (r : Part) (old new : Written) : Type 0 where
  pub grows : Grows old new
  pub stands : (done : Finished) (at : Labels) → Fits done at (length old.code) new
      → r done at (length old.code) (length new.code)

-- the labels below this number stay as they are, and so do the lists of PICKs
pub record Keeps (n : ℕ) (old new : Written) : Type 0 where
  pub picks : new.picks ≡ old.picks
  pub more : length old.places ≤ length new.places
  pub same : (l : ℕ) → l < n → slice_get new.places l ≡ slice_get old.places l

-- a stretch of a row is written, and the labels below this number are kept
pub record Goes (n : ℕ) (r : Part) (old new : Written) : Type 0 where
  pub writes : Writes r old new
  pub keeps : Keeps n old new

-- a whole part is written, which places no label from before it
abbrev pub Emits : Part → Written → Written → Type 0
Emits r old new = Goes (length old.places) r old new

-- a row that names no label from before it
abbrev pub EmitsRow : Numbered → (Site → Row) → Written → Written → Type 0
EmitsRow names row = Emits (λ done at. row (site names done))

-- ---- expressions

abbrev pub EmitsValue : Numbered → ℕ → ResolvedExpressionTree → Written → Written → Type 0
EmitsValue names l e = EmitsRow names (λ at. value at l e)

abbrev pub EmitsValues : Numbered → ℕ → ValuesTree → Written → Written → Type 0
EmitsValues names l es = EmitsRow names (λ at. values at l es)

-- the values of a call, as a tree
abbrev pub listed : List ResolvedExpression → ValuesTree
listed es = trees.values (map view.expression es)

-- ---- what a function writes, unless memory runs out

-- what instructions name by numbers there, and a variable as they name it
abbrev pub names_at : Here → Numbered
names_at here = numbered_by here.tables.now

abbrev pub place_at : Here → Variable → Place
place_at here x = place_of (names_at here).slots x

-- an instruction, behind what stood there
abbrev pub Adds : {T E : Type 0} → Result T E → Here → Instr → Written → Written → Type 0
Adds result here x old new = OnOk result (Puts here.at.line x old new)

-- the row of x, behind what stood there
abbrev pub Appends : {T E X : Type 0} → Result T E → Here → (row : Site → ℕ → X → Row) → (x : X)
    → Written → Written → Type 0
Appends result here row x old new = OnOk result (EmitsRow (names_at here) (λ at. row at here.at.line x) old new)

-- the same of a row that depends on one thing more
abbrev pub AppendsBy : {T E P X : Type 0} → Result T E → Here → (row : Site → ℕ → P → X → Row) → (by : P) → (x : X)
    → Written → Written → Type 0
AppendsBy result here row by x old new = Appends result here (λ at l. row at l by) x old new

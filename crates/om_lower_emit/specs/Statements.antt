-- What is promised of the code of statements.
use Rattle.std.specs.Prelude.{◌≡◌, ◌<◌, ◌≤◌, ℕ, List, ◌++◌, length, map, option_map, slice_get}
use Rattle.om_lower_emit.specs.declared.draft.Pick.{Pick}
use Rattle.om_lower_emit.specs.Drafts.{Labels, Written}
use Rattle.om_lower_emit.specs.Emits.{Part, Writes, site}
use Rattle.om_scope_tree.specs.ResolvedTree.{ResolvedStatementTree, ResolvedStatementsTree}
use Rattle.om_lower_rules.specs.Bodies.{Numbers}
use Rattle.om_lower_rules.specs.Statements.{Jumps, statement, statements}
use Rattle.om_lower_emit.specs.declared.spot.JumpLabels.{JumpLabels}
use Rattle.om_lower_rules.specs.Numbered.{Numbered}
use Rattle.om_lower_rules.specs.Picks.{own_picks, all_own_picks}

-- where `break` and `continue` go, by the places of their labels
abbrev pub jumps_at : Labels → JumpLabels → Jumps
jumps_at at jumps = record { over = option_map at jumps.over; next = option_map at jumps.next }

-- ---- code with lists of PICK

abbrev pub pick_number : Pick → ℕ
pick_number pick = pick.number

-- lists with these numbers come behind those that there were
abbrev pub AddsLists : (numbers : List ℕ) → Written → Written → Type 0
AddsLists numbers old new = map pick_number new.picks ≡ map pick_number old.picks ++ numbers

-- a stretch of a row is written, with lists of these numbers, and the labels below n are kept
pub record GoesWith (n : ℕ) (numbers : List ℕ) (r : Part) (old new : Written) : Type 0 where
  pub writes : Writes r old new
  pub more : length old.places ≤ length new.places
  pub same : (l : ℕ) → l < n → slice_get new.places l ≡ slice_get old.places l
  pub adds : AddsLists numbers old new

-- a whole part is written, which places no label from before it
abbrev pub EmitsWith : (numbers : List ℕ) → Part → Written → Written → Type 0
EmitsWith numbers r old new = GoesWith (length old.places) numbers r old new

-- ---- statements, with the lists of their own `sections`

abbrev pub EmitsStatement : Numbered → Numbers → ResolvedStatementTree → JumpLabels → Written → Written → Type 0
EmitsStatement names n s jumps =
    EmitsWith (own_picks n s) (λ done at. statement (site names done) n s (jumps_at at jumps))

abbrev pub EmitsStatements : Numbered → Numbers → ResolvedStatementsTree → JumpLabels → Written → Written → Type 0
EmitsStatements names n items jumps =
    EmitsWith (all_own_picks n items) (λ done at. statements (site names done) n items (jumps_at at jumps))

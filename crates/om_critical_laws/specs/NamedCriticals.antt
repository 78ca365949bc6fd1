-- Who is inside of the critical regions of a name. OpenMP API 5.2, section 15.2: one thread at a time executes them, and
-- those without a name have one name.
use Rattle.std.specs.Prelude.{◌≡◌, ℕ, List, Option, Some, slice_get}
use Rattle.om_code.specs.declared.raw.Raw.{Raw}
use Rattle.om_state.specs.declared.step.Label.{Label}
use Rattle.om_state.specs.Rules.{replay}
use Rattle.om_state.specs.State.{State}
use Rattle.om_scope_tree.specs.ResolvedTree.{ResolvedTree}
use Rattle.om_lower_rules.specs.Code.{IsCodeOf}
use Rattle.om_lower_rules.specs.Mentions.{lock_name}
use Rattle.om_task.specs.Rules.{rules_of}
use Rattle.om_team_laws.specs.Criticals.{IsInside}

-- A worker is inside of the regions of a name where it has one open whose lock has this name. The code of each directive
-- of the name has such a lock (`directives_have_locks` of om_lower_laws).
pub record IsInsideOf (program : Raw) (s : State) (name : Option (List ℕ)) (worker : ℕ) : Type 0 where
  pub lock : ℕ
  pub has_name : slice_get program.locks lock ≡ Some (lock_name name)
  pub inside : IsInside s lock worker

-- In each state of a run of the code of a tree two workers that are inside of the regions of one name are one.
abbrev pub NamesExclude : Type 0
NamesExclude = (tree : ResolvedTree) (program : Raw) (workers : ℕ) (ls : List Label) (s : State)
    (name : Option (List ℕ)) (v w : ℕ) → IsCodeOf tree program → replay (rules_of program workers) ls ≡ Some s
    → IsInsideOf program s name v → IsInsideOf program s name w → v ≡ w

-- The entries of steps that stand.
use Rattle.std.specs.Prelude.{ℕ, List, map}
use Rattle.om_state.specs.declared.step.Entry.{Entry}

-- the workers of entries, in their order
abbrev pub workers_of : List Entry → List ℕ
workers_of entries = map (λ (e : Entry). e.worker) entries

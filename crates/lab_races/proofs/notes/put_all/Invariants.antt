use Rattle.std.proofs.Common.{◌≡◌, drop}
use Rattle.om_foot.specs.declared.object.Obj.{Obj}
use Rattle.lab_races.specs.Sweeps.{items_at, with_sides}
use Rattle.lab_races.proofs.notes.put_all.Given as goal

-- with what is left all will be noted
abbrev pub invariant-loop-access : goal.invariant-loop-access
invariant-loop-access l = (q : Obj)
    → with_sides (drop l.access-index l.variables) l.made q (items_at l.notes.entries q)
    ≡ with_sides l.variables l.made q (items_at l.initial.notes.entries q)

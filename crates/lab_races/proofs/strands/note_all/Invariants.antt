use Rattle.std.proofs.Common.{◌≡◌, ℕ, cond, drop, get_or}
use Rattle.std.specs.Prelude.{max}
use Rattle.std.specs.List.{list_any}
use Rattle.om_foot.specs.declared.footprint.Mode.{Mode}
use Rattle.om_foot.specs.declared.object.Obj.{Obj}
use Rattle.lab_races.specs.Sweeps.{is_named_by, strand}
use Rattle.lab_races.proofs.strands.note_all.Given as goal

-- with what is left the clock will be noted at all
abbrev pub invariant-loop-access : goal.invariant-loop-access
invariant-loop-access l = (q : Obj) (m : Mode) (w : ℕ)
    → cond (list_any (is_named_by q m) (drop l.access-index l.ordering)) (max (strand l.strands q m w) (get_or l.clock w 0))
    (strand l.strands q m w)
    ≡ cond (list_any (is_named_by q m) l.ordering) (max (strand l.initial.strands q m w) (get_or l.clock w 0))
    (strand l.initial.strands q m w)

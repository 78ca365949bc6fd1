use Rattle.std.proofs.Common.{◌≡◌, refl, Bool, true, false, ◌&&◌, ◌||◌}
use Rattle.om_foot.specs.declared.footprint.Mode.{Mode}
use Rattle.om_foot.specs.declared.footprint.Mode.TheVariants as mode
use Rattle.lab_races.specs.Orders.{is_atomic}
use Rattle.lab_races.specs.Races.{does_combine}
use Rattle.lab_explore_closed.specs.declared.found.Atomicity.{Atomicity}
use Rattle.lab_explore_closed.specs.declared.found.Atomicity.TheVariants.{Atomic, Plain, Reduction}
use Rattle.lab_explore_closed.specs.Races as steps
use Rattle.lab_replay.specs.Manners.{manner_of}
use Rattle.lab_replay.proofs.laws.manners_tell.Goals as goal

same_atomic : (a : Atomicity) (d : Bool) → is_atomic (manner_of a d) ≡ steps.is_atomic a
same_atomic Atomic d = refl
same_atomic Reduction d = refl
same_atomic Plain true = refl
same_atomic Plain false = refl

same_combine : (a : Atomicity) (d : Bool) (m : Mode) → does_combine (manner_of a d) m ≡ steps.is_combining a m
same_combine Reduction d mode.Read = refl
same_combine Reduction d mode.Write = refl
same_combine Reduction d mode.Add = refl
same_combine Atomic d m = refl
same_combine Plain true m = refl
same_combine Plain false m = refl

pub returns : goal.returns
returns c a b d e m n =
    λ i. (same_atomic a d i && same_atomic b e i) || (same_combine a d m i && same_combine b e n i)

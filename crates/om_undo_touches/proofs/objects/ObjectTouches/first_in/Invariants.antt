use Rattle.std.proofs.Common.{◌≡◌, ℕ, Bool, cond, true}
use Rattle.om_foot.specs.Firsts.{IsFirst}
use Rattle.om_undo_touches.proofs.RangeLemmas.{any_in, between}
use Rattle.om_undo_touches.proofs.objects.ObjectTouches.first_in.Given as goal

-- a search of what came and one of what is left are one of all that lie in the range
abbrev pub invariant-loop-object : goal.invariant-loop-object
invariant-loop-object l = (came : ℕ → Bool) × IsFirst came l.serial l.first × ((s : ℕ)
    → cond (came s) true (any_in l.cells l.object-iterator s)
    ≡ any_in l.cells (between l.cells l.self.objects.entries) s)

use Rattle.std.proofs.Common.{◌≡◌, sym, ◌∙◌, ap, subst, ℕ, suc, ◌+◌, ◌<◌, List, ◌∷◌, [], ◌++◌, take, drop, length, get_or, arith}
use Rattle.std.proofs.Common.{take-append-drop}
use Rattle.std.proofs.lemmas.List.{take_all, take_more}
use Rattle.std.proofs.Math.Seq.{drop-cons}
use Rattle.lab_races.specs.declared.made.Made.{Made}
use Rattle.lab_races.specs.declared.sweep.Sweep.{Sweep}
use Rattle.lab_races.specs.Races.{RiseFrom}
use Rattle.lab_races.specs.Sweeps.{Advances, IsSwept}
use Rattle.lab_races.proofs.Swept.{swept_more, all_told}
use Rattle.lab_races.proofs.sweep.races.Goals as goal

-- a step further in the history
further : (ms : List Made) (i : ℕ) (m : Made) (old new : Sweep) → i < length ms → m ≡ get_or ms i m → RiseFrom 0 ms
    → IsSwept ms (take i ms) old → Advances m old new → IsSwept ms (take (i + 1) ms) new
further ms i m old new less is rise swept advances =
    let split : ms ≡ take i ms ++ m ∷ drop (suc i) ms =
    sym (take-append-drop i ms) ∙ ap (λ l. take i ms ++ l) (drop-cons ms i m less)
    ∙ ap (λ (x : Made). take i ms ++ x ∷ drop (suc i) ms) (sym is) in
    let more : take (i + 1) ms ≡ take i ms ++ m ∷ [] =
    take_more ms i m less ∙ ap (λ (x : Made). take i ms ++ x ∷ []) (sym is) in
    subst (λ l. IsSwept ms l new) (sym more)
    (subst (λ l. IsSwept l (take i ms ++ m ∷ []) new) (sym split)
    (swept_more (take i ms) m (drop (suc i) ms) old new (subst (RiseFrom 0) split rise)
    (subst (λ l. IsSwept l (take i ms) old) split swept) advances))

pub loop-made-preserved : goal.loop-made-preserved
loop-made-preserved c =
    further c.args.history.now c.loop-made.made-index c.made-item.result c.loop-made.sweep c.advance.new.sweep
    c.loop-made-test.true c.made-item.is c.requires c.loop-made.invariant c.in_ok-advance.ensures

pub returns : goal.returns
returns c = all_told c.args.history.now c.loop-made.sweep
    (subst (λ l. IsSwept c.args.history.now l c.loop-made.sweep) (take_all c.loop-made.made-index c.args.history.now (omega arith))
    c.loop-made.invariant)

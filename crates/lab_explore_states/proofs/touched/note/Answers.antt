use Rattle.std.proofs.Common.{refl, sym, subst}
use Rattle.lab_explore_states.specs.declared.touched.Touched.{Touched}
use Rattle.lab_explore_states.specs.Touched.{ArePlaced, Notes, objects_of}
use Rattle.lab_explore_states.proofs.TouchedLemmas.{noted, placed_pushed, placed_stay}
use Rattle.lab_explore_states.proofs.touched.note.Goals as goal

pub returns-clause-placed : goal.returns-clause-placed
returns-clause-placed c =
    let one : Touched = record { object = c.args.access.now.object; place = c.in_ok-place.place } in
    subst (λ xs. ArePlaced c.placed.new.tables xs) (sym c.in_ok-push.ensures.items)
    (placed_pushed c.placed.new.tables c.args.touched.now.items one
    (placed_stay c.args.tables.now c.placed.new.tables c.args.touched.now.items c.in_ok-place.ensures.extends
    c.requires.placed) c.in_ok-place.ensures.place)

pub returns-clause-notes : goal.returns-clause-notes
returns-clause-notes c =
    let one : Touched = record { object = c.args.access.now.object; place = c.in_ok-place.place } in
    subst (λ xs. Notes c.args.access.now (objects_of c.args.touched.now.items) (objects_of xs))
    (sym c.in_ok-push.ensures.items) (noted c.args.access.now c.args.touched.now.items one refl)

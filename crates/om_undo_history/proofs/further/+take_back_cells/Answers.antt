use Rattle.std.proofs.Common.{◌∙◌, sym, true, ◌≡◌, rules}
use Rattle.std.proofs.lemmas.List.Elements.{All-weaker}
use Rattle.om_foot.specs.declared.footprint.Access.{Access}
use Rattle.om_foot.specs.Cells.{cells_listed}
use Rattle.om_memory.specs.Memories.{state_of, is_kept}
use Rattle.om_undo_history.proofs.CellParts.{last_split, were_split, slot_back, none_back}
use Rattle.om_undo_history.proofs.further.+take_back_cells.Goals as goal

pub returns-in_default-pop-clause-state : goal.returns-in_default-pop-clause-state
returns-in_default-pop-clause-state t c =
    none_back c.args.all.now c.args.were.now.items c.pop.new.self.items _ (state_of c.args.store.now)
    c.in_default-pop.ensures.items c.in_default-pop.ensures.rest c.in_default-pop.ensures.cases.0

pub put_cells_back-requires : goal.put_cells_back-requires
put_cells_back-requires t c = record {
  kept = (last_split (λ (a : Access). is_kept c.args.store.now a.object ≡ true) c.args.all.now c.in-Some.earlier.now
      c.in-Some.cells.now c.in-Some.ensures.cases.0 c.requires.kept).1;
}

pub take_back_cells-requires : goal.take_back_cells-requires
take_back_cells-requires t c = (
  search rules,
  (
    All-weaker (λ (a : Access). is_kept c.args.store.now a.object ≡ true)
        (λ (a : Access). is_kept c.put_cells_back.new.self a.object ≡ true)
        (λ a h. c.put_cells_back.ensures.kept a.object ∙ h) (cells_listed c.in-Some.earlier.now)
        (last_split (λ (a : Access). is_kept c.args.store.now a.object ≡ true) c.args.all.now c.in-Some.earlier.now
        c.in-Some.cells.now c.in-Some.ensures.cases.0 c.requires.kept).0,
    were_split c.args.all.now c.in-Some.earlier.now c.in-Some.cells.now c.args.were.now.items c.pop.new.self.items
        c.in-Some-pop.was c.in-Some.ensures.cases.0 c.in-Some-pop.ensures.items c.requires.along,
  ),
)

pub returns-clause-state : goal.returns-clause-state
returns-clause-state t c =
    c.take_back_cells.ensures.state
    ∙ slot_back c.args.all.now c.in-Some.earlier.now c.in-Some.cells.now c.args.were.now.items c.pop.new.self.items
    c.in-Some-pop.was (state_of c.args.store.now) (state_of c.put_cells_back.new.self) c.in-Some.ensures.cases.0
    c.in-Some-pop.ensures.items c.requires.along c.put_cells_back.ensures.state

use Rattle.std.proofs.Common.{◌≡◌, ◌∙◌, sym, ap, subst, true, take, ◌+◌, arith, List}
use Rattle.std.specs.Prelude.{All}
use Rattle.std.proofs.lemmas.List.{take_more}
use Rattle.std.proofs.lemmas.List.Elements.{All-weaker}
use Rattle.om_foot.specs.declared.footprint.Access.{Access}
use Rattle.om_foot.specs.declared.object.Cells.{Cells}
use Rattle.om_state.specs.declared.value.Run.{Run}
use Rattle.om_foot.specs.Cells.{cells_of, cells_listed}
use Rattle.om_state.specs.Runs.{runs_listed}
use Rattle.om_state.specs.State.{updated, undo_record}
use Rattle.om_memory.specs.Memories.{state_of, is_kept}
use Rattle.om_undo_history.specs.Backs.{backs_listed, WereAlong}
use Rattle.om_undo_history.proofs.CellParts.{CellsMade, All-at, All-first, along_all, one_slot_more, cells_back}
use Rattle.om_undo_history.proofs.further.make_cells.Goals as goal

pub put_cells-requires : goal.put_cells-requires
put_cells-requires c =
    let kept : Access → Type 0 = λ a. is_kept c.args.store.now a.object ≡ true in
    let there : All kept (cells_of c.index-all-i.result) =
    subst (λ (x : Cells). All kept (cells_of x)) (sym c.index-all-i.is)
    (All-at kept c.loop-i.i c.args.all.now c.index-all-i.result (omega arith) c.requires.kept) in
    record {
      kept = All-weaker kept (λ (a : Access). is_kept c.loop-i.store a.object ≡ true)
          (λ a h. c.loop-i.invariant.kept a.object ∙ h) (cells_of c.index-all-i.result) there;
    }

pub take_back_cells-requires-clause-kept : goal.take_back_cells-requires-clause-kept
take_back_cells-requires-clause-kept c =
    let kept : Access → Type 0 = λ a. is_kept c.args.store.now a.object ≡ true in
    All-weaker kept (λ (a : Access). is_kept c.put_cells.new.self a.object ≡ true)
    (λ a h. c.put_cells.ensures.kept a.object ∙ c.loop-i.invariant.kept a.object ∙ h)
    (cells_listed (take c.loop-i.i c.args.all.now)) (All-first kept c.loop-i.i c.args.all.now c.requires.kept)

pub returns-in-Err-clause-same_state_on_error : goal.returns-in-Err-clause-same_state_on_error
returns-in-Err-clause-same_state_on_error c =
    c.take_back_cells.ensures.state
    ∙ cells_back (take c.loop-i.i c.args.all.now) (take c.loop-i.i c.args.runs.now) c.loop-i.were.items
    (state_of c.args.store.now) (state_of c.put_cells.new.self)
    (subst (λ t. CellsMade (take c.loop-i.i c.args.all.now) (take c.loop-i.i c.args.runs.now) c.loop-i.were.items
    (state_of c.args.store.now) t) (sym c.in-Err.ensures.same_state_on_error) c.loop-i.invariant.made)

pub loop-i-preserved : goal.loop-i-preserved
loop-i-preserved c =
    let all : List Cells = c.args.all.now in
    let runs : List Run = c.args.runs.now in
    record {
      made = subst (λ ws. CellsMade (take (c.loop-i.i + 1) all) (take (c.loop-i.i + 1) runs) ws
          (state_of c.args.store.now) (state_of c.put_cells.new.self)) (sym c.push_reserved.ensures.items)
          (one_slot_more c.loop-i.i all runs c.loop-i.were.items (state_of c.args.store.now)
          (state_of c.loop-i.store) (state_of c.put_cells.new.self) c.index-all-i.result c.in-Some.wanted.now c.in-Ok.was
          c.requires.along (omega arith) (omega arith) c.index-all-i.is c.in-Some.ensures.lookup.1
          (take_more all c.loop-i.i c.index-all-i.result (omega arith))
          (take_more runs c.loop-i.i c.in-Some.wanted.now (omega arith)) c.loop-i.invariant.made
          c.in-Ok.ensures.was c.in-Ok.ensures.state);
      pasts = c.put_cells.ensures.pasts ∙ c.loop-i.invariant.pasts;
      kept = λ q. c.put_cells.ensures.kept q ∙ c.loop-i.invariant.kept q;
      so_many = c.push_reserved.ensures.len ∙ ap (λ n. n + 1) c.loop-i.invariant.so_many;
      room = c.push_reserved.ensures.capacity ∙ c.loop-i.invariant.room;
    }

pub returns-clause-along : goal.returns-clause-along
returns-clause-along c =
    subst (λ x. WereAlong x c.loop-i.were.items)
    (along_all c.loop-i.i c.args.all.now c.args.runs.now c.requires.along (omega arith)).0 c.loop-i.invariant.made.along

pub returns-clause-were : goal.returns-clause-were
returns-clause-were c =
    let whole = along_all c.loop-i.i c.args.all.now c.args.runs.now c.requires.along (omega arith) in
    c.loop-i.invariant.made.were
    ∙ (λ j. undo_record (cells_listed (whole.0 j)) (runs_listed (whole.1 j)) (state_of c.args.store.now))

pub returns-clause-state : goal.returns-clause-state
returns-clause-state c =
    let whole = along_all c.loop-i.i c.args.all.now c.args.runs.now c.requires.along (omega arith) in
    c.loop-i.invariant.made.state
    ∙ (λ j. updated (cells_listed (whole.0 j)) (runs_listed (whole.1 j)) (state_of c.args.store.now))

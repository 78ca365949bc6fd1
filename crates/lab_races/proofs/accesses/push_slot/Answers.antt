use Rattle.std.proofs.Common.{◌≡◌, sym, ◌∙◌, ap, ℕ, suc, ◌+◌, ◌-◌, ◌<◌, List, ◌∷◌, [], ◌++◌, append_assoc, arith}
use Rattle.om_foot.specs.declared.footprint.Access.{Access}
use Rattle.om_foot.specs.declared.footprint.Mode.TheVariants.{Write}
use Rattle.om_foot.specs.declared.object.Obj.{Obj}
use Rattle.om_foot.specs.declared.object.SlotName.{SlotName}
use Rattle.om_foot.specs.Cells.{cell_access, cells_from}
use Rattle.lab_races.proofs.accesses.push_slot.Goals as goal

next : (slot : SlotName) (n i : ℕ) → i < n
    → cells_from slot i (n - i) ≡ cell_access slot i ∷ cells_from slot (i + 1) (n - (i + 1))
next slot n i less = let e : n - i ≡ suc (n - (i + 1)) = omega arith in ap (cells_from slot i) e

pub loop-index-preserved : goal.loop-index-preserved
loop-index-preserved c =
    let slot : SlotName = c.args.cells.now.slot in
    let n : ℕ = c.args.cells.now.count in
    let i : ℕ = c.loop-index.index in
    let before : List Access = c.loop-index.all.items in
    let rest : List Access = cells_from slot (i + 1) (n - (i + 1)) in
    let pushed : c.push.new.self.items ≡ before ++ cell_access slot i ∷ [] =
    c.in_ok-push.ensures.items
    ∙ ap (λ (a : Access). before ++ a ∷ [])
    (c.in_ok-write_of.ensures ∙ ap (λ (q : Obj). record { object = q; mode = Write }) c.cell.ensures) in
    ap (λ xs. xs ++ rest) pushed ∙ (append_assoc before (cell_access slot i ∷ []) rest)
    ∙ ap (λ xs. before ++ xs) (sym (next slot n i (omega arith))) ∙ c.loop-index.invariant

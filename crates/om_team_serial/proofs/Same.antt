-- One value put at each of some names, and the cells of a slot where they lie.
use Rattle.std.proofs.Common.{◌≡◌, refl, sym, ◌∙◌, ap, ℕ, zero, suc, ◌+◌, List, [], ◌∷◌, ◌++◌, append_assoc, drop, get_or, length, ◌<◌}
use Rattle.std.specs.Prelude.{Result, Ok, Err, OnOk}
use Rattle.std.proofs.lemmas.List.{drop_more}
use Rattle.om_foot.specs.declared.footprint.Access.{Access}
use Rattle.om_code.specs.declared.frame.Cell as cells
use Rattle.om_foot.specs.declared.object.SlotName.{SlotName}
use Rattle.om_foot.specs.declared.object.Cells.{Cells}
use Rattle.om_state.specs.declared.control.Home.{Home}
use Rattle.om_state.specs.declared.control.Home.TheVariants.{Own, Elsewhere}
use Rattle.om_state.specs.declared.step.Update.{Update}
use Rattle.om_state.specs.declared.step.Update.TheVariants.{Put}
use Rattle.om_state.specs.declared.value.Val.TheVariants as value
use Rattle.om_foot.specs.Cells.{cell_access, cells_from, cells_of, cells_listed}
use Rattle.om_state.specs.Runs.{puts_of}
use Rattle.om_team_serial.specs.Objects.{same_puts, slot_in, slot_cells}

same_more : (c : cells.Cell) (xs ys : List Access) → same_puts c (xs ++ ys) ≡ same_puts c xs ++ same_puts c ys
same_more c [] ys = refl
same_more c (x ∷ xs) ys = ap (λ us. Put (value.Cell c) ∷ us) (same_more c xs ys)

-- of the three parts of names
pub same_parts : (c : cells.Cell) (us : List Update) (first middle last : List Access)
    → ((us ++ same_puts c first) ++ same_puts c middle) ++ same_puts c last
    ≡ us ++ same_puts c (first ++ (middle ++ last))
same_parts c us first middle last =
    append_assoc (us ++ same_puts c first) (same_puts c middle) (same_puts c last)
    ∙ append_assoc us (same_puts c first) _
    ∙ ap (λ x. us ++ (same_puts c first ++ x)) (sym (same_more c middle last))
    ∙ ap (λ x. us ++ x) (sym (same_more c first (middle ++ last)))

cells_same : (c : cells.Cell) (slot : SlotName) (index n : ℕ) → puts_of c n ≡ same_puts c (cells_from slot index n)
cells_same c slot index zero = refl
cells_same c slot index (suc n) = ap (λ us. Put (value.Cell c) ∷ us) (cells_same c slot (index + 1) n)

-- the puts for what is left behind one more
pub runs_past : (us : List Update) (c : cells.Cell) (names : List Cells) (k : ℕ) (x d : Cells) → k < length names
    → x ≡ get_or names k d → (us ++ puts_of c x.count) ++ same_puts c (cells_listed (drop (k + 1) names))
    ≡ us ++ same_puts c (cells_listed (drop k names))
runs_past us c names k x d h is =
    append_assoc us (puts_of c x.count) _
    ∙ ap (λ p. us ++ (p ++ same_puts c (cells_listed (drop (k + 1) names)))) (cells_same c x.slot 0 x.count)
    ∙ ap (λ p. us ++ p) (sym (same_more c (cells_of x) (cells_listed (drop (k + 1) names))))
    ∙ ap (λ y. us ++ same_puts c (cells_listed (y ∷ drop (k + 1) names))) is
    ∙ ap (λ l. us ++ same_puts c (cells_listed l)) (sym (drop_more names k d h))

-- the cells of a slot where they lie
listed_from : (task : List ℕ) (frame slot : ℕ) (home : Home) (index n : ℕ)
    → cells_from (slot_in task frame slot home) index n ≡ slot_cells task frame slot home index n
listed_from task frame slot Own index zero = refl
listed_from task frame slot Own index (suc n) =
    ap (λ l. cell_access (slot_in task frame slot Own) index ∷ l) (listed_from task frame slot Own (index + 1) n)
listed_from task frame slot (Elsewhere t f s) index zero = refl
listed_from task frame slot (Elsewhere t f s) index (suc n) =
    ap (λ l. cell_access (slot_in task frame slot (Elsewhere t f s)) index ∷ l)
    (listed_from task frame slot (Elsewhere t f s) (index + 1) n)

pub slot_listed : (task : List ℕ) (frame slot : ℕ) (home : Home) (n : ℕ)
    → cells_from (slot_in task frame slot home) 0 n ≡ slot_cells task frame slot home 0 n
slot_listed task frame slot home n = listed_from task frame slot home 0 n

-- names behind which the cells of a slot are named, where they lie
pub slot_named : {T E : Type 0} (r : Result T E) (new old : List Access) (at : SlotName) (task : List ℕ) (frame slot : ℕ)
    (home : Home) (n : ℕ) → at ≡ slot_in task frame slot home → OnOk r (new ≡ old ++ cells_from at 0 n)
    → OnOk r (new ≡ old ++ slot_cells task frame slot home 0 n)
slot_named (Ok x) new old at task frame slot home n is named =
    named ∙ ap (λ s. old ++ cells_from s 0 n) is ∙ ap (λ l. old ++ l) (slot_listed task frame slot home n)
slot_named (Err x) new old at task frame slot home n is named = tt

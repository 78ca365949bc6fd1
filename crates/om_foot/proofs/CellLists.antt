-- Lists of cells named at once.
use Rattle.std.proofs.Common.{◌≡◌, sym, ◌∙◌, ap, ℕ, suc, ◌+◌, ◌-◌, ◌<◌, List, [], ◌∷◌, ◌++◌, drop, slice_get, Some}
use Rattle.std.proofs.lemmas.List.{append_assoc, append-nil}
use Rattle.om_foot.specs.declared.footprint.Access.{Access}
use Rattle.om_foot.specs.declared.object.SlotName.{SlotName}
use Rattle.om_foot.specs.declared.object.Cells.{Cells}
use Rattle.om_foot.specs.Cells.{cell_access, cells_from, cells_of, cells_listed}
use Rattle.om_foot.specs.ListParts.{one_less, from_item}

-- more cells at the end of the others, where nothing stands behind them
pub behind_more : (cs : List Cells) (c : Cells) (last : List Access) → last ≡ []
    → cells_listed (cs ++ c ∷ []) ++ last ≡ (cells_listed cs ++ last) ++ cells_of c
behind_more cs c last none =
    ap (λ l. cells_listed (cs ++ c ∷ []) ++ l) none ∙ append-nil _ ∙ listed_more cs
    ∙ sym (ap (λ l. (cells_listed cs ++ l) ++ cells_of c) none ∙ ap (λ m. m ++ cells_of c) (append-nil _))
  where
    listed_more : (ds : List Cells) → cells_listed (ds ++ c ∷ []) ≡ cells_listed ds ++ cells_of c
    listed_more [] = append-nil (cells_of c)
    listed_more (d ∷ ds) = ap (λ m. cells_of d ++ m) (listed_more ds)
        ∙ sym (append_assoc (cells_of d) (cells_listed ds) (cells_of c))

-- the cells behind one more
pub cells_past : (names : List Access) (slot : SlotName) (n count : ℕ) → n < count
    → (names ++ cell_access slot n ∷ []) ++ cells_from slot (n + 1) (count - (n + 1))
    ≡ names ++ cells_from slot n (count - n)
cells_past names slot n count h = append_assoc names (cell_access slot n ∷ []) _
    ∙ ap (λ k. names ++ cells_from slot n k) (sym (one_less n count h))

-- the cells of what is left behind one more
pub listed_past : (names : List Access) (cs : List Cells) (k : ℕ) (c : Cells) → slice_get cs k ≡ Some c
    → (names ++ cells_of c) ++ cells_listed (drop (k + 1) cs) ≡ names ++ cells_listed (drop k cs)
listed_past names cs k c h = append_assoc names (cells_of c) _
    ∙ ap (λ l. names ++ cells_listed l) (sym (from_item cs k c h))

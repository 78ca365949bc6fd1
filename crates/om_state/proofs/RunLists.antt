-- Lists of runs.
use Rattle.std.proofs.Common.{◌≡◌, sym, ◌∙◌, ap, ℕ, suc, ◌+◌, ◌-◌, ◌<◌, List, [], ◌∷◌, ◌++◌, drop, slice_get, Some}
use Rattle.std.proofs.lemmas.List.{append_assoc, append-nil}
use Rattle.om_code.specs.declared.frame.Cell as cell
use Rattle.om_state.specs.declared.value.Run.{Run}
use Rattle.om_state.specs.declared.step.Update.{Update}
use Rattle.om_state.specs.declared.step.Update.TheVariants.{Put}
use Rattle.om_state.specs.declared.value.Val.TheVariants as value
use Rattle.om_state.specs.Runs.{puts_of, run_puts, runs_listed}
use Rattle.om_foot.specs.ListParts.{one_less, from_item}

-- more runs at the end of the others, where nothing stands behind them
pub behind_more : (rs : List Run) (r : Run) (last : List Update) → last ≡ []
    → runs_listed (rs ++ r ∷ []) ++ last ≡ (runs_listed rs ++ last) ++ run_puts r
behind_more rs r last none =
    ap (λ l. runs_listed (rs ++ r ∷ []) ++ l) none ∙ append-nil _ ∙ listed_more rs
    ∙ sym (ap (λ l. (runs_listed rs ++ l) ++ run_puts r) none ∙ ap (λ m. m ++ run_puts r) (append-nil _))
  where
    listed_more : (ds : List Run) → runs_listed (ds ++ r ∷ []) ≡ runs_listed ds ++ run_puts r
    listed_more [] = append-nil (run_puts r)
    listed_more (d ∷ ds) = ap (λ m. run_puts d ++ m) (listed_more ds)
        ∙ sym (append_assoc (run_puts d) (runs_listed ds) (run_puts r))

-- the puts behind one more
pub puts_past : (us : List Update) (c : cell.Cell) (n count : ℕ) → n < count
    → (us ++ Put (value.Cell c) ∷ []) ++ puts_of c (count - (n + 1)) ≡ us ++ puts_of c (count - n)
puts_past us c n count h = append_assoc us (Put (value.Cell c) ∷ []) _
    ∙ ap (λ k. us ++ puts_of c k) (sym (one_less n count h))

-- the runs of what is left behind one more
pub runs_past : (us : List Update) (rs : List Run) (k : ℕ) (r : Run) → slice_get rs k ≡ Some r
    → (us ++ run_puts r) ++ runs_listed (drop (k + 1) rs) ≡ us ++ runs_listed (drop k rs)
runs_past us rs k r h = append_assoc us (run_puts r) _
    ∙ ap (λ l. us ++ runs_listed l) (sym (from_item rs k r h))

-- Values that cells held: the lists of puts, one more behind them.
use Rattle.std.proofs.Common.{◌≡◌, refl, sym, ◌∙◌, ap, ℕ, zero, suc, ◌+◌, List, [], ◌∷◌, ◌++◌, arith}
use Rattle.std.proofs.lemmas.List.{append_assoc, append-nil}
use Rattle.om_code.specs.declared.frame.Cell as cell
use Rattle.om_state.specs.declared.value.Run.{Run}
use Rattle.om_state.specs.declared.value.Was.{Was}
use Rattle.om_state.specs.declared.value.Was.TheVariants as was
use Rattle.om_state.specs.declared.step.Update.TheVariants.{Put}
use Rattle.om_state.specs.declared.value.Val.{Val}
use Rattle.om_state.specs.declared.value.Val.TheVariants as value
use Rattle.om_state.specs.Runs.{puts_of, run_puts, was_puts, were_listed}
use Rattle.om_state.specs.RunPuts.{puts_more}

pub one_more : (ws : List Was) (w : Was) → were_listed (ws ++ w ∷ []) ≡ were_listed ws ++ was_puts w
one_more [] w = append-nil (was_puts w)
one_more (x ∷ ws) w = ap (λ us. was_puts x ++ us) (one_more ws w)
    ∙ sym (append_assoc (was_puts x) (were_listed ws) (was_puts w))

-- the last run, where more is behind
pub run_last : (ws : List Was) (r : Run) → were_listed (ws ++ was.Cells r ∷ []) ≡ were_listed ws ++ run_puts r
run_last ws r = one_more ws (was.Cells r)

-- one more in the run
pub run_more : (ws : List Was) (c : cell.Cell) (n : ℕ)
    → were_listed ws ++ puts_of c (n + 1) ≡ (were_listed ws ++ puts_of c n) ++ Put (value.Cell c) ∷ []
run_more ws c n = ap (λ us. were_listed ws ++ us) (puts_more c n)
    ∙ sym (append_assoc (were_listed ws) (puts_of c n) (Put (value.Cell c) ∷ []))

-- the next run
pub run_next : (ws : List Was) (r : Run) (c : cell.Cell)
    → were_listed (ws ++ was.Cells r ∷ []) ++ puts_of c 1 ≡ (were_listed ws ++ run_puts r) ++ Put (value.Cell c) ∷ []
run_next ws r c = ap (λ us. us ++ Put (value.Cell c) ∷ []) (run_last ws r)

-- another value
pub value_more : (ws : List Was) (r : Run) (v : Val)
    → were_listed ((ws ++ was.Cells r ∷ []) ++ was.Value v ∷ []) ++ []
    ≡ (were_listed ws ++ run_puts r) ++ Put v ∷ []
value_more ws r v = append-nil _ ∙ one_more (ws ++ was.Cells r ∷ []) (was.Value v)
    ∙ ap (λ us. us ++ Put v ∷ []) (run_last ws r)

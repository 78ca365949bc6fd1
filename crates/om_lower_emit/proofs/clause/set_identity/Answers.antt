use Rattle.std.proofs.Common.{rules, ◌≡◌, ℕ, ℤ, subst, ◌∙◌}
use Rattle.om_code.specs.declared.instruction.Instr.TheVariants as i
use Rattle.om_code.specs.declared.instruction.Serial.TheVariants as serials
use Rattle.om_lower_emit.specs.Drafts.{Puts, Written}
use Rattle.om_lower_emit.specs.Emits.{names_at}
use Rattle.om_lower_emit.proofs.Leaves.{emits_two}
use Rattle.om_lower_emit.proofs.clause.set_identity.Goals as goal

-- the number as it was read
puts_constant : (l : ℕ) (read found n : ℤ) (a b : Written) → read ≡ found → found ≡ n → Puts l (i.Serial (serials.Constant read)) a b
    → Puts l (i.Serial (serials.Constant n)) a b
puts_constant l read found n a b same is h = subst (λ x. Puts l (i.Serial (serials.Constant x)) a b) (same ∙ is) h

pub returns : goal.returns
returns c = emits_two (names_at c.args.here.now) _ _ _ _ _ _
    (puts_constant _ _ c.identity_of-identity.result _ _ _ (search rules) c.identity_of-identity.ensures
    c.in_ok-put.ensures) c.in_ok-store.ensures

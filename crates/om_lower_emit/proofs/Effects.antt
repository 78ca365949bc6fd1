-- The code of expressions whose values nothing uses, row by row.
use Rattle.std.proofs.Common.{◌≡◌, ℕ, List, subst}
use Rattle.om_code.specs.declared.instruction.Instr.TheVariants as i
use Rattle.om_code.specs.declared.instruction.Serial.TheVariants as serials
use Rattle.om_lower_emit.specs.Drafts.{Written, Puts}
use Rattle.om_lower_emit.specs.Emits.{site, Emits, EmitsRow, EmitsValue, EmitsValues}
use Rattle.om_lower_emit.specs.Rests.{call}
use Rattle.om_lower_emit.specs.Writing.{emits_put}
use Rattle.om_scope_tree.specs.ResolvedTree.{ResolvedExpressionTree, Call, ValuesTree}
use Rattle.om_lower_rules.specs.Expressions.{effect, value, values, value_count}
use Rattle.om_lower_rules.specs.Rows.{end, ins, part, ◌▸◌}
use Rattle.om_lower_rules.specs.Tables.{number_in}
use Rattle.om_lower_rules.specs.Numbered.{Numbered}
use Rattle.om_lower_emit.specs.Effects.{popped, print}
use Rattle.std.specs.Str.{bytes_eq}

abbrev EmitsEffect : Numbered → ℕ → ResolvedExpressionTree → Written → Written → Type 0
EmitsEffect names l e = EmitsRow names (λ at. effect at l e)

pub emits_dropped_call : (names : Numbered) (l function : ℕ) (es : ValuesTree) (a b c : Written)
    → EmitsRow names (λ at. call at l function es) a b → Puts l (i.Serial serials.Pop) b c → EmitsEffect names l (Call function es) a c
emits_dropped_call names l function es a b c e h = emits_put names (λ at. call at l function es) l (i.Serial serials.Pop) a b c e h

pub emits_print : (names : Numbered) (l : ℕ) (format : List ℕ) (es : ValuesTree) (text count : ℕ) (a b c : Written)
    → text ≡ number_in (bytes_eq format) names.formats → count ≡ value_count es
    → EmitsValues names l es a b → Puts l (i.Serial (serials.Print text count)) b c → EmitsRow names (λ at. print at l format es) a c
emits_print names l format es text count a b c is counts e h =
    subst (λ z. Emits (λ done at. part (values (site names done) l es)
    ▸ ins (site names done) l (i.Serial (serials.Print z (value_count es))) ▸ end) a c) is
    (subst (λ z. Emits (λ done at. part (values (site names done) l es) ▸ ins (site names done) l (i.Serial (serials.Print text z))
    ▸ end) a c) counts
    (emits_put names (λ at. values at l es) l (i.Serial (serials.Print text count)) a b c e h))

pub emits_popped : (names : Numbered) (l : ℕ) (e : ResolvedExpressionTree) (a b c : Written)
    → EmitsValue names l e a b → Puts l (i.Serial serials.Pop) b c → EmitsRow names (λ at. popped at l e) a c
emits_popped names l e a b c h k = emits_put names (λ at. value at l e) l (i.Serial serials.Pop) a b c h k

-- another name for the tree
pub effect_is : (names : Numbered) (l : ℕ) (x y : ResolvedExpressionTree) (a c : Written) → x ≡ y
    → EmitsEffect names l x a c → EmitsEffect names l y a c
effect_is names l x y a c is e = subst (λ z. EmitsEffect names l z a c) is e

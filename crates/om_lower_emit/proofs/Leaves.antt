-- Rows without labels: an instruction, a part, and what follows it.
use Rattle.std.proofs.Common.{◌≡◌, ℕ, Bool, true, false, Some, None, length, ap, subst, arith}
use Rattle.om_code.specs.declared.instruction.AtomicOperator.{AtomicOperator}
use Rattle.om_code.specs.declared.instruction.Instr.{Instr}
use Rattle.om_code.specs.declared.instruction.Place.{Place}
use Rattle.om_code.specs.declared.instruction.Side.{Side}
use Rattle.om_code.specs.declared.instruction.Instr.TheVariants as i
use Rattle.om_code.specs.declared.instruction.Serial.TheVariants as serials
use Rattle.om_code.specs.declared.instruction.Function.TheVariants as calls
use Rattle.om_scope_tree.specs.ResolvedTree.{ResolvedExpressionTree}
use Rattle.om_lower_rules.specs.Expressions.{value}
use Rattle.om_lower_rules.specs.Statements.{last_instruction, returned}
use Rattle.om_lower_emit.specs.Drafts.{Written, moved, Puts}
use Rattle.om_lower_emit.specs.Emits.{Part, site, Emits}
use Rattle.om_lower_emit.specs.Writing.{goes_end, goes_less, goes_put, goes_part}
use Rattle.om_lower_rules.specs.Rows.{end, ins, part}
use Rattle.om_lower_rules.specs.Numbered.{Numbered}

pub emits_one : (names : Numbered) (l : ℕ) (x : Instr) (a b : Written) → Puts l x a b
    → Emits (λ done at. ins (site names done) l (moved at x) end) a b
emits_one names l x a b h = goes_put names _ l x (λ done at. end) a b b h (goes_end _ b)

pub emits_two : (names : Numbered) (l : ℕ) (x y : Instr) (a b c : Written) → Puts l x a b → Puts l y b c
    → Emits (λ done at. ins (site names done) l (moved at x) (ins (site names done) l (moved at y) end)) a c
emits_two names l x y a b c h j =
    goes_put names _ l x (λ done at. ins (site names done) l (moved at y) end) a b c h
    (goes_put names _ l y (λ done at. end) b c c j (goes_end _ c))

pub emits_then : (r s : Part) (a b c : Written) → Emits r a b → Emits s b c
    → Emits (λ done at. part (r done at) (s done at)) a c
emits_then r s a b c e g = goes_part _ r s a b c (omega arith) e (goes_less _ _ s b c e.keeps.more g)

pub emits_then_one : (names : Numbered) (l : ℕ) (x : Instr) (r : Part) (a b c : Written) → Emits r a b → Puts l x b c
    → Emits (λ done at. part (r done at) (ins (site names done) l (moved at x) end)) a c
emits_then_one names l x r a b c e h = emits_then r (λ done at. ins (site names done) l (moved at x) end) a b c e
    (emits_one names l x b c h)

pub emits_put_then : (names : Numbered) (l : ℕ) (x : Instr) (r : Part) (a b c : Written) → Puts l x a b → Emits r b c
    → Emits (λ done at. ins (site names done) l (moved at x) (r done at)) a c
emits_put_then names l x r a b c h e = goes_put names _ l x r a b c h
    (goes_less _ _ r b c (omega (arith, ap length h.places)) e)

-- ---- the ends of functions

pub returned_none : (names : Numbered) (l : ℕ) (is_main : Bool) (x : Instr) (a b : Written)
    → x ≡ last_instruction is_main false → Puts l x a b
    → Emits (λ done at. returned (site names done) l is_main None) a b
returned_none names l true x a b e h = emits_one names l (i.Function (calls.Finish false)) a b (subst (λ y. Puts l y a b) e h)
returned_none names l false x a b e h = emits_one names l (i.Function calls.ReturnNothing) a b (subst (λ y. Puts l y a b) e h)

pub returned_some : (names : Numbered) (l : ℕ) (is_main : Bool) (x : Instr) (e : ResolvedExpressionTree)
    (a b c : Written) → x ≡ last_instruction is_main true
    → Emits (λ done at. value (site names done) l e) a b → Puts l x b c
    → Emits (λ done at. returned (site names done) l is_main (Some e)) a c
returned_some names l true x e a b c is v h =
    emits_then_one names l (i.Function (calls.Finish true)) (λ done at. value (site names done) l e) a b c v
    (subst (λ y. Puts l y b c) is h)
returned_some names l false x e a b c is v h =
    emits_then_one names l (i.Function calls.Return) (λ done at. value (site names done) l e) a b c v (subst (λ y. Puts l y b c) is h)

-- the same instruction
pub atomic_is : (l : ℕ) (o o2 : AtomicOperator) (s s2 : Side) (p p2 : Place) (a b : Written) → o ≡ o2 → s ≡ s2 → p ≡ p2
    → Puts l (i.Serial (serials.Atomic o s p)) a b → Puts l (i.Serial (serials.Atomic o2 s2 p2)) a b
atomic_is l o o2 s s2 p p2 a b e1 e2 e3 h =
    subst (λ z. Puts l (i.Serial (serials.Atomic o2 s2 z)) a b) e3 (subst (λ z. Puts l (i.Serial (serials.Atomic o2 z p)) a b) e2
    (subst (λ z. Puts l (i.Serial (serials.Atomic z s p)) a b) e1 h))

pub atomic_element_is : (l : ℕ) (o o2 : AtomicOperator) (s s2 : Side) (p p2 : Place) (a b : Written) → o ≡ o2 → s
    ≡ s2 → p ≡ p2
    → Puts l (i.Serial (serials.AtomicElement o s p)) a b → Puts l (i.Serial (serials.AtomicElement o2 s2 p2)) a b
atomic_element_is l o o2 s s2 p p2 a b e1 e2 e3 h =
    subst (λ z. Puts l (i.Serial (serials.AtomicElement o2 s2 z)) a b) e3
    (subst (λ z. Puts l (i.Serial (serials.AtomicElement o2 z p)) a b) e2 (subst (λ z. Puts l (i.Serial (serials.AtomicElement z s p)) a b) e1 h))

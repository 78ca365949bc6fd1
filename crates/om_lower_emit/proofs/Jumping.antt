-- The code of expressions that jump, row by row.
use Rattle.std.proofs.Common.{ℕ, pos, List, [], ◌∷◌, length, arith}
use Rattle.om_code.specs.declared.instruction.Instr.{Instr}
use Rattle.om_code.specs.declared.instruction.Instr.TheVariants as i
use Rattle.om_code.specs.declared.instruction.Serial.TheVariants as serials
use Rattle.om_lower_emit.specs.Drafts.{Written, Puts, PutsAll, Fresh, Defines}
use Rattle.om_lower_emit.specs.Emits.{Part, site, Goes, EmitsRow, EmitsValue}
use Rattle.om_lower_emit.specs.Rests.{binary_rest, truth_row}
use Rattle.om_lower_emit.specs.Writing.{all_ins, goes_end, goes_put, goes_put_all, goes_part, goes_here, goes_fresh}
use Rattle.om_lower_emit.specs.Writing.{goes_less, goes_as, fresh_length, put_all_length, put_length, define_length}
use Rattle.om_scope_tree.specs.ResolvedTree.{ResolvedExpressionTree, Conditional}
use Rattle.om_lower_rules.specs.Expressions.{value}
use Rattle.om_lower_rules.specs.Operators.{Both, Either}
use Rattle.om_lower_rules.specs.Rows.{end, ins, part, here, ◌▸◌}
use Rattle.om_lower_rules.specs.Numbered.{Numbered}

-- behind the left operand of `a && b`
pub emits_both : (names : Numbered) (l : ℕ) (y : ResolvedExpressionTree) (f e : ℕ) (s0 s1 s2 s3 s4 s5 : Written)
    → Fresh f s0 s1 → Fresh e s1 s2 → Puts l (i.Serial (serials.JumpIfZero f)) s2 s3 → EmitsValue names l y s3 s4
    → Goes f (λ done at. truth_row (site names done) l (at f) (at e)) s4 s5
    → EmitsRow names (λ at. binary_rest at l Both y) s0 s5
emits_both names l y f e s0 s1 s2 s3 s4 s5 h1 h2 h3 h4 h5 =
    let n = length s0.places in
    let n1 = fresh_length f s0 s1 h1 in
    let n2 = fresh_length e s1 s2 h2 in
    let n3 = put_length l _ s2 s3 h3 in
    let r3 : Part = λ done at. truth_row (site names done) l (at f) (at e) in
    let r2 : Part = λ done at. part (value (site names done) l y) ▸ r3 done at in
    let r1 : Part = λ done at. ins (site names done) l (i.Serial (serials.JumpIfZero (at f))) ▸ r2 done at in
    goes_as n r1 _ s0 s5 (λ done at p q r. (at f, at e, r))
    (goes_fresh n f r1 s0 s1 s5 (omega arith) h1
    (goes_fresh n e r1 s1 s2 s5 (omega arith) h2
    (goes_put names n l (i.Serial (serials.JumpIfZero f)) r2 s2 s3 s5 h3
    (goes_part n (λ done at. value (site names done) l y) r3 s3 s4 s5 (omega arith) h4
    (goes_less n f r3 s4 s5 (omega (arith, h1.is)) h5)))))

-- behind the left operand of `a || b`
pub emits_either : (names : Numbered) (l : ℕ) (y : ResolvedExpressionTree) (k f e : ℕ)
    (s0 s1 s2 s3 s4 s5 s6 s7 : Written)
    → Fresh k s0 s1 → Fresh f s1 s2 → Fresh e s2 s3
    → PutsAll l (i.Serial (serials.JumpIfZero k) ∷ i.Serial (serials.Constant (pos 1)) ∷ i.Serial (serials.Jump e) ∷ []) s3 s4 → Defines k s4 s5
    → EmitsValue names l y s5 s6 → Goes f (λ done at. truth_row (site names done) l (at f) (at e)) s6 s7
    → EmitsRow names (λ at. binary_rest at l Either y) s0 s7
emits_either names l y k f e s0 s1 s2 s3 s4 s5 s6 s7 h1 h2 h3 h4 h5 h6 h7 =
    let n = length s0.places in
    let n1 = fresh_length k s0 s1 h1 in
    let n2 = fresh_length f s1 s2 h2 in
    let n3 = fresh_length e s2 s3 h3 in
    let n4 = put_all_length l _ s3 s4 h4 in
    let n5 = define_length k s4 s5 h5 in
    let left : List Instr = i.Serial (serials.JumpIfZero k) ∷ i.Serial (serials.Constant (pos 1)) ∷ i.Serial (serials.Jump e) ∷ [] in
    let r4 : Part = λ done at. truth_row (site names done) l (at f) (at e) in
    let r3 : Part = λ done at. part (value (site names done) l y) ▸ r4 done at in
    let r2 : Part = λ done at. here (at k) ▸ r3 done at in
    let r1 : Part = λ done at. all_ins (site names done) at l left (r2 done at) in
    goes_as n r1 _ s0 s7 (λ done at p q r. (at k, at f, at e, r))
    (goes_fresh n k r1 s0 s1 s7 (omega arith) h1
    (goes_fresh n f r1 s1 s2 s7 (omega arith) h2
    (goes_fresh n e r1 s2 s3 s7 (omega arith) h3
    (goes_put_all names n l left r2 s3 s4 s7 h4
    (goes_here n k r3 s4 s5 s7 (omega (arith, h1.is)) h5
    (goes_part n (λ done at. value (site names done) l y) r4 s5 s6 s7 (omega arith) h6
    (goes_less n f r4 s6 s7 (omega (arith, h2.is)) h7)))))))

-- `c ? a : b`
pub emits_conditional : (names : Numbered) (l : ℕ) (x y z : ResolvedExpressionTree) (f e : ℕ)
    (s0 s1 s2 s3 s4 s5 s6 s7 s8 s9 : Written)
    → Fresh f s0 s1 → Fresh e s1 s2 → EmitsValue names l x s2 s3 → Puts l (i.Serial (serials.JumpIfZero f)) s3 s4
    → EmitsValue names l y s4 s5 → Puts l (i.Serial (serials.Jump e)) s5 s6 → Defines f s6 s7 → EmitsValue names l z s7 s8
    → Defines e s8 s9
    → EmitsValue names l (Conditional x y z) s0 s9
emits_conditional names l x y z f e s0 s1 s2 s3 s4 s5 s6 s7 s8 s9
    h1 h2 h3 h4 h5 h6 h7 h8 h9 =
    let n = length s0.places in
    let n1 = fresh_length f s0 s1 h1 in
    let n2 = fresh_length e s1 s2 h2 in
    let n3 = h3.keeps.more in
    let n4 = put_length l _ s3 s4 h4 in
    let n5 = h5.keeps.more in
    let n6 = put_length l _ s5 s6 h6 in
    let n7 = define_length f s6 s7 h7 in
    let r7 : Part = λ done at. here (at e) ▸ end in
    let r6 : Part = λ done at. part (value (site names done) l z) ▸ r7 done at in
    let r5 : Part = λ done at. here (at f) ▸ r6 done at in
    let r4 : Part = λ done at. ins (site names done) l (i.Serial (serials.Jump (at e))) ▸ r5 done at in
    let r3 : Part = λ done at. part (value (site names done) l y) ▸ r4 done at in
    let r2 : Part = λ done at. ins (site names done) l (i.Serial (serials.JumpIfZero (at f))) ▸ r3 done at in
    let r1 : Part = λ done at. part (value (site names done) l x) ▸ r2 done at in
    goes_as n r1 _ s0 s9 (λ done at p q r. (at f, at e, r))
    (goes_fresh n f r1 s0 s1 s9 (omega arith) h1
    (goes_fresh n e r1 s1 s2 s9 (omega arith) h2
    (goes_part n (λ done at. value (site names done) l x) r2 s2 s3 s9 (omega arith) h3
    (goes_put names n l (i.Serial (serials.JumpIfZero f)) r3 s3 s4 s9 h4
    (goes_part n (λ done at. value (site names done) l y) r4 s4 s5 s9 (omega arith) h5
    (goes_put names n l (i.Serial (serials.Jump e)) r5 s5 s6 s9 h6
    (goes_here n f r6 s6 s7 s9 (omega (arith, h1.is)) h7
    (goes_part n (λ done at. value (site names done) l z) r7 s7 s8 s9 (omega arith) h8
    (goes_here n e (λ done at. end) s8 s9 s9 (omega (arith, h2.is)) h9
    (goes_end n s9))))))))))

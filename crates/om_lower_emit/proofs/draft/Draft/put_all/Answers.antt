use Rattle.std.proofs.Common.{ℕ, zero, suc, ◌+◌, ◌<◌, length, List, [], ◌∷◌, ◌++◌, map, get_or, take, refl, sym, ap, subst, ◌∙◌, arith}
use Rattle.std.proofs.lemmas.List.{append_assoc, append-nil, map_more, take_all}
use Rattle.om_code.specs.declared.instruction.Instr.{Instr}
use Rattle.om_lower_emit.specs.Drafts.{HasNoTarget, HaveNoTarget, Puts, PutsAll, Written, line_of}
use Rattle.om_lower_emit.proofs.draft.Draft.put_all.Goals as goal

-- one instruction more
puts_next : (l : ℕ) (xs : List Instr) (k : ℕ) (x : Instr) (a b c : Written) → k < length xs
    → PutsAll l (take k xs) a b → Puts l (get_or xs k x) b c → PutsAll l (take (k + 1) xs) a c
puts_next l xs k x a b c lt all one = record {
  code = one.code ∙ ap (λ code. code ++ line_of l (get_or xs k x) ∷ []) all.code
      ∙ append_assoc a.code (map (line_of l) (take k xs)) (line_of l (get_or xs k x) ∷ [])
      ∙ ap (λ more. a.code ++ more) (sym (map_more (line_of l) xs k x lt));
  places = one.places ∙ all.places;
  picks = one.picks ∙ all.picks;
}

have_at : (xs : List Instr) (k : ℕ) (x : Instr) → k < length xs → HaveNoTarget xs → HasNoTarget (get_or xs k x)
have_at [] k x lt h = absurd (omega arith)
have_at (y ∷ xs) zero x lt h = h.0
have_at (y ∷ xs) (suc k) x lt h = have_at xs k x (omega arith) h.1

pub loop-instruction-init : goal.loop-instruction-init
loop-instruction-init c = record { code = sym (append-nil _); places = refl; picks = refl }

pub loop-instruction-preserved : goal.loop-instruction-preserved
loop-instruction-preserved c =
    puts_next c.args.line c.args.instructions.now c.loop-instruction.instruction-index _ _ _ _
    c.loop-instruction-test.true c.loop-instruction.invariant c.in_ok-put.ensures

pub returns : goal.returns
returns c =
    subst (λ xs. PutsAll c.args.line xs c.args.self.now c.loop-instruction.self)
    (take_all c.loop-instruction.instruction-index c.args.instructions.now c.loop-instruction-test.false)
    c.loop-instruction.invariant

pub put-requires : goal.put-requires
put-requires c =
    have_at c.args.instructions.now c.loop-instruction.instruction-index _ c.loop-instruction-test.true c.requires

-- What stands before the statement of a worksharing construct: labels that are placed later.
use Rattle.std.proofs.Common.{◌≡◌, ℕ, ◌+◌, List, Some, length, sym, subst, arith}
use Rattle.om_code.specs.declared.instruction.Instr.TheVariants as i
use Rattle.om_code.specs.declared.instruction.Sharing.TheVariants as sharings
use Rattle.om_code.specs.declared.instruction.Comparison.{Comparison}
use Rattle.om_lower_emit.specs.declared.spot.LoopLabels.{LoopLabels}
use Rattle.om_lower_emit.specs.Going.{free_emits}
use Rattle.om_lower_emit.specs.Stretches.{Parts, Begins, bounds_row, sections_begin, worksharing_begin}
use Rattle.om_lower_emit.specs.Drafts.{Labels, Written, Puts, Fresh, Defines}
use Rattle.om_lower_emit.specs.Emits.{Finished, site, Emits}
use Rattle.om_lower_emit.specs.Writing.{free_define, free_new, free_put, fresh_length, goes_as}
use Rattle.om_lower_emit.specs.Writing.{goes_end, goes_fresh, goes_here, goes_part, goes_put}
use Rattle.om_scope_tree.specs.ResolvedTree.{ResolvedClauseTree, ResolvedLoopTree}
use Rattle.om_lower_rules.specs.Operators.{comparison_of, form_with}
use Rattle.om_lower_rules.specs.Rows.{end, ins, part, here, ◌▸◌}
use Rattle.om_lower_rules.specs.Slots.{slot}
use Rattle.om_lower_rules.specs.Statements.{starts}
use Rattle.om_lower_rules.specs.Numbered.{Numbered}

pub begins_sections : (names : Numbered) (l : ℕ) (clauses : List ResolvedClauseTree) (sections : Parts)
    (labels : LoopLabels) (a b c d e f g h : Written)
    → Fresh labels.again a b → Fresh labels.over b c → Emits (λ done at. starts (site names done) l clauses) c d
    → Puts l (i.Sharing (sharings.Sections sections.count)) d e
    → Defines labels.again e f → Puts l (i.Sharing (sharings.Grab labels.over)) f g → Puts l (i.Sharing (sharings.Pick sections.number)) g h
    → Begins labels.over (sections_begin names l clauses sections labels) a h
begins_sections names l clauses sections labels a b c d e f g h s1 s2 s3 s4 s5 s6 s7 =
    let n = length a.places in
    let l1 = fresh_length labels.again a b s1 in
    let l2 = fresh_length labels.over b c s2 in
    record {
      goes = goes_fresh n labels.again _ a b h (omega arith) s1 (goes_fresh n labels.over _ b c h (omega (arith, l1)) s2
          (goes_part n (λ done at. starts (site names done) l clauses) (λ done at. ins (site names done) l
          (i.Sharing (sharings.Sections sections.count)) ▸ here (at labels.again)
          ▸ ins (site names done) l (i.Sharing (sharings.Grab (at labels.over))) ▸ ins (site names done) l (i.Sharing (sharings.Pick sections.number)) ▸
          end) c d h (omega (arith, l1, l2)) s3
          (goes_put names n l (i.Sharing (sharings.Sections sections.count)) (λ done at. here (at labels.again)
          ▸ ins (site names done) l (i.Sharing (sharings.Grab (at labels.over))) ▸ ins (site names done) l (i.Sharing (sharings.Pick sections.number)) ▸
          end) d e h s4
          (goes_here n labels.again (λ done at. ins (site names done) l (i.Sharing (sharings.Grab (at labels.over))) ▸ ins
          (site names done) l (i.Sharing (sharings.Pick sections.number)) ▸ end) e f h (omega (arith, s1.is)) s5
          (goes_put names n l (i.Sharing (sharings.Grab labels.over)) (λ done at. ins (site names done) l (i.Sharing (sharings.Pick sections.number)) ▸
          end) f g h s6
          (goes_put names n l (i.Sharing (sharings.Pick sections.number)) (λ done at. end) g h h s7 (goes_end n h)))))));
      above = omega (arith, s2.is, l1);
      free = free_put labels.over l (i.Sharing (sharings.Pick sections.number)) g h s7 (free_put labels.over l (i.Sharing (sharings.Grab labels.over)) f g s6
          (free_define labels.over labels.again e f (λ q. omega (arith, q, s1.is, s2.is, l1)) s5
          (free_put labels.over l (i.Sharing (sharings.Sections sections.count)) d e s4
          (free_emits labels.over (λ done at. starts (site names done) l clauses) c d
          (free_new labels.over b c s2) s3))));
    }

pub begins_worksharing : (names : Numbered) (l : ℕ) (clauses : List ResolvedClauseTree) (loop : ResolvedLoopTree)
    (comparison : Comparison) (slot_number chunk : ℕ) (labels : LoopLabels)
    → (a b c d e f g h j k : Written)
    → comparison_of loop.comparison ≡ Some comparison → ((done : Finished) → slot (site names done) loop.variable
    ≡ slot_number)
    → Fresh chunk a b → Fresh labels.again b c → Fresh labels.over c d
    → Emits (λ done at. bounds_row l clauses loop (site names done)) d e
    → Puts l (i.Sharing (sharings.Loop (form_with loop comparison))) e f → Defines chunk f g → Puts l (i.Sharing (sharings.Grab labels.over)) g h
    → Defines labels.again h j
    → Puts l (i.Sharing (sharings.Iterate slot_number chunk)) j k
    → Begins labels.over (worksharing_begin names l clauses loop labels) a k
begins_worksharing names l clauses loop comparison slot_number chunk labels a b c d e f g h j k is same s1 s2 s3 s4
    s5 s6 s7 s8 s9 =
    record {
      goes = goes_as n (λ done at. part (bounds_row l clauses loop (site names done)) ▸ ins (site names done) l
          (i.Sharing (sharings.Loop (form_with loop comparison)))
          ▸ here (at chunk) ▸ ins (site names done) l (i.Sharing (sharings.Grab (at labels.over)))
          ▸ here (at labels.again) ▸ ins (site names done) l (i.Sharing (sharings.Iterate slot_number (at chunk))) ▸ end) _ a k named
          (goes_fresh n chunk _ a b k (omega arith) s1 (goes_fresh n labels.again _ b c k (omega (arith, l1)) s2
          (goes_fresh n labels.over _ c d k (omega (arith, l1, l2)) s3
          (goes_part n (λ done at. bounds_row l clauses loop (site names done)) _ d e k (omega (arith, l1, l2, l3)) s4
          (goes_put names n l (i.Sharing (sharings.Loop (form_with loop comparison))) _ e f k s5
          (goes_here n chunk _ f g k (omega (arith, s1.is)) s6
          (goes_put names n l (i.Sharing (sharings.Grab labels.over)) _ g h k s7
          (goes_here n labels.again _ h j k (omega (arith, s2.is, l1)) s8
          (goes_put names n l (i.Sharing (sharings.Iterate slot_number chunk)) (λ done at. end) j k k s9 (goes_end n k))))))))));
      above = omega (arith, s3.is, l1, l2);
      free = free_put labels.over l (i.Sharing (sharings.Iterate slot_number chunk)) j k s9 (free_define labels.over labels.again h j
          (λ q. omega (arith, q, s2.is, s3.is, l1, l2)) s8 (free_put labels.over l (i.Sharing (sharings.Grab labels.over)) g h s7
          (free_define labels.over chunk f g (λ q. omega (arith, q, s1.is, s3.is, l1, l2)) s6
          (free_put labels.over l (i.Sharing (sharings.Loop (form_with loop comparison))) e f s5
          (free_emits labels.over (λ done at. bounds_row l clauses loop (site names done)) d e
          (free_new labels.over c d s3) s4)))));
    }
  where
    n : ℕ
    n = length a.places

    l1 : length b.places ≡ length a.places + 1
    l1 = fresh_length chunk a b s1

    l2 : length c.places ≡ length b.places + 1
    l2 = fresh_length labels.again b c s2

    l3 : length d.places ≡ length c.places + 1
    l3 = fresh_length labels.over c d s3

    named : (done : Finished) (at : Labels) (p q : ℕ)
        → (part (bounds_row l clauses loop (site names done)) ▸ ins (site names done) l
        (i.Sharing (sharings.Loop (form_with loop comparison)))
        ▸ here (at chunk) ▸ ins (site names done) l (i.Sharing (sharings.Grab (at labels.over)))
        ▸ here (at labels.again) ▸ ins (site names done) l (i.Sharing (sharings.Iterate slot_number (at chunk))) ▸ end) p q
        → worksharing_begin names l clauses loop labels done at p q
    named done at p q r = (
      chunk,
      rw is (subst (λ x. (part (bounds_row l clauses loop (site names done)) ▸ ins (site names done) l
          (i.Sharing (sharings.Loop (form_with loop comparison)))
          ▸ here (at chunk) ▸ ins (site names done) l (i.Sharing (sharings.Grab (at labels.over)))
          ▸ here (at labels.again) ▸ ins (site names done) l (i.Sharing (sharings.Iterate x (at chunk))) ▸ end) p q) (sym (same done)) r),
    )

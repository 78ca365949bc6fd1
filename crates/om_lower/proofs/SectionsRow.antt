-- A `sections`: its begin, its parts, and its end.
use Rattle.std.proofs.Common.{◌≡◌, ℕ, zero, suc, ◌+◌, List, [], ◌∷◌, Some, Bool, length, map}
use Rattle.std.proofs.Common.{refl, sym, ap, ◌∙◌, subst, arith}
use Rattle.std.specs.Prelude.{slice_get}
use Rattle.std.proofs.lemmas.List.{length-map}
use Rattle.om_code.specs.declared.instruction.Instr.TheVariants as i
use Rattle.om_code.specs.declared.instruction.Sharing.TheVariants as sharings
use Rattle.om_lower_emit.specs.Drafts.{Labels, Written, Defines, labels_from}
use Rattle.om_lower_emit.specs.Emits.{Finished, Goes, site, Emits}
use Rattle.om_lexer.specs.declared.token.Span.{Span}
use Rattle.om_scope_tree.specs.declared.resolved.ResolvedPart.{ResolvedPart}
use Rattle.om_scope_tree.specs.ResolvedTree as trees
use Rattle.om_scope_tree.specs.ResolvedTree.{ResolvedClauseTree, ResolvedPartsTree, Sections}
use Rattle.om_scope_tree.specs.ResolvedView as view
use Rattle.om_lower_rules.specs.Bodies.{Numbers, next_pick}
use Rattle.om_lower_rules.specs.Rows.{end, here, part}
use Rattle.om_lower_rules.specs.Statements.{closes, parts}
use Rattle.om_lower.specs.declared.worksharing.PartsSpot.{PartsSpot}
use Rattle.om_lower_emit.specs.declared.spot.JumpLabels.{JumpLabels}
use Rattle.om_lower_emit.specs.Statements.{EmitsStatement, GoesWith}
use Rattle.om_lower.specs.Parts.{EmitsParts, GoesParts, OpensParts, PartHead, head_row}
use Rattle.om_lower.specs.Parts.{part_labels}
use Rattle.om_lower_emit.specs.Going.{goes_place, goes_then, then_with, with_as, with_behind}
use Rattle.om_lower_rules.specs.Numbered.{Numbered}
use Rattle.om_lower_rules.specs.Numbering.{numbers_of}
use Rattle.om_lower_rules.specs.Picks.{parts_own_picks}

labels_length : (first count : ℕ) → length (labels_from first count) ≡ count
labels_length first zero = refl
labels_length first (suc count) = ap suc (labels_length (first + 1) count)

-- as many labels as there are parts are those of the parts
pub labels_are : (first : ℕ) (xs : List ResolvedPart)
    → labels_from first (length xs) ≡ part_labels first (trees.parts (map view.part xs))
labels_are first [] = refl
labels_are first (x ∷ xs) = ap (λ z. first ∷ z) (labels_are (first + 1) xs)

pub emits_sections : (names : Numbered) (n : Numbers) (first : Span) (clauses : List ResolvedClauseTree)
    (nowait : Bool) (all : ResolvedPartsTree) (jumps : JumpLabels) (count : ℕ)
    → (spot : PartsSpot) (a b c d e : Written)
    → labels_from spot.first count ≡ part_labels spot.first all
    → OpensParts names (record { line = first.line; numbers = n; clauses = clauses; count = count }) spot a b
    → EmitsParts names (numbers_of spot.numbers) all spot b c → Defines spot.over c d
    → Emits (λ done at. closes (site names done) first.line clauses nowait) d e
    → EmitsStatement names n (Sections first clauses nowait all) jumps a e
emits_sections names n first clauses nowait all jumps count spot a b c d e labels h1 h2 h3 h4 =
    with_as k _ (λ done at. part (head_row names head spot done at) (part (written done at)
    (part (here (at spot.over) end) (closes (site names done) first.line clauses nowait)))) _ a e
    (λ done at p q r.
    let b = r.1.1 in
    let y = r.2.2 in (
      map at (labels_from spot.first count),
      at spot.again,
      at spot.over,
      r.1.0,
      (
        b.0,
        b.1,
        (
          subst (λ z. slice_get done.code b.0 ≡ Some (record { instruction = i.Sharing (sharings.Sections z); line = first.line }))
              (sym (counted at)) b.2.0,
          (
            b.2.1.0,
            (
              b.2.1.1.0,
              (
                b.2.1.1.1.0,
                (
                  r.2.0,
                  subst (λ z. written done at z r.2.0) (sym b.2.1.1.1.1) r.2.1,
                  (
                    y.1.0,
                    subst (λ z. closes (site names done) first.line clauses nowait z q) (sym y.1.1) y.2,
                  ),
                ),
              ),
            ),
          ),
        ),
      ),
    ))
    (then_with k k k (n.picks ∷ []) (parts_own_picks (next_pick n) all) _ _ a b e (omega arith) (omega arith) h1.goes
    (with_behind k spot.first k (parts_own_picks (next_pick n) all) written _ b c e
    (omega (arith, h1.above, h1.below)) (omega arith) body
    (goes_then k spot.over (length d.places) _ _ c d e h1.above
    (omega (arith, h1.goes.more, h2.more, placed.keeps.more)) placed h4)))
  where
    k : ℕ
    k = length a.places

    head : PartHead
    head = record { line = first.line; numbers = n; clauses = clauses; count = count }

    counted : (at : Labels) → length (map at (labels_from spot.first count)) ≡ count
    counted at = length-map (labels_from spot.first count) at ∙ labels_length spot.first count

    written : Finished → Labels → ℕ → ℕ → Type 0
    written done at = parts (site names done) (next_pick n) first.line (at spot.again) all
        (map at (labels_from spot.first count))

    body : GoesWith spot.first (parts_own_picks (next_pick n) all) written b c
    body =
        let one = subst (λ m. GoesParts spot.first names m all spot spot.first b c) h1.numbers h2 in
        let two = subst (λ l. GoesWith spot.first (parts_own_picks (next_pick n) all)
        (λ done at. parts (site names done) (next_pick n) l (at spot.again) all
        (map at (part_labels spot.first all))) b c) h1.line one in
        subst (λ ls. GoesWith spot.first (parts_own_picks (next_pick n) all)
        (λ done at. parts (site names done) (next_pick n) first.line (at spot.again) all (map at ls)) b c)
        (sym labels) two

    placed : Goes spot.over (λ done at. here (at spot.over) end) c d
    placed = goes_place spot.over c d h3

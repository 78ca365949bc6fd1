-- The parts of a `sections`, one behind the other.
use Rattle.std.proofs.Common.{◌≡◌, refl, ℕ, suc, ◌+◌, ◌<◌, ◌≤◌, List, ◌∷◌, None, Some, map, get_or, drop, drop-cons}
use Rattle.std.proofs.Common.{add-one, length, sym, ap, ◌∙◌, subst, arith}
use Rattle.std.specs.Prelude.{slice_get}
use Rattle.om_code.specs.declared.instruction.Instr.TheVariants as i
use Rattle.om_code.specs.declared.instruction.Serial.TheVariants as serials
use Rattle.om_lower_emit.specs.Drafts.{Labels, Written, Defines, Puts}
use Rattle.om_lower_emit.specs.Emits.{Finished, Goes, site}
use Rattle.om_lower_emit.specs.Writing.{free_define, goes_end, goes_put}
use Rattle.om_scope_tree.specs.declared.resolved.ResolvedClause.{ResolvedClause}
use Rattle.om_scope_tree.specs.declared.resolved.ResolvedStatement.{ResolvedStatement}
use Rattle.om_scope_tree.specs.declared.resolved.ResolvedPart.{ResolvedPart, out-ResolvedPart, fold_out-ResolvedPart}
use Rattle.om_scope_tree.specs.ResolvedTree as trees
use Rattle.om_scope_tree.specs.ResolvedTree.{ResolvedPartsTree, ResolvedStatementTree, ResolvedStatementsTree, NoParts}
use Rattle.om_scope_tree.specs.ResolvedTree.{Part}
use Rattle.om_scope_tree.specs.ResolvedView.{part_layer, statement_layer}
use Rattle.om_scope_tree.specs.ResolvedView as view
use Rattle.om_lower_rules.specs.Bodies.{Numbers, behind_all, behind_parts}
use Rattle.om_lower_rules.specs.Coded.{PartsHaveCode}
use Rattle.om_lower_rules.specs.Rows.{end, here, ins, part}
use Rattle.om_lower_rules.specs.Statements.{nowhere, parts, statements}
use Rattle.om_lower.specs.declared.worksharing.PartsSpot.{PartsSpot}
use Rattle.om_lower_emit.specs.declared.spot.JumpLabels.{JumpLabels}
use Rattle.om_lower_emit.specs.declared.spot.Spot.{Spot}
use Rattle.om_lower_emit.specs.Statements.{EmitsStatements}
use Rattle.om_lower.specs.Parts.{AreFree, EmitsParts, GoesParts, OpensParts, part_head, part_labels}
use Rattle.om_lower_emit.specs.Going.{before_with, free_with, free_within, goes_place, then_with, with_as, with_none}
use Rattle.om_lower_rules.specs.declared.tables.Numbers as tables
use Rattle.om_lower_rules.specs.Numbered.{Numbered}
use Rattle.om_lower_rules.specs.Numbering.{numbers_of}
use Rattle.om_lower_rules.specs.Picks.{all_own_picks, parts_own_picks}

abbrev no_jumps : JumpLabels
no_jumps = record { over = None; next = None }

-- a part and what comes behind it
part_then : (names : Numbered) (n : Numbers) (spot : PartsSpot) (items : ResolvedStatementsTree)
    (rest : ResolvedPartsTree) (k label : ℕ) (a b c d e : Written)
    → k ≤ label → slice_get a.places label ≡ Some None → Defines label a b → EmitsStatements names n items no_jumps
    b c → Puts spot.line (i.Serial (serials.Jump spot.again)) c d
    → GoesParts k names (behind_all n items) rest spot (label + 1) d e
    → GoesParts k names n (Part items rest) spot label a e
part_then names n spot items rest k label a b c d e le free h1 h2 h3 h4 =
    with_as k (parts_own_picks n (Part items rest)) (λ done at. part (here (at label) end)
    (part (statements (site names done) n items nowhere)
    (part (ins (site names done) spot.line (i.Serial (serials.Jump (at spot.again))) end) (behind done at)))) _ a e
    (λ done at p q r.
    let y = r.2.2 in (
      r.1.0,
      (
        r.2.0,
        subst (λ z. statements (site names done) n items nowhere z r.2.0) (sym r.1.1) r.2.1,
        (y.1.0, subst (λ z. behind done at z q) (sym y.1.1) y.2),
      ),
    ))
    (before_with k label k (parts_own_picks n (Part items rest)) _ _ a b e le (omega arith) placed
    (then_with k (length b.places) k (all_own_picks n items) (parts_own_picks (behind_all n items) rest) _ _ b c e
    (omega (arith, free_within label a free, le, placed.keeps.more)) (omega arith) h2
    (before_with k k k (parts_own_picks (behind_all n items) rest) _ behind c d e (omega arith) (omega arith)
    (goes_put names k spot.line (i.Serial (serials.Jump spot.again)) (λ done at. end) c d d h3 (goes_end k d)) h4)))
  where
    behind : Finished → Labels → ℕ → ℕ → Type 0
    behind done at = parts (site names done) (behind_all n items) spot.line (at spot.again) rest
        (map at (part_labels (label + 1) rest))

    placed : Goes label (λ done at. here (at label) end) a b
    placed = goes_place label a b h1

-- whoever writes the parts that are left has written all
unfoldable pub OnwardParts : Numbered → PartsSpot → (first now : Numbers) → (all left : ResolvedPartsTree)
    → (label : ℕ) → (begun so_far : Written) → Type 0
OnwardParts names spot first now all left label begun so_far = (c : Written)
    → GoesParts spot.first names now left spot label so_far c → GoesParts spot.first names first all spot spot.first
    begun c

pub onward_parts_begin : (names : Numbered) (spot : PartsSpot) (n : Numbers) (all : ResolvedPartsTree) (label : ℕ)
    (a : Written)
    → label ≡ spot.first → OnwardParts names spot n n all all label a a
unfolding OnwardParts
onward_parts_begin names spot n all label a is c g = subst (λ l. GoesParts spot.first names n all spot l a c) is g

onward_parts_next : (names : Numbered) (spot : PartsSpot) (first now after : Numbers) (all rest : ResolvedPartsTree)
    (items : ResolvedStatementsTree) (label next : ℕ) (begun a b c d : Written)
    → after ≡ behind_all now items → next ≡ label + 1 → spot.first ≤ label → slice_get a.places label ≡ Some None
    → OnwardParts names spot first now all (Part items rest) label begun a
    → Defines label a b → EmitsStatements names now items no_jumps b c → Puts spot.line (i.Serial (serials.Jump spot.again)) c d
    → OnwardParts names spot first after all rest next begun d
unfolding OnwardParts
onward_parts_next names spot first now after all rest items label next begun a b c d is one le free g h1 h2 h3 e h4 =
    g e (part_then names now spot items rest spot.first label a b c d e le free h1 h2 h3
    (subst (λ l. GoesParts spot.first names (behind_all now items) rest spot l d e) one
    (subst (λ m. GoesParts spot.first names m rest spot next d e) is h4)))

onward_parts_end : (names : Numbered) (spot : PartsSpot) (first now : Numbers) (all : ResolvedPartsTree) (label : ℕ)
    (begun a : Written)
    → OnwardParts names spot first now all NoParts label begun a → EmitsParts names first all spot begun a
unfolding OnwardParts
onward_parts_end names spot first now all label begun a g = g a (with_none spot.first (λ done at. end) a a
    (goes_end spot.first a))

-- ---- in the loop

-- what is left begins with the part that is met
pub left_part : (items : List ResolvedPart) (k : ℕ) (x : ResolvedPart) → k < length items → x ≡ get_or items k x
    → trees.parts (map view.part (drop k items))
    ≡ Part (trees.statements (map view.statement (out-ResolvedPart x).items.items))
    (trees.parts (map view.part (drop (k + 1) items)))
left_part items k x lt is =
    ap (λ xs. trees.parts (map view.part xs))
    (drop-cons items k x lt ∙ ap (λ y. y ∷ drop (suc k) items) (sym is) ∙ ap (λ j. x ∷ drop j items) (sym (add-one k)))
    ∙ ap (λ seen. Part seen (trees.parts (map view.part (drop (k + 1) items))))
    (fold_out-ResolvedPart ResolvedStatementTree ResolvedStatementsTree statement_layer part_layer x)

-- one part fewer is left
pub left_count : (items : List ResolvedPart) (k : ℕ) (x : ResolvedPart) → k < length items → length (drop k items)
    ≡ suc (length (drop (k + 1) items))
left_count items k x lt = ap length (drop-cons items k x lt) ∙ ap (λ j. suc (length (drop j items))) (sym (add-one k))

-- before the first part
pub free_start : (first left : ℕ) (d : Written) → AreFree first left d → AreFree (first + 0) left d
free_start first left d free k lt = ap (λ l. slice_get d.places l) (let e : first + 0 + k ≡ first + k = omega
    arith in e) ∙ free k lt

-- the label of the first part that is left is free, and those of the others
pub free_first : (first left label : ℕ) (d : Written) → label ≡ first → 0 < left → AreFree first left d
    → slice_get d.places label ≡ Some None
free_first first left label d is some free =
    ap (λ l. slice_get d.places l) (let e : label ≡ first + 0 = omega (arith, is) in e) ∙ free 0 some

-- they stay free while a part is written
free_next : (names : Numbered) (n : Numbers) (items : ResolvedStatementsTree) (spot : PartsSpot)
    (first left label next : ℕ) (a b c d : Written)
    → label ≡ first → next ≡ first + 1 → AreFree first (suc left) a
    → Defines label a b → EmitsStatements names n items no_jumps b c → Puts spot.line (i.Serial (serials.Jump spot.again)) c d
    → AreFree next left d
free_next names n items spot first left label next a b c d is one free h1 h2 h3 k lt =
    let same : next + k ≡ first + suc k = omega (arith, one) in
    let old : slice_get a.places (next + k) ≡ Some None = ap (λ l. slice_get a.places l) same
    ∙ free (suc k) (omega arith) in
    ap (λ s. slice_get s (next + k)) h3.places
    ∙ free_with (next + k) (all_own_picks n items) (λ done at. statements (site names done) n items nowhere) b c
    (free_define (next + k) label a b (λ e. omega (arith, e, is, one)) h1 old) h2

-- what is left has code, its numbers lead to those behind all, its labels are free, and whoever writes it has
-- written all
pub parts_next : (names : Numbered) (spot : PartsSpot) (first now after : Numbers) (all left rest : ResolvedPartsTree)
    (items : ResolvedStatementsTree)
    → (label next count : ℕ) (begun a b c d : Written)
    → left ≡ Part items rest → after ≡ behind_all now items → next ≡ label + 1 → spot.first ≤ label → Defines label a b
    → EmitsStatements names now items no_jumps b c → Puts spot.line (i.Serial (serials.Jump spot.again)) c d
    → PartsHaveCode left → behind_parts now left ≡ behind_parts first all → AreFree label (suc count) a
    → OnwardParts names spot first now all left label begun a
    → PartsHaveCode rest × (behind_parts after rest ≡ behind_parts first all) × AreFree next count d
    × OnwardParts names spot first after all rest next begun d
parts_next names spot first now after all left rest items label next count begun a b c d here is one le h1 h2 h3
    code numbers free onward =
    let code2 : PartsHaveCode (Part items rest) = subst (λ z. PartsHaveCode z) here code in
    let numbers2 : behind_parts (behind_all now items) rest ≡ behind_parts first all = subst
    (λ z. behind_parts now z ≡ behind_parts first all) here numbers in (
      code2.1,
      ap (λ m. behind_parts m rest) is ∙ numbers2,
      free_next names now items spot label count label next a b c d refl one free h1 h2 h3,
      onward_parts_next names spot first now after all rest items label next begun a b c d is one le
          (free_first label (suc count) label a refl (omega arith) free)
          (subst (λ z. OnwardParts names spot first now all z label begun a) here onward) h1 h2 h3,
    )

pub onward_parts_done : (names : Numbered) (spot : PartsSpot) (first now : Numbers) (all left : ResolvedPartsTree)
    (label : ℕ) (begun a : Written)
    → left ≡ NoParts → OnwardParts names spot first now all left label begun a → EmitsParts names first all spot begun a
onward_parts_done names spot first now all left label begun a none g =
    onward_parts_end names spot first now all label begun a
    (subst (λ z. OnwardParts names spot first now all z label begun a) none g)

-- ---- the same lists

-- the same spot and the same statements
pub items_are : (names : Numbered) (x y : Spot) (xs ys : List ResolvedStatement) (a b : Written) → x ≡ y → xs ≡ ys
    → EmitsStatements names (numbers_of x.numbers) (trees.statements (map view.statement xs)) x.jumps a b
    → EmitsStatements names (numbers_of y.numbers) (trees.statements (map view.statement ys)) y.jumps a b
items_are names x y xs ys a b e f h =
    subst (λ zs. EmitsStatements names (numbers_of y.numbers) (trees.statements (map view.statement zs))
    y.jumps a b) f
    (subst (λ z. EmitsStatements names (numbers_of z.numbers) (trees.statements (map view.statement xs))
    z.jumps a b) e h)

-- the same parts
pub parts_are : (names : Numbered) (n : Numbers) (spot : PartsSpot) (ps qs : List ResolvedPart) (a b : Written)
    → ps ≡ qs
    → EmitsParts names n (trees.parts (map view.part ps)) spot a b → EmitsParts names n
    (trees.parts (map view.part qs)) spot a b
parts_are names n spot ps qs a b e h = subst (λ z. EmitsParts names n (trees.parts (map view.part z)) spot
    a b) e h

-- the same clauses and the same parts
pub opens_are : (names : Numbered) (l : ℕ) (numbers : tables.Numbers) (spot : PartsSpot) (xs ys : List ResolvedClause)
    (ps qs : List ResolvedPart) (a b : Written)
    → xs ≡ ys → ps ≡ qs → OpensParts names (part_head l numbers (map view.clause xs) (length ps)) spot a b
    → OpensParts names (part_head l numbers (map view.clause ys) (length qs)) spot a b
opens_are names l numbers spot xs ys ps qs a b e f h =
    subst (λ z. OpensParts names (part_head l numbers (map view.clause ys) (length z)) spot a b) f
    (subst (λ z. OpensParts names (part_head l numbers (map view.clause z) (length ps)) spot a b) e h)

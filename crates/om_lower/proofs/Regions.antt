-- A `parallel` and a `task`, in the body that meets them.
use Rattle.std.proofs.Common.{◌≡◌, ◌≤◌, ℕ, List, [], ◌∷◌, Bool, true, false, length, nat_eq, sym, ap, ◌∙◌, subst, arith}
use Rattle.std.proofs.Common.{if◌then◌else◌}
use Rattle.std.specs.Prelude.{is_some}
use Rattle.std.proofs.lemmas.List.{length-append, length-map}
use Rattle.om_lower_emit.specs.Stretches.{fork_row, spawn_row}
use Rattle.om_lower_emit.specs.Drafts.{Written}
use Rattle.om_lower_emit.specs.Emits.{EmitsRow, site}
use Rattle.om_lexer.specs.declared.token.Span.{Span}
use Rattle.om_scope_tree.specs.declared.resolved.Capture.{Capture}
use Rattle.om_scope_tree.specs.declared.resolved.RegionKind.TheVariants as kinds
use Rattle.om_scope_tree.specs.ResolvedTree.{ResolvedClauseTree, ResolvedStatementTree, Region}
use Rattle.om_lower_rules.specs.Bodies.{Numbers}
use Rattle.om_lower_rules.specs.Expressions.{value}
use Rattle.om_lower_rules.specs.Rows.{each, perhaps}
use Rattle.om_lower_rules.specs.Slots as rows
use Rattle.om_lower_rules.specs.Slots.{by_slots, first_copy_at}
use Rattle.om_lower_rules.specs.Statements.{clause_value, given_copies, load_original}
use Rattle.om_lower_emit.specs.declared.spot.JumpLabels.{JumpLabels}
use Rattle.om_lower_emit.specs.Statements.{EmitsStatement}
use Rattle.om_lower_emit.specs.Going.{goes_then, with_none}
use Rattle.om_lower_rules.specs.declared.copies.FirstCopy.{FirstCopy}
use Rattle.om_lower_rules.specs.Copies.{first_copies_of, first_copy}
use Rattle.om_lower_rules.specs.Numbered.{Numbered}

-- how many copies were loaded
pub counted : (copies : List FirstCopy) (given : List rows.FirstCopy) (values : ℕ) → first_copies_of copies ≡ given
    → values ≡ length copies → values ≡ length given
counted copies given values is count = count ∙ sym (length-map copies first_copy) ∙ ap length is

-- a slot has one of them at most
first_few : (copies : List rows.FirstCopy) (variable : ℕ) → length (first_copy_at copies variable) ≤ 1
first_few [] variable = omega arith
first_few (copy ∷ rest) variable = by (nat_eq copy.variable variable) (first_few rest variable)
  where
    by : (found : Bool) → length (first_copy_at rest variable) ≤ 1
        → length (if found then copy ∷ [] else first_copy_at rest variable) ≤ 1
    by true le = omega arith
    by false le = le

pub given_few : (slots : List ℕ) (copies : List rows.FirstCopy) → length (by_slots slots copies) ≤ length slots
given_few [] copies = omega arith
given_few (variable ∷ slots) copies =
    let one = first_few copies variable in
    let rest = given_few slots copies in
    let all = length-append (first_copy_at copies variable) (by_slots slots copies) in
    omega (arith, one, rest, all)

-- so there are as few as there are slots
pub count_few : (slots : List ℕ) (copies : List rows.FirstCopy) (count : ℕ) → length slots ≤ 256
    → count ≡ length (by_slots slots copies) → count ≤ 256
count_few slots copies count few is = let le = given_few slots copies in omega (arith, few, is, le)

-- and that they are those of the region
pub given_loaded : (names : Numbered) (l : ℕ) (loaded given : List rows.FirstCopy) (a b : Written) → loaded ≡ given
    → EmitsRow names (λ at. each (load_original at l) loaded) a b
    → EmitsRow names (λ at. each (load_original at l) given) a b
given_loaded names l loaded given a b is h = subst (λ z. EmitsRow names (λ at. each (load_original at l) z) a b) is h

pub emits_task : (names : Numbered) (n : Numbers) (first : Span) (clauses : List ResolvedClauseTree)
    (captures : List Capture) (s : ResolvedStatementTree) (jumps : JumpLabels)
    → (values : ℕ) (a b c : Written)
    → values ≡ length (given_copies clauses captures s)
    → EmitsRow names (λ at. each (load_original at first.line) (given_copies clauses captures s)) a b
    → EmitsRow names (spawn_row first.line n.bodies values) b c
    → EmitsStatement names n (Region first kinds.Task clauses captures s) jumps a c
emits_task names n first clauses captures s jumps values a b c count h1 h2 =
    let e2 = subst (λ z. EmitsRow names (spawn_row first.line n.bodies z) b c) count h2 in
    with_none _ _ a c (goes_then _ _ _ (λ done at. each (load_original (site names done) first.line)
    (given_copies clauses captures s))
    (λ done at. spawn_row first.line n.bodies (length (given_copies clauses captures s)) (site names done)) a b c
    (omega arith) h1.keeps.more h1 e2)

pub emits_parallel : (names : Numbered) (n : Numbers) (first : Span) (clauses : List ResolvedClauseTree)
    (captures : List Capture) (s : ResolvedStatementTree) (jumps : JumpLabels)
    → (sized : Bool) (values : ℕ) (a b c d : Written)
    → values ≡ length (given_copies clauses captures s) → sized ≡ is_some (clause_value clauses)
    → EmitsRow names (λ at. perhaps (value at first.line) (clause_value clauses)) a b
    → EmitsRow names (λ at. each (load_original at first.line) (given_copies clauses captures s)) b c
    → EmitsRow names (fork_row first.line n.bodies sized values) c d
    → EmitsStatement names n (Region first kinds.Parallel clauses captures s) jumps a d
emits_parallel names n first clauses captures s jumps sized values a b c d count size h1 h2 h3 =
    let e3 = subst (λ z. EmitsRow names (fork_row first.line n.bodies (is_some (clause_value clauses)) z) c d) count
    (subst (λ z. EmitsRow names (fork_row first.line n.bodies z values) c d) size h3) in
    with_none _ _ a d (goes_then _ _ _ (λ done at. perhaps (value (site names done) first.line)
    (clause_value clauses)) _ a b d (omega arith) (omega arith) h1
    (goes_then (length a.places) _ _ (λ done at. each (load_original (site names done) first.line)
    (given_copies clauses captures s))
    (λ done at. fork_row first.line n.bodies (is_some (clause_value clauses))
    (length (given_copies clauses captures s)) (site names done)) b c d
    h1.keeps.more (omega (arith, h1.keeps.more, h2.keeps.more)) h2 e3))

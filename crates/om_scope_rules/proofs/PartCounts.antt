-- `sections` has one part at least, and not too many.
use Rattle.std.proofs.Common.{◌≡◌, ℕ, ◌+◌, ◌<◌, ◌≤◌, false, [], ◌++◌, Option, Some, None, arith}
use Rattle.std.specs.Prelude.{IfSome, nat_le}
use Rattle.std.proofs.lemmas.Bool.Decides.{nat_tests}
use Rattle.om_lexer.specs.declared.fault.FaultCode.TheVariants as faults
use Rattle.om_pragma.specs.declared.tree.Directive.{Directive}
use Rattle.om_scope_tree.specs.ResolvedTree.{ResolvedPartsTree}
use Rattle.om_scope_tree.specs.Whole.{part_count}
use Rattle.om_scope_rules.specs.declared.region.Flow.{Flow}
use Rattle.om_scope_rules.specs.declared.limits.TheConstants.{SECTION_LIMIT}
use Rattle.om_scope_rules.specs.Scopes.{Scopes, inside}
use Rattle.om_scope_rules.specs.StatementResolution.{resolved_parts, resolved_statements}
use Rattle.om_scope_rules.specs.StatementRules.{parts_breaches, section_breaches, statements_breaches}
use Rattle.om_scope_rules.proofs.Knowing.{if_more}
use Rattle.om_scope_rules.proofs.Steps.{if_any, if_then}
use Rattle.om_scope_rules.proofs.Unbroken.{back, front, not_broken}
use Rattle.om_parser_tree.specs.Formed.{IsSection, IsStatement, AreParts, AreFurtherParts}
use Rattle.om_parser_tree.specs.Tree.{ExpressionTree, StatementsTree, PartsTree, NoParts, Part}

above : (limit n : ℕ) → nat_le limit n ≡ false → n < limit
above limit n h = grind (arith, nat_tests)

-- there is room for a part that begins with `section`
room_left : (before : ℕ) (section : Option (Directive ExpressionTree)) → IsSection section
    → section_breaches before section ≡ [] → before < 256
room_left before None formed w = absurd formed
room_left before (Some d) formed w =
    above 256 before (not_broken (nat_le SECTION_LIMIT before) faults.TooMany d.hash.start w)

-- of parts behind so many
abbrev Fit : ℕ → ResolvedPartsTree → Type 0
Fit before parts = before + part_count parts ≤ 256

-- with one more part in front
fit_more : (scopes : Scopes) (parallel : Option ℕ) (before : ℕ) (section : Option (Directive ExpressionTree))
    (items : StatementsTree) (rest : PartsTree) → IfSome (resolved_parts scopes parallel rest) (Fit (before + 1))
    → IfSome (resolved_parts scopes parallel (Part section items rest)) (Fit before)
unfolding resolved_parts
fit_more scopes parallel before section items rest others =
    if_then (λ ss. Unit {0}) (Fit before) (resolved_statements (inside scopes) parallel items) _
    (if_any (resolved_statements (inside scopes) parallel items)) (λ ss u.
    if_then (Fit (before + 1)) (Fit before) (resolved_parts scopes parallel rest) _ others (λ ps h. omega (arith, h)))

counted : (scopes : Scopes) (flow : Flow) (parallel : Option ℕ) (before : ℕ) (parts : PartsTree) → before ≤ 256
    → AreFurtherParts parts → parts_breaches scopes flow before parts ≡ []
    → IfSome (resolved_parts scopes parallel parts) (Fit before)
unfolding parts_breaches resolved_parts IsStatement
counted scopes flow parallel before NoParts few formed w = omega (arith, few)
counted scopes flow parallel before (Part section items rest) few formed w =
    let many = section_breaches before section in
    let own = statements_breaches (inside scopes) flow items in
    let others = parts_breaches scopes flow (before + 1) rest in
    let room = room_left before section formed.0 (front many own (front (many ++ own) others w)) in
    fit_more scopes parallel before section items rest
    (counted scopes flow parallel (before + 1) rest (omega (arith, room)) formed.3 (back (many ++ own) others w))

pub few_parts : (scopes : Scopes) (flow : Flow) (parallel : Option ℕ) (parts : PartsTree) → AreParts parts
    → parts_breaches scopes flow 0 parts ≡ []
    → IfSome (resolved_parts scopes parallel parts) (λ ps. part_count ps ≤ 256)
unfolding parts_breaches IsStatement
few_parts scopes flow parallel NoParts formed w = absurd formed
few_parts scopes flow parallel (Part section items rest) formed w =
    let own = section_breaches 0 section ++ statements_breaches (inside scopes) flow items in
    if_more (Fit 0) (λ ps. part_count ps ≤ 256) (resolved_parts scopes parallel (Part section items rest))
    (λ ps h. omega (arith, h)) (fit_more scopes parallel 0 section items rest
    (counted scopes flow parallel 1 rest (omega arith) formed.3 (back own (parts_breaches scopes flow 1 rest) w)))

pub some_part : (scopes : Scopes) (parallel : Option ℕ) (parts : PartsTree) → AreParts parts
    → IfSome (resolved_parts scopes parallel parts) (λ ps. 1 ≤ part_count ps)
unfolding resolved_parts IsStatement
some_part scopes parallel NoParts formed = absurd formed
some_part scopes parallel (Part section items rest) formed =
    if_then (λ ss. Unit {0}) (λ ps. 1 ≤ part_count ps) (resolved_statements (inside scopes) parallel items) _
    (if_any (resolved_statements (inside scopes) parallel items)) (λ ss u.
    if_then (λ ps. Unit {0}) (λ ps. 1 ≤ part_count ps) (resolved_parts scopes parallel rest) _
    (if_any (resolved_parts scopes parallel rest)) (λ ps u.
    omega arith))

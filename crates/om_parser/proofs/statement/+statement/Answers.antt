use Rattle.std.proofs.Common.{refl, ◌∙◌, ◌≡◌, [], ◌∷◌, ◌++◌, length, map, not, ap, sym, arith, rules}
use Rattle.std.proofs.lemmas.Grind.{common_steps}
use Rattle.std.proofs.lemmas.List.{map_push}
use Rattle.std.proofs.lemmas.Result.{err_from_is_err_and}
use Rattle.om_lexer.specs.declared.token.Punctuator.TheVariants.{CloseBrace}
use Rattle.om_parser.specs.ConstructReading.{ends_part, ends_parts, part_at, part_item_at, atomic_after}
use Rattle.om_parser.specs.ConstructReading.{construct_at, construct_after, constructed_after, line_of, misplaced}
use Rattle.om_parser.specs.ConstructReading.{item_of, sections_after}
use Rattle.om_parser.specs.OneOrMore.{one_or_more}
use Rattle.om_parser.specs.StatementReading.{block_item_at, statement_at, behind_body, else_after, block_after}
use Rattle.om_parser.specs.StatementReading.{block_items_after, parts_at, parts_after, do_after, statement_of}
use Rattle.om_parser.specs.StatementReading.{headed_of, body_after}
use Rattle.om_parser_parts.specs.Loops.{until_begins, until_ends, until_fails, until_goes_on}
use Rattle.om_parser_parts.specs.PartReading.{parts}
use Rattle.om_parser_parts.specs.Reading.{take_mark}
use Rattle.om_parser_parts.specs.Repetition.{until}
use Rattle.om_parser_tree.specs.Limits.{accepted}
use Rattle.om_parser_tree.specs.Tree.{PartTree, StatementTree}
use Rattle.om_parser_tree.specs.View.{part_layer, statement_layer, view_part, view_statement}
use Rattle.om_parser_tree.specs.declared.tree.Part.{fold-roll-Part}
use Rattle.om_parser.proofs.OneOrMore.{more_begins, more_ends, more_fails, more_goes_on}
use Rattle.om_parser.proofs.Shorter.{brace_shorter, block_item_shorter, part_item_shorter, part_shorter}
use Rattle.om_parser.proofs.Started.{block_statement}
use Rattle.om_parser.proofs.statement.+statement.Goals as goal

pub items-items-init : goal.items-items-init
items-items-init t c = rw c.new-items.ensures.items (until_begins (take_mark CloseBrace)
    (block_item_at (parts accepted) (statement_at (parts accepted) c.args.room.checked c.args.room.statements
    c.args.room.blocks)) c.args.tokens.now)

pub items-returns-in-Some : goal.items-returns-in-Some
items-returns-in-Some t c =
    let item = block_item_at (parts accepted) (statement_at (parts accepted) c.args.room.checked
    c.args.room.statements c.args.room.blocks) in
    until_ends (take_mark CloseBrace) item (map view_statement c.items.items.items) c.items.rest.now
    (until (take_mark CloseBrace) item (length c.args.tokens.now) c.args.tokens.now) c.in-Some.close_brace
    c.in-Some.after.now (sym c.in-Some.ensures) (brace_shorter c.items.rest.now c.in-Some.close_brace
    c.in-Some.after.now (sym c.in-Some.ensures)) c.items.invariant

pub items-returns-in_err-next : goal.items-returns-in_err-next
items-returns-in_err-next t c =
    let item = block_item_at (parts accepted) (statement_at (parts accepted) c.args.room.checked
    c.args.room.statements c.args.room.blocks) in
    let p = err_from_is_err_and c.from_residual.result c.from_residual.ensures.1 in
    rw (p.1, p.2) (until_fails (take_mark CloseBrace) item (map view_statement c.items.items.items) c.items.rest.now
    (until (take_mark CloseBrace) item (length c.args.tokens.now) c.args.tokens.now) c.in_err-next.field-0.0
    (sym c.in_default.ensures) c.in_err-next.ensures c.items.invariant)

pub items-items-smaller : goal.items-items-smaller
items-items-smaller t c = block_item_shorter (parts accepted) accepted (omega arith)
    (c.parts_are_sound.ensures accepted (omega arith)) c.args.room.checked c.args.room.statements c.args.room.blocks
    c.items.rest.now (view_statement c.in_ok-next.next.value) c.in_ok-next.after.now c.in_ok-next.ensures

pub items-items-preserved : goal.items-items-preserved
items-items-preserved t c =
    let item = block_item_at (parts accepted) (statement_at (parts accepted) c.args.room.checked
    c.args.room.statements c.args.room.blocks) in
    let inner : c.into_inner.result ≡ c.in_ok-next.next.value = search rules in
    let pushed : map view_statement c.push.new.self.items ≡ map view_statement c.items.items.items ++ view_statement
    c.in_ok-next.next.value ∷ [] = rw (c.in_ok-push.ensures.items, inner)
    (map_push _ c.items.items.items c.in_ok-next.next.value) in
    rw pushed (until_goes_on (take_mark CloseBrace) item (map view_statement c.items.items.items) c.items.rest.now
    (until (take_mark CloseBrace) item (length c.args.tokens.now) c.args.tokens.now)
    (view_statement c.in_ok-next.next.value) c.in_ok-next.after.now (sym c.in_default.ensures)
    c.in_ok-next.ensures (block_item_shorter (parts accepted) accepted (omega arith)
    (c.parts_are_sound.ensures accepted (omega arith)) c.args.room.checked c.args.room.statements
    c.args.room.blocks c.items.rest.now (view_statement c.in_ok-next.next.value) c.in_ok-next.after.now
    c.in_ok-next.ensures) c.items.invariant)

pub part_items-items-init : goal.part_items-items-init
part_items-items-init t c = rw c.new-items.ensures.items (more_begins ends_part
    (part_item_at (parts accepted).line (statement_at (parts accepted) c.args.room.checked c.args.room.statements
    c.args.room.blocks)) c.args.tokens.now)

pub part_items-returns-in_err-next : goal.part_items-returns-in_err-next
part_items-returns-in_err-next t c =
    let item = part_item_at (parts accepted).line (statement_at (parts accepted) c.args.room.checked
    c.args.room.statements c.args.room.blocks) in
    let p = err_from_is_err_and c.from_residual.result c.from_residual.ensures.1 in
    rw (p.1, p.2) (more_fails ends_part item (map view_statement c.items.items.items) c.items.rest.now
    (one_or_more ends_part item (length c.args.tokens.now) c.args.tokens.now) c.in_err-next.field-0.0
    c.in_err-next.ensures c.items.invariant)

pub part_items-items-smaller : goal.part_items-items-smaller
part_items-items-smaller t c = part_item_shorter (parts accepted) accepted (omega arith)
    (c.parts_are_sound.ensures accepted (omega arith)) c.args.room.checked c.args.room.statements c.args.room.blocks
    c.items.rest.now (view_statement c.in_ok-next.next.value) c.in_ok-next.after.now c.in_ok-next.ensures

pub part_items-returns-then-ends_part : goal.part_items-returns-then-ends_part
part_items-returns-then-ends_part t c =
    let item = part_item_at (parts accepted).line (statement_at (parts accepted) c.args.room.checked
    c.args.room.statements c.args.room.blocks) in
    let inner : c.into_inner.result ≡ c.in_ok-next.next.value = search rules in
    let pushed : map view_statement c.push.new.self.items ≡ map view_statement c.items.items.items ++ view_statement
    c.in_ok-next.next.value ∷ [] = rw (c.in_ok-push.ensures.items, inner)
    (map_push _ c.items.items.items c.in_ok-next.next.value) in
    rw pushed (more_ends ends_part item (map view_statement c.items.items.items) c.items.rest.now
    (one_or_more ends_part item (length c.args.tokens.now) c.args.tokens.now)
    (view_statement c.in_ok-next.next.value) c.in_ok-next.after.now c.in_ok-next.ensures
    (sym c.ends_part.ensures ∙ c.if-ends_part.true)
    (part_item_shorter (parts accepted) accepted (omega arith) (c.parts_are_sound.ensures accepted (omega arith))
    c.args.room.checked c.args.room.statements c.args.room.blocks c.items.rest.now
    (view_statement c.in_ok-next.next.value) c.in_ok-next.after.now c.in_ok-next.ensures) c.items.invariant)

pub part_items-items-preserved : goal.part_items-items-preserved
part_items-items-preserved t c =
    let item = part_item_at (parts accepted).line (statement_at (parts accepted) c.args.room.checked
    c.args.room.statements c.args.room.blocks) in
    let inner : c.into_inner.result ≡ c.in_ok-next.next.value = search rules in
    let pushed : map view_statement c.push.new.self.items ≡ map view_statement c.items.items.items ++ view_statement
    c.in_ok-next.next.value ∷ [] = rw (c.in_ok-push.ensures.items, inner)
    (map_push _ c.items.items.items c.in_ok-next.next.value) in
    rw pushed (more_goes_on ends_part item (map view_statement c.items.items.items) c.items.rest.now
    (one_or_more ends_part item (length c.args.tokens.now) c.args.tokens.now)
    (view_statement c.in_ok-next.next.value) c.in_ok-next.after.now c.in_ok-next.ensures
    (sym c.ends_part.ensures ∙ c.if-ends_part.false)
    (part_item_shorter (parts accepted) accepted (omega arith) (c.parts_are_sound.ensures accepted (omega arith))
    c.args.room.checked c.args.room.statements c.args.room.blocks c.items.rest.now
    (view_statement c.in_ok-next.next.value) c.in_ok-next.after.now c.in_ok-next.ensures) c.items.invariant)

pub parts-returns-in_err-next : goal.parts-returns-in_err-next
parts-returns-in_err-next t c =
    let item = part_at (parts accepted).line (statement_at (parts accepted) c.args.room.checked
    c.args.room.statements c.args.room.blocks) in
    let p = err_from_is_err_and c.from_residual.result c.from_residual.ensures.1 in
    rw (p.1, p.2) (more_fails ends_parts item (map view_part c.parts.parts.items) c.parts.rest.now
    (one_or_more ends_parts item (length c.args.tokens.now) c.args.tokens.now) c.in_err-next.field-0.0
    c.in_err-next.ensures c.parts.invariant)

pub parts-parts-smaller : goal.parts-parts-smaller
parts-parts-smaller t c = part_shorter (parts accepted) accepted (omega arith)
    (c.parts_are_sound.ensures accepted (omega arith)) c.args.room.checked c.args.room.statements c.args.room.blocks
    c.parts.rest.now (view_part c.in_ok-next.next) c.in_ok-next.after.now c.in_ok-next.ensures

pub parts-returns-then-not-at_section : goal.parts-returns-then-not-at_section
parts-returns-then-not-at_section t c =
    let item = part_at (parts accepted).line (statement_at (parts accepted) c.args.room.checked
    c.args.room.statements c.args.room.blocks) in
    let pushed : map view_part c.push.new.self.items ≡ map view_part c.parts.parts.items ++ view_part c.in_ok-next.next
    ∷ [] = rw c.in_ok-push.ensures.items (map_push _ c.parts.parts.items c.in_ok-next.next) in
    rw pushed (more_ends ends_parts item (map view_part c.parts.parts.items) c.parts.rest.now
    (one_or_more ends_parts item (length c.args.tokens.now) c.args.tokens.now) (view_part c.in_ok-next.next)
    c.in_ok-next.after.now c.in_ok-next.ensures (ap not (sym c.at_section.ensures ∙ c.if-not-at_section.true))
    (part_shorter (parts accepted) accepted (omega arith) (c.parts_are_sound.ensures accepted (omega arith))
    c.args.room.checked c.args.room.statements c.args.room.blocks c.parts.rest.now (view_part c.in_ok-next.next)
    c.in_ok-next.after.now c.in_ok-next.ensures) c.parts.invariant)

pub parts-parts-preserved : goal.parts-parts-preserved
parts-parts-preserved t c =
    let item = part_at (parts accepted).line (statement_at (parts accepted) c.args.room.checked
    c.args.room.statements c.args.room.blocks) in
    let pushed : map view_part c.push.new.self.items ≡ map view_part c.parts.parts.items ++ view_part c.in_ok-next.next
    ∷ [] = rw c.in_ok-push.ensures.items (map_push _ c.parts.parts.items c.in_ok-next.next) in
    rw pushed (more_goes_on ends_parts item (map view_part c.parts.parts.items) c.parts.rest.now
    (one_or_more ends_parts item (length c.args.tokens.now) c.args.tokens.now) (view_part c.in_ok-next.next)
    c.in_ok-next.after.now c.in_ok-next.ensures (ap not (sym c.at_section.ensures ∙ c.if-not-at_section.false))
    (part_shorter (parts accepted) accepted (omega arith) (c.parts_are_sound.ensures accepted (omega arith))
    c.args.room.checked c.args.room.statements c.args.room.blocks c.parts.rest.now (view_part c.in_ok-next.next)
    c.in_ok-next.after.now c.in_ok-next.ensures) c.parts.invariant)

pub statement-returns-in-Block : goal.statement-returns-in-Block
statement-returns-in-Block t c =
    block_statement _ c.block_after.result (parts accepted) c.args.room.checked c.args.room.statements
    c.in-Some.statements c.args.room.blocks c.args.tokens.now c.first-item.result c.in-len1-up.len_at_least
    c.first-item.is
    (omega (arith, c.in-Some.ensures)) (sym c.start_of-start.ensures ∙ c.in-Block.is) c.block_after.ensures

pub atomic-returns-in_err-body : goal.atomic-returns-in_err-body
unfolding atomic_after
atomic-returns-in_err-body t c = search rules

pub atomic-returns : goal.atomic-returns
unfolding atomic_after
atomic-returns t c = search rules

pub behind_body-returns-in_err-else_body-in-Some : goal.behind_body-returns-in_err-else_body-in-Some
unfolding behind_body else_after
behind_body-returns-in_err-else_body-in-Some t c = search rules

pub behind_body-returns-in_ok-else_body-in-Some : goal.behind_body-returns-in_ok-else_body-in-Some
unfolding behind_body else_after
behind_body-returns-in_ok-else_body-in-Some t c = search rules

pub behind_body-returns-in-None : goal.behind_body-returns-in-None
unfolding behind_body else_after
behind_body-returns-in-None t c = search rules

pub behind_body-returns-in-While : goal.behind_body-returns-in-While
unfolding behind_body else_after
behind_body-returns-in-While t c = search rules

pub behind_body-returns-in-For : goal.behind_body-returns-in-For
unfolding behind_body else_after
behind_body-returns-in-For t c = search rules

pub block_after-returns-in_default : goal.block_after-returns-in_default
unfolding block_after block_items_after
block_after-returns-in_default t c = search rules

pub block_after-returns-in_err-items : goal.block_after-returns-in_err-items
unfolding block_after block_items_after
block_after-returns-in_err-items t c = search rules

pub block_after-returns : goal.block_after-returns
unfolding block_after block_items_after
block_after-returns t c = search rules

pub block_item-returns-in-Some : goal.block_item-returns-in-Some
unfolding block_item_at
block_item-returns-in-Some t c = search rules

pub block_item-returns-in-None : goal.block_item-returns-in-None
unfolding block_item_at
block_item-returns-in-None t c = search rules

pub braces-returns-in_err-open_brace : goal.braces-returns-in_err-open_brace
unfolding parts_at parts_after
braces-returns-in_err-open_brace t c = search rules

pub braces-returns-in_default : goal.braces-returns-in_default
unfolding parts_at parts_after
braces-returns-in_default t c = search rules

pub braces-returns-in_default-checked_sub : goal.braces-returns-in_default-checked_sub
unfolding parts_at parts_after
braces-returns-in_default-checked_sub t c = search rules

pub braces-returns-in_err-parts : goal.braces-returns-in_err-parts
unfolding parts_at parts_after
braces-returns-in_err-parts t c = search rules

pub braces-returns-in_err-close_brace : goal.braces-returns-in_err-close_brace
unfolding parts_at parts_after
braces-returns-in_err-close_brace t c = search rules

pub braces-returns : goal.braces-returns
unfolding parts_at parts_after
braces-returns t c = search rules

pub construct-returns-in_err-directive : goal.construct-returns-in_err-directive
unfolding construct_at construct_after
construct-returns-in_err-directive t c = search rules

pub construct-returns-then-has_parts : goal.construct-returns-then-has_parts
unfolding construct_at construct_after
construct-returns-then-has_parts t c = search rules

pub construct-returns-then-is_atomic : goal.construct-returns-then-is_atomic
unfolding construct_at construct_after
construct-returns-then-is_atomic t c = search rules

pub construct-returns-else-is_atomic : goal.construct-returns-else-is_atomic
unfolding construct_at construct_after
construct-returns-else-is_atomic t c = search rules

pub constructed-returns-in_err-body : goal.constructed-returns-in_err-body
unfolding constructed_after
constructed-returns-in_err-body t c = search rules

pub constructed-returns : goal.constructed-returns
unfolding constructed_after
constructed-returns t c = search rules

pub directive-returns-in-Construct : goal.directive-returns-in-Construct
unfolding line_of misplaced
directive-returns-in-Construct t c = search rules

pub directive-returns-in-Unknown : goal.directive-returns-in-Unknown
unfolding line_of misplaced
directive-returns-in-Unknown t c = search rules

pub directive-returns-in_default : goal.directive-returns-in_default
unfolding line_of misplaced
directive-returns-in_default t c = search rules

pub do_after-returns-in_err-body : goal.do_after-returns-in_err-body
unfolding do_after
do_after-returns-in_err-body t c = search rules

pub statement-returns-in_default : goal.statement-returns-in_default
unfolding statement_at statement_of
statement-returns-in_default t c = search rules

pub statement-returns-in_default-checked_sub : goal.statement-returns-in_default-checked_sub
unfolding statement_at statement_of
statement-returns-in_default-checked_sub t c = search rules

pub statement-returns-in-Directive : goal.statement-returns-in-Directive
unfolding statement_at statement_of
statement-returns-in-Directive t c = search rules

pub statement-returns-in-If : goal.statement-returns-in-If
unfolding statement_at statement_of
statement-returns-in-If t c = grind (arith, common_steps)

pub statement-returns-in-Do : goal.statement-returns-in-Do
unfolding statement_at statement_of
statement-returns-in-Do t c = grind (arith, common_steps)

pub statement-returns-in_default-start : goal.statement-returns-in_default-start
unfolding statement_at statement_of
statement-returns-in_default-start t c = grind (arith, common_steps)

pub do_after-returns : goal.do_after-returns
unfolding do_after
do_after-returns t c = search rules

pub headed-returns-in_err-opening : goal.headed-returns-in_err-opening
unfolding headed_of body_after
headed-returns-in_err-opening t c = search rules

pub headed-returns-in_err-body : goal.headed-returns-in_err-body
unfolding headed_of body_after
headed-returns-in_err-body t c = search rules

pub headed-returns : goal.headed-returns
unfolding headed_of body_after
headed-returns t c = search rules

pub part-returns-in_err-section : goal.part-returns-in_err-section
unfolding part_at
part-returns-in_err-section t c = search rules

pub part-returns-in_err-items : goal.part-returns-in_err-items
unfolding part_at
part-returns-in_err-items t c = search rules

pub part_item-returns-in-StandAlone : goal.part_item-returns-in-StandAlone
unfolding part_item_at item_of misplaced
part_item-returns-in-StandAlone t c = search rules

pub part_item-returns-in-Section : goal.part_item-returns-in-Section
unfolding part_item_at item_of misplaced
part_item-returns-in-Section t c = search rules

pub part_item-returns-in-Unknown : goal.part_item-returns-in-Unknown
unfolding part_item_at item_of misplaced
part_item-returns-in-Unknown t c = search rules

pub part_item-returns-in_default : goal.part_item-returns-in_default
unfolding part_item_at item_of misplaced
part_item-returns-in_default t c = search rules

pub sections-returns-in_err-open_brace : goal.sections-returns-in_err-open_brace
unfolding sections_after
sections-returns-in_err-open_brace t c = search rules

pub sections-returns : goal.sections-returns
unfolding sections_after
sections-returns t c = search rules

pub part-returns : goal.part-returns
unfolding part_at
part-returns t c = rw
    (c.in_ok-section.ensures, c.in_ok-items.ensures, fold-roll-Part StatementTree PartTree statement_layer part_layer _)
    refl

use Rattle.std.proofs.Common.{◌≡◌, ◌≤◌, None, Option, Some, length, refl, sym, ap, subst, ◌∙◌}
use Rattle.om_lower.specs.Inputs.{seen_body, seen_tree}
use Rattle.om_lower.specs.Made.{FitsCode}
use Rattle.om_lower_rules.specs.AtomicPlaces.{atomic_places}
use Rattle.om_lower_rules.specs.Mentions.{atomic_lines}
use Rattle.om_lower_rules.specs.Scopes.{names_with}
use Rattle.om_lower.proofs.Coding.{made_body, over_code}
use Rattle.om_lower_emit.specs.Scoping.{inside_more}
use Rattle.om_lower.proofs.bodies.add_with.Goals as goal

-- what is nothing that is there is not there
none_of : {A : Type 0} (found : Option A) → ((a : A) → found ≡ Some a → ⊥) → found ≡ None
none_of None other = refl
none_of (Some a) other = absurd (other a refl)

pub returns-in_default : goal.returns-in_default
returns-in_default c =
    let tree = seen_tree c.args.seen.now in
    let b = seen_body c.args.seen.now in
    over_code tree b (subst (λ code. FitsCode tree b code) (none_of _ c.in_default.not-Some) c.in_ok-emitted.ensures)

pub names_with-requires-clause-few : goal.names_with-requires-clause-few
names_with-requires-clause-few c =
    subst (λ variables. length variables ≤ 256) (sym c.requires.seen.variables) c.requires.slots.1

pub names_with-requires-clause-named : goal.names_with-requires-clause-named
names_with-requires-clause-named c =
    let fits = subst (λ code. FitsCode (seen_tree c.args.seen.now) (seen_body c.args.seen.now) code) c.in-Some.is
    c.in_ok-emitted.ensures in
    inside_more (length c.in-Some.emitted.code) 65536 c.in-Some.emitted.scopes.items fits.1 fits.4

pub atomic_places-requires : goal.atomic_places-requires
atomic_places-requires c =
    let fits = subst (λ code. FitsCode (seen_tree c.args.seen.now) (seen_body c.args.seen.now) code) c.in-Some.is
    c.in_ok-emitted.ensures in
    subst (λ code. length code ≤ 65536) (sym c.as_slice.ensures) fits.1

pub returns : goal.returns
returns c =
    let tree = seen_tree c.args.seen.now in
    let b = seen_body c.args.seen.now in
    let made = c.in-Some.emitted in
    let fits = subst (λ code. FitsCode tree b code) c.in-Some.is c.in_ok-emitted.ensures in (
      record {
        code = made.code;
        slots = c.args.slots;
        given = c.in_ok-given.given;
        names = c.in_ok-names.names;
        atomic = c.in_ok-atomic.atomic;
      },
      made.lists.items,
      made_body tree b made _ _ _ _ c.requires.slots fits c.in_ok-given.ensures
          (c.in_ok-atomic.ensures
          ∙ ap (λ lines. atomic_places lines c.as_slice.result.now) c.requires.seen.input.tables.atomics
          ∙ ap (λ lines. atomic_places (atomic_lines tree) lines) c.as_slice.ensures)
          (c.in_ok-names.ensures
          ∙ ap (λ name. names_with name c.args.seen.now.variables.now b.outer made.scopes.items)
          c.as_slice-function.ensures
          ∙ ap (λ variables. names_with b.function.name variables b.outer made.scopes.items) c.requires.seen.variables),
      fits.2,
      c.in_ok-put_body.ensures.bodies,
      c.in_ok-put_body.ensures.lists,
    )

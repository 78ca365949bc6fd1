use Rattle.std.proofs.Common.{[], ◌∷◌, ◌++◌, is_some, sym, ap, ◌∙◌, if◌then◌else◌}
use Rattle.std.proofs.lemmas.Result.{err_from_is_err_and}
use Rattle.std.specs.Option.{option_copied_mut}
use Rattle.std.specs.Str.{bytes_eq}
use Rattle.om_scope_symbols.specs.Stacks.{seen_in}
use Rattle.om_scope_symbols.proofs.Stacked.{seen-first, seen-kept, seen-write}
use Rattle.om_scope_symbols.proofs.stacks.Stacks.note.Goals as goal

pub returns-in_err-push-in-Some-clause-unchanged_on_error : goal.returns-in_err-push-in-Some-clause-unchanged_on_error
returns-in_err-push-in-Some-clause-unchanged_on_error over c =
    let p = err_from_is_err_and c.from_residual.result c.from_residual.ensures.1 in
    let found = sym c.get_mut.ensures.value ∙ ap option_copied_mut c.in-Some.is in
    let written = (c.get_mut.follows.holds c.push.new.self).3 (ap is_some found) in
    rw p.1
    (λ other.
    seen-kept c.self.inside.names.entries _ c.args.name.now c.in-Some.seen.now c.push.new.self other found
    c.in_err-push-in-Some.ensures.items written.1 written.3
    ∙ ap (λ table. seen_in table other) c.self.view_is)

pub returns-in_ok-push-in-Some-clause-noted : goal.returns-in_ok-push-in-Some-clause-noted
returns-in_ok-push-in-Some-clause-noted over c other =
    let found = sym c.get_mut.ensures.value ∙ ap option_copied_mut c.in-Some.is in
    let written = (c.get_mut.follows.holds c.push.new.self).3 (ap is_some found) in
    seen-write (λ seen. seen ++ c.args.item ∷ []) c.self.inside.names.entries _ c.args.name.now c.in-Some.seen.now
    c.push.new.self other found c.in_ok-push-in-Some.ensures.items written.1 written.3
    ∙ ap (λ table. if bytes_eq other c.args.name.now then seen_in table other ++ c.args.item ∷ [] else seen_in table
    other) c.self.view_is

pub returns-in_ok-insert-in-None-clause-noted : goal.returns-in_ok-insert-in-None-clause-noted
returns-in_ok-insert-in-None-clause-noted over c other =
    let put = c.in_ok-insert-in-None.ensures.updates in
    seen-first c.self.inside.names.entries c.get_mut.follows.lender-at-none.entries _ c.in_ok-from_slice-in-None.field-0
    c.args.name.now c.push-in-None.new.self c.args.item other (ap (λ names. names.entries) c.get_mut.follows.holds-at-none)
    c.in_ok-from_slice-in-None.ensures.items (sym c.get_mut.ensures.value ∙ ap option_copied_mut c.in-None.is)
    (c.in_ok-push-in-None.ensures.items ∙ ap (λ seen. seen ++ c.args.item ∷ []) c.new-seen.ensures.items)
    put.1 put.3
    ∙ ap (λ table. if bytes_eq other c.args.name.now then seen_in table other ++ c.args.item ∷ [] else seen_in table
    other) c.self.view_is

use Rattle.std.proofs.Common.{[], sym, subst}
use Rattle.std.proofs.lemmas.Result.{on_ok_weaker}
use Rattle.std.specs.Prelude.{OnOk}
use Rattle.om_lower.specs.Emitted.{EmitsBody}
use Rattle.om_lower_tables.specs.Sites.{body_in, part_tree}
use Rattle.om_lower_rules.specs.Scopes.{body_scopes}
use Rattle.om_lower_emit.specs.Scoped.{EmitsScopes}
use Rattle.om_lower_rules.specs.BodyTables.{numbered_by}
use Rattle.om_lower.proofs.body.write.Goals as goal

pub returns-in-Function-clause-code : goal.returns-in-Function-clause-code
returns-in-Function-clause-code c =
    let b = body_in [] c.args.site.now in
    subst (λ part. OnOk c.write_function.result (EmitsBody (numbered_by c.args.tables.now) b.numbers b.function
    (part_tree part) c.args.writing.now.draft c.write_function.new.writing.draft))
    (sym c.in-Function.is) c.write_function.ensures.code

pub returns-in-Function-clause-scopes : goal.returns-in-Function-clause-scopes
returns-in-Function-clause-scopes c =
    let b = body_in [] c.args.site.now in
    subst (λ part. OnOk c.write_function.result (EmitsScopes (numbered_by c.args.tables.now)
    (λ at. body_scopes at b.function (part_tree part)) c.args.writing.now c.write_function.new.writing))
    (sym c.in-Function.is) c.write_function.ensures.scopes

pub returns-in-Region-clause-code : goal.returns-in-Region-clause-code
returns-in-Region-clause-code c =
    let b = body_in [] c.args.site.now in
    subst (λ part. OnOk c.write_region.result (EmitsBody (numbered_by c.args.tables.now) b.numbers b.function
    (part_tree part) c.args.writing.now.draft c.write_region.new.writing.draft))
    (sym c.in-Region.is) (on_ok_weaker c.write_region.result (λ h. h b.function) c.write_region.ensures.code)

pub returns-in-Region-clause-scopes : goal.returns-in-Region-clause-scopes
returns-in-Region-clause-scopes c =
    let b = body_in [] c.args.site.now in
    subst (λ part. OnOk c.write_region.result (EmitsScopes (numbered_by c.args.tables.now)
    (λ at. body_scopes at b.function (part_tree part)) c.args.writing.now c.write_region.new.writing))
    (sym c.in-Region.is) (on_ok_weaker c.write_region.result (λ h. h b.function) c.write_region.ensures.scopes)

use Rattle.std.proofs.Common.{[], ◌∷◌, ◌≡◌, ◌≤◌, suc, arith, length, length-append, subst, sym, ap, ◌∙◌}
use Rattle.om_scope_symbols.specs.Nesting.{AreNested, outside_of}
use Rattle.om_scope_symbols.specs.Sightings.{Shows, scopes_of}
use Rattle.om_scope_symbols.proofs.Lookups.{nested-deeper, nested-outside, scopes-push}
use Rattle.om_scope_symbols.proofs.symbols.Symbols.leave.Goals as goal

pub invariant_of-self : goal.invariant_of-self
invariant_of-self c =
    let fields = c.self.inside in
    let constructs = fields.nesting in
    let left = c.pop.new.self.items in
    let table = c.in-Some.outer in
    let split = c.in-Some.ensures.items in
    let depth : c.len.result ≡ length left = c.len.ensures ∙ c.pop.new.self.ok.0 in
    let fewer : length fields.outer.items ≤ suc (length left) = rw split
    (omega (arith, length-append left (table ∷ []))) in (
      c.self.invariant.0,
      subst (λ cs. AreNested cs (length left)) (sym (c.leave.ensures ∙ ap (outside_of constructs) depth))
          (nested-outside constructs (length left) (nested-deeper constructs (length fields.outer.items)
          (suc (length left)) fewer c.self.invariant.1)),
      subst (λ t. Shows c.forget_scope.new.sightings (t ∷ scopes_of left))
          (sym c.replace.ensures.after)
          (c.forget_scope.ensures (table ∷ scopes_of left)
          (subst (λ t. Shows fields.sightings (t ∷ table ∷ scopes_of left))
          (sym c.replace.ensures.value)
          (subst (λ scopes. Shows fields.sightings (fields.inner ∷ scopes))
          (ap (λ ts. scopes_of ts) split ∙ scopes-push left table) c.self.invariant.2))),
    )

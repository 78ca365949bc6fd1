use Rattle.std.proofs.Common.{[], ◌∷◌, ◌++◌, subst, sym, ap, ◌∙◌}
use Rattle.om_scope_symbols.specs.Nesting.{AreNested}
use Rattle.om_scope_symbols.specs.Sightings.{Shows, scopes_of}
use Rattle.om_scope_symbols.proofs.Lookups.{scopes-push}
use Rattle.om_scope_symbols.proofs.Seen.{shows-empty}
use Rattle.om_scope_symbols.proofs.symbols.Symbols.begin.Goals as goal

pub invariant_of-self-2 : goal.invariant_of-self-2
invariant_of-self-2 c =
    let fields = c.self.inside in
    let outer = fields.outer.items in
    let tables = c.enter_scope.ensures.outer ∙ ap (λ ts. ts ++ fields.inner ∷ []) c.in_ok-reserve.ensures.items in (
      c.self.invariant.0,
      subst (AreNested c.enter.new.self) (c.len.ensures ∙ c.enter_scope.new.outer.ok.0) c.enter.ensures.nested,
      subst (λ inner. Shows fields.sightings (inner ∷ scopes_of c.enter_scope.new.outer.items))
          (sym c.enter_scope.ensures.entered)
          (shows-empty fields.sightings (scopes_of c.enter_scope.new.outer.items)
          (subst (Shows fields.sightings)
          (sym (ap (λ ts. scopes_of ts) tables ∙ scopes-push outer fields.inner)) c.self.invariant.2)),
    )

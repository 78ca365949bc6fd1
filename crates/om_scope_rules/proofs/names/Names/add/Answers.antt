use Rattle.std.proofs.Common.{◌≡◌, ◌++◌, ◌∷◌, [], false, length, sym, ap, subst, ◌∙◌}
use Rattle.std.proofs.lemmas.List.{length-map, map-append}
use Rattle.std.specs.List.{IsDistinct, list_any}
use Rattle.std.specs.Str.{bytes_eq}
use Rattle.om_scope_rules.specs.NameLists.{ArePlaces, same_name, with_name}
use Rattle.om_scope_rules.proofs.NamePlaces.{absent_name, distinct-push, known_name, places-push, with_known, with_new}
use Rattle.om_scope_rules.proofs.Texts.{texts_of}
use Rattle.om_scope_rules.proofs.names.Names.add.Goals as goal

pub returns-then-contains_key-clause-added : goal.returns-then-contains_key-clause-added
returns-then-contains_key-clause-added c =
    let name = c.args.name.now in
    let names = texts_of c.self.inside.names.items in
    sym c.self.view_is
    ∙ with_known names name (known_name names c.self.inside.places.entries name c.self.invariant.1
    (sym c.contains_key.ensures ∙ c.if-contains_key.true))
    ∙ ap (λ all. with_name all name) c.self.view_is

pub invariant_of-self-2 : goal.invariant_of-self-2
invariant_of-self-2 c =
    let old = c.self.inside.names.items in
    let entries = c.self.inside.places.entries in
    let key = c.in_ok-key.key in
    let name = c.in_ok-name.name in
    let absent = absent_name (texts_of old) entries c.args.name.now c.self.invariant.1
    (sym c.contains_key.ensures ∙ c.if-contains_key.false) in
    let at_key : list_any (bytes_eq key.items) (texts_of old) ≡ false =
    ap (λ n. list_any (bytes_eq n) (texts_of old)) c.in_ok-key.ensures.items ∙ absent in
    let at_name : list_any (bytes_eq name.items) (texts_of old) ≡ false =
    ap (λ n. list_any (bytes_eq n) (texts_of old)) c.in_ok-name.ensures.items ∙ absent in
    let counted = c.len.ensures ∙ c.reserve.new.self.ok.0 ∙ ap length c.reserve.ensures.items
    ∙ sym (length-map old (λ n. n.items)) in
    let added = c.push_reserved.ensures.items ∙ ap (λ l. l ++ name ∷ []) c.reserve.ensures.items in
    let same = c.in_ok-key.ensures.items ∙ sym c.in_ok-name.ensures.items in
    let seen : texts_of c.push_reserved.new.self.items ≡ texts_of old ++ key.items ∷ [] =
    ap texts_of added ∙ map-append (λ n. n.items) old (name ∷ []) ∙ ap (λ n. texts_of old ++ n ∷ []) (sym same) in (
      subst (IsDistinct same_name) (sym added) (distinct-push old name c.self.invariant.0 at_name),
      subst (λ names. ArePlaces names c.insert.new.self.entries) (sym seen)
          (places-push (texts_of old) entries c.insert.new.self.entries key c.len.result c.self.invariant.1 at_key
          counted c.in_ok-insert.ensures.updates.1 c.in_ok-insert.ensures.updates.3),
    )

pub returns-clause-added : goal.returns-clause-added
returns-clause-added c =
    let old = c.self.inside.names.items in
    let name = c.in_ok-name.name in
    let absent = absent_name (texts_of old) c.self.inside.places.entries c.args.name.now c.self.invariant.1
    (sym c.contains_key.ensures ∙ c.if-contains_key.false) in
    ap texts_of (c.push_reserved.ensures.items ∙ ap (λ l. l ++ name ∷ []) c.reserve.ensures.items)
    ∙ map-append (λ n. n.items) old (name ∷ [])
    ∙ ap (λ n. texts_of old ++ n ∷ []) c.in_ok-name.ensures.items
    ∙ with_new (texts_of old) c.args.name.now absent
    ∙ ap (λ all. with_name all c.args.name.now) c.self.view_is

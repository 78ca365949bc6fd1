use Rattle.std.proofs.Common.{◌≡◌, ◌++◌, ◌∷◌, [], false, true, None, sym, ap, subst, length, arith, is_some, length-append, ◌∙◌}
use Rattle.std.proofs.lemmas.List.{length-map, map-append}
use Rattle.std.specs.BTreeMap.{is_at}
use Rattle.std.specs.Cmp.Lexicographic.{slice_cmp}
use Rattle.std.specs.List.{list_any}
use Rattle.std.specs.Map.{lookup}
use Rattle.std.specs.Ordering.{nat_cmp}
use Rattle.std.specs.Str.{bytes_eq}
use Rattle.om_lower_rules.specs.Indexes.{AreTextNumbers}
use Rattle.om_lower_rules.specs.Tables.{with_sight}
use Rattle.om_lower_rules.proofs.Cells.{none-is_some}
use Rattle.om_lower_rules.proofs.Indexes.{found-is_some, found-none, text_numbers-push, with_known, with_new}
use Rattle.om_lower_rules.proofs.Places.{texts_of}
use Rattle.om_lower_rules.proofs.texts.Texts.note.Goals as goal

pub returns-then-contains_key : goal.returns-then-contains_key
returns-then-contains_key c =
    let text = c.args.text.now in
    let texts = texts_of c.self.inside.texts.items in
    let known : list_any (bytes_eq text) texts ≡ true =
    sym (found-is_some (bytes_eq text) texts) ∙ ap is_some (sym (c.self.invariant.1 text))
    ∙ sym c.contains_key.ensures ∙ c.if-contains_key.true in
    sym c.self.view_is ∙ with_known bytes_eq texts text known ∙ ap (λ all. with_sight bytes_eq all text) c.self.view_is

pub invariant_of-self-2 : goal.invariant_of-self-2
invariant_of-self-2 c =
    let old = c.self.inside.texts.items in
    let entries = c.self.inside.numbers.entries in
    let key = c.in_ok-key.key in
    let text = c.in_ok-text.text in
    let none = none-is_some _ (sym c.contains_key.ensures ∙ c.if-contains_key.false) in
    let absent : lookup (is_at (λ k. slice_cmp nat_cmp key.items k.items)) entries ≡ None =
    ap (λ t. lookup (is_at (λ k. slice_cmp nat_cmp t k.items)) entries) c.in_ok-key.ensures.items ∙ none in
    let counted = c.len.ensures ∙ c.reserve.new.self.ok.0 ∙ ap length c.reserve.ensures.items
    ∙ sym (length-map old (λ t. t.items)) in
    let added = c.push_reserved.ensures.items ∙ ap (λ l. l ++ text ∷ []) c.reserve.ensures.items in
    let same = c.in_ok-key.ensures.items ∙ sym c.in_ok-text.ensures.items in
    let seen : texts_of c.push_reserved.new.self.items ≡ texts_of old ++ key.items ∷ [] =
    ap texts_of added ∙ map-append (λ t. t.items) old (text ∷ []) ∙ ap (λ t. texts_of old ++ t ∷ []) (sym same) in (
      omega (
        arith,
        ap length added,
        length-append old (text ∷ []),
        sym (length-map old (λ t. t.items)),
        ap length c.self.view_is,
        c.requires,
      ),
      subst (λ table. AreTextNumbers table c.insert.new.self.entries) (sym seen)
          (text_numbers-push (texts_of old) entries c.insert.new.self.entries key c.len.result c.self.invariant.1
          absent counted c.in_ok-insert.ensures.updates.1 c.in_ok-insert.ensures.updates.3),
    )

pub returns : goal.returns
returns c =
    let old = c.self.inside.texts.items in
    let text = c.in_ok-text.text in
    let absent = none-is_some _ (sym c.contains_key.ensures ∙ c.if-contains_key.false) in
    let none : list_any (bytes_eq c.args.text.now) (texts_of old) ≡ false =
    found-none (bytes_eq c.args.text.now) (texts_of old) (sym (c.self.invariant.1 c.args.text.now) ∙ absent) in
    let added = c.push_reserved.ensures.items ∙ ap (λ l. l ++ text ∷ []) c.reserve.ensures.items in
    ap texts_of added ∙ map-append (λ t. t.items) old (text ∷ [])
    ∙ ap (λ t. texts_of old ++ t ∷ []) c.in_ok-text.ensures.items
    ∙ with_new bytes_eq (texts_of old) c.args.text.now none
    ∙ ap (λ all. with_sight bytes_eq all c.args.text.now) c.self.view_is

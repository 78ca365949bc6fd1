use Rattle.std.proofs.Common.{◌≡◌, ◌++◌, ◌∷◌, [], is_some, true, false, sym, ap, ◌∙◌}
use Rattle.std.specs.Str.{bytes_eq}
use Rattle.std.specs.Map.{lookup}
use Rattle.indexmap.proofs.CallerLemmas.{insert_entry-new}
use Rattle.om_lexer.specs.Macros.{macros_of, number_of_macro}
use Rattle.om_lexer.proofs.MacroTables.{lookup-macros_of, macros_of-push, none-is_some, with_known, with_new}
use Rattle.om_lexer.proofs.macros.put.Goals as goal

pub returns-then-contains_key : goal.returns-then-contains_key
returns-then-contains_key c =
    let entries = c.args.numbers.now.entries in
    let name = c.args.name.now in
    let known : is_some (number_of_macro (macros_of entries) name) ≡ true = ap is_some
    (lookup-macros_of (bytes_eq name) entries) ∙ sym c.contains_key.ensures ∙ c.if-contains_key.true in
    sym (with_known (macros_of entries) name c.args.number known)

pub returns : goal.returns
returns c =
    let entries = c.args.numbers.now.entries in
    let name = c.args.name.now in
    let number = c.args.number in
    let key = c.in_ok-from_slice.field-0 in
    let same = c.in_ok-from_slice.ensures.items in
    let unknown : is_some (number_of_macro (macros_of entries) name) ≡ false = ap is_some
    (lookup-macros_of (bytes_eq name) entries) ∙ sym c.contains_key.ensures ∙ c.if-contains_key.false in
    let free = none-is_some (number_of_macro (macros_of entries) name) unknown in
    let absent = sym (lookup-macros_of (bytes_eq key.items) entries)
    ∙ ap (λ bytes. lookup (bytes_eq bytes) (macros_of entries)) same ∙ free in
    ap macros_of (c.in_ok-insert.ensures.entries ∙ insert_entry-new _ c.args.numbers.now key number absent)
    ∙ macros_of-push entries key number
    ∙ ap (λ bytes. macros_of entries ++ (bytes, number) ∷ []) same
    ∙ sym (with_new (macros_of entries) name number unknown)

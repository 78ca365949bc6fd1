use Rattle.std.proofs.Common.{sym, ap, ◌∙◌}
use Rattle.std.specs.Str.{bytes_eq}
use Rattle.om_lexer.specs.Macros.{number_of_macro}
use Rattle.om_lexer.proofs.MacroTables.{lookup-macros_of}
use Rattle.om_lexer.proofs.macros.Macros.number.Goals as goal

pub returns : goal.returns
returns c =
    let name = c.args.name.now in
    c.copied.ensures ∙ c.get.ensures.value ∙ sym (lookup-macros_of (bytes_eq name) c.self.inside.numbers.entries)
    ∙ ap (λ macros. number_of_macro macros name) c.self.view_is

use Rattle.std.proofs.Common.{nat_eq, refl, sym, ap, ◌∙◌}
use Rattle.std.proofs.lemmas.List.{take_rest}
use Rattle.std.specs.List.{starts_with}
use Rattle.om_lexer.proofs.Longest.{starts_from, starts_inside, starts_there}
use Rattle.om_lexer.proofs.hash_line.has_text.Goals as goal

pub returns : goal.returns
returns c =
    let source = c.args.source.now in
    let text = c.args.text.now in
    let rest = take_rest source c.args.from in (
      (λ yes.
          let starts = ap (λ s. starts_with nat_eq s text) (sym rest) ∙ sym c.starts_with.ensures.value ∙ yes in
          (starts_from source text c.args.from starts, refl, starts_inside source text c.args.from c.requires starts)),
      (λ has. c.starts_with.ensures.value ∙ ap (λ s. starts_with nat_eq s text) rest ∙ starts_there source text
          c.args.from has.0),
    )

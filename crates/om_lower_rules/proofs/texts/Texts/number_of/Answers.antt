use Rattle.std.proofs.Common.{◌≡◌, sym, ap, arith, ◌∙◌}
use Rattle.std.proofs.lemmas.List.{length-map}
use Rattle.std.specs.Option.{unwrap_or}
use Rattle.std.specs.Str.{bytes_eq}
use Rattle.om_lower_rules.specs.Tables.{found_in, number_in}
use Rattle.om_lower_rules.proofs.Indexes.{found-number}
use Rattle.om_lower_rules.proofs.Places.{number_least, texts_of}
use Rattle.om_lower_rules.proofs.texts.Texts.number_of.Goals as goal
use Rattle.om_lower_rules.proofs.texts.Texts.number_of.Goals.{After-unwrap_or}

-- the number of the text, or of all of them
number : (c : After-unwrap_or) → c.unwrap_or.result ≡ number_in (bytes_eq c.args.text.now)
    (texts_of c.self.inside.texts.items)
number c =
    let text = c.args.text.now in
    let texts = c.self.inside.texts.items in
    c.unwrap_or.ensures
    ∙ ap (λ found. unwrap_or found c.len.result)
    (c.copied-number.ensures ∙ c.get.ensures.value ∙ c.self.invariant.1 text)
    ∙ ap (λ all. unwrap_or (found_in (bytes_eq text) (texts_of texts)) all)
    (c.len.ensures ∙ c.self.inside.texts.ok.0 ∙ sym (length-map texts (λ t. t.items)))
    ∙ found-number (bytes_eq text) (texts_of texts)

pub overflow_cast-result : goal.overflow_cast-result
overflow_cast-result c =
    let texts = c.self.inside.texts.items in
    omega (
      arith,
      number c,
      number_least (bytes_eq c.args.text.now) (texts_of texts),
      length-map texts (λ t. t.items),
      c.self.invariant.0,
    )

pub returns : goal.returns
returns c = number c ∙ ap (λ texts. number_in (bytes_eq c.args.text.now) texts) c.self.view_is

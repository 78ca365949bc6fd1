-- With one piece more, what is left gives the whole answer still.
use Rattle.std.proofs.Common.{◌≡◌, ℕ, ◌+◌, List, ◌∷◌, drop, sym, ap, ◌∙◌}
use Rattle.lab_port_words.specs.declared.class.Class.{Class}
use Rattle.lab_port_context.specs.declared.context.Context.{Context}
use Rattle.lab_port_context.specs.declared.facts.Facts.{Facts}
use Rattle.lab_port_context.specs.Contexts.{context_behind}
use Rattle.lab_port_context.specs.Facts.{facts_with, facts_from}

pub facts_on : (all : List Class) (i : ℕ) (facts more total : Facts) (context next : Context) (c : Class)
    → drop i all ≡ c ∷ drop (i + 1) all
    → more ≡ facts_with facts context c (drop (i + 1) all)
    → next ≡ context_behind context c
    → facts_from facts context (drop i all) ≡ total
    → facts_from more next (drop (i + 1) all) ≡ total
facts_on all i facts more total context next c there found moved read =
    let rest = drop (i + 1) all in
    ap (λ f. facts_from f next rest) found
    ∙ ap (λ x. facts_from (facts_with facts context c rest) x rest) moved
    ∙ ap (facts_from facts context) (sym there)
    ∙ read

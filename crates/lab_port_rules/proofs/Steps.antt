-- With one piece more, what is left gives the whole answer still.
use Rattle.std.proofs.Common.{◌≡◌, ℕ, ◌+◌, List, ◌∷◌, [], ◌++◌, drop, sym, ap, ◌∙◌, append_assoc}
use Rattle.lab_port_words.specs.declared.class.Class.{Class}
use Rattle.lab_port_context.specs.declared.facts.Facts.{Facts}
use Rattle.lab_port_rules.specs.declared.mark.Mark.{Mark}
use Rattle.lab_port_rules.specs.declared.mark.Place.{Place}
use Rattle.lab_port_rules.specs.Marks.{mark_here, place_behind, marks_from}

pub marks_on : (facts : Facts) (all : List Class) (i : ℕ) (place next : Place) (c : Class) (mark : Mark)
    (done more total : List Mark)
    → drop i all ≡ c ∷ drop (i + 1) all
    → mark ≡ mark_here facts place c (drop (i + 1) all)
    → next ≡ place_behind place mark c
    → more ≡ done ++ (mark ∷ [])
    → done ++ marks_from facts place (drop i all) ≡ total
    → more ++ marks_from facts next (drop (i + 1) all) ≡ total
marks_on facts all i place next c mark done more total there is moved pushed read =
    let rest = drop (i + 1) all in
    ap (λ l. l ++ marks_from facts next rest) pushed
    ∙ append_assoc done (mark ∷ []) (marks_from facts next rest)
    ∙ ap (λ p. done ++ (mark ∷ marks_from facts p rest)) moved
    ∙ ap (λ m. done ++ (m ∷ marks_from facts (place_behind place m c) rest)) is
    ∙ ap (λ l. done ++ marks_from facts place l) (sym there)
    ∙ read

-- Names as replies keep them.
use Rattle.std.specs.Prelude.{ℕ, List, [], ◌∷◌}
use Rattle.om_book_journal.specs.declared.name.NameForms.{NameForms}
use Rattle.om_book_journal.specs.declared.name.NameForms.TheVariants as forms

-- the name of these forms
abbrev pub name_in : NameForms → List ℕ
name_in (forms.One first) = first ∷ []
name_in (forms.Two first second) = first ∷ second ∷ []
name_in (forms.Three first second third) = first ∷ second ∷ third ∷ []
name_in (forms.Four first second third fourth) = first ∷ second ∷ third ∷ fourth ∷ []
name_in (forms.Other name) = name.value

-- Lists that agree item by item.
use Rattle.std.proofs.Common.{◌≡◌, sym, ◌∙◌, ap, List}
use Rattle.std.proofs.Common.{reverse}
use Rattle.std.proofs.lemmas.List.{reverse-reverse}

pub same_reversed : {X : Type 0} (xs ys us vs : List X) → reverse us ≡ xs → reverse vs ≡ ys → xs ≡ ys → us ≡ vs
same_reversed xs ys us vs a b e = sym (reverse-reverse us) ∙ ap reverse (a ∙ e ∙ sym b) ∙ reverse-reverse vs

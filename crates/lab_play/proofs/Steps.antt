-- The steps of blocks, as blocks are added.
use Rattle.std.proofs.Common.{◌≡◌, refl, sym, ◌∙◌, ap, List, [], ◌∷◌, ◌++◌, append-nil}
use Rattle.std.proofs.lemmas.List.{append_assoc}
use Rattle.lab_schedules.specs.declared.block.Block.{Block}
use Rattle.lab_schedules.specs.Schedules.{labels_in, labels_of}

pub labels_append : (xs ys : List Block) → labels_of (xs ++ ys) ≡ labels_of xs ++ labels_of ys
labels_append [] ys = refl
labels_append (x ∷ xs) ys =
    ap (λ ls. labels_in x ++ ls) (labels_append xs ys)
    ∙ sym (append_assoc (labels_in x) (labels_of xs) (labels_of ys))

pub labels_push : (xs : List Block) (x : Block) → labels_of (xs ++ x ∷ []) ≡ labels_of xs ++ labels_in x
labels_push xs x = labels_append xs (x ∷ []) ∙ ap (λ ls. labels_of xs ++ ls) (append-nil (labels_in x))

-- Formats, cut piece by piece.
use Rattle.std.proofs.Common.{◌≡◌, ℕ, Bool, true, false, List, [], ◌∷◌, ◌++◌, Option, None, Some, length}
use Rattle.std.proofs.Common.{option_map, if◌then◌else◌, refl, sym, ap, ◌∙◌}
use Rattle.om_code.specs.declared.raw.Piece.TheVariants as pieces
use Rattle.om_lower.specs.declared.texts.Cut.{Cut}
use Rattle.om_lower.specs.Texts.{behind_cut, cut_behind, with_run}
use Rattle.om_scope_tree.specs.Formats.{Piece, Value, pieces_of}

on_option : {A B C : Type 0} (f : A → C) (g : B → C) (h : A → B) (x : Option A) → ((a : A) → g (h a) ≡ f a)
    → option_map g (option_map h x) ≡ option_map f x
on_option f g h None same = refl
on_option f g h (Some a) same = ap (λ c. Some c) (same a)

-- what a byte behind a `%` comes to
pub value_or : (old new : Cut) (is : Bool) (some other : Option (List Piece)) → is ≡ true
    → ((rest : List Piece) → behind_cut new rest ≡ behind_cut old (Value ∷ rest))
    → option_map (behind_cut old) (if is then option_map (λ pieces. Value ∷ pieces) some else other)
    ≡ option_map (behind_cut new) some
value_or old new true some other is same =
    on_option (behind_cut new) (behind_cut old) (λ pieces. Value ∷ pieces) some (λ rest. sym (same rest))
value_or old new false some other is same = cc

nothing_left : (left : List ℕ) → length left ≡ 0 → left ≡ []
nothing_left [] none = refl
nothing_left (byte ∷ left) none = cc

at_end : (cut : Cut) → cut_behind cut [] ≡ Some (cut.pieces.items ++ with_run cut.run.items [])
unfolding pieces_of
at_end cut = refl

-- all of a format is cut
pub cut_whole : (old cut new : Cut) (format left : List ℕ) → cut_behind cut left ≡ cut_behind old format
    → length left ≡ 0
    → new.pieces.items ≡ cut.pieces.items ++ with_run cut.run.items []
    → cut_behind old format ≡ Some new.pieces.items
cut_whole old cut new format left same none flushed =
    sym same ∙ ap (λ rest. cut_behind cut rest) (nothing_left left none) ∙ at_end cut
    ∙ ap (λ pieces. Some pieces) (sym flushed)

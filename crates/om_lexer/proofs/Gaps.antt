-- White space: one piece of it at most begins at a byte, and one gap.
use Rattle.std.proofs.Common.{◌≡◌, ℕ, ◌+◌, ◌<◌, ◌≤◌, true, false, List, [], ◌∷◌, ◌++◌, Option, None, Some, IfNone}
use Rattle.std.proofs.Common.{length, arith, refl, sym, ap, subst, ◌∙◌, ⊎_elim, inl, inr, slice_index}
use Rattle.std.proofs.lemmas.List.{get_or_past}
use Rattle.std.proofs.lemmas.Bool.{cases_lt, cases_order}
use Rattle.om_lexer.specs.Characters.{is_blank}
use Rattle.om_lexer.specs.WhiteSpace.{IsLineEnd, IsSpace, IsBlockComment, IsLineComment, IsComment, BeginsComment}
use Rattle.om_lexer.specs.WhiteSpace.{IsWhiteSpace, Spaces, IsGap}
use Rattle.om_lexer.proofs.Beginnings.{no_blank_at}

-- a byte other than 0 is one of the source
pub byte_inside : (source : List ℕ) (k : ℕ) → 0 < slice_index source k → k < length source
byte_inside source k some = ⊎_elim (λ inside. inside) (λ past. let none = get_or_past source k 0 past in absurd
    (omega arith)) (cases_lt k (length source))

pub none_weaker : {T P Q : Type 0} (r : Option T) → (P → Q) → IfNone r P → IfNone r Q
none_weaker None f p = f p
none_weaker (Some x) f p = p

pub blank_positive : (b : ℕ) → is_blank b ≡ true → 0 < b
unfolding is_blank
blank_positive b blank = ⊎_elim (λ positive. positive) (λ zero. absurd (no_blank_at b 0 (omega arith) refl blank))
    (cases_lt 0 b)

module _ (source : List ℕ) (from : ℕ) where
  -- behind a backslash only a line end makes white space
  pub backslash_white : slice_index source from ≡ 92 → ((to : ℕ) → IsLineEnd source (from + 1) to → ⊥) → (to : ℕ)
      → IsWhiteSpace source from to → ⊥
  unfolding is_blank
  backslash_white backslash no_line_end to white =
      ⊎_elim
      (λ space. ⊎_elim (λ blank. no_blank_at _ 92 backslash refl blank.0) (λ continued. no_line_end to continued.1)
      space)
      (λ comment. ⊎_elim (λ block. omega (arith, backslash, block.slash))
      (λ line. omega (arith, backslash, line.slashes.0)) comment)
      white

  -- with a slash only a comment makes white space
  pub slash_white : slice_index source from ≡ 47 → ((to : ℕ) → IsComment source from to → ⊥) → (to : ℕ)
      → IsWhiteSpace source from to → ⊥
  unfolding is_blank
  slash_white slash no_comment to white =
      ⊎_elim
      (λ space. ⊎_elim (λ blank. no_blank_at _ 47 slash refl blank.0)
      (λ continued. omega (arith, slash, continued.0)) space)
      (no_comment to)
      white

  pub star_comment : slice_index source (from + 1) ≡ 42 → ((to : ℕ) → IsBlockComment source from to → ⊥) → (to : ℕ)
      → IsComment source from to → ⊥
  star_comment star no_block to comment = ⊎_elim (no_block to) (λ line. omega (arith, star, line.slashes.1)) comment

  comment_slash : (to : ℕ) → IsComment source from to → slice_index source from ≡ 47
  comment_slash to comment = ⊎_elim (λ block. block.slash) (λ line. line.slashes.0) comment

  pub comment_begins : (to : ℕ) → IsComment source from to → BeginsComment source from
  comment_begins to comment = ⊎_elim (λ block. (block.slash, inl block.star))
      (λ line. (line.slashes.0, inr line.slashes.1)) comment

  -- with these bytes no white space begins
  pub no_white : (n : ℕ) → slice_index source from ≡ n → is_blank n ≡ false → (n ≡ 92 → ⊥) → (n ≡ 47 → ⊥) → (to : ℕ)
      → IsWhiteSpace source from to → ⊥
  no_white n same no_blank no_backslash no_slash to white =
      ⊎_elim
      (λ space. ⊎_elim (λ blank. no_blank_at _ n same no_blank blank.0)
      (λ continued. no_backslash (sym same ∙ continued.0)) space)
      (λ comment. no_slash (sym same ∙ comment_slash to comment))
      white

  line_end_one : (a b at : ℕ) → IsLineEnd source at a → IsLineEnd source at b → a ≡ b
  line_end_one a b at x y =
      ⊎_elim
      (λ e. ⊎_elim (λ f. e.1 ∙ sym f.1) (λ f. absurd (omega (arith, e.0, f.0))) y)
      (λ e. ⊎_elim (λ f. absurd (omega (arith, e.0, f.0))) (λ f. e.2 ∙ sym f.2) y)
      x

  space_one : (a b : ℕ) → IsSpace source from a → IsSpace source from b → a ≡ b
  unfolding is_blank
  space_one a b x y =
      ⊎_elim
      (λ e. ⊎_elim (λ f. e.1 ∙ sym f.1) (λ f. absurd (no_blank_at _ 92 f.0 refl e.0)) y)
      (λ e. ⊎_elim (λ f. absurd (no_blank_at _ 92 e.0 refl f.0)) (λ f. line_end_one a b (from + 1) e.1 f.1) y)
      x

  block_one : (a b : ℕ) → IsBlockComment source from a → IsBlockComment source from b → a ≡ b
  block_one a b x y =
      ⊎_elim
      (λ same. x.end ∙ ap (λ n. n + 2) same ∙ sym y.end)
      (⊎_elim (λ below. absurd (y.first x.last x.behind below x.last_star x.last_slash))
      (λ above. absurd (x.first y.last y.behind above y.last_star y.last_slash)))
      (cases_order x.last y.last)

  line_one : (a b : ℕ) → IsLineComment source from a → IsLineComment source from b → a ≡ b
  line_one a b x y =
      ⊎_elim
      (λ same. same)
      (⊎_elim (λ below. absurd (y.one_line a (omega (arith, x.behind)) below (x.ends (omega (arith, y.inside)))))
      (λ above. absurd (x.one_line b (omega (arith, y.behind)) above (y.ends (omega (arith, x.inside))))))
      (cases_order a b)

  comment_one : (a b : ℕ) → IsComment source from a → IsComment source from b → a ≡ b
  comment_one a b x y =
      ⊎_elim
      (λ e. ⊎_elim (block_one a b e) (λ f. absurd (omega (arith, e.star, f.slashes.1))) y)
      (λ e. ⊎_elim (λ f. absurd (omega (arith, f.star, e.slashes.1))) (line_one a b e) y)
      x

  space_comment : (a b : ℕ) → IsSpace source from a → IsComment source from b → ⊥
  unfolding is_blank
  space_comment a b space comment = ⊎_elim (λ blank. no_blank_at _ 47 (comment_slash b comment) refl blank.0)
      (λ continued. omega (arith, continued.0, comment_slash b comment)) space

  pub white_one : (a b : ℕ) → IsWhiteSpace source from a → IsWhiteSpace source from b → a ≡ b
  white_one a b x y =
      ⊎_elim
      (λ e. ⊎_elim (space_one a b e) (λ f. absurd (space_comment a b e f)) y)
      (λ e. ⊎_elim (λ f. absurd (space_comment b a f e)) (comment_one a b e) y)
      x

  pub white_moves : (to : ℕ) → IsWhiteSpace source from to → from < to
  white_moves to white =
      ⊎_elim
      (λ space. ⊎_elim (λ blank. omega (arith, blank.1)) (λ continued. ⊎_elim (λ e. omega (arith, e.1))
      (λ e. omega (arith, e.2)) continued.1) space)
      (λ comment. ⊎_elim (λ block. omega (arith, block.behind, block.end)) (λ line. omega (arith, line.behind)) comment)
      white

  pub white_inside : (to : ℕ) → from < length source → IsWhiteSpace source from to → to ≤ length source
  white_inside to inside white =
      ⊎_elim
      (λ space. ⊎_elim (λ blank. omega (arith, blank.1))
      (λ continued. ⊎_elim
      (λ e. let there = byte_inside source (from + 1) (omega (arith, e.0)) in omega (arith, there, e.1))
      (λ e. let there = byte_inside source (from + 1 + 1) (omega (arith, e.1)) in omega (arith, there, e.2))
      continued.1)
      space)
      (λ comment. ⊎_elim (λ block. let there = byte_inside source (block.last + 1)
      (omega (arith, block.last_slash)) in omega (arith, there, block.end)) (λ line. line.inside) comment)
      white

pub spaces_more : (source : List ℕ) (from mid to : ℕ) (ends : List ℕ) → Spaces source from ends mid
    → IsWhiteSpace source mid to → Spaces source from (ends ++ to ∷ []) to
spaces_more source from mid to [] spaces white = (subst (λ n. IsWhiteSpace source n to) (sym spaces) white, refl)
spaces_more source from mid to (end ∷ ends) spaces white = (spaces.0, spaces_more source end mid to ends spaces.1 white)

spaces_one : (source : List ℕ) (from a b : ℕ) (xs ys : List ℕ) → Spaces source from xs a → Spaces source from ys b
    → ((more : ℕ) → IsWhiteSpace source a more → ⊥) → ((more : ℕ) → IsWhiteSpace source b more → ⊥) → a ≡ b
spaces_one source from a b [] [] x y ends_a ends_b = sym x ∙ y
spaces_one source from a b [] (m ∷ ys) x y ends_a ends_b = absurd
    (ends_a m (subst (λ n. IsWhiteSpace source n m) x y.0))
spaces_one source from a b (k ∷ xs) [] x y ends_a ends_b = absurd
    (ends_b k (subst (λ n. IsWhiteSpace source n k) y x.0))
spaces_one source from a b (k ∷ xs) (m ∷ ys) x y ends_a ends_b =
    let same = white_one source from k m x.0 y.0 in
    spaces_one source m a b xs ys (subst (λ n. Spaces source n xs a) same x.1) y.1 ends_a ends_b

pub gap_one : (source : List ℕ) (from a b : ℕ) → IsGap source from a → IsGap source from b → a ≡ b
gap_one source from a b x y = spaces_one source from a b x.ends y.ends x.spaces y.spaces x.no_more y.no_more

-- gaps that begin at one byte, told by an equation
pub gap_same : (source : List ℕ) (f g a b : ℕ) → f ≡ g → IsGap source f a → IsGap source g b → a ≡ b
gap_same source f g a b same x y = gap_one source g a b (subst (λ n. IsGap source n a) same x) y

spaces_rise : (source : List ℕ) (from to : ℕ) (ends : List ℕ) → Spaces source from ends to → from ≤ to
spaces_rise source from to [] x = omega (arith, x)
spaces_rise source from to (end ∷ ends) x = omega (
  arith,
  white_moves source from end x.0,
  spaces_rise source end to
      ends x.1,
)

pub gap_rises : (source : List ℕ) (from to : ℕ) → IsGap source from to → from ≤ to
gap_rises source from to gap = spaces_rise source from to gap.ends gap.spaces

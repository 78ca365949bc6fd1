-- A whole tree has code, and a tree of which there is code has code.
use Rattle.std.proofs.Common.{◌≡◌, ℕ, zero, suc, ◌<◌, Bool, false, true, List, [], ◌∷◌, ◌++◌, length, Option, Some, None}
use Rattle.std.proofs.Common.{refl, sym, ap, ◌∙◌, arith}
use Rattle.std.specs.Prelude.{All, Any, IsSome, IsSomeAnd, map, option_map, position, slice_get}
use Rattle.std.specs.List.{AllZip}
use Rattle.std.specs.Str.{bytes_eq}
use Rattle.std.proofs.lemmas.List.Quantifiers.{position-Some}
use Rattle.std.proofs.lemmas.Option.{get_or_from_slice_get, slice_get_within}
use Rattle.std.proofs.lemmas.List.Elements.{All-nil, All-cons, All-append}
use Rattle.om_code.specs.declared.raw.Body.{Body}
use Rattle.om_code.specs.declared.raw.Piece as texts
use Rattle.om_code.specs.declared.raw.Raw.{Raw}
use Rattle.om_scope_tree.specs.Formats.{Piece, pieces_of, IsFormat, value_count}
use Rattle.om_scope_tree.specs.ResolvedTree.{ResolvedExpressionTree, Constant, Variable, Element, Call, ThreadNumber}
use Rattle.om_scope_tree.specs.ResolvedTree.{TeamSize, Print, Unary, Binary, Conditional, Assign, AssignElement, Postfix}
use Rattle.om_scope_tree.specs.ResolvedTree.{PostfixElement, ValuesTree, NoValues, Value, ResolvedTree}
use Rattle.om_scope_tree.specs.Uses.{is_main_function}
use Rattle.om_scope_tree.specs.Whole.{Around, IsWhole, AreWhole, count_of}
use Rattle.om_lower_rules.specs.Bodies.{BodySite, bodies_of, first_numbers, called_body}
use Rattle.om_lower_rules.specs.Code.{site_of, IsBodyOf}
use Rattle.om_lower_rules.specs.Coded.{BodyIsCoded}
use Rattle.om_lower_rules.specs.Laws.{WholeHasCode, RowsHaveCode}
use Rattle.om_lower_rules.specs.Mentions.{expression_formats, values_formats, format_mention, formats_of, tree_mentioned}
use Rattle.om_lower_rules.specs.Mentions.{IsTextOf, text_piece}
use Rattle.om_lower_rules.proofs.RowsCode.{body_says}
use Rattle.om_lower_rules.proofs.WholeCode.{whole_bodies}
use Rattle.om_lower_rules.proofs.WholeMentions.{table_all, functions_all}

abbrev IsCut : List ℕ → Type 0
IsCut format = IsSome (pieces_of format)

format_cut : (format : List ℕ) (count : ℕ) → IsFormat format count → IsCut format
format_cut format count w = cut (pieces_of format) w
  where
    cut : (pieces : Option (List Piece)) → IsSomeAnd pieces (λ p. value_count p ≡ count) → IsSome pieces
    cut None w = absurd w
    cut (Some p) w = refl

mutual
  unfolding expression_formats values_formats

  expression_cut : (e : ResolvedExpressionTree) (around : Around) (used : Bool) → IsWhole around used e
      → All IsCut (expression_formats e)
  expression_cut (Constant n) around used w = All-nil IsCut
  expression_cut (Variable x) around used w = All-nil IsCut
  expression_cut (Element a j) around used w = expression_cut j around true w.1
  expression_cut (Call f es) around used w = values_cut es around w.1
  expression_cut ThreadNumber around used w = All-nil IsCut
  expression_cut TeamSize around used w = All-nil IsCut
  expression_cut (Print format es) around used w =
      All-cons IsCut format (values_formats es) (format_cut format (count_of es) w.1) (values_cut es around w.3)
  expression_cut (Unary o e) around used w = expression_cut e around true w
  expression_cut (Binary a o b) around used w =
      All-append IsCut (expression_formats a) (expression_formats b) (expression_cut a around true w.0)
      (expression_cut b around true w.1)
  expression_cut (Conditional c a b) around used w =
      All-append IsCut (expression_formats c) (expression_formats a ++ expression_formats b)
      (expression_cut c around true w.0)
      (All-append IsCut (expression_formats a) (expression_formats b) (expression_cut a around true w.1)
      (expression_cut b around true w.2))
  expression_cut (Assign x o e) around used w = expression_cut e around true w.1
  expression_cut (AssignElement a j o e) around used w =
      All-append IsCut (expression_formats j) (expression_formats e) (expression_cut j around true w.1)
      (expression_cut e around true w.2)
  expression_cut (Postfix x o) around used w = All-nil IsCut
  expression_cut (PostfixElement a j o) around used w = expression_cut j around true w.1

  values_cut : (es : ValuesTree) (around : Around) → AreWhole around es → All IsCut (values_formats es)
  values_cut NoValues around w = All-nil IsCut
  values_cut (Value e rest) around w =
      All-append IsCut (expression_formats e) (values_formats rest) (expression_cut e around true w.0)
      (values_cut rest around w.1)

pub whole_has_code : WholeHasCode
whole_has_code tree w a = record {
  bodies = whole_bodies tree.globals tree.functions tree.functions first_numbers w.functions w.functions a;
  formats = table_all IsCut bytes_eq (tree_mentioned format_mention tree) [] (All-nil IsCut)
      (functions_all format_mention IsCut expression_cut (λ d w. All-nil IsCut) (λ at kind. All-nil IsCut) tree.globals
      tree.functions tree.functions w.functions);
  main = (w.main.0, w.main.1, w.main.2, w.main.3, w.main.4.named);
}

-- ---- from code

module _ (tree : ResolvedTree) (raw : Raw) where
  bodies_say : (bs : List BodySite) (xs : List Body) → AllZip (IsBodyOf tree raw) bs xs
      → All (λ b. BodyIsCoded false b.function b.tree) bs
  bodies_say [] xs a = All-nil (λ b. BodyIsCoded false b.function b.tree)
  bodies_say (b ∷ bs) [] a = absurd a
  bodies_say (b ∷ bs) (x ∷ xs) a =
      All-cons (λ b. BodyIsCoded false b.function b.tree) b bs (body_says (site_of tree raw b x) b.numbers b.function
      b.tree 0 _ a.0.code) (bodies_say bs xs a.1)

texts_say : (formats : List (List ℕ)) (xs : List (List texts.Piece)) → AllZip IsTextOf formats xs → All IsCut formats
texts_say [] xs a = All-nil IsCut
texts_say (f ∷ fs) [] a = absurd a
texts_say (f ∷ fs) (x ∷ xs) a = All-cons IsCut f fs (cut (pieces_of f) a.0) (texts_say fs xs a.1)
  where
    cut : (pieces : Option (List Piece)) → option_map (map text_piece) pieces ≡ Some x → IsSome pieces
    cut None e = absurd cc
    cut (Some p) e = refl

pub element_there : {A : Type 0} (xs : List A) (k : ℕ) → k < length xs → (x : A) × (slice_get xs k ≡ Some x)
element_there [] k lt = absurd (omega (arith, lt))
element_there (x ∷ xs) zero lt = (x, refl)
element_there (x ∷ xs) (suc k) lt = element_there xs k (omega (arith, lt))

-- where the first that passes is, one passes
pub position_there : {A : Type 0} (test : A → Bool) (xs : List A) (k : ℕ) → position test xs ≡ Some k → (x : A)
    × (slice_get xs k ≡ Some x) × (test x ≡ true)
position_there {A} test xs k e = first xs refl e
  where
    -- a default of the type is at hand only where there is an element
    first : (ys : List A) → xs ≡ ys → position test ys ≡ Some k → (x : A) × (slice_get xs k ≡ Some x) × (test x ≡ true)
    first [] same e = absurd cc
    first (d ∷ ds) same e =
        let at = position-Some test (d ∷ ds) k d e in
        let x = element_there (d ∷ ds) k at.0 in
        (x.0, ap (λ z. slice_get z k) same ∙ x.1, ap test (sym (get_or_from_slice_get (d ∷ ds) k x.0 d x.1)) ∙ at.1)

pub mapped_there : {A B : Type 0} (f : A → B) (o : Option A) (y : B) → option_map f o ≡ Some y → (x : A)
    × (o ≡ Some x) × (f x ≡ y)
mapped_there f None y e = absurd cc
mapped_there f (Some x) y e = (x, refl, cc e)

main_says : (tree : ResolvedTree) (m : ℕ) → option_map (called_body tree.functions)
    (position is_main_function tree.functions) ≡ Some m
    → Any (λ function. is_main_function function ≡ true) tree.functions
main_says tree m e =
    let k = mapped_there (called_body tree.functions) (position is_main_function tree.functions) m e in
    let x = position_there is_main_function tree.functions k.0 k.1 in
    (k.0, x.0, slice_get_within tree.functions k.0 x.0 x.1, get_or_from_slice_get tree.functions k.0 x.0 x.0 x.1, x.2)

pub rows_have_code : RowsHaveCode
rows_have_code tree raw a = record {
  bodies = bodies_say tree raw (bodies_of tree) raw.bodies a.bodies;
  formats = texts_say (formats_of tree) raw.texts a.texts;
  main = main_says tree raw.main a.main;
}

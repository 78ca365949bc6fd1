-- What the code of an expression names exists.
use Rattle.std.proofs.Common.{◌≡◌, ℕ, ◌+◌, ◌<◌, ℤ, pos, Bool, true, false, List, [], ◌∷◌, ◌++◌, length, Option, Some}
use Rattle.std.proofs.Common.{None, refl, sym, ap, ◌∙◌, subst, zero, suc, arith}
use Rattle.std.specs.Prelude.{slice_get, map, option_map, nat_eq, IsSomeAnd}
use Rattle.std.specs.List.{AllZip, list_any}
use Rattle.std.specs.Str.{bytes_eq}
use Rattle.std.proofs.lemmas.Bool.{eq-eqb}
use Rattle.std.proofs.lemmas.List.{length-map}
use Rattle.std.proofs.lemmas.Option.{slice_get_within}
use Rattle.std.proofs.lemmas.Slice.Eq.{bytes_eq-Decides}
use Rattle.om_code.specs.declared.instruction.BinaryOperator as machine
use Rattle.om_code.specs.declared.raw.Piece as texts
use Rattle.om_code.specs.declared.raw.Raw.{Raw}
use Rattle.om_code.specs.declared.raw.Slot.{Slot}
use Rattle.om_code.specs.Validity.{IsKnownPlace, IsKnownText, IsKnownBody}
use Rattle.om_code.specs.Validity as validity
use Rattle.om_scope_tree.specs.declared.resolved.GlobalVariable.{GlobalVariable}
use Rattle.om_scope_tree.specs.declared.resolved.Shape.{Shape}
use Rattle.om_scope_tree.specs.declared.resolved.UnaryOperator.{UnaryOperator}
use Rattle.om_scope_tree.specs.declared.resolved.UnaryOperator.TheVariants as unaries
use Rattle.om_scope_tree.specs.declared.resolved.Variable as variables
use Rattle.om_scope_tree.specs.declared.resolved.Variable.TheVariants as named
use Rattle.om_scope_tree.specs.Captures.{variable_uses, expression_uses, values_uses}
use Rattle.om_scope_tree.specs.Formats as formats
use Rattle.om_scope_tree.specs.Formats.{Piece, Bytes, pieces_of, IsFormat}
use Rattle.om_scope_tree.specs.ResolvedTree.{ResolvedExpressionTree, Constant, Variable, Element, Call, ThreadNumber}
use Rattle.om_scope_tree.specs.ResolvedTree.{TeamSize, Print, Unary, Binary, Conditional, Assign, AssignElement, Postfix}
use Rattle.om_scope_tree.specs.ResolvedTree.{PostfixElement, ValuesTree, NoValues, Value, ResolvedFunctionTree}
use Rattle.om_scope_tree.specs.ResolvedTree.{ResolvedTree}
use Rattle.om_scope_tree.specs.Whole.{Around, IsInScope, IsWhole, AreWhole, IsCalled, shape_of}
use Rattle.om_lower_rules.specs.Bodies.{called_body}
use Rattle.om_lower_rules.specs.Code.{global_of}
use Rattle.om_lower_rules.specs.Expressions.{value_count, constant, unary_row, binary_row, conditional_row, assigned}
use Rattle.om_lower_rules.specs.Expressions.{element_assigned, called, value, values, effect}
use Rattle.om_lower_rules.specs.Mentions.{expression_formats, values_formats, IsTextOf, text_piece}
use Rattle.om_lower_rules.specs.Operators.{BinaryForm, Both, Either, Plain, form_of, compound_of, step_of}
use Rattle.om_lower_rules.specs.Rows.{Site, Row}
use Rattle.om_lower_rules.specs.Slots.{place, slot_of}
use Rattle.om_lower_rules.specs.Tables.{number_in}
use Rattle.om_lower_rules.proofs.Named.{Named, named_end, named_ins, named_part, number_found, Has, has_front, has_back}
use Rattle.om_lower_rules.proofs.WholeCode.{same_count}

-- what the code of a body can count on: its slots, the globals, texts and functions of its program
pub record Program (tree : ResolvedTree) (raw : Raw) (at : Site) (slots : List Slot) : Type 0 where
  pub globals : raw.globals ≡ map global_of tree.globals
  pub texts : AllZip IsTextOf at.formats raw.texts
  pub slot_count : length slots ≡ length at.slots
  pub calls : (f count : ℕ) → IsSomeAnd (slice_get tree.functions f) (λ function. length function.parameters ≡ count)
      → IsKnownBody raw.bodies [] (called_body at.functions f) count

pub same_nat : (x : ℕ) → nat_eq x x ≡ true
same_nat x = eq-eqb x x refl

pub same_bytes : (x : List ℕ) → bytes_eq x x ≡ true
same_bytes x = (bytes_eq-Decides x x).1 refl

text_count : (format : List Piece) → validity.value_count (map text_piece format) ≡ formats.value_count format
text_count [] = refl
text_count (Bytes text ∷ rest) = text_count rest
text_count (formats.Value ∷ rest) = let e = text_count rest in omega arith

text_there : (all : List (List ℕ)) (xs : List (List texts.Piece)) (k : ℕ) (format : List ℕ) → AllZip IsTextOf all xs
    → slice_get all k ≡ Some format
    → (text : List texts.Piece) × (slice_get xs k ≡ Some text) × IsTextOf format text
text_there [] xs k format zip is = absurd cc
text_there (f ∷ fs) [] k format zip is = absurd zip
text_there (f ∷ fs) (x ∷ xs) zero format zip is = let e : f ≡ format = cc is in
    (x, refl, subst (λ z. IsTextOf z x) e zip.0)
text_there (f ∷ fs) (x ∷ xs) (suc k) format zip is = text_there fs xs k format zip.1 is

module _ (tree : ResolvedTree) (raw : Raw) (at : Site) (slots : List Slot) (program : Program tree raw at slots) where
  abbrev pub Names : Row → Type 0
  Names r = (p q : ℕ) → r p q → Named raw slots at.code p q

  pub slot_there : (x : ℕ) → list_any (nat_eq x) at.slots ≡ true → slot_of at.slots x < length slots
  slot_there x e = let found = number_found (nat_eq x) at.slots e in omega
      (arith, slice_get_within at.slots (slot_of at.slots x) found.0 found.1, program.slot_count)

  global_there : (globals : List GlobalVariable) (n : ℕ) (shape : Shape) → globals ≡ tree.globals
      → option_map (λ (global : GlobalVariable). shape_of global.length) (slice_get globals n) ≡ Some shape
      → n < length raw.globals
  global_there globals n shape same is = found (slice_get globals n) refl is
    where
      found : (g : Option GlobalVariable) → slice_get globals n ≡ g
          → option_map (λ (global : GlobalVariable). shape_of global.length) g ≡ Some shape → n < length raw.globals
      found None e is = absurd cc
      found (Some g) e is =
          omega (
            arith,
            slice_get_within globals n g e,
            ap (λ z. length z) same,
            ap (λ z. length z) program.globals,
            length-map tree.globals global_of,
          )

  -- a variable in scope that the slots have
  pub place_there : (around : Around) (shape : Shape) (x : variables.Variable) → around.globals ≡ tree.globals
      → IsInScope around shape x
      → Has nat_eq at.slots (variable_uses x) → IsKnownPlace raw.globals slots (place at x)
  place_there around shape (named.Global n) g w h = global_there around.globals n shape g w
  place_there around shape (named.Local x) g w h = slot_there x h.0

  text_known : (format : List ℕ) (count : ℕ) → list_any (bytes_eq format) at.formats ≡ true → IsFormat format count
      → IsKnownText raw.texts (number_in (bytes_eq format) at.formats) count
  text_known format count e w =
      let found = number_found (bytes_eq format) at.formats e in
      let same : format ≡ found.0 = (bytes_eq-Decides format found.0).0 found.2 in
      let text = text_there at.formats raw.texts (number_in (bytes_eq format) at.formats) found.0 program.texts
      found.1 in
      subst (λ z. IsSomeAnd z (λ p. validity.value_count p ≡ count)) (sym text.1)
      (counted text.0 (subst (λ z. IsTextOf z text.0) (sym same) text.2))
    where
      counted : (text : List texts.Piece) → IsTextOf format text → validity.value_count text ≡ count
      counted text is = cut (pieces_of format) is w
        where
          cut : (cut : Option (List Piece)) → option_map (map text_piece) cut ≡ Some text
              → IsSomeAnd cut (λ p. formats.value_count p ≡ count) → validity.value_count text ≡ count
          cut None is w = absurd cc
          cut (Some p) is w = let e : map text_piece p ≡ text = cc is in ap (λ z. validity.value_count z) (sym e)
              ∙ text_count p ∙ w

  constant_names : (l : ℕ) (n : ℤ) → Names (constant at l n)
  constant_names l n p q r = named_ins r tt named_end

  unary_names : (l : ℕ) (o : UnaryOperator) (a : Row) → Names a → Names (unary_row at l o a)
  unary_names l unaries.Plus a ha p q r = ha p q r
  unary_names l unaries.Negate a ha p q r = named_part r (ha p) (λ m r. named_ins r tt named_end)
  unary_names l unaries.Not a ha p q r = named_part r (ha p) (λ m r. named_ins r tt named_end)

  binary_names : (l : ℕ) (form : BinaryForm) (a b : Row) → Names a → Names b → Names (binary_row at l form a b)
  binary_names l Both a b ha hb p q r =
      named_part r.2 (ha p) (λ m r. named_ins r tt (λ r. named_part r (hb (m + 1)) (λ m r.
      named_ins r tt (λ r. named_ins r tt (λ r. named_ins r tt (λ r. named_ins r.1 tt (λ r. named_end r.1)))))))
  binary_names l Either a b ha hb p q r =
      named_part r.3 (ha p) (λ m r. named_ins r tt (λ r. named_ins r tt (λ r. named_ins r tt (λ r.
      named_part r.1 (hb (m + 1 + 1 + 1)) (λ m r.
      named_ins r tt (λ r. named_ins r tt (λ r. named_ins r tt (λ r. named_ins r.1 tt (λ r. named_end r.1)))))))))
  binary_names l (Plain o) a b ha hb p q r = named_part r (ha p)
      (λ m r. named_part r (hb m) (λ m r. named_ins r tt named_end))

  conditional_names : (l : ℕ) (x a b : Row) → Names x → Names a → Names b → Names (conditional_row at l x a b)
  conditional_names l x a b hx ha hb p q r =
      named_part r.2 (hx p) (λ m r. named_ins r tt (λ r. named_part r (ha (m + 1)) (λ m r. named_ins r tt (λ r.
      named_part r.1 (hb (m + 1)) (λ m r. named_end r.1)))))

  assigned_names : (l : ℕ) (keeps : Bool) (x : variables.Variable) (o : Option machine.BinaryOperator) (e : Row)
      → IsKnownPlace raw.globals slots (place at x) → Names e → Names (assigned at l keeps x o e)
  assigned_names l keeps x None e known he p q r = named_part r (he p) (λ m r. named_ins r known named_end)
  assigned_names l keeps x (Some o) e known he p q r =
      named_ins r known (λ r. named_part r (he (p + 1)) (λ m r. named_ins r tt (λ r. named_ins r known named_end)))

  element_assigned_names : (l : ℕ) (keeps : Bool) (a : variables.Variable) (j : Row)
      (o : Option machine.BinaryOperator) (e : Row)
      → IsKnownPlace raw.globals slots (place at a) → Names j → Names e → Names (element_assigned at l keeps a j o e)
  element_assigned_names l keeps a j None e known hj he p q r =
      named_part r (hj p) (λ m r. named_part r (he m) (λ m r. named_ins r known named_end))
  element_assigned_names l keeps a j (Some o) e known hj he p q r =
      named_part r (hj p) (λ m r. named_ins r tt (λ r. named_ins r known (λ r.
      named_part r (he (m + 1 + 1)) (λ m r. named_ins r tt (λ r. named_ins r known named_end)))))

  called_names : (l f : ℕ) (es : ValuesTree) (e : Row) → IsKnownBody raw.bodies [] (called_body at.functions f)
      (value_count es) → Names e → Names (called at l f es e)
  called_names l f es e known he p q r = named_part r (he p) (λ m r. named_ins r known named_end)

  called_there : (functions : List ResolvedFunctionTree) (used : Bool) (f count : ℕ) → functions ≡ tree.functions
      → IsSomeAnd (slice_get functions f) (IsCalled used count)
      → IsSomeAnd (slice_get tree.functions f) (λ function. length function.parameters ≡ count)
  called_there functions used f count same w = subst
      (λ z. IsSomeAnd (slice_get z f) (λ function. length function.parameters ≡ count)) same
      (weaker (slice_get functions f) w)
    where
      weaker : (o : Option ResolvedFunctionTree) → IsSomeAnd o (IsCalled used count)
          → IsSomeAnd o (λ function. length function.parameters ≡ count)
      weaker None w = w
      weaker (Some function) w = w.parameters

  mutual
    unfolding expression_uses expression_formats

    pub value_names : (e : ResolvedExpressionTree) (l : ℕ) (around : Around) (used : Bool) → around.globals
        ≡ tree.globals → around.functions ≡ tree.functions
        → IsWhole around used e → Has nat_eq at.slots (expression_uses e) → Has bytes_eq at.formats
        (expression_formats e) → Names (value at l e)
    value_names (Constant n) l around used g f w s t p q r = named_ins r tt named_end
    value_names (Variable x) l around used g f w s t p q r = named_ins r (place_there around _ x g w s) named_end
    value_names (Element a j) l around used g f w s t p q r =
        named_part r (value_names j l around true g f w.1 (has_back nat_eq at.slots (variable_uses a)
        (expression_uses j) s) t p)
        (λ m r. named_ins r (place_there around _ a g w.0 (has_front nat_eq at.slots (variable_uses a)
        (expression_uses j) s)) named_end)
    value_names (Call function es) l around used g f w s t p q r =
        named_part r
        (called_names l function es (values at l es)
        (program.calls function (value_count es) (called_there around.functions used function (value_count es) f
        (subst (λ z. IsSomeAnd (slice_get around.functions function) (IsCalled used z)) (same_count es) w.0)))
        (values_names es l around g f w.1 s t) p)
        (λ m r. named_ins r tt named_end)
    value_names ThreadNumber l around used g f w s t p q r = named_ins r tt named_end
    value_names TeamSize l around used g f w s t p q r = named_ins r tt named_end
    value_names (Print format es) l around used g f w s t p q r = absurd r
    value_names (Unary o a) l around used g f w s t p q r = unary_names l o (value at l a)
        (value_names a l around true g f w s t) p q r
    value_names (Binary a o b) l around used g f w s t p q r =
        binary_names l (form_of o) (value at l a) (value at l b)
        (value_names a l around true g f w.0 (has_front nat_eq at.slots (expression_uses a) (expression_uses b) s)
        (has_front bytes_eq at.formats (expression_formats a) (expression_formats b) t))
        (value_names b l around true g f w.1 (has_back nat_eq at.slots (expression_uses a) (expression_uses b) s)
        (has_back bytes_eq at.formats (expression_formats a) (expression_formats b) t))
        p q r
    value_names (Conditional x a b) l around used g f w s t p q r =
        let sx = has_front nat_eq at.slots (expression_uses x) (expression_uses a ++ expression_uses b) s in
        let sr = has_back nat_eq at.slots (expression_uses x) (expression_uses a ++ expression_uses b) s in
        let tx = has_front bytes_eq at.formats (expression_formats x) (expression_formats a ++ expression_formats b)
        t in
        let tr = has_back bytes_eq at.formats (expression_formats x) (expression_formats a ++ expression_formats b) t in
        conditional_names l (value at l x) (value at l a) (value at l b)
        (value_names x l around true g f w.0 sx tx)
        (value_names a l around true g f w.1 (has_front nat_eq at.slots (expression_uses a) (expression_uses b) sr)
        (has_front bytes_eq at.formats (expression_formats a) (expression_formats b) tr))
        (value_names b l around true g f w.2 (has_back nat_eq at.slots (expression_uses a) (expression_uses b) sr)
        (has_back bytes_eq at.formats (expression_formats a) (expression_formats b) tr))
        p q r
    value_names (Assign x o e) l around used g f w s t p q r =
        assigned_names l true x (compound_of o) (value at l e)
        (place_there around _ x g w.0 (has_front nat_eq at.slots (variable_uses x) (expression_uses e) s))
        (value_names e l around true g f w.1 (has_back nat_eq at.slots (variable_uses x) (expression_uses e) s) t) p q r
    value_names (AssignElement a j o e) l around used g f w s t p q r =
        let sr = has_back nat_eq at.slots (variable_uses a) (expression_uses j ++ expression_uses e) s in
        element_assigned_names l true a (value at l j) (compound_of o) (value at l e)
        (place_there around _ a g w.0 (has_front nat_eq at.slots (variable_uses a) (expression_uses j
        ++ expression_uses e) s))
        (value_names j l around true g f w.1 (has_front nat_eq at.slots (expression_uses j) (expression_uses e) sr)
        (has_front bytes_eq at.formats (expression_formats j) (expression_formats e) t))
        (value_names e l around true g f w.2 (has_back nat_eq at.slots (expression_uses j) (expression_uses e) sr)
        (has_back bytes_eq at.formats (expression_formats j) (expression_formats e) t))
        p q r
    value_names (Postfix x o) l around used g f w s t p q r =
        named_part r (assigned_names l true x (Some (step_of o)) (constant at l (pos 1))
        (place_there around _ x g w s) (constant_names l (pos 1)) p)
        (λ m r. named_ins r tt (λ r. named_ins r tt named_end))
    value_names (PostfixElement a j o) l around used g f w s t p q r =
        named_part r
        (element_assigned_names l true a (value at l j) (Some (step_of o)) (constant at l (pos 1))
        (place_there around _ a g w.0 (has_front nat_eq at.slots (variable_uses a) (expression_uses j) s))
        (value_names j l around true g f w.1 (has_back nat_eq at.slots (variable_uses a) (expression_uses j) s) t)
        (constant_names l (pos 1)) p)
        (λ m r. named_ins r tt (λ r. named_ins r tt named_end))

    pub values_names : (es : ValuesTree) (l : ℕ) (around : Around) → around.globals ≡ tree.globals
        → around.functions ≡ tree.functions
        → AreWhole around es → Has nat_eq at.slots (values_uses es) → Has bytes_eq at.formats (values_formats es)
        → Names (values at l es)
    values_names NoValues l around g f w s t p q r = named_end r
    values_names (Value e rest) l around g f w s t p q r =
        named_part r (value_names e l around true g f w.0 (has_front nat_eq at.slots (expression_uses e)
        (values_uses rest) s) (has_front bytes_eq at.formats (expression_formats e) (values_formats rest) t) p)
        (λ m r. values_names rest l around g f w.1 (has_back nat_eq at.slots (expression_uses e) (values_uses rest)
        s) (has_back bytes_eq at.formats (expression_formats e) (values_formats rest) t) m q r)

  pub effect_names : (e : ResolvedExpressionTree) (l : ℕ) (around : Around) → around.globals ≡ tree.globals
      → around.functions ≡ tree.functions
      → IsWhole around false e → Has nat_eq at.slots (expression_uses e) → Has bytes_eq at.formats
      (expression_formats e) → Names (effect at l e)
  unfolding expression_uses expression_formats
  effect_names (Assign x o e) l around g f w s t p q r =
      assigned_names l false x (compound_of o) (value at l e)
      (place_there around _ x g w.0 (has_front nat_eq at.slots (variable_uses x) (expression_uses e) s))
      (value_names e l around true g f w.1 (has_back nat_eq at.slots (variable_uses x) (expression_uses e) s) t) p q r
  effect_names (AssignElement a j o e) l around g f w s t p q r =
      let sr = has_back nat_eq at.slots (variable_uses a) (expression_uses j ++ expression_uses e) s in
      element_assigned_names l false a (value at l j) (compound_of o) (value at l e)
      (place_there around _ a g w.0 (has_front nat_eq at.slots (variable_uses a) (expression_uses j
      ++ expression_uses e) s))
      (value_names j l around true g f w.1 (has_front nat_eq at.slots (expression_uses j) (expression_uses e) sr)
      (has_front bytes_eq at.formats (expression_formats j) (expression_formats e) t))
      (value_names e l around true g f w.2 (has_back nat_eq at.slots (expression_uses j) (expression_uses e) sr)
      (has_back bytes_eq at.formats (expression_formats j) (expression_formats e) t))
      p q r
  effect_names (Postfix x o) l around g f w s t p q r =
      assigned_names l false x (Some (step_of o)) (constant at l (pos 1)) (place_there around _ x g w s)
      (constant_names l (pos 1)) p q r
  effect_names (PostfixElement a j o) l around g f w s t p q r =
      element_assigned_names l false a (value at l j) (Some (step_of o)) (constant at l (pos 1))
      (place_there around _ a g w.0 (has_front nat_eq at.slots (variable_uses a) (expression_uses j) s))
      (value_names j l around true g f w.1 (has_back nat_eq at.slots (variable_uses a) (expression_uses j) s) t)
      (constant_names l (pos 1)) p q r
  effect_names (Print format es) l around g f w s t p q r =
      named_part r (values_names es l around g f w.3 s t.1 p)
      (λ m r. named_ins r (text_known format (value_count es) t.0 (subst (λ z. IsFormat format z) (same_count es)
      w.1)) named_end)
  effect_names (Call function es) l around g f w s t p q r =
      named_part r
      (called_names l function es (values at l es)
      (program.calls function (value_count es) (called_there around.functions false function (value_count es) f
      (subst (λ z. IsSomeAnd (slice_get around.functions function) (IsCalled false z)) (same_count es) w.0)))
      (values_names es l around g f w.1 s t) p)
      (λ m r. named_ins r tt named_end)
  effect_names e l around g f w s t p q r = named_part r (value_names e l around false g f w s t p)
      (λ m r. named_ins r tt named_end)

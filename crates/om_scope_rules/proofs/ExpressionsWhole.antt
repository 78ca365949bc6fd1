-- An expression without a breach resolves to one that is whole.
use Rattle.std.proofs.Common.{◌≡◌, ℕ, ◌+◌, ◌-◌, ◌≤◌, Bool, true, false, cond, not, ◌||◌, ◌&&◌, List, [], ◌∷◌, ◌++◌}
use Rattle.std.proofs.Common.{Option, None, Some, fold, refl, sym, ap, subst, ◌∙◌, arith, codes}
use Rattle.std.specs.Prelude.{IfSome, IsSomeAnd, nat_lt, nat_eq, ◌==◌, position, slice_get, option_map}
use Rattle.std.specs.Str.{bytes_eq}
use Rattle.std.proofs.lemmas.Bool.Decides.{nat_tests}
use Rattle.om_lexer.specs.declared.fault.FaultCode.{FaultCode}
use Rattle.om_lexer.specs.declared.fault.FaultCode.TheVariants as faults
use Rattle.om_lexer.specs.declared.fault.SourceFault.{SourceFault}
use Rattle.om_pragma.specs.declared.clause.Name as names
use Rattle.om_scope_tree.specs.declared.resolved.Shape.TheVariants as shapes
use Rattle.om_scope_tree.specs.Formats.{Piece, Bytes, Value, with_byte, pieces_of, converted, value_count, IsFormat}
use Rattle.om_scope_tree.specs.ResolvedTree as resolved
use Rattle.om_scope_tree.specs.ResolvedTree.{ResolvedExpressionTree, ResolvedFunctionTree, ValuesTree}
use Rattle.om_scope_tree.specs.Whole.{Around, IsInScope, IsCalled, IsWhole, AreWhole, count_of}
use Rattle.om_scope_rules.specs.declared.print.Reading.{Reading}
use Rattle.om_scope_rules.specs.declared.print.Reading.TheVariants as readings
use Rattle.om_scope_rules.specs.declared.limits.TheConstants.{PRINTED_LIMIT}
use Rattle.om_scope_rules.specs.declared.names.Meaning.{Meaning}
use Rattle.om_scope_rules.specs.declared.names.Meaning.TheVariants as meanings
use Rattle.om_scope_rules.specs.declared.names.Signature.{Signature}
use Rattle.om_scope_rules.specs.ExpressionRules.{undeclared_breaches, is_scalar, is_array, misused_scalar_breaches}
use Rattle.om_scope_rules.specs.ExpressionRules.{scalar_breaches, misused_array_breaches, array_breaches, unlisted_breaches}
use Rattle.om_scope_rules.specs.ExpressionRules.{is_miscalled, call_breaches, is_printf, argument_count, is_target, is_print}
use Rattle.om_scope_rules.specs.ExpressionRules.{misprint_breaches, expression_breaches, arguments_breaches, printed_breaches}
use Rattle.om_scope_rules.specs.ExpressionRules.{target_breaches, print_breaches, own_call_breaches, misplaced_breaches}
use Rattle.om_scope_rules.specs.Faults.{perhaps_with}
use Rattle.om_scope_rules.specs.Formats.{after_character, is_whole, is_format, with_value}
use Rattle.om_scope_rules.specs.Knowing.{IsDefinition, IsCallee, IsThere, Knows}
use Rattle.om_scope_rules.specs.Places.{expression_start}
use Rattle.om_scope_rules.specs.Resolution.{TargetTree, Scalar, ElementOf, assigned, stepped, variable_of, variable_named}
use Rattle.om_scope_rules.specs.Resolution.{callee_of, callee_named, call_of, text_in, format_in, print_of, own_call_of}
use Rattle.om_scope_rules.specs.Resolution.{resolved_expression, resolved_values, resolved_printed, resolved_target}
use Rattle.om_scope_rules.specs.Scopes.{Scopes, meaning_of}
use Rattle.om_scope_rules.specs.Sharing.{is_copied}
use Rattle.om_scope_rules.proofs.ExpressionsResolve.{never_misplaced}
use Rattle.om_scope_rules.proofs.Knowing.{if_more, known_meaning}
use Rattle.om_scope_rules.proofs.Steps.{if_then}
use Rattle.om_scope_rules.proofs.Unbroken.{front, back, not_broken, not_placed, never_placed, by_test, left_false}
use Rattle.om_scope_rules.proofs.Unbroken.{right_false, not_false}
use Rattle.om_parser_tree.specs.declared.tree.AssignOperator.{AssignOperator}
use Rattle.om_parser_tree.specs.declared.tree.PostfixOperator.{PostfixOperator}
use Rattle.om_parser_tree.specs.declared.tree.PrefixOperator.TheVariants as prefixes
use Rattle.om_parser_tree.specs.Tree.{ExpressionTree, Name, Constant, Text, Paren, Index, Call, Prefix, Postfix, Binary}
use Rattle.om_parser_tree.specs.Tree.{Conditional, Assign, ArgumentsTree, NoArguments, Argument}

-- ---- names

scalar_there : (around : Around) (definitions : List (List ℕ)) (name : List ℕ) (meaning : Option Meaning)
    → is_scalar meaning ≡ true
    → IfSome meaning (IsThere around.globals around.functions around.locals definitions name)
    → IfSome (variable_of meaning) (IsInScope around shapes.Scalar)
scalar_there around definitions name (Some (meanings.Variable v shapes.Scalar)) e h = h
scalar_there around definitions name (Some (meanings.Variable v shapes.Array)) e h = cc
scalar_there around definitions name (Some (meanings.Function signature)) e h = tt
scalar_there around definitions name (Some meanings.Printf) e h = tt
scalar_there around definitions name None e h = tt

array_there : (around : Around) (definitions : List (List ℕ)) (name : List ℕ) (meaning : Option Meaning)
    → is_array meaning ≡ true
    → IfSome meaning (IsThere around.globals around.functions around.locals definitions name)
    → IfSome (variable_of meaning) (IsInScope around shapes.Array)
array_there around definitions name (Some (meanings.Variable v shapes.Array)) e h = h
array_there around definitions name (Some (meanings.Variable v shapes.Scalar)) e h = cc
array_there around definitions name (Some (meanings.Function signature)) e h = tt
array_there around definitions name (Some meanings.Printf) e h = tt
array_there around definitions name None e h = tt

-- what a name means
pub meant : (around : Around) (scopes : Scopes) (name : List ℕ) → Knows around scopes
    → IfSome (meaning_of scopes name) (IsThere around.globals around.functions around.locals scopes.definitions name)
meant around scopes name h = known_meaning around.globals around.functions around.locals scopes name h

pub known_scalar : (around : Around) (scopes : Scopes) (n : names.Name) → Knows around scopes
    → is_scalar (meaning_of scopes n.text) ≡ true → IfSome (variable_named scopes n) (IsInScope around shapes.Scalar)
known_scalar around scopes n h e = scalar_there around scopes.definitions n.text (meaning_of scopes n.text) e
    (meant around scopes n.text h)

whole_scalar : (around : Around) (scopes : Scopes) (n : names.Name) → Knows around scopes → scalar_breaches scopes n
    ≡ [] → IfSome (variable_named scopes n) (IsInScope around shapes.Scalar)
whole_scalar around scopes n h whole =
    known_scalar around scopes n h
    (not_false (is_scalar (meaning_of scopes n.text)) (not_broken (not (is_scalar (meaning_of scopes n.text)))
    faults.Misuse n.span.start
    (back (undeclared_breaches scopes n) (misused_scalar_breaches (meaning_of scopes n.text) n.span.start)
    (front _ (unlisted_breaches scopes n) whole))))

whole_array : (around : Around) (scopes : Scopes) (n : names.Name) → Knows around scopes → array_breaches scopes n
    ≡ [] → IfSome (variable_named scopes n) (IsInScope around shapes.Array)
whole_array around scopes n h whole =
    let meaning = meaning_of scopes n.text in
    let copied = is_copied scopes n.text in
    let is = not_broken (not (is_array meaning) || copied) faults.Misuse n.span.start
    (back (undeclared_breaches scopes n) (misused_array_breaches meaning copied n.span.start)
    (front _ (unlisted_breaches scopes n) whole)) in
    array_there around scopes.definitions n.text meaning
    (not_false (is_array meaning) (left_false (not (is_array meaning)) copied is)) (meant around scopes n.text h)

-- ---- calls

-- what a call asks of the signature
record IsSuited (for_value : Bool) (name : List ℕ) (count : ℕ) (signature : Signature) : Type 0 where
  named : bytes_eq name (codes "main") ≡ false
  parameters : signature.parameters ≡ count
  returns : for_value ≡ true → signature.returns ≡ true

same_count : (m n : ℕ) → not (nat_eq m n) ≡ false → m ≡ n
same_count m n e = grind (arith, nat_tests)

gives_value : (for_value returns : Bool) → (for_value && not returns) ≡ false → for_value ≡ true → returns ≡ true
gives_value true returns e used = not_false returns e
gives_value false returns e used = cc

suited : (for_value : Bool) (name : List ℕ) (count : ℕ) (signature : Signature) → is_miscalled for_value name count
    (Some (meanings.Function signature)) ≡ false → IsSuited for_value name count signature
suited for_value name count signature e =
    let main = bytes_eq name (codes "main") in
    let other = not (nat_eq signature.parameters count) in
    let void = for_value && not signature.returns in
    let first = left_false (main || other) void e in
    record {
      named = left_false main other first;
      parameters = same_count signature.parameters count (right_false main other first);
      returns = gives_value for_value signature.returns (right_false (main || other) void e);
    }

called_by : (for_value : Bool) (name : List ℕ) (count : ℕ) (signature : Signature) (function : ResolvedFunctionTree)
    → IsSuited for_value name count signature → IsDefinition name signature function → IsCalled for_value count function
called_by for_value name count signature function s d = record {
  parameters = d.parameters ∙ s.parameters;
  returns = λ used. d.returns ∙ s.returns used;
  not_main = ap (λ text. bytes_eq text (codes "main")) d.named ∙ s.named;
}

some_more : {A : Type 0} (P Q : A → Type 0) (o : Option A) → ((x : A) → P x → Q x) → IsSomeAnd o P → IsSomeAnd o Q
some_more P Q None more h = h
some_more P Q (Some x) more h = more x h

test_cases : {A : Type 0} (P : A → Type 0) (test : Bool) (x y : A) → (test ≡ true → P x) → (test ≡ false → P y)
    → P (cond test x y)
test_cases P true x y hx hy = hx refl
test_cases P false x y hx hy = hy refl

from_third : (place : ℕ) → 1 ≤ place → nat_eq place 1 ≡ false → nat_eq place 2 ≡ false → 3 ≤ place
from_third place le first second = grind (arith, nat_tests)

whole_call_at : (around : Around) (for_value : Bool) (name : List ℕ) (signature : Signature) (place : ℕ)
    (vs : ValuesTree)
    → IsSuited for_value name (count_of vs) signature → IsCallee around.functions name signature place
    → AreWhole around vs → IsWhole around for_value (call_of place vs)
whole_call_at around for_value name signature place vs s c w =
    let own = resolved.Call (place - 3) vs in
    test_cases (IsWhole around for_value) (nat_eq place 1) resolved.ThreadNumber
    (cond (nat_eq place 2) resolved.TeamSize own) (λ e. tt) (λ first.
    test_cases (IsWhole around for_value) (nat_eq place 2) resolved.TeamSize own (λ e. tt) (λ second. (
      some_more (IsDefinition name signature) (IsCalled for_value (count_of vs))
          (slice_get around.functions (place - 3)) (λ function d. called_by for_value name (count_of vs) signature
          function s d)
          (c.own (from_third place c.behind_printf first second)),
      w,
    )))

-- what a called name means, and where it stands among the definitions
module _ (around : Around) (for_value : Bool) (name : List ℕ) (count : ℕ) where
  callee_there : (definitions : List (List ℕ)) (meaning : Option Meaning) → is_miscalled for_value name count
      meaning ≡ false
      → IfSome meaning (IsThere around.globals around.functions around.locals definitions name)
      → IfSome (callee_of meaning (position (bytes_eq name) definitions)) (λ place. (signature : Signature)
      × IsSuited for_value name count signature × IsCallee around.functions name signature place)
  callee_there definitions (Some (meanings.Function signature)) e h =
      if_more (IsCallee around.functions name signature) (λ place. (signature : Signature) × IsSuited for_value name
      count signature × IsCallee around.functions name signature place)
      (position (bytes_eq name) definitions) (λ place c. (signature, suited for_value name count signature e, c)) h
  callee_there definitions (Some meanings.Printf) e h = tt
  callee_there definitions (Some (meanings.Variable v shape)) e h = tt
  callee_there definitions None e h = tt

whole_own_call : (around : Around) (scopes : Scopes) (for_value : Bool) (n : names.Name) (count : ℕ)
    (values : Option ValuesTree) → Knows around scopes → call_breaches scopes for_value n count ≡ []
    → IfSome values (λ vs. AreWhole around vs × (count_of vs ≡ count))
    → IfSome (own_call_of (callee_named scopes n) values) (IsWhole around for_value)
whole_own_call around scopes for_value n count values h whole hv =
    let called = not_broken (is_miscalled for_value n.text count (meaning_of scopes n.text)) faults.Misuse
    n.span.start (back (undeclared_breaches scopes n) _ whole) in
    if_then (λ place. (signature : Signature) × IsSuited for_value n.text count signature
    × IsCallee around.functions n.text signature place) (IsWhole around for_value) (callee_named scopes n) _
    (callee_there around for_value n.text count scopes.definitions (meaning_of scopes n.text) called
    (meant around scopes n.text h)) (λ place c.
    if_then (λ vs. AreWhole around vs × (count_of vs ≡ count)) (IsWhole around for_value) values _ hv (λ vs w.
    whole_call_at around for_value n.text c.0 place vs (subst (λ k. IsSuited for_value n.text k c.0) (sym w.1) c.1)
    c.2 w.0))

-- ---- formats

-- so many values are written
abbrev Writes : ℕ → Option (List Piece) → Type 0
Writes left pieces = IsSomeAnd pieces (λ ps. value_count ps ≡ left)

-- a format is right behind what was read
abbrev Reads : Reading → List ℕ → Type 0
Reads reading format = is_whole (fold after_character reading format) ≡ true

byte_pieces : (left byte : ℕ) (pieces : Option (List Piece)) → Writes left pieces
    → Writes left (option_map (with_byte byte) pieces)
byte_pieces left byte None h = h
byte_pieces left byte (Some []) h = h
byte_pieces left byte (Some (Bytes bytes ∷ pieces)) h = h
byte_pieces left byte (Some (Value ∷ pieces)) h = h

wrong : (format : List ℕ) → Reads readings.Wrong format → ⊥
wrong [] e = cc
wrong (byte ∷ format) e = wrong format e

value_pieces : (left : ℕ) (format : List ℕ) (pieces : Option (List Piece))
    → ((l : ℕ) → Reads (readings.Text l) format → Writes l pieces) → Reads (with_value left) format
    → Writes left (option_map (λ ps. Value ∷ ps) pieces)
value_pieces left format pieces next e =
    test_cases (λ reading. Reads reading format → Writes left (option_map (λ ps. Value ∷ ps) pieces)) (left == 0)
    readings.Wrong (readings.Text (left - 1))
    (λ t g. absurd (wrong format g)) (λ t g. one_more pieces (positive left t) (next (left - 1) g)) e
  where
    positive : (left : ℕ) → (left == 0) ≡ false → 1 ≤ left
    positive left t = grind (arith, nat_tests)

    one_more : (pieces : Option (List Piece)) → 1 ≤ left → Writes (left - 1) pieces
        → Writes left (option_map (λ ps. Value ∷ ps) pieces)
    one_more None le h = h
    one_more (Some ps) le h = omega (arith, h, le)

-- what is read of a format by its characters, in its pieces
mutual
  unfolding pieces_of converted

  text_pieces : (format : List ℕ) (left : ℕ) → Reads (readings.Text left) format → Writes left (pieces_of format)
  text_pieces [] left e = sym (same left 0 e)
    where
      same : (m n : ℕ) → (m == n) ≡ true → m ≡ n
      same m n e = grind (arith, nat_tests)
  text_pieces (byte ∷ format) left e =
      by_test (byte == 37) (λ reading pieces. Reads reading format → Writes left pieces)
      (readings.Conversion left) (readings.Text left) (converted format)
      (option_map (with_byte byte) (pieces_of format))
      (λ g. conversion_pieces format left g) (λ g. byte_pieces left byte (pieces_of format)
      (text_pieces format left g)) e

  conversion_pieces : (format : List ℕ) (left : ℕ) → Reads (readings.Conversion left) format
      → Writes left (converted format)
  conversion_pieces [] left e = cc
  conversion_pieces (byte ∷ format) left e =
      by_test (byte == 100) (λ reading pieces. Reads reading format → Writes left pieces)
      (with_value left) (cond (byte == 37) (readings.Text left) readings.Wrong)
      (option_map (λ pieces. Value ∷ pieces) (pieces_of format))
      (cond (byte == 37) (option_map (with_byte byte) (pieces_of format)) None)
      (λ g. value_pieces left format (pieces_of format) (λ l r. text_pieces format l r) g)
      (by_test (byte == 37) (λ reading pieces. Reads reading format → Writes left pieces)
      (readings.Text left) readings.Wrong (option_map (with_byte byte) (pieces_of format)) None
      (λ g. byte_pieces left byte (pieces_of format) (text_pieces format left g)) (λ g. absurd (wrong format g))) e

format_there : (e : ExpressionTree) (count : ℕ) → is_format e count ≡ true → IfSome (text_in e)
    (λ text. IsFormat text count)
format_there (Text t) count e = text_pieces t.value count e
format_there (Name n) count e = tt
format_there (Constant n) count e = tt
format_there (Paren left c right) count e = tt
format_there (Index n left c right) count e = tt
format_there (Call n left values right) count e = tt
format_there (Prefix o at c) count e = tt
format_there (Postfix c o at) count e = tt
format_there (Binary a o at b) count e = tt
format_there (Conditional c question a colon b) count e = tt
format_there (Assign a o at b) count e = tt

-- of the arguments of a `printf`, how many stand behind the first
abbrev behind_first : ArgumentsTree → ℕ
behind_first NoArguments = 0
behind_first (Argument comma e rest) = argument_count rest

printed_format : (values : ArgumentsTree) → is_print values ≡ true → IfSome (format_in values)
    (λ text. IsFormat text (behind_first values))
printed_format NoArguments e = tt
printed_format (Argument comma format rest) e = format_there format (argument_count rest) e

whole_print : (around : Around) (for_value : Bool) (n : names.Name) (values : ArgumentsTree)
    (printed : Option ValuesTree) → misprint_breaches for_value n values ≡ []
    → IfSome printed (λ vs. AreWhole around vs × (count_of vs ≡ behind_first values) × (behind_first values ≤ 16))
    → IfSome (print_of (format_in values) printed) (IsWhole around for_value)
whole_print around for_value n values printed whole hv =
    let right = not_broken (for_value || not (is_print values)) faults.Misuse n.span.start whole in
    let unused = left_false for_value (not (is_print values)) right in
    if_then (λ text. IsFormat text (behind_first values)) (IsWhole around for_value) (format_in values) _
    (printed_format values (not_false (is_print values) (right_false for_value (not (is_print values)) right)))
    (λ text f.
    if_then (λ vs. AreWhole around vs × (count_of vs ≡ behind_first values) × (behind_first values ≤ 16))
    (IsWhole around for_value) printed _ hv (λ vs w.
    (unused, subst (IsFormat text) (sym w.1) f, subst (λ k. k ≤ 16) (sym w.1) w.2, w.0)))

-- ---- expressions

abbrev pub IsWholeTargetTree : Around → TargetTree → Type 0
IsWholeTargetTree around (Scalar v) = IsInScope around shapes.Scalar v
IsWholeTargetTree around (ElementOf v index) = IsInScope around shapes.Array v × IsWhole around true index

whole_assigned : (around : Around) (for_value : Bool) (t : TargetTree) (o : AssignOperator)
    (e : ResolvedExpressionTree) → IsWholeTargetTree around t → IsWhole around true e → IsWhole around for_value
    (assigned t o e)
whole_assigned around for_value (Scalar v) o e h he = (h, he)
whole_assigned around for_value (ElementOf v index) o e h he = (h.0, h.1, he)

whole_stepped : (around : Around) (for_value : Bool) (t : TargetTree) (o : PostfixOperator) → IsWholeTargetTree
    around t → IsWhole around for_value (stepped t o)
whole_stepped around for_value (Scalar v) o h = h
whole_stepped around for_value (ElementOf v index) o h = h

-- an argument that is no format has its breaches
behind_format : (place : ℕ) (breaches : List SourceFault) → 1 ≤ place → cond (place == 0) [] breaches ≡ []
    → breaches ≡ []
behind_format place breaches le e =
    let later : (place == 0) ≡ false = grind (arith, nat_tests) in
    sym (ap (λ test. cond test [] breaches) later) ∙ e

-- and is not one too many
in_limit : (broken : Bool) (code : FaultCode) (at : ℕ) (breaches : List SourceFault) → perhaps_with broken code at
    breaches ≡ [] → broken ≡ false
in_limit false code at breaches e = refl
in_limit true code at breaches e = absurd (never_placed code at breaches e)

below : (limit n : ℕ) → nat_lt limit n ≡ false → n ≤ limit
below limit n e = grind (arith, nat_tests)

mutual
  unfolding expression_breaches arguments_breaches printed_breaches target_breaches resolved_expression
      resolved_values resolved_printed resolved_target

  pub whole_expression : (around : Around) (scopes : Scopes) (for_value : Bool) (e : ExpressionTree)
      → Knows around scopes → expression_breaches scopes for_value e ≡ [] → IfSome (resolved_expression scopes e)
      (IsWhole around for_value)
  whole_expression around scopes for_value (Name n) h whole = if_then (IsInScope around shapes.Scalar)
      (IsWhole around for_value) (variable_named scopes n) _ (whole_scalar around scopes n h whole) (λ v hv. hv)
  whole_expression around scopes for_value (Constant n) h whole = tt
  whole_expression around scopes for_value (Text t) h whole = tt
  whole_expression around scopes for_value (Paren left e right) h whole = whole_expression around scopes for_value e
      h whole
  whole_expression around scopes for_value (Index n left e right) h whole =
      if_then (IsInScope around shapes.Array) (IsWhole around for_value) (variable_named scopes n) _
      (whole_array around scopes n h (front (array_breaches scopes n) (expression_breaches scopes true e)
      whole)) (λ v hv.
      if_then (IsWhole around true) (IsWhole around for_value) (resolved_expression scopes e) _
      (whole_expression around scopes true e h
      (back (array_breaches scopes n) (expression_breaches scopes true e) whole)) (λ x hx. (hv, hx)))
  whole_expression around scopes for_value (Call n left values right) h whole =
      by_test (is_printf (meaning_of scopes n.text)) (λ breaches found. breaches ≡ []
      → IfSome found (IsWhole around for_value))
      (print_breaches scopes for_value n values) (own_call_breaches scopes for_value n values)
      (print_of (format_in values) (resolved_printed scopes values)) (own_call_of (callee_named scopes n)
      (resolved_values scopes values))
      (λ w. whole_print around for_value n values (resolved_printed scopes values)
      (front (misprint_breaches for_value n values) (printed_breaches scopes 0 values) w)
      (whole_printed around scopes values h (back (misprint_breaches for_value n values)
      (printed_breaches scopes 0 values) w)))
      (λ w. whole_own_call around scopes for_value n (argument_count values) (resolved_values scopes values) h
      (front (call_breaches scopes for_value n (argument_count values)) (arguments_breaches scopes values) w)
      (whole_values around scopes values h (back (call_breaches scopes for_value n (argument_count values))
      (arguments_breaches scopes values) w)))
      whole
  whole_expression around scopes for_value (Prefix prefixes.Increment at e) h whole =
      if_then (IsWholeTargetTree around) (IsWhole around for_value) (resolved_target scopes e) _
      (whole_target around scopes e h whole) (λ t ht. whole_assigned around for_value t _ _ ht tt)
  whole_expression around scopes for_value (Prefix prefixes.Decrement at e) h whole =
      if_then (IsWholeTargetTree around) (IsWhole around for_value) (resolved_target scopes e) _
      (whole_target around scopes e h whole) (λ t ht. whole_assigned around for_value t _ _ ht tt)
  whole_expression around scopes for_value (Prefix prefixes.Plus at e) h whole = if_then (IsWhole around true)
      (IsWhole around for_value) (resolved_expression scopes e) _ (whole_expression around scopes true e h whole)
      (λ x hx. hx)
  whole_expression around scopes for_value (Prefix prefixes.Minus at e) h whole = if_then (IsWhole around true)
      (IsWhole around for_value) (resolved_expression scopes e) _ (whole_expression around scopes true e h whole)
      (λ x hx. hx)
  whole_expression around scopes for_value (Prefix prefixes.Not at e) h whole = if_then (IsWhole around true)
      (IsWhole around for_value) (resolved_expression scopes e) _ (whole_expression around scopes true e h whole)
      (λ x hx. hx)
  whole_expression around scopes for_value (Postfix e o at) h whole =
      if_then (IsWholeTargetTree around) (IsWhole around for_value) (resolved_target scopes e) _
      (whole_target around scopes e h whole) (λ t ht. whole_stepped around for_value t o ht)
  whole_expression around scopes for_value (Binary a o at b) h whole =
      if_then (IsWhole around true) (IsWhole around for_value) (resolved_expression scopes a) _
      (whole_expression around scopes true a h (front (expression_breaches scopes true a)
      (expression_breaches scopes true b) whole)) (λ x hx.
      if_then (IsWhole around true) (IsWhole around for_value) (resolved_expression scopes b) _
      (whole_expression around scopes true b h (back (expression_breaches scopes true a)
      (expression_breaches scopes true b) whole)) (λ y hy. (hx, hy)))
  whole_expression around scopes for_value (Conditional c question a colon b) h whole =
      let first = expression_breaches scopes true c in
      let second = expression_breaches scopes true a in
      let third = expression_breaches scopes true b in
      let before = front (first ++ second) third whole in
      if_then (IsWhole around true) (IsWhole around for_value) (resolved_expression scopes c) _
      (whole_expression around scopes true c h (front first second before)) (λ x hx.
      if_then (IsWhole around true) (IsWhole around for_value) (resolved_expression scopes a) _
      (whole_expression around scopes true a h (back first second before)) (λ y hy.
      if_then (IsWhole around true) (IsWhole around for_value) (resolved_expression scopes b) _
      (whole_expression around scopes true b h (back (first ++ second) third whole)) (λ z hz. (hx, hy, hz))))
  whole_expression around scopes for_value (Assign a o at b) h whole =
      if_then (IsWholeTargetTree around) (IsWhole around for_value) (resolved_target scopes a) _
      (whole_target around scopes a h (front (target_breaches scopes a) (expression_breaches scopes true b)
      whole)) (λ t ht.
      if_then (IsWhole around true) (IsWhole around for_value) (resolved_expression scopes b) _
      (whole_expression around scopes true b h
      (back (target_breaches scopes a) (expression_breaches scopes true b) whole)) (λ x hx.
      whole_assigned around for_value t o x ht hx))

  whole_values : (around : Around) (scopes : Scopes) (values : ArgumentsTree) → Knows around scopes
      → arguments_breaches scopes values ≡ []
      → IfSome (resolved_values scopes values) (λ vs. AreWhole around vs × (count_of vs ≡ argument_count values))
  whole_values around scopes NoArguments h whole = (tt, refl)
  whole_values around scopes (Argument comma e rest) h whole =
      if_then (IsWhole around true) (λ vs. AreWhole around vs × (count_of vs ≡ argument_count rest + 1))
      (resolved_expression scopes e) _
      (whole_expression around scopes true e h (front (expression_breaches scopes true e)
      (arguments_breaches scopes rest) whole)) (λ x hx.
      if_then (λ vs. AreWhole around vs × (count_of vs ≡ argument_count rest)) (λ vs. AreWhole around vs
      × (count_of vs ≡ argument_count rest + 1)) (resolved_values scopes rest) _
      (whole_values around scopes rest h (back (expression_breaches scopes true e) (arguments_breaches scopes rest)
      whole)) (λ xs hxs. ((hx, hxs.0), ap (λ k. k + 1) hxs.1)))

  -- those of a `printf`, behind its format
  whole_behind : (around : Around) (scopes : Scopes) (place : ℕ) (values : ArgumentsTree) → 1 ≤ place → place ≤ 17
      → Knows around scopes → printed_breaches scopes place values ≡ []
      → (place + argument_count values ≤ 17) × IfSome (resolved_values scopes values) (λ vs. AreWhole around vs
      × (count_of vs ≡ argument_count values))
  whole_behind around scopes place NoArguments le few h whole = (omega (arith, few), (tt, refl))
  whole_behind around scopes place (Argument comma e rest) le few h whole =
      let own = perhaps_with (nat_lt PRINTED_LIMIT place) faults.TooMany (expression_start e)
      (expression_breaches scopes true e) in
      let here = cond (place == 0) [] own in
      let others = printed_breaches scopes (place + 1) rest in
      let first = behind_format place own le (front here others whole) in
      let room = below 16 place (in_limit (nat_lt PRINTED_LIMIT place) faults.TooMany (expression_start e)
      (expression_breaches scopes true e) first) in
      let behind = whole_behind around scopes (place + 1) rest (omega arith) (omega (arith, room)) h
      (back here others whole) in
      let total = behind.0 in (
        omega (arith, total),
        if_then (IsWhole around true) (λ vs. AreWhole around vs × (count_of vs ≡ argument_count rest + 1))
            (resolved_expression scopes e) _
            (whole_expression around scopes true e h (not_placed (nat_lt PRINTED_LIMIT place) faults.TooMany
            (expression_start e) (expression_breaches scopes true e) first)) (λ x hx.
            if_then (λ vs. AreWhole around vs × (count_of vs ≡ argument_count rest)) (λ vs. AreWhole around vs
            × (count_of vs ≡ argument_count rest + 1)) (resolved_values scopes rest) _
            behind.1 (λ xs hxs. ((hx, hxs.0), ap (λ k. k + 1) hxs.1))),
      )

  whole_printed : (around : Around) (scopes : Scopes) (values : ArgumentsTree) → Knows around scopes
      → printed_breaches scopes 0 values ≡ []
      → IfSome (resolved_printed scopes values) (λ vs. AreWhole around vs × (count_of vs ≡ behind_first values)
      × (behind_first values ≤ 16))
  whole_printed around scopes NoArguments h whole = (tt, refl, omega arith)
  whole_printed around scopes (Argument comma e rest) h whole =
      let behind = whole_behind around scopes (0 + 1) rest (omega arith) (omega arith) h whole in
      let total = behind.0 in
      let few : argument_count rest ≤ 16 = omega (arith, total) in
      if_more (λ vs. AreWhole around vs × (count_of vs ≡ argument_count rest)) (λ vs. AreWhole around vs
      × (count_of vs ≡ argument_count rest) × (argument_count rest ≤ 16)) (resolved_values scopes rest)
      (λ vs hvs. (hvs.0, hvs.1, few)) behind.1

  whole_target : (around : Around) (scopes : Scopes) (e : ExpressionTree) → Knows around scopes → target_breaches
      scopes e ≡ [] → IfSome (resolved_target scopes e) (IsWholeTargetTree around)
  whole_target around scopes (Name n) h whole = if_then (IsInScope around shapes.Scalar) (IsWholeTargetTree around)
      (variable_named scopes n) _ (whole_scalar around scopes n h whole) (λ v hv. hv)
  whole_target around scopes (Index n left e right) h whole =
      if_then (IsInScope around shapes.Array) (IsWholeTargetTree around) (variable_named scopes n) _
      (whole_array around scopes n h (front (array_breaches scopes n) (expression_breaches scopes true e)
      whole)) (λ v hv.
      if_then (IsWhole around true) (IsWholeTargetTree around) (resolved_expression scopes e) _
      (whole_expression around scopes true e h
      (back (array_breaches scopes n) (expression_breaches scopes true e) whole)) (λ x hx. (hv, hx)))
  whole_target around scopes (Paren left e right) h whole =
      by_test (is_target e) (λ breaches found. breaches ≡ [] → IfSome (resolved_target scopes e)
      (IsWholeTargetTree around))
      (target_breaches scopes e) (misplaced_breaches scopes (Paren left e right)) e e
      (λ w. whole_target around scopes e h w) (λ w. absurd (never_misplaced scopes (Paren left e right) w)) whole
  whole_target around scopes (Constant n) h whole = tt
  whole_target around scopes (Text t) h whole = tt
  whole_target around scopes (Call n left values right) h whole = tt
  whole_target around scopes (Prefix o at e) h whole = tt
  whole_target around scopes (Postfix e o at) h whole = tt
  whole_target around scopes (Binary a o at b) h whole = tt
  whole_target around scopes (Conditional c question a colon b) h whole = tt
  whole_target around scopes (Assign a o at b) h whole = tt

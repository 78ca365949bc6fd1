-- Reading a declaration looks no further than at the token at which it stops, or which stands behind it.
use Rattle.std.proofs.Common.{ℕ, suc, length, Some, None}
use Rattle.om_lexer.specs.declared.token.Punctuator.TheVariants as punctuators
use Rattle.om_lexer.specs.declared.token.Span.{Span}
use Rattle.om_pragma.specs.declared.clause.Name as names
use Rattle.om_parser_parts.specs.DeclarationReading.{signed_at, array_after, declarator_after, further_at, declaration_after}
use Rattle.om_parser_parts.specs.DeclarationReading.{declared_at}
use Rattle.om_parser_parts.specs.Local.{Measure, pair, triple, IsLocal, done, bind, either, mark_taker, mark_local, name_local}
use Rattle.om_parser_parts.specs.Local.{number_local, until_local}
use Rattle.om_parser_parts.specs.PartReading.{global_at}
use Rattle.om_parser_parts.specs.Reading.{LeavesNoMore, Reader, take_mark, mark_at, name_at, number_at}
use Rattle.om_parser_parts.specs.Repetition.{until}
use Rattle.om_parser_tree.specs.Limits.{Limits}
use Rattle.om_parser_parts.specs.ExpressionReading.{whole_at}
use Rattle.om_parser_parts.proofs.DeclarationSound.{signed_leaves, whole_leaves, further_shorter}
use Rattle.om_parser_parts.proofs.ExpressionLocal.{whole_local}

signed_local : (m : ℕ) (i : Measure) → IsLocal m pair (λ j. signed_at) i
unfolding signed_at
signed_local m i = either m pair (take_mark punctuators.Minus) _ _ i (mark_taker punctuators.Minus)
    (λ s. bind (suc m) pair pair (λ j ts. number_at ts) _ i (number_local (suc m) i)
    (λ n. done (suc m) (record { minus = Some s; number = n.0 }) i))
    (bind m pair pair (λ j ts. number_at ts) _ i (number_local m i)
    (λ n. done m (record { minus = None; number = n.0 }) i))

array_local : (left : Span) (m : ℕ) (i : Measure) → IsLocal m pair (λ j. array_after left) i
unfolding array_after
array_local left m i = bind m pair pair (λ j ts. number_at ts) _ i (number_local m i)
    (λ n. bind m pair pair (λ j ts. mark_at punctuators.CloseBracket ts) _ i (mark_local m punctuators.CloseBracket i)
    (λ r. done m (record { open_bracket = left; size = n.0; close_bracket = r.0 }) i))

module _ {I : Type 0} (initial : Reader I) (leaves : LeavesNoMore initial) (i : Measure)
    (h : (m : ℕ) → IsLocal m pair (λ j. initial) i) where
  declarator_local : (n : names.Name) (m : ℕ) → IsLocal m pair (λ j. declarator_after initial n) i
  unfolding declarator_after
  declarator_local n m = either m pair (take_mark punctuators.OpenBracket) _ _ i (mark_taker punctuators.OpenBracket)
      (λ b. bind (suc m) pair pair (λ j ts. array_after b ts) _ i (array_local b (suc m) i)
      (λ a. done (suc m) (record { name = n; array = Some a.0; initializer = None }) i))
      (either m pair (take_mark punctuators.Equal) _ _ i (mark_taker punctuators.Equal)
      (λ q. bind (suc m) pair pair (λ j ts. initial ts) _ i (h (suc m))
      (λ e. done (suc m)
      (record { name = n; array = None; initializer = Some (record { equal = q; value = e.0 }) }) i))
      (done m (record { name = n; array = None; initializer = None }) i))

  further_local : (m : ℕ) → IsLocal m pair (λ j. further_at initial) i
  unfolding further_at
  further_local m = bind m pair pair (λ j ts. mark_at punctuators.Comma ts) _ i (mark_local m punctuators.Comma i)
      (λ c. bind m pair pair (λ j ts. name_at ts) _ i (name_local m i)
      (λ n. bind m pair pair (λ j ts. declarator_after initial n.0 ts) _ i (declarator_local n.0 m)
      (λ d. done m (c.0, d.0) i)))

  declaration_local : (int : Span) (n : names.Name) (m : ℕ) → IsLocal m pair (λ j. declaration_after initial int n) i
  unfolding declaration_after
  declaration_local int n m = bind m pair pair (λ j ts. declarator_after initial n ts) _ i (declarator_local n m)
      (λ d. bind m triple pair
      (λ j ts. until (take_mark punctuators.Semicolon) (further_at initial) (length ts) ts) _ i
      (until_local (take_mark punctuators.Semicolon) (λ j. further_at initial) i (mark_taker punctuators.Semicolon)
      (λ j ts x e. further_shorter initial leaves ts x.0 x.1 e) m (λ k le. further_local k))
      (λ x. done m (record { int = int; first = d.0; rest = x.0; semicolon = x.1 }) i))

  declared_local : (int : Span) (m : ℕ) → IsLocal m pair (λ j. declared_at initial int) i
  unfolding declared_at
  declared_local int m = bind m pair pair (λ j ts. name_at ts) _ i (name_local m i)
      (λ n. declaration_local int n.0 m)

pub local_local : (l : Limits) (room : ℕ) (int : Span) (m : ℕ) (i : Measure)
    → IsLocal m pair (λ j. declared_at (whole_at l room) int) i
local_local l room int m i = declared_local (whole_at l room) (whole_leaves l room) i
    (λ k. whole_local l room k i) int m

pub global_local : (int : Span) (n : names.Name) (m : ℕ) (i : Measure) → IsLocal m pair (λ j. global_at int n) i
unfolding global_at
global_local int n m i = declaration_local signed_at signed_leaves i (λ k. signed_local k i) int n m

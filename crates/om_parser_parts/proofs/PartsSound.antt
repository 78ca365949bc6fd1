-- The parts of statements that are read are well-formed, within the limits, and spelled as the tokens were.
use Rattle.std.proofs.Common.{◌≡◌, ℕ, ◌+◌, ◌-◌, ◌≤◌, List, [], ◌∷◌, arith, All}
use Rattle.std.proofs.lemmas.List.Elements.{All-head, All-tail}
use Rattle.om_parser_parts.specs.DeclarationReading.{declared_at}
use Rattle.om_parser_parts.specs.ExpressionReading.{whole_at}
use Rattle.om_parser_tree.specs.Formed.{IsExpression}
use Rattle.om_parser_tree.specs.Limits.{Limits, nesting, expressions_of_declaration}
use Rattle.om_parser_parts.specs.PartReading.{parts}
use Rattle.om_parser_tree.specs.Sizes.{most, extent}
use Rattle.om_parser_tree.specs.Spelling.{expression_spelling}
use Rattle.om_parser_tree.specs.Tree.{ExpressionTree}
use Rattle.om_parser_parts.proofs.LineSound.{line_sound}
use Rattle.om_parser_parts.proofs.ExpressionSound.{whole_sound}
use Rattle.om_parser_parts.specs.Laws.{IsSound, IsWhole, IsDeclarationSound, PartsAreSound}
use Rattle.om_parser_parts.proofs.LineAnswers.{IsReading, HasOneExpression}
use Rattle.om_parser_parts.proofs.DeclarationSound.{declared_sound, declaration_parts}

-- the limits of a whole expression with so many parentheses round it
pub record IsKept (l : Limits) (round : ℕ) (e : ExpressionTree) : Type 0 where
  pub nested : nesting e + round ≤ l.nested
  pub long : extent e ≤ l.tokens

module _ (l : Limits) (room round : ℕ) (sum : room + round ≡ l.nested) where
  pub expression_sound : IsSound expression_spelling (IsWhole l round) (whole_at l room)
  expression_sound ts x h =
      let r = whole_sound l room ts x h in
      record {
        parts = r.parts;
        formed = record {
          formed = r.formed.0;
          nested = omega (arith, r.formed.1, sum);
          long = omega (arith, r.formed.2);
        };
      }

  initial_sound : IsSound expression_spelling (λ e. IsExpression e × IsKept l round e)
      (whole_at l room)
  initial_sound ts x h =
      let r = whole_sound l room ts x h in
      record {
        parts = r.parts;
        formed = (
          r.formed.0,
          record {
            nested = omega (arith, r.formed.1, sum);
            long = omega (arith, r.formed.2);
          },
        );
      }

  most_nested : (es : List ExpressionTree) → All (IsKept l round) es → most nesting es + round ≤ l.nested
  most_nested [] w = omega (arith, sum)
  most_nested (e ∷ es) w =
      let first = All-head (IsKept l round) e es w in
      omega (arith, first.nested, most_nested es (All-tail (IsKept l round) e es w))

  most_long : (es : List ExpressionTree) → All (IsKept l round) es → most extent es ≤ l.tokens
  most_long [] w = omega arith
  most_long (e ∷ es) w =
      let first = All-head (IsKept l round) e es w in
      omega (arith, first.long, most_long es (All-tail (IsKept l round) e es w))

  pub local_sound : IsDeclarationSound l round (declared_at (whole_at l room))
  local_sound int ts x h =
      let r = declared_sound expression_spelling (λ e. IsExpression e × IsKept l round e) (whole_at l room)
      initial_sound int ts x h in
      let both = declaration_parts IsExpression (IsKept l round) x.0 r.formed in
      record {
        parts = r.parts;
        formed = record {
          formed = both.0;
          nested = most_nested (expressions_of_declaration x.0) both.1;
          long = most_long (expressions_of_declaration x.0) both.1;
        };
      }

pub parts_sound : IsReading → HasOneExpression → PartsAreSound
unfolding parts
parts_sound is_read few l one = record {
  expression = expression_sound l l.nested 0 (omega arith);
  enclosed = expression_sound l (l.nested - 1) 1 (omega (arith, one));
  declaration = local_sound l l.nested 0 (omega arith);
  enclosed_declaration = local_sound l (l.nested - 1) 1 (omega (arith, one));
  line = line_sound is_read few l one;
}

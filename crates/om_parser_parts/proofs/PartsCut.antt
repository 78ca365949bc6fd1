-- Where a part of a statement is refused by another code than that of syntax: at a limit its tokens up to
-- there begin a well-formed one.
use Rattle.std.proofs.Common.{ℕ, List, [], ◌∷◌, ◌++◌, refl, ap, ◌∙◌, arith, append_assoc}
use Rattle.std.proofs.lemmas.List.{append-nil}
use Rattle.om_lexer.specs.declared.token.Token.{Token}
use Rattle.om_parser_parts.specs.DeclarationReading.{declared_at}
use Rattle.om_parser_parts.specs.ExpressionReading.{whole_at}
use Rattle.om_parser_tree.specs.Formed.{IsExpression}
use Rattle.om_parser_tree.specs.Limits.{Limits, expressions_of_declaration}
use Rattle.om_parser_parts.proofs.ItemsCut.{PassesLimit, IsCuttingAt}
use Rattle.om_parser_parts.specs.PartReading.{parts}
use Rattle.om_parser_tree.specs.Places.{IsOverIn, IsPassed, in_parentheses}
use Rattle.om_parser_tree.specs.Spelling.{expression_spelling, local_spelling}
use Rattle.om_parser_tree.specs.Tree.{ExpressionTree}
use Rattle.om_parser_parts.proofs.LineCut.{line_cut}
use Rattle.om_parser_parts.proofs.ExpressionSound.{whole_sound}
use Rattle.om_parser_parts.proofs.ExpressionCut.{too_much_at, whole_cut}
use Rattle.om_parser_parts.proofs.ExpressionRefusals.{whole_refuses}
use Rattle.om_parser_parts.specs.Laws.{IsSound, IsExpressionCut, IsDeclarationCut, PartsStopSo}
use Rattle.om_parser_parts.proofs.LineAnswers.{LineLaws}
use Rattle.om_parser_parts.proofs.DeclarationCut.{declared_cut}
use Rattle.om_parser_parts.proofs.DeclarationRefusals.{declared_refuses}
use Rattle.om_parser_parts.proofs.Refusals.{Refuses, stops_too_deep}

-- where a limit is passed, said by the place
passed_in : {A : Type 0} (spell : A → List Token) (P : A → Type 0) (whole : A → List ExpressionTree) (m : Limits)
    (ts : List Token) (place : ℕ) → PassesLimit spell P whole m ts place → IsPassed spell P (IsOverIn spell whole m)
    ts place
passed_in spell P whole m ts place c = record {
  part = c.part;
  formed = c.formed;
  before = c.before ++ c.begun;
  token = c.token;
  after = c.after;
  rest_of_part = c.rest_of_expression ++ c.rest_of_part;
  stands = c.stands ∙ simp append_assoc;
  in_part = c.in_part ∙ ap (λ w. c.before ++ w ++ c.rest_of_part) c.in_expression ∙ simp append_assoc;
  at_place = c.at_place;
  too_much = record {
    expression = c.expression;
    whole = c.whole;
    front = c.before;
    begun = c.begun;
    rest_of_expression = c.rest_of_expression;
    rest_of_part = c.rest_of_part;
    parts = refl;
    in_expression = c.in_expression;
    in_part = c.in_part;
    too_much = c.too_much;
  };
}

-- ---- expressions and declarations

module _ (m : Limits) where
  expression_passed : IsExpressionCut m (whole_at m m.nested)
  expression_passed ts f h stops =
      let deep = stops_too_deep f (whole_refuses m m.nested ts f h) stops in
      let c = whole_cut m m.nested ts f h deep in (
        deep,
        record {
          part = c.tree;
          formed = c.formed;
          before = c.begun;
          token = c.token;
          after = c.after;
          rest_of_part = c.more;
          stands = c.stands;
          in_part = c.spelled;
          at_place = c.at_place;
          too_much = record {
            expression = c.tree;
            whole = (0, omega arith, refl);
            front = [];
            begun = c.begun;
            rest_of_expression = c.more;
            rest_of_part = [];
            parts = refl;
            in_expression = c.spelled;
            in_part = simp append-nil;
            too_much = too_much_at m ts c.begun c.token c.after c.stands c.too_much;
          };
        },
      )

  initial_sound : IsSound expression_spelling IsExpression (whole_at m m.nested)
  initial_sound ts x h = let r = whole_sound m m.nested ts x h in record { parts = r.parts; formed = r.formed.0 }

  initial_cut : IsCuttingAt expression_spelling IsExpression (λ e. e ∷ []) m
      (whole_at m m.nested)
  initial_cut ts f h deep =
      let c = whole_cut m m.nested ts f h deep in
      record {
        part = c.tree;
        formed = c.formed;
        expression = c.tree;
        whole = (0, omega arith, refl);
        before = [];
        begun = c.begun;
        token = c.token;
        after = c.after;
        rest_of_expression = c.more;
        rest_of_part = [];
        stands = c.stands;
        in_expression = c.spelled;
        in_part = simp append-nil;
        at_place = c.at_place;
        too_much = too_much_at m ts c.begun c.token c.after c.stands c.too_much;
      }

  initial_refuses : (ts : List Token) → Refuses (whole_at m m.nested ts)
  initial_refuses ts = whole_refuses m m.nested ts

  local_passed : IsDeclarationCut m (declared_at (whole_at m m.nested))
  local_passed int ts f h stops =
      let initial = whole_at m m.nested in
      let deep = stops_too_deep f (declared_refuses initial initial_refuses int ts f h) stops in (
        deep,
        passed_in local_spelling _ expressions_of_declaration m (_ ∷ ts) f.at
            (declared_cut IsExpression m initial initial_sound initial_cut int ts f h deep),
      )

pub parts_cut : LineLaws → PartsStopSo
unfolding parts whole_at
parts_cut laws l one = record {
  expression = expression_passed l;
  enclosed = expression_passed (in_parentheses l);
  declaration = local_passed l;
  enclosed_declaration = local_passed (in_parentheses l);
  line = line_cut laws l one;
}

use Rattle.std.proofs.Common.{sym, ◌∙◌}
use Rattle.std.proofs.lemmas.Bool.{both_ways}
use Rattle.om_lexer.proofs.define.is_definition.Goals as goal
use Rattle.om_lexer.proofs.define.is_definition.Goals.{then-is_macro_name, else-is_macro_name}

pub returns-then-is_decimal : goal.returns-then-is_decimal
returns-then-is_decimal c = elim c.if-is_macro_name.branch [
  | then-is_macro_name w ↦ (
    λ yes. (
      c.is_macro_name.ensures.0 w.if-is_macro_name.true,
      w.is_decimal.ensures.0 (sym w.value-is ∙ c.if-is_decimal.true),
      c.ends_line.ensures.0 yes,
    ),
    λ all. c.ends_line.ensures.1 all.2,
  )
  | else-is_macro_name w ↦ absurd (both_ways _ w.if-is_macro_name.false (sym w.value-is ∙ c.if-is_decimal.true))
]

pub returns-else-is_decimal : goal.returns-else-is_decimal
returns-else-is_decimal c = (
  λ yes. absurd (both_ways _ c.if-is_decimal.false yes),
  λ all. elim c.if-is_macro_name.branch [
    | then-is_macro_name w ↦ w.value-is ∙ w.is_decimal.ensures.1 all.1
    | else-is_macro_name w ↦ absurd (both_ways _ w.if-is_macro_name.false (c.is_macro_name.ensures.1 all.0))
  ],
)

-- For proofs: reading a directive line with its expression.
use Rattle.std.specs.Prelude.{ℕ, ◌-◌, List, [], ◌∷◌, length, Option, Some, None, Ok, Err, Bool, true, false, ◌&&◌}
use Rattle.std.specs.Prelude.{nat_eq, nat_lt, slice_get, option_map, if◌then◌else◌}
use Rattle.om_lexer.specs.declared.fault.FaultCode.{FaultCode}
use Rattle.om_lexer.specs.declared.fault.FaultCode.TheVariants as codes
use Rattle.om_lexer.specs.declared.fault.SourceFault.{SourceFault}
use Rattle.om_lexer.specs.declared.token.Token.{Token}
use Rattle.om_pragma.specs.declared.tree.Directive.{Directive}
use Rattle.om_pragma.specs.Expressions.{first_expression, map_directive}
use Rattle.om_pragma.specs.Reading.{is_end, directive_at, expression_before}
use Rattle.om_parser_parts.specs.ExpressionReading.{whole_at}
use Rattle.om_parser_tree.specs.Limits.{Limits}
use Rattle.om_parser_parts.specs.Reading.{◌>>=◌, choose, Outcome, Reader, syntax}
use Rattle.om_parser_tree.specs.Tree.{ExpressionTree, Constant}

-- the tokens up to the first end of a directive line, with it, and those behind it
unfoldable pub run_of : List Token → Option (List Token × List Token)
run_of [] = None
run_of (t ∷ ts) = if is_end t.kind then Some (t ∷ [], ts) else option_map (λ r. (t ∷ r.0, r.1)) (run_of ts)

-- ---- the expression of a clause

-- where the last of these tokens starts
abbrev pub last_start : List Token → ℕ
last_start ts = choose (slice_get ts (length ts - 1)) (λ t. t.span.start) 0

-- where the first of these tokens starts that stands behind that byte; past every source where there is none
unfoldable pub place_behind : ℕ → List Token → ℕ
place_behind at [] = 4294967295
place_behind at (t ∷ ts) = if nat_lt at t.span.start then t.span.start else place_behind at ts

abbrev pub is_syntax : FaultCode → Bool
is_syntax codes.Syntax = true
is_syntax _ = false

-- a fault of some tokens of a run; where it is that they end, it stands at the token behind them
abbrev pub in_run : (run es : List Token) → SourceFault → SourceFault
in_run run es f = if is_syntax f.code && nat_eq f.at 4294967295 then record {
  code = codes.Syntax;
  at = place_behind (last_start es) run;
} else f

-- the expression, where no tokens are left behind it
abbrev pub alone : ExpressionTree → List Token → Outcome ExpressionTree
alone e [] = Ok e
alone e (t ∷ ts) = Err (syntax (t ∷ ts))

-- what is read of some tokens of a run, as all of them
abbrev pub all_of : (run es : List Token) → Outcome (ExpressionTree × List Token) → Outcome ExpressionTree
all_of run es (Ok x) = alone x.0 x.1
all_of run es (Err f) = Err (in_run run es f)

-- all tokens between the parentheses of a clause of a run, which are the outermost ones round their parts, as
-- one expression
unfoldable pub clause_value : Limits → (run es : List Token) → Outcome ExpressionTree
clause_value l run es = all_of run es (whole_at l (l.nested - 1) es)

-- ---- the line

-- an expression for a directive that has none
abbrev pub no_value : ExpressionTree
no_value = Constant (record { value = 0; span = record { start = 0; end = 0; line = 0 } })

-- a directive with its expression read
unfoldable pub with_value : Limits → (run : List Token) → Directive (List Token) → Outcome (Directive ExpressionTree)
with_value l run d = choose (first_expression d.clauses)
    (λ es. clause_value l run es >>= λ e. Ok (map_directive (λ any. e) d))
    (Ok (map_directive (λ any. no_value) d))

-- the fault of a run, or that of an expression before it, which is the lower one
unfoldable pub sooner : Limits → (run : List Token) → SourceFault → Outcome (Directive ExpressionTree)
sooner l run f = choose (expression_before f.at run) (λ es. clause_value l run es >>= λ e. Err f) (Err f)

-- the directive of a run, of what is read of its words and clauses
abbrev pub line_of : Limits → (run : List Token) → Outcome (Directive (List Token)) → Outcome (Directive ExpressionTree)
line_of l run (Ok d) = with_value l run d
line_of l run (Err f) = sooner l run f

-- the directive line that stands first
unfoldable pub line_at : Limits → Reader (Directive ExpressionTree)
line_at l ts = choose (run_of ts) (λ r. line_of l r.0 (directive_at r.0) >>= λ d. Ok (d, r.1)) (Err (syntax []))

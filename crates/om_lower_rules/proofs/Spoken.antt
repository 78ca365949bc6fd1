-- What has a meaning here, where each format of `printf` is among these.
use Rattle.std.proofs.Common.{◌≡◌, ℕ, true, List, [], ◌∷◌, ◌++◌, Option, Some, None}
use Rattle.std.specs.Prelude.{All, IfSome}
use Rattle.std.specs.List.{list_any}
use Rattle.std.specs.Str.{bytes_eq}
use Rattle.std.proofs.lemmas.List.Elements.{All-nil, All-cons, All-head, All-tail}
use Rattle.om_scope_tree.specs.ResolvedTree.{ResolvedExpressionTree, Constant, Variable, Element, Call, ThreadNumber}
use Rattle.om_scope_tree.specs.ResolvedTree.{TeamSize, Unary, Binary, Conditional, Assign, AssignElement, Postfix}
use Rattle.om_scope_tree.specs.ResolvedTree.{PostfixElement, Print, ResolvedStartTree, StartNothing, StartExpression}
use Rattle.om_scope_tree.specs.ResolvedTree.{StartDeclaration, ResolvedStatementTree, Declaration, Block, Empty}
use Rattle.om_scope_tree.specs.ResolvedTree.{Expression, If, IfElse, While, Do, For, Return, Break, Continue, Region}
use Rattle.om_scope_tree.specs.ResolvedTree.{Loop, Sections, Construct, Update, StandAlone, ResolvedStatementsTree}
use Rattle.om_scope_tree.specs.ResolvedTree.{NoStatements, Statement}
use Rattle.om_lower_rules.specs.Mentions.{expression_formats, values_formats, format_mention, perhaps_mentioned}
use Rattle.om_lower_rules.specs.Mentions.{start_mentioned, mentioned, all_mentioned}
use Rattle.om_lower_rules.specs.Serial.{IsSerial, AreSerial, IsSerialEffect, IsSerialStart, IsSerialStatement}
use Rattle.om_lower_rules.specs.Serial.{AreSerialStatements}

-- an expression whose value nothing uses
abbrev pub IsSpokenEffect : List (List ℕ) → ResolvedExpressionTree → Type 0
IsSpokenEffect formats (Print format es) = (list_any (bytes_eq format) formats ≡ true) × AreSerial es
IsSpokenEffect formats e = IsSerial e

abbrev pub IsSpokenStart : List (List ℕ) → ResolvedStartTree → Type 0
IsSpokenStart formats StartNothing = Unit {0}
IsSpokenStart formats (StartExpression e) = IsSpokenEffect formats e
IsSpokenStart formats (StartDeclaration ds) = All (λ d. IfSome d.initial IsSerial) ds

abbrev mutual
  pub IsSpokenStatement : List (List ℕ) → ResolvedStatementTree → Type 0
  IsSpokenStatement formats (Declaration first ds) = All (λ d. IfSome d.initial IsSerial) ds
  IsSpokenStatement formats (Block first items) = AreSpoken formats items
  IsSpokenStatement formats (Empty first) = Unit {0}
  IsSpokenStatement formats (Expression first e) = IsSpokenEffect formats e
  IsSpokenStatement formats (If first c s) = IsSerial c × IsSpokenStatement formats s
  IsSpokenStatement formats (IfElse first c s t) = IsSerial c × IsSpokenStatement formats s × IsSpokenStatement
      formats t
  IsSpokenStatement formats (While first c s) = IsSerial c × IsSpokenStatement formats s
  IsSpokenStatement formats (Do first s c) = IsSpokenStatement formats s × IsSerial c
  IsSpokenStatement formats (For first start c step s) =
      IsSpokenStart formats start × IfSome c IsSerial × IfSome step (IsSpokenEffect formats) × IsSpokenStatement
      formats s
  IsSpokenStatement formats (Return first e) = IfSome e IsSerial
  IsSpokenStatement formats (Break first) = Unit {0}
  IsSpokenStatement formats (Continue first) = Unit {0}
  IsSpokenStatement formats _ = ⊥

  pub AreSpoken : List (List ℕ) → ResolvedStatementsTree → Type 0
  AreSpoken formats NoStatements = Unit {0}
  AreSpoken formats (Statement s rest) = IsSpokenStatement formats s × AreSpoken formats rest

-- ---- from what is mentioned

module _ (formats : List (List ℕ)) where
  abbrev pub Found : List ℕ → Type 0
  Found format = list_any (bytes_eq format) formats ≡ true

  pub front : (xs ys : List (List ℕ)) → All Found (xs ++ ys) → All Found xs
  front [] ys h = All-nil Found
  front (x ∷ xs) ys h = All-cons Found x xs (All-head Found x (xs ++ ys) h)
      (front xs ys (All-tail Found x (xs ++ ys) h))

  pub back : (xs ys : List (List ℕ)) → All Found (xs ++ ys) → All Found ys
  back [] ys h = h
  back (x ∷ xs) ys h = back xs ys (All-tail Found x (xs ++ ys) h)

  effect_spoken : (e : ResolvedExpressionTree) → IsSerialEffect e → All Found (expression_formats e)
      → IsSpokenEffect formats e
  unfolding expression_formats
  effect_spoken (Print format es) g h = (All-head Found format (values_formats es) h, g)
  effect_spoken (Constant c) g h = g
  effect_spoken (Variable x) g h = g
  effect_spoken (Element a j) g h = g
  effect_spoken (Call f es) g h = g
  effect_spoken ThreadNumber g h = g
  effect_spoken TeamSize g h = g
  effect_spoken (Unary o e) g h = g
  effect_spoken (Binary a o b) g h = g
  effect_spoken (Conditional c a b) g h = g
  effect_spoken (Assign x o e) g h = g
  effect_spoken (AssignElement a j o e) g h = g
  effect_spoken (Postfix x o) g h = g
  effect_spoken (PostfixElement a j o) g h = g

  start_spoken : (start : ResolvedStartTree) → IsSerialStart start
      → All Found (start_mentioned format_mention start) → IsSpokenStart formats start
  start_spoken StartNothing g h = g
  start_spoken (StartExpression e) g h = effect_spoken e g h
  start_spoken (StartDeclaration ds) g h = g

  step_spoken : (e : Option ResolvedExpressionTree) → IfSome e IsSerialEffect
      → All Found (perhaps_mentioned format_mention e) → IfSome e (IsSpokenEffect formats)
  step_spoken None g h = tt
  step_spoken (Some e) g h = effect_spoken e g h

  mutual
    unfolding mentioned all_mentioned

    pub spoken : (x : ResolvedStatementTree) → IsSerialStatement x → All Found (mentioned format_mention x)
        → IsSpokenStatement formats x
    spoken (Declaration first ds) g h = g
    spoken (Block first items) g h = all_spoken items g h
    spoken (Empty first) g h = g
    spoken (Expression first e) g h = effect_spoken e g h
    spoken (If first c s) g h = (g.0, spoken s g.1 (back (expression_formats c) (mentioned format_mention s) h))
    spoken (IfElse first c s t) g h =
        let r = back (expression_formats c) (mentioned format_mention s ++ mentioned format_mention t) h in (
          g.0,
          spoken s g.1 (front (mentioned format_mention s) (mentioned format_mention t) r),
          spoken t g.2
              (back (mentioned format_mention s) (mentioned format_mention t) r),
        )
    spoken (While first c s) g h = (g.0, spoken s g.1 (back (expression_formats c) (mentioned format_mention s) h))
    spoken (Do first s c) g h = (spoken s g.0 (front (mentioned format_mention s) (expression_formats c) h), g.1)
    spoken (For first start c step s) g h =
        let a = back (start_mentioned format_mention start) (perhaps_mentioned format_mention c
        ++ (perhaps_mentioned format_mention step ++ mentioned format_mention s)) h in
        let b = back (perhaps_mentioned format_mention c) (perhaps_mentioned format_mention step
        ++ mentioned format_mention s) a in (
          start_spoken start g.0
              (front (start_mentioned format_mention start) (perhaps_mentioned format_mention c
              ++ (perhaps_mentioned format_mention step ++ mentioned format_mention s)) h),
          g.1,
          step_spoken step g.2 (front (perhaps_mentioned format_mention step) (mentioned format_mention s) b),
          spoken s g.3 (back (perhaps_mentioned format_mention step) (mentioned format_mention s) b),
        )
    spoken (Return first e) g h = g
    spoken (Break first) g h = g
    spoken (Continue first) g h = g
    spoken (Region first kind clauses captures s) g h = absurd g
    spoken (Loop first clauses nowait l s) g h = absurd g
    spoken (Sections first clauses nowait parts) g h = absurd g
    spoken (Construct first kind clauses s) g h = absurd g
    spoken (Update first u) g h = absurd g
    spoken (StandAlone first directive) g h = absurd g

    pub all_spoken : (xs : ResolvedStatementsTree) → AreSerialStatements xs
        → All Found (all_mentioned format_mention xs) → AreSpoken formats xs
    all_spoken NoStatements g h = tt
    all_spoken (Statement x xs) g h = (
      spoken x g.0 (front (mentioned format_mention x) (all_mentioned format_mention xs) h),
      all_spoken xs g.1 (back (mentioned format_mention x) (all_mentioned format_mention xs) h),
    )

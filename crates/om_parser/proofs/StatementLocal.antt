-- A statement is read as far as the next token, and refused by S3 for nothing that stands behind its token.
use Rattle.std.proofs.Common.{◌≡◌, ℕ, suc, List, Some, None, Err}
use Rattle.std.proofs.Common.{Bool, true, false, ap, ◌∙◌, cond}
use Rattle.std.specs.Prelude.{◌≢◌, ◌||◌, not}
use Rattle.om_lexer.specs.declared.fault.FaultCode.TheVariants as codes
use Rattle.om_lexer.specs.declared.fault.SourceFault.{SourceFault}
use Rattle.om_lexer.specs.declared.token.Keyword.TheVariants as keywords
use Rattle.om_lexer.specs.declared.token.Punctuator.{Punctuator}
use Rattle.om_lexer.specs.declared.token.Punctuator.TheVariants as punctuators
use Rattle.om_lexer.specs.declared.token.Span.{Span}
use Rattle.om_lexer.specs.declared.token.Token.{Token}
use Rattle.om_pragma.specs.declared.tree.DirectiveKind.{DirectiveKind}
use Rattle.om_pragma.specs.declared.tree.Directive.{Directive}
use Rattle.om_pragma.specs.Kinds.{stands_alone, begins_part}
use Rattle.om_pragma.specs.Questions.{is_sections, is_atomic, atomic_kind}
use Rattle.om_parser.specs.declared.construct.LineStart.TheVariants as lines
use Rattle.om_parser.specs.declared.start.Start.{Start}
use Rattle.om_parser.specs.declared.start.Start.TheVariants as starts
use Rattle.om_parser.specs.ConstructReading.{start_of_kind}
use Rattle.om_parser.specs.ConstructReading.{bad_atomic, atomic_of, atomic_after, constructed_after, PartsReader}
use Rattle.om_parser.specs.ConstructReading.{sections_after, construct_after}
use Rattle.om_parser.specs.StatementReading.{condition_at, optional_before, for_start_at, for_head_after}
use Rattle.om_parser.specs.StatementReading.{OpeningTree, OpensIf, OpensWhile, OpensFor, opening_of, return_after}
use Rattle.om_parser.specs.StatementReading.{jump_after, expression_statement_at, else_after, behind_body, body_after}
use Rattle.om_parser.specs.StatementReading.{headed_of, do_end, do_after}
use Rattle.om_parser_parts.specs.Local.{Measure, Form, Family, pair, IsLocal, ArePartsLocal, done, bind, either}
use Rattle.om_parser_parts.specs.Local.{stuck, mark_taker, word_taker, mark_local, word_local}
use Rattle.om_parser_parts.specs.Outcomes.{err_is}
use Rattle.om_parser_parts.specs.PartReading.{Parts}
use Rattle.om_parser_parts.specs.Reading.{choose, Reader, take_mark, take_word, mark_at}
use Rattle.om_parser_parts.specs.Reading.{word_at}
use Rattle.om_parser_tree.specs.AtomicForms.{has_atomic_form}
use Rattle.om_parser_tree.specs.Tree.{ExpressionTree, ConditionTree, Nothing, StartExpression, StartDeclaration, StatementTree}
use Rattle.om_parser_tree.specs.Tree.{Expression, If, IfElse, While, Do, For, Return}
use Rattle.om_parser_tree.specs.Tree.{Construct, StandAlone, Sections, statements}
use Rattle.om_parser.proofs.ItemLocal.{lined}

-- a reader of statements that looks no further
abbrev pub IsNear : {A : Type 0} → ℕ → Reader A → Type 0
IsNear n r = (m : ℕ) → IsLocal m pair (λ j. r) (lined n)

-- what is refused by another code
refused : {A : Type 0} (m n : ℕ) (d : SourceFault) → d.code ≢ codes.Syntax
    → IsLocal {Y = A × List Token} m pair (λ j ts. Err d) (lined n)
refused m n d other ts far = record {
  takes = λ y e. absurd cc;
  halts = λ f e wrong. absurd (other (ap (λ (c : SourceFault). c.code) (err_is d f e) ∙ wrong));
}

by_test : {Y : Type 0} (m : ℕ) (s : Form Y) (r q : Family Y) (i : Measure) (b : Bool) → IsLocal m s r i → IsLocal m s q i
    → IsLocal m s (λ j ts. cond b (r j ts) (q j ts)) i
by_test m s r q i true h k = h
by_test m s r q i false h k = k

module _ (p : Parts) (h : ArePartsLocal p) (n : ℕ) where
  condition_local : IsNear n (condition_at p)
  unfolding condition_at
  condition_local m = bind m pair pair (λ j ts. mark_at punctuators.OpenParen ts) _ (lined n)
      (mark_local m punctuators.OpenParen (lined n))
      (λ a. bind m pair pair (λ j. p.enclosed) _ (lined n) (h.enclosed m (lined n))
      (λ e. bind m pair pair (λ j ts. mark_at punctuators.CloseParen ts) _ (lined n)
      (mark_local m punctuators.CloseParen (lined n))
      (λ r. done m (record { open_paren = a.0; value = e.0; close_paren = r.0 }) (lined n))))

  optional_local : (q : Punctuator) (r : Reader ExpressionTree) → IsNear n r → IsNear n (optional_before q r)
  unfolding optional_before
  optional_local q r g m = either m pair (take_mark q) _ _ (lined n) (mark_taker q)
      (λ s. done (suc m) (None, s) (lined n))
      (bind m pair pair (λ j. r) _ (lined n) (g m)
      (λ e. bind m pair pair (λ j ts. mark_at q ts) _ (lined n) (mark_local m q (lined n))
      (λ s. done m (Some e.0, s.0) (lined n))))

  enclosed_near : IsNear n p.enclosed
  enclosed_near m = h.enclosed m (lined n)

  for_start_local : IsNear n (for_start_at p)
  unfolding for_start_at
  for_start_local m = either m pair (take_word keywords.Int) _ _ (lined n) (word_taker keywords.Int)
      (λ w. bind (suc m) pair pair (λ j. p.enclosed_declaration w) _ (lined n)
      (h.enclosed_declaration w (suc m) (lined n)) (λ d. done (suc m) (StartDeclaration d.0) (lined n)))
      (bind m pair pair (λ j. optional_before punctuators.Semicolon p.enclosed) _ (lined n)
      (optional_local punctuators.Semicolon p.enclosed enclosed_near m)
      (λ e. done m (choose e.0.0 (λ x. StartExpression x e.0.1) (Nothing e.0.1)) (lined n)))

  for_head_local : (word : Span) → IsNear n (for_head_after p word)
  unfolding for_head_after
  for_head_local word m = bind m pair pair (λ j ts. mark_at punctuators.OpenParen ts) _ (lined n)
      (mark_local m punctuators.OpenParen (lined n))
      (λ a. bind m pair pair (λ j. for_start_at p) _ (lined n) (for_start_local m)
      (λ s. bind m pair pair (λ j. optional_before punctuators.Semicolon p.enclosed) _ (lined n)
      (optional_local punctuators.Semicolon p.enclosed enclosed_near m)
      (λ c. bind m pair pair (λ j. optional_before punctuators.CloseParen p.enclosed) _ (lined n)
      (optional_local punctuators.CloseParen p.enclosed enclosed_near m)
      (λ e. done m (record {
        word = word;
        open_paren = a.0;
        start = s.0;
        condition = c.0.0;
        semicolon = c.0.1;
        step = e.0.0;
        close_paren = e.0.1;
      }) (lined n)))))

  opening_local : (start : Start) (at : Span) → IsNear n (opening_of p start at)
  unfolding opening_of
  opening_local starts.If at m = bind m pair pair (λ j. condition_at p) _ (lined n) (condition_local m)
      (λ c. done m (OpensIf at c.0) (lined n))
  opening_local starts.While at m = bind m pair pair (λ j. condition_at p) _ (lined n) (condition_local m)
      (λ c. done m (OpensWhile at c.0) (lined n))
  opening_local starts.For at m = bind m pair pair (λ j. for_head_after p at) _ (lined n) (for_head_local at m)
      (λ c. done m (OpensFor c.0) (lined n))
  opening_local _ at m = stuck m pair (lined n)

  pub return_local : (at : Span) → IsNear n (return_after p at)
  unfolding return_after
  return_local at m = bind m pair pair (λ j. optional_before punctuators.Semicolon p.expression) _ (lined n)
      (optional_local punctuators.Semicolon p.expression (λ k. h.expression k (lined n)) m)
      (λ e. done m (Return at e.0.0 e.0.1) (lined n))

  pub jump_local : (jump : Span → StatementTree) → IsNear n (jump_after jump)
  unfolding jump_after
  jump_local jump m = bind m pair pair (λ j ts. mark_at punctuators.Semicolon ts) _ (lined n)
      (mark_local m punctuators.Semicolon (lined n)) (λ s. done m (jump s.0) (lined n))

  pub expression_local : IsNear n (expression_statement_at p)
  unfolding expression_statement_at
  expression_local m = bind m pair pair (λ j. p.expression) _ (lined n) (h.expression m (lined n))
      (λ e. bind m pair pair (λ j ts. mark_at punctuators.Semicolon ts) _ (lined n)
      (mark_local m punctuators.Semicolon (lined n)) (λ s. done m (Expression e.0 s.0) (lined n)))

  module _ (statement : Reader StatementTree) (g : IsNear n statement) where
    else_local : (at : Span) (c : ConditionTree) (s : StatementTree) → IsNear n (else_after statement at c s)
    unfolding else_after
    else_local at c s m = either m pair (take_word keywords.Else) _ _ (lined n) (word_taker keywords.Else)
        (λ o. bind (suc m) pair pair (λ j. statement) _ (lined n) (g (suc m))
        (λ t. done (suc m) (IfElse at c s o t.0) (lined n)))
        (done m (If at c s) (lined n))

    behind_local : (o : OpeningTree) (s : StatementTree) → IsNear n (behind_body statement o s)
    unfolding behind_body
    behind_local (OpensIf at c) s m = else_local at c s m
    behind_local (OpensWhile at c) s m = done m (While at c s) (lined n)
    behind_local (OpensFor head) s m = done m (For head s) (lined n)

    pub headed_local : (start : Start) (at : Span) → IsNear n (headed_of p statement start at)
    unfolding headed_of body_after
    headed_local start at m = bind m pair pair (λ j. opening_of p start at) _ (lined n) (opening_local start at m)
        (λ o. bind m pair pair (λ j. statement) _ (lined n) (g m) (λ s. behind_local o.0 s.0 m))

    pub do_local : (at : Span) → IsNear n (do_after p statement at)
    unfolding do_after do_end
    do_local at m = bind m pair pair (λ j. statement) _ (lined n) (g m)
        (λ s. bind m pair pair (λ j ts. word_at keywords.While ts) _ (lined n) (word_local m keywords.While (lined n))
        (λ w. bind m pair pair (λ j. condition_at p) _ (lined n) (condition_local m)
        (λ c. bind m pair pair (λ j ts. mark_at punctuators.Semicolon ts) _ (lined n)
        (mark_local m punctuators.Semicolon (lined n)) (λ e. done m (Do at s.0 w.0 c.0 e.0) (lined n)))))

  pub construct_local : (checked : Bool) (statement : Bool → Reader StatementTree) (parts : PartsReader)
      → ((c : Bool) → IsNear n (statement c)) → IsNear n parts → (d : Directive ExpressionTree)
      → IsNear n (construct_after checked statement parts d)
  unfolding construct_after sections_after atomic_after atomic_of constructed_after
  construct_local checked statement parts g k d m =
      by_test m pair _ _ (lined n) (is_sections d.name)
      (bind m pair pair (λ j. parts) _ (lined n) (k m) (λ x. done m (Sections d x.0.0 x.0.1 x.0.2) (lined n)))
      (by_test m pair _ _ (lined n) (is_atomic d.name)
      (bind m pair pair (λ j. statement false) _ (lined n) (g false m)
      (λ s. by_test m pair _ _ (lined n) (not checked || has_atomic_form (atomic_kind d) s.0)
      (done m (Construct d s.0) (lined n)) (refused m n (bad_atomic d) (λ e. absurd cc))))
      (bind m pair pair (λ j. statement checked) _ (lined n) (g checked m)
      (λ s. done m (Construct d s.0) (lined n))))

-- ---- lines

pub start_known : (k : DirectiveKind) → start_of_kind k ≡ lines.Unknown → ⊥
start_known k = go (stands_alone k) (begins_part k)
  where
    go : (a b : Bool) → cond a lines.StandAlone (cond b lines.Section lines.Construct) ≡ lines.Unknown → ⊥
    go true b e = absurd cc
    go false true e = absurd cc
    go false false e = absurd cc

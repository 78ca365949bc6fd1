-- The places of a statement are among its tokens, in their order.
use Rattle.std.proofs.Common.{◌≡◌, ℕ, not, List, [], ◌∷◌, ◌++◌, Option, Some, subst}
use Rattle.std.specs.Prelude.{IfSome}
use Rattle.om_lexer.specs.declared.token.Token.{Token}
use Rattle.om_scope_rules.proofs.Among.{none, further, behind, before, together}
use Rattle.om_scope_rules.specs.TreePlaces.{AreAmong}
use Rattle.om_scope_rules.proofs.CopyPlaces.{CopiesAmong, behind_hash, directive_among, line}
use Rattle.om_scope_rules.proofs.ConstructPlaces.{PartsAmong, PlacesAmong, alone_among, construct_among}
use Rattle.om_scope_rules.proofs.ConstructPlaces.{loop_construct_among, sections_among}
use Rattle.om_scope_rules.proofs.DeclaredPlaces.{DeclaratorsAmong, StartAmong, declaration_among, for_start_among}
use Rattle.om_scope_rules.proofs.LoopVariables.{LoopAmong, is_its_variable, loop_among}
use Rattle.om_scope_rules.proofs.Steps.{if_either, if_then}
use Rattle.om_scope_rules.proofs.StepsFrom.{if_behind, if_weaker}
use Rattle.om_scope_rules.specs.TreePlaces.{Declared}
use Rattle.om_scope_rules.specs.TreePlaces.{parts_places, start_places, statement_places, statements_places}
use Rattle.om_scope_tree.specs.ResolvedTree.{ResolvedLoopTree, ResolvedStatementTree, ResolvedStatementsTree}
use Rattle.om_scope_rules.specs.DirectiveRules.{in_construct, parallel_in, traits_of}
use Rattle.om_scope_rules.specs.Loops.{Loop, loop_in, loop_of}
use Rattle.om_scope_rules.specs.Resolution.{resolved_expression}
use Rattle.om_scope_rules.specs.Scopes.{Scopes, inside}
use Rattle.om_scope_rules.specs.StatementResolution.{local_of, resolved_loop_construct, resolved_parts}
use Rattle.om_scope_rules.specs.StatementResolution.{resolved_perhaps, resolved_plain_construct, resolved_repeated}
use Rattle.om_scope_rules.specs.StatementResolution.{resolved_statement, resolved_statements, schedule_of}
use Rattle.om_scope_rules.specs.StatementRules.{after_for_start, after_statement, in_loop, round_bounds}
use Rattle.om_scope_rules.specs.Updates.{statement_side}
use Rattle.om_parser_tree.specs.Spelling.{condition_spelling, for_head_spelling, local_spelling}
use Rattle.om_parser_tree.specs.Spelling.{parts_spelling, section_spelling, statement_spelling, statements_spelling}
use Rattle.om_parser_tree.specs.Tree.{StatementTree, LocalDeclaration, Block, Empty, Expression, If, IfElse}
use Rattle.om_parser_tree.specs.Tree.{While, Do, For, Return, Break, Continue, Construct, StandAlone, Sections}
use Rattle.om_parser_tree.specs.Tree.{StatementsTree, NoStatements, Statement, PartsTree, NoParts, Part}

abbrev pub AllAmong : List Token → ResolvedStatementsTree → Type 0
AllAmong ts ss = AreAmong (statements_places ss) ts

-- the variable of a loop, and the places of what it repeats
abbrev RoundAmong : List Token → Loop → ResolvedStatementTree → Type 0
RoundAmong ts found body = AreAmong (Declared (local_of found.start.variable) ∷ statement_places body) ts

-- the same of what resolving makes of it
abbrev RoundsAmong : Scopes → Option ℕ → StatementTree → Loop → Type 0
RoundsAmong scopes parallel s found =
    IfSome (resolved_repeated scopes parallel found s) (RoundAmong (statement_spelling s) found)

-- a loop has the variable
abbrev IsOf : Loop → ResolvedLoopTree → Type 0
IsOf found l = local_of found.start.variable ≡ l.variable

mutual
  unfolding resolved_statement resolved_statements resolved_repeated resolved_parts statement_spelling
      statements_spelling parts_spelling

  statement_among : (scopes : Scopes) (parallel : Option ℕ) (s : StatementTree)
      → IfSome (resolved_statement scopes parallel s) (PlacesAmong (statement_spelling s))
  statement_among scopes parallel (LocalDeclaration d) =
      let ts = local_spelling d in
      if_then (DeclaratorsAmong ts) (PlacesAmong ts) _ _ (declaration_among scopes d) (λ ds h. h)
  statement_among scopes parallel (Block left items right) =
      let ts = statement_spelling (Block left items right) in
      let own = statements_spelling items in
      if_then (AllAmong own) (PlacesAmong ts) _ _ (statements_among (inside scopes) parallel items) (λ ss h.
      further (statements_places ss) _ _ (before (statements_places ss) own _ h))
  statement_among scopes parallel (Empty semicolon) = none _
  statement_among scopes parallel (Expression e semicolon) =
      let ts = statement_spelling (Expression e semicolon) in
      if_behind (PlacesAmong ts) (resolved_expression scopes e) _ (λ x. none ts)
  statement_among scopes parallel (If at c s) =
      let goal = PlacesAmong (statement_spelling (If at c s)) in
      let own = statement_spelling s in
      if_behind goal (resolved_expression scopes c.value) _ (λ x.
      if_then (PlacesAmong own) goal _ _ (statement_among (inside scopes) parallel s) (λ t h.
      further (statement_places t) _ _ (behind (statement_places t) (condition_spelling c) own h)))
  statement_among scopes parallel (IfElse at c s other u) =
      let goal = PlacesAmong (statement_spelling (IfElse at c s other u)) in
      let own = statement_spelling s in
      let last = statement_spelling u in
      if_behind goal (resolved_expression scopes c.value) _ (λ x.
      if_then (PlacesAmong own) goal _ _ (statement_among (inside scopes) parallel s) (λ t ht.
      if_then (PlacesAmong last) goal _ _ (statement_among (inside scopes) parallel u) (λ v hv.
      let front = condition_spelling c ++ own in
      further (statement_places t ++ statement_places v) _ _
      (together (statement_places t) (statement_places v) front _
      (behind (statement_places t) (condition_spelling c) own ht) (further (statement_places v) _ last hv)))))
  statement_among scopes parallel (While at c s) =
      let goal = PlacesAmong (statement_spelling (While at c s)) in
      let own = statement_spelling s in
      if_behind goal (resolved_expression scopes c.value) _ (λ x.
      if_then (PlacesAmong own) goal _ _ (statement_among (inside scopes) parallel s) (λ t h.
      further (statement_places t) _ _ (behind (statement_places t) (condition_spelling c) own h)))
  statement_among scopes parallel (Do at s again c semicolon) =
      let goal = PlacesAmong (statement_spelling (Do at s again c semicolon)) in
      let own = statement_spelling s in
      if_then (PlacesAmong own) goal _ _ (statement_among (inside scopes) parallel s) (λ t h.
      if_behind goal (resolved_expression scopes c.value) _ (λ x.
      further (statement_places t) _ _ (before (statement_places t) own _ h)))
  statement_among scopes parallel (For head s) =
      let goal = PlacesAmong (statement_spelling (For head s)) in
      let first = for_head_spelling head in
      let own = statement_spelling s in
      let after = after_for_start (inside scopes) head.start in
      if_then (StartAmong first) goal _ _ (for_start_among (inside scopes) head) (λ start hs.
      if_behind goal (resolved_perhaps after head.condition) _ (λ condition.
      if_behind goal (resolved_perhaps after head.step) _ (λ step.
      if_then (PlacesAmong own) goal _ _ (statement_among (inside after) parallel s) (λ t ht.
      together (start_places start) (statement_places t) first own hs ht))))
  statement_among scopes parallel (Return at value semicolon) =
      let ts = statement_spelling (Return at value semicolon) in
      if_behind (PlacesAmong ts) (resolved_perhaps scopes value) _ (λ x. none ts)
  statement_among scopes parallel (Break at semicolon) = none _
  statement_among scopes parallel (Continue at semicolon) = none _
  statement_among scopes parallel (Construct d s) =
      let own = statement_spelling s in
      let goal = PlacesAmong (line d ++ own) in
      if_either (λ found. IfSome found goal) (not (traits_of d.name).takes_loop)
      (resolved_plain_construct scopes parallel d s) (resolved_loop_construct scopes parallel d (loop_in s) s)
      (if_then (CopiesAmong (behind_hash d)) goal _ _ (directive_among scopes d) (λ cs hc.
      if_then (PlacesAmong own) goal _ _ (statement_among (in_construct d scopes) (parallel_in d parallel) s)
      (λ body hb. construct_among d own cs body hc hb parallel (statement_side s) d.name)))
      (if_then (CopiesAmong (behind_hash d)) goal _ _ (directive_among scopes d) (λ cs hc.
      if_then (RoundsAmong (in_construct d scopes) (parallel_in d parallel) s) goal _ _
      (repeated_among (in_construct d scopes) (parallel_in d parallel) s) (λ found hf.
      if_then (IsOf found) goal _ _ (is_its_variable (round_bounds d scopes) (schedule_of d.clauses) found) (λ l hl.
      if_then (RoundAmong own found) goal _ _ hf (λ body hb.
      loop_construct_among d own cs l body hc
      (subst (λ v. AreAmong (Declared v ∷ statement_places body) own) hl hb))))))
  statement_among scopes parallel (StandAlone d) = alone_among (line d) scopes d d.name
  statement_among scopes parallel (Sections d left parts right) =
      let own = parts_spelling parts in
      let goal = PlacesAmong (statement_spelling (Sections d left parts right)) in
      if_then (CopiesAmong (behind_hash d)) goal _ _ (directive_among scopes d) (λ cs hc.
      if_then (PartsAmong own) goal _ _ (parts_among (in_construct d scopes) (parallel_in d parallel) parts) (λ ps hp.
      sections_among d _ cs ps hc (further (parts_places ps) _ _ (before (parts_places ps) own _ hp))))

  pub statements_among : (scopes : Scopes) (parallel : Option ℕ) (ss : StatementsTree)
      → IfSome (resolved_statements scopes parallel ss) (AllAmong (statements_spelling ss))
  statements_among scopes parallel NoStatements = none []
  statements_among scopes parallel (Statement s rest) =
      let own = statement_spelling s in
      let tail = statements_spelling rest in
      let goal = AllAmong (own ++ tail) in
      if_then (PlacesAmong own) goal _ _ (statement_among scopes parallel s) (λ t ht.
      if_then (AllAmong tail) goal _ _ (statements_among (after_statement scopes s) parallel rest) (λ ts hts.
      together (statement_places t) (statements_places ts) own tail ht hts))

  repeated_among : (scopes : Scopes) (parallel : Option ℕ) (s : StatementTree)
      → IfSome (loop_in s) (RoundsAmong scopes parallel s)
  repeated_among scopes parallel (For head s) =
      let first = for_head_spelling head in
      let own = statement_spelling s in
      if_weaker (LoopAmong first) (RoundsAmong scopes parallel (For head s)) (loop_of head) (loop_among head)
      (λ found hf.
      if_weaker (PlacesAmong own) (RoundAmong (first ++ own) found) _
      (statement_among (in_loop scopes (Some found)) parallel s) (λ body hb.
      together (Declared (local_of found.start.variable) ∷ []) (statement_places body) first own hf hb))
  repeated_among scopes parallel (LocalDeclaration d) = tt
  repeated_among scopes parallel (Block left items right) = tt
  repeated_among scopes parallel (Empty semicolon) = tt
  repeated_among scopes parallel (Expression e semicolon) = tt
  repeated_among scopes parallel (If at c s) = tt
  repeated_among scopes parallel (IfElse at c s other t) = tt
  repeated_among scopes parallel (While at c s) = tt
  repeated_among scopes parallel (Do at s again c semicolon) = tt
  repeated_among scopes parallel (Return at value semicolon) = tt
  repeated_among scopes parallel (Break at semicolon) = tt
  repeated_among scopes parallel (Continue at semicolon) = tt
  repeated_among scopes parallel (Construct d s) = tt
  repeated_among scopes parallel (StandAlone d) = tt
  repeated_among scopes parallel (Sections d left parts right) = tt

  parts_among : (scopes : Scopes) (parallel : Option ℕ) (parts : PartsTree)
      → IfSome (resolved_parts scopes parallel parts) (PartsAmong (parts_spelling parts))
  parts_among scopes parallel NoParts = none []
  parts_among scopes parallel (Part section items rest) =
      let own = statements_spelling items in
      let front = section_spelling section ++ own in
      let tail = parts_spelling rest in
      let goal = PartsAmong (front ++ tail) in
      if_then (AllAmong own) goal _ _ (statements_among (inside scopes) parallel items) (λ ss hs.
      if_then (PartsAmong tail) goal _ _ (parts_among scopes parallel rest) (λ ps hp.
      together (statements_places ss) (parts_places ps) front tail
      (behind (statements_places ss) (section_spelling section) own hs) hp))

-- Reading the tokens of a directive from the left, as the code does: a part and the tokens behind it, or
-- where it stops.
use Rattle.std.specs.Prelude.{◌≡◌, ℕ, zero, suc, List, [], ◌∷◌, ◌++◌, length, Option, Some, None, Result, Ok, Err, Bool}
use Rattle.std.specs.Prelude.{true, false, ◌⊎◌, codes, if◌then◌else◌, nat_le, ◌||◌}
use Rattle.om_lexer.specs.Faults.{no_memory}
use Rattle.om_lexer.specs.declared.fault.FaultCode.{FaultCode}
use Rattle.om_lexer.specs.declared.fault.FaultCode.TheVariants as fault_codes
use Rattle.om_lexer.specs.declared.fault.SourceFault.{SourceFault}
use Rattle.om_lexer.specs.declared.token.Punctuator.{Punctuator}
use Rattle.om_lexer.specs.declared.token.Punctuator.TheVariants as punctuators
use Rattle.om_lexer.specs.declared.token.Span.{Span}
use Rattle.om_lexer.specs.declared.token.Token.{Token}
use Rattle.om_lexer.specs.declared.token.TokenKind.{TokenKind}
use Rattle.om_lexer.specs.declared.token.TokenKind.TheVariants as kinds
use Rattle.om_pragma.specs.declared.clause.Clause.{Clause}
use Rattle.om_pragma.specs.declared.clause.Clause.TheVariants as clauses
use Rattle.om_pragma.specs.declared.clause.ClauseItem.{ClauseItem}
use Rattle.om_pragma.specs.declared.clause.ClauseKind.{ClauseKind}
use Rattle.om_pragma.specs.declared.clause.ClauseKind.TheVariants as clause_kinds
use Rattle.om_pragma.specs.declared.clause.DataSharing.{DataSharing}
use Rattle.om_pragma.specs.declared.clause.DataSharing.TheVariants as data_kinds
use Rattle.om_pragma.specs.declared.clause.PlainClause.TheVariants as plain_kinds
use Rattle.om_pragma.specs.declared.clause.ReductionOperator.{ReductionOperator}
use Rattle.om_pragma.specs.declared.clause.ReductionOperator.TheVariants as operators
use Rattle.om_pragma.specs.declared.clause.ScheduleKind.{ScheduleKind}
use Rattle.om_pragma.specs.declared.clause.ScheduleKind.TheVariants as schedules
use Rattle.om_pragma.specs.declared.clause.Sharing.{Sharing}
use Rattle.om_pragma.specs.declared.clause.Sharing.TheVariants as sharings
use Rattle.om_pragma.specs.declared.clause.ValueClause.{ValueClause}
use Rattle.om_pragma.specs.declared.clause.ValueClause.TheVariants as value_kinds
use Rattle.om_pragma.specs.declared.clause.Name as names
use Rattle.om_pragma.specs.declared.clause.NameList as lists
use Rattle.om_pragma.specs.declared.clause.Number.{Number}
use Rattle.om_pragma.specs.declared.token.Stop.{Stop}
use Rattle.om_pragma.specs.declared.token.Stop.TheVariants as stops
use Rattle.om_pragma.specs.declared.tree.Directive.{Directive}
use Rattle.om_pragma.specs.declared.tree.DirectiveName.{DirectiveName}
use Rattle.om_pragma.specs.declared.tree.DirectiveName.TheVariants as directives
use Rattle.om_pragma.specs.declared.tree.DirectiveKind.{DirectiveKind}
use Rattle.om_pragma.specs.declared.tree.DirectiveKind.TheVariants as words
use Rattle.om_pragma.specs.Expressions.{open_behind, or_else}
use Rattle.om_pragma.specs.Table.{may_stand, kinds_of}
use Rattle.om_pragma.specs.Words.{same_kind, is_word, among, directive_word, directive_words, clause_word, sharing_word}
use Rattle.om_pragma.specs.Words.{operator_word, schedule_word}

-- the next step, where this one gives a value
infixl 10 ◌>>=◌
abbrev pub ◌>>=◌ : {A B X : Type 0} → Result A X → (A → Result B X) → Result B X
(Ok x) >>= f = f x
(Err e) >>= f = Err e

-- goes on with what is there, or gives the other value
abbrev pub choose : {A B : Type 0} → Option A → (A → B) → B → B
choose (Some x) f other = f x
choose None f other = other

-- where the first token starts; past every source where there is none
abbrev pub place : List Token → ℕ
place [] = 4294967295
place (t ∷ ts) = t.span.start

-- what reading a part gives: the part, or the place where it stops
abbrev pub Part : Type 0 → Type 0
Part A = Result (A × List Token) ℕ

-- what must stand first
abbrev pub known : {A : Type 0} → List Token → Option A → Result A ℕ
known ts (Some x) = Ok x
known ts None = Err (place ts)

-- ---- tokens

-- the first token, and those behind it
abbrev pub take_first : List Token → Option (Token × List Token)
take_first [] = None
take_first (t ∷ ts) = Some (t, ts)

-- this token, if it stands first
unfoldable pub take_kind : TokenKind → List Token → Option (Span × List Token)
take_kind k [] = None
take_kind k (t ∷ ts) = if same_kind t.kind k then Some (t.span, ts) else None

-- one of some words, if one stands first
unfoldable pub take_word : {K : Type 0} → (K → TokenKind) → List K → List Token → Option ((K × Span) × List Token)
take_word word ks [] = None
take_word word ks (t ∷ ts) = choose (among word ks t.kind) (λ k. Some ((k, t.span), ts)) None

abbrev pub name_of : TokenKind → Span → Option names.Name
name_of (kinds.Name text) s = Some (record { text = text; span = s })
name_of _ s = None

abbrev pub number_of : TokenKind → Span → Option Number
number_of (kinds.Constant value) s = Some (record { value = value; span = s })
number_of _ s = None

-- a name, if one stands first
unfoldable pub take_name : List Token → Option (names.Name × List Token)
take_name [] = None
take_name (t ∷ ts) = choose (name_of t.kind t.span) (λ n. Some (n, ts)) None

-- a constant of 1 or more, if one stands first
unfoldable pub take_chunk : List Token → Option (Number × List Token)
take_chunk [] = None
take_chunk (t ∷ ts) = choose (number_of t.kind t.span) (λ n. if nat_le 1 n.value then Some (n, ts) else None) None

abbrev pub is_end : TokenKind → Bool
is_end kinds.DirectiveEnd = true
is_end _ = false

-- the end of the run, where nothing stands behind it
unfoldable pub take_end : List Token → Option (Span × List Token)
take_end [] = None
take_end (t ∷ []) = if is_end t.kind then Some (t.span, []) else None
take_end (t ∷ (u ∷ us)) = None

-- a punctuator, which must stand first
unfoldable pub mark_at : Punctuator → List Token → Part Span
mark_at p ts = known ts (take_kind (kinds.Punctuator p) ts)

-- a name, which must stand first
unfoldable pub name_at : List Token → Part names.Name
name_at ts = known ts (take_name ts)

-- ---- rows

-- Items up to one that ends them, at most so many, behind those before; `none` where there are more.
unfoldable pub until : {A X : Type 0} → (none : List Token → X) → (List Token → Option (Span × List Token))
    → (List A → List Token → Result (A × List Token) X) → ℕ → List A → List Token
    → Result (List A × Span × List Token) X
until none ender item zero before ts = Err (none ts)
until none ender item (suc k) before ts = choose (ender ts)
    (λ e. Ok (before, e.0, e.1))
    (item before ts >>= λ a. until none ender item k (before ++ a.0 ∷ []) a.1)

-- ---- what stands in parentheses

-- a comma and a name
unfoldable pub further_at : List (Span × names.Name) → List Token → Part (Span × names.Name)
further_at before ts = do
  c ← mark_at punctuators.Comma ts
  n ← name_at c.1
  Ok ((c.0, n.0), n.1)

-- commas and names up to the parenthesis
abbrev pub further_names_at : List Token → Result (List (Span × names.Name) × Span × List Token) ℕ
further_names_at ts =
    until place (take_kind (kinds.Punctuator punctuators.CloseParen)) further_at (suc (length ts)) [] ts

-- names up to the parenthesis
unfoldable pub names_at : List Token → Part (names.Name × List (Span × names.Name) × Span)
names_at ts = do
  n ← name_at ts
  m ← further_names_at n.1
  Ok ((n.0, m.0, m.1), m.2)

-- the rest of a list, behind its parenthesis
unfoldable pub list_after : Span → List Token → Part lists.NameList
list_after left ts = do
  n ← names_at ts
  Ok (record { open_paren = left; first = n.0.0; rest = n.0.1; close_paren = n.0.2 }, n.1)

-- names in parentheses
unfoldable pub list_at : List Token → Part lists.NameList
list_at ts = do
  o ← mark_at punctuators.OpenParen ts
  list_after o.0 o.1

-- the tokens up to the parenthesis that closes, where so many are open that close before
unfoldable pub closing : ℕ → List Token → Result (List Token × Span × List Token) ℕ
closing n [] = Err (place [])
closing n (t ∷ ts) = choose (open_behind t.kind n)
    (λ m. closing m ts >>= λ c. Ok (t ∷ c.0, c.1, c.2))
    (Ok ([], t.span, ts))

-- one or more tokens between parentheses
abbrev pub value_in : ValueClause → (word left : Span) → List Token → (right : Span) → List Token
    → Part (Clause (List Token))
value_in k word left [] right rest = Err right.start
value_in k word left (t ∷ ts) right rest =
    Ok (clauses.Value k word (record { open_paren = left; expression = t ∷ ts; close_paren = right }), rest)

-- some tokens in parentheses
unfoldable pub value_after : ValueClause → Span → List Token → Part (Clause (List Token))
value_after k s ts = do
  o ← mark_at punctuators.OpenParen ts
  c ← closing 0 o.1
  value_in k s o.0 c.0 c.1 c.2

-- what `default` can say
abbrev pub default_words : List Sharing
default_words = sharings.Shared ∷ sharings.None ∷ []

-- `shared` or `none`, which must stand first
abbrev pub sharing_at : List Token → Part (Sharing × Span)
sharing_at ts = known ts (take_word sharing_word default_words ts)

-- `shared` or `none` in parentheses
unfoldable pub default_after : Span → List Token → Part (Clause (List Token))
default_after s ts = do
  o ← mark_at punctuators.OpenParen ts
  w ← sharing_at o.1
  c ← mark_at punctuators.CloseParen w.1
  Ok (clauses.Default s (record { open_paren = o.0; sharing = w.0.0; word = w.0.1; close_paren = c.0 }), c.1)

-- a list
unfoldable pub data_after : DataSharing → Span → List Token → Part (Clause (List Token))
data_after k s ts = do
  l ← list_at ts
  Ok (clauses.Data k s l.0, l.1)

-- the operators of reductions
abbrev pub reduction_operators : List ReductionOperator
reduction_operators = operators.Add ∷ operators.Multiply ∷ operators.Max ∷ operators.Min ∷ []

-- the operator of a reduction, which must stand first
abbrev pub operator_at : List Token → Part (ReductionOperator × Span)
operator_at ts = known ts (take_word operator_word reduction_operators ts)

-- an operator, a colon and names in parentheses
unfoldable pub reduction_after : Span → List Token → Part (Clause (List Token))
reduction_after s ts = do
  o ← mark_at punctuators.OpenParen ts
  w ← operator_at o.1
  c ← mark_at punctuators.Colon w.1
  n ← names_at c.1
  Ok (
    clauses.Reduction s (record {
      open_paren = o.0;
      operator = w.0.0;
      sign = w.0.1;
      colon = c.0;
      first = n.0.0;
      rest = n.0.1;
      close_paren = n.0.2;
    }),
    n.1,
  )

-- the kinds of schedules
abbrev pub schedule_kinds : List ScheduleKind
schedule_kinds = schedules.Static ∷ schedules.Dynamic ∷ []

-- the kind of a schedule, which must stand first
abbrev pub schedule_kind_at : List Token → Part (ScheduleKind × Span)
schedule_kind_at ts = known ts (take_word schedule_word schedule_kinds ts)

-- a comma and a chunk, where the comma stands
unfoldable pub chunk_at : List Token → Part (Option (Span × Number))
chunk_at ts = choose (take_kind (kinds.Punctuator punctuators.Comma) ts)
    (λ c. known c.1 (take_chunk c.1) >>= λ n. Ok (Some (c.0, n.0), n.1))
    (Ok (None, ts))

-- a kind and perhaps a chunk in parentheses
unfoldable pub schedule_after : Span → List Token → Part (Clause (List Token))
schedule_after s ts = do
  o ← mark_at punctuators.OpenParen ts
  w ← schedule_kind_at o.1
  k ← chunk_at w.1
  c ← mark_at punctuators.CloseParen k.1
  Ok (clauses.Schedule s (record { open_paren = o.0; kind = w.0.0; word = w.0.1; chunk = k.0; close_paren = c.0 }), c.1)

-- a clause, behind its word
unfoldable pub clause_after : ClauseKind → Span → List Token → Part (Clause (List Token))
clause_after clause_kinds.NumThreads s ts = value_after value_kinds.NumThreads s ts
clause_after clause_kinds.Filter s ts = value_after value_kinds.Filter s ts
clause_after clause_kinds.Default s ts = default_after s ts
clause_after clause_kinds.Shared s ts = data_after data_kinds.Shared s ts
clause_after clause_kinds.Private s ts = data_after data_kinds.Private s ts
clause_after clause_kinds.Firstprivate s ts = data_after data_kinds.Firstprivate s ts
clause_after clause_kinds.Reduction s ts = reduction_after s ts
clause_after clause_kinds.Schedule s ts = schedule_after s ts
clause_after clause_kinds.Nowait s ts = Ok (clauses.Plain plain_kinds.Nowait s, ts)
clause_after clause_kinds.Update s ts = Ok (clauses.Plain plain_kinds.Update s, ts)
clause_after clause_kinds.Read s ts = Ok (clauses.Plain plain_kinds.Read s, ts)
clause_after clause_kinds.Write s ts = Ok (clauses.Plain plain_kinds.Write s, ts)
clause_after clause_kinds.SeqCst s ts = Ok (clauses.Plain plain_kinds.SeqCst s, ts)
clause_after clause_kinds.Relaxed s ts = Ok (clauses.Plain plain_kinds.Relaxed s, ts)

-- ---- the run

-- what reading gives: a value, or the fault that stops it
abbrev pub Outcome : Type 0 → Type 0
Outcome A = Result A SourceFault

abbrev pub fault : FaultCode → ℕ → SourceFault
fault code at = record { code = code; at = at }

-- why a directive is not read
abbrev pub stop_fault : Stop → SourceFault
stop_fault stops.Memory = no_memory
stop_fault (stops.Token at) = fault fault_codes.Syntax at

-- no directive goes on with the token at this place
abbrev pub stopped : {A : Type 0} → Result A ℕ → Outcome A
stopped (Ok x) = Ok x
stopped (Err at) = Err (fault fault_codes.Syntax at)

-- the fault of the first of these tokens, which is no word that may stand there
abbrev pub no_word : List Token → SourceFault
no_word [] = fault fault_codes.Syntax (place [])
no_word (t ∷ ts) = fault (if is_word t.kind then fault_codes.UnknownDirective else fault_codes.Syntax) t.span.start

-- a clause that is wrong inside
abbrev pub in_clause : {A : Type 0} → Span → Result A ℕ → Outcome A
in_clause s (Ok x) = Ok x
in_clause s (Err at) = Err (fault fault_codes.BadClause s.start)

-- all clauses
abbrev pub all_clauses : List ClauseKind
all_clauses = clause_kinds.NumThreads ∷ clause_kinds.Filter ∷ clause_kinds.Default ∷ clause_kinds.Shared
    ∷ clause_kinds.Private ∷ clause_kinds.Firstprivate ∷ clause_kinds.Reduction ∷ clause_kinds.Schedule
    ∷ clause_kinds.Nowait ∷ clause_kinds.Update ∷ clause_kinds.Read ∷ clause_kinds.Write ∷ clause_kinds.SeqCst
    ∷ clause_kinds.Relaxed ∷ []

-- a clause behind those before it
unfoldable pub clause_at : DirectiveName → List ClauseKind → List Token → Outcome (Clause (List Token) × List Token)
clause_at name before ts = choose (take_word clause_word all_clauses ts)
    (λ w. if may_stand name before w.0.0 then in_clause w.0.1 (clause_after w.0.0 w.0.1 w.1) else Err
    (fault fault_codes.BadClause w.0.1.start))
    (Err (no_word ts))

-- a comma that may stand there, if something stands before it
unfoldable pub comma_at : {A : Type 0} → List A → List Token → Option Span × List Token
comma_at [] ts = (None, ts)
comma_at (b ∷ bs) ts = choose (take_kind (kinds.Punctuator punctuators.Comma) ts) (λ c. (Some c.0, c.1)) (None, ts)

-- a clause and the comma before it
unfoldable pub item_at : DirectiveName → List (ClauseItem (List Token)) → List Token
    → Outcome (ClauseItem (List Token) × List Token)
item_at name before ts = let c = comma_at before ts in clause_at name (kinds_of before) c.1 >>= λ x. Ok
    (record { comma = c.0; clause = x.0 }, x.1)

-- the name of `critical`, behind its parenthesis
unfoldable pub critical_after : Span → List Token → Part (Span × names.Name × Span)
critical_after left ts = do
  n ← name_at ts
  c ← mark_at punctuators.CloseParen n.1
  Ok ((left, n.0, c.0), c.1)

-- `critical` and its name, where a parenthesis stands
unfoldable pub critical_at : Span → List Token → Outcome (DirectiveName × List Token)
critical_at s ts = choose (take_kind (kinds.Punctuator punctuators.OpenParen) ts)
    (λ o. stopped (critical_after o.0 o.1) >>= λ n. Ok (directives.Critical s (Some n.0), n.1))
    (Ok (directives.Critical s None, ts))

-- `flush` and its list, where a parenthesis stands
unfoldable pub flush_at : Span → List Token → Outcome (DirectiveName × List Token)
flush_at s ts = choose (take_kind (kinds.Punctuator punctuators.OpenParen) ts)
    (λ o. stopped (list_after o.0 o.1) >>= λ l. Ok (directives.Flush s (Some l.0), l.1))
    (Ok (directives.Flush s None, ts))

-- `parallel`, and the word that it is combined with, where one stands
unfoldable pub parallel_at : Span → List Token → DirectiveName × List Token
parallel_at s ts = choose (take_kind (directive_word words.For) ts)
    (λ f. (directives.ParallelFor s f.0, f.1))
    (choose (take_kind (directive_word words.Sections) ts)
    (λ f. (directives.ParallelSections s f.0, f.1))
    (directives.Parallel s, ts))

-- a directive's words, behind the first
unfoldable pub name_after : DirectiveKind → Span → List Token → Outcome (DirectiveName × List Token)
name_after words.Parallel s ts = Ok (parallel_at s ts)
name_after words.ParallelFor s ts = Ok (parallel_at s ts)
name_after words.ParallelSections s ts = Ok (parallel_at s ts)
name_after words.For s ts = Ok (directives.For s, ts)
name_after words.Sections s ts = Ok (directives.Sections s, ts)
name_after words.Section s ts = Ok (directives.Section s, ts)
name_after words.Single s ts = Ok (directives.Single s, ts)
name_after words.Masked s ts = Ok (directives.Masked s, ts)
name_after words.Master s ts = Ok (directives.Master s, ts)
name_after words.Critical s ts = critical_at s ts
name_after words.Atomic s ts = Ok (directives.Atomic s, ts)
name_after words.Task s ts = Ok (directives.Task s, ts)
name_after words.Taskgroup s ts = Ok (directives.Taskgroup s, ts)
name_after words.Barrier s ts = Ok (directives.Barrier s, ts)
name_after words.Taskwait s ts = Ok (directives.Taskwait s, ts)
name_after words.Taskyield s ts = Ok (directives.Taskyield s, ts)
name_after words.Flush s ts = flush_at s ts

-- the words of a directive
unfoldable pub directive_name_at : List Token → Outcome (DirectiveName × List Token)
directive_name_at ts = choose (take_word directive_word directive_words ts) (λ w. name_after w.0.0 w.0.1 w.1)
    (Err (no_word ts))

-- `#`, `pragma` and `omp`
unfoldable pub opening_at : List Token → Part (Span × Span × Span)
opening_at ts = do
  h ← known ts (take_kind kinds.DirectiveBegin ts)
  p ← known h.1 (take_kind (kinds.Name (codes "pragma")) h.1)
  o ← known p.1 (take_kind (kinds.Name (codes "omp")) p.1)
  Ok ((h.0, p.0, o.0), o.1)

abbrev pub syntax_at : List Token → SourceFault
syntax_at ts = fault fault_codes.Syntax (place ts)

-- clauses up to the end of the run
unfoldable pub clauses_at : DirectiveName → List Token → Outcome (List (ClauseItem (List Token)) × Span × List Token)
clauses_at name ts = until syntax_at take_end (item_at name) (suc (length ts)) [] ts

-- all of the tokens, as a directive
unfoldable pub directive_at : List Token → Outcome (Directive (List Token))
directive_at ts = do
  o ← stopped (opening_at ts)
  n ← directive_name_at o.1
  c ← clauses_at n.0 n.1
  Ok (record { hash = o.0.0; pragma = o.0.1; omp = o.0.2; name = n.0; clauses = c.0; end = c.1 })

-- ---- an expression in a run that is refused

-- one or more tokens
abbrev pub some_tokens : List Token → Option (List Token)
some_tokens [] = None
some_tokens (t ∷ ts) = Some (t ∷ ts)

-- one or more tokens, where the parenthesis behind them starts before a place
abbrev pub tokens_before : ℕ → (right : Span) → List Token → Option (List Token)
tokens_before place right ts = if nat_le place right.start then None else some_tokens ts

-- the tokens in parentheses, where these end before a place
abbrev pub ends_before : ℕ → Result (List Token × Span × List Token) ℕ → Option (List Token)
ends_before place (Ok c) = tokens_before place c.1 c.0
ends_before place (Err e) = None

-- the tokens in parentheses that stand there
unfoldable pub in_parentheses : List Token → Result (List Token × Span × List Token) ℕ
in_parentheses ts = mark_at punctuators.OpenParen ts >>= λ o. closing 0 o.1

-- the expression of a clause whose word stands there before a place, where the clause ends before it too
unfoldable pub expression_at : ℕ → Token → List Token → Option (List Token)
expression_at place word ts =
    if nat_le place word.span.start then None
    else if same_kind word.kind (kinds.Name (codes "num_threads")) || same_kind word.kind (kinds.Name (codes "filter"))
    then ends_before place (in_parentheses ts)
    else None

-- the first such expression
unfoldable pub expression_before : ℕ → List Token → Option (List Token)
expression_before place [] = None
expression_before place (t ∷ ts) = or_else (expression_at place t ts) (expression_before place ts)

-- ---- what functions return

-- reading stops there, or memory ran out
abbrev pub IsStopped : {Y : Type 0} → Stop → Result Y ℕ → Type 0
IsStopped stops.Memory read = Unit {0}
IsStopped (stops.Token at) read = read ≡ Err at

-- a part that a function returned is what reading gives, unless memory ran out
abbrev pub Gets : {X Y : Type 0} → (X → Y) → Result X Stop → Result Y ℕ → Type 0
Gets f (Ok x) read = read ≡ Ok (f x)
Gets f (Err stop) read = IsStopped stop read

-- the same of a function that takes no memory
abbrev pub GetsAlways : {X Y : Type 0} → (X → Y) → Result X Stop → Result Y ℕ → Type 0
GetsAlways f (Ok x) read = read ≡ Ok (f x)
GetsAlways f (Err stops.Memory) read = ⊥
GetsAlways f (Err (stops.Token at)) read = read ≡ Err at

-- what a function returned is what reading gives, unless memory ran out
abbrev pub Reads : {X Y : Type 0} → (X → Y) → Result X SourceFault → Outcome Y → Type 0
Reads f (Ok x) read = read ≡ Ok (f x)
Reads f (Err e) read = (e ≡ no_memory) ⊎ (read ≡ Err e)

-- The statement of an `atomic` that reads or writes resolves to an assignment.
use Rattle.std.proofs.Common.{◌≡◌, ℕ, Bool, true, false, cond, not, List, [], ◌∷◌, All, Option, None, Some}
use Rattle.std.proofs.Common.{refl}
use Rattle.std.specs.Prelude.{IfSome}
use Rattle.std.proofs.lemmas.List.Elements.{All-nil, All-cons, All-append, All-head, All-tail}
use Rattle.om_lexer.specs.declared.token.Span.{Span}
use Rattle.om_pragma.specs.declared.tree.AtomicKind.{AtomicKind}
use Rattle.om_pragma.specs.declared.tree.AtomicKind.TheVariants as kinds
use Rattle.om_pragma.specs.declared.tree.Directive.{Directive}
use Rattle.om_pragma.specs.declared.tree.DirectiveName.{DirectiveName}
use Rattle.om_pragma.specs.declared.tree.DirectiveName.TheVariants as directives
use Rattle.om_pragma.specs.Questions.{atomic_kind, is_atomic}
use Rattle.om_scope_tree.specs.declared.resolved.Side.{Side}
use Rattle.om_scope_tree.specs.Beside.{Assigns, AtomicAssigns, Everywhere, EverywhereIn, EverywhereInParts, IsAssignment}
use Rattle.om_scope_tree.specs.Beside.{TreeAtomicsAssign}
use Rattle.om_scope_tree.specs.ResolvedTree as resolved
use Rattle.om_scope_tree.specs.ResolvedTree.{ResolvedClauseTree, ResolvedExpressionTree, ResolvedFunctionTree}
use Rattle.om_scope_tree.specs.ResolvedTree.{ResolvedLoopTree, ResolvedPartsTree, ResolvedStatementTree, ResolvedTree}
use Rattle.om_scope_tree.specs.ResolvedTree.{ResolvedUpdateTree}
use Rattle.om_scope_rules.specs.DirectiveRules.{in_construct, parallel_in, traits_of}
use Rattle.om_scope_rules.specs.Loops.{Loop, loop_in}
use Rattle.om_scope_rules.specs.Perhaps.{◌>>=◌, all_along}
use Rattle.om_scope_rules.specs.Resolution.{TargetTree, Scalar, ElementOf, assigned, resolved_expression, resolved_target}
use Rattle.om_scope_rules.specs.Scopes.{Scopes, after_function, after_item, after_parameters, declarators_of, definitions_of}
use Rattle.om_scope_rules.specs.Scopes.{file_scope, inside, parameters_of}
use Rattle.om_scope_rules.specs.Sharing.{is_parallel}
use Rattle.om_scope_rules.specs.StatementResolution.{atomic_of, construct_of, flushed, has_nowait, loop_construct_of}
use Rattle.om_scope_rules.specs.StatementResolution.{parallel_of, resolved_alone, resolved_clauses, resolved_declarators}
use Rattle.om_scope_rules.specs.StatementResolution.{resolved_loop, resolved_loop_construct, resolved_parts, resolved_perhaps}
use Rattle.om_scope_rules.specs.StatementResolution.{resolved_plain_construct, resolved_repeated, resolved_start}
use Rattle.om_scope_rules.specs.StatementResolution.{resolved_statement, resolved_statements, schedule_of}
use Rattle.om_scope_rules.specs.StatementResolution.{sections_construct_of, with_update}
use Rattle.om_scope_rules.specs.StatementRules.{after_for_start, after_statement, in_loop}
use Rattle.om_scope_rules.specs.StatementRules.{round_bounds}
use Rattle.om_scope_rules.specs.UnitResolution.{item_functions, resolution_of, resolved_function, resolved_inside}
use Rattle.om_scope_rules.specs.Updates.{statement_side, update_of}
use Rattle.om_scope_rules.proofs.Steps.{if_any, if_either, if_then}
use Rattle.om_scope_rules.proofs.Unbroken.{not_false}
use Rattle.om_parser_tree.specs.AtomicForms.{has_atomic_form, is_read, is_write}
use Rattle.om_parser_tree.specs.Sizes.{AtomicsHaveForms, HasForms, HasItemForms, HaveForms, PartsHaveForms, Where}
use Rattle.om_parser_tree.specs.Tree as trees
use Rattle.om_parser_tree.specs.Tree.{ExpressionTree, FunctionTree, ItemTree, Declaration, Prototype, Function, StatementTree}
use Rattle.om_parser_tree.specs.Tree.{LocalDeclaration, Block, Empty, Expression, If, IfElse, While, Do, For, Return, Break}
use Rattle.om_parser_tree.specs.Tree.{Continue, Construct, StandAlone, Sections, StatementsTree, NoStatements}
use Rattle.om_parser_tree.specs.Tree.{Statement, UnitTree, statements, PartsTree, NoParts, Part}

-- in a statement each `atomic` that reads or writes assigns
abbrev Good : ResolvedStatementTree → Type 0
Good = Everywhere AtomicAssigns

-- ---- the statement of an `atomic`

-- what the statement of an `atomic` of this kind is
abbrev IsBodyOf : AtomicKind → ResolvedStatementTree → Type 0
IsBodyOf kinds.Update s = Unit {0}
IsBodyOf kinds.Read s = Assigns s × Good s
IsBodyOf kinds.Write s = Assigns s × Good s

assigns : (t : TargetTree) (o : _) (e : ResolvedExpressionTree) → IsAssignment (assigned t o e)
assigns (Scalar v) o e = tt
assigns (ElementOf v index) o e = tt

assignment : (scopes : Scopes) (a : ExpressionTree) (o : _) (at : Span) (b : ExpressionTree)
    → IfSome (resolved_expression scopes (trees.Assign a o at b)) IsAssignment
unfolding resolved_expression
assignment scopes a o at b =
    if_then (λ t. Unit {0}) IsAssignment (resolved_target scopes a) _ (if_any (resolved_target scopes a)) (λ t u.
    if_then (λ e. Unit {0}) IsAssignment (resolved_expression scopes b) _ (if_any (resolved_expression scopes b))
    (λ e u. assigns t o e))

read_assigns : (scopes : Scopes) (e : ExpressionTree) → is_read e ≡ true → IfSome (resolved_expression scopes e)
    IsAssignment
unfolding is_read
read_assigns scopes (trees.Assign a o at b) form = assignment scopes a o at b
read_assigns scopes _ form = cc

write_assigns : (scopes : Scopes) (e : ExpressionTree) → is_write e ≡ true → IfSome (resolved_expression scopes e)
    IsAssignment
unfolding is_write
write_assigns scopes (trees.Assign a o at b) form = assignment scopes a o at b
write_assigns scopes _ form = cc

atomic_body : (scopes : Scopes) (parallel : Option ℕ) (kind : AtomicKind) (s : StatementTree) → has_atomic_form kind
    s ≡ true → IfSome (resolved_statement scopes parallel s) (IsBodyOf kind)
unfolding has_atomic_form resolved_statement
atomic_body scopes parallel kinds.Update s form = if_any (resolved_statement scopes parallel s)
atomic_body scopes parallel kinds.Read (Expression e semicolon) form =
    if_then IsAssignment (IsBodyOf kinds.Read) (resolved_expression scopes e) _ (read_assigns scopes e form)
    (λ x hx. (hx, tt))
atomic_body scopes parallel kinds.Write (Expression e semicolon) form =
    if_then IsAssignment (IsBodyOf kinds.Write) (resolved_expression scopes e) _ (write_assigns scopes e form)
    (λ x hx. (hx, tt))
atomic_body scopes parallel kinds.Read _ form = cc
atomic_body scopes parallel kinds.Write _ form = cc

-- ---- constructs

update_good : (at : Span) (u : Option ResolvedUpdateTree) → IfSome (with_update at u) Good
update_good at None = tt
update_good at (Some u) = tt

atomic_good : (kind : AtomicKind) (side : Side) (at : Span) (cs : List ResolvedClauseTree)
    (body : ResolvedStatementTree) → IsBodyOf kind body → IfSome (atomic_of kind side at cs body) Good
atomic_good kinds.Update side at cs body h = update_good at (update_of side body)
atomic_good kinds.Read side at cs body h = h
atomic_good kinds.Write side at cs body h = h

-- of the statement of a construct of this name
abbrev IsGoodBody : AtomicKind → DirectiveName → ResolvedStatementTree → Type 0
IsGoodBody kind (directives.Atomic s) body = IsBodyOf kind body
IsGoodBody kind _ body = Good body

construct_good : (parallel : Option ℕ) (side : Side) (d : Directive ExpressionTree) (name : DirectiveName)
    (cs : List ResolvedClauseTree) (body : ResolvedStatementTree)
    → IsGoodBody (atomic_kind d) name body → IfSome (construct_of parallel side d name cs body) Good
unfolding construct_of
construct_good parallel side d (directives.Atomic s) cs body h = atomic_good (atomic_kind d) side d.hash cs body h
construct_good parallel side d (directives.Parallel s) cs body h = (tt, h)
construct_good parallel side d (directives.Task s) cs body h = (tt, h)
construct_good parallel side d (directives.Taskgroup s) cs body h = (tt, h)
construct_good parallel side d (directives.Single s) cs body h = (tt, h)
construct_good parallel side d (directives.Masked s) cs body h = (tt, h)
construct_good parallel side d (directives.Master s) cs body h = (tt, h)
construct_good parallel side d (directives.Critical s name) cs body h = (tt, h)
construct_good parallel side d _ cs body h = tt

-- what is known of the statement of a directive of this name, by its form or in itself
body_good : (kind : AtomicKind) (name : DirectiveName) (form : Bool) (found : Option ResolvedStatementTree)
    (Rest : Type 0) → Where (is_atomic name) (form ≡ true) Rest
    → (form ≡ true → IfSome found (IsBodyOf kind)) → (Rest → IfSome found Good) → IfSome found (IsGoodBody kind name)
body_good kind (directives.Atomic s) form found Rest h own rest = own h
body_good kind (directives.Parallel s) form found Rest h own rest = rest h
body_good kind (directives.Task s) form found Rest h own rest = rest h
body_good kind (directives.Taskgroup s) form found Rest h own rest = rest h
body_good kind (directives.Single s) form found Rest h own rest = rest h
body_good kind (directives.Masked s) form found Rest h own rest = rest h
body_good kind (directives.Master s) form found Rest h own rest = rest h
body_good kind (directives.Critical s name) form found Rest h own rest = rest h
body_good kind (directives.For s) form found Rest h own rest = rest h
body_good kind (directives.Sections s) form found Rest h own rest = rest h
body_good kind (directives.Section s) form found Rest h own rest = rest h
body_good kind (directives.ParallelFor s t) form found Rest h own rest = rest h
body_good kind (directives.ParallelSections s t) form found Rest h own rest = rest h
body_good kind (directives.Barrier s) form found Rest h own rest = rest h
body_good kind (directives.Taskwait s) form found Rest h own rest = rest h
body_good kind (directives.Taskyield s) form found Rest h own rest = rest h
body_good kind (directives.Flush s list) form found Rest h own rest = rest h

-- a directive for a loop is no `atomic`
loop_forms : (name : DirectiveName) (First Second : Type 0) → (traits_of name).takes_loop ≡ true
    → Where (is_atomic name) First Second → Second
loop_forms (directives.For s) First Second takes h = h
loop_forms (directives.ParallelFor s t) First Second takes h = h
loop_forms (directives.Atomic s) First Second takes h = cc
loop_forms (directives.Parallel s) First Second takes h = cc
loop_forms (directives.Task s) First Second takes h = cc
loop_forms (directives.Taskgroup s) First Second takes h = cc
loop_forms (directives.Single s) First Second takes h = cc
loop_forms (directives.Masked s) First Second takes h = cc
loop_forms (directives.Master s) First Second takes h = cc
loop_forms (directives.Critical s name) First Second takes h = cc
loop_forms (directives.Sections s) First Second takes h = cc
loop_forms (directives.Section s) First Second takes h = cc
loop_forms (directives.ParallelSections s t) First Second takes h = cc
loop_forms (directives.Barrier s) First Second takes h = cc
loop_forms (directives.Taskwait s) First Second takes h = cc
loop_forms (directives.Taskyield s) First Second takes h = cc
loop_forms (directives.Flush s list) First Second takes h = cc

loop_good : (d : Directive ExpressionTree) (cs : List ResolvedClauseTree) (l : ResolvedLoopTree)
    (body : ResolvedStatementTree) → Good body → Good (loop_construct_of d cs l body)
loop_good d cs l body h =
    if_either Good (is_parallel (traits_of d.name).region) (parallel_of d cs (resolved.Loop d.hash [] true l body))
    (resolved.Loop d.hash cs (has_nowait d) l body) (tt, (tt, h)) (tt, h)

sections_good : (d : Directive ExpressionTree) (cs : List ResolvedClauseTree) (parts : ResolvedPartsTree)
    → EverywhereInParts AtomicAssigns parts → Good (sections_construct_of d cs parts)
sections_good d cs parts h =
    if_either Good (is_parallel (traits_of d.name).region)
    (parallel_of d cs (resolved.Sections d.hash [] true parts)) (resolved.Sections d.hash cs (has_nowait d)
    parts) (tt, (tt, h)) (tt, h)

alone_good : (scopes : Scopes) (d : Directive ExpressionTree) (name : DirectiveName)
    → IfSome (resolved_alone scopes d name) Good
alone_good scopes d (directives.Barrier s) = tt
alone_good scopes d (directives.Taskwait s) = tt
alone_good scopes d (directives.Taskyield s) = tt
alone_good scopes d (directives.Flush s list) = if_then (λ vs. Unit {0}) Good (flushed scopes list) _
    (if_any (flushed scopes list)) (λ vs u. tt)
alone_good scopes d _ = tt

-- ---- statements

-- of a step whose result is not asked for
then_good : {A : Type 0} (o : Option A) (f : A → Option ResolvedStatementTree) → ((x : A) → IfSome (f x) Good)
    → IfSome (o >>= f) Good
then_good o f next = if_then (λ x. Unit {0}) Good o f (if_any o) (λ x u. next x)

either_good : (test : Bool) (x y : Option ResolvedStatementTree) → (test ≡ true → IfSome x Good)
    → (test ≡ false → IfSome y Good) → IfSome (cond test x y) Good
either_good true x y h g = h refl
either_good false x y h g = g refl

mutual
  unfolding resolved_statement resolved_statements resolved_repeated resolved_parts HasForms HaveForms PartsHaveForms

  statement_good : (scopes : Scopes) (parallel : Option ℕ) (s : StatementTree) → HasForms true s
      → IfSome (resolved_statement scopes parallel s) Good
  statement_good scopes parallel (LocalDeclaration d) h = then_good (resolved_declarators scopes (declarators_of d))
      _ (λ ds. tt)
  statement_good scopes parallel (Block left items right) h =
      if_then (EverywhereIn AtomicAssigns) Good (resolved_statements (inside scopes) parallel items) _
      (statements_good (inside scopes) parallel items h) (λ ss hs. (tt, hs))
  statement_good scopes parallel (Empty semicolon) h = tt
  statement_good scopes parallel (Expression e semicolon) h = then_good (resolved_expression scopes e) _ (λ x. tt)
  statement_good scopes parallel (If at c s) h =
      then_good (resolved_expression scopes c.value) _ (λ x.
      if_then Good Good (resolved_statement (inside scopes) parallel s) _ (statement_good (inside scopes) parallel s
      h) (λ t ht. (tt, ht)))
  statement_good scopes parallel (IfElse at c s other u) h =
      then_good (resolved_expression scopes c.value) _ (λ x.
      if_then Good Good (resolved_statement (inside scopes) parallel s) _ (statement_good (inside scopes) parallel s
      h.0) (λ t ht.
      if_then Good Good (resolved_statement (inside scopes) parallel u) _ (statement_good (inside scopes) parallel u
      h.1) (λ v hv. (tt, ht, hv))))
  statement_good scopes parallel (While at c s) h =
      then_good (resolved_expression scopes c.value) _ (λ x.
      if_then Good Good (resolved_statement (inside scopes) parallel s) _ (statement_good (inside scopes) parallel s
      h) (λ t ht. (tt, ht)))
  statement_good scopes parallel (Do at s again c semicolon) h =
      if_then Good Good (resolved_statement (inside scopes) parallel s) _ (statement_good (inside scopes) parallel s
      h) (λ t ht.
      then_good (resolved_expression scopes c.value) _ (λ x. (tt, ht)))
  statement_good scopes parallel (For head s) h =
      let behind = after_for_start (inside scopes) head.start in
      then_good (resolved_start (inside scopes) head.start) _ (λ x.
      then_good (resolved_perhaps behind head.condition) _ (λ y.
      then_good (resolved_perhaps behind head.step) _ (λ z.
      if_then Good Good (resolved_statement (inside behind) parallel s) _ (statement_good (inside behind) parallel s
      h) (λ t ht. (tt, ht)))))
  statement_good scopes parallel (Return at value semicolon) h = then_good (resolved_perhaps scopes value) _ (λ x. tt)
  statement_good scopes parallel (Break at semicolon) h = tt
  statement_good scopes parallel (Continue at semicolon) h = tt
  statement_good scopes parallel (Construct d s) h =
      either_good (not (traits_of d.name).takes_loop) (resolved_plain_construct scopes parallel d s)
      (resolved_loop_construct scopes parallel d (loop_in s) s)
      (λ e.
      then_good (resolved_clauses scopes d.clauses) _ (λ cs.
      if_then (IsGoodBody (atomic_kind d) d.name) Good (resolved_statement (in_construct d scopes)
      (parallel_in d parallel) s) _
      (body_good (atomic_kind d) d.name (has_atomic_form (atomic_kind d) s)
      (resolved_statement (in_construct d scopes) (parallel_in d parallel) s) (HasForms true s) h
      (λ form. atomic_body (in_construct d scopes) (parallel_in d parallel) (atomic_kind d) s form)
      (λ forms. statement_good (in_construct d scopes) (parallel_in d parallel) s forms))
      (λ body hb. construct_good parallel (statement_side s) d d.name cs body hb)))
      (λ e.
      then_good (resolved_clauses scopes d.clauses) _ (λ cs.
      then_good (loop_in s) _ (λ found.
      then_good (resolved_loop (round_bounds d scopes) (schedule_of d.clauses) found) _ (λ l.
      if_then Good Good (resolved_repeated (in_construct d scopes) (parallel_in d parallel) found s) _
      (repeated_good (in_construct d scopes) (parallel_in d parallel) found s (loop_forms d.name _ (HasForms true s)
      (not_false (traits_of d.name).takes_loop e) h))
      (λ body hb. loop_good d cs l body hb)))))
  statement_good scopes parallel (StandAlone d) h = alone_good scopes d d.name
  statement_good scopes parallel (Sections d left parts right) h =
      then_good (resolved_clauses scopes d.clauses) _ (λ cs.
      if_then (EverywhereInParts AtomicAssigns) Good
      (resolved_parts (in_construct d scopes) (parallel_in d parallel) parts) _
      (parts_good (in_construct d scopes) (parallel_in d parallel) parts h) (λ ps hp. sections_good d cs ps hp))

  statements_good : (scopes : Scopes) (parallel : Option ℕ) (ss : StatementsTree) → HaveForms true ss
      → IfSome (resolved_statements scopes parallel ss) (EverywhereIn AtomicAssigns)
  statements_good scopes parallel NoStatements h = tt
  statements_good scopes parallel (Statement s rest) h =
      if_then Good (EverywhereIn AtomicAssigns) (resolved_statement scopes parallel s) _
      (statement_good scopes parallel s h.0) (λ t ht.
      if_then (EverywhereIn AtomicAssigns) (EverywhereIn AtomicAssigns)
      (resolved_statements (after_statement scopes s) parallel rest) _
      (statements_good (after_statement scopes s) parallel rest h.1) (λ ts hts. (ht, hts)))

  repeated_good : (scopes : Scopes) (parallel : Option ℕ) (found : Loop) (s : StatementTree) → HasForms true s
      → IfSome (resolved_repeated scopes parallel found s) Good
  repeated_good scopes parallel found (For head s) h = statement_good (in_loop scopes (Some found)) parallel s h
  repeated_good scopes parallel found (LocalDeclaration d) h = tt
  repeated_good scopes parallel found (Block left items right) h = tt
  repeated_good scopes parallel found (Empty semicolon) h = tt
  repeated_good scopes parallel found (Expression e semicolon) h = tt
  repeated_good scopes parallel found (If at c s) h = tt
  repeated_good scopes parallel found (IfElse at c s other t) h = tt
  repeated_good scopes parallel found (While at c s) h = tt
  repeated_good scopes parallel found (Do at s again c semicolon) h = tt
  repeated_good scopes parallel found (Return at value semicolon) h = tt
  repeated_good scopes parallel found (Break at semicolon) h = tt
  repeated_good scopes parallel found (Continue at semicolon) h = tt
  repeated_good scopes parallel found (Construct d s) h = tt
  repeated_good scopes parallel found (StandAlone d) h = tt
  repeated_good scopes parallel found (Sections d left parts right) h = tt

  parts_good : (scopes : Scopes) (parallel : Option ℕ) (parts : PartsTree) → PartsHaveForms true parts
      → IfSome (resolved_parts scopes parallel parts) (EverywhereInParts AtomicAssigns)
  parts_good scopes parallel NoParts h = tt
  parts_good scopes parallel (Part section items rest) h =
      if_then (EverywhereIn AtomicAssigns) (EverywhereInParts AtomicAssigns)
      (resolved_statements (inside scopes) parallel items) _ (statements_good (inside scopes) parallel items h.0)
      (λ ss hs.
      if_then (EverywhereInParts AtomicAssigns) (EverywhereInParts AtomicAssigns) (resolved_parts scopes parallel rest)
      _ (parts_good scopes parallel rest h.1) (λ ps hp. (hs, hp)))

-- ---- functions

function_good : (scopes : Scopes) (f : FunctionTree) → HaveForms true (statements f.body.items)
    → IfSome (resolved_function scopes f) (λ x. EverywhereIn AtomicAssigns x.body)
unfolding resolved_function
function_good scopes f h =
    let behind = after_function scopes f.head in
    if_then (EverywhereIn AtomicAssigns) (λ x. EverywhereIn AtomicAssigns x.body) (resolved_inside behind f) _
    (statements_good (after_parameters (inside behind) (parameters_of f.head.parameters)) None
    (statements f.body.items) h) (λ body hb. hb)

abbrev IsGoodFunction : ResolvedFunctionTree → Type 0
IsGoodFunction function = EverywhereIn AtomicAssigns function.body

item_functions_good : (scopes : Scopes) (item : ItemTree) → HasItemForms true item
    → IfSome (item_functions scopes item) (All IsGoodFunction)
unfolding item_functions
item_functions_good scopes (Declaration d) h = All-nil IsGoodFunction
item_functions_good scopes (Prototype head semicolon) h = All-nil IsGoodFunction
item_functions_good scopes (Function f) h =
    if_then IsGoodFunction (All IsGoodFunction) (resolved_function scopes f) _ (function_good scopes f h)
    (λ x hx. All-cons IsGoodFunction x [] hx (All-nil IsGoodFunction))

items_good : (items : List ItemTree) (scopes : Scopes) → All (HasItemForms true) items
    → IfSome (all_along item_functions after_item scopes items) (All IsGoodFunction)
items_good [] scopes h = All-nil IsGoodFunction
items_good (item ∷ items) scopes h =
    if_then (All IsGoodFunction) (All IsGoodFunction) (item_functions scopes item) _
    (item_functions_good scopes item (All-head (HasItemForms true) item items h)) (λ xs hxs.
    if_then (All IsGoodFunction) (All IsGoodFunction) (all_along item_functions after_item (after_item scopes item)
    items) _
    (items_good items (after_item scopes item) (All-tail (HasItemForms true) item items h))
    (λ ys hys. All-append IsGoodFunction xs ys hxs hys))

pub unit_assigns : (unit : UnitTree) → AtomicsHaveForms unit → IfSome (resolution_of unit) TreeAtomicsAssign
unfolding resolution_of AtomicsHaveForms
unit_assigns unit forms =
    let scopes = file_scope (definitions_of unit.items) in
    if_then (All IsGoodFunction) TreeAtomicsAssign (all_along item_functions after_item scopes unit.items) _
    (items_good unit.items scopes forms) (λ functions h. h)

-- Scopes in which no name means a global from a number on.
use Rattle.std.proofs.Common.{ℕ, ◌≤◌, Bool, List, [], ◌∷◌, ◌++◌, Option, None, Some, fold, arith}
use Rattle.std.specs.Prelude.{IfSome}
use Rattle.std.specs.Map.{lookup}
use Rattle.std.specs.Str.{bytes_eq}
use Rattle.om_pragma.specs.declared.clause.Clause.{Clause}
use Rattle.om_pragma.specs.declared.clause.Clause.TheVariants as clauses
use Rattle.om_pragma.specs.declared.clause.ClauseItem.{ClauseItem}
use Rattle.om_pragma.specs.declared.clause.DataSharing.{DataSharing}
use Rattle.om_pragma.specs.declared.clause.DataSharing.TheVariants as lists
use Rattle.om_pragma.specs.declared.clause.Name as names
use Rattle.om_pragma.specs.declared.tree.Directive.{Directive}
use Rattle.om_parser_tree.specs.declared.tree.Parameter.{Parameter}
use Rattle.om_parser_tree.specs.Tree.{ExpressionTree, DeclaratorTree, ForStartTree, Nothing, StartExpression, StartDeclaration}
use Rattle.om_parser_tree.specs.Tree.{StatementTree, LocalDeclaration, Block, Empty, Expression, If, IfElse, While, Do, For}
use Rattle.om_parser_tree.specs.Tree.{Return, Break, Continue, Construct, StandAlone, Sections, HeadTree}
use Rattle.om_scope_tree.specs.declared.resolved.Variable.{Variable}
use Rattle.om_scope_tree.specs.declared.resolved.Variable.TheVariants as variables
use Rattle.om_scope_rules.specs.declared.names.Meaning.{Meaning}
use Rattle.om_scope_rules.specs.declared.names.Meaning.TheVariants as meanings
use Rattle.om_scope_rules.specs.declared.region.Region.{Region}
use Rattle.om_scope_tree.specs.declared.resolved.Shape.{Shape}
use Rattle.om_scope_rules.specs.DirectiveRules.{Listed, nothing_listed, names_in, copy_of, after_name, after_names}
use Rattle.om_scope_rules.specs.DirectiveRules.{after_clause, after_item, listed_by, in_construct, traits_of}
use Rattle.om_scope_rules.specs.Loops.{Loop}
use Rattle.om_scope_rules.specs.Resolution.{variable_of, variable_named}
use Rattle.om_scope_rules.specs.Scopes.{Binding, Scope, Enclosing, Scopes, meaning_outside, meaning_of, is_declared}
use Rattle.om_scope_rules.specs.Scopes.{with_local, with_function, signature_of, within, plain, inside, after_local}
use Rattle.om_scope_rules.specs.Scopes.{after_locals, declarators_of, after_parameter, after_parameters}
use Rattle.om_scope_rules.specs.Scopes.{after_prototype, after_function}
use Rattle.om_scope_rules.specs.Sharing.{is_parallel}
use Rattle.om_scope_rules.specs.StatementResolution.{bounds_scopes}
use Rattle.om_scope_rules.specs.StatementRules.{after_for_start, after_statement, in_loop, round_bounds, with_iteration}
use Rattle.om_scope_tree.specs.Uses.{IsVariable}
use Rattle.om_scope_rules.proofs.Steps.{if_either, if_first}

abbrev pub MeaningBelow : ℕ → Meaning → Type 0
MeaningBelow n (meanings.Variable v shape) = IsVariable n v
MeaningBelow n (meanings.Function signature) = Unit {0}
MeaningBelow n meanings.Printf = Unit {0}

abbrev pub ScopeBelow : ℕ → Scope → Type 0
ScopeBelow n [] = Unit {0}
ScopeBelow n (b ∷ bs) = MeaningBelow n b.1 × ScopeBelow n bs

abbrev pub OuterBelow : ℕ → List Enclosing → Type 0
OuterBelow n [] = Unit {0}
OuterBelow n (e ∷ outer) = ScopeBelow n e.scope × OuterBelow n outer

pub record Below (n : ℕ) (scopes : Scopes) : Type 0 where
  pub inner : ScopeBelow n scopes.inner
  pub outer : OuterBelow n scopes.outer

-- ---- more globals

variable_more : (m n : ℕ) (v : Variable) → m ≤ n → IsVariable m v → IsVariable n v
variable_more m n (variables.Global k) le h = omega arith
variable_more m n (variables.Local at) le h = tt

meaning_more : (m n : ℕ) (x : Meaning) → m ≤ n → MeaningBelow m x → MeaningBelow n x
meaning_more m n (meanings.Variable v shape) le h = variable_more m n v le h
meaning_more m n (meanings.Function signature) le h = tt
meaning_more m n meanings.Printf le h = tt

scope_more : (m n : ℕ) (scope : Scope) → m ≤ n → ScopeBelow m scope → ScopeBelow n scope
scope_more m n [] le h = tt
scope_more m n (b ∷ bs) le h = (meaning_more m n b.1 le h.0, scope_more m n bs le h.1)

outer_more : (m n : ℕ) (outer : List Enclosing) → m ≤ n → OuterBelow m outer → OuterBelow n outer
outer_more m n [] le h = tt
outer_more m n (e ∷ outer) le h = (scope_more m n e.scope le h.0, outer_more m n outer le h.1)

pub more : (m n : ℕ) (scopes : Scopes) → m ≤ n → Below m scopes → Below n scopes
more m n scopes le h = record {
  inner = scope_more m n scopes.inner le h.inner;
  outer = outer_more m n scopes.outer le h.outer;
}

-- ---- what a name means

lookup_below : (n : ℕ) (test : List ℕ → Bool) (scope : Scope) → ScopeBelow n scope → IfSome (lookup test scope)
    (MeaningBelow n)
lookup_below n test [] h = tt
lookup_below n test ((name, meaning) ∷ bs) h = if_either (λ o. IfSome o (MeaningBelow n)) (test name) (Some meaning)
    (lookup test bs) h.0 (lookup_below n test bs h.1)

outside_below : (n : ℕ) (outer : List Enclosing) (name : List ℕ) → OuterBelow n outer
    → IfSome (meaning_outside outer name) (MeaningBelow n)
outside_below n [] name h = tt
outside_below n (e ∷ outer) name h =
    if_first (MeaningBelow n) (lookup (bytes_eq name) e.scope) (meaning_outside outer name)
    (lookup_below n (bytes_eq name) e.scope h.0) (outside_below n outer name h.1)

meaning_below : (n : ℕ) (scopes : Scopes) (name : List ℕ) → Below n scopes → IfSome (meaning_of scopes name)
    (MeaningBelow n)
meaning_below n scopes name h =
    if_first (MeaningBelow n) (lookup (bytes_eq name) scopes.inner) (meaning_outside scopes.outer name)
    (lookup_below n (bytes_eq name) scopes.inner h.inner) (outside_below n scopes.outer name h.outer)

variable_below : (n : ℕ) (meaning : Option Meaning) → IfSome meaning (MeaningBelow n) → IfSome (variable_of meaning)
    (IsVariable n)
variable_below n None h = tt
variable_below n (Some (meanings.Variable v shape)) h = h
variable_below n (Some (meanings.Function signature)) h = tt
variable_below n (Some meanings.Printf) h = tt

pub named_below : (n : ℕ) (scopes : Scopes) (name : names.Name) → Below n scopes
    → IfSome (variable_named scopes name) (IsVariable n)
named_below n scopes name h = variable_below n (meaning_of scopes name.text) (meaning_below n scopes name.text h)

-- ---- declarations

scope_append : (n : ℕ) (scope bindings : Scope) → ScopeBelow n scope → ScopeBelow n bindings
    → ScopeBelow n (scope ++ bindings)
scope_append n [] bindings h hb = hb
scope_append n (c ∷ cs) bindings h hb = (h.0, scope_append n cs bindings h.1 hb)

pub scope_push : (n : ℕ) (scope : Scope) (b : Binding) → ScopeBelow n scope → MeaningBelow n b.1
    → ScopeBelow n (scope ++ b ∷ [])
scope_push n scope b h hb = scope_append n scope (b ∷ []) h (hb, tt)

pub below_local : (n : ℕ) (scopes : Scopes) (name : names.Name) (shape : Shape) → Below n scopes
    → Below n (with_local scopes name shape)
below_local n scopes name shape h = record {
  inner = scope_push n scopes.inner (name.text, meanings.Variable (variables.Local name.span.start) shape) h.inner tt;
  outer = h.outer;
}

pub below_after_local : (n : ℕ) (scopes : Scopes) (d : DeclaratorTree ExpressionTree) → Below n scopes
    → Below n (after_local scopes d)
below_after_local n scopes d h = below_local n scopes d.name _ h

below_locals : (n : ℕ) (ds : List (DeclaratorTree ExpressionTree)) (scopes : Scopes) → Below n scopes
    → Below n (after_locals scopes ds)
below_locals n [] scopes h = h
below_locals n (d ∷ ds) scopes h = below_locals n ds (after_local scopes d) (below_after_local n scopes d h)

pub below_parameters : (n : ℕ) (ps : List (Parameter names.Name)) (scopes : Scopes) → Below n scopes
    → Below n (after_parameters scopes ps)
below_parameters n [] scopes h = h
below_parameters n (p ∷ ps) scopes h = below_parameters n ps (after_parameter scopes p)
    (below_local n scopes p.name _ h)

pub below_prototype : {N : Type 0} (n : ℕ) (scopes : Scopes) (head : HeadTree N) → Below n scopes
    → Below n (after_prototype scopes head)
below_prototype n scopes head h =
    if_either (Below n) (is_declared scopes head.name.text) scopes (with_function scopes head.name.text
    (signature_of head)) h
    (record {
      inner = scope_push n scopes.inner (head.name.text, meanings.Function (signature_of head)) h.inner tt;
      outer = h.outer;
    })

pub below_function : (n : ℕ) (scopes : Scopes) (head : HeadTree names.Name) → Below n scopes
    → Below n (after_function scopes head)
below_function n scopes head h = let p = below_prototype n scopes head h in record { inner = p.inner; outer = p.outer }

-- ---- constructs

below_within : (n : ℕ) (inner : Scope) (region : Region) (scopes : Scopes) → ScopeBelow n inner → Below n scopes
    → Below n (within inner region scopes)
below_within n inner region scopes own h = record { inner = own; outer = (h.inner, h.outer) }

pub below_inside : (n : ℕ) (scopes : Scopes) → Below n scopes → Below n (inside scopes)
below_inside n scopes h = below_within n [] plain scopes tt h

copies_after_name : (n : ℕ) (sharing : DataSharing) (listed : Listed) (name : names.Name)
    → ScopeBelow n listed.copies → ScopeBelow n (after_name sharing listed name).copies
copies_after_name n lists.Shared listed name h = h
copies_after_name n lists.Private listed name h = scope_push n listed.copies (copy_of name) h tt
copies_after_name n lists.Firstprivate listed name h = scope_push n listed.copies (copy_of name) h tt

copies_after_names : (n : ℕ) (sharing : DataSharing) (ns : List names.Name) (listed : Listed)
    → ScopeBelow n listed.copies → ScopeBelow n (after_names sharing listed ns).copies
copies_after_names n sharing [] listed h = h
copies_after_names n sharing (name ∷ ns) listed h = copies_after_names n sharing ns (after_name sharing listed name)
    (copies_after_name n sharing listed name h)

copies_after_clause : (n : ℕ) (listed : Listed) (clause : Clause ExpressionTree) → ScopeBelow n listed.copies
    → ScopeBelow n (after_clause listed clause).copies
unfolding after_clause
copies_after_clause n listed (clauses.Value kind s v) h = h
copies_after_clause n listed (clauses.Default s argument) h = h
copies_after_clause n listed (clauses.Data sharing s list) h = copies_after_names n sharing
    (names_in list.first list.rest) listed h
copies_after_clause n listed (clauses.Reduction s r) h = copies_after_names n lists.Firstprivate
    (names_in r.first r.rest) listed h
copies_after_clause n listed (clauses.Schedule s argument) h = h
copies_after_clause n listed (clauses.Plain kind s) h = h

copies_after_items : (n : ℕ) (items : List (ClauseItem ExpressionTree)) (listed : Listed)
    → ScopeBelow n listed.copies → ScopeBelow n (fold after_item listed items).copies
copies_after_items n [] listed h = h
copies_after_items n (item ∷ items) listed h = copies_after_items n items (after_item listed item)
    (copies_after_clause n listed item.clause h)

pub below_construct : (n : ℕ) (d : Directive ExpressionTree) (scopes : Scopes) → Below n scopes
    → Below n (in_construct d scopes)
below_construct n d scopes h = below_within n (listed_by d).copies _ scopes
    (copies_after_items n d.clauses nothing_listed tt) h

-- ---- loops

pub below_bounds : (n : ℕ) (d : Directive ExpressionTree) (scopes : Scopes) → Below n scopes
    → Below n (round_bounds d scopes)
below_bounds n d scopes h = if_either (Below n) (is_parallel (traits_of d.name).region) (in_construct d scopes)
    scopes (below_construct n d scopes h) h

below_iteration : (n : ℕ) (scopes : Scopes) (found : Loop) → Below n scopes → Below n (with_iteration scopes found)
below_iteration n scopes found h = below_local n (inside scopes) found.start.variable _ (below_inside n scopes h)

pub below_found : (n : ℕ) (scopes : Scopes) (found : Loop) → Below n scopes → Below n (bounds_scopes scopes found)
below_found n scopes found h = if_either (Below n) found.start.is_declared (with_iteration scopes found) scopes
    (below_iteration n scopes found h) h

pub below_in_loop : (n : ℕ) (scopes : Scopes) (found : Loop) → Below n scopes → Below n (in_loop scopes (Some found))
below_in_loop n scopes found h = below_inside n (with_iteration scopes found) (below_iteration n scopes found h)

-- ---- statements

pub below_start : (n : ℕ) (scopes : Scopes) (start : ForStartTree) → Below n scopes
    → Below n (after_for_start scopes start)
below_start n scopes (Nothing semicolon) h = h
below_start n scopes (StartExpression e semicolon) h = h
below_start n scopes (StartDeclaration d) h = below_locals n (declarators_of d) scopes h

pub below_statement : (n : ℕ) (scopes : Scopes) (s : StatementTree) → Below n scopes
    → Below n (after_statement scopes s)
below_statement n scopes (LocalDeclaration d) h = below_locals n (declarators_of d) scopes h
below_statement n scopes (Block left items right) h = h
below_statement n scopes (Empty semicolon) h = h
below_statement n scopes (Expression e semicolon) h = h
below_statement n scopes (If at c s) h = h
below_statement n scopes (IfElse at c s other t) h = h
below_statement n scopes (While at c s) h = h
below_statement n scopes (Do at s again c semicolon) h = h
below_statement n scopes (For head s) h = h
below_statement n scopes (Return at value semicolon) h = h
below_statement n scopes (Break at semicolon) h = h
below_statement n scopes (Continue at semicolon) h = h
below_statement n scopes (Construct d s) h = h
below_statement n scopes (StandAlone d) h = h
below_statement n scopes (Sections d left parts right) h = h

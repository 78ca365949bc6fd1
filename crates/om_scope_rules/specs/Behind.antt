-- Where the names stand that the clauses of a directive list.
use Rattle.std.specs.Prelude.{ℕ, ◌≤◌, List, [], Option, Some, None, All}
use Rattle.om_pragma.specs.declared.clause.Clause.{Clause}
use Rattle.om_pragma.specs.declared.clause.Clause.TheVariants as clauses
use Rattle.om_pragma.specs.declared.clause.Name as names
use Rattle.om_pragma.specs.declared.tree.Directive.{Directive}
use Rattle.om_scope_rules.specs.DirectiveRules.{names_in}
use Rattle.om_parser_tree.specs.Tree.{StatementTree, LocalDeclaration, Block, Empty, Expression, If, IfElse, While, Do, For}
use Rattle.om_parser_tree.specs.Tree.{Return, Break, Continue, Construct, StandAlone, Sections, StatementsTree}
use Rattle.om_parser_tree.specs.Tree.{NoStatements, Statement, statements, ItemTree, Declaration, Prototype, Function}
use Rattle.om_parser_tree.specs.Tree.{ExpressionTree, UnitTree, PartsTree, NoParts, Part}

-- the names that a clause lists
abbrev pub listed_names : {E : Type 0} → Clause E → List names.Name
listed_names (clauses.Value kind s v) = []
listed_names (clauses.Default s argument) = []
listed_names (clauses.Data sharing s list) = names_in list.first list.rest
listed_names (clauses.Reduction s r) = names_in r.first r.rest
listed_names (clauses.Schedule s argument) = []
listed_names (clauses.Plain kind s) = []

abbrev pub IsNameBehind : (start : ℕ) → names.Name → Type 0
IsNameBehind start name = start ≤ name.span.start

-- each name that a clause lists stands no earlier than its directive begins
abbrev pub HasNamesBehind : {E : Type 0} → Directive E → Type 0
HasNamesBehind d = All (λ item. All (IsNameBehind d.hash.start) (listed_names item.clause)) d.clauses

-- the same of a `section`, if there is one
abbrev pub SectionHasNamesBehind : Option (Directive ExpressionTree) → Type 0
SectionHasNamesBehind None = Unit {0}
SectionHasNamesBehind (Some d) = HasNamesBehind d

-- the same of each directive in a statement
unfoldable mutual
  pub NamesBehind : StatementTree → Type 0
  NamesBehind (LocalDeclaration d) = Unit {0}
  NamesBehind (Block left items right) = NamesBehindIn items
  NamesBehind (Empty semicolon) = Unit {0}
  NamesBehind (Expression e semicolon) = Unit {0}
  NamesBehind (If at c s) = NamesBehind s
  NamesBehind (IfElse at c s other t) = NamesBehind s × NamesBehind t
  NamesBehind (While at c s) = NamesBehind s
  NamesBehind (Do at s again c semicolon) = NamesBehind s
  NamesBehind (For h s) = NamesBehind s
  NamesBehind (Return at value semicolon) = Unit {0}
  NamesBehind (Break at semicolon) = Unit {0}
  NamesBehind (Continue at semicolon) = Unit {0}
  NamesBehind (Construct d s) = HasNamesBehind d × NamesBehind s
  NamesBehind (StandAlone d) = HasNamesBehind d
  NamesBehind (Sections d left parts right) = HasNamesBehind d × NamesBehindInParts parts

  pub NamesBehindIn : StatementsTree → Type 0
  NamesBehindIn NoStatements = Unit {0}
  NamesBehindIn (Statement s rest) = NamesBehind s × NamesBehindIn rest

  pub NamesBehindInParts : PartsTree → Type 0
  NamesBehindInParts NoParts = Unit {0}
  NamesBehindInParts (Part section items rest) = SectionHasNamesBehind section × NamesBehindIn items
      × NamesBehindInParts rest

abbrev pub ItemNamesBehind : ItemTree → Type 0
ItemNamesBehind (Declaration d) = Unit {0}
ItemNamesBehind (Prototype head semicolon) = Unit {0}
ItemNamesBehind (Function f) = NamesBehindIn (statements f.body.items)

-- the same of each directive of a source
abbrev pub UnitNamesBehind : UnitTree → Type 0
UnitNamesBehind unit = All ItemNamesBehind unit.items

-- What a line begins, by the name of its directive.
use Rattle.std.proofs.Common.{◌≡◌, List, [], ◌∷◌, ◌++◌, refl, codes}
use Rattle.std.specs.List.{flat_map}
use Rattle.om_lexer.specs.declared.token.Token.{Token}
use Rattle.om_lexer.specs.declared.token.TokenKind.TheVariants as kinds
use Rattle.om_pragma.specs.declared.tree.Directive.{Directive}
use Rattle.om_pragma.specs.declared.tree.DirectiveName.{DirectiveName}
use Rattle.om_pragma.specs.declared.tree.DirectiveName.TheVariants as directives
use Rattle.om_pragma.specs.Kinds.{directive_kind}
use Rattle.om_pragma.specs.Spelling.{token, item_spelling, name_spelling, opening_spelling, directive_spelling}
use Rattle.om_parser.specs.declared.construct.LineStart.{LineStart}
use Rattle.om_pragma.specs.Words.{same_keyword}
use Rattle.om_parser.specs.ConstructReading.{start_of_kind, word_start, line_start}
use Rattle.om_parser_tree.specs.Spelling.{expression_spelling}
use Rattle.om_parser_tree.specs.Tree.{ExpressionTree}

abbrev pub start_of_directive : DirectiveName → LineStart
start_of_directive name = start_of_kind (directive_kind name)

name_start_is : (n : DirectiveName) (pragma omp : Token) (more rest : List Token)
    → word_start (pragma ∷ omp ∷ ((name_spelling n ++ more) ++ rest)) ≡ start_of_directive n
unfolding name_spelling same_keyword
name_start_is (directives.Parallel s) pragma omp more rest = refl
name_start_is (directives.For s) pragma omp more rest = refl
name_start_is (directives.Sections s) pragma omp more rest = refl
name_start_is (directives.Section s) pragma omp more rest = refl
name_start_is (directives.Single s) pragma omp more rest = refl
name_start_is (directives.ParallelFor s t) pragma omp more rest = refl
name_start_is (directives.ParallelSections s t) pragma omp more rest = refl
name_start_is (directives.Masked s) pragma omp more rest = refl
name_start_is (directives.Master s) pragma omp more rest = refl
name_start_is (directives.Critical s n) pragma omp more rest = refl
name_start_is (directives.Atomic s) pragma omp more rest = refl
name_start_is (directives.Task s) pragma omp more rest = refl
name_start_is (directives.Taskgroup s) pragma omp more rest = refl
name_start_is (directives.Barrier s) pragma omp more rest = refl
name_start_is (directives.Taskwait s) pragma omp more rest = refl
name_start_is (directives.Taskyield s) pragma omp more rest = refl
name_start_is (directives.Flush s l) pragma omp more rest = refl

pub line_start_is : (d : Directive ExpressionTree) (rest : List Token)
    → line_start (directive_spelling expression_spelling d ++ rest) ≡ start_of_directive d.name
unfolding directive_spelling opening_spelling
line_start_is d rest = name_start_is d.name (token (kinds.Name (codes "pragma")) d.pragma)
    (token (kinds.Name (codes "omp")) d.omp) (flat_map (item_spelling expression_spelling) d.clauses
    ++ token kinds.DirectiveEnd d.end ∷ []) rest

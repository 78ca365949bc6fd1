-- No form is asked of an `atomic` that is not checked.
use Rattle.std.proofs.Common.{◌≡◌, Bool, true, false, refl}
use Rattle.std.specs.Prelude.{not, ◌||◌}
use Rattle.om_pragma.specs.Questions.{is_atomic, atomic_kind}
use Rattle.om_parser_tree.specs.AtomicForms.{has_atomic_form}
use Rattle.om_parser_tree.specs.Sizes.{Where, HasForms, HaveForms, PartsHaveForms}
use Rattle.om_parser_tree.specs.Tree.{StatementTree, StatementsTree, LocalDeclaration, Block, Empty, Expression, If, IfElse}
use Rattle.om_parser_tree.specs.Tree.{While, Do, For, Return, Break, Continue, Construct, StandAlone, Sections}
use Rattle.om_parser_tree.specs.Tree.{NoStatements, Statement, PartsTree, NoParts, Part}

-- the one of two that is asked, where both hold
where_both : (b : Bool) (First Second : Type 0) → First → Second → Where b First Second
where_both true First Second x y = x
where_both false First Second x y = y

mutual
  unfolding HasForms

  pub no_forms : (s : StatementTree) → HasForms false s
  no_forms (LocalDeclaration d) = tt
  no_forms (Block left items right) = no_forms_of items
  no_forms (Empty semicolon) = tt
  no_forms (Expression e semicolon) = tt
  no_forms (If at c s) = no_forms s
  no_forms (IfElse at c s other t) = (no_forms s, no_forms t)
  no_forms (While at c s) = no_forms s
  no_forms (Do at s again c semicolon) = no_forms s
  no_forms (For h s) = no_forms s
  no_forms (Return at value semicolon) = tt
  no_forms (Break at semicolon) = tt
  no_forms (Continue at semicolon) = tt
  no_forms (Construct d s) = where_both (is_atomic d.name) ((not false || has_atomic_form (atomic_kind d) s) ≡ true)
      (HasForms false s) refl (no_forms s)
  no_forms (StandAlone d) = tt
  no_forms (Sections d left parts right) = no_forms_in parts

  pub no_forms_of : (ss : StatementsTree) → HaveForms false ss
  no_forms_of NoStatements = tt
  no_forms_of (Statement s rest) = (no_forms s, no_forms_of rest)

  no_forms_in : (parts : PartsTree) → PartsHaveForms false parts
  no_forms_in NoParts = tt
  no_forms_in (Part section items rest) = (no_forms_of items, no_forms_in rest)

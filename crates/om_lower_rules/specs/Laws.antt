-- What the code of every tree is.
use Rattle.std.specs.Prelude.{◌≡◌, ◌<◌, ◌≤◌, ◌^◌, ℕ, List, [], false, true, Some, All, IsSomeAnd, length, is_some}
use Rattle.std.specs.Prelude.{slice_get}
use Rattle.std.specs.List.{list_any}
use Rattle.std.specs.Str.{bytes_eq}
use Rattle.om_code.specs.declared.fault.CodeFault.{CodeFault}
use Rattle.om_code.specs.declared.fault.CodeFault.TheVariants.{Memory, TooHigh}
use Rattle.om_code.specs.declared.raw.Line.{Line}
use Rattle.om_code.specs.declared.raw.Raw.{Raw}
use Rattle.om_code.specs.Ways.{Way}
use Rattle.om_code.specs.Validity.{HasOneHeight, StaysInside, IsLow, IsValid, Breaks}
use Rattle.om_scope_tree.specs.Beside.{TreeAtomicsAssign, TreeCopiesBehind}
use Rattle.om_scope_tree.specs.ResolvedTree.{ResolvedExpressionTree, ResolvedStatementTree, ResolvedFunctionTree}
use Rattle.om_scope_tree.specs.ResolvedTree.{ResolvedTree}
use Rattle.om_scope_tree.specs.Whole.{IsWholeTree}
use Rattle.om_lower_rules.specs.Bodies.{Numbers, BodyTree, FunctionBody, called_body}
use Rattle.om_lower_rules.specs.Code.{body_row, IsBodyOf, IsCodeOf}
use Rattle.om_lower_rules.specs.Coded.{ValueIsCoded, EffectIsCoded, StatementIsCoded, TreeHasCode, TreeIsCoded}
use Rattle.om_lower_rules.specs.Expressions.{value, effect}
use Rattle.om_lower_rules.specs.Mentions.{format_mention, formats_of, tree_mentioned}
use Rattle.om_lower_rules.specs.Numbered.{Numbered, site_with}
use Rattle.om_lower_rules.specs.Rows.{Site}
use Rattle.om_lower_rules.specs.Statements.{Jumps, statement}

-- A tree has at most one code.
abbrev pub OneCode : Type 0
OneCode = (tree : ResolvedTree) (raw other : Raw) → IsCodeOf tree raw → IsCodeOf tree other → raw ≡ other

-- A body has at most one code, and that code has one set of ways through it, whatever lists of PICK the rest of its
-- program has.
abbrev pub OneBodyCode : Type 0
OneBodyCode =
    (names : Numbered) (n : Numbers) (f : ResolvedFunctionTree) (tree : BodyTree) (code other : List Line)
    (picks others : List (List ℕ)) →
    body_row (site_with names code picks) n f tree 0 (length code) →
    body_row (site_with names other others) n f tree 0 (length other) →
    (code ≡ other) × ((at height : ℕ) → Way picks code at height → Way others other at height)

-- Code keeps to its body and its levels.
pub record IsLevel (picks : List (List ℕ)) (code : List Line) : Type 0 where
  -- whichever way an instruction is reached, as many operands stand below it, and those that it takes are
  -- there
  pub one_height : HasOneHeight picks code
  -- it begins in its body and goes on in it, if that has fewer than 2^32 instructions
  pub inside : length code < 2 ^ 32 → StaysInside picks code

-- The bodies of a tree's code are level, whatever the tree is.
abbrev pub CodeIsLevel : Type 0
CodeIsLevel =
    (tree : ResolvedTree) (raw : Raw) → IsCodeOf tree raw →
    All (λ body. IsLevel raw.picks body.code) raw.bodies

-- The code of one body is level, whatever else the program has.
abbrev pub BodyIsLevel : Type 0
BodyIsLevel =
    (at : Site) (n : Numbers) (f : ResolvedFunctionTree) (tree : BodyTree) →
    body_row at n f tree 0 (length at.code) → IsLevel at.picks at.code

-- Each part of a whole tree has a row, if each `atomic` that reads or writes is about an assignment.
abbrev pub WholeHasCode : Type 0
WholeHasCode = (tree : ResolvedTree) → IsWholeTree tree → TreeAtomicsAssign tree → TreeHasCode tree

-- Places and slots have numbers of 32 bits.
pub record AreNumbered (raw : Raw) : Type 0 where
  pub code : All (λ body. length body.code < 2 ^ 32) raw.bodies
  pub slots : All (λ body. length body.slots ≤ 2 ^ 32) raw.bodies

-- No way in a body has more than 256 operands.
abbrev pub AreLow : Raw → Type 0
AreLow raw = All (λ body. IsLow raw.picks body.code) raw.bodies

-- The code of a whole tree is valid, if its places and slots have numbers and its operands are few enough.
abbrev pub CodeIsValid : Type 0
CodeIsValid =
    (tree : ResolvedTree) (raw : Raw) → IsWholeTree tree → TreeCopiesBehind tree → IsCodeOf tree raw →
    AreNumbered raw → AreLow raw → IsValid raw

-- Why such code can be refused: out of memory, or too many operands.
abbrev pub MayBreak : CodeFault → Type 0
MayBreak Memory = Unit {0}
MayBreak TooHigh = Unit {0}
MayBreak _ = ⊥

-- Of the rules of valid code it can break that on too many operands alone.
abbrev pub CodeFaults : Type 0
CodeFaults =
    (tree : ResolvedTree) (raw : Raw) → IsWholeTree tree → TreeCopiesBehind tree → IsCodeOf tree raw →
    AreNumbered raw → (fault : CodeFault) → Breaks fault raw → MayBreak fault

-- The body of a function, by its number, is the code of that function.
abbrev pub FunctionBodies : Type 0
FunctionBodies =
    (tree : ResolvedTree) (raw : Raw) → IsCodeOf tree raw →
    (k : ℕ) (f : ResolvedFunctionTree) → slice_get tree.functions k ≡ Some f →
    (n : Numbers) × IsSomeAnd (slice_get raw.bodies (called_body tree.functions k))
    (IsBodyOf tree raw (record { function = f; tree = FunctionBody; outer = []; numbers = n }))

-- Each format that a program mentions has a number.
abbrev pub FormatsAreNumbered : Type 0
FormatsAreNumbered =
    (tree : ResolvedTree) →
    All (λ format. list_any (bytes_eq format) (formats_of tree) ≡ true) (tree_mentioned format_mention tree)

-- What has code by the rows is what has code, whatever the numbers of its values and parts.
abbrev pub RowsHaveCode : Type 0
RowsHaveCode = (tree : ResolvedTree) (raw : Raw) → IsCodeOf tree raw → TreeIsCoded false tree

abbrev pub ValueRowsHaveCode : Type 0
ValueRowsHaveCode =
    (at : Site) (l : ℕ) (e : ResolvedExpressionTree) (p q : ℕ) → value at l e p q → ValueIsCoded false e

abbrev pub EffectRowsHaveCode : Type 0
EffectRowsHaveCode =
    (at : Site) (l : ℕ) (e : ResolvedExpressionTree) (p q : ℕ) → effect at l e p q → EffectIsCoded false e

abbrev pub StatementRowsHaveCode : Type 0
StatementRowsHaveCode =
    (at : Site) (n : Numbers) (s : ResolvedStatementTree) (jumps : Jumps) (p q : ℕ) →
    statement at n s jumps p q → StatementIsCoded false (is_some jumps.over) (is_some jumps.next) s

-- The code of a resolved tree: its tables, and each of its bodies, which is what the row of its part of the tree says.
use Rattle.std.specs.Prelude.{◌≡◌, ℕ, List, [], Some, false, length, map, option_map, position}
use Rattle.std.specs.List.{AllZip}
use Rattle.om_code.specs.declared.instruction.Barrier.TheVariants as barriers
use Rattle.om_code.specs.declared.instruction.Instr.TheVariants as i
use Rattle.om_code.specs.declared.instruction.Team.TheVariants as teams
use Rattle.om_code.specs.declared.instruction.Task.TheVariants as taskings
use Rattle.om_code.specs.declared.raw.Body.{Body}
use Rattle.om_code.specs.declared.raw.GlobalVariable as raws
use Rattle.om_code.specs.declared.raw.Names.{Names}
use Rattle.om_code.specs.declared.raw.Raw.{Raw}
use Rattle.om_code.specs.declared.raw.Slot.{Slot}
use Rattle.om_scope_tree.specs.declared.resolved.Capture.{Capture}
use Rattle.om_scope_tree.specs.declared.resolved.GlobalVariable.{GlobalVariable}
use Rattle.om_scope_tree.specs.declared.resolved.RegionKind.TheVariants as kinds
use Rattle.om_scope_tree.specs.Uses.{is_main_function}
use Rattle.om_scope_tree.specs.ResolvedTree.{ResolvedFunctionTree, ResolvedTree}
use Rattle.om_lower_rules.specs.declared.variables.VariableScope.{VariableScope}
use Rattle.om_lower_rules.specs.Bodies.{Numbers, BodyTree, FunctionBody, RegionBody, BodySite, variables_of}
use Rattle.om_lower_rules.specs.Bodies.{bodies_of, behind_functions, first_numbers, called_body}
use Rattle.om_lower_rules.specs.AtomicPlaces.{atomic_places}
use Rattle.om_lower_rules.specs.Mentions.{atomic_lines, extents_of, formats_of, locks_of, IsTextOf}
use Rattle.om_lower_rules.specs.Rows.{Site, Row, end, ins, part, ◌▸◌}
use Rattle.om_lower_rules.specs.Scopes.{body_scopes, names_with}
use Rattle.om_lower_rules.specs.Slots.{parameter_sight, slot_of, slot_with}
use Rattle.om_lower_rules.specs.Statements.{nowhere, statement, statements, last_instruction, reduction_starts, reductions}
use Rattle.om_lower_rules.specs.Statements.{given_copies}

-- ---- bodies

-- what stands in a body, from its first place to its last
abbrev pub body_row : Site → Numbers → ResolvedFunctionTree → BodyTree → Row
body_row at n f FunctionBody =
    part (statements at n f.body nowhere) ▸ ins at f.closing_line (last_instruction at.is_main false) ▸ end
body_row at n f (RegionBody first kinds.Parallel clauses captures s) =
    ins at first.line (i.Team teams.Begin) ▸ part (reduction_starts at first.line clauses) ▸ part (statement at n s nowhere)
    ▸ part (reductions at first.line clauses) ▸ ins at first.line (i.Team (teams.Arrive barriers.Parallel)) ▸ ins at first.line
    (i.Team teams.Leave) ▸ end
body_row at n f (RegionBody first kinds.Task clauses captures s) =
    part (statement at n s nowhere) ▸ ins at first.line (i.Task taskings.TaskEnd) ▸ end

-- the variables that get the values with which a frame of a body begins
abbrev pub given_variables : ResolvedFunctionTree → BodyTree → List ℕ
given_variables f FunctionBody = map parameter_sight f.parameters
given_variables f (RegionBody first kind clauses captures s) = map (λ copy. copy.variable)
    (given_copies clauses captures s)

-- what a body takes from the body round it
abbrev pub captures_of : BodyTree → List Capture
captures_of FunctionBody = []
captures_of (RegionBody first kind clauses captures s) = captures

abbrev pub slots_of : BodySite → List Slot
slots_of b = map (slot_with (extents_of b.function) b.outer (captures_of b.tree)) (variables_of b)

abbrev pub given_of : BodySite → List ℕ
given_of b = map (slot_of (variables_of b)) (given_variables b.function b.tree)

-- where the code of a body stands
abbrev pub site_of : ResolvedTree → Raw → BodySite → Body → Site
site_of tree raw b body = record {
  code = body.code;
  slots = variables_of b;
  functions = tree.functions;
  formats = formats_of tree;
  locks = locks_of tree;
  picks = raw.picks;
  is_main = is_main_function b.function;
}

-- what names mean in a body: its function has the name that the tree gives it; its scopes are those of its code, all
-- of which end with it, by its slots
pub record HasScopes (at : Site) (b : BodySite) (names : Names) : Type 0 where
  pub scopes : List VariableScope
  pub stand : body_scopes at b.function b.tree 0 (length at.code) (record { opened = []; closed = scopes })
  pub named : names ≡ names_with b.function.name (variables_of b) b.outer scopes

-- a body of the program is the code of this one of the tree
pub record IsBodyOf (tree : ResolvedTree) (raw : Raw) (b : BodySite) (body : Body) : Type 0 where
  pub code : body_row (site_of tree raw b body) b.numbers b.function b.tree 0 (length body.code)
  pub slots : body.slots ≡ slots_of b
  pub given : body.given ≡ given_of b
  pub atomic : body.atomic ≡ atomic_places (atomic_lines tree) body.code
  pub names : HasScopes (site_of tree raw b body) b body.names

-- ---- the program

abbrev pub global_of : GlobalVariable → raws.GlobalVariable
global_of g = record { name = g.name; length = g.length; initial = g.initial }

-- a program is the code of a resolved tree
pub record IsCodeOf (tree : ResolvedTree) (raw : Raw) : Type 0 where
  pub globals : raw.globals ≡ map global_of tree.globals
  pub bodies : AllZip (IsBodyOf tree raw) (bodies_of tree) raw.bodies
  pub main : option_map (called_body tree.functions) (position is_main_function tree.functions) ≡ Some raw.main
  pub texts : AllZip IsTextOf (formats_of tree) raw.texts
  pub picks : length raw.picks ≡ (behind_functions first_numbers tree.functions).picks
  pub locks : raw.locks ≡ locks_of tree

-- How the table of lowering is written down.
--
-- A row says what stands between two places of a finished body. `ins at l i` is an instruction with its line,
-- `part r` the code of a part of the tree, and `here f` says that the label f is this place. `▸` puts one behind
-- the other, and `end` closes the row. So
--
--     part (value at l c) ▸ ins at l (i.JumpIfZero f) ▸ part (statement at n s jumps) ▸ here f ▸ end
--
-- is the row "c, JZ E, s, E:" of `if (c) s`, where f is the place E. `fresh (λ f. ..)` binds a label in front of its row.
-- A form that has no code has the row `never`.
use Rattle.std.specs.Prelude.{◌≡◌, ℕ, ◌+◌, List, [], ◌∷◌, Option, None, Some, Bool, true, false, slice_get}
use Rattle.om_code.specs.declared.instruction.Instr.{Instr}
use Rattle.om_code.specs.declared.raw.Line.{Line}
use Rattle.om_scope_tree.specs.ResolvedTree.{ResolvedFunctionTree}

-- where code stands: a finished body, and what its instructions name by numbers
pub record Site : Type 0 where
  pub code : List Line
  -- the variables of its function that the body has, by their slots
  pub slots : List ℕ
  -- the functions of the program, by their numbers
  pub functions : List ResolvedFunctionTree
  -- the formats of the program, and the names of its critical regions, by their numbers
  pub formats : List (List ℕ)
  pub locks : List (List ℕ)
  -- where the parts of each `sections` of the program begin, by the numbers of these lists
  pub picks : List (List ℕ)
  -- whether the function in which it stands is `main`
  pub is_main : Bool

-- between two places stands this
abbrev pub Row : Type 1
Row = ℕ → ℕ → Type 0

-- nothing
abbrev pub end : Row
end p q = p ≡ q

-- a row that no code has
abbrev pub never : Row
never p q = ⊥

-- an instruction with its line, and then the rest
abbrev pub ins : Site → ℕ → Instr → Row → Row
ins at line instr rest p q = (slice_get at.code p ≡ Some (record { instruction = instr; line = line })) × rest (p + 1) q

-- a part, and then the rest
abbrev pub part : Row → Row → Row
part r rest p q = (m : ℕ) × r p m × rest m q

-- this label is this place, before the rest
abbrev pub here : ℕ → Row → Row
here label rest p q = (label ≡ p) × rest p q

-- one, two or three labels, each for some place of the row
abbrev pub fresh : (ℕ → Row) → Row
fresh row p q = (label : ℕ) × row label p q

abbrev pub fresh_two : (ℕ → ℕ → Row) → Row
fresh_two row p q = (one other : ℕ) × row one other p q

abbrev pub fresh_three : (ℕ → ℕ → ℕ → Row) → Row
fresh_three row p q = (one other third : ℕ) × row one other third p q

infixr 3 ◌▸◌
abbrev pub ◌▸◌ : (Row → Row) → Row → Row
f ▸ rest = f rest

-- the row of what is there; without it no code has the row
abbrev pub given : {A : Type 0} → Option A → (A → Row) → Row
given None row = never
given (Some x) row = row x

-- the row of what is there; without it nothing stands there
abbrev pub perhaps : {A : Type 0} → (A → Row) → Option A → Row
perhaps row None = end
perhaps row (Some x) = row x

-- the rows of several, one behind the other
abbrev pub each : {A : Type 0} → (A → Row) → List A → Row
each row [] = end
each row (x ∷ xs) = part (row x) ▸ each row xs

-- a row, or nothing where this is so
abbrev pub unless : Bool → Row → Row
unless true row = end
unless false row = row

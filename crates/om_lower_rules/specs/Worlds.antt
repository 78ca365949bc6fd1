-- What a body works on, and what an expression makes of it: its value or a fault.
use Rattle.std.specs.Prelude.{ℕ, ℤ, Option, None, Some, Result, Ok, Err, List, [], ◌∷◌, ◌++◌, option_map, unwrap_or}
use Rattle.std.specs.Prelude.{nat_eq, if◌then◌else◌}
use Rattle.std.specs.Fmt.{signed_decimal}
use Rattle.om_code.specs.declared.frame.Cell.{Cell}
use Rattle.om_code.specs.declared.frame.Cell.TheVariants as cell
use Rattle.om_code.specs.declared.frame.Fault.{Fault}
use Rattle.om_code.specs.declared.frame.Fault.TheVariants as fault
use Rattle.om_code.specs.declared.instruction.Place.{Place}
use Rattle.om_code.specs.declared.instruction.Place.TheVariants as place
use Rattle.om_code.specs.Frames.{with_cell}
use Rattle.om_scope_tree.specs.declared.resolved.Variable.{Variable}
use Rattle.om_scope_tree.specs.Formats.{Piece, Bytes, Value, pieces_of}

-- the cells of variables, by the number of their variable and their index, and the bytes that were printed
pub record World : Type 0 where
  pub slots : ℕ → ℕ → Cell
  pub globals : ℕ → ℕ → Cell
  pub output : List ℕ

-- where each variable of a body is, and how many cells it has
pub record Layout : Type 0 where
  pub place : Variable → Place
  pub cells : Place → ℕ

-- ---- values

-- a value and the world behind it, or a fault and the world where it was met
pub data Outcome : Type 0 where
  Got : (value : ℤ) (world : World) → Outcome
  Faulty : (fault : Fault) (world : World) → Outcome

abbrev pub with_value : Outcome → (ℤ → World → Outcome) → Outcome
with_value (Got value w) rest = rest value w
with_value (Faulty f w) rest = Faulty f w

-- what an operator gives
abbrev pub result : Result ℤ Fault → World → Outcome
result (Ok value) w = Got value w
result (Err f) w = Faulty f w

-- the values of a call of `printf`
pub data Values : Type 0 where
  GotAll : (values : List ℤ) (world : World) → Values
  FaultyAt : (fault : Fault) (world : World) → Values

abbrev pub after_value : Outcome → (ℤ → World → Values) → Values
after_value (Got value w) rest = rest value w
after_value (Faulty f w) rest = FaultyAt f w

abbrev pub with_first : ℤ → Values → Values
with_first value (GotAll values w) = GotAll (value ∷ values) w
with_first value (FaultyAt f w) = FaultyAt f w

-- ---- cells

abbrev pub held : World → Place → ℕ → Cell
held w (place.Global number) index = w.globals number index
held w (place.Slot number) index = w.slots number index

abbrev pub with_held : World → Place → ℕ → Cell → World
with_held w (place.Global number) index new = record w { globals = with_cell w.globals number index new }
with_held w (place.Slot number) index new = record w { slots = with_cell w.slots number index new }

-- C17 6.3.2.1p2 and 6.2.4p2: what is read holds a value and lives
abbrev pub found : Cell → World → Outcome
found (cell.Int value) w = Got value w
found cell.Unset w = Faulty fault.Unset w
found cell.Dead w = Faulty fault.Dead w

unfoldable pub load : Place → ℕ → World → Outcome
load at index w = found (held w at index) w

-- C17 6.5.16: what a value is put into lives
abbrev pub put_into : Cell → Place → ℕ → ℤ → World → Outcome
put_into cell.Dead at index value w = Faulty fault.Dead w
put_into _ at index value w = Got value (with_held w at index (cell.Int value))

unfoldable pub store : Place → ℕ → ℤ → World → Outcome
store at index value w = put_into (held w at index) at index value w

-- C17 6.5.6p8: an index lies inside its array
abbrev pub at_index : Option ℕ → World → (ℕ → Outcome) → Outcome
at_index None w rest = Faulty fault.Index w
at_index (Some index) w rest = rest index

-- C17 6.2.4p6: a variable that is declared without a value holds none
unfoldable pub clear : ℕ → World → World
clear slot w = record w { slots = λ n k. if nat_eq n slot then cell.Unset else w.slots n k }

-- ---- printing

-- C17 7.21.6.1: a format's bytes as they stand, and each value in decimal
abbrev pub written : List Piece → List ℤ → List ℕ
written [] values = []
written (Bytes bytes ∷ rest) values = bytes ++ written rest values
written (Value ∷ rest) [] = written rest []
written (Value ∷ rest) (value ∷ values) = signed_decimal value ++ written rest values

abbrev pub text_of : List ℕ → List ℤ → List ℕ
text_of format values = unwrap_or (option_map (λ pieces. written pieces values) (pieces_of format)) []

abbrev pub print : List ℕ → List ℤ → World → World
print format values w = record w { output = w.output ++ text_of format values }

-- What is written for an array whose declaration has a list.
use Rattle.std.specs.Prelude.{ℕ, if◌then◌else◌, List, [], ◌++◌, codes, decimal}
use Rattle.std.specs.Str.{bytes_eq}
use Rattle.lab_port_tokens.specs.declared.piece.Piece.{Piece}
use Rattle.lab_port_context.specs.Ahead.{nth_text}
use Rattle.lab_port_lists.specs.Values.{count_of, stores_of}

-- the length that stands in the brackets, or else so many values
abbrev pub length_or : List ℕ → ℕ → List ℕ
length_or given count = if bytes_eq given (codes "]") then decimal count else given

-- the length of the array whose brackets and list these are
abbrev pub length_of : List Piece → List ℕ
length_of list = length_or (nth_text 1 list) (count_of list)

-- the array, without its list
abbrev pub declarator : List ℕ → List Piece → List ℕ
declarator name list = name ++ codes "[" ++ length_of list ++ codes "]"

-- C17 6.7.9p21: the elements behind the values are 0
abbrev pub rest_of : List ℕ → List ℕ → List ℕ → List ℕ
rest_of name from size =
    codes "; for (int list__i = " ++ from ++ codes "; list__i < " ++ size ++ codes "; list__i++) " ++ name
    ++ codes "[list__i] = 0"

abbrev pub zeros : List ℕ → ℕ → List ℕ → List ℕ
zeros name count size = if bytes_eq size (decimal count) then [] else rest_of name (decimal count) size

-- what takes the place of the array and its list in a block
abbrev pub array_text : List ℕ → List Piece → List ℕ
array_text name list =
    declarator name list ++ codes ";" ++ stores_of name list ++ zeros name (count_of list) (length_of list)

-- the stores of an array at file scope, whose other elements are 0
abbrev pub stores_text : List ℕ → List Piece → List ℕ
stores_text name list = stores_of name list ++ codes ";"

-- The text of boxes.
use Rattle.std.specs.Prelude.{ℕ, ◌*◌, ◌%◌, Bool, cond, List, [], ◌∷◌, ◌++◌, codes, decimal}
use Rattle.lab_graph.specs.declared.picture.StepBox.{StepBox}
use Rattle.lab_draw.specs.declared.scale.Scale.{Scale}
use Rattle.lab_draw.specs.Places.{left_of, top_of}
use Rattle.lab_draw.specs.Escapes.{escaped, attribute_text}

-- one hue a source line
abbrev pub hue_of : ℕ → ℕ
hue_of line = line * 137 % 360

abbrev pub hue_text : ℕ → List ℕ
hue_text line = codes " style='--h:" ++ decimal (hue_of line) ++ codes "'"

abbrev pub corner_text : Scale → StepBox → List ℕ
corner_text scale b = attribute_text (codes " x='") (left_of scale b.serial)
    ++ attribute_text (codes " y='") (top_of scale b.worker)

-- what is shown of a step when its box is pointed at
abbrev pub title_text : StepBox → List ℕ
title_text b = codes "<title>#" ++ decimal b.serial ++ codes " worker " ++ decimal b.worker ++ codes " line "
    ++ decimal b.line ++ codes ": " ++ escaped b.instruction ++ codes " " ++ escaped b.value ++ codes "</title>"

-- its serial, instruction and line, and below them a value
abbrev pub serial_words : StepBox → List ℕ
serial_words b = codes "<text x='5' y='14'>#" ++ decimal b.serial

abbrev pub instruction_words : StepBox → List ℕ
instruction_words b = codes " " ++ escaped b.instruction

abbrev pub line_words : StepBox → List ℕ
line_words b = codes "</text><text class='at' x='88' y='14'>" ++ decimal b.line

abbrev pub upper_text : StepBox → List ℕ
upper_text b = serial_words b ++ instruction_words b ++ line_words b ++ codes "</text>"

abbrev pub value_words : StepBox → List ℕ
value_words b = codes "<text x='5' y='28'>" ++ escaped b.value

abbrev pub lines_text : StepBox → List ℕ
lines_text b = upper_text b ++ value_words b ++ codes "</text>"

-- a step that met a fault is of one more class
abbrev pub fault_text : Bool → List ℕ
fault_text is_fault = cond is_fault (codes " fault") []

abbrev pub class_text : List ℕ → StepBox → List ℕ
class_text class b = class ++ fault_text b.is_fault

-- a small box, and a large one
abbrev pub mark_text : List ℕ → Scale → StepBox → List ℕ
mark_text class scale b = codes "<rect class='" ++ class_text class b ++ codes "' width='6' height='6'"
    ++ corner_text scale b ++ hue_text b.line ++ codes ">" ++ title_text b ++ codes "</rect>\n"

abbrev pub card_begin : List ℕ → Scale → StepBox → List ℕ
card_begin class scale b = codes "<svg class='" ++ class_text class b ++ codes "' width='92' height='34'"
    ++ corner_text scale b ++ hue_text b.line ++ codes ">"

abbrev pub card_text : List ℕ → Scale → StepBox → List ℕ
card_text class scale b = card_begin class scale b ++ title_text b
    ++ codes "<rect width='92' height='34' rx='4'/>" ++ lines_text b ++ codes "</svg>\n"

-- the element of a box
unfoldable pub box_text : List ℕ → Scale → StepBox → List ℕ
box_text class scale b = cond scale.is_small (mark_text class scale b) (card_text class scale b)

-- one element for each box, in their order
abbrev pub boxes_text : List ℕ → Scale → List StepBox → List ℕ
boxes_text class scale [] = []
boxes_text class scale (b ∷ bs) = box_text class scale b ++ boxes_text class scale bs

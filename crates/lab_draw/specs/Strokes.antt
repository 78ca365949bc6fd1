-- The text of arrows.
use Rattle.std.specs.Prelude.{ℕ, List, [], ◌∷◌, ◌++◌, ◌≡◌, Vec, codes, decimal}
use Rattle.std.specs.declared.alloc.Global.{Global}
use Rattle.om_code.specs.declared.raw.Raw.{Raw}
use Rattle.om_foot.specs.declared.object.Obj.{Obj}
use Rattle.om_foot.specs.declared.object.Obj.TheVariants as object
use Rattle.lab_graph.specs.declared.picture.End.{End}
use Rattle.lab_graph.specs.declared.picture.Arrow.{Arrow}
use Rattle.lab_draw.specs.declared.scale.Scale.{Scale}
use Rattle.lab_draw.specs.Places.{middle_of, leaves_at, arrives_at, label_left, label_base}
use Rattle.lab_draw.specs.Escapes.{attribute_text}
use Rattle.lab_draw.specs.Objects.{object_words}

-- what is shown of an arrow when it is pointed at
abbrev pub name_text : Raw → Arrow → List ℕ
name_text program x = codes "<title>#" ++ decimal x.from.serial ++ codes " to #" ++ decimal x.to.serial ++ codes ": "
    ++ object_words program x.variable x.object ++ codes "</title>"

abbrev pub line_text : Scale → End → End → List ℕ
line_text scale from to = attribute_text (codes "<line x1='") (middle_of scale from.serial)
    ++ attribute_text (codes " y1='") (leaves_at scale from to)
    ++ attribute_text (codes " x2='") (middle_of scale to.serial)
    ++ attribute_text (codes " y2='") (arrives_at scale from to) ++ codes "/>"

-- the words at its head
abbrev pub label_text : Raw → Scale → Arrow → List ℕ
label_text program scale x = attribute_text (codes "<text x='") (label_left scale x.to.serial)
    ++ attribute_text (codes " y='") (label_base x.from x.to) ++ codes ">" ++ object_words program x.variable x.object
    ++ codes "</text>"

-- an arrow at a worker's control is of one more class
abbrev pub kind_text : Obj → List ℕ
kind_text (object.Control worker) = codes " own"
kind_text _ = []

abbrev pub class_text : List ℕ → Obj → List ℕ
class_text class q = class ++ kind_text q

abbrev pub arrow_text : Raw → List ℕ → Scale → Arrow → List ℕ
arrow_text program class scale x = codes "<g class='" ++ class_text class x.object ++ codes "'>" ++ name_text program x
    ++ line_text scale x.from x.to ++ label_text program scale x ++ codes "</g>\n"

-- one element for each arrow, in their order
abbrev pub arrows_text : Raw → List ℕ → Scale → List Arrow → List ℕ
arrows_text program class scale [] = []
arrows_text program class scale (x ∷ xs) = arrow_text program class scale x ++ arrows_text program class scale xs

-- a text has the element of an arrow more than before, at its end
abbrev pub AddsArrow : (old new : Vec ℕ Global) → Raw → List ℕ → Scale → Arrow → Type 0
AddsArrow old new program class scale x = new.items ≡ old.items ++ arrow_text program class scale x

-- a text has the elements of these arrows more than before, at its end
abbrev pub AddsArrows : (old new : Vec ℕ Global) → Raw → List ℕ → Scale → List Arrow → Type 0
AddsArrows old new program class scale xs = new.items ≡ old.items ++ arrows_text program class scale xs

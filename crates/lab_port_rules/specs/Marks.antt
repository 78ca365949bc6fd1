-- What each piece of a source becomes.
use Rattle.std.specs.Prelude.{ℕ, Bool, true, false, ◌==◌, ◌-◌, if◌then◌else◌, List, [], ◌∷◌}
use Rattle.lab_port_words.specs.declared.class.Class.{Class}
use Rattle.lab_port_words.specs.declared.class.Class.TheVariants as classes
use Rattle.lab_port_words.specs.declared.class.Sign.TheVariants as signs
use Rattle.lab_port_rules.specs.declared.rule.Rule.{Rule}
use Rattle.lab_port_rules.specs.declared.rule.Rule.TheVariants as rules
use Rattle.lab_port_rules.specs.declared.mark.Place.{Place}
use Rattle.lab_port_rules.specs.declared.mark.Mark.{Mark}
use Rattle.lab_port_rules.specs.declared.mark.Mark.TheVariants as marks
use Rattle.lab_port_context.specs.declared.context.Line.{Line}
use Rattle.lab_port_context.specs.declared.context.Line.TheVariants as lines
use Rattle.lab_port_context.specs.declared.context.Context.{Context}
use Rattle.lab_port_context.specs.declared.facts.Facts.{Facts}
use Rattle.lab_port_context.specs.Contexts.{context_behind, at_first}
use Rattle.lab_port_context.specs.Facts.{in_sight, facts_of}
use Rattle.lab_port_context.specs.Ahead.{of_line}
use Rattle.lab_port_rules.specs.Codes.{code_mark, number_mark}
use Rattle.lab_port_rules.specs.Directives.{directive_mark, include_mark}

-- a `#` that begins a line may begin an include
abbrev pub first_mark : Facts → Context → Class → List Class → Mark
first_mark facts context (classes.Sign signs.Hash) rest = include_mark facts context (of_line rest)
first_mark facts context class rest = code_mark facts context class rest

-- the body of a macro has no other rules than those of numbers
abbrev pub define_mark : Class → Mark
define_mark (classes.Number form) = number_mark form
define_mark _ = marks.Kept

-- a piece, by what stands before it and what follows it
abbrev pub mark_on : Line → Facts → Context → Class → List Class → Mark
mark_on lines.Fresh facts context class rest = first_mark facts context class rest
mark_on lines.Code facts context class rest = code_mark facts context class rest
mark_on lines.Define facts context class rest = define_mark class
mark_on lines.Omp facts context class rest = directive_mark context class (of_line rest)
mark_on _ facts context class rest = marks.Kept

abbrev pub mark_at : Facts → Context → Class → List Class → Mark
mark_at facts context class rest = mark_on context.line facts context class (in_sight rest)

-- how many pieces after its own a mark takes
abbrev pub taken_by : Mark → ℕ
taken_by (marks.Changed rule taken) = taken
taken_by _ = 0

-- a piece, which the rule of an earlier one takes if so many are still taken
abbrev pub mark_here : Facts → Place → Class → List Class → Mark
mark_here facts place class rest =
    if place.taken == 0 then mark_at facts place.context class rest else marks.Taken

-- how many pieces are taken after a piece with this mark
abbrev pub taken_after : ℕ → Mark → ℕ
taken_after taken mark = if taken == 0 then taken_by mark else taken - 1

-- a rule leaves out a part of a declaration, of an expression or of a directive, so that what stands before that part
-- stands before what follows it
abbrev pub leaves_out : Rule → Bool
leaves_out rules.Attribute = true
leaves_out rules.Volatile = true
leaves_out rules.Cast = true
leaves_out rules.WideCast = true
leaves_out rules.NarrowCast = true
leaves_out rules.DropClause = true
leaves_out _ = false

-- the piece here is left out
abbrev pub drops_here : Place → Mark → Bool
drops_here place (marks.Changed rule taken) = leaves_out rule
drops_here place marks.Taken = place.drops
drops_here place _ = false

-- what stands before the next piece; what is left out does not
abbrev pub context_beyond : Context → Bool → Class → Context
context_beyond context drops class = if drops then context else context_behind context class

-- the place after a piece with this mark
abbrev pub place_behind : Place → Mark → Class → Place
place_behind place mark class = record {
  context = context_beyond place.context (drops_here place mark) class;
  taken = taken_after place.taken mark;
  drops = drops_here place mark;
}

abbrev pub first_place : Place
first_place = record { context = at_first; taken = 0; drops = false }

-- the marks of the pieces that follow a place
abbrev pub marks_from : Facts → Place → List Class → List Mark
marks_from facts place [] = []
marks_from facts place (c ∷ rest) =
    mark_here facts place c rest ∷ marks_from facts (place_behind place (mark_here facts place c rest) c) rest

-- the marks of all pieces of a source
abbrev pub marks_of : List Class → List Mark
marks_of all = marks_from (facts_of all) first_place all

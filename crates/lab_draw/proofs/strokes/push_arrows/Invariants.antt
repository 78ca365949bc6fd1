use Rattle.std.proofs.Common.{◌≡◌, ◌++◌, drop}
use Rattle.lab_draw.specs.Strokes.{arrows_text}
use Rattle.lab_draw.proofs.strokes.push_arrows.Given as goal

-- the arrows so far and those of what is left are all
abbrev pub invariant-loop-arrow : goal.invariant-loop-arrow
invariant-loop-arrow l = l.text.items ++ arrows_text l.program l.class l.scale (drop l.arrow-index l.arrows)
    ≡ l.initial.text.items ++ arrows_text l.program l.class l.scale l.arrows

use Rattle.std.proofs.Common.{map, sym, ap, subst, ◌∙◌}
use Rattle.std.specs.List.{AllZip}
use Rattle.om_lower.specs.Inputs.{tree_of}
use Rattle.om_lower.specs.Made.{AreMade}
use Rattle.om_lower_rules.specs.Bodies.{bodies_of}
use Rattle.om_lower_rules.specs.Code.{global_of}
use Rattle.om_lower_rules.specs.Mentions.{IsTextOf}
use Rattle.om_lower.proofs.Assembled.{all_lists, made_bodies, side_by_side_in}
use Rattle.om_lower.proofs.program.raw_of.Goals as goal

pub returns-clause-code : goal.returns-clause-code
returns-clause-code c =
    let tree = tree_of c.args.input.now in
    let made = subst (λ bodies. AreMade tree c.requires.lowered.lists (bodies_of tree) bodies)
    (sym c.in_ok-bodies.ensures)
    (made_bodies tree c.args.placed.picks c.args.placed.functions c.requires.lowered) in
    record {
      globals = c.in_ok-globals.ensures ∙ ap (λ globals. map global_of globals) c.as_slice.ensures;
      bodies = side_by_side_in tree c.requires.lowered.lists _ (bodies_of tree) c.in_ok-bodies.bodies
          c.requires.lowered.stand made;
      main = c.main_body-main.ensures;
      texts = subst (λ formats.
          AllZip IsTextOf formats c.in_ok-texts.texts) c.requires.given.tables.formats c.in_ok-texts.ensures;
      picks = all_lists tree c.args.placed.picks c.args.placed.functions c.requires.lowered;
      locks = c.in_ok-locks.ensures ∙ c.requires.given.tables.locks;
    }

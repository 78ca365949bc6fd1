use Rattle.om_parser.proofs.Promises.{is_found, is_within, has_forms, is_only, is_syntax, is_too_deep, is_unknown}
use Rattle.om_parser.proofs.Promises.{is_accepted, is_bad_clause, is_no_other, is_one_refusal}
use Rattle.om_parser.proofs.unit.parse.Goals as goal

pub returns-clause-found : goal.returns-clause-found
returns-clause-found c = is_found
    (record {
      sound = c.blocks_are_sound.ensures;
      again = c.blocks_are_read_again.ensures.read_again;
      stop = c.blocks_stop_so.ensures;
      globals_sound = c.globals.ensures.sound;
      globals_again = c.globals.ensures.read_again;
      globals_stop = c.globals.ensures.stop_at_syntax;
    }) c.args.tokens.now c.unit.result c.unit.ensures

pub returns-clause-found_within_limits : goal.returns-clause-found_within_limits
returns-clause-found_within_limits c = is_within
    (record {
      sound = c.blocks_are_sound.ensures;
      again = c.blocks_are_read_again.ensures.read_again;
      stop = c.blocks_stop_so.ensures;
      globals_sound = c.globals.ensures.sound;
      globals_again = c.globals.ensures.read_again;
      globals_stop = c.globals.ensures.stop_at_syntax;
    }) c.args.tokens.now c.unit.result c.unit.ensures

pub returns-clause-atomics_have_forms : goal.returns-clause-atomics_have_forms
returns-clause-atomics_have_forms c = has_forms
    (record {
      sound = c.blocks_are_sound.ensures;
      again = c.blocks_are_read_again.ensures.read_again;
      stop = c.blocks_stop_so.ensures;
      globals_sound = c.globals.ensures.sound;
      globals_again = c.globals.ensures.read_again;
      globals_stop = c.globals.ensures.stop_at_syntax;
    }) c.args.tokens.now c.unit.result c.unit.ensures

pub returns-clause-every_tree_is_found : goal.returns-clause-every_tree_is_found
returns-clause-every_tree_is_found c = is_only
    (record {
      sound = c.blocks_are_sound.ensures;
      again = c.blocks_are_read_again.ensures.read_again;
      stop = c.blocks_stop_so.ensures;
      globals_sound = c.globals.ensures.sound;
      globals_again = c.globals.ensures.read_again;
      globals_stop = c.globals.ensures.stop_at_syntax;
    }) c.args.tokens.now c.unit.result c.unit.ensures

pub returns-clause-syntax_has_no_tree : goal.returns-clause-syntax_has_no_tree
returns-clause-syntax_has_no_tree c = is_syntax
    (record {
      sound = c.blocks_are_sound.ensures;
      again = c.blocks_are_read_again.ensures.read_again;
      stop = c.blocks_stop_so.ensures;
      globals_sound = c.globals.ensures.sound;
      globals_again = c.globals.ensures.read_again;
      globals_stop = c.globals.ensures.stop_at_syntax;
    }) c.args.tokens.now c.unit.result c.unit.ensures

pub returns-clause-too_deep_passes_a_limit : goal.returns-clause-too_deep_passes_a_limit
returns-clause-too_deep_passes_a_limit c = is_too_deep
    (record {
      sound = c.blocks_are_sound.ensures;
      again = c.blocks_are_read_again.ensures.read_again;
      stop = c.blocks_stop_so.ensures;
      globals_sound = c.globals.ensures.sound;
      globals_again = c.globals.ensures.read_again;
      globals_stop = c.globals.ensures.stop_at_syntax;
    }) c.args.tokens.now c.unit.result c.unit.ensures

pub returns-clause-unknown_word : goal.returns-clause-unknown_word
returns-clause-unknown_word c = is_unknown
    (record {
      sound = c.blocks_are_sound.ensures;
      again = c.blocks_are_read_again.ensures.read_again;
      stop = c.blocks_stop_so.ensures;
      globals_sound = c.globals.ensures.sound;
      globals_again = c.globals.ensures.read_again;
      globals_stop = c.globals.ensures.stop_at_syntax;
    }) c.args.tokens.now c.unit.result c.unit.ensures

pub returns-clause-bad_clause : goal.returns-clause-bad_clause
returns-clause-bad_clause c = is_bad_clause
    (record {
      sound = c.blocks_are_sound.ensures;
      again = c.blocks_are_read_again.ensures.read_again;
      stop = c.blocks_stop_so.ensures;
      globals_sound = c.globals.ensures.sound;
      globals_again = c.globals.ensures.read_again;
      globals_stop = c.globals.ensures.stop_at_syntax;
    }) c.args.tokens.now c.unit.result c.unit.ensures

pub returns-clause-no_other_refusal : goal.returns-clause-no_other_refusal
returns-clause-no_other_refusal c = is_no_other
    (record {
      sound = c.blocks_are_sound.ensures;
      again = c.blocks_are_read_again.ensures.read_again;
      stop = c.blocks_stop_so.ensures;
      globals_sound = c.globals.ensures.sound;
      globals_again = c.globals.ensures.read_again;
      globals_stop = c.globals.ensures.stop_at_syntax;
    }) c.args.tokens.now c.unit.result c.unit.ensures

pub returns-clause-accepted_source : goal.returns-clause-accepted_source
returns-clause-accepted_source c = is_accepted c.args.tokens.now c.unit.result c.unit.ensures

pub returns-clause-one_refusal : goal.returns-clause-one_refusal
returns-clause-one_refusal c = is_one_refusal c.args.tokens.now c.unit.result c.unit.ensures

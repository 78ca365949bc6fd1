use Rattle.std.proofs.Common.{[]}
use Rattle.om_lower.specs.Inputs.{tree_of}
use Rattle.om_lower.specs.Made.{next_function, next_numbers}
use Rattle.om_lower_tables.specs.Sites.{bodies_in}
use Rattle.om_lower.proofs.Coding.{function_put}
use Rattle.om_lower.proofs.functions.add_bodies.Goals as goal

pub returns : goal.returns
returns c =
    function_put (tree_of c.args.known.now.input.now) (next_numbers c.args.next.now) (next_function c.args.next.now)
    c.args.lowered.now c.put_function.new.lowered _ (bodies_in [] c.args.sites.now) c.add_sites-fits.result
    c.put_function.result c.requires.sites c.add_sites-fits.ensures c.put_function.ensures.fits
    c.put_function.ensures.functions c.put_function.ensures.lists

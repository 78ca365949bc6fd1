use Rattle.std.proofs.Common.{◌≡◌, subst, option_map, IfOk}
use Rattle.om_code.proofs.Tops.{top_ints}
use Rattle.om_code.proofs.print.ints_on.Goals as goal

pub returns : goal.returns
returns c = subst (λ o. IfOk c.ints.result (λ values. option_map (λ v. v.items) values ≡ o))
    (top_ints _ _ _ _ c.as_slice-all.ensures c.in-Some.ensures) c.ints.ensures

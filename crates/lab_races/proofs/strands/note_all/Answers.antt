use Rattle.std.proofs.Common.{sym, ◌∙◌, ap, ℕ, ◌+◌, Bool, cond, get_or, drop, List, ◌∷◌}
use Rattle.std.specs.Prelude.{max}
use Rattle.std.specs.List.{list_any}
use Rattle.std.proofs.lemmas.List.{at_drop_more}
use Rattle.om_foot.specs.declared.footprint.Access.{Access}
use Rattle.lab_races.specs.Sweeps.{is_named_by, strand}
use Rattle.lab_races.proofs.Tables.{noted_on}
use Rattle.lab_races.proofs.strands.note_all.Goals as goal

pub loop-access-preserved : goal.loop-access-preserved
loop-access-preserved c q m w =
    let xs : List Access = c.args.ordering.now in
    let i : ℕ = c.loop-access.access-index in
    let x : Access = c.access-item.result in
    let old : ℕ = strand c.loop-access.strands q m w in
    let own : ℕ = get_or c.args.clock.now w 0 in
    let rest : Bool = list_any (is_named_by q m) (drop (i + 1) xs) in
    ap (λ n. cond rest (max n own) n) (c.in_ok-note.ensures q m w)
    ∙ noted_on (is_named_by q m x) rest old own
    ∙ ap (λ (y : Access). cond (list_any (is_named_by q m) (y ∷ drop (i + 1) xs)) (max old own) old) c.access-item.is
    ∙ sym (at_drop_more (λ (ys : List Access). cond (list_any (is_named_by q m) ys) (max old own) old) xs i x
    c.loop-access-test.true)
    ∙ c.loop-access.invariant q m w

use Rattle.std.proofs.Common.{◌≡◌, ◌∙◌, sym, ap, subst, List, ◌∷◌, [], ◌++◌}
use Rattle.std.specs.Prelude.{filter, not}
use Rattle.om_foot.specs.declared.object.Obj.{Obj}
use Rattle.lab_races.specs.declared.made.Side.{Side}
use Rattle.lab_races.specs.Sweeps.{IsPut, is_again, items_at, with_side}
use Rattle.lab_races.proofs.Tables.{is_put}
use Rattle.lab_races.proofs.notes.put.Goals as goal

pub returns : goal.returns
returns c =
    let es = c.args.notes.now.entries in
    let q : Obj = c.args.object.now in
    let k : Obj = c.in_ok-key.key in
    let same : k ≡ q = c.in_ok-key.ensures in
    let side : Side = c.args.side.now in
    let pushed : c.push.new.self.items ≡ with_side (items_at es q) side =
    c.in_ok-push.ensures.items
    ∙ ap (λ (l : List Side). l ++ side ∷ [])
    (c.in_ok-sides.ensures ∙ ap (filter (λ (s : Side). not (is_again s side))) c.notes_at.ensures) in
    subst (λ (x : Obj). IsPut es c.insert.new.self.entries x side) same
    (is_put es c.insert.new.self.entries k c.push.new.self side c.in_ok-insert.ensures.updates.0
    (subst (λ (x : Obj). c.push.new.self.items ≡ with_side (items_at es x) side) (sym same) pushed))

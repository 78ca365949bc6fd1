use Rattle.std.proofs.Common.{◌≡◌, ◌∙◌, sym, ap, subst, ◌∷◌, [], ◌++◌, ◌+◌, drop, drop-cons, add-one, suc}
use Rattle.std.specs.Map.{values_of}
use Rattle.om_undo_touches.specs.Touches.{AreWith}
use Rattle.om_undo_history.specs.Cones.{taken_of}
use Rattle.om_undo_history.specs.Records.{transition_of}
use Rattle.om_undo_history.specs.Rows.{entries_in}
use Rattle.om_undo_history.proofs.BySerial.{above_zero}
use Rattle.om_undo_history.proofs.Rows.{entries-one}
use Rattle.om_undo_history.proofs.Members.{MembersTo, members_start, member_with, member_without}
use Rattle.om_undo_history.proofs.records.members.Goals as goal
use Rattle.om_undo_history.proofs.records.members.Goals.{then-is_member+in_ok-add_each+in_ok-push, else-is_member}

pub loop-row-init : goal.loop-row-init
loop-row-init c = members_start c.args.serial (values_of c.args.kept.now)
    (values_of (entries_in c.rows-row-items.result.now)) c.new-names.result.items c.new-members.result
    (ap values_of c.rows-row-items.ensures) c.new-names.ensures.items c.new-members.ensures
    (above_zero 0 c.args.kept.now c.requires)

pub loop-row-preserved : goal.loop-row-preserved
loop-row-preserved c =
    let rows = c.rows-row-items.result.now in
    let i = c.loop-row.row-index in
    let row = c.row-item.result in
    let k = c.in-Some.candidate in
    let x = c.loop-row.invariant in
    let all = values_of c.args.kept.now in
    let left = values_of (entries_in (drop i rows)) in
    let rest = values_of (entries_in (drop (i + 1) rows)) in
    let step : drop i rows ≡ row ∷ drop (i + 1) rows =
    drop-cons rows i row c.loop-row-test.true ∙ ap (λ r. r ∷ drop (suc i) rows) (sym c.row-item.is)
    ∙ ap (λ n. row ∷ drop n rows) (sym (add-one i)) in
    let one = entries-one (drop i rows) (drop (i + 1) rows) row k step c.in-Some.is in
    let is_member = sym (c.is_member.ensures x.ms x.lists x.above) in
    elim c.if-is_member.branch [
      | then-is_member+in_ok-add_each+in_ok-push w ↦
          let added : AreWith k.footprint k.entry.serial c.loop-row.members w.add_each.new.self =
          subst (λ n. AreWith k.footprint n c.loop-row.members w.add_each.new.self) w.serial-own.ensures
          (subst (λ xs. AreWith xs w.serial-own.result c.loop-row.members w.add_each.new.self) w.footprint.ensures
          w.in_ok-add_each.ensures.added) in
          subst (λ v. MembersTo c.args.serial all rest v.items c.if-is_member.members) (sym w.names-is)
          (subst (λ ns. MembersTo c.args.serial all rest ns c.if-is_member.members)
          (sym (w.in_ok-push.ensures.items ∙ ap (λ n. c.loop-row.names.items ++ n ∷ []) (λ j. record {
            serial = w.serial-own.ensures j;
            worker = w.worker.ensures j;
            line = w.line.ensures j;
          })))
          (subst (λ m. MembersTo c.args.serial all rest (c.loop-row.names.items ++ taken_of (transition_of k) ∷ []) m)
          (sym w.members-is)
          (member_with c.args.serial all left rest k c.loop-row.names.items c.loop-row.members w.add_each.new.self
          one x (is_member ∙ w.if-is_member.true) added)))
      | else-is_member w ↦
          subst (λ v. MembersTo c.args.serial all rest v.items c.if-is_member.members) (sym w.names-is)
          (subst (λ m. MembersTo c.args.serial all rest c.loop-row.names.items m) (sym w.members-is)
          (member_without c.args.serial all left rest k c.loop-row.names.items c.loop-row.members one x
          (is_member ∙ w.if-is_member.false)))
    ]

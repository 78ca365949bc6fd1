use Rattle.std.proofs.Common.{◌≡◌, ◌∙◌, sym, ap, subst, true, ◌++◌, ◌∷◌, [], take, ◌+◌, append_assoc}
use Rattle.std.specs.Prelude.{All}
use Rattle.std.proofs.lemmas.List.{take_more}
use Rattle.std.proofs.lemmas.List.Elements.{All-weaker, All-push}
use Rattle.om_foot.specs.declared.footprint.Access.{Access}
use Rattle.om_memory.specs.Memories.{is_kept}
use Rattle.om_undo_history.proofs.updates.keep_each.Goals as goal

pub loop-access-preserved : goal.loop-access-preserved
loop-access-preserved c =
    let others = c.args.others.now in
    let i = c.loop-access.access-index in
    let a : Access = c.access-item.result in
    let there = c.args.shared.now.items in
    let more : take (i + 1) others ≡ take i others ++ a ∷ [] =
    take_more others i a c.loop-access-test.true ∙ ap (λ x. take i others ++ x ∷ []) (sym c.access-item.is) in
    let x = c.loop-access.invariant in
    record {
      shared = c.in_ok-push.ensures.items
          ∙ (λ j. x.shared j ++ c.in_ok-kept.ensures.shared j ∷ [])
          ∙ append_assoc there (take i others) (a ∷ [])
          ∙ ap (λ xs. there ++ xs) (sym more);
      same = c.keep.ensures.state ∙ x.same;
      same_pasts = c.keep.ensures.pasts ∙ x.same_pasts;
      kept = subst (All (λ (b : Access). is_kept c.keep.new.self b.object ≡ true)) (sym more)
          (All-push (λ (b : Access). is_kept c.keep.new.self b.object ≡ true) (take i others) a
          (All-weaker (λ (b : Access). is_kept c.loop-access.store b.object ≡ true)
          (λ (b : Access). is_kept c.keep.new.self b.object ≡ true)
          (λ b h. c.keep.ensures.others_kept b.object h) (take i others) x.kept)
          c.in_ok-kept.ensures.kept);
      others_kept = λ q h. c.keep.ensures.others_kept q (x.others_kept q h);
    }

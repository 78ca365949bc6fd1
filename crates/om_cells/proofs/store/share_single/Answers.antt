use Rattle.std.proofs.Common.{subst, refl}
use Rattle.std.specs.Prelude.{is_some, ◌≡◌, IfOk}
use Rattle.om_cells.proofs.PlaceLemmas.{stay_unnamed, stay_named, owner_none, owner_some, kept_unnamed, kept_named}
use Rattle.om_cells.proofs.store.share_single.Goals as goal

pub returns-in-None-clause-found : goal.returns-in-None-clause-found
returns-in-None-clause-found c =
    subst (λ o. IfOk c.share.result (λ found. is_some found ≡ is_some o))
    (kept_unnamed c.args.unnamed.now c.args.named.now c.args.access.now.object _
    (owner_none c.name_of.result _ c.name_of.ensures c.in-None.is) refl) c.share.ensures.found

pub returns-in-None-clause-stays : goal.returns-in-None-clause-stays
returns-in-None-clause-stays c = stay_unnamed c.args.unnamed.now c.share.new.self c.args.named.now
    c.share.ensures.stays

pub returns-in-Some-clause-found : goal.returns-in-Some-clause-found
returns-in-Some-clause-found c =
    subst (λ o. IfOk c.share-in-Some.result (λ found. is_some found ≡ is_some o))
    (kept_named c.args.unnamed.now c.args.named.now c.args.access.now.object c.in-Some.name.now _
    (owner_some c.name_of.result _ c.in-Some.name c.name_of.ensures c.in-Some.is) refl)
    c.share-in-Some.ensures.found

pub returns-in-Some-clause-stays : goal.returns-in-Some-clause-stays
returns-in-Some-clause-stays c = stay_named c.args.unnamed.now c.args.named.now c.share-in-Some.new.self
    c.share-in-Some.ensures.stays

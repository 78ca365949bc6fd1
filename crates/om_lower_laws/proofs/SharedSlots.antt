-- A shared variable of a `parallel` or a `task` has a slot in it, and one in the body round it.
use Rattle.std.proofs.Common.{◌≡◌, ℕ, List, [], ◌∷◌, ◌++◌, Some, map, sym, ap, ◌∙◌, subst}
use Rattle.std.specs.Prelude.{All, nat_eq, option_map, slice_get, if◌then◌else◌}
use Rattle.std.specs.List.{AllZip, flat_map}
use Rattle.std.proofs.lemmas.List.Elements.{All-head, All-tail}
use Rattle.std.proofs.lemmas.Option.{slice_get-map}
use Rattle.std.proofs.lemmas.Bool.{eqb-true}
use Rattle.om_code.specs.declared.raw.Body.{Body}
use Rattle.om_code.specs.declared.raw.Raw.{Raw}
use Rattle.om_code.specs.declared.raw.Source.TheVariants.{Own, Outer}
use Rattle.om_scope_tree.specs.declared.resolved.Capture.{Capture}
use Rattle.om_scope_tree.specs.Captures.{captured_variable}
use Rattle.om_scope_tree.specs.ResolvedTree.{ResolvedFunctionTree, ResolvedTree}
use Rattle.om_lower_rules.specs.Bodies.{BodySite, BodyTree, FunctionBody, RegionBody, bodies_of, variables_in}
use Rattle.om_lower_rules.specs.Bodies.{variables_of}
use Rattle.om_lower_rules.specs.Code.{IsBodyOf, captures_of}
use Rattle.om_lower_rules.specs.Mentions.{extents_of}
use Rattle.om_lower_rules.specs.Slots.{region_clause_sights, slot_of, slot_with, statement_sights}
use Rattle.om_lower_rules.specs.Tables.{number_in}
use Rattle.om_lower_laws.specs.ShareLaws.{SharedHaveSlots, SharesAll}
use Rattle.om_lower_laws.proofs.Captured.{IsCaptured, bodies_captured}
use Rattle.om_lower_laws.proofs.Shares.{taken}
use Rattle.om_lower_laws.proofs.Tables.{Has, number_found, table_has}
use Rattle.om_lower_laws.proofs.Uses.{taken_seen}
use Rattle.om_lower_laws.proofs.Wholes.{IsTaken, TakesRight, bodies_taken}

-- all that a region takes is among its variables
seen : (f : ResolvedFunctionTree) (t : BodyTree) → TakesRight t
    → Has (variables_in f t) (map captured_variable (captures_of t))
seen f FunctionBody h = tt
seen f (RegionBody at kind clauses captures s) h =
    let table = variables_in f (RegionBody at kind clauses captures s) in
    subst (Has table) (sym h)
    (taken_seen table at.start clauses s (table_has (flat_map region_clause_sights clauses ++ statement_sights s)))

module _ (tree : ResolvedTree) (raw : Raw) (b : BodySite) (body : Body) (is : IsBodyOf tree raw b body)
    (here : IsCaptured b) (takes : IsTaken b) where
  one_storage : SharesAll b body
  one_storage x shared =
      let captures : List Capture = captures_of b.tree in
      let inside : ℕ = number_in (nat_eq x) (variables_of b) in
      let outside : ℕ = slot_of b.outer x in
      let with = slot_with (extents_of b.function) b.outer captures in
      let named : slice_get (variables_of b) inside ≡ Some x =
      number_found nat_eq eqb-true x (variables_of b) (taken (variables_of b) captures x (seen b.function b.tree takes) shared) in
      let slot : slice_get body.slots inside ≡ Some (with x) =
      ap (λ slots. slice_get slots inside) is.slots ∙ slice_get-map with (variables_of b) inside
      ∙ ap (option_map with) named in
      record {
        inside = inside;
        outside = outside;
        named = named;
        found = number_found nat_eq eqb-true x b.outer (taken b.outer captures x here shared);
        shared = (with x, slot, ap (λ z. if z then Outer (slot_of b.outer x) else Own) shared);
      }

all_shared : (tree : ResolvedTree) (raw : Raw) (bs : List BodySite) (bodies : List Body)
    → AllZip (IsBodyOf tree raw) bs bodies → All IsCaptured bs → All IsTaken bs → AllZip SharesAll bs bodies
all_shared tree raw [] [] zip all takes = tt
all_shared tree raw [] (body ∷ bodies) zip all takes = absurd zip
all_shared tree raw (b ∷ bs) [] zip all takes = absurd zip
all_shared tree raw (b ∷ bs) (body ∷ bodies) zip all takes = (
  one_storage tree raw b body zip.0 (All-head IsCaptured b bs all) (All-head IsTaken b bs takes),
  all_shared tree raw bs bodies zip.1 (All-tail IsCaptured b bs all) (All-tail IsTaken b bs takes),
)

pub shared_have_slots : SharedHaveSlots
shared_have_slots tree raw whole code =
    all_shared tree raw (bodies_of tree) raw.bodies code.bodies (bodies_captured tree) (bodies_taken tree whole)

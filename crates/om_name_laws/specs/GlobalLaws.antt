-- What the names of a source mean at the instructions that the uses of its globals gave (C17 6.2.1p4).
use Rattle.std.specs.Prelude.{◌≡◌, ◌⊎◌, ℕ, List, Some, slice_get}
use Rattle.om_code.specs.declared.instruction.Place.TheVariants as places
use Rattle.om_code.specs.declared.raw.Body.{Body}
use Rattle.om_code.specs.declared.raw.Line.{Line}
use Rattle.om_code.specs.declared.raw.Raw.{Raw}
use Rattle.om_code_places.specs.declared.visible.Var.TheVariants as var
use Rattle.om_code_places.specs.Visible.{variable_at}
use Rattle.om_lower_rules.specs.Bodies.{Numbers, called_body}
use Rattle.om_lower_rules.specs.Code.{IsBodyOf, IsCodeOf}
use Rattle.om_scope_tree.specs.ResolvedTree.{ResolvedFunctionTree, ResolvedTree}
use Rattle.om_name_laws.specs.NameLaws.{IsCopied, function_site, named_place}
use Rattle.om_name_laws.specs.Sees.{SeesNames, global_as}

-- at p the name of the global of this number means that global; or p is a load with which a firstprivate copy begins
abbrev pub GlobalIsMeant : ResolvedTree → Raw → ResolvedFunctionTree → Numbers → (number : ℕ) → Body → (p g : ℕ)
    → Type 0
GlobalIsMeant tree raw f n number body p g =
    (name : List ℕ) × (global_as name tree.globals ≡ Some g)
    × ((variable_at raw number p name ≡ Some (var.Global g)) ⊎ IsCopied raw f n number body p name)

-- Where a tree sees its names, the name of a global means it at each instruction that names it in the body of a
-- function.
abbrev pub NamesMeanGlobals : Type 0
NamesMeanGlobals =
    (tree : ResolvedTree) (raw : Raw) (k : ℕ) (f : ResolvedFunctionTree) (n : Numbers) (body : Body) (p g : ℕ)
    (line : Line) → SeesNames tree → IsCodeOf tree raw → slice_get tree.functions k ≡ Some f
    → slice_get raw.bodies (called_body tree.functions k) ≡ Some body → IsBodyOf tree raw (function_site f n) body
    → slice_get body.code p ≡ Some line → named_place line.instruction ≡ Some (places.Global g)
    → GlobalIsMeant tree raw f n (called_body tree.functions k) body p g

-- All touches of an entry are taken out of what is kept of each object.
use Rattle.std.proofs.Common.{◌≡◌, refl, sym, ◌∙◌, ap, Bool, true, false, cond, nat_eq, ℕ, None, Some, List, [], ◌∷◌}
use Rattle.std.specs.Map.{lookup}
use Rattle.std.specs.Map.Calls.{RetainsPairs}
use Rattle.om_foot.specs.declared.object.Obj.{Obj}
use Rattle.om_foot.specs.declared.footprint.Mode.{Mode}
use Rattle.om_foot.specs.Footprint.{obj_eq}
use Rattle.om_undo_touches.specs.declared.by_mode.Touches.{Touches}
use Rattle.om_foot.specs.Serials.{has}
use Rattle.om_undo_touches.specs.Touches.{list_of, has_in}

-- the touches of an object without those of an entry
abbrev pub AreForgotten : ℕ → Touches → Touches → Type 0
AreForgotten serial old new = (m : Mode) (s : ℕ) → has (list_of new m) s ≡ cond (nat_eq serial s) false (has (list_of old m) s)

none_there : (e : Bool) → false ≡ cond e false false
none_there true = refl
none_there false = refl

-- a closure that keeps each entry, and forgets the touches of a serial there
pub forgotten : {F : Type 0} (T : F → Obj → Touches → Bool → Touches → F → Type 0) (I : F → Type 0) (serial : ℕ)
    → ((g : F) (k : Obj) (v : Touches) (b : Bool) (w : Touches) (g' : F) → I g → T g k v b w g'
    → (b ≡ true) × AreForgotten serial v w × I g')
    → (f : F) (es kept : List (Obj × Touches)) → I f → RetainsPairs T f es kept
    → (o : Obj) (m : Mode) (s : ℕ) → has_in (lookup (obj_eq o) kept) m s
    ≡ cond (nat_eq serial s) false (has_in (lookup (obj_eq o) es) m s)
forgotten T I serial each f [] kept holds h o m s =
    ap (λ xs. has_in (lookup (obj_eq o) xs) m s) h ∙ none_there (nat_eq serial s)
forgotten {F} T I serial each f (e ∷ es) kept holds (b, w, f', rest, t, more, is) o m s =
    let all : (b ≡ true) × AreForgotten serial e.1 w × I f' = each f e.0 e.1 b w f' holds t in
    ap (λ xs. has_in (lookup (obj_eq o) xs) m s) (is ∙ ap (λ x. cond x ((e.0, w) ∷ rest) rest) all.0)
    ∙ go (obj_eq o e.0) w rest (all.1 m s) (forgotten T I serial each f' es rest all.2 more o m s)
  where
    go : (same : Bool) (w : Touches) (rest : List (Obj × Touches))
        → has (list_of w m) s ≡ cond (nat_eq serial s) false (has (list_of e.1 m) s)
        → has_in (lookup (obj_eq o) rest) m s ≡ cond (nat_eq serial s) false (has_in (lookup (obj_eq o) es) m s)
        → has_in (cond same (Some w) (lookup (obj_eq o) rest)) m s
        ≡ cond (nat_eq serial s) false (has_in (cond same (Some e.1) (lookup (obj_eq o) es)) m s)
    go true w rest here later = here
    go false w rest here later = later

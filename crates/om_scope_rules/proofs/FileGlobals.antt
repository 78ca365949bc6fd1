-- The globals of a source: the shapes of their names at file scope, and their cells.
use Rattle.std.proofs.Common.{◌≡◌, ℕ, ◌+◌, ◌≤◌, Bool, true, false, cond, List, [], ◌∷◌, ◌++◌, append_assoc, append-nil}
use Rattle.std.proofs.Common.{All, Option, None, Some, option_map, fold, map, length, slice_get, refl, sym, ap, subst}
use Rattle.std.proofs.Common.{◌∙◌, arith, length-append}
use Rattle.std.specs.Prelude.{IfSome}
use Rattle.std.specs.List.{flat_map}
use Rattle.std.specs.Map.{lookup}
use Rattle.std.specs.Str.{bytes_eq}
use Rattle.std.proofs.lemmas.List.Elements.{All-nil, All-cons, All-append}
use Rattle.std.proofs.lemmas.List.Sums.{fold-append}
use Rattle.om_parser_tree.specs.declared.tree.ArrayLength.{ArrayLength}
use Rattle.om_parser_tree.specs.declared.tree.SignedNumber.{SignedNumber}
use Rattle.om_parser_tree.specs.Tree.{DeclaratorTree, HeadTree, ItemTree, Declaration, Prototype, Function}
use Rattle.om_scope_tree.specs.declared.resolved.GlobalVariable.{GlobalVariable}
use Rattle.om_scope_tree.specs.declared.resolved.Shape.{Shape}
use Rattle.om_scope_tree.specs.declared.resolved.Variable.TheVariants as variables
use Rattle.om_scope_tree.specs.Whole as whole
use Rattle.om_scope_rules.specs.declared.names.Meaning.{Meaning}
use Rattle.om_scope_rules.specs.declared.names.Meaning.TheVariants as meanings
use Rattle.om_scope_rules.specs.Scopes.{Binding, Scope, Scopes, is_declared, shape_of, cells_of, signature_of, with_function}
use Rattle.om_scope_rules.specs.Scopes.{after_global, after_globals, after_prototype, after_function, after_item}
use Rattle.om_scope_rules.specs.Scopes.{declarators_of}
use Rattle.om_scope_rules.specs.StatementResolution.{length_of}
use Rattle.om_scope_rules.specs.UnitResolution.{global_of, globals_of}
use Rattle.om_scope_rules.specs.UnitRules.{global_breaches, globals_breaches, item_breaches, items_breaches}
use Rattle.om_scope_rules.proofs.KeptLimits.{global_fits}
use Rattle.om_scope_rules.proofs.Numbers.{slice_get-append, slice_get-last}
use Rattle.om_scope_rules.proofs.Steps.{if_either}
use Rattle.om_scope_rules.proofs.Unbroken.{front, back}

-- ---- shapes

abbrev shape_at : GlobalVariable → Shape
shape_at global = whole.shape_of global.length

-- a name of the file that means a variable means the global of that number, which has that shape
abbrev pub IsShaped : List GlobalVariable → Meaning → Type 0
IsShaped globals (meanings.Variable (variables.Global number) shape) = option_map
    (λ global. whole.shape_of global.length) (slice_get globals number) ≡ Some shape
IsShaped globals (meanings.Variable (variables.Local at) shape) = ⊥
IsShaped globals (meanings.Function signature) = Unit {0}
IsShaped globals meanings.Printf = Unit {0}

abbrev AreShaped : List GlobalVariable → Scope → Type 0
AreShaped globals [] = Unit {0}
AreShaped globals (b ∷ bs) = IsShaped globals b.1 × AreShaped globals bs

record Shapes (globals : List GlobalVariable) (scopes : Scopes) : Type 0 where
  count : scopes.globals ≡ length globals
  inner : AreShaped globals scopes.inner

one_shaped : (globals further : List GlobalVariable) (number : ℕ) (shape : Shape) (o : Option GlobalVariable)
    → slice_get globals number ≡ o
    → option_map shape_at o ≡ Some shape → option_map shape_at (slice_get (globals ++ further) number) ≡ Some shape
one_shaped globals further number shape None e h = cc
one_shaped globals further number shape (Some g) e h = ap (option_map shape_at)
    (slice_get-append globals further number g e) ∙ h

shaped_more : (globals further : List GlobalVariable) (meaning : Meaning) → IsShaped globals meaning
    → IsShaped (globals ++ further) meaning
shaped_more globals further (meanings.Variable (variables.Global number) shape) h = one_shaped globals further
    number shape (slice_get globals number) refl h
shaped_more globals further (meanings.Variable (variables.Local at) shape) h = h
shaped_more globals further (meanings.Function signature) h = tt
shaped_more globals further meanings.Printf h = tt

all_more : (globals further : List GlobalVariable) (scope : Scope) → AreShaped globals scope
    → AreShaped (globals ++ further) scope
all_more globals further [] h = tt
all_more globals further (b ∷ bs) h = (shaped_more globals further b.1 h.0, all_more globals further bs h.1)

all_push : (globals : List GlobalVariable) (scope : Scope) (b : Binding) → AreShaped globals scope
    → IsShaped globals b.1 → AreShaped globals (scope ++ b ∷ [])
all_push globals [] b h hb = (hb, tt)
all_push globals (c ∷ cs) b h hb = (h.0, all_push globals cs b h.1 hb)

lookup_shaped : (globals : List GlobalVariable) (name : List ℕ) (scope : Scope) → AreShaped globals scope
    → IfSome (lookup (bytes_eq name) scope) (IsShaped globals)
lookup_shaped globals name [] h = tt
lookup_shaped globals name ((other, meaning) ∷ bs) h = by (bytes_eq name other) (lookup_shaped globals name bs h.1)
  where
    by : (test : Bool) → IfSome (lookup (bytes_eq name) bs) (IsShaped globals)
        → IfSome (cond test (Some meaning) (lookup (bytes_eq name) bs)) (IsShaped globals)
    by true rest = h.0
    by false rest = rest

same_shape : (array : Option ArrayLength) → whole.shape_of (length_of array) ≡ shape_of array
same_shape None = refl
same_shape (Some array) = refl

shapes_global : (globals : List GlobalVariable) (scopes : Scopes) (d : DeclaratorTree SignedNumber)
    → Shapes globals scopes
    → Shapes (globals ++ global_of d ∷ []) (after_global scopes d)
shapes_global globals scopes d h = record {
  count = omega (arith, h.count, length-append globals (global_of d ∷ []));
  inner = all_push (globals ++ global_of d ∷ []) scopes.inner
      (d.name.text, meanings.Variable (variables.Global scopes.globals) (shape_of d.array))
      (all_more globals (global_of d ∷ []) scopes.inner h.inner)
      (subst (λ number. option_map shape_at (slice_get (globals ++ global_of d ∷ []) number)
      ≡ Some (shape_of d.array)) (sym h.count)
      (ap (option_map shape_at) (slice_get-last globals (global_of d)) ∙ ap Some (same_shape d.array)));
}

shapes_globals : (ds : List (DeclaratorTree SignedNumber)) (globals : List GlobalVariable) (scopes : Scopes)
    → Shapes globals scopes → Shapes (globals ++ map global_of ds) (after_globals scopes ds)
shapes_globals [] globals scopes h = rw append-nil h
shapes_globals (d ∷ ds) globals scopes h =
    subst (λ all. Shapes all (after_globals scopes (d ∷ ds))) (append_assoc globals (global_of d ∷ [])
    (map global_of ds))
    (shapes_globals ds (globals ++ global_of d ∷ []) (after_global scopes d) (shapes_global globals scopes d h))

shapes_prototype : {N : Type 0} (globals : List GlobalVariable) (scopes : Scopes) (head : HeadTree N)
    → Shapes globals scopes
    → Shapes globals (after_prototype scopes head)
shapes_prototype globals scopes head h =
    if_either (Shapes globals) (is_declared scopes head.name.text) scopes (with_function scopes head.name.text
    (signature_of head)) h
    (record {
      count = h.count;
      inner = all_push globals scopes.inner (
        head.name.text,
        meanings.Function
            (signature_of head),
      ) h.inner tt;
    })

shapes_item : (globals : List GlobalVariable) (scopes : Scopes) (item : ItemTree) → Shapes globals scopes
    → Shapes (globals ++ globals_of item) (after_item scopes item)
shapes_item globals scopes (Declaration d) h = shapes_globals (declarators_of d) globals scopes h
shapes_item globals scopes (Prototype head semicolon) h = rw append-nil (shapes_prototype globals scopes head h)
shapes_item globals scopes (Function f) h =
    let p = shapes_prototype globals scopes f.head h in
    let behind : Shapes globals (after_function scopes f.head) = record { count = p.count; inner = p.inner } in
    rw append-nil behind

shapes_items : (items : List ItemTree) (globals : List GlobalVariable) (scopes : Scopes) → Shapes globals scopes
    → Shapes (globals ++ flat_map globals_of items) (fold after_item scopes items)
shapes_items [] globals scopes h = rw append-nil h
shapes_items (item ∷ items) globals scopes h =
    subst (λ all. Shapes all (fold after_item scopes (item ∷ items))) (append_assoc globals (globals_of item)
    (flat_map globals_of items))
    (shapes_items items (globals ++ globals_of item) (after_item scopes item) (shapes_item globals scopes item h))

-- of a whole file, which begins without globals
pub names_shaped : (items : List ItemTree) (scopes : Scopes) → scopes.globals ≡ 0 → AreShaped [] scopes.inner
    → (name : List ℕ)
    → IfSome (lookup (bytes_eq name) (fold after_item scopes items).inner) (IsShaped (flat_map globals_of items))
names_shaped items scopes none h name =
    let all = shapes_items items [] scopes (record { count = none; inner = h }) in
    lookup_shaped (flat_map globals_of items) name (fold after_item scopes items).inner all.inner

-- ---- cells

abbrev add_cells : ℕ → GlobalVariable → ℕ
add_cells cells global = cells + whole.cell_count global

same_cells : (array : Option ArrayLength) → whole.cells_of (length_of array) ≡ cells_of array
same_cells None = refl
same_cells (Some array) = refl

-- the cells up to a place, and each global has one at least
record Cells (start : ℕ) (globals : List GlobalVariable) (end : ℕ) : Type 0 where
  total : fold add_cells start globals ≡ end
  each : All (λ global. 1 ≤ whole.cell_count global) globals

cells_join : (start mid end : ℕ) (xs ys : List GlobalVariable) → Cells start xs mid → Cells mid ys end
    → Cells start (xs ++ ys) end
cells_join start mid end xs ys h g = record {
  total = fold-append add_cells start xs ys ∙ ap (λ cells. fold add_cells cells ys) h.total ∙ g.total;
  each = All-append (λ global. 1 ≤ whole.cell_count global) xs ys h.each g.each;
}

cells_none : (start : ℕ) → Cells start [] start
cells_none start = record { total = refl; each = All-nil (λ global. 1 ≤ whole.cell_count global) }

cells_globals : (ds : List (DeclaratorTree SignedNumber)) (scopes : Scopes) → scopes.cells ≤ 65536
    → globals_breaches scopes ds ≡ []
    → Cells scopes.cells (map global_of ds) (after_globals scopes ds).cells × ((after_globals scopes ds).cells ≤ 65536)
cells_globals [] scopes few w = (cells_none scopes.cells, few)
cells_globals (d ∷ ds) scopes few w =
    let one = global_fits scopes d (front (global_breaches scopes d) (globals_breaches (after_global scopes d) ds) w) in
    let rest = cells_globals ds (after_global scopes d) one.1
    (back (global_breaches scopes d) (globals_breaches (after_global scopes d) ds) w) in
    let own : 1 ≤ whole.cell_count (global_of d) = subst (λ n. 1 ≤ n) (sym (same_cells d.array)) one.0 in (
      record {
        total = ap (λ n. fold add_cells (scopes.cells + n) (map global_of ds)) (same_cells d.array) ∙ rest.0.total;
        each = All-cons (λ global. 1 ≤ whole.cell_count global) (global_of d) (map global_of ds) own rest.0.each;
      },
      rest.1,
    )

cells_prototype : {N : Type 0} (scopes : Scopes) (head : HeadTree N) → scopes.cells ≤ 65536 → Cells scopes.cells []
    (after_prototype scopes head).cells × ((after_prototype scopes head).cells ≤ 65536)
cells_prototype scopes head few =
    if_either (λ behind. Cells scopes.cells [] behind.cells × (behind.cells ≤ 65536))
    (is_declared scopes head.name.text) scopes (with_function scopes head.name.text (signature_of head))
    (cells_none scopes.cells, few) (cells_none scopes.cells, few)

cells_item : (scopes : Scopes) (item : ItemTree) → scopes.cells ≤ 65536 → item_breaches scopes item ≡ []
    → Cells scopes.cells (globals_of item) (after_item scopes item).cells × ((after_item scopes item).cells ≤ 65536)
cells_item scopes (Declaration d) few w = cells_globals (declarators_of d) scopes few w
cells_item scopes (Prototype head semicolon) few w = cells_prototype scopes head few
cells_item scopes (Function f) few w = cells_prototype scopes f.head few

-- the globals of items have so many cells, within the limit
pub cells_items : (items : List ItemTree) (scopes : Scopes) → scopes.cells ≤ 65536 → items_breaches scopes items ≡ []
    → (fold add_cells scopes.cells (flat_map globals_of items) ≤ 65536)
    × All (λ global. 1 ≤ whole.cell_count global) (flat_map globals_of items)
cells_items items scopes few w = let all = go items scopes few w in (
  subst (λ n. n ≤ 65536) (sym all.0.total) all.1,
  all.0.each,
)
  where
    go : (items : List ItemTree) (scopes : Scopes) → scopes.cells ≤ 65536 → items_breaches scopes items ≡ []
        → Cells scopes.cells (flat_map globals_of items) (fold after_item scopes items).cells
        × ((fold after_item scopes items).cells ≤ 65536)
    go [] scopes few w = (cells_none scopes.cells, few)
    go (item ∷ items) scopes few w =
        let one = cells_item scopes item few (front (item_breaches scopes item)
        (items_breaches (after_item scopes item) items) w) in
        let rest = go items (after_item scopes item) one.1
        (back (item_breaches scopes item) (items_breaches (after_item scopes item) items) w) in (
          cells_join scopes.cells (after_item scopes item).cells _ (globals_of item) (flat_map globals_of items)
              one.0 rest.0,
          rest.1,
        )

-- The names of the functions of a resolved source stand at tokens of it, in their order.
use Rattle.std.proofs.Common.{◌≡◌, ◌≤◌, ◌<◌, ℕ, zero, suc, ◌+◌, List, [], ◌∷◌, ◌++◌, arith}
use Rattle.std.proofs.Common.{append-nil, get_or, map, refl, subst, sym}
use Rattle.std.proofs.lemmas.List.{map-append}
use Rattle.std.specs.List.{flat_map}
use Rattle.std.specs.List.Sorted.{IsStrictlyIncreasing}
use Rattle.std.specs.Prelude.{IfSome}
use Rattle.om_lexer.specs.declared.token.Token.{Token}
use Rattle.om_lexer.specs.declared.token.TokenKind.TheVariants as kinds
use Rattle.om_lexer.specs.Order.{AreInOrder}
use Rattle.om_lexer.specs.Sources.{IsTokens}
use Rattle.om_pragma.specs.declared.clause.Name as names
use Rattle.om_parser_tree.specs.Spelling.{block_spelling, definition_spelling, head_spelling, item_spelling, name}
use Rattle.om_parser_tree.specs.Spelling.{token}
use Rattle.om_parser_tree.specs.Spelling.{unit_spelling}
use Rattle.om_parser_tree.specs.Tree.{FunctionTree, ItemTree, Declaration, Prototype, Function, UnitTree}
use Rattle.om_scope_rules.specs.Scopes.{Scopes, after_function, after_item, definitions_of, file_scope}
use Rattle.om_scope_rules.specs.Perhaps.{all_along}
use Rattle.om_scope_rules.specs.UnitResolution.{item_functions, resolution_of, resolved_function, resolved_inside}
use Rattle.om_scope_tree.specs.ResolvedTree.{ResolvedFunctionTree, ResolvedTree}
use Rattle.om_scope_laws.specs.BreachLaws.{FunctionNamesRise, name_places}
use Rattle.om_scope_laws.proofs.Perhaps.{if_behind, if_given, if_then}
use Rattle.om_scope_laws.proofs.TokenBreaches.{Ordered, is_wide, ordered_source, wide}

-- where these tokens end, of which the first begins no earlier than that
abbrev end_of : ℕ → List Token → ℕ
end_of from [] = from
end_of from (t ∷ ts) = end_of t.span.end ts

-- each of these is above the one before it, the first no less than that, and all are below this
abbrev Ascend : (from to : ℕ) → List ℕ → Type 0
Ascend from to [] = from ≤ to
Ascend from to (p ∷ ps) = (from ≤ p) × Ascend (suc p) to ps

-- where these tokens stand one behind the other, the places ascend among them
record Within (ps : List ℕ) (ts : List Token) : Type 0 where
  ascend : (from : ℕ) → Ordered from ts → Ascend from (end_of from ts) ps

from_lower : (least from to : ℕ) (ps : List ℕ) → least ≤ from → Ascend from to ps → Ascend least to ps
from_lower least from to [] le h = omega (arith, le, h)
from_lower least from to (p ∷ ps) le h = let first = h.0 in (omega (arith, le, first), h.1)

ascend_together : (from middle to : ℕ) (ps qs : List ℕ) → Ascend from middle ps → Ascend middle to qs
    → Ascend from to (ps ++ qs)
ascend_together from middle to [] qs h more = from_lower from middle to qs h more
ascend_together from middle to (p ∷ ps) qs h more = (h.0, ascend_together (suc p) middle to ps qs h.1 more)

ends_behind : (ts : List Token) (from : ℕ) → Ordered from ts → from ≤ end_of from ts
ends_behind [] from o = omega arith
ends_behind (t ∷ ts) from o =
    let rest = ends_behind ts t.span.end o.2 in
    let width = wide t.kind t.span.start t.span.end o.1 in
    let start = o.0 in
    omega (arith, rest, width, start)

none : (ts : List Token) → Within [] ts
none ts = record { ascend = ends_behind ts }

-- two parts, one behind the other
together : (ps qs : List ℕ) (front back : List Token) → Within ps front → Within qs back
    → Within (ps ++ qs) (front ++ back)
together ps qs front back h more = record {
  ascend = λ from o. joined front from o (h.ascend from (front_of front from o));
}
  where
    front_of : (ts : List Token) (from : ℕ) → Ordered from (ts ++ back) → Ordered from ts
    front_of [] from o = tt
    front_of (t ∷ ts) from o = (o.0, o.1, front_of ts t.span.end o.2)

    behind_of : (ts : List Token) (from : ℕ) → Ordered from (ts ++ back) → Ordered (end_of from ts) back
    behind_of [] from o = o
    behind_of (t ∷ ts) from o = behind_of ts t.span.end o.2

    ends : (ts : List Token) (from : ℕ) → end_of (end_of from ts) back ≡ end_of from (ts ++ back)
    ends [] from = refl
    ends (t ∷ ts) from = ends ts t.span.end

    joined : (ts : List Token) (from : ℕ) → Ordered from (ts ++ back) → Ascend from (end_of from ts) ps
        → Ascend from (end_of from (ts ++ back)) (ps ++ qs)
    joined ts from o first =
        ascend_together from (end_of from ts) (end_of from (ts ++ back)) ps qs first
        (subst (λ to. Ascend (end_of from ts) to qs) (ends ts from)
        (more.ascend (end_of from ts) (behind_of ts from o)))

before : (ps : List ℕ) (front back : List Token) → Within ps front → Within ps (front ++ back)
before ps front back h =
    subst (λ z. Within z (front ++ back)) (append-nil ps) (together ps [] front back h (none back))

further : (ps : List ℕ) (t : Token) (ts : List Token) → Within ps ts → Within ps (t ∷ ts)
further ps t ts h = together [] ps (t ∷ []) ts (none (t ∷ [])) h

-- the place of a name, at its first token
named : (n : names.Name) → Within (n.span.start ∷ []) (name n ∷ [])
named n = record { ascend = λ from o. (o.0, is_wide (kinds.Name n.text) n.span.start n.span.end tt o.1) }

-- ---- functions

-- the name of this function is at one of these tokens
abbrev NameWithin : List Token → ResolvedFunctionTree → Type 0
NameWithin ts function = Within (function.name_at ∷ []) ts

function_at : (scopes : Scopes) (f : FunctionTree)
    → IfSome (resolved_function scopes f) (NameWithin (item_spelling (Function f)))
unfolding resolved_function item_spelling head_spelling
function_at scopes f =
    if_behind (NameWithin (item_spelling (Function f))) (resolved_inside (after_function scopes f.head) f) _ (λ body.
    before (f.head.name.span.start ∷ []) (definition_spelling f.head) (block_spelling f.body)
    (further _ _ _ (before _ (name f.head.name ∷ []) _ (named f.head.name))))

-- those of an item are at its tokens
abbrev NamesWithin : List Token → List ResolvedFunctionTree → Type 0
NamesWithin ts functions = Within (name_places functions) ts

item_within : (scopes : Scopes) (item : ItemTree)
    → IfSome (item_functions scopes item) (NamesWithin (item_spelling item))
unfolding item_functions
item_within scopes (Declaration d) = none _
item_within scopes (Prototype head semicolon) = none _
item_within scopes (Function f) =
    let ts = item_spelling (Function f) in
    if_then (NameWithin ts) (NamesWithin ts) _ _ (function_at scopes f) (λ function h. h)

items_within : (items : List ItemTree) (scopes : Scopes)
    → IfSome (all_along item_functions after_item scopes items) (NamesWithin (flat_map item_spelling items))
items_within [] scopes = none []
items_within (item ∷ items) scopes =
    let own = item_spelling item in
    let tail = flat_map item_spelling items in
    let goal = NamesWithin (own ++ tail) in
    if_then (NamesWithin own) goal _ _ (item_within scopes item) (λ fs hfs.
    if_then (NamesWithin tail) goal _ _ (items_within items (after_item scopes item)) (λ gs hgs.
    subst (λ ps. Within ps (own ++ tail)) (sym (map-append (λ (g : ResolvedFunctionTree). g.name_at) fs gs))
    (together (name_places fs) (name_places gs) own tail hfs hgs)))

-- ---- a source

abbrev TreeWithin : List Token → ResolvedTree → Type 0
TreeWithin ts tree = NamesWithin ts tree.functions

unit_within : (unit : UnitTree) → IfSome (resolution_of unit) (TreeWithin (unit_spelling unit))
unfolding resolution_of unit_spelling
unit_within unit =
    let own = flat_map item_spelling unit.items in
    if_then (NamesWithin own) (TreeWithin (unit_spelling unit)) _ _
    (items_within unit.items (file_scope (definitions_of unit.items))) (λ functions h.
    before (name_places functions) own (token kinds.End unit.end ∷ []) h)

increasing : (from to : ℕ) (ps : List ℕ) → Ascend from to ps → IsStrictlyIncreasing ps
increasing from to [] h k within = absurd (omega arith)
increasing from to (p ∷ []) h k within = absurd (omega arith)
increasing from to (p ∷ q ∷ ps) h zero within = let next = h.1.0 in omega (arith, next)
increasing from to (p ∷ q ∷ ps) h (suc k) within =
    let e : suc (k + 1) ≡ suc k + 1 = omega arith in
    subst (λ n. get_or (q ∷ ps) k 0 < get_or (p ∷ q ∷ ps) n 0) e
    (increasing (suc p) to (q ∷ ps) h.1 k (omega (within, arith)))

module _ (in_order : (source : List ℕ) (ts : List Token) → IsTokens source ts → AreInOrder source 0 ts) where
  pub names_rise : FunctionNamesRise
  names_rise source tokens unit resolved lexed spelled resolves =
      let ts = unit_spelling unit in
      let ordered = subst (λ us. Ordered 0 us) (sym spelled) (ordered_source source 0 tokens
      (in_order source tokens lexed)) in
      let within = if_given (TreeWithin ts) (resolution_of unit) resolved (unit_within unit) resolves in
      increasing 0 (end_of 0 ts) (name_places resolved.functions) (within.ascend 0 ordered)

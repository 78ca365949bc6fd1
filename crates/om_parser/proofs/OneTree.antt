-- One unit at most has these tokens.
use Rattle.std.proofs.Common.{◌≡◌, ◌+◌, ◌≤◌, List, [], ◌∷◌, false, refl, sym, ap, subst, ◌∙◌, arith, inl, inr, All}
use Rattle.std.proofs.lemmas.List.Elements.{All-nil, All-cons, All-weaker}
use Rattle.om_parser_tree.specs.Formed.{IsUnit}
use Rattle.om_parser_tree.specs.Limits.{Limits}
use Rattle.om_parser_tree.specs.Sizes.{longest_of, brackets_of, blocks_of, height_of, HaveForms}
use Rattle.om_parser_tree.specs.Spelling.{unit_spelling}
use Rattle.om_parser_tree.specs.Tree.{ItemTree, Declaration, Prototype, Function, UnitTree, statements}
use Rattle.om_parser.specs.UnitReading.{unit_at}
use Rattle.om_parser_parts.specs.Laws.{GlobalsAreReadAgain}
use Rattle.om_parser.specs.Laws.{BlocksAreReadAgain, UncheckedHaveForms}
use Rattle.om_parser_parts.specs.Outcomes.{ok, ok_is}
use Rattle.om_parser.proofs.Forms.{IsKeptItem}
use Rattle.om_parser.proofs.UnitComplete.{unit_again}

-- limits that both keep, where no `atomic` is checked
abbrev both : Limits → Limits → Limits
both l m = record {
  nested = l.nested + m.nested;
  tokens = l.tokens + m.tokens;
  blocks = l.blocks + m.blocks;
  statements = l.statements + m.statements;
  checked = false;
}

-- limits that an item keeps
abbrev limits_of : ItemTree → Limits
limits_of (Declaration d) = record { nested = 0; tokens = 0; blocks = 0; statements = 0; checked = false }
limits_of (Prototype h semicolon) = record { nested = 0; tokens = 0; blocks = 0; statements = 0; checked = false }
limits_of (Function f) =
    let items = statements f.body.items in
    record {
      nested = brackets_of items;
      tokens = longest_of items;
      blocks = blocks_of items + 1;
      statements = height_of items;
      checked = false;
    }

-- limits that these items keep, with room for a parenthesis
abbrev large : List ItemTree → Limits
large [] = record { nested = 1; tokens = 0; blocks = 0; statements = 0; checked = false }
large (i ∷ items) = both (limits_of i) (large items)

-- one that keeps limits keeps wider ones, where no `atomic` is checked
record IsWider (l m : Limits) : Type 0 where
  nested : l.nested ≤ m.nested
  tokens : l.tokens ≤ m.tokens
  blocks : l.blocks ≤ m.blocks
  statements : l.statements ≤ m.statements
  checked : m.checked ≡ false

item_wider : UncheckedHaveForms → (l m : Limits) → IsWider l m → (i : ItemTree) → IsKeptItem l i → IsKeptItem m i
item_wider unchecked l m w (Declaration d) g = (tt, tt)
item_wider unchecked l m w (Prototype h semicolon) g = (tt, tt)
item_wider unchecked l m w (Function f) g = (
  record {
    high = omega (arith, g.0.high, w.statements);
    deep = omega (arith, g.0.deep, w.blocks);
    nested = omega (arith, g.0.nested, w.nested);
    long = omega (arith, g.0.long, w.tokens);
  },
  subst (λ c. HaveForms c (statements f.body.items)) (sym w.checked) (unchecked (statements f.body.items)),
)

wider : UncheckedHaveForms → (l m : Limits) → IsWider l m → (items : List ItemTree) → All (IsKeptItem l) items
    → All (IsKeptItem m) items
wider unchecked l m w items g = All-weaker (IsKeptItem l) (IsKeptItem m) (λ i h. item_wider unchecked l m w i h) items g

first_wider : (l m : Limits) → IsWider l (both l m)
first_wider l m = record {
  nested = omega arith;
  tokens = omega arith;
  blocks = omega arith;
  statements = omega arith;
  checked = refl;
}

second_wider : (l m : Limits) → IsWider m (both l m)
second_wider l m = record {
  nested = omega arith;
  tokens = omega arith;
  blocks = omega arith;
  statements = omega arith;
  checked = refl;
}

own_limits : UncheckedHaveForms → (i : ItemTree) → IsKeptItem (limits_of i) i
own_limits unchecked (Declaration d) = (tt, tt)
own_limits unchecked (Prototype h semicolon) = (tt, tt)
own_limits unchecked (Function f) = (
  record {
    high = omega arith;
    deep = omega arith;
    nested = omega arith;
    long = omega arith;
  },
  unchecked (statements f.body.items),
)

large_enough : UncheckedHaveForms → (items : List ItemTree) → All (IsKeptItem (large items)) items
large_enough unchecked [] = All-nil (IsKeptItem (large []))
large_enough unchecked (i ∷ items) =
    All-cons (IsKeptItem (large (i ∷ items))) i items (item_wider unchecked (limits_of i) (large (i ∷ items))
    (first_wider (limits_of i) (large items)) i (own_limits unchecked i))
    (wider unchecked (large items) (large (i ∷ items)) (second_wider (limits_of i) (large items)) items
    (large_enough unchecked items))

some_nested : (items : List ItemTree) → 1 ≤ (large items).nested
some_nested [] = omega arith
some_nested (i ∷ items) = let le = some_nested items in omega (arith, le)

read_whole : BlocksAreReadAgain → GlobalsAreReadAgain → (l : Limits) → 1 ≤ l.nested → (u : UnitTree) → IsUnit u
    → All (IsKeptItem l) u.items → unit_at l (unit_spelling u) ≡ ok u
read_whole again globals l one u f w = elim (unit_again again globals l one u f) [
  | inl e ↦ e
  | inr (stop, e, never) ↦ absurd (never w)
]

pub same_unit : UncheckedHaveForms → BlocksAreReadAgain → GlobalsAreReadAgain → (t u : UnitTree) → IsUnit t
    → IsUnit u → unit_spelling t ≡ unit_spelling u → t ≡ u
same_unit unchecked again globals t u f g e =
    let a = large t.items in
    let b = large u.items in
    let l : Limits = both a b in
    let some = some_nested t.items in
    let one : 1 ≤ l.nested = omega (arith, some) in
    let x = read_whole again globals l one t f
    (wider unchecked a l (first_wider a b) t.items (large_enough unchecked t.items)) in
    let y = read_whole again globals l one u g
    (wider unchecked b l (second_wider a b) u.items (large_enough unchecked u.items)) in
    ok_is t u (sym x ∙ ap (unit_at l) e ∙ y)

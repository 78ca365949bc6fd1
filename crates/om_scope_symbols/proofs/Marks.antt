-- The innermost construct that does not list a name, found by the listings of the name and by the innermost of all.
use Rattle.std.specs.Prelude.{nat_lt}
use Rattle.std.proofs.Common.{◌≡◌, ℕ, ◌+◌, ◌<◌, ◌≤◌, suc, length, take, drop, get_or, Bool, true, false, not, ◌&&◌}
use Rattle.std.proofs.Common.{◌||◌, List, [], ◌∷◌, ◌++◌, Option, None, Some, map, if◌then◌else◌, Vec, refl, sym, ap}
use Rattle.std.proofs.Common.{subst, ◌∙◌, true≢false, arith}
use Rattle.std.specs.declared.alloc.Global.{Global}
use Rattle.std.proofs.lemmas.Bool.{lt-ltb, le-ltb, ltb-true, ltb-false}
use Rattle.std.specs.List.{AllByRecursion, IsDistinct, list_any}
use Rattle.std.proofs.lemmas.Map.Keys.{IsDistinct-head, IsDistinct-tail}
use Rattle.std.proofs.Math.Seq.{split_at}
use Rattle.std.proofs.lemmas.List.{take_more}
use Rattle.std.specs.Str.{bytes_eq}
use Rattle.om_scope_symbols.specs.declared.landmark.Landmark.{Landmark}
use Rattle.om_scope_symbols.specs.declared.landmark.Marks.{Marks}
use Rattle.om_scope_symbols.specs.declared.nesting.Construct.{Construct}
use Rattle.om_scope_rules.specs.declared.region.Region.{Region}
use Rattle.om_scope_rules.specs.Scopes.{same_name}
use Rattle.om_scope_rules.specs.Sharing.{lacks_clause}
use Rattle.om_scope_symbols.specs.Landmarks.{deeper, marks_behind}
use Rattle.om_scope_symbols.specs.Nesting.{AreNested, ChangedFor, Lists, asks, copies, end_of, entered, innermost}
use Rattle.om_scope_symbols.specs.Nesting.{innermost_without, listing, listings, lists, marks_of, marks_without}
use Rattle.om_scope_symbols.specs.Nesting.{unlisted_since, with_listing}
use Rattle.om_scope_symbols.specs.Stacks.{innermost_of, seen_in, without_innermost}
use Rattle.om_scope_symbols.proofs.Stacked.{innermost-last, name_itself, same_names, without-last}

-- ---- the innermost of all

-- it stands in a scope that is no deeper
innermost-below : (is_such : Region → Bool) (constructs : List Construct) (depth : ℕ) → AreNested constructs depth
    → innermost is_such constructs ≤ depth
innermost-below is_such [] depth nested = omega arith
innermost-below is_such (construct ∷ outer) depth nested = by (is_such construct.region)
    (innermost-below is_such outer construct.depth nested.1)
  where
    by : (b : Bool) → innermost is_such outer ≤ construct.depth
        → (if b then suc construct.depth else innermost is_such outer) ≤ depth
    by true below = omega (arith, nested.0)
    by false below = omega (arith, nested.0, below)

some-same : {a b : Landmark} → Some a ≡ Some b → a ≡ b
some-same h = cc

-- the listings of a name
listed-below : (constructs : List Construct) (depth : ℕ) (name : List ℕ) (found : Landmark) → AreNested constructs
    depth → innermost_of (listings constructs name) ≡ Some found → found.depth ≤ depth
listed-below [] depth name found nested e = cc
listed-below (construct ∷ outer) depth name found nested e = by (lists construct.region name) e
    (listed-below outer construct.depth name found nested.1)
  where
    by : (b : Bool) → innermost_of (if b then listings outer name ++ listing (suc construct.depth) outer name
        ∷ [] else listings outer name) ≡ Some found
        → (innermost_of (listings outer name) ≡ Some found → found.depth ≤ construct.depth) → found.depth ≤ depth
    by true is rest =
        let same : listing (suc construct.depth) outer name ≡ found = some-same
        (sym (innermost-last (listings outer name) (listing (suc construct.depth) outer name)) ∙ is) in
        subst (λ l. l.depth ≤ depth) same (omega (arith, nested.0))
    by false is rest = omega (arith, nested.0, rest is)

-- what is known of one kind of constructs, by the innermost listing
abbrev found_behind : (Landmark → ℕ) → Option Landmark → ℕ → ℕ
found_behind outer None any = any
found_behind outer (Some found) any = deeper found.depth any (outer found)

without-innermost : (is_such : Region → Bool) (mark : Landmark → ℕ)
    → ((inside : ℕ) (outer : List Construct) (name : List ℕ) → mark (listing inside outer name) ≡ innermost_without
    is_such outer name)
    → (constructs : List Construct) (depth : ℕ) (name : List ℕ) → AreNested constructs depth
    → found_behind mark (innermost_of (listings constructs name)) (innermost is_such constructs) ≡ innermost_without
    is_such constructs name
without-innermost is_such mark marked [] depth name nested = refl
without-innermost is_such mark marked (construct ∷ outer) depth name nested =
    by (lists construct.region name) (is_such construct.region) (without-innermost is_such mark marked outer
    construct.depth name nested.1)
  where
    behind : (found : Option Landmark) → ((l : Landmark) → found ≡ Some l → l.depth ≤ construct.depth)
        → found_behind mark found (suc construct.depth) ≡ suc construct.depth
    behind None below = refl
    behind (Some l) below = ap (λ b. if b then suc construct.depth else mark l)
        (lt-ltb l.depth (suc construct.depth) (let le = below l refl in omega (arith, le)))

    by : (listed such : Bool) → found_behind mark (innermost_of (listings outer name)) (innermost is_such outer)
        ≡ innermost_without is_such outer name
        → found_behind mark (innermost_of (if listed then listings outer name ++ listing (suc construct.depth) outer
        name ∷ [] else listings outer name)) (if such then suc construct.depth else innermost is_such outer)
        ≡ (if such && not listed then suc construct.depth else innermost_without is_such outer name)
    by true true rest =
        ap (λ found. found_behind mark found (suc construct.depth)) (innermost-last (listings outer name)
        (listing (suc construct.depth) outer name))
        ∙ ap (λ b. if b then suc construct.depth else mark (listing (suc construct.depth) outer name))
        (le-ltb (suc construct.depth) (suc construct.depth) (omega arith))
        ∙ marked (suc construct.depth) outer name
    by true false rest =
        ap (λ found. found_behind mark found (innermost is_such outer)) (innermost-last (listings outer name)
        (listing (suc construct.depth) outer name))
        ∙ ap (λ b. if b then innermost is_such outer else mark (listing (suc construct.depth) outer name))
        (le-ltb (suc construct.depth) (innermost is_such outer) (let le = innermost-below is_such outer
        construct.depth nested.1 in omega (arith, le)))
        ∙ marked (suc construct.depth) outer name
    by false true rest = behind (innermost_of (listings outer name)) (λ l is. listed-below outer construct.depth
        name l nested.1 is)
    by false false rest = rest

-- of both kinds
pub marks-without : (constructs : List Construct) (depth : ℕ) (name : List ℕ) → AreNested constructs depth
    → marks_behind (innermost_of (listings constructs name)) (marks_of constructs) ≡ marks_without constructs name
marks-without constructs depth name nested =
    by (innermost_of (listings constructs name))
    ∙ ap (λ asking. record {
      asking = asking;
      copying = found_behind (λ l. l.marks.copying)
          (innermost_of (listings constructs name)) (innermost copies constructs);
    })
    (without-innermost asks (λ l. l.marks.asking) (λ inside outer name. refl) constructs depth name nested)
    ∙ ap (λ copying. record { asking = innermost_without asks constructs name; copying = copying })
    (without-innermost copies (λ l. l.marks.copying) (λ inside outer name. refl) constructs depth name nested)
  where
    by : (found : Option Landmark) → marks_behind found (marks_of constructs)
        ≡ record {
          asking = found_behind (λ l. l.marks.asking) found (innermost asks constructs);
          copying = found_behind (λ l. l.marks.copying) found (innermost copies constructs);
        }
    by None = refl
    by (Some found) = refl

-- ---- what it says of a name

pub without-below : (is_such : Region → Bool) (constructs : List Construct) (depth : ℕ) (name : List ℕ)
    → AreNested constructs depth → innermost_without is_such constructs name ≤ depth
without-below is_such [] depth name nested = omega arith
without-below is_such (construct ∷ outer) depth name nested = by (is_such construct.region
    && not (lists construct.region name)) (without-below is_such outer construct.depth name nested.1)
  where
    by : (b : Bool) → innermost_without is_such outer name ≤ construct.depth
        → (if b then suc construct.depth else innermost_without is_such outer name) ≤ depth
    by true below = omega (arith, nested.0)
    by false below = omega (arith, nested.0, below)

-- a construct since a depth lacks a clause where the innermost of these stands behind it
pub unlisted-mark : (constructs : List Construct) (end depth : ℕ) (name : List ℕ) → AreNested constructs end
    → nat_lt depth (innermost_without asks constructs name) ≡ unlisted_since constructs depth name
unlisted-mark [] end depth name nested = le-ltb depth 0 (omega arith)
unlisted-mark (construct ∷ outer) end depth name nested =
    by (nat_lt construct.depth depth) refl (lacks_clause construct.region name) (unlisted-mark outer construct.depth
    depth name nested.1) (without-below asks outer construct.depth name nested.1)
  where
    by : (past : Bool) → nat_lt construct.depth depth ≡ past → (lacks : Bool)
        → nat_lt depth (innermost_without asks outer name) ≡ unlisted_since outer depth name → innermost_without
        asks outer name ≤ construct.depth
        → nat_lt depth (if lacks then suc construct.depth else innermost_without asks outer name)
        ≡ (if past then false else lacks || unlisted_since outer depth name)
    by true e true rest below = le-ltb depth (suc construct.depth) (let lt = ltb-true construct.depth depth e in
        omega (arith, lt))
    by true e false rest below = le-ltb depth (innermost_without asks outer name) (let lt = ltb-true construct.depth
        depth e in omega (arith, lt, below))
    by false e true rest below = lt-ltb depth (suc construct.depth) (let le = ltb-false construct.depth depth e in
        omega (arith, le))
    by false e false rest below = rest

-- ---- names that are each there once

last_apart : (P : Vec ℕ Global → Type 0) (front rest : List (Vec ℕ Global)) (name : Vec ℕ Global) → AllByRecursion P
    (front ++ name ∷ rest) → P name
last_apart P [] rest name all = all.0
last_apart P (other ∷ front) rest name all = last_apart P front rest name all.1

pub new-name : (front rest : List (Vec ℕ Global)) (name : Vec ℕ Global) → IsDistinct same_name
    (front ++ name ∷ rest) → list_any (bytes_eq name.items) (map (λ n. n.items) front) ≡ false
new-name [] rest name distinct = refl
new-name (other ∷ front) rest name distinct =
    by (bytes_eq name.items other.items) refl
    (last_apart (λ n. same_name other n ≡ false) front rest name
    (IsDistinct-head same_name other (front ++ name ∷ rest) distinct))
    (new-name front rest name (IsDistinct-tail same_name other (front ++ name ∷ rest) distinct))
  where
    by : (b : Bool) → bytes_eq name.items other.items ≡ b → bytes_eq other.items name.items ≡ false
        → list_any (bytes_eq name.items) (map (λ n. n.items) front) ≡ false
        → (b || list_any (bytes_eq name.items) (map (λ n. n.items) front)) ≡ false
    by true e apart rest = absurd
        (true≢false (sym (ap (λ n. bytes_eq n name.items) (sym (same_names name.items other.items e))
        ∙ name_itself name.items) ∙ apart))
    by false e apart rest = rest

any-push : (test : List ℕ → Bool) (names : List (Vec ℕ Global)) (name : Vec ℕ Global)
    → list_any test (map (λ n. n.items) (names ++ name ∷ [])) ≡ (list_any test (map (λ n. n.items) names)
    || test name.items)
any-push test [] name = by (test name.items)
  where
    by : (b : Bool) → (b || false) ≡ b
    by true = refl
    by false = refl
any-push test (other ∷ names) name = by (test other.items) (any-push test names name)
  where
    by : (b : Bool) → list_any test (map (λ n. n.items) (names ++ name ∷ []))
        ≡ (list_any test (map (λ n. n.items) names) || test name.items)
        → (b || list_any test (map (λ n. n.items) (names ++ name ∷ [])))
        ≡ ((b || list_any test (map (λ n. n.items) names)) || test name.items)
    by true rest = refl
    by false rest = rest

-- what is changed for names is changed for one more
pub changed-more : (change : List Landmark → List Landmark) (before now next : List (List ℕ × List Landmark))
    (taken rest : List (Vec ℕ Global)) (name : Vec ℕ Global)
    → IsDistinct same_name (taken ++ name ∷ rest) → ChangedFor change before now (map (λ n. n.items) taken)
    → ((other : List ℕ) → seen_in next other ≡ (if bytes_eq other name.items then change (seen_in now other) else
    seen_in now other))
    → ChangedFor change before next (map (λ n. n.items) (taken ++ name ∷ []))
changed-more change before now next taken rest name distinct changed more other =
    more other
    ∙ ap (λ seen. if bytes_eq other name.items then change seen else seen) (changed other)
    ∙ by (bytes_eq other name.items) (list_any (bytes_eq other) (map (λ n. n.items) taken)) refl refl
    ∙ ap (λ b. if b then change (seen_in before other) else seen_in before other)
    (sym (any-push (bytes_eq other) taken name))
  where
    by : (here among : Bool) → bytes_eq other name.items ≡ here → list_any (bytes_eq other)
        (map (λ n. n.items) taken) ≡ among
        → (if here then change (if among then change (seen_in before other) else seen_in before other) else
        (if among then change (seen_in before other) else seen_in before other))
        ≡ (if among || here then change (seen_in before other) else seen_in before other)
    by true true e h =
        absurd (true≢false (sym (ap (λ n. list_any (bytes_eq n) (map (λ n. n.items) taken))
        (sym (same_names other name.items e)) ∙ h) ∙ new-name taken rest name distinct))
    by true false e h = refl
    by false true e h = refl
    by false false e h = refl

-- the next of several
pub changed-next : (change : List Landmark → List Landmark) (before now next : List (List ℕ × List Landmark))
    (names : List (Vec ℕ Global)) (index : ℕ) (name : Vec ℕ Global)
    → index < length names → name ≡ get_or names index name → IsDistinct same_name names → ChangedFor change before
    now (map (λ n. n.items) (take index names))
    → ((other : List ℕ) → seen_in next other ≡ (if bytes_eq other name.items then change (seen_in now other) else
    seen_in now other))
    → ChangedFor change before next (map (λ n. n.items) (take (index + 1) names))
changed-next change before now next names index name within is distinct changed more =
    let split : names ≡ take index names ++ name ∷ drop (suc index) names = split_at names index name within
    ∙ ap (λ n. take index names ++ n ∷ drop (suc index) names) (sym is) in
    subst (λ ns. ChangedFor change before next (map (λ n. n.items) ns))
    (sym (take_more names index name within ∙ ap (λ n. take index names ++ n ∷ []) (sym is)))
    (changed-more change before now next (take index names) (drop (suc index) names) name
    (subst (IsDistinct same_name) split distinct) changed more)

-- a listing that is noted by what stands round its construct
pub noted-listing : (inside : ℕ) (all marks : Marks) (now next : List (List ℕ × List Landmark)) (name : List ℕ)
    → marks ≡ marks_behind (innermost_of (seen_in now name)) all
    → ((other : List ℕ) → seen_in next other ≡ (if bytes_eq other name then seen_in now other
    ++ record { depth = inside; marks = marks } ∷ [] else seen_in now other))
    → (other : List ℕ) → seen_in next other ≡ (if bytes_eq other name then with_listing inside all
    (seen_in now other) else seen_in now other)
noted-listing inside all marks now next name is noted other = noted other ∙ by (bytes_eq other name) refl
  where
    by : (b : Bool) → bytes_eq other name ≡ b
        → (if b then seen_in now other ++ record { depth = inside; marks = marks } ∷ [] else seen_in now other)
        ≡ (if b then with_listing inside all (seen_in now other) else seen_in now other)
    by true e = ap (λ marks. seen_in now other ++ record { depth = inside; marks = marks } ∷ [])
        (is ∙ ap (λ n. marks_behind (innermost_of (seen_in now n)) all) (sym (same_names other name e)))
    by false e = refl

-- ---- constructs that are entered and left

pub nested-end : (constructs : List Construct) (depth : ℕ) → AreNested constructs depth → AreNested constructs
    (end_of constructs)
nested-end [] depth nested = tt
nested-end (construct ∷ outer) depth nested = (omega arith, nested.1)

pub lists-entered : (table now : List (List ℕ × List Landmark)) (outer : List Construct) (depth : ℕ)
    (region : Region) → AreNested outer depth → Lists table outer
    → ChangedFor (with_listing (suc depth) (marks_of outer)) table now region.shared
    → Lists now (entered depth region outer)
lists-entered table now outer depth region nested shown changed name =
    changed name
    ∙ ap (λ seen. if lists region name then with_listing (suc depth) (marks_of outer) seen else seen) (shown name)
    ∙ ap (λ marks. if lists region name then listings outer name ++ record { depth = suc depth; marks = marks }
    ∷ [] else listings outer name) (marks-without outer depth name nested)

pub lists-left : (table now : List (List ℕ × List Landmark)) (construct : Construct) (outer : List Construct)
    → Lists table (construct ∷ outer)
    → ChangedFor without_innermost table now construct.region.shared → Lists now outer
lists-left table now construct outer shown changed name =
    changed name
    ∙ ap (λ seen. if lists construct.region name then without_innermost seen else seen) (shown name)
    ∙ by (lists construct.region name)
  where
    by : (b : Bool) → (if b then without_innermost (if b then listings outer name ++ listing (suc construct.depth)
        outer name ∷ [] else listings outer name) else (if b then listings outer name
        ++ listing (suc construct.depth) outer name ∷ [] else listings outer name)) ≡ listings outer name
    by true = without-last (listings outer name) (listing (suc construct.depth) outer name)
    by false = refl

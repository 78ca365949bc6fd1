-- Whether a `task` makes a copy of a name's variable, found by each `parallel` and the listings of the name.
use Rattle.std.specs.Prelude.{nat_lt}
use Rattle.std.proofs.Common.{◌≡◌, ℕ, ◌≤◌, suc, Bool, true, false, not, ◌&&◌, ◌||◌, List, [], ◌∷◌, ◌++◌, Option}
use Rattle.std.proofs.Common.{None, Some, if◌then◌else◌, refl, sym, ap, subst, ◌∙◌, true≢false, arith}
use Rattle.std.proofs.lemmas.Bool.{and_parts, lt-ltb, le-ltb, ltb-true, ltb-false}
use Rattle.std.specs.Option.{option_or}
use Rattle.om_scope_symbols.specs.declared.landmark.Landmark.{Landmark}
use Rattle.om_scope_symbols.specs.declared.nesting.Construct.{Construct}
use Rattle.om_scope_rules.specs.declared.region.Region.{Region}
use Rattle.om_scope_rules.specs.declared.region.SharingKind.{SharingKind}
use Rattle.om_scope_rules.specs.declared.region.SharingKind.TheVariants as regions
use Rattle.om_scope_rules.specs.Sharing.{is_parallel, is_task_without}
use Rattle.om_scope_symbols.specs.Landmarks.{first_deeper, last_within, marks_behind}
use Rattle.om_scope_symbols.specs.Nesting.{AreNested, alone_since, copied_since, copies, end_of, innermost_without}
use Rattle.om_scope_symbols.specs.Nesting.{landmark_of, listing, listings, lists, marks_of, marks_without, parallels}
use Rattle.om_scope_symbols.specs.Nesting.{to_parallel}
use Rattle.om_scope_symbols.specs.Stacks.{innermost_of}
use Rattle.om_scope_symbols.proofs.Landmarks.{DescendTo, descend-next, descend-none, first-push, last-push}
use Rattle.om_scope_symbols.proofs.Lookups.{alone-here, nested-deeper}
use Rattle.om_scope_symbols.proofs.Marks.{marks-without, without-below}
use Rattle.om_scope_symbols.proofs.Stacked.{innermost-last}

-- ---- in the order of their depths

pub parallels-descend : (constructs : List Construct) (end : ℕ) → AreNested constructs end → DescendTo
    (parallels constructs) end
parallels-descend [] end nested = descend-none end
parallels-descend (construct ∷ outer) end nested =
    descend-next (is_parallel construct.region.kind) (parallels outer) (landmark_of (construct ∷ outer))
    construct.depth end (parallels-descend outer construct.depth nested.1) (omega arith) nested.0

pub listings-descend : (constructs : List Construct) (end : ℕ) (name : List ℕ) → AreNested constructs end
    → DescendTo (listings constructs name) end
listings-descend [] end name nested = descend-none end
listings-descend (construct ∷ outer) end name nested =
    descend-next (lists construct.region name) (listings outer name) (listing (suc construct.depth) outer name)
    construct.depth end (listings-descend outer construct.depth name nested.1) (omega arith) nested.0

-- ---- the constructs up to the outermost `parallel`

alone-past : (outer : List Construct) (here depth : ℕ) → here ≤ depth → AreNested outer here → alone_since outer
    depth ≡ true
alone-past outer here depth le nested = alone-here outer depth (nested-deeper outer here depth le nested)

alone-outer : (construct : Construct) (outer : List Construct) (depth : ℕ) → AreNested outer construct.depth
    → alone_since (construct ∷ outer) depth ≡ true → alone_since outer depth ≡ true
alone-outer construct outer depth nested alone = by (nat_lt construct.depth depth) refl alone
  where
    by : (past : Bool) → nat_lt construct.depth depth ≡ past
        → (if past then true else not (is_parallel construct.region.kind) && alone_since outer depth) ≡ true
        → alone_since outer depth ≡ true
    by true e alone = let lt = ltb-true construct.depth depth e in alone-past outer construct.depth depth (omega
        (arith, lt)) nested
    by false e alone = (and_parts (not (is_parallel construct.region.kind)) (alone_since outer depth) alone).1

-- where there is none, these are all
to-all : (constructs : List Construct) (end depth : ℕ) → AreNested constructs end → alone_since constructs depth
    ≡ true → to_parallel constructs depth ≡ constructs
to-all [] end depth nested alone = refl
to-all (construct ∷ outer) end depth nested alone = ap (λ b. if b then construct ∷ outer else to_parallel outer
    depth) (alone-outer construct outer depth nested.1 alone)

to-nested : (constructs : List Construct) (end depth : ℕ) → AreNested constructs end → AreNested
    (to_parallel constructs depth) end
to-nested [] end depth nested = tt
to-nested (construct ∷ outer) end depth nested = by (alone_since outer depth)
    (to-nested outer construct.depth depth nested.1)
  where
    by : (alone : Bool) → AreNested (to_parallel outer depth) construct.depth → AreNested
        (if alone then construct ∷ outer else to_parallel outer depth) end
    by true rest = nested
    by false rest = nested-deeper (to_parallel outer depth) construct.depth end (omega (arith, nested.0)) rest

end-below : (constructs : List Construct) (end : ℕ) → AreNested constructs end → end_of constructs ≤ end
end-below [] end nested = omega arith
end-below (construct ∷ outer) end nested = nested.0

-- that one is the first that stands so deep
first-parallel : (constructs : List Construct) (end depth : ℕ) → AreNested constructs end
    → first_deeper (parallels constructs) depth
    ≡ (if alone_since constructs depth then None else Some (landmark_of (to_parallel constructs depth)))
first-parallel [] end depth nested = refl
first-parallel (construct ∷ outer) end depth nested =
    by (nat_lt construct.depth depth) refl (is_parallel construct.region.kind) (alone_since outer depth) refl
    (first-parallel outer construct.depth depth nested.1)
  where
    last : Landmark
    last = landmark_of (construct ∷ outer)

    pushed : (found : Option Landmark) → first_deeper (parallels outer) depth ≡ found
        → first_deeper (parallels outer ++ last ∷ []) depth ≡ option_or found
        (if nat_lt depth (suc construct.depth) then Some last else None)
    pushed found is = first-push (parallels outer) last depth
        ∙ ap (λ found. option_or found (if nat_lt depth (suc construct.depth) then Some last else None)) is

    by : (past : Bool) → nat_lt construct.depth depth ≡ past → (parallel alone : Bool)
        → alone_since outer depth ≡ alone
        → first_deeper (parallels outer) depth ≡ (if alone then None else Some (landmark_of (to_parallel outer depth)))
        → first_deeper (if parallel then parallels outer ++ last ∷ [] else parallels outer) depth
        ≡ (if (if past then true else not parallel && alone) then None else Some
        (landmark_of (if alone then construct ∷ outer else to_parallel outer depth)))
    by true e parallel false apart rest = absurd (let lt = ltb-true construct.depth depth e in true≢false
        (sym (alone-past outer construct.depth depth (omega (arith, lt)) nested.1) ∙ apart))
    by true e true true alone rest = pushed None rest ∙ ap (λ b. if b then Some last else None)
        (let lt = ltb-true construct.depth depth e in le-ltb depth (suc construct.depth) (omega (arith, lt)))
    by true e false true alone rest = rest
    by false e true true alone rest = pushed None rest ∙ ap (λ b. if b then Some last else None)
        (let le = ltb-false construct.depth depth e in lt-ltb depth (suc construct.depth) (omega (arith, le)))
    by false e false true alone rest = rest
    by false e true false apart rest = pushed (Some (landmark_of (to_parallel outer depth))) rest
    by false e false false apart rest = rest

-- ---- the listings up to there

all-within : (constructs : List Construct) (end : ℕ) (name : List ℕ) → AreNested constructs end
    → last_within (listings constructs name) end ≡ innermost_of (listings constructs name)
all-within [] end name nested = refl
all-within (construct ∷ outer) end name nested = by (lists construct.region name)
    (all-within outer end name (nested-deeper outer construct.depth end (omega (arith, nested.0)) nested.1))
  where
    last : Landmark
    last = listing (suc construct.depth) outer name

    by : (listed : Bool) → last_within (listings outer name) end ≡ innermost_of (listings outer name)
        → last_within (if listed then listings outer name ++ last ∷ [] else listings outer name) end ≡ innermost_of
        (if listed then listings outer name ++ last ∷ [] else listings outer name)
    by true rest =
        last-push (listings outer name) last end
        ∙ ap (λ b. option_or (if b then None else Some last) (last_within (listings outer name) end))
        (le-ltb end (suc construct.depth) nested.0)
        ∙ sym (innermost-last (listings outer name) last)
    by false rest = rest

listed-within : (constructs : List Construct) (end depth : ℕ) (name : List ℕ) → AreNested constructs end
    → last_within (listings constructs name) (end_of (to_parallel constructs depth)) ≡ innermost_of
    (listings (to_parallel constructs depth) name)
listed-within [] end depth name nested = refl
listed-within (construct ∷ outer) end depth name nested = by (alone_since outer depth)
    (listed-within outer construct.depth depth name nested.1)
  where
    last : Landmark
    last = listing (suc construct.depth) outer name

    further : (listed : Bool) → last_within (listings outer name) (end_of (to_parallel outer depth)) ≡ innermost_of
        (listings (to_parallel outer depth) name)
        → last_within (if listed then listings outer name ++ last ∷ [] else listings outer name)
        (end_of (to_parallel outer depth)) ≡ innermost_of (listings (to_parallel outer depth) name)
    further true rest =
        let below = end-below (to_parallel outer depth) construct.depth (to-nested outer construct.depth depth
        nested.1) in
        last-push (listings outer name) last (end_of (to_parallel outer depth))
        ∙ ap (λ b. option_or (if b then None else Some last) (last_within (listings outer name)
        (end_of (to_parallel outer depth))))
        (lt-ltb (end_of (to_parallel outer depth)) (suc construct.depth) (omega (arith, below)))
        ∙ rest
    further false rest = rest

    by : (alone : Bool) → last_within (listings outer name) (end_of (to_parallel outer depth)) ≡ innermost_of
        (listings (to_parallel outer depth) name)
        → last_within (listings (construct ∷ outer) name)
        (end_of (if alone then construct ∷ outer else to_parallel outer depth)) ≡ innermost_of
        (listings (if alone then construct ∷ outer else to_parallel outer depth) name)
    by true rest = all-within (construct ∷ outer) (suc construct.depth) name (omega arith, nested.1)
    by false rest = further (lists construct.region name) rest

-- ---- a copy

no-task : (region : Region) (name : List ℕ) → is_parallel region.kind ≡ true → is_task_without region name ≡ false
no-task region name parallel = by region.kind parallel
  where
    by : (kind : SharingKind) → is_parallel kind ≡ true
        → is_task_without (record { kind = kind; default = region.default; shared = region.shared }) name ≡ false
    by regions.Parallel e = refl
    by regions.Task e = absurd (true≢false (sym e))
    by regions.Plain e = refl

-- it is made where one that copies stands behind the depth
copied-mark : (constructs : List Construct) (end depth : ℕ) (name : List ℕ) → AreNested constructs end
    → nat_lt depth (innermost_without copies (to_parallel constructs depth) name) ≡ copied_since constructs depth name
copied-mark [] end depth name nested = le-ltb depth 0 (omega arith)
copied-mark (construct ∷ outer) end depth name nested =
    by (nat_lt construct.depth depth) refl (alone_since outer depth) refl
    (copied-mark outer construct.depth depth name nested.1)
  where
    without : ℕ
    without = innermost_without copies outer name

    never : (parallel task : Bool) → (task && (not parallel && false)) ≡ false
    never true true = refl
    never true false = refl
    never false true = refl
    never false false = refl

    by : (past : Bool) → nat_lt construct.depth depth ≡ past → (alone : Bool) → alone_since outer depth ≡ alone
        → nat_lt depth (innermost_without copies (to_parallel outer depth) name) ≡ copied_since outer depth name
        → nat_lt depth (innermost_without copies (if alone then construct ∷ outer else to_parallel outer depth) name)
        ≡ (if past then false else (is_task_without construct.region name
        && (if past then true else not (is_parallel construct.region.kind) && alone))
        || copied_since outer depth name)
    by true e true alone rest = le-ltb depth (innermost_without copies (construct ∷ outer) name)
        (let lt = ltb-true construct.depth depth e in let below = without-below copies (construct ∷ outer)
        (suc construct.depth) name (omega arith, nested.1) in omega (arith, lt, below))
    by true e false apart rest = absurd (let lt = ltb-true construct.depth depth e in true≢false
        (sym (alone-past outer construct.depth depth (omega (arith, lt)) nested.1) ∙ apart))
    by false e false apart rest = rest ∙ sym (ap (λ b. b || copied_since outer depth name)
        (never (is_parallel construct.region.kind) (is_task_without construct.region name)))
    by false e true alone rest = among (is_parallel construct.region.kind) (is_task_without construct.region name)
        (no-task construct.region name)
      where
        among : (parallel task : Bool) → (parallel ≡ true → task ≡ false)
            → nat_lt depth (if task then suc construct.depth else without) ≡ ((task && (not parallel && true))
            || copied_since outer depth name)
        among true true only = absurd (true≢false (only refl))
        among false true only = lt-ltb depth (suc construct.depth) (let le = ltb-false construct.depth depth e in
            omega (arith, le))
        among parallel false only = ap (λ cs. nat_lt depth (innermost_without copies cs name))
            (sym (to-all outer construct.depth depth nested.1 alone)) ∙ rest

-- by what is known of the outermost `parallel`
pub copied-behind : (constructs : List Construct) (end depth : ℕ) (name : List ℕ) (parallel : Landmark)
    → AreNested constructs end → first_deeper (parallels constructs) depth ≡ Some parallel
    → nat_lt depth (marks_behind (last_within (listings constructs name) parallel.depth) parallel.marks).copying
    ≡ copied_since constructs depth name
copied-behind constructs end depth name parallel nested is =
    subst (λ landmark. nat_lt depth (marks_behind (last_within (listings constructs name) landmark.depth)
    landmark.marks).copying ≡ copied_since constructs depth name)
    (same (alone_since constructs depth) (sym (first-parallel constructs end depth nested) ∙ is))
    (ap (λ marks. nat_lt depth marks.copying)
    (ap (λ listing. marks_behind listing (marks_of (to_parallel constructs depth)))
    (listed-within constructs end depth name nested)
    ∙ marks-without (to_parallel constructs depth) end name (to-nested constructs end depth nested))
    ∙ copied-mark constructs end depth name nested)
  where
    same : (alone : Bool) → (if alone then None else Some (landmark_of (to_parallel constructs depth)))
        ≡ Some parallel → landmark_of (to_parallel constructs depth) ≡ parallel
    same true e = cc
    same false e = cc

-- or where there is none
pub copied-alone : (constructs : List Construct) (end depth : ℕ) (name : List ℕ) → AreNested constructs end
    → first_deeper (parallels constructs) depth ≡ None
    → nat_lt depth (marks_without constructs name).copying ≡ copied_since constructs depth name
copied-alone constructs end depth name nested is =
    ap (λ cs. nat_lt depth (innermost_without copies cs name))
    (sym (to-all constructs end depth nested (alone (alone_since constructs depth)
    (sym (first-parallel constructs end depth nested) ∙ is))))
    ∙ copied-mark constructs end depth name nested
  where
    alone : (alone : Bool) → (if alone then None else Some (landmark_of (to_parallel constructs depth))) ≡ None
        → alone ≡ true
    alone true e = refl
    alone false e = cc

-- Places by name and part: those of one object are told from those of another as the objects are.
use Rattle.std.proofs.Common.{◌≡◌, refl, sym, ◌∙◌, ap, subst, Bool, true, false, cond, ◌&&◌, Option, None, Some, List, [], ℕ}
use Rattle.std.proofs.Common.{MutBor, Bor}
use Rattle.std.specs.Option.{option_copied, option_copied_mut}
use Rattle.std.specs.Prelude.{is_some, IsSome, Result, Ok, Err, OnErr}
use Rattle.std.specs.Map.{lookup}
use Rattle.std.specs.BTreeMap.{is_at}
use Rattle.std.specs.Ordering.{is_eq, nat_cmp, ordering_then}
use Rattle.std.specs.declared.cmp.Ordering.{Ordering}
use Rattle.std.specs.declared.cmp.Ordering.TheVariants.{Less, Equal, Greater}
use Rattle.std.specs.Cmp.Lexicographic.{slice_cmp, texts_ties}
use Rattle.om_foot.specs.declared.object.Obj.{Obj}
use Rattle.om_foot.specs.declared.object.Obj.TheVariants as obj
use Rattle.om_foot.specs.Footprint.{obj_eq}
use Rattle.om_foot.specs.Objects.{cmp-is_eq}
use Rattle.om_foot.specs.Below.{same_list}
use Rattle.om_foot.specs.declared.part.Part.{Part}
use Rattle.om_foot.specs.contracts.part.PartOrd.TheImpl.{cmp-value}
use Rattle.om_state.specs.declared.value.Val.{Val}
use Rattle.om_foot.specs.Parts.{name_of, part_of}
use Rattle.om_cells.specs.Places.{Places, value_at, PutsAt, StaysAt}
use Rattle.om_cells.specs.Named.{Named, value_among, value_of, PutsOf, StaysOf}
use Rattle.om_cells.specs.Stores.{places_in, kept_in}

abbrev pub same_name : List ℕ → List ℕ → Bool
same_name m n = is_at (slice_cmp nat_cmp m) n

-- whether two names, or the lack of one, are the same
abbrev pub same_names : Option (List ℕ) → Option (List ℕ) → Bool
same_names None None = true
same_names (Some m) (Some n) = same_name m n
same_names None (Some n) = false
same_names (Some m) None = false

abbrev pub same_part : Part → Part → Bool
same_part p q = is_at (cmp-value.it p) q

then_is : (o p : Ordering) → is_eq o && is_eq p ≡ is_eq (ordering_then o p)
then_is Less p = refl
then_is Equal p = refl
then_is Greater p = refl

and_true : (b : Bool) → b && true ≡ b
and_true true = refl
and_true false = refl

and_no : (b c : Bool) → c ≡ false → b && c ≡ false
and_no true c h = h
and_no false c h = refl

-- so are their objects
pub same_object : (k q : Obj) → same_names (name_of k) (name_of q) && same_part (part_of k) (part_of q) ≡ obj_eq k q
same_object (obj.Control a) (obj.Control b) = cmp-is_eq (obj.Control a) (obj.Control b)
same_object (obj.Cell t f s i) (obj.Cell t2 f2 s2 i2) =
    then_is (slice_cmp nat_cmp t t2) (cmp-value.it (part_of (obj.Cell t f s i)) (part_of (obj.Cell t2 f2 s2 i2)))
    ∙ cmp-is_eq (obj.Cell t f s i) (obj.Cell t2 f2 s2 i2)
same_object (obj.Global g i) (obj.Global g2 i2) = cmp-is_eq (obj.Global g i) (obj.Global g2 i2)
same_object (obj.Task t) (obj.Task t2) = and_true (same_name t t2) ∙ cmp-is_eq (obj.Task t) (obj.Task t2)
same_object (obj.Kids t) (obj.Kids t2) = and_true (same_name t t2) ∙ cmp-is_eq (obj.Kids t) (obj.Kids t2)
same_object (obj.Pending t p) (obj.Pending t2 p2) =
    then_is (slice_cmp nat_cmp t t2) (nat_cmp p p2) ∙ cmp-is_eq (obj.Pending t p) (obj.Pending t2 p2)
same_object (obj.Arrived t n) (obj.Arrived t2 n2) =
    then_is (slice_cmp nat_cmp t t2) (nat_cmp n n2) ∙ cmp-is_eq (obj.Arrived t n) (obj.Arrived t2 n2)
same_object (obj.Work t r) (obj.Work t2 r2) =
    then_is (slice_cmp nat_cmp t t2) (nat_cmp r r2) ∙ cmp-is_eq (obj.Work t r) (obj.Work t2 r2)
same_object (obj.Lock l) (obj.Lock l2) = cmp-is_eq (obj.Lock l) (obj.Lock l2)
same_object (obj.Group g) (obj.Group g2) = and_true (same_name g g2) ∙ cmp-is_eq (obj.Group g) (obj.Group g2)
same_object obj.Output obj.Output = refl
same_object (obj.Events w) (obj.Events w2) = cmp-is_eq (obj.Events w) (obj.Events w2)
same_object k q = and_no (same_names (name_of k) (name_of q)) (same_part (part_of k) (part_of q)) refl

pub name_is : (m n : List ℕ) → same_name m n ≡ true → m ≡ n
name_is m n h = (same_list m n).0 (texts_ties m n ∙ h)

pub same_name-self : (m : List ℕ) → same_name m m ≡ true
same_name-self m = sym (texts_ties m m) ∙ (same_list m m).1 refl

-- a value that is put among the objects without a name

unnamed_at : (u w : Places) (es : Named) (p : Part) (v : Option Val) → PutsAt p v u w → (o : Option (List ℕ)) (r : Part)
    → value_among (places_in w es o) r
    ≡ cond (same_names None o && same_part p r) v (value_among (places_in u es o) r)
unnamed_at u w es p v puts None r = puts r
unnamed_at u w es p v puts (Some m) r = refl

pub put_unnamed : (u w : Places) (es : Named) (k : Obj) (v : Option Val) → name_of k ≡ None → PutsAt (part_of k) v u w
    → (q : Obj) → kept_in w es q ≡ cond (obj_eq k q) v (kept_in u es q)
put_unnamed u w es k v none puts q =
    unnamed_at u w es (part_of k) v puts (name_of q) (part_of q)
    ∙ ap (λ o. cond (same_names o (name_of q) && same_part (part_of k) (part_of q)) v (kept_in u es q)) (sym none)
    ∙ ap (λ b. cond b v (kept_in u es q)) (same_object k q)

stay_at : (u w : Places) (es : Named) → StaysAt u w → (o : Option (List ℕ)) (r : Part)
    → value_among (places_in w es o) r ≡ value_among (places_in u es o) r
stay_at u w es stays None r = stays r
stay_at u w es stays (Some m) r = refl

pub stay_unnamed : (u w : Places) (es : Named) → StaysAt u w → (q : Obj) → kept_in w es q ≡ kept_in u es q
stay_unnamed u w es stays q = stay_at u w es stays (name_of q) (part_of q)

-- and among those of a name

-- fs is es with w at n
abbrev pub Renames : Named → Named → List ℕ → Places → Type 0
Renames es fs n w = (m : List ℕ) → lookup (same_name m) fs ≡ cond (same_name n m) (Some w) (lookup (same_name m) es)

pub puts_of : (es fs : Named) (n : List ℕ) (p : Part) (v : Option Val) (old w : Places)
    → lookup (same_name n) es ≡ Some old → Renames es fs n w → PutsAt p v old w → PutsOf n p v es fs
puts_of es fs n p v old w there renames puts m r = ap (λ x. value_among x r) (renames m) ∙ go (same_name n m) refl
  where
    go : (b : Bool) → same_name n m ≡ b → value_among (cond b (Some w) (lookup (same_name m) es)) r
        ≡ cond (b && same_part p r) v (value_among (lookup (same_name m) es) r)
    go false is = refl
    go true is = puts r ∙ ap (λ x. cond (same_part p r) v (value_among x r))
        (sym there ∙ ap (λ j. lookup (same_name j) es) (name_is n m is))

pub stays_of : (es fs : Named) (n : List ℕ) (old w : Places) → lookup (same_name n) es ≡ Some old
    → Renames es fs n w → StaysAt old w → StaysOf es fs
stays_of es fs n old w there renames stays m r = ap (λ x. value_among x r) (renames m) ∙ go (same_name n m) refl
  where
    go : (b : Bool) → same_name n m ≡ b → value_among (cond b (Some w) (lookup (same_name m) es)) r
        ≡ value_among (lookup (same_name m) es) r
    go false is = refl
    go true is = stays r ∙ ap (λ x. value_among x r)
        (sym there ∙ ap (λ j. lookup (same_name j) es) (name_is n m is))

-- a name that gets to be known has no value
pub known_of : (es fs : Named) (n : List ℕ) (w : Places) → is_some (lookup (same_name n) es) ≡ false
    → Renames es fs n w → ((r : Part) → value_at w r ≡ None) → StaysOf es fs
known_of es fs n w none renames new m r = ap (λ x. value_among x r) (renames m) ∙ go (same_name n m) refl
  where
    absent : (o : Option Places) → is_some o ≡ false → value_among o r ≡ None
    absent None e = refl
    absent (Some y) e = cc

    go : (b : Bool) → same_name n m ≡ b → value_among (cond b (Some w) (lookup (same_name m) es)) r
        ≡ value_among (lookup (same_name m) es) r
    go false is = refl
    go true is = new r ∙ sym (absent (lookup (same_name m) es)
        (ap (λ j. is_some (lookup (same_name j) es)) (sym (name_is n m is)) ∙ none))

-- where a name is not known, nothing is kept at its parts
pub none_of : (es : Named) (n : List ℕ) (p : Part) → lookup (same_name n) es ≡ None → PutsOf n p None es es
none_of es n p absent m r = go (same_name n m) refl
  where
    none : (b : Bool) (o : Option Val) → o ≡ None → o ≡ cond b None o
    none true o h = h
    none false o h = refl

    go : (b : Bool) → same_name n m ≡ b → value_of es m r ≡ cond (b && same_part p r) None (value_of es m r)
    go false is = refl
    go true is = none (same_part p r) (value_of es m r)
        (ap (λ o. value_among o r) (ap (λ j. lookup (same_name j) es) (sym (name_is n m is)) ∙ absent))

-- and so at the objects of a name

puts_at : (u : Places) (es fs : Named) (n : List ℕ) (p : Part) (v : Option Val) → PutsOf n p v es fs
    → (o : Option (List ℕ)) (r : Part)
    → value_among (places_in u fs o) r
    ≡ cond (same_names (Some n) o && same_part p r) v (value_among (places_in u es o) r)
puts_at u es fs n p v puts None r = refl
puts_at u es fs n p v puts (Some m) r = puts m r

pub put_named : (u : Places) (es fs : Named) (n : List ℕ) (p : Part) (v : Option Val) → PutsOf n p v es fs
    → (k : Obj) → name_of k ≡ Some n → p ≡ part_of k
    → (q : Obj) → kept_in u fs q ≡ cond (obj_eq k q) v (kept_in u es q)
put_named u es fs n p v puts k named parted q =
    puts_at u es fs n p v puts (name_of q) (part_of q)
    ∙ (λ i. cond (same_names (sym named i) (name_of q) && same_part (parted i) (part_of q)) v (kept_in u es q))
    ∙ ap (λ b. cond b v (kept_in u es q)) (same_object k q)

pub stay_named : (u : Places) (es fs : Named) → StaysOf es fs → (q : Obj) → kept_in u fs q ≡ kept_in u es q
stay_named u es fs stays q = go (name_of q) (part_of q)
  where
    go : (o : Option (List ℕ)) (r : Part) → value_among (places_in u fs o) r ≡ value_among (places_in u es o) r
    go None r = refl
    go (Some m) r = stays m r

pub known_there : (es fs : Named) (n : List ℕ) (w : Places) → Renames es fs n w
    → is_some (lookup (same_name n) fs) ≡ true
known_there es fs n w renames = ap is_some (renames n)
    ∙ ap (λ b. is_some (cond b (Some w) (lookup (same_name n) es))) (same_name-self n)

-- what `get_mut` found
pub name_found : (es : Named) (n : List ℕ) (w : Places) → Some w ≡ lookup (same_name n) es → IsSome (lookup (same_name n) es)
name_found es n w h = subst IsSome h refl

pub name_missing : (es : Named) (n : List ℕ) (r : Option (MutBor Places)) → option_copied_mut r
    ≡ lookup (same_name n) es → r ≡ None → is_some (lookup (same_name n) es) ≡ true → ⊥
name_missing es n r h e known = let no : is_some (lookup (same_name n) es) ≡ false =
    ap is_some (sym h ∙ ap option_copied_mut e) in cc

abbrev Kept : Type 0
Kept = List (Part × Val)

pub part_found : (es : Kept) (p : Part) (v : Val) → Some v ≡ lookup (same_part p) es → IsSome (lookup (same_part p) es)
part_found es p v h = subst IsSome h refl

pub part_missing : (es : Kept) (p : Part) (r : Option (MutBor Val)) → option_copied_mut r
    ≡ lookup (same_part p) es → r ≡ None → is_some (lookup (same_part p) es) ≡ true → ⊥
part_missing es p r h e kept = let no : is_some (lookup (same_part p) es) ≡ false =
    ap is_some (sym h ∙ ap option_copied_mut e) in cc

-- where a value is kept, its name is known
pub value_known : (o : Option Places) (p : Part) → is_some (value_among o p) ≡ true → is_some o ≡ true
value_known None p h = cc
value_known (Some ps) p h = refl

pub value_in : (o : Option Places) (ps : Places) (p : Part) → Some ps ≡ o → value_at ps p ≡ value_among o p
value_in o ps p h = ap (λ x. value_among x p) h

-- where no name is known, and nothing without one is kept, nothing is
pub none_kept : (u : Places) (es : Named) → ((r : Part) → value_at u r ≡ None) → es ≡ [] → (q : Obj)
    → kept_in u es q ≡ None
none_kept u es none empty q = go (name_of q) (part_of q)
  where
    go : (o : Option (List ℕ)) (r : Part) → value_among (places_in u es o) r ≡ None
    go None r = none r
    go (Some n) r = ap (λ fs. value_among (lookup (same_name n) fs) r) empty

-- what is asked of an object by its name and part

pub owner_none : (r : Option (Bor (List ℕ))) (o : Option (List ℕ)) → option_copied r ≡ o → r ≡ None → o ≡ None
owner_none r o h e = sym h ∙ ap option_copied e

pub owner_some : (r : Option (Bor (List ℕ))) (o : Option (List ℕ)) (n : Bor (List ℕ)) → option_copied r ≡ o → r ≡ Some n
    → o ≡ Some n.now
owner_some r o n h e = sym h ∙ ap option_copied e

pub kept_unnamed : (u : Places) (es : Named) (q : Obj) (p : Part) → name_of q ≡ None → p ≡ part_of q
    → value_at u p ≡ kept_in u es q
kept_unnamed u es q p none parted =
    (λ i. value_among (places_in u es (sym none i)) (parted i))

pub kept_named : (u : Places) (es : Named) (q : Obj) (n : List ℕ) (p : Part) → name_of q ≡ Some n → p ≡ part_of q
    → value_of es n p ≡ kept_in u es q
kept_named u es q n p named parted =
    (λ i. value_among (places_in u es (sym named i)) (parted i))

pub puts_part : (p r : Part) (v : Option Val) (u w : Places) → p ≡ r → PutsAt p v u w → PutsAt r v u w
puts_part p r v u w e h = subst (λ x. PutsAt x v u w) e h

-- the same entries in their places
pub stays_as : {T E : Type 0} (r : Result T E) (old new : Places) → new ≡ old
    → OnErr r (StaysAt old new)
stays_as (Ok v) old new same = tt
stays_as (Err e) old new same = λ q. ap (lookup (same_part q)) same

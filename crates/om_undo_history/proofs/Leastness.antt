-- The members of a roll are the cone, and undos that take an entry out have taken out its cone.
use Rattle.std.proofs.Common.{◌≡◌, refl, sym, ◌∙◌, ap, subst, Bool, true, false, cond, Option, None, Some, List, []}
use Rattle.std.proofs.Common.{◌∷◌, ◌++◌, ℕ, ◌<◌, ◌==◌, ◌⊎◌, inl, inr, ⊎_elim, arith, eq-eqb}
use Rattle.std.specs.Prelude.{is_some, Contains}
use Rattle.std.proofs.lemmas.Bool.{true≢false}
use Rattle.std.proofs.lemmas.Bool.Decides.{Decides-eqb}
use Rattle.std.proofs.lemmas.List.Elements.{Contains-append_left, Contains-append_right, Contains-push}
use Rattle.std.proofs.lemmas.List.Elements.{Contains-push_cases}
use Rattle.om_foot.specs.declared.object.Obj.{Obj}
use Rattle.om_foot.specs.Footprint.{conflict_of}
use Rattle.om_undo_history.specs.Laws.{Apart}
use Rattle.om_undo_history.specs.Cones.{Transition, InCone, itself, follows, meets_one, is_member, cone_after, rest_after}
use Rattle.om_undo_history.specs.Cones.{cone}
use Rattle.om_undo_history.specs.Commands.{Rise}
use Rattle.om_undo_history.specs.declared.records.UndoRecord.{UndoRecord}
use Rattle.om_undo_history.specs.Records.{entries_of, transitions_of}
use Rattle.om_undo_history.proofs.Membership.{Contains-cases, Contains-none, Contains-first, Contains-rest, Contains-but_one}
use Rattle.om_undo_history.proofs.Rising.{Ascends, ascends_each}
use Rattle.om_undo_history.proofs.Rolls.{cond_false}

-- serials rise above a number
abbrev pub Above : ℕ → List Transition → Type 0
Above low ts = Ascends (λ (t : Transition). t.entry.serial) low ts

pub Rise-above : (low high : ℕ) (ks : List UndoRecord) → Rise low (entries_of ks) high → Above low (transitions_of ks)
Rise-above low high [] h = tt
Rise-above low high (k ∷ ks) h = (h.0, Rise-above k.entry.serial high ks h.1)

above_each : (low : ℕ) (ts : List Transition) (t : Transition) → Above low ts → Contains ts t → low < t.entry.serial
above_each low ts t h at = ascends_each (λ (x : Transition). x.entry.serial) low ts t h at

-- a conflict with one of these

pub record MetOne (members : List Transition) (b : Transition) : Type 0 where
  pub one : Transition
  pub there : Contains members one
  pub not_apart : ¬ Apart one.footprint b.footprint

some_not_none : (o : Option Obj) → is_some o ≡ true → o ≡ None → ⊥
some_not_none None h e = true≢false (sym h)
some_not_none (Some q) h e = cc

none_not_some : (o : Option Obj) → ¬ (o ≡ None) → is_some o ≡ true
none_not_some None h = absurd (h refl)
none_not_some (Some q) h = refl

met_either : (m : Transition) (ms : List Transition) (b : Transition) (p : Bool)
    → is_some (conflict_of m.footprint b.footprint) ≡ p → (meets_one ms b ≡ true → MetOne ms b)
    → cond p true (meets_one ms b) ≡ true → MetOne (m ∷ ms) b
met_either m ms b true is ih h =
    record {
      one = m;
      there = Contains-first m ms;
      not_apart = some_not_none (conflict_of m.footprint b.footprint) is;
    }
met_either m ms b false is ih h = let x : MetOne ms b =
    ih h in record { one = x.one; there = Contains-rest m ms x.one x.there; not_apart = x.not_apart }

met_one : (members : List Transition) (b : Transition) → meets_one members b ≡ true → MetOne members b
met_one [] b h = absurd (true≢false (sym h))
met_one (m ∷ ms) b h = met_either m ms b (is_some (conflict_of m.footprint b.footprint)) refl (met_one ms b) h

true_or : (p : Bool) → cond p true true ≡ true
true_or true = refl
true_or false = refl

meets : (members : List Transition) (a b : Transition) → Contains members a → ¬ Apart a.footprint b.footprint
    → meets_one members b ≡ true
meets [] a b h g = absurd (Contains-none a h)
meets (m ∷ ms) a b h g =
    ⊎_elim (λ is. ap (λ p. cond p true (meets_one ms b))
    (none_not_some (conflict_of m.footprint b.footprint)
    (subst (λ (x : Transition). ¬ Apart x.footprint b.footprint) (sym is) g)))
    (λ rest. ap (λ q. cond (is_some (conflict_of m.footprint b.footprint)) true q) (meets ms a b rest g)
    ∙ true_or (is_some (conflict_of m.footprint b.footprint)))
    (Contains-cases m ms a h)

-- the members are in the cone

cond_true : (p q : Bool) → cond p true q ≡ true → (p ≡ true) ⊎ (q ≡ true)
cond_true true q h = inl refl
cond_true false q h = inr h

record IsBefore (ts : List Transition) (serial : ℕ) (rest : List Transition) (a : Transition) : Type 0 where
  in_cone : InCone ts serial a
  stands : Contains ts a
  earlier : (b : Transition) → Contains rest b → a.entry.serial < b.entry.serial

member_in_cone : (ts : List Transition) (serial : ℕ) (members : List Transition) (u : Transition)
    (us : List Transition) → Contains ts u → ((a : Transition) → Contains members a → IsBefore ts serial (u ∷ us) a)
    → is_member serial members u ≡ true → InCone ts serial u
member_in_cone ts serial members u us stands before h =
    ⊎_elim (λ own. itself u stands ((Decides-eqb u.entry.serial serial).0 own))
    (λ meets. let x : MetOne members u = met_one members u meets in let a : IsBefore ts serial (u ∷ us) x.one =
    before x.one x.there in
    follows x.one u a.in_cone
    (record {
      first = a.stands;
      second = stands;
      later = a.earlier u (Contains-first u us);
      not_apart = x.not_apart;
    }))
    (cond_true (u.entry.serial == serial) (meets_one members u) h)

in_cone_either : (ts : List Transition) (serial : ℕ) (u : Transition) (b : Bool) (x y : List Transition)
    (t : Transition) → (b ≡ true → InCone ts serial u) → (b ≡ true → Contains x t → InCone ts serial t)
    → (Contains y t → InCone ts serial t) → Contains (cond b (u ∷ x) y) t → InCone ts serial t
in_cone_either ts serial u true x y t here h g at = ⊎_elim (λ is. subst (InCone ts serial) is (here refl))
    (λ rest. h refl rest) (Contains-cases u x t at)
in_cone_either ts serial u false x y t here h g at = g at

cone_sound : (ts : List Transition) (serial low : ℕ) (members rest : List Transition)
    → ((t : Transition) → Contains rest t → Contains ts t)
    → ((a : Transition) → Contains members a → IsBefore ts serial rest a) → Above low rest
    → (t : Transition) → Contains (cone_after serial members rest) t → InCone ts serial t
cone_sound ts serial low members [] all before above t h = absurd (Contains-none t h)
cone_sound ts serial low members (u ∷ us) all before above t h =
    let stands : Contains ts u = all u (Contains-first u us) in
    let all_us : (x : Transition) → Contains us x → Contains ts x = λ x g. all x (Contains-rest u us x g) in
    let still : (a : Transition) → Contains members a → IsBefore ts serial us a =
    λ a g. record {
      in_cone = (before a g).in_cone;
      stands = (before a g).stands;
      earlier = λ b k. (before a g).earlier b (Contains-rest u us b k);
    } in
    let own : is_member serial members u ≡ true
    → InCone ts serial u = member_in_cone ts serial members u us stands before in
    in_cone_either ts serial u (is_member serial members u) (cone_after serial (members ++ u ∷ []) us)
    (cone_after serial members us) t own
    (λ is. cone_sound ts serial u.entry.serial (members ++ u ∷ []) us all_us
    (λ a g. ⊎_elim (λ old. still a old)
    (λ new. subst (IsBefore ts serial us) new
    (record { in_cone = own is; stands = stands; earlier = λ b k. above_each u.entry.serial us b above.1 k }))
    (Contains-push_cases members u a g))
    above.1 t)
    (cone_sound ts serial u.entry.serial members us all_us still above.1 t) h

-- and all of the cone are members

of_cond : (b : Bool) (u : Transition) (x y us : List Transition) (t : Transition) → (Contains x t → Contains us t)
    → (Contains y t → Contains us t) → Contains (cond b (u ∷ x) y) t → Contains (u ∷ us) t
of_cond true u x y us t h g at = ⊎_elim (λ is. subst (Contains (u ∷ us)) is (Contains-first u us))
    (λ rest. Contains-rest u us t (h rest)) (Contains-cases u x t at)
of_cond false u x y us t h g at = Contains-rest u us t (g at)

cone_among : (serial : ℕ) (members ts : List Transition) (t : Transition) → Contains (cone_after serial members ts) t
    → Contains ts t
cone_among serial members [] t h = h
cone_among serial members (u ∷ us) t h =
    of_cond (is_member serial members u) u (cone_after serial (members ++ u ∷ []) us) (cone_after serial members us)
    us t (cone_among serial (members ++ u ∷ []) us t) (cone_among serial members us t) h

-- what the first of some transitions gives, by whether it is a member
into_cond : (b : Bool) (u : Transition) (x y : List Transition) (t : Transition) → (b ≡ true → (u ≡ t) ⊎ Contains x t)
    → (b ≡ false → Contains y t) → Contains (cond b (u ∷ x) y) t
into_cond true u x y t h g = ⊎_elim (λ is. subst (Contains (u ∷ x)) is (Contains-first u x))
    (λ rest. Contains-rest u x t rest) (h refl)
into_cond false u x y t h g = g refl

pub has_itself : (serial : ℕ) (members ts : List Transition) (t : Transition) → Contains ts t
    → t.entry.serial ≡ serial → Contains (cone_after serial members ts) t
has_itself serial members [] t h is = absurd (Contains-none t h)
has_itself serial members (u ∷ us) t h is =
    ⊎_elim
    (λ same. let own : is_member serial members u ≡ true = ap (λ p. cond p true (meets_one members u))
    (eq-eqb u.entry.serial serial (ap (λ (x : Transition). x.entry.serial) same ∙ is)) in
    into_cond (is_member serial members u) u (cone_after serial (members ++ u ∷ []) us) (cone_after serial members us)
    t (λ _. inl same) (λ no. absurd (true≢false (sym own ∙ no))))
    (λ rest. into_cond (is_member serial members u) u (cone_after serial (members ++ u ∷ []) us)
    (cone_after serial members us) t
    (λ _. inr (has_itself serial (members ++ u ∷ []) us t rest is)) (λ _. has_itself serial members us t rest is))
    (Contains-cases u us t h)

-- a member, so far or among the rest
abbrev IsIn : ℕ → List Transition → List Transition → Transition → Type 0
IsIn serial members rest a = Contains members a ⊎ Contains (cone_after serial members rest) a

in_with : (b : Bool) (serial : ℕ) (members : List Transition) (u : Transition) (us : List Transition) (a : Transition)
    → b ≡ true → Contains members a ⊎ Contains
    (cond b (u ∷ cone_after serial (members ++ u ∷ []) us) (cone_after serial members us)) a
    → IsIn serial (members ++ u ∷ []) us a
in_with true serial members u us a is h =
    ⊎_elim (λ old. inl (Contains-append_left members (u ∷ []) a old))
    (λ new. ⊎_elim (λ same. inl (subst (Contains (members ++ u ∷ [])) same (Contains-push members u)))
    (λ rest. inr rest) (Contains-cases u (cone_after serial (members ++ u ∷ []) us) a new)) h
in_with false serial members u us a is h = absurd (true≢false (sym is))

in_without : (b : Bool) (serial : ℕ) (members : List Transition) (u : Transition) (us : List Transition)
    (a : Transition) → b ≡ false → Contains members a ⊎ Contains
    (cond b (u ∷ cone_after serial (members ++ u ∷ []) us) (cone_after serial members us)) a
    → IsIn serial members us a
in_without true serial members u us a is h = absurd (true≢false is)
in_without false serial members u us a is h = h

-- the members are closed: with each of them, every later transition that conflicts with it
cone_closed : (serial low : ℕ) (members rest : List Transition) (a b : Transition) → Above low rest
    → IsIn serial members rest a → Contains rest b → a.entry.serial < b.entry.serial → ¬ Apart a.footprint b.footprint
    → Contains (cone_after serial members rest) b
cone_closed serial low members [] a b above h g later not_apart = absurd (Contains-none b g)
cone_closed serial low members (u ∷ us) a b above h g later not_apart =
    let m : Bool = is_member serial members u in
    let x : List Transition = cone_after serial (members ++ u ∷ []) us in
    let y : List Transition = cone_after serial members us in
    ⊎_elim
    (λ same. into_cond m u x y b (λ _. inl same)
    (λ no. absurd
    (⊎_elim
    (λ old. true≢false
    (sym
    (meets members a u old (subst (λ (z : Transition). ¬ Apart a.footprint z.footprint) (sym same) not_apart))
    ∙ (cond_false (u.entry.serial == serial) (meets_one members u) no).1))
    (λ new. let more : u.entry.serial < a.entry.serial = above_each u.entry.serial us a above.1
    (cone_among serial members us a new) in
    let is : u.entry.serial ≡ b.entry.serial = ap (λ (z : Transition). z.entry.serial) same in
    omega arith)
    (in_without m serial members u us a no h))))
    (λ rest. into_cond m u x y b
    (λ yes. inr (cone_closed serial u.entry.serial (members ++ u ∷ []) us a b above.1
    (in_with m serial members u us a yes h) rest later not_apart))
    (λ no. cone_closed serial u.entry.serial members us a b above.1 (in_without m serial members u us a no h) rest
    later not_apart))
    (Contains-cases u us b g)

cone_complete : (serial low : ℕ) (ts : List Transition) → Above low ts → (t : Transition) → InCone ts serial t
    → Contains (cone serial ts) t
cone_complete serial low ts above t (itself a stands is) = has_itself serial [] ts t stands is
cone_complete serial low ts above t (follows a b member conflict) =
    cone_closed serial low [] ts a t above (inr (cone_complete serial low ts above a member)) conflict.second
    conflict.later conflict.not_apart

pub cone_in : (serial low : ℕ) (ts : List Transition) → Above low ts → (t : Transition) → Contains (cone serial ts) t
    → InCone ts serial t
cone_in serial low ts above t h = cone_sound ts serial low [] ts (λ x g. g) (λ a g. absurd (Contains-none a g)) above
    t h

pub in_cone : (serial low : ℕ) (ts : List Transition) → Above low ts → (t : Transition) → InCone ts serial t
    → Contains (cone serial ts) t
in_cone serial low ts above t h = cone_complete serial low ts above t h

-- what is left is what is no member

rest_either : (b : Bool) (u : Transition) (p q us : List Transition) (t : Transition) → (Contains p t → Contains us t)
    → (Contains q t → Contains us t) → Contains (cond b p (u ∷ q)) t → Contains (u ∷ us) t
rest_either true u p q us t h g at = Contains-rest u us t (h at)
rest_either false u p q us t h g at = ⊎_elim (λ is. subst (Contains (u ∷ us)) is (Contains-first u us))
    (λ rest. Contains-rest u us t (g rest)) (Contains-cases u q t at)

pub rest_among : (serial : ℕ) (members ts : List Transition) (t : Transition)
    → Contains (rest_after serial members ts) t → Contains ts t
rest_among serial members [] t h = h
rest_among serial members (u ∷ us) t h =
    rest_either (is_member serial members u) u (rest_after serial (members ++ u ∷ []) us)
    (rest_after serial members us) us t (rest_among serial (members ++ u ∷ []) us t)
    (rest_among serial members us t) h

one_by : (b : Bool) (u : Transition) (x y p q : List Transition) (t : Transition)
    → (u ≡ t) ⊎ ((Contains x t ⊎ Contains p t) × (Contains y t ⊎ Contains q t))
    → Contains (cond b (u ∷ x) y) t ⊎ Contains (cond b p (u ∷ q)) t
one_by true u x y p q t h = ⊎_elim (λ is. inl (subst (Contains (u ∷ x)) is (Contains-first u x)))
    (λ both. ⊎_elim (λ a. inl (Contains-rest u x t a)) (λ b. inr b) both.0) h
one_by false u x y p q t h = ⊎_elim (λ is. inr (subst (Contains (u ∷ q)) is (Contains-first u q)))
    (λ both. ⊎_elim (λ a. inl a) (λ b. inr (Contains-rest u q t b)) both.1) h

pub one_of : (serial : ℕ) (members ts : List Transition) (t : Transition) → Contains ts t
    → Contains (cone_after serial members ts) t ⊎ Contains (rest_after serial members ts) t
one_of serial members [] t h = inl h
one_of serial members (u ∷ us) t h =
    one_by (is_member serial members u) u (cone_after serial (members ++ u ∷ []) us) (cone_after serial members us)
    (rest_after serial (members ++ u ∷ []) us) (rest_after serial members us) t
    (⊎_elim (λ is. inl is)
    (λ rest. inr (one_of serial (members ++ u ∷ []) us t rest, one_of serial members us t rest))
    (Contains-cases u us t h))

no_two_by : (b : Bool) (u : Transition) (x y p q us : List Transition) (t : Transition)
    → (Contains x t → Contains p t → ⊥) → (Contains y t → Contains q t → ⊥) → (u ≡ t → Contains us t → ⊥)
    → (Contains p t → Contains us t) → (Contains y t → Contains us t)
    → Contains (cond b (u ∷ x) y) t → Contains (cond b p (u ∷ q)) t → ⊥
no_two_by true u x y p q us t h g own from_p from_y a b = ⊎_elim (λ is. own is (from_p b)) (λ rest. h rest b)
    (Contains-cases u x t a)
no_two_by false u x y p q us t h g own from_p from_y a b = ⊎_elim (λ is. own is (from_y a)) (λ rest. g a rest)
    (Contains-cases u q t b)

pub no_two : (serial low : ℕ) (members ts : List Transition) (t : Transition) → Above low ts
    → Contains (cone_after serial members ts) t → Contains (rest_after serial members ts) t → ⊥
no_two serial low members [] t above a b = Contains-none t a
no_two serial low members (u ∷ us) t above a b =
    no_two_by (is_member serial members u) u (cone_after serial (members ++ u ∷ []) us) (cone_after serial members us)
    (rest_after serial (members ++ u ∷ []) us) (rest_after serial members us) us t
    (no_two serial u.entry.serial (members ++ u ∷ []) us t above.1)
    (no_two serial u.entry.serial members us t above.1)
    (λ is rest. let more : u.entry.serial < t.entry.serial =
    above_each u.entry.serial us t above.1 rest in let same : u.entry.serial ≡ t.entry.serial =
    ap (λ (z : Transition). z.entry.serial) is in omega arith)
    (rest_among serial (members ++ u ∷ []) us t) (cone_among serial members us t) a b

-- the cone without one transition with which no later one conflicts

pub InCone-stands : (ts : List Transition) (serial : ℕ) (t : Transition) → InCone ts serial t → Contains ts t
InCone-stands ts serial t (itself a stands is) = stands
InCone-stands ts serial t (follows a b member conflict) = conflict.second

-- what was made after a transition stands behind it
pub stands_behind : (low : ℕ) (before : List Transition) (k : Transition) (later : List Transition) (t : Transition)
    → Above low (before ++ k ∷ later) → Contains (before ++ k ∷ later) t → k.entry.serial < t.entry.serial
    → Contains later t
stands_behind low [] k later t above h more =
    ⊎_elim (λ is. let same : k.entry.serial ≡ t.entry.serial = ap (λ (z : Transition). z.entry.serial) is in absurd
    (omega arith)) (λ rest. rest) (Contains-cases k later t h)
stands_behind low (x ∷ xs) k later t above h more =
    ⊎_elim
    (λ is. let same : x.entry.serial ≡ t.entry.serial = ap (λ (z : Transition). z.entry.serial) is in
    let less : x.entry.serial < k.entry.serial = above_each x.entry.serial (xs ++ k ∷ later) k above.1
    (Contains-append_right xs (k ∷ later) k (Contains-first k later)) in absurd (omega arith))
    (λ rest. stands_behind x.entry.serial xs k later t above.1 rest more) (Contains-cases x (xs ++ k ∷ later) t h)

abbrev Stays : ℕ → List Transition → Transition → List Transition → Transition → Type 0
Stays serial before k later t = InCone (before ++ later) serial t ⊎ (t ≡ k)

pub stays : (serial low : ℕ) (before : List Transition) (k : Transition) (later : List Transition)
    → Above low (before ++ k ∷ later) → ((x : Transition) → Contains later x → Apart k.footprint x.footprint)
    → (t : Transition) → InCone (before ++ k ∷ later) serial t → InCone (before ++ later) serial t ⊎ (t ≡ k)
stays serial low before k later above none t (itself a stands is) =
    ⊎_elim (λ same. inr same) (λ rest. inl (itself t rest is)) (Contains-but_one before k later t stands)
stays serial low before k later above none t (follows a b member conflict) =
    ⊎_elim
    (λ same. inr same)
    (λ rest. ⊎_elim
    (λ kept. inl
    (follows a t kept
    (record {
      first = InCone-stands (before ++ later) serial a kept;
      second = rest;
      later = conflict.later;
      not_apart = conflict.not_apart;
    })))
    (λ was. absurd (conflict.not_apart
    (subst (λ (z : Transition). Apart z.footprint t.footprint) (sym was)
    (none t (stands_behind low before k later t above conflict.second
    (subst (λ (z : Transition). z.entry.serial < t.entry.serial) was conflict.later))))))
    (stays serial low before k later above none a member))
    (Contains-but_one before k later t conflict.second)

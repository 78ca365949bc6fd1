-- A table that is searched by a map beside it, behind one more thing.
use Rattle.std.proofs.Common.{◌≡◌, ℕ, suc, ◌+◌, Bool, true, false, ◌||◌, cond, Option, None, Some, List, [], ◌∷◌, ◌++◌}
use Rattle.std.proofs.Common.{length, nat_eq, refl, sym, ap, subst, arith, ◌∙◌, if◌then◌else◌, is_some, Vec}
use Rattle.std.proofs.lemmas.Bool.Decides.{nat_tests, Decides-eqb}
use Rattle.std.proofs.lemmas.Map.Text.{is_eq-slice_cmp}
use Rattle.std.proofs.lemmas.Slice.Eq.{bytes_eq-Decides}
use Rattle.std.specs.BTreeMap.{is_at}
use Rattle.std.specs.Cmp.Lexicographic.{slice_cmp}
use Rattle.std.specs.List.{list_any}
use Rattle.std.specs.Map.{lookup, KeepsOthers}
use Rattle.std.specs.Option.{option_map, unwrap_or}
use Rattle.std.specs.Ordering.{eq_by_cmp, is_eq, nat_cmp}
use Rattle.std.specs.Str.{bytes_eq}
use Rattle.std.specs.declared.alloc.Global.{Global}
use Rattle.std.specs.declared.cmp.Ordering.{Ordering}
use Rattle.om_lower_rules.specs.Indexes.{AreAlike, AreNumbers, AreTextNumbers}
use Rattle.om_lower_rules.specs.Tables.{found_in, number_in, with_sight}

one : (b : Bool) → (if b || false then Some (if b then 0 else 0 + 1) else None) ≡ cond b (Some 0) None
one true = refl
one false = refl

abbrev more : Option ℕ → Option ℕ
more o = option_map (λ k. k + 1) o

-- one thing further to the front
step : (b there there_before last : Bool) (n before len : ℕ)
    → (if there then Some n else None) ≡ cond there_before (Some before) (cond last (Some len) None)
    → (if b || there then Some (if b then 0 else n + 1) else None)
    ≡ cond (b || there_before) (Some (if b then 0 else before + 1)) (cond last (Some (len + 1)) None)
step true there there_before last n before len e = refl
step false true true last n before len e = ap more e
step false true false true n before len e = ap more e
step false true false false n before len e = ap more e
step false false true last n before len e = ap more e
step false false false true n before len e = ap more e
step false false false false n before len e = ap more e

suc-is : (n : ℕ) → n + 1 ≡ suc n
suc-is n = omega arith

-- where a thing is found in a table with one more
pub found-push : {A : Type 0} (is : A → Bool) (xs : List A) (x : A) → found_in is (xs ++ x ∷ [])
    ≡ cond (list_any is xs) (Some (number_in is xs)) (cond (is x) (Some (length xs)) None)
found-push is [] x = one (is x)
found-push is (y ∷ ys) x =
    step (is y) _ _ (is x) _ _ (length ys) (found-push is ys x)
    ∙ ap (λ n. cond (is y || list_any is ys) (Some (if is y then 0 else number_in is ys + 1))
    (cond (is x) (Some n) None)) (suc-is (length ys))

any_none : (b : Bool) (n m : ℕ) → (if b then Some n else None) ≡ None → b ≡ false
any_none true n m e = cc
any_none false n m e = refl

-- what is not found is not there
pub found-none : {A : Type 0} (is : A → Bool) (xs : List A) → found_in is xs ≡ None → list_any is xs ≡ false
found-none is xs e = any_none (list_any is xs) (number_in is xs) 0 e

some_is : (b : Bool) (n : ℕ) → is_some (if b then Some n else None) ≡ b
some_is true n = refl
some_is false n = refl

pub found-is_some : {A : Type 0} (is : A → Bool) (xs : List A) → is_some (found_in is xs) ≡ list_any is xs
found-is_some is xs = some_is (list_any is xs) (number_in is xs)

number_all : (b rest : Bool) (n m : ℕ) → (b || rest) ≡ false → (rest ≡ false → n ≡ m) → (if b then 0 else n + 1) ≡ suc m
number_all true rest n m e same = cc
number_all false rest n m e same = ap (λ k. k + 1) (same e) ∙ suc-is m

-- the number of what is not there is behind all
number-none : {A : Type 0} (is : A → Bool) (xs : List A) → list_any is xs ≡ false → number_in is xs ≡ length xs
number-none is [] e = refl
number-none is (x ∷ xs) e = number_all (is x) (list_any is xs) (number_in is xs) (length xs) e (number-none is xs)

or_length : (b : Bool) (n m : ℕ) → (b ≡ false → n ≡ m) → unwrap_or (if b then Some n else None) m ≡ n
or_length true n m same = refl
or_length false n m same = sym (same refl)

-- what is found, or the number behind all, is its number
pub found-number : {A : Type 0} (is : A → Bool) (xs : List A) → unwrap_or (found_in is xs) (length xs) ≡ number_in is xs
found-number is xs = or_length (list_any is xs) (number_in is xs) (length xs) (number-none is xs)

pub same_number : (k q : ℕ) → is_at (nat_cmp k) q ≡ nat_eq k q
same_number k q = grind (arith, nat_tests)

number_is : (k q : ℕ) → nat_eq k q ≡ true → k ≡ q
number_is k q h = (Decides-eqb k q).0 h

eq-comm : (a b : ℕ) → nat_eq a b ≡ nat_eq b a
eq-comm a b = grind arith

-- a new thing behind all others, by whether it is the one that is sought
pushed_at : (same : Bool) (there : Bool) (n len : ℕ) → (same ≡ true → there ≡ false)
    → cond same (Some len) (if there then Some n else None)
    ≡ cond there (Some n) (cond same (Some len) None)
pushed_at true true n len new = let broken = new refl in cc
pushed_at true false n len new = refl
pushed_at false true n len new = refl
pushed_at false false n len new = refl

-- a variable that is new gets the number behind all others
pub numbers-push : (table : List ℕ) (old new : List (ℕ × ℕ)) (variable len : ℕ) → AreNumbers table old
    → lookup (is_at (nat_cmp variable)) old ≡ None → len ≡ length table
    → ((x : ℕ) → lookup (is_at (nat_cmp x)) new
    ≡ cond (is_at (nat_cmp variable) x) (Some len) (lookup (is_at (nat_cmp x)) old))
    → AreNumbers (table ++ variable ∷ []) new
numbers-push table old new variable len numbers absent counted put x =
    let none : list_any (nat_eq variable) table ≡ false =
    found-none (nat_eq variable) table (sym (numbers variable) ∙ absent) in
    let unknown : nat_eq x variable ≡ true → list_any (nat_eq x) table ≡ false =
    λ same. subst (λ v. list_any (nat_eq v) table ≡ false) (sym (number_is x variable same)) none in
    let same : is_at (nat_cmp variable) x ≡ nat_eq x variable = same_number variable x ∙ eq-comm variable x in
    put x
    ∙ ap (λ b. cond b (Some len) (lookup (is_at (nat_cmp x)) old)) same
    ∙ ap (λ found. cond (nat_eq x variable) (Some len) found) (numbers x)
    ∙ ap (λ n. cond (nat_eq x variable) (Some n) (found_in (nat_eq x) table)) counted
    ∙ pushed_at (nat_eq x variable) (list_any (nat_eq x) table) (number_in (nat_eq x) table) (length table) unknown
    ∙ sym (found-push (nat_eq x) table variable)

-- a table with one more thing that is not there
pub with_new : {A : Type 0} (same : A → A → Bool) (table : List A) (x : A) → list_any (same x) table ≡ false
    → table ++ x ∷ [] ≡ with_sight same table x
with_new same table x none = rw none refl

-- and with one that is
pub with_known : {A : Type 0} (same : A → A → Bool) (table : List A) (x : A) → list_any (same x) table ≡ true
    → table ≡ with_sight same table x
with_known same table x known = rw known refl

-- ---- pairs

abbrev behind : (found : Option ℕ) (same : Bool) (v : ℕ) → Option ℕ
behind None same v = cond same (Some v) None
behind (Some w) same v = Some w

behind_more : (here : Bool) (w v : ℕ) (rest : Option ℕ) (same : Bool)
    → cond here (Some w) (behind rest same v) ≡ behind (cond here (Some w) rest) same v
behind_more true w v rest same = refl
behind_more false w v rest same = refl

lookup-push : (x : ℕ) (table : List (ℕ × ℕ)) (variable v : ℕ)
    → lookup (nat_eq x) (table ++ (variable, v) ∷ []) ≡ behind (lookup (nat_eq x) table) (nat_eq x variable) v
lookup-push x [] variable v = refl
lookup-push x (entry ∷ table) variable v =
    ap (λ found. cond (nat_eq x entry.0) (Some entry.1) found) (lookup-push x table variable v)
    ∙ behind_more (nat_eq x entry.0) entry.1 v (lookup (nat_eq x) table) (nat_eq x variable)

pair_at : (same : Bool) (found : Option ℕ) (v : ℕ) → (same ≡ true → found ≡ None)
    → cond same (Some v) found ≡ behind found same v
pair_at true None v new = refl
pair_at true (Some w) v new = let broken = new refl in cc
pair_at false None v new = refl
pair_at false (Some w) v new = refl

-- a variable that is new gets its value
pub alike-push : (table old new : List (ℕ × ℕ)) (variable v : ℕ) → AreAlike table old
    → lookup (is_at (nat_cmp variable)) old ≡ None
    → ((x : ℕ) → lookup (is_at (nat_cmp x)) new
    ≡ cond (is_at (nat_cmp variable) x) (Some v) (lookup (is_at (nat_cmp x)) old))
    → AreAlike (table ++ (variable, v) ∷ []) new
alike-push table old new variable v alike absent put x =
    let none : lookup (nat_eq variable) table ≡ None = sym (alike variable) ∙ absent in
    let unknown : nat_eq x variable ≡ true → lookup (nat_eq x) table ≡ None =
    λ same. subst (λ w. lookup (nat_eq w) table ≡ None) (sym (number_is x variable same)) none in
    let same : is_at (nat_cmp variable) x ≡ nat_eq x variable = same_number variable x ∙ eq-comm variable x in
    put x
    ∙ ap (λ b. cond b (Some v) (lookup (is_at (nat_cmp x)) old)) same
    ∙ ap (λ found. cond (nat_eq x variable) (Some v) found) (alike x)
    ∙ pair_at (nat_eq x variable) (lookup (nat_eq x) table) v unknown
    ∙ sym (lookup-push x table variable v)

-- ---- texts

-- how texts that are kept compare
abbrev pub texts_cmp : Vec ℕ Global → Vec ℕ Global → Ordering
texts_cmp a b = slice_cmp nat_cmp a.items b.items

text_is : (a b : List ℕ) → is_eq (slice_cmp nat_cmp a b) ≡ true → a ≡ b
text_is a b e = (bytes_eq-Decides a b).0 (sym (is_eq-slice_cmp a b) ∙ e)

-- what another text finds stays
others : (old new : List (Vec ℕ Global × ℕ)) (key : Vec ℕ Global) (text : List ℕ)
    → bytes_eq text key.items ≡ false
    → KeepsOthers (eq_by_cmp texts_cmp) (is_at (texts_cmp key)) old new
    → lookup (is_at (λ k. slice_cmp nat_cmp text k.items)) new
    ≡ lookup (is_at (λ k. slice_cmp nat_cmp text k.items)) old
unfolding KeepsOthers
others old new key text apart keeps = keeps (is_at (λ k. slice_cmp nat_cmp text k.items))
    (λ x y e. ap (λ t. is_eq (slice_cmp nat_cmp t y.items)) (text_is text x.items e))
    (λ k e. ap (λ t. is_eq (slice_cmp nat_cmp text t)) (sym (text_is key.items k.items e))
    ∙ is_eq-slice_cmp text key.items ∙ apart)

-- what is found behind a new text
found_text : (old new : List (Vec ℕ Global × ℕ)) (key : Vec ℕ Global) (text : List ℕ) (len : ℕ) (same : Bool)
    → bytes_eq text key.items ≡ same
    → lookup (is_at (texts_cmp key)) new ≡ Some len
    → KeepsOthers (eq_by_cmp texts_cmp) (is_at (texts_cmp key)) old new
    → lookup (is_at (λ k. slice_cmp nat_cmp text k.items)) new
    ≡ cond same (Some len) (lookup (is_at (λ k. slice_cmp nat_cmp text k.items)) old)
found_text old new key text len true e put keeps =
    let is : text ≡ key.items = (bytes_eq-Decides text key.items).0 e in
    ap (λ t. lookup (is_at (λ k. slice_cmp nat_cmp t k.items)) new) is ∙ put
found_text old new key text len false e put keeps = others old new key text e keeps

-- a text that is new gets the number behind all others
pub text_numbers-push : (table : List (List ℕ)) (old new : List (Vec ℕ Global × ℕ)) (key : Vec ℕ Global) (len : ℕ)
    → AreTextNumbers table old
    → lookup (is_at (λ k. slice_cmp nat_cmp key.items k.items)) old ≡ None → len ≡ length table
    → lookup (is_at (texts_cmp key)) new ≡ Some len
    → KeepsOthers (eq_by_cmp texts_cmp) (is_at (texts_cmp key)) old new
    → AreTextNumbers (table ++ key.items ∷ []) new
text_numbers-push table old new key len numbers absent counted put keeps text =
    let none : list_any (bytes_eq key.items) table ≡ false =
    found-none (bytes_eq key.items) table (sym (numbers key.items) ∙ absent) in
    let unknown : bytes_eq text key.items ≡ true → list_any (bytes_eq text) table ≡ false =
    λ same. subst (λ t. list_any (bytes_eq t) table ≡ false) (sym ((bytes_eq-Decides text key.items).0 same)) none in
    found_text old new key text len (bytes_eq text key.items) refl put keeps
    ∙ ap (λ found. cond (bytes_eq text key.items) (Some len) found) (numbers text)
    ∙ ap (λ n. cond (bytes_eq text key.items) (Some n) (found_in (bytes_eq text) table)) counted
    ∙ pushed_at (bytes_eq text key.items) (list_any (bytes_eq text) table) (number_in (bytes_eq text) table)
    (length table) unknown
    ∙ sym (found-push (bytes_eq text) table key.items)

-- The words of numbers, of lists and of names tell these apart.
use Rattle.std.proofs.Common.{◌≡◌, refl, sym, ◌∙◌, ap, ℕ, ◌/◌, ◌%◌, ◌<◌, Bool, true, false, cond, nat_eq, nat_lt}
use Rattle.std.proofs.Common.{arith, ℤ, pos}
use Rattle.std.proofs.Common.{negsuc, None, Some, List, [], ◌∷◌, ◌++◌, length, reverse, ltb-true}
use Rattle.std.specs.Prelude.{int_lt, unsigned_abs}
use Rattle.std.proofs.lemmas.Bool.Decides.{nat_tests, Decides-eqb}
use Rattle.std.proofs.lemmas.List.{append_assoc, reverse-reverse}
use Rattle.lab_explore_words.specs.Laws.{TellApart}
use Rattle.lab_explore_words.specs.Lists.{number_words, int_words, long_words, flag_words, each, list_words}
use Rattle.lab_explore_words.specs.Lists.{option_words, name_words}

pub behind : (m n : ℕ) (u v : List ℕ) → m ∷ u ≡ n ∷ v → u ≡ v
behind m n u v h = cc

-- two numbers that differ, alone and in front of others
pub differ : (m n : ℕ) → m ≡ n → nat_eq m n ≡ false → ⊥
differ m n same unlike = let yes : nat_eq m n ≡ true = (Decides-eqb m n).1 same in cc

pub heads : (m n : ℕ) (u v : List ℕ) → m ∷ u ≡ n ∷ v → nat_eq m n ≡ false → ⊥
heads m n u v h unlike = let same : m ≡ n = cc in differ m n same unlike

-- numbers

split : (a b : ℕ) → a / 4294967296 ≡ b / 4294967296 → a % 4294967296 ≡ b % 4294967296 → a ≡ b
split a b q r = omega arith

longer : (a : ℕ) → nat_lt a 4294967295 ≡ true → a ≡ 4294967295 → ⊥
longer a e is = let less : a < 4294967295 = ltb-true a 4294967295 e in omega arith

pub number_apart : TellApart number_words
unfolding number_words
number_apart a b x y h = go (nat_lt a 4294967295) (nat_lt b 4294967295) refl refl h
  where
    go : (p q : Bool) → nat_lt a 4294967295 ≡ p → nat_lt b 4294967295 ≡ q
        → cond p (a ∷ []) (4294967295 ∷ a / 4294967296 ∷ a % 4294967296 ∷ []) ++ x
        ≡ cond q (b ∷ []) (4294967295 ∷ b / 4294967296 ∷ b % 4294967296 ∷ []) ++ y → (a ≡ b) × (x ≡ y)
    go true true e f g = (cc, cc)
    go true false e f g = let is : a ≡ 4294967295 = cc in absurd (longer a e is)
    go false true e f g = let is : b ≡ 4294967295 = cc in absurd (longer b f is)
    go false false e f g =
        let q : a / 4294967296 ≡ b / 4294967296 = cc in
        let r : a % 4294967296 ≡ b % 4294967296 = cc in
        let rest : x ≡ y = cc in
        (split a b q r, rest)

-- the words of a first part are cut off
pub cut : {A : Type 0} → (words : A → List ℕ) → TellApart words → (a b : A) (u v x y : List ℕ)
    → (words a ++ u) ++ x ≡ (words b ++ v) ++ y → (a ≡ b) × (u ++ x ≡ v ++ y)
cut words tell a b u v x y h =
    tell a b (u ++ x) (v ++ y) (sym (append_assoc (words a) u x) ∙ h ∙ append_assoc (words b) v y)

-- so are those of the first of several parts, in front of others
pub cut_in : {A : Type 0} → (words : A → List ℕ) → TellApart words → (a b : A) (u v p q x y : List ℕ)
    → ((words a ++ u) ++ p) ++ x ≡ ((words b ++ v) ++ q) ++ y → (a ≡ b) × ((u ++ p) ++ x ≡ (v ++ q) ++ y)
cut_in words tell a b u v p q x y h =
    tell a b ((u ++ p) ++ x) ((v ++ q) ++ y)
    (sym (append_assoc (words a) (u ++ p) x) ∙ sym (ap (λ l. l ++ x) (append_assoc (words a) u p)) ∙ h
    ∙ ap (λ l. l ++ y) (append_assoc (words b) v q) ∙ append_assoc (words b) (v ++ q) y)

-- what has different numbers has different words
pub numbered : {A : Type 0} → (number : A → ℕ) → ((a b : A) → number a ≡ number b → a ≡ b)
    → TellApart (λ (a : A). number_words (number a))
numbered number same a b x y h = let p = number_apart (number a) (number b) x y h in (same a b p.0, p.1)

abbrev sign : ℤ → ℕ
sign z = cond (int_lt z (pos 0)) 1 0

not_below : (m : ℕ) → sign (pos m) ≡ 1 → ⊥
not_below m h = grind (arith, nat_tests)

same_int : (a b : ℤ) → sign a ≡ sign b → unsigned_abs a ≡ unsigned_abs b → a ≡ b
same_int (pos m) (pos n) s h = ap pos h
same_int (negsuc m) (negsuc n) s h = cc
same_int (pos m) (negsuc n) s h = absurd (not_below m s)
same_int (negsuc m) (pos n) s h = absurd (not_below n (sym s))

pub int_apart : TellApart int_words
unfolding int_words
int_apart a b x y h =
    let s : sign a ≡ sign b = cc in
    let p = number_apart (unsigned_abs a) (unsigned_abs b) x y (behind _ _ _ _ h) in
    (same_int a b s p.0, p.1)

halves : (a b : ℕ) → a / 18446744073709551616 ≡ b / 18446744073709551616
    → a % 18446744073709551616 ≡ b % 18446744073709551616 → a ≡ b
halves a b q r = omega arith

pub long_apart : TellApart long_words
unfolding long_words
long_apart a b x y h =
    let s : sign a ≡ sign b = cc in
    let high = cut number_words number_apart (unsigned_abs a / 18446744073709551616)
    (unsigned_abs b / 18446744073709551616) _ _ x y (behind _ _ _ _ h) in
    let low = number_apart (unsigned_abs a % 18446744073709551616) (unsigned_abs b % 18446744073709551616) x y high.1 in
    (same_int a b s (halves (unsigned_abs a) (unsigned_abs b) high.0 low.0), low.1)

pub flag_apart : TellApart flag_words
flag_apart false false x y h = (refl, behind _ _ _ _ h)
flag_apart true true x y h = (refl, behind _ _ _ _ h)
flag_apart false true x y h = absurd (heads _ _ _ _ h refl)
flag_apart true false x y h = absurd (heads _ _ _ _ h refl)

-- lists

each_apart : {A : Type 0} → (words : A → List ℕ) → TellApart words → (xs ys : List A) (x y : List ℕ)
    → length xs ≡ length ys → each words xs ++ x ≡ each words ys ++ y → (xs ≡ ys) × (x ≡ y)
each_apart words tell [] [] x y n h = (refl, h)
each_apart words tell [] (b ∷ ys) x y n h = cc
each_apart words tell (a ∷ xs) [] x y n h = cc
each_apart words tell (a ∷ xs) (b ∷ ys) x y n h =
    let p = cut words tell a b (each words xs) (each words ys) x y h in
    let less : length xs ≡ length ys = cc in
    let q = each_apart words tell xs ys x y less p.1 in
    ((λ i. p.0 i ∷ q.0 i), q.1)

pub list_apart : {A : Type 0} → (words : A → List ℕ) → TellApart words → TellApart (list_words words)
list_apart words tell xs ys x y h =
    let n = cut number_words number_apart (length xs) (length ys) (each words xs) (each words ys) x y h in
    each_apart words tell xs ys x y n.0 n.1

-- a stack, which is written from the bottom up
pub pile_apart : {A : Type 0} → (words : A → List ℕ) → TellApart words
    → TellApart (λ (xs : List A). list_words words (reverse xs))
pile_apart words tell xs ys x y h =
    let p = list_apart words tell (reverse xs) (reverse ys) x y h in
    (sym (reverse-reverse xs) ∙ ap reverse p.0 ∙ reverse-reverse ys, p.1)

pub option_apart : {A : Type 0} → (words : A → List ℕ) → TellApart words → TellApart (option_words words)
option_apart words tell None None x y h = (refl, behind _ _ _ _ h)
option_apart words tell (Some a) (Some b) x y h =
    let p = tell a b x y (behind _ _ _ _ h) in ((λ i. Some (p.0 i)), p.1)
option_apart words tell None (Some b) x y h = absurd (heads _ _ _ _ h refl)
option_apart words tell (Some a) None x y h = absurd (heads _ _ _ _ h refl)

pub name_apart : TellApart name_words
name_apart = list_apart number_words number_apart

-- Numbers by a set of vectors.
use Rattle.std.proofs.Common.{◌≡◌, refl, sym, ◌∙◌, ap, ℕ, suc, ◌+◌, Bool, true, false, cond, nat_eq, ◌||◌, Option}
use Rattle.std.proofs.Common.{None, Some, List, [], ◌∷◌, ◌++◌, add-zero, arith}
use Rattle.std.specs.Prelude.{Vec, option_map}
use Rattle.std.specs.List.{position, position_from, list_any}
use Rattle.std.specs.Cmp.Lexicographic.{pointwise}
use Rattle.std.specs.declared.alloc.Global.{Global}
use Rattle.std.proofs.lemmas.Iterator.Adapters.{position_from-zero}
use Rattle.indexmap.specs.IndexSet.{insert_key}
use Rattle.lab_explore_rows.specs.WordTables.{lists_of, number_of}

shifted : (i : ℕ) (o : Option ℕ) → option_map (λ n. (i + 1) + n) o ≡ option_map (λ n. i + n) (option_map suc o)
shifted i None = refl
shifted i (Some n) = let is : (i + 1) + n ≡ i + suc n = omega arith in ap Some is

from_zero : (o : Option ℕ) → option_map (λ n. 0 + n) o ≡ o
from_zero None = refl
from_zero (Some n) = let is : 0 + n ≡ n = omega arith in ap Some is

abbrev holds : List ℕ → Vec ℕ Global → Bool
holds words v = pointwise nat_eq words v.items

position_behind : (words : List ℕ) (i : ℕ) (keys : List (Vec ℕ Global))
    → position_from (holds words) i keys ≡ option_map (λ n. i + n) (number_of (lists_of keys) words)
position_behind words i [] = refl
position_behind words i (k ∷ ks) = go (holds words k) (position_behind words (i + 1) ks)
  where
    go : (b : Bool) → position_from (holds words) (i + 1) ks
        ≡ option_map (λ n. (i + 1) + n) (number_of (lists_of ks) words)
        → cond b (Some i) (position_from (holds words) (i + 1) ks)
        ≡ option_map (λ n. i + n) (cond b (Some 0) (option_map suc (number_of (lists_of ks) words)))
    go true rest = ap Some (sym (add-zero i))
    go false rest = rest ∙ shifted i (number_of (lists_of ks) words)

pub position_is : (words : List ℕ) (keys : List (Vec ℕ Global))
    → position (holds words) keys ≡ number_of (lists_of keys) words
position_is words keys = position_from-zero (holds words) keys ∙ position_behind words 0 keys
    ∙ from_zero (number_of (lists_of keys) words)

none_holds : (words : List ℕ) (keys : List (Vec ℕ Global)) → number_of (lists_of keys) words ≡ None
    → list_any (holds words) keys ≡ false
none_holds words [] h = refl
none_holds words (k ∷ ks) h =
    go (holds words k) (number_of (lists_of ks) words) (λ e. none_holds words ks e) h
  where
    go : (b : Bool) (o : Option ℕ) → (o ≡ None → list_any (holds words) ks ≡ false)
        → cond b (Some 0) (option_map suc o) ≡ None → b || list_any (holds words) ks ≡ false
    go true o rest g = cc
    go false None rest g = rest refl
    go false (Some n) rest g = cc

lists_pushed : (keys : List (Vec ℕ Global)) (key : Vec ℕ Global)
    → lists_of (keys ++ key ∷ []) ≡ lists_of keys ++ key.items ∷ []
lists_pushed [] key = refl
lists_pushed (k ∷ ks) key = ap (λ xs. k.items ∷ xs) (lists_pushed ks key)

-- a key that is inserted, where none is equal
pub key_added : (words : List ℕ) (keys : List (Vec ℕ Global)) (key : Vec ℕ Global) → key.items ≡ words
    → number_of (lists_of keys) words ≡ None
    → lists_of (insert_key (λ (a b : Vec ℕ Global). pointwise nat_eq a.items b.items) keys key) ≡ lists_of keys ++ words ∷ []
key_added words keys key is none =
    let new : list_any (holds key.items) keys ≡ false =
    none_holds key.items keys (ap (λ ws. number_of (lists_of keys) ws) is ∙ none) in
    ap (λ b. lists_of (cond b keys (keys ++ key ∷ []))) new ∙ lists_pushed keys key
    ∙ ap (λ ws. lists_of keys ++ ws ∷ []) is

-- Tables of names, as their scopes show them.
use Rattle.std.proofs.Common.{◌≡◌, ℕ, suc, ◌+◌, ◌<◌, length, take, drop, get_or, Bool, true, false, cond, ◌||◌, List, [], ◌∷◌, ◌++◌, Option, None, Some, is_some}
use Rattle.std.proofs.Common.{if◌then◌else◌, refl, sym, ap, subst, ◌∙◌, Vec, true≢false}
use Rattle.std.proofs.Math.Seq.{split_at}
use Rattle.std.proofs.lemmas.List.{map-append, take_more}
use Rattle.std.proofs.lemmas.Map.Keys.{IsDistinct-cons, IsDistinct-head, IsDistinct-push, IsDistinct-tail}
use Rattle.std.specs.declared.alloc.Global.{Global}
use Rattle.std.specs.List.{AllByRecursion, IsDistinct, list_any}
use Rattle.std.specs.Map.{keys_of, lookup}
use Rattle.std.specs.Str.{bytes_eq}
use Rattle.om_scope_rules.specs.declared.names.Meaning.{Meaning}
use Rattle.om_scope_rules.specs.NameKeys.{no_names, same_name-equiv}
use Rattle.om_scope_rules.specs.Scopes.{Scope, same_name, scope_of, with_name}
use Rattle.om_scope_symbols.proofs.Stacked.{name_itself, same_names}

pub none-is_some : {A : Type 0} (x : Option A) → is_some x ≡ false → x ≡ None
none-is_some None e = refl
none-is_some (Some x) e = cc

pub scope_of-push : (entries : List (Vec ℕ Global × Meaning)) (name : Vec ℕ Global) (meaning : Meaning)
    → scope_of (entries ++ (name, meaning) ∷ []) ≡ scope_of entries ++ (name.items, meaning) ∷ []
scope_of-push entries name meaning = map-append (λ entry. (entry.0.items, entry.1)) entries ((name, meaning) ∷ [])

keys-push : {X : Type 0} (entries : List (Vec ℕ Global × X)) (name : Vec ℕ Global) (x : X)
    → keys_of (entries ++ (name, x) ∷ []) ≡ keys_of entries ++ name ∷ []
keys-push entries name x = map-append (λ entry. entry.0) entries ((name, x) ∷ [])

-- ---- names that are each there once

there : (found rest : Bool) (meaning : Meaning) (behind : Option Meaning) → rest ≡ is_some behind
    → (found || rest) ≡ is_some (cond found (Some meaning) behind)
there true rest meaning behind same = refl
there false rest meaning behind same = same

-- a name is among those of a table where its scope declares it
among-lookup : (name : Vec ℕ Global) (entries : List (Vec ℕ Global × Meaning))
    → list_any (same_name name) (keys_of entries) ≡ is_some (lookup (bytes_eq name.items) (scope_of entries))
among-lookup name [] = refl
among-lookup name (entry ∷ entries) = there (same_name name entry.0) (list_any (same_name name) (keys_of entries))
    entry.1 (lookup (bytes_eq name.items) (scope_of entries)) (among-lookup name entries)

pub keys-listed : (scope : Scope) (name : List ℕ) → list_any (bytes_eq name) (keys_of scope)
    ≡ is_some (lookup (bytes_eq name) scope)
keys-listed [] name = refl
keys-listed (binding ∷ scope) name = there (bytes_eq name binding.0) (list_any (bytes_eq name) (keys_of scope))
    binding.1 (lookup (bytes_eq name) scope) (keys-listed scope name)

-- the names of a scope that declares one more
pub names-push : (scope : Scope) (name : List ℕ) (meaning : Meaning) → is_some (lookup (bytes_eq name) scope) ≡ false
    → with_name (keys_of scope) name ≡ keys_of (scope ++ (name, meaning) ∷ [])
names-push scope name meaning new =
    ap (λ b. if b then keys_of scope else keys_of scope ++ name ∷ []) (keys-listed scope name ∙ new)
    ∙ sym (map-append (λ binding. binding.0) scope ((name, meaning) ∷ []))

-- one more
pub once-push : (entries : List (Vec ℕ Global × Meaning)) (name : Vec ℕ Global) (meaning : Meaning)
    → IsDistinct same_name (keys_of entries) → is_some (lookup (bytes_eq name.items) (scope_of entries)) ≡ false
    → IsDistinct same_name (keys_of (entries ++ (name, meaning) ∷ []))
once-push entries name meaning once new =
    subst (IsDistinct same_name) (sym (keys-push entries name meaning))
    (IsDistinct-push same_name-equiv (keys_of entries) name once (among-lookup name entries ∙ new))

-- and one fewer
front_all : (P : Vec ℕ Global → Type 0) (front : List (Vec ℕ Global × Meaning)) (last : Vec ℕ Global × Meaning)
    → AllByRecursion P (keys_of (front ++ last ∷ [])) → AllByRecursion P (keys_of front)
front_all P [] last all = tt
front_all P (entry ∷ front) last all = (all.0, front_all P front last all.1)

pub once-front : (front : List (Vec ℕ Global × Meaning)) (last : Vec ℕ Global × Meaning)
    → IsDistinct same_name (keys_of (front ++ last ∷ [])) → IsDistinct same_name (keys_of front)
once-front [] last once = no_names
once-front (entry ∷ front) last once =
    IsDistinct-cons same_name entry.0 (keys_of front)
    (front_all (λ other. same_name entry.0 other ≡ false) front last
    (IsDistinct-head same_name entry.0 (keys_of (front ++ last ∷ [])) once))
    (once-front front last (IsDistinct-tail same_name entry.0 (keys_of (front ++ last ∷ [])) once))

last_apart : (P : Vec ℕ Global → Type 0) (front rest : List (Vec ℕ Global × Meaning)) (name : Vec ℕ Global)
    (meaning : Meaning) → AllByRecursion P (keys_of (front ++ (name, meaning) ∷ rest)) → P name
last_apart P [] rest name meaning all = all.0
last_apart P (entry ∷ front) rest name meaning all = last_apart P front rest name meaning all.1

-- a name is new behind those before it
pub new-behind : (front rest : List (Vec ℕ Global × Meaning)) (name : Vec ℕ Global) (meaning : Meaning)
    → IsDistinct same_name (keys_of (front ++ (name, meaning) ∷ rest))
    → is_some (lookup (bytes_eq name.items) (scope_of front)) ≡ false
new-behind [] rest name meaning distinct = refl
new-behind (entry ∷ front) rest name meaning distinct =
    by (bytes_eq name.items entry.0.items) refl
    (last_apart (λ other. same_name entry.0 other ≡ false) front rest name meaning
    (IsDistinct-head same_name entry.0 (keys_of (front ++ (name, meaning) ∷ rest)) distinct))
    (new-behind front rest name meaning
    (IsDistinct-tail same_name entry.0 (keys_of (front ++ (name, meaning) ∷ rest)) distinct))
  where
    by : (b : Bool) → bytes_eq name.items entry.0.items ≡ b → bytes_eq entry.0.items name.items ≡ false
        → is_some (lookup (bytes_eq name.items) (scope_of front)) ≡ false
        → is_some (cond b (Some entry.1) (lookup (bytes_eq name.items) (scope_of front))) ≡ false
    by true e apart rest = absurd
        (true≢false (sym (ap (λ n. bytes_eq n name.items) (sym (same_names name.items entry.0.items e))
        ∙ name_itself name.items) ∙ apart))
    by false e apart rest = rest

new-behind-any : (bindings front rest : List (Vec ℕ Global × Meaning)) (binding : Vec ℕ Global × Meaning)
    → bindings ≡ front ++ binding ∷ rest → IsDistinct same_name (keys_of bindings)
    → is_some (lookup (bytes_eq binding.0.items) (scope_of front)) ≡ false
new-behind-any bindings front rest binding split once = new-behind front rest binding.0 binding.1
    (subst (λ all. IsDistinct same_name (keys_of all)) split once)

-- ---- bindings one after the other

pub new-at : (bindings : List (Vec ℕ Global × Meaning)) (index : ℕ) (binding : Vec ℕ Global × Meaning)
    → index < length bindings → binding ≡ get_or bindings index binding → IsDistinct same_name (keys_of bindings)
    → is_some (lookup (bytes_eq binding.0.items) (scope_of (take index bindings))) ≡ false
new-at bindings index binding within is once =
    new-behind-any bindings (take index bindings) (drop (suc index) bindings) binding
    (split_at bindings index binding within
    ∙ ap (λ b. take index bindings ++ b ∷ drop (suc index) bindings) (sym is)) once

pub scope_of-next : (bindings : List (Vec ℕ Global × Meaning)) (index : ℕ) (binding : Vec ℕ Global × Meaning)
    → index < length bindings → binding ≡ get_or bindings index binding
    → scope_of (take index bindings) ++ (binding.0.items, binding.1) ∷ [] ≡ scope_of (take (index + 1) bindings)
scope_of-next bindings index binding within is =
    sym (ap scope_of (take_more bindings index binding within ∙ ap (λ b. take index bindings ++ b ∷ []) (sym is))
    ∙ scope_of-push (take index bindings) binding.0 binding.1)

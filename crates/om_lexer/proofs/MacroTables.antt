-- Look-ups in a table of macros, as its list shows it.
use Rattle.std.proofs.Common.{◌≡◌, ℕ, Bool, true, false, cond, List, [], ◌∷◌, ◌++◌, Option, None, Some, is_some, refl}
use Rattle.std.proofs.Common.{ap, Vec}
use Rattle.std.proofs.lemmas.Bool.{cond-true, cond-false}
use Rattle.std.specs.declared.alloc.Global.{Global}
use Rattle.std.specs.Map.{lookup}
use Rattle.om_lexer.specs.Macros.{MacroList, macros_of, number_of_macro, with_macro}

pub lookup-macros_of : (test : List ℕ → Bool) (entries : List (Vec ℕ Global × ℕ)) → lookup test (macros_of entries)
    ≡ lookup (λ name. test name.items) entries
lookup-macros_of test [] = refl
lookup-macros_of test (entry ∷ entries) = ap (λ found. cond (test entry.0.items) (Some entry.1) found)
    (lookup-macros_of test entries)

pub none-is_some : {A : Type 0} (x : Option A) → is_some x ≡ false → x ≡ None
none-is_some None e = refl
none-is_some (Some x) e = cc

pub macros_of-push : (entries : List (Vec ℕ Global × ℕ)) (name : Vec ℕ Global) (number : ℕ)
    → macros_of (entries ++ (name, number) ∷ []) ≡ macros_of entries ++ (name.items, number) ∷ []
macros_of-push [] name number = refl
macros_of-push (entry ∷ entries) name number = ap (λ rest. (entry.0.items, entry.1) ∷ rest)
    (macros_of-push entries name number)

pub with_known : (macros : MacroList) (name : List ℕ) (number : ℕ) → is_some (number_of_macro macros name) ≡ true
    → with_macro macros name number ≡ macros
with_known macros name number known = cond-true (is_some (number_of_macro macros name)) macros
    (macros ++ (name, number) ∷ []) known

pub with_new : (macros : MacroList) (name : List ℕ) (number : ℕ) → is_some (number_of_macro macros name) ≡ false
    → with_macro macros name number ≡ macros ++ (name, number) ∷ []
with_new macros name number unknown = cond-false (is_some (number_of_macro macros name)) macros
    (macros ++ (name, number) ∷ []) unknown

-- Texts that are appended one after the other.
use Rattle.std.proofs.Common.{◌≡◌, ◌∙◌, ap, ℕ, List, ◌++◌, cond, append_assoc}
use Rattle.std.specs.Prelude.{Result, Ok, Err, OnOk, is_ok}

-- two appended one behind the other are both appended
pub then_more : (first mid last p q : List ℕ) → mid ≡ first ++ p → last ≡ mid ++ q → last ≡ first ++ (p ++ q)
then_more first mid last p q a b = b ∙ ap (λ l. l ++ q) a ∙ append_assoc first p q

-- what is there where nothing failed
pub on_ok_is : {X E : Type 0} (r : Result X E) (new more old : List ℕ) → new ≡ cond (is_ok r) more old
    → OnOk r (new ≡ more)
on_ok_is (Ok x) new more old h = h
on_ok_is (Err e) new more old h = tt

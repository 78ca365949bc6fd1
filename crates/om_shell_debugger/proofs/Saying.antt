-- What is written and what is left, where a function succeeds.
use Rattle.std.specs.Prelude.{Result, Ok, Err, OnOk}

pub on_both : {T E A B C D : Type 0} (r : Result T E) → (A → C) → (B → D) → OnOk r (A × B) → OnOk r (C × D)
on_both (Ok x) written left both = (written both.0, left both.1)
on_both (Err e) written left both = tt

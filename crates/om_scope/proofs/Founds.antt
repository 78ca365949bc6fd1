-- What holds where something is found.
use Rattle.std.specs.Prelude.{OnOk, Result, Ok, Err}

pub ok_then : {X E P Q : Type 0} (found : Result X E) → OnOk found P → (P → Q) → OnOk found Q
ok_then (Ok x) p then = then p
ok_then (Err e) p then = p

pub ok_anyway : {X E P : Type 0} (found : Result X E) → P → OnOk found P
ok_anyway (Ok x) p = p
ok_anyway (Err e) p = tt

-- The least ready name, after the task of one name got another value.
use Rattle.std.proofs.Common.{◌≡◌, refl, sym, ◌∙◌, ap, subst, Bool, true, false, Option, None, Some, List, ℕ}
use Rattle.std.proofs.Math.Path.{fun_ext}
use Rattle.std.specs.Prelude.{not, cond, ◌&&◌, IfSome}
use Rattle.std.specs.Ordering.{nat_cmp, is_eq, is_lt, is_le, ordering_reverse}
use Rattle.std.specs.declared.cmp.Ordering.{Ordering}
use Rattle.std.specs.declared.cmp.Ordering.TheVariants.{Less, Equal, Greater}
use Rattle.std.specs.Cmp.Lexicographic.{slice_cmp, nat_list_cmp_total}
use Rattle.om_state.specs.Ready.{IsNext, is_behind, is_from, is_the}
use Rattle.om_cells.specs.Named.{Named, value_of, PutsOf}
use Rattle.om_cells.specs.ReadyEntries.{is_ready_task, is_ready_in}
use Rattle.om_foot.specs.declared.part.Part.{Part}
use Rattle.om_foot.specs.declared.part.Part.TheVariants as part
use Rattle.om_state.specs.declared.value.Val.{Val}
use Rattle.om_cells.proofs.PlaceLemmas.{same_name, same_part, name_is}

-- where the value of one part is put, the tasks of other names stay as they are, and so do all where that part is no task

pub other_ready : (old new : Named) (n : List ℕ) (p : Part) (v : Option Val) → PutsOf n p v old new → (m : List ℕ)
    → same_name n m ≡ false → is_ready_in new m ≡ is_ready_in old m
other_ready old new n p v puts m other = ap is_ready_task (puts m part.Task
    ∙ ap (λ b. cond (b && same_part p part.Task) v (value_of old m part.Task)) other)

pub part_ready : (old new : Named) (n : List ℕ) (p : Part) (v : Option Val) → PutsOf n p v old new
    → same_part p part.Task ≡ false → (m : List ℕ) → is_ready_in new m ≡ is_ready_in old m
part_ready old new n p v puts other m = ap is_ready_task (puts m part.Task ∙ none (same_name n m) (same_part p part.Task) other)
  where
    none : (b c : Bool) → c ≡ false → cond (b && c) v (value_of old m part.Task) ≡ value_of old m part.Task
    none true c e = ap (λ x. cond x v (value_of old m part.Task)) e
    none false c e = refl

pub same_next : (is new : List ℕ → Bool) (first : Option (List ℕ)) → ((m : List ℕ) → new m ≡ is m)
    → IsNext is None first → IsNext new None first
same_next is new first same next = subst (λ k. IsNext k None first) (fun_ext λ m. sym (same m)) next

abbrev compare : List ℕ → List ℕ → Ordering
compare = slice_cmp nat_cmp

never : {A : Type 0} → false ≡ true → A
never e = cc

from_equal : (o : Ordering) → is_eq o ≡ true → is_le o ≡ true
from_equal Equal h = refl
from_equal Less h = cc
from_equal Greater h = cc

from_less : (o : Ordering) → o ≡ Less → is_le o ≡ true
from_less o h = ap is_le h

less_other : (o : Ordering) → is_le o ≡ true → is_eq o ≡ false → is_lt o ≡ true
less_other Less h g = refl
less_other Equal h g = cc
less_other Greater h g = cc

is_greater : (o : Ordering) → not (is_le o) ≡ true → o ≡ Greater
is_greater Greater h = refl
is_greater Less h = cc
is_greater Equal h = cc

-- what is before a name is before each name that is not before it
before_from : (f name n : List ℕ) → not (is_le (compare f name)) ≡ true → is_le (compare f n) ≡ true
    → is_le (compare name n) ≡ true
before_from f name n before from = go (compare f n) refl from
  where
    less : compare name f ≡ Less
    less = nat_list_cmp_total.antisymm name f ∙ ap ordering_reverse (is_greater (compare f name) before)

    go : (o : Ordering) → compare f n ≡ o → is_le o ≡ true → is_le (compare name n) ≡ true
    go Less is h = from_less (compare name n) (nat_list_cmp_total.trans name f n less is)
    go Equal is h = from_less (compare name n) (ap (compare name) (sym (name_is f n (ap is_eq is))) ∙ less)
    go Greater is h = cc

some_from : (first : Option (List ℕ)) (name n : List ℕ) → not (is_from first name) ≡ true → is_from first n ≡ true
    → is_from (Some name) n ≡ true
some_from None name n before from = never from
some_from (Some f) name n before from = before_from f name n before from

module _ (is new : List ℕ → Bool) (name : List ℕ) (others : (m : List ℕ) → same_name name m ≡ false → new m ≡ is m)
  where
    other_from : (first : Option (List ℕ)) → IsNext is None first → (n : List ℕ) → same_name name n ≡ false
        → new n ≡ true → is_from first n ≡ true
    other_from first next n other ready = next.least n refl (sym (others n other) ∙ ready)

    -- it is ready, and before the least one
    pub comes_first : (first : Option (List ℕ)) → new name ≡ true → not (is_from first name) ≡ true
        → IsNext is None first → IsNext new None (Some name)
    comes_first first ready before next = record {
      found = (refl, ready);
      least = λ n behind there. go n there (same_name name n) refl;
    }
      where
        go : (n : List ℕ) → new n ≡ true → (b : Bool) → same_name name n ≡ b → is_from (Some name) n ≡ true
        go n there true same = from_equal (compare name n) same
        go n there false other = some_from first name n before (other_from first next n other there)

    -- it is ready, and not before the least one
    pub stays_before : (first : Option (List ℕ)) → new name ≡ true → not (is_from first name) ≡ false
        → IsNext is None first → IsNext new None first
    stays_before None ready from next = cc
    stays_before (Some f) ready from next = record {
      found = (refl, itself (same_name name f) refl);
      least = λ n behind there. go n there (same_name name n) refl;
    }
      where
        itself : (b : Bool) → same_name name f ≡ b → new f ≡ true
        itself true same = ap new (sym (name_is name f same)) ∙ ready
        itself false other = others f other ∙ next.found.1

        is_true : (b : Bool) → not b ≡ false → b ≡ true
        is_true true e = refl
        is_true false e = cc

        go : (n : List ℕ) → new n ≡ true → (b : Bool) → same_name name n ≡ b → is_from (Some f) n ≡ true
        go n there true same = ap (is_from (Some f)) (sym (name_is name n same)) ∙ is_true (is_from (Some f) name) from
        go n there false other = other_from (Some f) next n other there

    -- it is not ready, and was the least one
    pub moves_on : (first found : Option (List ℕ)) → new name ≡ false → is_the name first ≡ true
        → IsNext is None first → IsNext new (Some name) found → IsNext new None found
    moves_on None found done the next further = never the
    moves_on (Some f) found done the next further = record {
      found = there found further.found;
      least = λ n behind ready. go n ready (same_name name n) refl;
    }
      where
        there : (o : Option (List ℕ)) → IfSome o (λ n. (is_behind (Some name) n ≡ true) × (new n ≡ true))
            → IfSome o (λ n. (is_behind None n ≡ true) × (new n ≡ true))
        there None h = tt
        there (Some n) h = (refl, h.1)

        go : (n : List ℕ) → new n ≡ true → (b : Bool) → same_name name n ≡ b → is_from found n ≡ true
        go n ready true same = never (sym done ∙ ap new (name_is name n same) ∙ ready)
        go n ready false other = further.least n (less_other (compare name n)
            (ap (λ m. is_le (compare m n)) (name_is name f the) ∙ other_from (Some f) next n other ready) other) ready

    -- it is not ready, and was not the least one
    pub stays_other : (first : Option (List ℕ)) → new name ≡ false → is_the name first ≡ false
        → IsNext is None first → IsNext new None first
    stays_other first done other next = record {
      found = there first other next.found;
      least = λ n behind ready. go n ready (same_name name n) refl;
    }
      where
        there : (o : Option (List ℕ)) → is_the name o ≡ false
            → IfSome o (λ n. (is_behind None n ≡ true) × (is n ≡ true))
            → IfSome o (λ n. (is_behind None n ≡ true) × (new n ≡ true))
        there None e h = tt
        there (Some f) e h = (refl, others f e ∙ h.1)

        go : (n : List ℕ) → new n ≡ true → (b : Bool) → same_name name n ≡ b → is_from first n ≡ true
        go n ready true same = never (sym done ∙ ap new (name_is name n same) ∙ ready)
        go n ready false other_name = other_from first next n other_name ready

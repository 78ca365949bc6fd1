-- Cells of slots, as a part of a footprint, and the runs of puts and the old values that go along with them.
use Rattle.std.proofs.Common.{◌≡◌, refl, sym, ◌∙◌, ap, subst, Bool, true, false, ◌&&◌, nat_eq, List, [], ◌∷◌, ◌++◌}
use Rattle.std.proofs.Common.{ℕ, zero, suc, ◌+◌, ◌-◌, ◌≤◌, ◌<◌, length, take, drop, get_or, arith, append_assoc}
use Rattle.std.specs.Prelude.{All, min}
use Rattle.std.specs.List.{AllByRecursion}
use Rattle.std.proofs.lemmas.List.{append-nil, length-append}
use Rattle.std.proofs.lemmas.List.Elements.{All-from_recursion, recursion_from_All, All-append}
use Rattle.om_foot.specs.declared.footprint.Access.{Access}
use Rattle.om_code.specs.declared.frame.Cell as cells
use Rattle.om_foot.specs.declared.object.SlotName.{SlotName}
use Rattle.om_foot.specs.declared.object.Cells.{Cells}
use Rattle.om_state.specs.declared.value.Run.{Run}
use Rattle.om_state.specs.declared.value.Was.{Was}
use Rattle.om_state.specs.declared.step.Update.{Update}
use Rattle.om_foot.specs.Cells.{cells_from, cells_of, cells_listed}
use Rattle.om_state.specs.Runs.{puts_of, run_puts, runs_listed, were_listed}
use Rattle.om_state.specs.State.{State, updated, undo_record, taken_back}
use Rattle.om_undo_history.specs.Backs.{backs_listed, are_along, WereAlong}
use Rattle.om_undo_history.proofs.Back.{taken_back-updated}
use Rattle.om_undo_history.proofs.Parts.{updated-parts, undo_record-parts, taken_back-parts, length-undo_record, NoneTrailed}
use Rattle.om_undo_history.proofs.Parts.{NoneTrailed-append}

-- one slot more behind others

pub cells_listed-more : (cs : List Cells) (c : Cells) → cells_listed (cs ++ c ∷ []) ≡ cells_listed cs ++ cells_of c
cells_listed-more [] c = append-nil (cells_of c)
cells_listed-more (d ∷ cs) c = ap (λ x. cells_of d ++ x) (cells_listed-more cs c)
    ∙ sym (append_assoc (cells_of d) (cells_listed cs) (cells_of c))

runs_listed-more : (rs : List Run) (r : Run) → runs_listed (rs ++ r ∷ []) ≡ runs_listed rs ++ run_puts r
runs_listed-more [] r = append-nil (run_puts r)
runs_listed-more (d ∷ rs) r = ap (λ x. run_puts d ++ x) (runs_listed-more rs r)
    ∙ sym (append_assoc (run_puts d) (runs_listed rs) (run_puts r))

backs_listed-more : (ws : List (List Was)) (w : List Was)
    → backs_listed (ws ++ w ∷ []) ≡ backs_listed ws ++ were_listed w
backs_listed-more [] w = append-nil (were_listed w)
backs_listed-more (d ∷ ws) w = ap (λ x. were_listed d ++ x) (backs_listed-more ws w)
    ∙ sym (append_assoc (were_listed d) (backs_listed ws) (were_listed w))

-- how many there are

length-cells_from : (slot : SlotName) (i n : ℕ) → length (cells_from slot i n) ≡ n
length-cells_from slot i zero = refl
length-cells_from slot i (suc n) = ap suc (length-cells_from slot (i + 1) n)

length-cells_of : (c : Cells) → length (cells_of c) ≡ c.count
length-cells_of c = length-cells_from c.slot 0 c.count

length-puts_of : (cell : cells.Cell) (n : ℕ) → length (puts_of cell n) ≡ n
length-puts_of cell zero = refl
length-puts_of cell (suc n) = ap suc (length-puts_of cell n)

both : (p q : Bool) → (p && q) ≡ true → (p ≡ true) × (q ≡ true)
both true q h = (refl, h)
both false q h = cc

counts : (m n : ℕ) → nat_eq m n ≡ true → m ≡ n
counts m n h = grind (arith, h)

pub along_count : (c : Cells) (cs : List Cells) (r : Run) (rs : List Run) → are_along (c ∷ cs) (r ∷ rs) ≡ true
    → (c.count ≡ r.count) × (are_along cs rs ≡ true)
along_count c cs r rs h =
    let parts = both (nat_eq c.count r.count) (are_along cs rs) h in
    (counts c.count r.count parts.0, parts.1)

pub along_lengths : (cs : List Cells) (rs : List Run) → are_along cs rs ≡ true
    → length (cells_listed cs) ≡ length (runs_listed rs)
along_lengths [] [] h = refl
along_lengths [] (r ∷ rs) h = cc
along_lengths (c ∷ cs) [] h = cc
along_lengths (c ∷ cs) (r ∷ rs) h =
    let parts = along_count c cs r rs h in
    length-append (cells_of c) (cells_listed cs)
    ∙ (λ i. (length-cells_of c ∙ parts.0 ∙ sym (length-puts_of r.cell r.count)) i + along_lengths cs rs parts.1 i)
    ∙ sym (length-append (run_puts r) (runs_listed rs))

pub were_lengths : (cs : List Cells) (ws : List (List Was)) → WereAlong cs ws
    → length (cells_listed cs) ≡ length (backs_listed ws)
were_lengths [] [] h = refl
were_lengths [] (w ∷ ws) h = absurd h
were_lengths (c ∷ cs) [] h = absurd h
were_lengths (c ∷ cs) (w ∷ ws) h =
    length-append (cells_of c) (cells_listed cs)
    ∙ (λ i. (length-cells_of c ∙ sym h.0) i + were_lengths cs ws h.1 i)
    ∙ sym (length-append (were_listed w) (backs_listed ws))

-- no cell is a control

plain_from : (slot : SlotName) (i n : ℕ) → NoneTrailed (cells_from slot i n)
plain_from slot i zero = tt
plain_from slot i (suc n) = (refl, plain_from slot (i + 1) n)

pub cells_plain : (cs : List Cells) → NoneTrailed (cells_listed cs)
cells_plain [] = tt
cells_plain (c ∷ cs) = NoneTrailed-append (cells_of c) (cells_listed cs) (plain_from c.slot 0 c.count) (cells_plain cs)

-- the first slots, of all

along_take : (i : ℕ) (cs : List Cells) (rs : List Run) → are_along cs rs ≡ true
    → are_along (take i cs) (take i rs) ≡ true
along_take zero cs rs h = refl
along_take (suc i) [] [] h = refl
along_take (suc i) [] (r ∷ rs) h = cc
along_take (suc i) (c ∷ cs) [] h = cc
along_take (suc i) (c ∷ cs) (r ∷ rs) h =
    let parts = both (nat_eq c.count r.count) (are_along cs rs) h in
    ap (λ p. p && are_along (take i cs) (take i rs)) parts.0 ∙ along_take i cs rs parts.1

along_at : (i : ℕ) (cs : List Cells) (rs : List Run) (c : Cells) (r : Run) → i < length cs → i < length rs
    → are_along cs rs ≡ true → (get_or cs i c).count ≡ (get_or rs i r).count
along_at i [] rs c r h k along = absurd (omega arith)
along_at i (d ∷ cs) [] c r h k along = absurd (omega arith)
along_at zero (d ∷ cs) (e ∷ rs) c r h k along = (along_count d cs e rs along).0
along_at (suc i) (d ∷ cs) (e ∷ rs) c r h k along =
    along_at i cs rs c r (omega arith) (omega arith) (along_count d cs e rs along).1

pub along_all : (i : ℕ) (cs : List Cells) (rs : List Run) → are_along cs rs ≡ true → min (length cs) (length rs) ≤ i
    → (take i cs ≡ cs) × (take i rs ≡ rs)
along_all zero [] [] h k = (refl, refl)
along_all zero [] (r ∷ rs) h k = cc
along_all zero (c ∷ cs) [] h k = cc
along_all zero (c ∷ cs) (r ∷ rs) h k = absurd (omega arith)
along_all (suc i) [] [] h k = (refl, refl)
along_all (suc i) [] (r ∷ rs) h k = cc
along_all (suc i) (c ∷ cs) [] h k = cc
along_all (suc i) (c ∷ cs) (r ∷ rs) h k =
    let rest = along_all i cs rs (along_count c cs r rs h).1 (omega arith) in
    (ap (λ x. c ∷ x) rest.0, ap (λ x. r ∷ x) rest.1)

-- what is true of each access of two lists

split_recursion : (P : Access → Type 0) (xs ys : List Access) → AllByRecursion P (xs ++ ys)
    → AllByRecursion P xs × AllByRecursion P ys
split_recursion P [] ys h = (tt, h)
split_recursion P (x ∷ xs) ys h = let parts = split_recursion P xs ys h.1 in ((h.0, parts.0), parts.1)

pub All-split : (P : Access → Type 0) (xs ys : List Access) → All P (xs ++ ys) → All P xs × All P ys
All-split P xs ys h =
    let parts = split_recursion P xs ys (recursion_from_All P (xs ++ ys) h) in
    (All-from_recursion P xs parts.0, All-from_recursion P ys parts.1)

pub All-at : (P : Access → Type 0) (i : ℕ) (cs : List Cells) (c : Cells) → i < length cs → All P (cells_listed cs)
    → All P (cells_of (get_or cs i c))
All-at P i [] c h all = absurd (omega arith)
All-at P zero (d ∷ cs) c h all = (All-split P (cells_of d) (cells_listed cs) all).0
All-at P (suc i) (d ∷ cs) c h all = All-at P i cs c (omega arith) (All-split P (cells_of d) (cells_listed cs) all).1

pub All-first : (P : Access → Type 0) (i : ℕ) (cs : List Cells) → All P (cells_listed cs)
    → All P (cells_listed (take i cs))
All-first P i cs all = All-from_recursion P (cells_listed (take i cs))
    (go i cs (recursion_from_All P (cells_listed cs) all))
  where
    go : (i : ℕ) (cs : List Cells) → AllByRecursion P (cells_listed cs) → AllByRecursion P (cells_listed (take i cs))
    go zero cs h = tt
    go (suc i) [] h = tt
    go (suc i) (c ∷ cs) h =
        let parts = split_recursion P (cells_of c) (cells_listed cs) h in
        join (cells_of c) (cells_listed (take i cs)) parts.0 (go i cs parts.1)
      where
        join : (xs ys : List Access) → AllByRecursion P xs → AllByRecursion P ys → AllByRecursion P (xs ++ ys)
        join [] ys f g = g
        join (x ∷ xs) ys f g = (f.0, join xs ys f.1 g)

-- puts at the cells of some slots were made from a state, and these are what the cells were
pub record CellsMade (cs : List Cells) (rs : List Run) (ws : List (List Was)) (s now : State) : Type 0 where
  pub along : WereAlong cs ws
  pub were : backs_listed ws ≡ undo_record (cells_listed cs) (runs_listed rs) s
  pub state : now ≡ updated (cells_listed cs) (runs_listed rs) s

were_more : (cs : List Cells) (ws : List (List Was)) (c : Cells) (w : List Was) → WereAlong cs ws
    → length (were_listed w) ≡ c.count → WereAlong (cs ++ c ∷ []) (ws ++ w ∷ [])
were_more [] [] c w h k = (k, tt)
were_more [] (v ∷ ws) c w h k = absurd h
were_more (d ∷ cs) [] c w h k = absurd h
were_more (d ∷ cs) (v ∷ ws) c w h k = (h.0, were_more cs ws c w h.1 k)

cells_more : (cs : List Cells) (rs : List Run) (ws : List (List Was)) (s now next : State) (c : Cells) (r : Run)
    (w : List Was) → length (cells_listed cs) ≡ length (runs_listed rs) → c.count ≡ r.count
    → CellsMade cs rs ws s now → were_listed w ≡ undo_record (cells_of c) (puts_of r.cell c.count) now
    → next ≡ updated (cells_of c) (puts_of r.cell c.count) now
    → CellsMade (cs ++ c ∷ []) (rs ++ r ∷ []) (ws ++ w ∷ []) s next
cells_more cs rs ws s now next c r w long same made e_w e_s =
    let puts : puts_of r.cell c.count ≡ run_puts r = ap (puts_of r.cell) same in
    let there : now ≡ updated (cells_listed cs) (runs_listed rs) s = made.state in
    let was : were_listed w ≡ undo_record (cells_of c) (run_puts r) (updated (cells_listed cs) (runs_listed rs) s) =
    e_w ∙ (λ i. undo_record (cells_of c) (puts i) (there i)) in
    record {
      along = were_more cs ws c w made.along (ap length e_w ∙ length-undo_record (cells_of c) (puts_of r.cell c.count) now
          ∙ length-puts_of r.cell c.count);
      were = backs_listed-more ws w ∙ (λ i. made.were i ++ was i)
          ∙ sym (undo_record-parts (cells_listed cs) (cells_of c) (runs_listed rs) (run_puts r) s long)
          ∙ (λ i. undo_record (sym (cells_listed-more cs c) i) (sym (runs_listed-more rs r) i) s);
      state = e_s ∙ (λ i. updated (cells_of c) (puts i) (there i))
          ∙ sym (updated-parts (cells_listed cs) (cells_of c) (runs_listed rs) (run_puts r) s long)
          ∙ (λ i. updated (sym (cells_listed-more cs c) i) (sym (runs_listed-more rs r) i) s);
    }

module _ (i : ℕ) (cs : List Cells) (rs : List Run) (ws : List (List Was)) (s now next : State) (c : Cells) (r : Run)
    (w : List Was) (along : are_along cs rs ≡ true) (h : i < length cs) (k : i < length rs) (e_c : c ≡ get_or cs i c)
    (e_r : r ≡ get_or rs i r) (first : take (i + 1) cs ≡ take i cs ++ get_or cs i c ∷ [])
    (runs : take (i + 1) rs ≡ take i rs ++ get_or rs i r ∷ [])
    (made : CellsMade (take i cs) (take i rs) ws s now) where
  pub one_slot_more : were_listed w ≡ undo_record (cells_of c) (puts_of r.cell c.count) now
      → next ≡ updated (cells_of c) (puts_of r.cell c.count) now
      → CellsMade (take (i + 1) cs) (take (i + 1) rs) (ws ++ w ∷ []) s next
  one_slot_more e_w e_s =
      let same : c.count ≡ r.count = ap (λ (x : Cells). x.count) e_c ∙ along_at i cs rs c r h k along
      ∙ ap (λ (x : Run). x.count) (sym e_r) in
      subst (λ x. CellsMade x (take (i + 1) rs) (ws ++ w ∷ []) s next)
      (sym (first ∙ ap (λ x. take i cs ++ x ∷ []) (sym e_c)))
      (subst (λ y. CellsMade (take i cs ++ c ∷ []) y (ws ++ w ∷ []) s next)
      (sym (runs ∙ ap (λ x. take i rs ++ x ∷ []) (sym e_r)))
      (cells_more (take i cs) (take i rs) ws s now next c r w
      (along_lengths (take i cs) (take i rs) (along_take i cs rs along)) same made e_w e_s))

-- what was made is taken back
pub cells_back : (cs : List Cells) (rs : List Run) (ws : List (List Was)) (s now : State) → CellsMade cs rs ws s now
    → taken_back (cells_listed cs) (backs_listed ws) now ≡ s
cells_back cs rs ws s now made =
    (λ i. taken_back (cells_listed cs) (made.were i) (made.state i))
    ∙ taken_back-updated (cells_listed cs) (runs_listed rs) s

-- the last of some slots is taken back first

pub were_less : (cs : List Cells) (ws : List (List Was)) (c : Cells) (w : List Was)
    → WereAlong (cs ++ c ∷ []) (ws ++ w ∷ []) → WereAlong cs ws × (length (were_listed w) ≡ c.count)
were_less [] [] c w h = (tt, h.0)
were_less [] (v ∷ []) c w h = absurd h.1
were_less [] (v ∷ (u ∷ ws)) c w h = absurd h.1
were_less (d ∷ []) [] c w h = absurd h.1
were_less (d ∷ (e ∷ cs)) [] c w h = absurd h.1
were_less (d ∷ cs) (v ∷ ws) c w h = let rest = were_less cs ws c w h.1 in ((h.0, rest.0), rest.1)

pub back-less : (cs : List Cells) (ws : List (List Was)) (c : Cells) (w : List Was) (s : State)
    → WereAlong (cs ++ c ∷ []) (ws ++ w ∷ [])
    → taken_back (cells_listed (cs ++ c ∷ [])) (backs_listed (ws ++ w ∷ [])) s
    ≡ taken_back (cells_listed cs) (backs_listed ws) (taken_back (cells_of c) (were_listed w) s)
back-less cs ws c w s h =
    (λ i. taken_back (cells_listed-more cs c i) (backs_listed-more ws w i) s)
    ∙ taken_back-parts (cells_listed cs) (cells_of c) (backs_listed ws) (were_listed w) s
    (were_lengths cs ws (were_less cs ws c w h).0)

-- a turn of what takes them back: the last slot, and the others

pub last_split : (P : Access → Type 0) (all earlier : List Cells) (c : Cells) → all ≡ earlier ++ c ∷ []
    → All P (cells_listed all) → All P (cells_listed earlier) × All P (cells_of c)
last_split P all earlier c is h = All-split P (cells_listed earlier) (cells_of c)
    (subst (All P) (ap cells_listed is ∙ cells_listed-more earlier c) h)

pub were_split : (all earlier : List Cells) (c : Cells) (were ws : List (List Was)) (w : List Was)
    → all ≡ earlier ++ c ∷ [] → were ≡ ws ++ w ∷ [] → WereAlong all were → WereAlong earlier ws
were_split all earlier c were ws w is e h =
    (were_less earlier ws c w (subst (λ x. WereAlong x (ws ++ w ∷ [])) is (subst (WereAlong all) e h))).0

pub slot_back : (all earlier : List Cells) (c : Cells) (were ws : List (List Was)) (w : List Was) (s now : State)
    → all ≡ earlier ++ c ∷ [] → were ≡ ws ++ w ∷ [] → WereAlong all were
    → now ≡ taken_back (cells_of c) (were_listed w) s
    → taken_back (cells_listed earlier) (backs_listed ws) now ≡ taken_back (cells_listed all) (backs_listed were) s
slot_back all earlier c were ws w s now is e h there =
    ap (taken_back (cells_listed earlier) (backs_listed ws)) there
    ∙ sym (back-less earlier ws c w s (subst (λ x. WereAlong x (ws ++ w ∷ [])) is (subst (WereAlong all) e h)))
    ∙ (λ i. taken_back (cells_listed (sym is i)) (backs_listed (sym e i)) s)

no_back : (xs : List Access) (s : State) → taken_back xs [] s ≡ s
no_back [] s = refl
no_back (a ∷ xs) s = refl

pub none_back : (all : List Cells) (were ws : List (List Was)) (n : ℕ) (s : State) → were ≡ ws ++ []
    → ws ≡ take (n - 1) were → n ≡ 0 → s ≡ taken_back (cells_listed all) (backs_listed were) s
none_back all were ws n s e_w e_t e_n =
    let none : were ≡ [] = e_w ∙ ap (λ x. x ++ []) (e_t ∙ ap (λ k. take (k - 1) were) e_n) in
    sym (no_back (cells_listed all) s) ∙ ap (λ x. taken_back (cells_listed all) (backs_listed x) s) (sym none)

-- what is true of each access of three parts is true of all
pub All-front : (P : Access → Type 0) (a : Access) (xs : List Access) → P a → All P xs → All P (a ∷ xs)
All-front P a xs one all = All-from_recursion P (a ∷ xs) (one, recursion_from_All P xs all)

pub All-three : (P : Access → Type 0) (a : Access) (names first ms last : List Access)
    → names ≡ first ++ (ms ++ last) → P a → All P first → All P ms → All P last → All P (a ∷ names)
All-three P a names first ms last is own one two three = subst (λ x. All P (a ∷ x)) (sym is)
    (All-front P a (first ++ (ms ++ last)) own (All-append P first (ms ++ last) one (All-append P ms last two three)))

-- What the entry of an argument gives, where its command has no groups: a first value that passed its parser.
use Rattle.std.proofs.Common.{◌≡◌, ◌∙◌, ◌<◌, zero, suc, ℕ, Bool, true, false, List, [], ◌∷◌, length, ◌⊎◌, Some}
use Rattle.std.proofs.Common.{refl, sym, subst, inl, inr, arith}
use Rattle.std.specs.List.{All}
use Rattle.std.specs.Str.{bytes_eq}
use Rattle.std.specs.Prelude.{find, option_map, slice_get}
use Rattle.std.specs.Borrow.{Bor}
use Rattle.std.proofs.lemmas.List.Elements.{All-get_or}
use Rattle.clap.specs.Facts.{groups_of, Entry, EntryPasses, EntryValuesPass, PassesArg, HasReading, HasIn}
use Rattle.clap.specs.Facts.{AllowsNone, IsCountArg, IsFilledEntry, IsGroupEntry, ReadsByParser}
use Rattle.clap.specs.Matches.{matched_of, one_text}
use Rattle.clap.specs.Values.{read_as}
use Rattle.clap.specs.declared.builder.command.Command.{Command}
use Rattle.clap.specs.declared.builder.value_parser.Reading.{Reading}
use Rattle.clap.specs.declared.parser.matches.Found.{Found}
use Rattle.clap.specs.declared.parser.matches.MatchedArg.{MatchedArg}

first_or_later : (e : Entry) (es : List Entry) (id : List ℕ) (b : Bool) → bytes_eq e.0.now id ≡ b
    → (b ≡ false → (x : MatchedArg) × (option_map (λ y. y.1) (find (λ y. bytes_eq y.0.now id) es) ≡ Some x))
    → (x : MatchedArg) × (option_map (λ y. y.1) (find (λ y. bytes_eq y.0.now id) (e ∷ es)) ≡ Some x)
first_or_later e es id true is later = (e.1, rw is refl)
first_or_later e es id false is later = let found = later refl in (found.0, rw is found.1)

-- an entry of the id is found by it
pub found_in : (es : List Entry) (id : List ℕ) → HasIn es id
    → (x : MatchedArg) × (option_map (λ y. y.1) (find (λ y. bytes_eq y.0.now id) es) ≡ Some x)
found_in [] id (i, within, is) = absurd (omega (arith, within))
found_in (e ∷ es) id (zero, within, is) = first_or_later e es id true (is e) (λ no. absurd (let bad : true ≡ false = no in cc))
found_in (e ∷ es) id (suc i, within, is) = first_or_later e es id (bytes_eq e.0.now id) refl
    (λ no. found_in es id (i, omega (arith, within), λ d. is d))

first_read : (P : Bor (List ℕ) → Type 0) (how : Reading) (vs : List (Bor (List ℕ))) → All P vs → 0 < length vs
    → (v : Bor (List ℕ)) × (option_map (λ s. read_as how s.now) (slice_get vs 0) ≡ Some (read_as how v.now)) × P v
first_read P how [] all some = absurd (omega (arith, some))
first_read P how (v ∷ vs) all some = (v, refl, All-get_or P (v ∷ vs) 0 v (omega arith) all)

text_at : (f : Found) (id : List ℕ) (x : MatchedArg) (how : Reading) (t : List ℕ) → matched_of f id ≡ Some x
    → x.reading ≡ how → option_map (λ s. read_as how s.now) (slice_get x.vals.items 0) ≡ Some t → one_text f id ≡ Some t
text_at f id x how t found is v = rw (found, is) v

-- the entry of an argument is no group's
no_group : (c : Command) (id : List ℕ) (e : Entry) → groups_of c ≡ [] → (id ≡ [] → ⊥) → e.0.now ≡ id → IsGroupEntry c e
    → e.1.is_group ≡ true → ⊥
no_group c id e groups named key pass g = go (pass g)
  where
    go : (e.0.now ≡ []) ⊎ (0 < length (groups_of c)) → ⊥
    go (inl none) = named (sym key ∙ none)
    go (inr some) =
        let bad : 0 < 0 = rw groups at some in
        omega (arith, bad)

all_pass : (c : Command) (id : List ℕ) (x : MatchedArg) (e : Entry) → (e.1.is_group ≡ true → ⊥) → e.1 ≡ x → e.0.now ≡ id
    → EntryValuesPass c e → All (λ v. PassesArg c id v.now) x.vals.items
all_pass c id x e alone same key (inl g) = absurd (alone g)
all_pass c id x e alone same key (inr vals) = subst (λ (w : List ℕ). All (λ v. PassesArg c w v.now) x.vals.items) key
    (subst (λ (y : MatchedArg). All (λ v. PassesArg c e.0.now v.now) y.vals.items) same vals)

is_read : (c : Command) (id : List ℕ) (x : MatchedArg) (e : Entry) → (e.1.is_group ≡ true → ⊥) → e.1 ≡ x → e.0.now ≡ id
    → ReadsByParser c e → HasReading c id x.reading
is_read c id x e alone same key (inl g) = absurd (alone g)
is_read c id x e alone same key (inr h) = subst (λ (w : List ℕ). HasReading c w x.reading) key
    (subst (λ (y : MatchedArg). HasReading c e.0.now y.reading) same h)

is_filled : (c : Command) (id : List ℕ) (x : MatchedArg) (e : Entry) → (e.1.is_group ≡ true → ⊥)
    → (IsCountArg c id → ⊥) → (AllowsNone c id → ⊥) → e.1 ≡ x → e.0.now ≡ id → IsFilledEntry c e
    → 0 < length x.vals.items
is_filled c id x e alone counts empty same key (inl h) = absurd (alone h.0)
is_filled c id x e alone counts empty same key (inr (inl v)) =
    subst (λ (y : MatchedArg). 0 < length y.vals.items) same v
is_filled c id x e alone counts empty same key (inr (inr (inl h))) =
    absurd (counts (subst (λ (w : List ℕ). IsCountArg c w) key h.1))
is_filled c id x e alone counts empty same key (inr (inr (inr h))) =
    absurd (empty (subst (λ (w : List ℕ). AllowsNone c w) key h))

told : (f : Found) (id : List ℕ) (Q : List ℕ → Type 0) (P : Bor (List ℕ) → Type 0) (how : Reading) (x : MatchedArg)
    → matched_of f id ≡ Some x → x.reading ≡ how → ((v : Bor (List ℕ)) → P v → Q v.now)
    → ((v : Bor (List ℕ)) × (option_map (λ s. read_as how s.now) (slice_get x.vals.items 0) ≡ Some (read_as how v.now)) × P v)
    → (t : List ℕ) × (one_text f id ≡ Some (read_as how t)) × Q t
told f id Q P how x found is read first =
    (first.0.now, text_at f id x how (read_as how first.0.now) found is first.1, read first.0 first.2)

-- the entry of an argument that neither counts nor goes without a value is read as its parser says
pub entry_read : (c : Command) (f : Found) (id : List ℕ) (Q : List ℕ → Type 0) (how : Reading) (x : MatchedArg)
    (e : Entry) → groups_of c ≡ [] → (id ≡ [] → ⊥) → (IsCountArg c id → ⊥) → (AllowsNone c id → ⊥)
    → ((r : Reading) → HasReading c id r → r ≡ how) → ((v : Bor (List ℕ)) → PassesArg c id v.now → Q v.now)
    → matched_of f id ≡ Some x → e.1 ≡ x → e.0.now ≡ id → EntryPasses c e
    → (t : List ℕ) × (one_text f id ≡ Some (read_as how t)) × Q t
entry_read c f id Q how x e groups named counts empty reads read found same key pass =
    let alone = no_group c id e groups named key pass.3 in
    told f id Q (λ v. PassesArg c id v.now) how x found (reads x.reading (is_read c id x e alone same key pass.4)) read
    (first_read (λ v. PassesArg c id v.now) how x.vals.items (all_pass c id x e alone same key pass.0)
    (is_filled c id x e alone counts empty same key pass.1))

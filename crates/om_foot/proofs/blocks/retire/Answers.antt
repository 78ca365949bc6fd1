use Rattle.std.proofs.Common.{◌≡◌, ◌∙◌, sym, refl, ap, subst, Bool, ℕ, nat_eq, nat_lt, cond, Option, Some, None, false, true, ◌++◌, ◌∷◌, [], ◌<◌, arith}
use Rattle.std.specs.Prelude.{◌&&◌, ◌/◌, ◌%◌, ◌^◌}
use Rattle.om_foot.specs.Blocks.{Numbered, block_of, AreRising, is_offset}
use Rattle.om_foot.proofs.RisingBlocks.{pushed, rising-push}
use Rattle.om_foot.proofs.blocks.retire.Goals as goal

all : (c : goal.After-push_reserved) → (q : ℕ) → block_of c.push_reserved.new.self.items q
    ≡ cond (nat_eq c.args.number q) (Some c.in-Some.offsets) (block_of c.args.older.now.items q)
all c q = ap (λ bs. block_of bs q) (c.push_reserved.ensures.items ∙ ap (λ (bs : Numbered). bs ++ (c.args.number, c.in-Some.offsets) ∷ []) c.reserve.ensures.items)
    ∙ pushed c.args.number c.in-Some.offsets c.args.older.now.items q c.requires.rising c.requires.before

pub returns-in-Some-clause-rising : goal.returns-in-Some-clause-rising
returns-in-Some-clause-rising c = subst (AreRising 0)
    (sym (c.push_reserved.ensures.items ∙ ap (λ (bs : Numbered). bs ++ (c.args.number, c.in-Some.offsets) ∷ []) c.reserve.ensures.items))
    (rising-push c.args.number c.in-Some.offsets c.args.older.now.items c.requires.rising c.requires.before)

-- a serial is in a set of blocks and one more, where that one is not among them
with_one : (low at : Bool) (o k : ℕ) (old : Option ℕ) → (at ≡ true → old ≡ None)
    → (low && is_offset (cond at (Some o) old) k) ≡ cond (low && (at && is_offset (Some o) k)) true (low && is_offset old k)
with_one false at o k old new = refl
with_one true false o k old new = refl
with_one true true o k old new = go (is_offset (Some o) k)
  where
    go : (b : Bool) → b ≡ cond b true (is_offset old k)
    go true = refl
    go false = sym (ap (λ x. is_offset x k) (new refl))

newest_is : (c : goal.After-push_reserved) → Some c.in-Some.offsets ≡ c.args.newest.now
newest_is c = sym c.in-Some.is ∙ c.take.ensures.value

pub returns-in-Some-clause-retired : goal.returns-in-Some-clause-retired
returns-in-Some-clause-retired c s =
    let old = c.args.older.now.items in
    let n = s / 64 in
    let low = nat_lt n (2 ^ 58) in
    ap (λ x. low && is_offset x (s % 64)) (all c n)
    ∙ with_one low (nat_eq c.args.number n) c.in-Some.offsets (s % 64) (block_of old n)
    (λ same. c.requires.before n (grind (arith, same)))
    ∙ ap (λ x. cond (low && (nat_eq c.args.number n && is_offset x (s % 64))) true (low && is_offset (block_of old n) (s % 64)))
    (newest_is c)

pub returns-in-Some-clause-before : goal.returns-in-Some-clause-before
returns-in-Some-clause-before c q from =
    let above : c.args.number < q = grind (arith, from) in
    let other : nat_eq c.args.number q ≡ false = grind (arith, above) in
    let no_less : nat_lt q c.args.number ≡ false = grind (arith, above) in
    all c q
    ∙ ap (λ t. cond t (Some c.in-Some.offsets) (block_of c.args.older.now.items q)) other
    ∙ c.requires.before q no_less

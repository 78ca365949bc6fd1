-- What a name means at an instruction, by the scopes that are found from one place of a body to another.
use Rattle.std.proofs.Common.{◌≡◌, ℕ, ◌<◌, ◌≤◌, ◌∙◌, Bool, true, false, List, [], ◌∷◌, ◌++◌, Option, None}
use Rattle.std.proofs.Common.{Some, map, reverse, refl, sym, ap, subst, arith, nat_le, nat_lt, bytes_eq, ⊎_elim}
use Rattle.std.specs.Prelude.{◌&&◌, if◌then◌else◌}
use Rattle.std.specs.Option.{option_or}
use Rattle.std.proofs.lemmas.Bool.{cases_lt, le-leb, le-ltb, lt-leb, lt-ltb}
use Rattle.om_lower_rules.specs.declared.variables.VariableScope.{VariableScope}
use Rattle.om_lower_rules.specs.Scopes.{Found, ◌then◌, closed_at, ending, nothing}
use Rattle.om_name_laws.specs.Sees.{Known, known_as}
use mathlib.Core.List.{reverse-cons}

-- ---- choices

pub or_none : {A : Type 0} (o : Option A) → option_or o None ≡ o
or_none None = refl
or_none (Some x) = refl

or_assoc : {A : Type 0} (a b c : Option A) → option_or (option_or a b) c ≡ option_or a (option_or b c)
or_assoc None b c = refl
or_assoc (Some x) b c = refl

le_false : (m n : ℕ) → n < m → nat_le m n ≡ false
le_false m n lt = lt-leb m n lt

lt_false : (m n : ℕ) → n ≤ m → nat_lt m n ≡ false
lt_false m n le = le-ltb m n le

le_true : (m n : ℕ) → m ≤ n → nat_le m n ≡ true
le_true m n le = le-leb m n le

lt_true : (m n : ℕ) → m < n → nat_lt m n ≡ true
lt_true m n lt = lt-ltb m n lt

-- ---- meanings

abbrev pub known_scope : VariableScope → Known
known_scope v = record { name = v.name; at = v.variable; length = v.length }

-- the variable of the innermost scope of a name that holds a place, among scopes that have ended, the innermost first
abbrev pub closed_meaning : ℕ → List ℕ → List VariableScope → Option Known
closed_meaning r name [] = None
closed_meaning r name (v ∷ vs) =
    if nat_le v.from r && (nat_lt r v.to && bytes_eq name v.name) then Some (known_scope v)
    else closed_meaning r name vs

abbrev pub open_one : ℕ → List ℕ → VariableScope → Option Known
open_one r name v = if nat_le v.from r && bytes_eq name v.name then Some (known_scope v) else None

-- among scopes that have begun, the innermost last
abbrev pub opened_meaning : ℕ → List ℕ → List VariableScope → Option Known
opened_meaning r name [] = None
opened_meaning r name (v ∷ vs) = option_or (opened_meaning r name vs) (open_one r name v)

abbrev pub found_meaning : ℕ → List ℕ → Found → Option Known
found_meaning r name f = option_or (closed_meaning r name f.closed) (opened_meaning r name f.opened)

-- behind scopes that have begun
abbrev pub pushed : List Known → List VariableScope → List Known
pushed ks [] = ks
pushed ks (v ∷ vs) = pushed (known_scope v ∷ ks) vs

-- scopes that have ended begin and end there
abbrev pub AreClosed : (p q : ℕ) → List VariableScope → Type 0
AreClosed p q [] = Unit {0}
AreClosed p q (v ∷ vs) = (p ≤ v.from) × (v.to ≤ q) × AreClosed p q vs

-- scopes that go on begin there
abbrev pub AreOpen : (p q : ℕ) → List VariableScope → Type 0
AreOpen p q [] = Unit {0}
AreOpen p q (v ∷ vs) = (p ≤ v.from) × (v.from ≤ q) × AreOpen p q vs

-- ---- places wider apart

closed_wider : (p q p' q' : ℕ) (vs : List VariableScope) → p' ≤ p → q ≤ q' → AreClosed p q vs → AreClosed p' q' vs
closed_wider p q p' q' [] lo hi h = tt
closed_wider p q p' q' (v ∷ vs) lo hi h =
    let a = h.0 in let b = h.1 in
    (omega (arith, lo, a), omega (arith, hi, b), closed_wider p q p' q' vs lo hi h.2)

open_wider : (p q p' q' : ℕ) (vs : List VariableScope) → p' ≤ p → q ≤ q' → AreOpen p q vs → AreOpen p' q' vs
open_wider p q p' q' [] lo hi h = tt
open_wider p q p' q' (v ∷ vs) lo hi h =
    let a = h.0 in let b = h.1 in
    (omega (arith, lo, a), omega (arith, hi, b), open_wider p q p' q' vs lo hi h.2)

closed_append : (p q : ℕ) (vs ws : List VariableScope) → AreClosed p q vs → AreClosed p q ws
    → AreClosed p q (vs ++ ws)
closed_append p q [] ws h g = g
closed_append p q (v ∷ vs) ws h g = (h.0, h.1, closed_append p q vs ws h.2 g)

open_append : (p q : ℕ) (vs ws : List VariableScope) → AreOpen p q vs → AreOpen p q ws → AreOpen p q (vs ++ ws)
open_append p q [] ws h g = g
open_append p q (v ∷ vs) ws h g = (h.0, h.1, open_append p q vs ws h.2 g)

map_push : (q : ℕ) (xs : List VariableScope) (x : VariableScope)
    → map (closed_at q) (xs ++ x ∷ []) ≡ map (closed_at q) xs ++ closed_at q x ∷ []
map_push q [] x = refl
map_push q (y ∷ xs) x = ap (λ z. closed_at q y ∷ z) (map_push q xs x)

-- those that go on, once they are ended, the last one first
ended : (p q : ℕ) (vs : List VariableScope) → AreOpen p q vs → AreClosed p q (map (closed_at q) (reverse vs))
ended p q [] h = tt
ended p q (v ∷ vs) h =
    subst (AreClosed p q) (sym (ap (λ z. map (closed_at q) z) (reverse-cons v vs) ∙ map_push q (reverse vs) v))
    (closed_append p q (map (closed_at q) (reverse vs)) (closed_at q v ∷ []) (ended p q vs h.2)
    (h.0, omega arith, tt))

-- ---- scopes elsewhere

closed_before : (p q r : ℕ) (name : List ℕ) (vs : List VariableScope) → AreClosed p q vs → q ≤ r
    → closed_meaning r name vs ≡ None
closed_before p q r name [] h le = refl
closed_before p q r name (v ∷ vs) h le =
    let b = h.1 in
    let over : nat_lt r v.to ≡ false = lt_false r v.to (omega (arith, b, le)) in
    ap (λ t. if nat_le v.from r && (t && bytes_eq name v.name) then Some (known_scope v) else
    closed_meaning r name vs) over
    ∙ none (nat_le v.from r) ∙ closed_before p q r name vs h.2 le
  where
    none : (t : Bool) → (if t && false then Some (known_scope v) else closed_meaning r name vs)
        ≡ closed_meaning r name vs
    none true = refl
    none false = refl

closed_behind : (p q r : ℕ) (name : List ℕ) (vs : List VariableScope) → AreClosed p q vs → r < p
    → closed_meaning r name vs ≡ None
closed_behind p q r name [] h lt = refl
closed_behind p q r name (v ∷ vs) h lt =
    let a = h.0 in
    let later : nat_le v.from r ≡ false = le_false v.from r (omega (arith, a, lt)) in
    ap (λ t. if t && (nat_lt r v.to && bytes_eq name v.name) then Some (known_scope v) else
    closed_meaning r name vs) later
    ∙ closed_behind p q r name vs h.2 lt

opened_behind : (p q r : ℕ) (name : List ℕ) (vs : List VariableScope) → AreOpen p q vs → r < p
    → opened_meaning r name vs ≡ None
opened_behind p q r name [] h lt = refl
opened_behind p q r name (v ∷ vs) h lt =
    let a = h.0 in
    let later : nat_le v.from r ≡ false = le_false v.from r (omega (arith, a, lt)) in
    ap (λ o. option_or o (open_one r name v)) (opened_behind p q r name vs h.2 lt)
    ∙ ap (λ t. if t && bytes_eq name v.name then Some (known_scope v) else None) later

-- those that have begun stand in front of what was in scope
opened_pushed : (p q r : ℕ) (name : List ℕ) (vs : List VariableScope) (ks : List Known) → AreOpen p q vs → q ≤ r
    → option_or (opened_meaning r name vs) (known_as name ks) ≡ known_as name (pushed ks vs)
opened_pushed p q r name [] ks h le = refl
opened_pushed p q r name (v ∷ vs) ks h le =
    let b = h.1 in
    let begun : nat_le v.from r ≡ true = le_true v.from r (omega (arith, b, le)) in
    or_assoc (opened_meaning r name vs) (open_one r name v) (known_as name ks)
    ∙ ap (λ z. option_or (opened_meaning r name vs) z)
    (ap (λ t. option_or (if t && bytes_eq name v.name then Some (known_scope v) else None)
    (known_as name ks)) begun ∙ first (bytes_eq name v.name))
    ∙ opened_pushed p q r name vs (known_scope v ∷ ks) h.2 le
  where
    first : (t : Bool)
        → option_or (if t then Some (known_scope v) else None) (known_as name ks)
        ≡ (if t then Some (known_scope v) else known_as name ks)
    first true = refl
    first false = refl

closed_both : (r : ℕ) (name : List ℕ) (vs ws : List VariableScope)
    → closed_meaning r name (vs ++ ws) ≡ option_or (closed_meaning r name vs) (closed_meaning r name ws)
closed_both r name [] ws = refl
closed_both r name (v ∷ vs) ws =
    first (nat_le v.from r && (nat_lt r v.to && bytes_eq name v.name)) (closed_both r name vs ws)
  where
    first : (t : Bool)
        → closed_meaning r name (vs ++ ws) ≡ option_or (closed_meaning r name vs) (closed_meaning r name ws)
        → (if t then Some (known_scope v) else closed_meaning r name (vs ++ ws))
        ≡ option_or (if t then Some (known_scope v) else closed_meaning r name vs)
        (closed_meaning r name ws)
    first true e = refl
    first false e = e

opened_both : (r : ℕ) (name : List ℕ) (vs ws : List VariableScope)
    → opened_meaning r name (vs ++ ws) ≡ option_or (opened_meaning r name ws) (opened_meaning r name vs)
opened_both r name [] ws = sym (or_none (opened_meaning r name ws))
opened_both r name (v ∷ vs) ws =
    ap (λ z. option_or z (open_one r name v)) (opened_both r name vs ws)
    ∙ or_assoc (opened_meaning r name ws) (opened_meaning r name vs) (open_one r name v)

pushed_both : (ks : List Known) (vs ws : List VariableScope) → pushed ks (vs ++ ws) ≡ pushed (pushed ks vs) ws
pushed_both ks [] ws = refl
pushed_both ks (v ∷ vs) ws = pushed_both (known_scope v ∷ ks) vs ws

-- what ends here has the meanings of what has begun, up to here
ended_meaning : (q r : ℕ) (name : List ℕ) (vs : List VariableScope) → r < q
    → closed_meaning r name (map (closed_at q) (reverse vs)) ≡ opened_meaning r name vs
ended_meaning q r name [] lt = refl
ended_meaning q r name (v ∷ vs) lt =
    ap (λ z. closed_meaning r name z) (ap (λ z. map (closed_at q) z) (reverse-cons v vs) ∙ map_push q (reverse vs) v)
    ∙ closed_both r name (map (closed_at q) (reverse vs)) (closed_at q v ∷ [])
    ∙ ap (λ z. option_or z (closed_meaning r name (closed_at q v ∷ []))) (ended_meaning q r name vs lt)
    ∙ ap (λ t. option_or (opened_meaning r name vs) (if nat_le v.from r && (t && bytes_eq name v.name) then
    Some (known_scope v) else None)) (lt_true r q lt)

-- ---- in a body with these scopes

module _ (all : List VariableScope) where
  -- from p to q a name means what these scopes say, or else what was in scope
  pub record Sits (ks : List Known) (p q : ℕ) (f : Found) : Type 0 where
    pub by : (r : ℕ) (name : List ℕ) → p ≤ r → r < q
        → closed_meaning r name all ≡ option_or (found_meaning r name f) (known_as name ks)

  -- of two parts, in the first
  pub sits_first : (ks : List Known) (p m q : ℕ) (f g : Found) → m ≤ q → AreClosed m q g.closed
      → AreOpen m q g.opened → Sits ks p q (f then g) → Sits ks p m f
  sits_first ks p m q f g le closed opened h = record {
    by = λ r name lo hi.
        h.by r name lo (omega (arith, hi, le))
        ∙ ap (λ z. option_or z (known_as name ks))
        (ap (λ z. option_or z (opened_meaning r name (f.opened ++ g.opened)))
        (closed_both r name f.closed g.closed
        ∙ ap (λ z. option_or (closed_meaning r name f.closed) z) (closed_behind m q r name g.closed closed hi)
        ∙ or_none (closed_meaning r name f.closed))
        ∙ ap (λ z. option_or (closed_meaning r name f.closed) z)
        (opened_both r name f.opened g.opened
        ∙ ap (λ z. option_or z (opened_meaning r name f.opened)) (opened_behind m q r name g.opened opened hi)));
  }

  -- and in the second
  pub sits_second : (ks : List Known) (p m q : ℕ) (f g : Found) → p ≤ m → AreClosed p m f.closed
      → AreOpen p m f.opened → Sits ks p q (f then g) → Sits (pushed ks f.opened) m q g
  sits_second ks p m q f g le closed opened h = record {
    by = λ r name lo hi.
        h.by r name (omega (arith, lo, le)) hi
        ∙ ap (λ z. option_or z (known_as name ks))
        (ap (λ z. option_or z (opened_meaning r name (f.opened ++ g.opened)))
        (closed_both r name f.closed g.closed
        ∙ ap (λ z. option_or z (closed_meaning r name g.closed)) (closed_before p m r name f.closed closed lo))
        ∙ ap (λ z. option_or (closed_meaning r name g.closed) z) (opened_both r name f.opened g.opened)
        ∙ sym (or_assoc (closed_meaning r name g.closed) (opened_meaning r name g.opened)
        (opened_meaning r name f.opened)))
        ∙ or_assoc (found_meaning r name g) (opened_meaning r name f.opened) (known_as name ks)
        ∙ ap (λ z. option_or (found_meaning r name g) z) (opened_pushed p m r name f.opened ks opened lo);
  }

  -- behind it, in code without scopes
  pub sits_behind : (ks : List Known) (p m q : ℕ) (f : Found) → p ≤ m → AreClosed p m f.closed
      → AreOpen p m f.opened → Sits ks p q f → Sits (pushed ks f.opened) m q nothing
  sits_behind ks p m q f le closed opened h = record {
    by = λ r name lo hi.
        h.by r name (omega (arith, lo, le)) hi
        ∙ ap (λ z. option_or (option_or z (opened_meaning r name f.opened)) (known_as name ks))
        (closed_before p m r name f.closed closed lo)
        ∙ opened_pushed p m r name f.opened ks opened lo;
  }

  -- in front of it
  pub sits_before : (ks : List Known) (p m q : ℕ) (f : Found) → m ≤ q → AreClosed m q f.closed
      → AreOpen m q f.opened → Sits ks p q f → Sits ks p m nothing
  sits_before ks p m q f le closed opened h = record {
    by = λ r name lo hi.
        h.by r name lo (omega (arith, hi, le))
        ∙ ap (λ z. option_or (option_or z (opened_meaning r name f.opened)) (known_as name ks))
        (closed_behind m q r name f.closed closed hi)
        ∙ ap (λ z. option_or z (known_as name ks)) (opened_behind m q r name f.opened opened hi);
  }

  -- in less of the code
  pub sits_within : (ks : List Known) (p q p' q' : ℕ) (f : Found) → p ≤ p' → q' ≤ q → Sits ks p q f
      → Sits ks p' q' f
  sits_within ks p q p' q' f lo hi h = record {
    by = λ r name le lt. h.by r name (omega (arith, lo, le)) (omega (arith, hi, lt));
  }

  -- in a block, up to where all that it opened ends
  pub sits_block : (ks : List Known) (p q : ℕ) (f : Found) → Sits ks p q (ending q f) → Sits ks p q f
  sits_block ks p q f h = record {
    by = λ r name lo hi.
        h.by r name lo hi
        ∙ ap (λ z. option_or z (known_as name ks))
        (or_none (closed_meaning r name (f.closed ++ map (closed_at q) (reverse f.opened)))
        ∙ closed_both r name f.closed (map (closed_at q) (reverse f.opened))
        ∙ ap (λ z. option_or (closed_meaning r name f.closed) z) (ended_meaning q r name f.opened hi));
  }

  -- where nothing begins or ends
  pub sits_plain : (ks : List Known) (p q r : ℕ) (name : List ℕ) → Sits ks p q nothing → p ≤ r → r < q
      → closed_meaning r name all ≡ known_as name ks
  sits_plain ks p q r name h lo hi = h.by r name lo hi

  -- where scopes begin
  pub sits_opened : (ks : List Known) (p q : ℕ) (vs : List VariableScope) → AreOpen p p vs
      → Sits ks p q (record { opened = vs; closed = [] }) → Sits (pushed ks vs) p q nothing
  sits_opened ks p q vs begun h = record {
    by = λ r name lo hi. h.by r name lo hi ∙ opened_pushed p p r name vs ks begun lo;
  }

  -- ---- parts of a body

  -- Told: what is shown of each instruction. From p to q the scopes of a part are found, which stands in scope of
  -- some variables and leaves others in scope; where they sit, each instruction is as it should be
  module _ (Fine : ℕ → Type 0) where
    abbrev pub AllFine : (p q : ℕ) → Type 0
    AllFine p q = (r : ℕ) → p ≤ r → r < q → Fine r

    pub record Fit (ks ls : List Known) (p q : ℕ) (f : Found) : Type 0 where
      pub long : p ≤ q
      pub closed : AreClosed p q f.closed
      pub opened : AreOpen p q f.opened
      pub left : pushed ks f.opened ≡ ls
      pub fine : Sits ks p q f → AllFine p q

    -- code in which no scope begins or ends
    pub record Code (ks : List Known) (p q : ℕ) : Type 0 where
      pub long : p ≤ q
      pub fine : Sits ks p q nothing → AllFine p q

    either : (p m q : ℕ) → AllFine p m → AllFine m q → AllFine p q
    either p m q one other r lo hi =
        ⊎_elim (λ (below : r < m). one r lo below) (λ (behind : m ≤ r). other r behind hi) (cases_lt r m)

    pub fit_code : (ks : List Known) (p q : ℕ) → Code ks p q → Fit ks ks p q nothing
    fit_code ks p q c = record { long = c.long; closed = tt; opened = tt; left = refl; fine = c.fine }

    pub code_both : (ks : List Known) (p m q : ℕ) → Code ks p m → Code ks m q → Code ks p q
    code_both ks p m q c d =
        let a = c.long in let b = d.long in
        record {
          long = omega (arith, a, b);
          fine = λ s. either p m q (c.fine (sits_within ks p q p m nothing (omega arith) b s))
              (d.fine (sits_within ks p q m q nothing a (omega arith) s));
        }

    pub fit_both : (ks ls ns : List Known) (p m q : ℕ) (f g : Found) → Fit ks ls p m f → Fit ls ns m q g
        → Fit ks ns p q (f then g)
    fit_both ks ls ns p m q f g x y =
        let a = x.long in let b = y.long in
        record {
          long = omega (arith, a, b);
          closed = closed_append p q f.closed g.closed
              (closed_wider p m p q f.closed (omega arith) b x.closed)
              (closed_wider m q p q g.closed a (omega arith) y.closed);
          opened = open_append p q f.opened g.opened
              (open_wider p m p q f.opened (omega arith) b x.opened)
              (open_wider m q p q g.opened a (omega arith) y.opened);
          left = pushed_both ks f.opened g.opened ∙ ap (λ z. pushed z g.opened) x.left ∙ y.left;
          fine = λ s. either p m q (x.fine (sits_first ks p m q f g b y.closed y.opened s))
              (y.fine (subst (λ z. Sits z m q g) x.left (sits_second ks p m q f g a x.closed x.opened s)));
        }

    pub fit_after : (ks ls : List Known) (p m q : ℕ) (f : Found) → Code ks p m → Fit ks ls m q f → Fit ks ls p q f
    fit_after ks ls p m q f c y =
        let a = c.long in let b = y.long in
        record {
          long = omega (arith, a, b);
          closed = closed_wider m q p q f.closed a (omega arith) y.closed;
          opened = open_wider m q p q f.opened a (omega arith) y.opened;
          left = y.left;
          fine = λ s. either p m q (c.fine (sits_before ks p m q f b y.closed y.opened s))
              (y.fine (sits_within ks p q m q f a (omega arith) s));
        }

    pub fit_before : (ks ls : List Known) (p m q : ℕ) (f : Found) → Fit ks ls p m f → Code ls m q → Fit ks ls p q f
    fit_before ks ls p m q f x d =
        let a = x.long in let b = d.long in
        record {
          long = omega (arith, a, b);
          closed = closed_wider p m p q f.closed (omega arith) b x.closed;
          opened = open_wider p m p q f.opened (omega arith) b x.opened;
          left = x.left;
          fine = λ s. either p m q (x.fine (sits_within ks p q p m f (omega arith) b s))
              (d.fine (subst (λ z. Sits z m q nothing) x.left (sits_behind ks p m q f a x.closed x.opened s)));
        }

    pub fit_block : (ks ls : List Known) (p q : ℕ) (f : Found) → Fit ks ls p q f → Fit ks ks p q (ending q f)
    fit_block ks ls p q f x = record {
      long = x.long;
      closed = closed_append p q f.closed (map (closed_at q) (reverse f.opened)) x.closed (ended p q f.opened x.opened);
      opened = tt;
      left = refl;
      fine = λ s. x.fine (sits_block ks p q f s);
    }

    -- scopes that begin with this code
    pub fit_open : (ks : List Known) (p q : ℕ) (v : VariableScope) → v.from ≡ p → Code (known_scope v ∷ ks) p q
        → Fit ks (known_scope v ∷ ks) p q (record { opened = v ∷ []; closed = [] })
    fit_open ks p q v e c =
        let a = c.long in
        record {
          long = a;
          closed = tt;
          opened = (omega (arith, e), omega (arith, e, a), tt);
          left = refl;
          fine = λ s. c.fine (sits_opened ks p q (v ∷ []) (omega (arith, e), omega (arith, e), tt) s);
        }

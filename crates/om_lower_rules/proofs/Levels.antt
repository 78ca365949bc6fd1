-- The operand heights of a row's places, step by step along the row.
use Rattle.std.proofs.Common.{◌≡◌, ℕ, ◌+◌, ◌<◌, ◌≤◌, List, [], ◌∷◌, ◌++◌, length, Some, sym, ap, ◌∙◌, subst, ⊎_elim}
use Rattle.std.proofs.Common.{arith, length-append}
use Rattle.std.specs.Prelude.{slice_get}
use Rattle.std.proofs.lemmas.Bool.{cases_lt}
use Rattle.om_code.specs.declared.instruction.Instr.{Instr}
use Rattle.om_code.specs.declared.raw.Line.{Line}
use Rattle.om_code.specs.Ways.{pops, pushes, successors}

-- P of each
abbrev pub Each : {A : Type 0} → (A → Type 0) → List A → Type 0
Each P [] = Unit {0}
Each P (x ∷ xs) = P x × Each P xs

-- the height at a place
abbrev pub IsAt : List ℕ → ℕ → ℕ → Type 0
IsAt hs p h = slice_get hs p ≡ Some h

-- from a place on stand these heights
abbrev pub HasAt : List ℕ → ℕ → List ℕ → Type 0
HasAt hs p [] = Unit {0}
HasAt hs p (h ∷ rest) = IsAt hs p h × HasAt hs (p + 1) rest

-- at this height an instruction finds its operands, and where it can go on is the height that it leaves
pub record IsFine (picks : List (List ℕ)) (hs : List ℕ) (p h : ℕ) (line : Line) : Type 0 where
  pub rest : ℕ
  pub enough : h ≡ rest + pops line.instruction
  pub leads : Each (λ to. IsAt hs to (rest + pushes line.instruction)) (successors picks p line.instruction)

has_front : (hs : List ℕ) (p : ℕ) (a b : List ℕ) → HasAt hs p (a ++ b) → HasAt hs p a
has_front hs p [] b h = tt
has_front hs p (x ∷ a) b h = (h.0, has_front hs (p + 1) a b h.1)

has_back : (hs : List ℕ) (p : ℕ) (a b : List ℕ) → HasAt hs p (a ++ b) → HasAt hs (p + length a) b
has_back hs p [] b h = let e : p ≡ p + 0 = omega arith in subst (λ n. HasAt hs n b) e h
has_back hs p (x ∷ a) b h =
    let e : p + 1 + length a ≡ p + length (x ∷ a) = omega arith in
    subst (λ n. HasAt hs n b) e (has_back hs (p + 1) a b h.1)

-- heights for the places from p to q, entered at h and left at out, where these labels have the heights that
-- the row needs; it gives
-- the heights of its own labels
pub record Levels (picks : List (List ℕ)) (code : List Line) (needs gives : List ℕ → Type 0) (p q h out : ℕ) : Type
    0 where
  pub piece : List ℕ
  pub long : p + length piece ≡ q
  pub starts : (hs : List ℕ) → HasAt hs p piece → IsAt hs q out → IsAt hs p h
  pub given : (hs : List ℕ) → HasAt hs p piece → IsAt hs q out → gives hs
  pub fine : (hs : List ℕ) → HasAt hs p piece → IsAt hs q out → needs hs → (k : ℕ) → p ≤ k → k < q →
      (line : Line) (x : ℕ) → slice_get code k ≡ Some line → IsAt hs k x → IsFine picks hs k x line

abbrev pub nothing : List ℕ → Type 0
nothing hs = Unit {0}

pub level_end : {picks : List (List ℕ)} {code : List Line} {N : List ℕ → Type 0} {p q h : ℕ} → p ≡ q
    → Levels picks code N nothing p q h h
level_end {picks} {code} {N} {p} {q} {h} r = record {
  piece = [];
  long = omega (arith, r);
  starts = λ hs a e. ap (λ z. slice_get hs z) r ∙ e;
  given = λ hs a e. tt;
  fine = λ hs a e n k le lt. absurd (omega (arith, r));
}

pub level_out : {picks : List (List ℕ)} {code : List Line} {N G : List ℕ → Type 0} {p q h out : ℕ} (other : ℕ)
    → other ≡ out → Levels picks code N G p q h other → Levels picks code N G p q h out
level_out {picks} {code} {N} {G} {p} {q} {h} {out} other e a = subst (λ z. Levels picks code N G p q h z) e a

pub level_ins : {picks : List (List ℕ)} {code : List Line} {N G : List ℕ → Type 0} {R : Type 0}
    {p q h next out l : ℕ} {x : Instr} (rest : ℕ)
    → (slice_get code p ≡ Some (record { instruction = x; line = l })) × R
    → h ≡ rest + pops x
    → ((hs : List ℕ) → N hs → IsAt hs (p + 1) next → Each (λ to. IsAt hs to (rest + pushes x)) (successors picks p x))
    → (R → Levels picks code N G (p + 1) q next out) → Levels picks code N G p q h out
level_ins {picks} {code} {N} {G} {R} {p} {q} {h} {next} {out} {l} {x} rest r enough leads k =
    let b = k r.1 in record {
      piece = h ∷ b.piece;
      long = omega (arith, b.long);
      starts = λ hs a e. a.0;
      given = λ hs a e. b.given hs a.1 e;
      fine = λ hs a e n k le lt line y is at.
          ⊎_elim
          (λ (below : k < p + 1).
          let here : k ≡ p = omega arith in
          let line_is : record { instruction = x; line = l } ≡ line = cc (r.0, ap (λ z. slice_get code z) here, is) in
          let y_is : h ≡ y = cc (a.0, ap (λ z. slice_get hs z) here, at) in
          let f : IsFine picks hs p h (record { instruction = x; line = l }) = record
          { rest = rest; enough = enough; leads = leads hs n (b.starts hs a.1 e) } in
          subst (λ (z : ℕ). IsFine picks hs z y line) (sym here) (subst (λ (z : ℕ). IsFine picks hs p z line) y_is
          (subst (λ (z : Line). IsFine picks hs p h z) line_is f)))
          (λ (behind : p + 1 ≤ k). b.fine hs a.1 e n k behind lt line y is at)
          (cases_lt k (p + 1));
    }

-- an instruction that goes to the next one
pub level_next : {picks : List (List ℕ)} {code : List Line} {N G : List ℕ → Type 0} {R : Type 0}
    {p q h next out l : ℕ} {x : Instr} (rest : ℕ)
    → (slice_get code p ≡ Some (record { instruction = x; line = l })) × R
    → successors picks p x ≡ (p + 1) ∷ [] → h ≡ rest + pops x → next ≡ rest + pushes x
    → (R → Levels picks code N G (p + 1) q next out) → Levels picks code N G p q h out
level_next {picks} {code} {N} {G} {R} {p} {q} {h} {next} {out} {l} {x} rest r ways enough leaves k =
    level_ins rest r enough (λ hs n e. subst (λ z. Each (λ to. IsAt hs to (rest + pushes x)) z) (sym ways)
    (e ∙ ap Some leaves, tt)) k

-- one that goes to the next or to a label
pub level_either : {picks : List (List ℕ)} {code : List Line} {N G : List ℕ → Type 0} {R : Type 0}
    {p q h next out l f : ℕ} {x : Instr} (rest : ℕ)
    → (slice_get code p ≡ Some (record { instruction = x; line = l })) × R
    → successors picks p x ≡ (p + 1) ∷ f ∷ [] → h ≡ rest + pops x → next ≡ rest + pushes x
    → ((hs : List ℕ) → N hs → IsAt hs f next)
    → (R → Levels picks code N G (p + 1) q next out) → Levels picks code N G p q h out
level_either {picks} {code} {N} {G} {R} {p} {q} {h} {next} {out} {l} {f} {x} rest r ways enough leaves label k =
    level_ins rest r enough
    (λ hs n e. subst (λ z. Each (λ to. IsAt hs to (rest + pushes x)) z) (sym ways)
    (e ∙ ap Some leaves, (label hs n ∙ ap Some leaves, tt))) k

-- one that goes to a label
pub level_jump : {picks : List (List ℕ)} {code : List Line} {N G : List ℕ → Type 0} {R : Type 0}
    {p q h next out l f : ℕ} {x : Instr}
    → (slice_get code p ≡ Some (record { instruction = x; line = l })) × R
    → successors picks p x ≡ f ∷ [] → h ≡ h + pops x → h ≡ h + pushes x
    → ((hs : List ℕ) → N hs → IsAt hs f h)
    → (R → Levels picks code N G (p + 1) q next out) → Levels picks code N G p q h out
level_jump {picks} {code} {N} {G} {R} {p} {q} {h} {next} {out} {l} {f} {x} r ways enough leaves label k =
    level_ins h r enough (λ hs n e. subst (λ z. Each (λ to. IsAt hs to (h + pushes x)) z) (sym ways)
    (label hs n ∙ ap Some leaves, tt)) k

-- one that goes nowhere
pub level_stop : {picks : List (List ℕ)} {code : List Line} {N G : List ℕ → Type 0} {R : Type 0}
    {p q h next out l : ℕ} {x : Instr} (rest : ℕ)
    → (slice_get code p ≡ Some (record { instruction = x; line = l })) × R
    → successors picks p x ≡ [] → h ≡ rest + pops x
    → (R → Levels picks code N G (p + 1) q next out) → Levels picks code N G p q h out
level_stop {picks} {code} {N} {G} {R} {p} {q} {h} {next} {out} {l} {x} rest r ways enough k =
    level_ins rest r enough (λ hs n e. subst (λ z. Each (λ to. IsAt hs to (rest + pushes x)) z) (sym ways) tt) k

-- a part, and the rest behind it
pub level_within : {picks : List (List ℕ)} {code : List Line} {N M G H : List ℕ → Type 0} {A R : ℕ → Type 0}
    {p q h mid out : ℕ}
    → (m : ℕ) × A m × R m → ((hs : List ℕ) → N hs → M hs)
    → ((m : ℕ) → A m → Levels picks code M H p m h mid) → ((m : ℕ) → R m → Levels picks code N G m q mid out)
    → Levels picks code N (λ hs. H hs × G hs) p q h out
level_within {picks} {code} {N} {M} {G} {H} {A} {R} {p} {q} {h} {mid} {out} r need first rest =
    let a = first r.0 r.1 in let b = rest r.0 r.2 in record {
      piece = a.piece ++ b.piece;
      long = omega (arith, a.long, b.long, length-append a.piece b.piece);
      starts = λ hs g e. a.starts hs (has_front hs p a.piece b.piece g) (b.starts hs (back hs g) e);
      given = λ hs g e. (
        a.given hs (has_front hs p a.piece b.piece g) (b.starts hs (back hs g) e),
        b.given hs (back hs g) e,
      );
      fine = λ hs g e n k le lt.
          ⊎_elim
          (λ (below : k < r.0). a.fine hs (has_front hs p a.piece b.piece g) (b.starts hs (back hs g) e) (need hs n)
          k le below)
          (λ (behind : r.0 ≤ k). b.fine hs (back hs g) e n k behind lt)
          (cases_lt k r.0);
    }
  where
    back : (hs : List ℕ) → HasAt hs p ((first r.0 r.1).piece ++ (rest r.0 r.2).piece)
        → HasAt hs r.0 (rest r.0 r.2).piece
    back hs g =
        subst (λ n. HasAt hs n (rest r.0 r.2).piece) (first r.0 r.1).long (has_back hs p (first r.0 r.1).piece
        (rest r.0 r.2).piece g)

pub level_as : {picks : List (List ℕ)} {code : List Line} {N G H : List ℕ → Type 0} {p q h out : ℕ}
    → Levels picks code N G p q h out → ((hs : List ℕ) → G hs → H hs) → Levels picks code N H p q h out
level_as a f = record {
  piece = a.piece;
  long = a.long;
  starts = a.starts;
  given = λ hs g e. f hs (a.given hs g e);
  fine = a.fine;
}

pub level_more : {picks : List (List ℕ)} {code : List Line} {N M G : List ℕ → Type 0} {p q h out : ℕ}
    → Levels picks code N G p q h out → ((hs : List ℕ) → M hs → N hs) → Levels picks code M G p q h out
level_more a f = record {
  piece = a.piece;
  long = a.long;
  starts = a.starts;
  given = a.given;
  fine = λ hs g e n.
      a.fine hs g e (f hs n);
}

pub level_free : {picks : List (List ℕ)} {code : List Line} {N G : List ℕ → Type 0} {p q h out : ℕ}
    → Levels picks code nothing G p q h out → Levels picks code N G p q h out
level_free a = level_more a (λ hs n. tt)

-- a part that needs nothing and has no labels that others know
pub level_part : {picks : List (List ℕ)} {code : List Line} {N G : List ℕ → Type 0} {A R : ℕ → Type 0}
    {p q h mid out : ℕ}
    → (m : ℕ) × A m × R m → ((m : ℕ) → A m → Levels picks code nothing nothing p m h mid)
    → ((m : ℕ) → R m → Levels picks code N G m q mid out)
    → Levels picks code N G p q h out
level_part r first rest = level_as (level_within r (λ hs n. tt) first rest) (λ hs g. g.1)

pub level_here : {picks : List (List ℕ)} {code : List Line} {N G : List ℕ → Type 0} {R : Type 0} {p q h out f : ℕ}
    → (f ≡ p) × R → (R → Levels picks code N G p q h out) → Levels picks code N (λ hs. IsAt hs f h × G hs) p q h out
level_here r k = let b = k r.1 in record {
  piece = b.piece;
  long = b.long;
  starts = b.starts;
  given = λ hs g e. (ap (λ z. slice_get hs z) r.0 ∙ b.starts hs g e, b.given hs g e);
  fine = b.fine;
}

-- what the labels of a row need is what its labels give
pub level_closed : {picks : List (List ℕ)} {code : List Line} {N L G H : List ℕ → Type 0} {p q h out : ℕ}
    → Levels picks code (λ hs. N hs × L hs) G p q h out → ((hs : List ℕ) → G hs → L hs)
    → ((hs : List ℕ) → G hs → H hs) → Levels picks code N H p q h out
level_closed a labels more = record {
  piece = a.piece;
  long = a.long;
  starts = a.starts;
  given = λ hs g e. more hs (a.given hs g e);
  fine = λ hs g e n. a.fine hs g e (n, labels hs (a.given hs g e));
}

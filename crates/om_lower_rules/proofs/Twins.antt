-- Two codes of one row, step by step along the row: they end at one place, and agree there where the labels do.
use Rattle.std.proofs.Common.{◌≡◌, ℕ, ◌+◌, ◌<◌, ◌≤◌, List, [], Some, refl, sym, ap, subst, ◌∙◌, ⊎_elim, arith}
use Rattle.std.specs.Prelude.{slice_get, slice_index_or}
use Rattle.std.proofs.lemmas.Bool.{cases_lt}
use Rattle.om_code.specs.declared.instruction.Exits.{Exits}
use Rattle.om_code.specs.declared.instruction.Exits.TheVariants.{OneOf}
use Rattle.om_code.specs.declared.instruction.Instr.{Instr}
use Rattle.om_code.specs.declared.raw.Line.{Line}
use Rattle.om_code.specs.Ways.{exits}

-- two tables of lists of PICK have the same list for this instruction, where it goes on by one
abbrev pub HasOneList : (picks picks' : List (List ℕ)) → Exits → Type 0
HasOneList picks picks' (OneOf list) = slice_index_or picks list [] ≡ slice_index_or picks' list []
HasOneList picks picks' _ = Unit {0}

-- from p to q there is one code, and one list for each instruction
pub record Agree (code code' : List Line) (picks picks' : List (List ℕ)) (p q : ℕ) : Type 0 where
  pub by : (k : ℕ) → p ≤ k → k < q → slice_get code k ≡ slice_get code' k
  pub lists : (k : ℕ) (line : Line) → p ≤ k → k < q → slice_get code k ≡ Some line
      → HasOneList picks picks' (exits line.instruction)

-- one code from p to q, the other from p' to q': if they begin at one place they end at one, labels stand at
-- the same places, and
-- where what they need is so, they agree
pub record Alike (code code' : List Line) (picks picks' : List (List ℕ)) (needs gives : Type 0) (p q p' q' : ℕ) : Type 0
  where
    pub same : p ≡ p' → q ≡ q'
    pub given : p ≡ p' → gives
    pub agree : p ≡ p' → needs → Agree code code' picks picks' p q

pub twin_end : {code code' : List Line} {picks picks' : List (List ℕ)} {N : Type 0} {p q p' q' : ℕ} → p ≡ q → p' ≡ q'
    → Alike code code' picks picks' N (Unit {0}) p q p' q'
twin_end {code} {code'} {picks} {picks'} {N} {p} {q} r t = record {
  same = λ e. sym r ∙ e ∙ t;
  given = λ e. tt;
  agree = λ e n. record {
    by = λ k le lt. absurd (omega (arith, r));
    lists = λ k line le lt is. absurd (omega (arith, r));
  };
}

-- an instruction with what it needs: labels, and its list of PICK
twin_ins : {code code' : List Line} {picks picks' : List (List ℕ)} {N G R R' : Type 0} {p q p' q' l : ℕ} {x y : Instr}
    → (slice_get code p ≡ Some (record { instruction = x; line = l })) × R
    → (slice_get code' p' ≡ Some (record { instruction = y; line = l })) × R'
    → (N → HasOneList picks picks' (exits x)) → (N → x ≡ y)
    → (R → R' → Alike code code' picks picks' N G (p + 1) q (p' + 1) q') → Alike code code' picks picks' N G p q p' q'
twin_ins {code} {code'} {picks} {picks'} {N} {G} {R} {R'} {p} {q} {p'} {q'} {l} {x} {y} r t list is k =
    let rest = k r.1 t.1 in record {
      same = λ e. rest.same (ap (λ z. z + 1) e);
      given = λ e. rest.given (ap (λ z. z + 1) e);
      agree = λ e n. record {
        by = λ k le lt.
            ⊎_elim
            (λ (below : k < p + 1).
            let here : k ≡ p = omega arith in
            ap (λ z. slice_get code z) here ∙ r.0 ∙ ap (λ (z : Instr). Some (record { instruction = z; line = l }))
            (is n) ∙ sym t.0 ∙ ap (λ z. slice_get code' z) (sym e ∙ sym here))
            (λ (behind : p + 1 ≤ k). (rest.agree (ap (λ z. z + 1) e) n).by k behind lt)
            (cases_lt k (p + 1));
        lists = λ k line le lt at.
            ⊎_elim
            (λ (below : k < p + 1).
            let here : k ≡ p = omega arith in
            let lines : Some (record { instruction = x; line = l }) ≡ Some line =
            sym r.0 ∙ ap (λ z. slice_get code z) (sym here) ∙ at in
            let line_is : record { instruction = x; line = l } ≡ line = cc lines in
            subst (λ (z : Line). HasOneList picks picks' (exits z.instruction)) line_is (list n))
            (λ (behind : p + 1 ≤ k). (rest.agree (ap (λ z. z + 1) e) n).lists k line behind lt at)
            (cases_lt k (p + 1));
      };
    }

-- an instruction with a label, and one without; neither goes on by a list of PICK
pub twin_jump : {code code' : List Line} {picks picks' : List (List ℕ)} {N G R R' : Type 0} {p q p' q' l : ℕ}
    {x y : Instr}
    → (slice_get code p ≡ Some (record { instruction = x; line = l })) × R
    → (slice_get code' p' ≡ Some (record { instruction = y; line = l })) × R'
    → HasOneList picks picks' (exits x) → (N → x ≡ y)
    → (R → R' → Alike code code' picks picks' N G (p + 1) q (p' + 1) q') → Alike code code' picks picks' N G p q p' q'
twin_jump r t list is k = twin_ins r t (λ n. list) is k

pub twin_next : {code code' : List Line} {picks picks' : List (List ℕ)} {N G R R' : Type 0} {p q p' q' l : ℕ}
    {x : Instr}
    → (slice_get code p ≡ Some (record { instruction = x; line = l })) × R
    → (slice_get code' p' ≡ Some (record { instruction = x; line = l })) × R'
    → HasOneList picks picks' (exits x)
    → (R → R' → Alike code code' picks picks' N G (p + 1) q (p' + 1) q') → Alike code code' picks picks' N G p q p' q'
twin_next r t list k = twin_ins r t (λ n. list) (λ n. refl) k

-- PICK, whose list has the places of labels
pub twin_pick : {code code' : List Line} {picks picks' : List (List ℕ)} {N G R R' : Type 0} {p q p' q' l : ℕ}
    {x : Instr}
    → (slice_get code p ≡ Some (record { instruction = x; line = l })) × R
    → (slice_get code' p' ≡ Some (record { instruction = x; line = l })) × R'
    → (N → HasOneList picks picks' (exits x))
    → (R → R' → Alike code code' picks picks' N G (p + 1) q (p' + 1) q') → Alike code code' picks picks' N G p q p' q'
twin_pick r t list k = twin_ins r t list (λ n. refl) k

-- a part whose code needs something, and gives something
pub twin_within : {code code' : List Line} {picks picks' : List (List ℕ)} {N M G H : Type 0} {A A' R R' : ℕ → Type 0}
    {p q p' q' : ℕ}
    → (m : ℕ) × A m × R m → (m : ℕ) × A' m × R' m → (N → M)
    → ((m m' : ℕ) → A m → A' m' → Alike code code' picks picks' M H p m p' m')
    → ((m m' : ℕ) → R m → R' m' → Alike code code' picks picks' N G m q m' q')
    → Alike code code' picks picks' N (H × G) p q p' q'
twin_within {code} {code'} {picks} {picks'} {N} {M} {G} {H} {A} {A'} {R} {R'} {p} {q} {p'} {q'} r t need first rest =
    let f = first r.0 t.0 r.1 t.1 in let g = rest r.0 t.0 r.2 t.2 in record {
      same = λ e. g.same (f.same e);
      given = λ e. (f.given e, g.given (f.same e));
      agree = λ e n. record {
        by = λ k le lt.
            ⊎_elim (λ (below : k < r.0). (f.agree e (need n)).by k le below)
            (λ (behind : r.0 ≤ k). (g.agree (f.same e) n).by k behind lt) (cases_lt k r.0);
        lists = λ k line le lt at.
            ⊎_elim (λ (below : k < r.0). (f.agree e (need n)).lists k line le below at)
            (λ (behind : r.0 ≤ k). (g.agree (f.same e) n).lists k line behind lt at) (cases_lt k r.0);
      };
    }

pub twin_as : {code code' : List Line} {picks picks' : List (List ℕ)} {N G H : Type 0} {p q p' q' : ℕ}
    → Alike code code' picks picks' N G p q p' q' → (G → H) → Alike code code' picks picks' N H p q p' q'
twin_as a f = record { same = a.same; given = λ e. f (a.given e); agree = a.agree }

pub twin_more : {code code' : List Line} {picks picks' : List (List ℕ)} {N M G : Type 0} {p q p' q' : ℕ}
    → Alike code code' picks picks' N G p q p' q' → (M → N) → Alike code code' picks picks' M G p q p' q'
twin_more a f = record { same = a.same; given = a.given; agree = λ e n. a.agree e (f n) }

pub twin_free : {code code' : List Line} {picks picks' : List (List ℕ)} {N G : Type 0} {p q p' q' : ℕ}
    → Alike code code' picks picks' (Unit {0}) G p q p' q' → Alike code code' picks picks' N G p q p' q'
twin_free a = twin_more a (λ n. tt)

-- a part that needs nothing
pub twin_part : {code code' : List Line} {picks picks' : List (List ℕ)} {N G : Type 0} {A A' R R' : ℕ → Type 0}
    {p q p' q' : ℕ}
    → (m : ℕ) × A m × R m → (m : ℕ) × A' m × R' m
    → ((m m' : ℕ) → A m → A' m' → Alike code code' picks picks' (Unit {0}) (Unit {0}) p m p' m')
    → ((m m' : ℕ) → R m → R' m' → Alike code code' picks picks' N G m q m' q')
    → Alike code code' picks picks' N G p q p' q'
twin_part r t first rest = twin_as (twin_within r t (λ n. tt) first rest) (λ g. g.1)

pub twin_here : {code code' : List Line} {picks picks' : List (List ℕ)} {N G R R' : Type 0} {p q p' q' f g : ℕ}
    → (f ≡ p) × R → (g ≡ p') × R' → (R → R' → Alike code code' picks picks' N G p q p' q')
    → Alike code code' picks picks' N ((f ≡ g) × G) p q p' q'
twin_here r t k = let rest = k r.1 t.1 in record {
  same = rest.same;
  given = λ e. (r.0 ∙ e ∙ sym t.0, rest.given e);
  agree = rest.agree;
}

-- what the labels of a row need is what its labels give
pub twin_closed : {code code' : List Line} {picks picks' : List (List ℕ)} {N L G H : Type 0} {p q p' q' : ℕ}
    → Alike code code' picks picks' (N × L) G p q p' q' → (G → L) → (G → H)
    → Alike code code' picks picks' N H p q p' q'
twin_closed a labels out = record {
  same = a.same;
  given = λ e. out (a.given e);
  agree = λ e n. a.agree e (n, labels (a.given e));
}

-- Lists with each name once: one name less, and the unfinished children of a task behind a step.
use Rattle.std.proofs.Common.{◌≡◌, refl, sym, ◌∙◌, ap, subst, ℕ, suc, ℤ, pos, negsuc, Bool, true, false, cond, arith}
use Rattle.std.proofs.Common.{List, [], ◌∷◌, length, ◌⊎◌, inl, inr, ⊎_elim}
use Rattle.std.specs.Prelude.{nat_eq}
use Rattle.std.specs.Cmp.Lexicographic.{pointwise}
use Rattle.std.proofs.lemmas.Int.{ints}
use Rattle.om_foot.specs.Below.{same_list}
use Rattle.om_foot.specs.declared.object.Obj.TheVariants as obj
use Rattle.om_foot.specs.Names.{above}
use Rattle.om_state.specs.declared.value.Val.TheVariants as value
use Rattle.om_state.specs.State.{State}
use Rattle.om_state.specs.Values.{value_plus}
use Rattle.om_team_laws.specs.Children.{AreApart, AreChildren, HasChildren, IsChild, IsIn, is_unfinished}
use Rattle.om_team_laws.specs.Tasks.{task_at}

-- ---- one name less

record IsWithout (name : List ℕ) (names rest : List (List ℕ)) : Type 0 where
  sizes : length names ≡ suc (length rest)
  from : (x : List ℕ) → IsIn rest x → IsIn names x
  gone : IsIn rest name → ⊥
  to : (x : List ℕ) → IsIn names x → (x ≡ name → ⊥) → IsIn rest x
  once : AreApart rest

removal : (name : List ℕ) (names : List (List ℕ)) → IsIn names name → AreApart names
    → (rest : List (List ℕ)) × IsWithout name names rest
removal name [] a h = absurd a
removal name (n ∷ names) (inl same) h = (
  names,
  record {
    sizes = refl;
    from = λ x b. inr b;
    gone = λ b. h.0 (subst (λ z. IsIn names z) (sym same) b);
    to = λ x b differs. ⊎_elim (λ (e : n ≡ x). absurd (differs (sym e ∙ same))) (λ (c : IsIn names x). c) b;
    once = h.1;
  },
)
removal name (n ∷ names) (inr a) h = by (removal name names a h.1)
  where
    by : ((rest : List (List ℕ)) × IsWithout name names rest)
        → (rest : List (List ℕ)) × IsWithout name (n ∷ names) rest
    by less =
        let rest : List (List ℕ) = less.0 in
        let w : IsWithout name names rest = less.1 in (
          n ∷ rest,
          record {
            sizes = ap (λ k. suc k) w.sizes;
            from = λ x b. ⊎_elim (λ (e : n ≡ x). inl e) (λ (c : IsIn rest x). inr (w.from x c)) b;
            gone = λ b. ⊎_elim (λ (e : n ≡ name). h.0 (subst (λ z. IsIn names z) (sym e) a))
                (λ (c : IsIn rest name). w.gone c) b;
            to = λ x b differs. ⊎_elim (λ (e : n ≡ x). inl e) (λ (c : IsIn names x). inr (w.to x c differs)) b;
            once = (λ b. h.0 (w.from n b), w.once);
          },
        )

-- ---- what a step may do

-- no task is made, and none ends
pub record IsAsBefore (s t : State) : Type 0 where
  pub kids : (p : List ℕ) → t (obj.Kids p) ≡ s (obj.Kids p)
  pub tasks : (n : List ℕ) → is_unfinished (task_at t n) ≡ is_unfinished (task_at s n)

-- a child is made, or ends: it was unfinished or not before the step, and is so behind it
pub record ChangesChild (s t : State) (d : ℤ) (was now : Bool) : Type 0 where
  pub name : List ℕ
  pub parent : List ℕ
  pub below : above name ≡ parent
  pub before : is_unfinished (task_at s name) ≡ was
  pub kids : (p : List ℕ) → t (obj.Kids p)
      ≡ cond (pointwise nat_eq parent p) (value_plus d (s (obj.Kids p))) (s (obj.Kids p))
  pub which : (n : List ℕ) → ((name ≡ n) × (is_unfinished (task_at t n) ≡ now))
      ⊎ ((name ≡ n → ⊥) × (task_at t n ≡ task_at s n))

abbrev pub Changes : State → State → Type 0
Changes s t = IsAsBefore s t ⊎ (ChangesChild s t (pos 1) false true ⊎ ChangesChild s t (negsuc 0) true false)

abbrev Numbered : State → List ℕ → Type 0
Numbered t p = (names : List (List ℕ)) × AreChildren t p names
    × (t (obj.Kids p) ≡ value.Count (pos (length names)))

as_before : (s t : State) → IsAsBefore s t → HasChildren s → HasChildren t
as_before s t m h p = (
  (h p).0,
  record {
    each = λ n a. (((h p).1.each n a).0, m.tasks n ∙ ((h p).1.each n a).1);
    all = λ n c. (h p).1.all n (c.0, sym (m.tasks n) ∙ c.1);
    once = (h p).1.once;
  },
  m.kids p ∙ (h p).2,
)

different : (b : Bool) → b ≡ true → b ≡ false → ⊥
different b e f = let no : true ≡ false = sym e ∙ f in cc

module _ (s t : State) (h : HasChildren s) where
  -- a child stays one where its task stays as it is
  stays_child : (p n : List ℕ) → task_at t n ≡ task_at s n → IsChild s p n → IsChild t p n
  stays_child p n e c = (c.0, ap is_unfinished e ∙ c.1)

  was_child : (p n : List ℕ) → task_at t n ≡ task_at s n → IsChild t p n → IsChild s p n
  was_child p n e c = (c.0, sym (ap is_unfinished e) ∙ c.1)

  made : ChangesChild s t (pos 1) false true → HasChildren t
  made m p = by (pointwise nat_eq m.parent p) refl
    where
      names : List (List ℕ)
      names = (h p).0

      old : AreChildren s p names
      old = (h p).1

      count : s (obj.Kids p) ≡ value.Count (pos (length names))
      count = (h p).2

      by : (b : Bool) → pointwise nat_eq m.parent p ≡ b → Numbered t p
      by true e =
          let same : m.parent ≡ p = (same_list m.parent p).0 e in (
            m.name ∷ names,
            record {
              each = λ n a. ⊎_elim
                  (λ (is : m.name ≡ n). (
                    ap above (sym is) ∙ m.below ∙ same,
                    ⊎_elim (λ (it : (m.name ≡ n) × (is_unfinished (task_at t n) ≡ true)). it.1)
                        (λ (it : (m.name ≡ n → ⊥) × (task_at t n ≡ task_at s n)). absurd (it.0 is)) (m.which n),
                  ))
                  (λ (there : IsIn names n). ⊎_elim
                  (λ (it : (m.name ≡ n) × (is_unfinished (task_at t n) ≡ true)). ((old.each n there).0, it.1))
                  (λ (it : (m.name ≡ n → ⊥) × (task_at t n ≡ task_at s n)). stays_child p n it.1 (old.each n there))
                  (m.which n)) a;
              all = λ n c. ⊎_elim (λ (it : (m.name ≡ n) × (is_unfinished (task_at t n) ≡ true)). inl it.0)
                  (λ (it : (m.name ≡ n → ⊥) × (task_at t n ≡ task_at s n)). inr (old.all n (was_child p n it.1 c)))
                  (m.which n);
              once = (λ a. different (is_unfinished (task_at s m.name)) (old.each m.name a).1 m.before, old.once);
            },
            m.kids p ∙ ap (λ b. cond b (value_plus (pos 1) (s (obj.Kids p))) (s (obj.Kids p))) e
                ∙ ap (value_plus (pos 1)) count ∙ ap value.Count (omega (arith, ints)),
          )
      by false e = (
        names,
        record {
          each = λ n a. ⊎_elim
              (λ (it : (m.name ≡ n) × (is_unfinished (task_at t n) ≡ true)). ((old.each n a).0, it.1))
              (λ (it : (m.name ≡ n → ⊥) × (task_at t n ≡ task_at s n)). stays_child p n it.1 (old.each n a))
              (m.which n);
          all = λ n c. ⊎_elim
              (λ (it : (m.name ≡ n) × (is_unfinished (task_at t n) ≡ true)).
              absurd (different (pointwise nat_eq m.parent p)
              ((same_list m.parent p).1 (sym m.below ∙ ap above it.0 ∙ c.0)) e))
              (λ (it : (m.name ≡ n → ⊥) × (task_at t n ≡ task_at s n)). old.all n (was_child p n it.1 c)) (m.which n);
          once = old.once;
        },
        m.kids p ∙ ap (λ b. cond b (value_plus (pos 1) (s (obj.Kids p))) (s (obj.Kids p))) e ∙ count,
      )

  ended : ChangesChild s t (negsuc 0) true false → HasChildren t
  ended m p = by (pointwise nat_eq m.parent p) refl
    where
      names : List (List ℕ)
      names = (h p).0

      old : AreChildren s p names
      old = (h p).1

      count : s (obj.Kids p) ≡ value.Count (pos (length names))
      count = (h p).2

      less : m.parent ≡ p → (rest : List (List ℕ)) × IsWithout m.name names rest
      less same = removal m.name names (old.all m.name (m.below ∙ same, m.before)) old.once

      one_less : (a b : ℕ) → a ≡ suc b → value_plus (negsuc 0) (value.Count (pos a)) ≡ value.Count (pos b)
      one_less a b e = ap value.Count (omega (arith, ints, e))

      by : (b : Bool) → pointwise nat_eq m.parent p ≡ b → Numbered t p
      by true e =
          let same : m.parent ≡ p = (same_list m.parent p).0 e in
          let rest : List (List ℕ) = (less same).0 in
          let w : IsWithout m.name names rest = (less same).1 in (
            rest,
            record {
              each = λ n a. ⊎_elim
                  (λ (it : (m.name ≡ n) × (is_unfinished (task_at t n) ≡ false)).
                  absurd (w.gone (subst (λ z. IsIn rest z) (sym it.0) a)))
                  (λ (it : (m.name ≡ n → ⊥) × (task_at t n ≡ task_at s n)).
                  stays_child p n it.1 (old.each n (w.from n a))) (m.which n);
              all = λ n c. ⊎_elim
                  (λ (it : (m.name ≡ n) × (is_unfinished (task_at t n) ≡ false)).
                  absurd (different (is_unfinished (task_at t n)) c.1 it.1))
                  (λ (it : (m.name ≡ n → ⊥) × (task_at t n ≡ task_at s n)).
                  w.to n (old.all n (was_child p n it.1 c)) (λ is. it.0 (sym is))) (m.which n);
              once = w.once;
            },
            m.kids p ∙ ap (λ b. cond b (value_plus (negsuc 0) (s (obj.Kids p))) (s (obj.Kids p))) e
                ∙ ap (value_plus (negsuc 0)) count ∙ one_less (length names) (length rest) w.sizes,
          )
      by false e = (
        names,
        record {
          each = λ n a. ⊎_elim
              (λ (it : (m.name ≡ n) × (is_unfinished (task_at t n) ≡ false)).
              absurd (different (pointwise nat_eq m.parent p)
              ((same_list m.parent p).1 (sym m.below ∙ ap above it.0 ∙ (old.each n a).0)) e))
              (λ (it : (m.name ≡ n → ⊥) × (task_at t n ≡ task_at s n)). stays_child p n it.1 (old.each n a))
              (m.which n);
          all = λ n c. ⊎_elim
              (λ (it : (m.name ≡ n) × (is_unfinished (task_at t n) ≡ false)).
              absurd (different (is_unfinished (task_at t n)) c.1 it.1))
              (λ (it : (m.name ≡ n → ⊥) × (task_at t n ≡ task_at s n)). old.all n (was_child p n it.1 c)) (m.which n);
          once = old.once;
        },
        m.kids p ∙ ap (λ b. cond b (value_plus (negsuc 0) (s (obj.Kids p))) (s (obj.Kids p))) e ∙ count,
      )

  pub changes_keep : Changes s t → HasChildren t
  changes_keep (inl m) = as_before s t m h
  changes_keep (inr (inl m)) = made m
  changes_keep (inr (inr m)) = ended m

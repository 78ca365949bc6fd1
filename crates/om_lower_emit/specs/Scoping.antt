-- Matter of proofs, for om_lower too: how the scopes of stretches are written one behind the other.
use Rattle.std.proofs.Common.{◌≡◌, ℕ, suc, ◌+◌, ◌<◌, ◌≤◌, List, [], ◌∷◌, ◌++◌, Option, length, map, drop, take, refl, sym, ap, subst, ◌∙◌}
use Rattle.std.proofs.Common.{arith, length-append}
use Rattle.std.specs.Prelude.{reverse}
use Rattle.std.proofs.lemmas.List.{append_assoc, append-nil, reverse-append}
use Rattle.std.proofs.lemmas.List.Elements.{All-append, All-cons, All-map, All-nil, All-weaker}
use Rattle.std.proofs.Math.Seq.{drop-append_seam, take-append_seam}
use Rattle.om_code.specs.declared.instruction.Instr.{Instr}
use Rattle.om_lower_emit.specs.Drafts.{Labels, Written, Defines, Fresh, Puts, moved}
use Rattle.om_lower_emit.specs.Emits.{Finished, Part, Writes, site}
use Rattle.om_lower_emit.specs.Writing.{fits_back, fits_from, goes_end, goes_fresh, goes_here, goes_put, grows_on}
use Rattle.om_scope_tree.specs.declared.resolved.LocalVariable.{LocalVariable}
use Rattle.om_lower_rules.specs.Rows.{Site, Row, end, ins, part, here}
use Rattle.om_lower_rules.specs.declared.variables.VariableScope.{VariableScope}
use Rattle.om_lower_rules.specs.Scopes.{Found, nothing, opening, ◌then◌, ending, closed_at, opened_with, Scoping, plain, after}
use Rattle.om_lower_rules.specs.Scopes.{before, both, each_scope, opens_at, opens, block, instructions}
use Rattle.om_lower_emit.specs.declared.writing.ScopeStack.{ScopeStack}
use Rattle.om_lower_emit.specs.Going.{writes_then}
use Rattle.om_lower_emit.specs.Scoped.{AreInside, BeginsOneScope, EndsScopes, IsInside, ScopesStand}
use Rattle.om_lower_rules.specs.Numbered.{Numbered}

-- ---- code

-- another form of a row
pub writes_as : (r s : Part) (a b : Written) → ((done : Finished) (at : Labels) (p q : ℕ) → r done at p q → s done at p q)
    → Writes r a b → Writes s a b
writes_as r s a b f w = record { grows = w.grows; stands = λ done at h. f done at _ _ (w.stands done at h) }

-- nothing is written but a label or its place
pub writes_fresh : (label : ℕ) (a b : Written) → Fresh label a b → Writes (λ done at. end) a b
writes_fresh label a b h = (goes_fresh 0 label (λ done at. end) a b b (omega arith) h (goes_end 0 b)).writes

pub writes_here : (label : ℕ) (a b : Written) → Defines label a b → Writes (λ done at. end) a b
writes_here label a b h =
    writes_as (λ done at. here (at label) end) (λ done at. end) a b (λ done at p q r. r.1)
    (goes_here 0 label (λ done at. end) a b b (omega arith) h (goes_end 0 b)).writes

-- an instruction is
pub writes_put : (names : Numbered) (l : ℕ) (x : Instr) (a b : Written) → Puts l x a b
    → Writes (λ done at. instructions 1) a b
writes_put names l x a b h =
    writes_as (λ done at. ins (site names done) l (moved at x) end) (λ done at. instructions 1) a b
    (λ done at p q r. sym r.1) (goes_put names 0 l x (λ done at. end) a b b h (goes_end 0 b)).writes

pub writes_behind : (r : Part) (a b c : Written) → Writes (λ done at. end) a b → Writes r b c → Writes r a c
writes_behind r a b c w g =
    writes_as (λ done at. part end (r done at)) r a c (λ done at p q x. subst (λ z. r done at z q) (sym x.1) x.2)
    (writes_then (λ done at. end) r a b c w g)

pub writes_before : (r : Part) (a b c : Written) → Writes r a b → Writes (λ done at. end) b c → Writes r a c
writes_before r a b c w g =
    writes_as (λ done at. part (r done at) end) r a c (λ done at p q x. subst (λ z. r done at p z) x.2 x.1)
    (writes_then r (λ done at. end) a b c w g)

-- so many instructions, and so many more
pub counted : (n m k : ℕ) (a b c : Written) → k ≡ n + m → Writes (λ done at. instructions n) a b
    → Writes (λ done at. instructions m) b c → Writes (λ done at. instructions k) a c
counted n m k a b c sum w g =
    writes_as (λ done at. part (instructions n) (instructions m)) (λ done at. instructions k) a c
    (λ done at p q r. let e = r.1 in let f = r.2 in omega (arith, e, f, sum))
    (writes_then (λ done at. instructions n) (λ done at. instructions m) a b c w g)

-- ---- where scopes begin and end

pub inside_more : (m n : ℕ) (vs : List VariableScope) → m ≤ n → AreInside m vs → AreInside n vs
inside_more m n vs le h =
    All-weaker (IsInside m) (IsInside n) (λ v i. record {
      from = omega (arith, le, i.from);
      to = omega (arith, le, i.to);
    }) vs h

reverse_inside : (n : ℕ) (vs : List VariableScope) → AreInside n vs → AreInside n (reverse vs)
reverse_inside n [] h = h
reverse_inside n (v ∷ vs) h =
    subst (AreInside n) (sym (reverse-append (v ∷ []) vs))
    (All-append (IsInside n) (reverse vs) (v ∷ []) (reverse_inside n vs (λ k d lt. h (suc k) d (omega arith)))
    (All-cons (IsInside n) v [] (h 0 v (omega arith)) (All-nil (IsInside n))))

closed_inside : (n : ℕ) (vs : List VariableScope) → AreInside n vs
    → AreInside n (map (closed_at n) (reverse vs))
closed_inside n vs h =
    All-map (IsInside n) (closed_at n) (reverse vs)
    (All-weaker (IsInside n) (λ v. IsInside n (closed_at n v)) (λ v i. record { from = i.from; to = omega arith })
    (reverse vs) (reverse_inside n vs h))

-- ---- scopes

module _ (names : Numbered) where
  abbrev Stand : (Site → Scoping) → Written → ScopeStack → Written → ScopeStack → Type 0
  Stand row a x b y = ScopesStand names row a x b y

  abbrev Codes : (Site → Row) → Written → Written → Type 0
  Codes row a b = Writes (λ done at. row (site names done)) a b

  -- another form of the row
  pub stand_as : (s t : Site → Scoping) (a : Written) (x : ScopeStack) (b : Written) (y : ScopeStack)
      → ((at : Site) (p q : ℕ) (found : Found) → s at p q found → t at p q found) → Stand s a x b y → Stand t a x b y
  stand_as s t a x b y f h = record {
    found = h.found;
    opened = h.opened;
    closed = h.closed;
    begun = h.begun;
    ended = h.ended;
    grows = h.grows;
    stands = λ done at fits. f (site names done) _ _ h.found (h.stands done at fits);
  }

  -- no scope begins or ends
  pub stand_plain : (row : Site → Row) (a b : Written) (x : ScopeStack) → Codes row a b
      → Stand (λ at. plain (row at)) a x b x
  stand_plain row a b x w = record {
    found = nothing;
    opened = sym (append-nil x.opened.items);
    closed = sym (append-nil x.closed.items);
    begun = All-nil (IsInside (length b.code));
    ended = All-nil (IsInside (length b.code));
    grows = w.grows;
    stands = λ done at fits. (w.stands done at fits, refl);
  }

  pub stand_after : (row : Site → Row) (s : Site → Scoping) (a b : Written) (x : ScopeStack) (c : Written) (y : ScopeStack)
      → Codes row a b → Stand s b x c y → Stand (λ at. after (row at) (s at)) a x c y
  stand_after row s a b x c y w h = record {
    found = h.found;
    opened = h.opened;
    closed = h.closed;
    begun = h.begun;
    ended = h.ended;
    grows = grows_on a b c w.grows h.grows;
    stands = λ done at fits. (
      length b.code,
      w.stands done at (fits_back done at _ b c h.grows fits),
      h.stands done at (fits_from done at _ _ c w.grows.longer fits),
    );
  }

  pub stand_before : (s : Site → Scoping) (row : Site → Row) (a : Written) (x : ScopeStack) (b : Written)
      (y : ScopeStack) (c : Written) → Stand s a x b y → Codes row b c → Stand (λ at. before (s at) (row at)) a x c y
  stand_before s row a x b y c h w = record {
    found = h.found;
    opened = h.opened;
    closed = h.closed;
    begun = inside_more (length b.code) (length c.code) h.found.opened w.grows.longer h.begun;
    ended = inside_more (length b.code) (length c.code) h.found.closed w.grows.longer h.ended;
    grows = grows_on a b c h.grows w.grows;
    stands = λ done at fits. (
      length b.code,
      h.stands done at (fits_back done at _ b c w.grows fits),
      w.stands done at (fits_from done at _ _ c h.grows.longer fits),
    );
  }

  grown : {A : Type 0} (a b c f g : List A) → b ≡ a ++ f → c ≡ b ++ g → c ≡ a ++ (f ++ g)
  grown a b c f g first second = second ∙ ap (λ x. x ++ g) first ∙ append_assoc a f g

  pub stand_both : (s t : Site → Scoping) (a : Written) (x : ScopeStack) (b : Written) (y : ScopeStack) (c : Written)
      (z : ScopeStack) → Stand s a x b y → Stand t b y c z → Stand (λ at. both (s at) (t at)) a x c z
  stand_both s t a x b y c z h g = record {
    found = h.found then g.found;
    opened = grown _ _ _ _ _ h.opened g.opened;
    closed = grown _ _ _ _ _ h.closed g.closed;
    begun = All-append (IsInside (length c.code)) h.found.opened g.found.opened
        (inside_more (length b.code) (length c.code) h.found.opened g.grows.longer h.begun) g.begun;
    ended = All-append (IsInside (length c.code)) h.found.closed g.found.closed
        (inside_more (length b.code) (length c.code) h.found.closed g.grows.longer h.ended) g.ended;
    grows = grows_on a b c h.grows g.grows;
    stands = λ done at fits. (
      length b.code,
      h.found,
      g.found,
      h.stands done at (fits_back done at _ b c g.grows fits),
      g.stands done at (fits_from done at _ _ c h.grows.longer fits),
      refl,
    );
  }

  -- nothing but labels before a row, or behind it
  pub stand_behind : (s : Site → Scoping) (a b : Written) (x : ScopeStack) (c : Written) (y : ScopeStack)
      → Writes (λ done at. end) a b → Stand s b x c y → Stand s a x c y
  stand_behind s a b x c y w h =
      stand_as (λ at. after end (s at)) s a x c y (λ at p q found r. subst (λ z. s at z q found) (sym r.1) r.2)
      (stand_after (λ at. end) s a b x c y w h)

  pub stand_ahead : (s : Site → Scoping) (a : Written) (x : ScopeStack) (b : Written) (y : ScopeStack) (c : Written)
      → Stand s a x b y → Writes (λ done at. end) b c → Stand s a x c y
  stand_ahead s a x b y c h w =
      stand_as (λ at. before (s at) end) s a x c y (λ at p q found r. subst (λ z. s at p z found) r.2 r.1)
      (stand_before s (λ at. end) a x b y c h w)

  -- a scope begins
  pub stand_opens_at : (from : ℕ) (length' : Option ℕ) (variable : LocalVariable) (row : Site → Row) (a b : Written)
      (x y : ScopeStack) → from ≤ length a.code → BeginsOneScope from length' variable x y → Codes row a b
      → Stand (λ at. opens_at from length' variable (row at)) a x b y
  stand_opens_at from length' variable row a b x y early h w = record {
    found = opening (opened_with length' from variable ∷ []);
    opened = h.opened;
    closed = h.closed ∙ sym (append-nil x.closed.items);
    begun = All-cons (IsInside (length b.code)) (opened_with length' from variable) [] (record {
      from = omega (arith, early, w.grows.longer);
      to = omega (arith, early, w.grows.longer);
    }) (All-nil (IsInside (length b.code)));
    ended = All-nil (IsInside (length b.code));
    grows = w.grows;
    stands = λ done at fits. (w.stands done at fits, refl);
  }

  pub stand_opens : (from : ℕ) (length' : Option ℕ) (variable : LocalVariable) (row : Site → Row) (a b : Written)
      (x y : ScopeStack) → from ≡ length a.code → BeginsOneScope from length' variable x y → Codes row a b
      → Stand (λ at. opens length' variable (row at)) a x b y
  stand_opens from length' variable row a b x y here h w =
      let moved = stand_opens_at (length a.code) length' variable row a b x y (omega arith)
      (subst (λ p. BeginsOneScope p length' variable x y) here h) w in
      record {
        found = moved.found;
        opened = moved.opened;
        closed = moved.closed;
        begun = moved.begun;
        ended = moved.ended;
        grows = moved.grows;
        stands = moved.stands;
      }

  -- all that has begun ends
  pub stand_block : (s : Site → Scoping) (a : Written) (x : ScopeStack) (b : Written) (y z : ScopeStack)
      (height to : ℕ) → height ≡ length x.opened.items → to ≡ length b.code → Stand s a x b y
      → (height ≤ length y.opened.items → EndsScopes height to y z) → Stand (λ at. block (s at)) a x b z
  stand_block s a x b y z height to high here h ends = record {
    found = ending (length b.code) h.found;
    opened = over.opened ∙ ap (take (length x.opened.items)) h.opened ∙ take-append_seam x.opened.items h.found.opened
        ∙ sym (append-nil x.opened.items);
    closed = over.closed ∙ ap (λ xs. xs ++ map (closed_at (length b.code))
        (reverse (drop (length x.opened.items) y.opened.items))) h.closed
        ∙ append_assoc x.closed.items h.found.closed _
        ∙ ap (λ xs. x.closed.items ++ (h.found.closed ++ map (closed_at (length b.code)) (reverse xs))) since;
    begun = All-nil (IsInside (length b.code));
    ended = All-append (IsInside (length b.code)) h.found.closed _ h.ended
        (closed_inside (length b.code) h.found.opened h.begun);
    grows = h.grows;
    stands = λ done at fits. (h.found, h.stands done at fits, refl);
  }
    where
      fits : height ≤ length y.opened.items
      fits = omega (arith, high, ap length h.opened ∙ length-append x.opened.items h.found.opened)

      over : EndsScopes (length x.opened.items) (length b.code) y z
      over = subst (λ n. EndsScopes n (length b.code) y z) high (subst (λ n. EndsScopes height n y z) here (ends fits))

      since : drop (length x.opened.items) y.opened.items ≡ h.found.opened
      since = ap (drop (length x.opened.items)) h.opened ∙ drop-append_seam x.opened.items h.found.opened

  -- ---- several, one behind the other

  -- whoever adds the scopes of what is left has added all
  unfoldable pub ScopesOn : (all left : Site → Scoping) → Written → ScopeStack → Written → ScopeStack → Type 0
  ScopesOn all left a x b y = (c : Written) (z : ScopeStack)
      → ScopesStand names left b y c z → ScopesStand names all a x c z

  pub scopes_begin : (all : Site → Scoping) (a : Written) (x : ScopeStack) → ScopesOn all all a x a x
  unfolding ScopesOn
  scopes_begin all a x = λ c z g. g

  pub scopes_next : (all first rest : Site → Scoping) (a : Written) (x : ScopeStack) (b : Written) (y : ScopeStack)
      (c : Written) (z : ScopeStack) → ScopesOn all (λ at. both (first at) (rest at)) a x b y
      → ScopesStand names first b y c z → ScopesOn all rest a x c z
  unfolding ScopesOn
  scopes_next all first rest a x b y c z g h = λ d w i. g d w (stand_both first rest b y c z d w h i)

  pub scopes_end : (all : Site → Scoping) (a : Written) (x : ScopeStack) (b : Written) (y : ScopeStack)
      → ScopesOn all (λ at. plain end) a x b y → ScopesStand names all a x b y
  unfolding ScopesOn
  scopes_end all a x b y g = g b y (stand_plain (λ at. end) b b y (goes_end 0 b).writes)

  -- the same of the items of a list
  pub each_next : {B : Type 0} → (row : Site → B → Scoping) (all left rest : List B) (item : B) (a : Written)
      (x : ScopeStack) (b : Written) (y : ScopeStack) (c : Written) (z : ScopeStack) → left ≡ item ∷ rest
      → ScopesOn (λ at. each_scope (row at) all) (λ at. each_scope (row at) left) a x b y
      → ScopesStand names (λ at. row at item) b y c z
      → ScopesOn (λ at. each_scope (row at) all) (λ at. each_scope (row at) rest) a x c z
  each_next row all left rest item a x b y c z here g h =
      scopes_next (λ at. each_scope (row at) all) (λ at. row at item) (λ at. each_scope (row at) rest) a x b y c z
      (subst (λ xs. ScopesOn (λ at. each_scope (row at) all) (λ at. each_scope (row at) xs) a x b y) here g) h

  pub each_end : {B : Type 0} → (row : Site → B → Scoping) (all left : List B) (a : Written) (x : ScopeStack)
      (b : Written) (y : ScopeStack) → left ≡ []
      → ScopesOn (λ at. each_scope (row at) all) (λ at. each_scope (row at) left) a x b y
      → ScopesStand names (λ at. each_scope (row at) all) a x b y
  each_end row all left a x b y none g =
      scopes_end (λ at. each_scope (row at) all) a x b y
      (subst (λ xs. ScopesOn (λ at. each_scope (row at) all) (λ at. each_scope (row at) xs) a x b y) none g)

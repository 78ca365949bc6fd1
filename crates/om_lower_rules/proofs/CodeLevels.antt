-- The code of a tree keeps to its bodies and its levels.
use Rattle.std.proofs.Common.{◌≡◌, ℕ, zero, suc, ◌+◌, ◌<◌, ◌≤◌, Bool, true, false, List, [], ◌∷◌, ◌++◌, length, Some}
use Rattle.std.proofs.Common.{refl, sym, ap, ◌∙◌, subst, ⊎_elim, arith, length-append}
use Rattle.std.specs.Prelude.{slice_get, Contains, All}
use Rattle.std.specs.List.{AllZip}
use Rattle.std.proofs.lemmas.Bool.{cases_lt}
use Rattle.std.proofs.lemmas.List.Elements.{All-cons}
use Rattle.std.proofs.lemmas.Option.{get_or_from_slice_get, slice_get_within}
use Rattle.om_code.specs.declared.instruction.Instr.{Instr}
use Rattle.om_code.specs.declared.instruction.Instr.TheVariants as i
use Rattle.om_code.specs.declared.instruction.Serial.TheVariants as serials
use Rattle.om_code.specs.declared.instruction.Team.TheVariants as teams
use Rattle.om_code.specs.declared.instruction.Sharing.TheVariants as sharings
use Rattle.om_code.specs.declared.instruction.Task.TheVariants as taskings
use Rattle.om_code.specs.declared.raw.Body.{Body}
use Rattle.om_code.specs.declared.raw.Line.{Line}
use Rattle.om_code.specs.declared.raw.Raw.{Raw}
use Rattle.om_code.specs.Validity.{HasOneHeight}
use Rattle.om_code.specs.Ways.{pops, pushes, successors, Way, starts, follows}
use Rattle.om_scope_tree.specs.declared.resolved.ConstructKind.TheVariants as constructs
use Rattle.om_scope_tree.specs.declared.resolved.RegionKind.TheVariants as kinds
use Rattle.om_scope_tree.specs.ResolvedTree.{ResolvedStatementTree, Declaration, Block, Empty, Expression, If, IfElse}
use Rattle.om_scope_tree.specs.ResolvedTree.{While, Do, For, Return, Break, Continue, Region, Loop, Sections}
use Rattle.om_scope_tree.specs.ResolvedTree.{Construct, Update, StandAlone, ResolvedStatementsTree, NoStatements}
use Rattle.om_scope_tree.specs.ResolvedTree.{Statement, ResolvedPartsTree, NoParts, Part, ResolvedFunctionTree}
use Rattle.om_scope_tree.specs.ResolvedTree.{ResolvedTree}
use Rattle.om_lower_rules.specs.Bodies.{Numbers, next_pick, behind, behind_all, BodyTree, BodySite, FunctionBody, RegionBody}
use Rattle.om_lower_rules.specs.Bodies.{bodies_of}
use Rattle.om_lower_rules.specs.Code.{body_row, site_of, IsBodyOf}
use Rattle.om_lower_rules.specs.Expressions.{effect}
use Rattle.om_lower_rules.specs.Laws.{CodeIsLevel, IsLevel}
use Rattle.om_lower_rules.specs.Operators.{comparison_of}
use Rattle.om_lower_rules.specs.Rows.{Site, Row, ins, part, here, ◌▸◌}
use Rattle.om_lower_rules.specs.Statements.{Jumps, nowhere, in_loop, in_iteration, test, clause_value, given_copies, loop_rest}
use Rattle.om_lower_rules.specs.Statements.{last_instruction, with_place, no_place, statement, statements, parts}
use Rattle.om_lower_rules.proofs.Levels.{Levels, Each, HasAt, IsAt, IsFine, nothing, level_end, level_ins, level_next}
use Rattle.om_lower_rules.proofs.Levels.{level_either, level_jump, level_within, level_as, level_more, level_free, level_part}
use Rattle.om_lower_rules.proofs.Levels.{level_here, level_closed}
use Rattle.om_lower_rules.proofs.StatementLevels as heads

-- PICK goes to one of its places
level_pick : {picks : List (List ℕ)} {code : List Line} {N G : List ℕ → Type 0} {R : Type 0} {p q h out l list : ℕ}
    (places : List ℕ)
    → (slice_get code p ≡ Some (record { instruction = i.Sharing (sharings.Pick list); line = l })) × R
    → slice_get picks list ≡ Some places
    → ((hs : List ℕ) → N hs → Each (λ to. IsAt hs to h) places)
    → (R → Levels picks code N G (p + 1) q h out) → Levels picks code N G p q h out
level_pick {picks} {code} {N} {G} {R} {p} {q} {h} {out} {l} {list} places r is need k =
    let same : h ≡ h + 0 = omega arith in
    level_ins {next = h} h r (omega arith)
    (λ hs n e. subst (λ z. Each (λ to. IsAt hs to (h + 0)) z) (sym (get_or_from_slice_get picks list places [] is))
    (subst (λ z. Each (λ to. IsAt hs to z) places) same (need hs n)))
    k

module _ (at : Site) where
  -- `break` and `continue` go where as many operands stand
  abbrev Room : Jumps → ℕ → List ℕ → Type 0
  Room j h hs = heads.Goal at j.over h hs × heads.Goal at j.next h hs

  abbrev Label : ℕ → ℕ → List ℕ → Type 0
  Label f h hs = IsAt hs f h

  -- the parts begin at this height
  abbrev Begin : List ℕ → ℕ → List ℕ → Type 0
  Begin places h hs = Each (λ to. IsAt hs to h) places

  no_place_levels : (grab : ℕ) (places : List ℕ) → heads.Steady at (Label grab) (Begin places) (no_place places)
  no_place_levels grab [] h p q r = level_as (level_end r) (λ hs g. tt)
  no_place_levels grab (x ∷ xs) h p q r = absurd r

  with_place_levels : {N : ℕ → List ℕ → Type 0} (places : List ℕ) (row : ℕ → List ℕ → Row)
      → ((x : ℕ) (xs : List ℕ) → heads.Steady at N (Begin (x ∷ xs)) (row x xs)) → heads.Steady at N (Begin places)
      (with_place places row)
  with_place_levels [] row f h p q r = absurd r
  with_place_levels (x ∷ xs) row f h p q r = f x xs h p q r

  mutual
    pub statement_levels : (s : ResolvedStatementTree) (n : Numbers) (j : Jumps) → heads.Steady at (Room j)
        (heads.none at) (statement at n s j)
    statement_levels (Declaration first ds) n j h p q r = level_free (heads.declarators_levels at first.line ds h p q r)
    statement_levels (Block first items) n j h p q r = statements_levels items n j h p q r
    statement_levels (Empty first) n j h p q r = level_end r
    statement_levels (Expression first e) n j h p q r = level_free (heads.effects at first.line e h p q r)
    statement_levels (If first c s) n j h p q r =
        level_closed {L = λ hs. IsAt hs r.0 h}
        (level_part r.1 (heads.values at first.line c h p) (λ m u.
        level_either {next = h} h u refl (omega arith) (omega arith) (λ hs k. k.1) (λ u.
        level_within u (λ hs k. k.0) (statement_levels s n j h (m + 1)) (λ m u. level_here u level_end))))
        (λ hs g. g.1.0) (λ hs g. tt)
    statement_levels (IfElse first c s t) n j h p q r =
        level_closed {L = λ hs. IsAt hs r.0 h × IsAt hs r.1 h}
        (level_part r.2 (heads.values at first.line c h p) (λ m u.
        level_either {next = h} h u refl (omega arith) (omega arith) (λ hs k. k.1.0) (λ u.
        level_within u (λ hs k. k.0) (statement_levels s n j h (m + 1)) (λ m u.
        level_jump {next = h} u refl (omega arith) (omega arith) (λ hs k. k.1.1) (λ u.
        level_here u (λ u.
        level_within u (λ hs k. k.0) (statement_levels t (behind n s) j h (m + 1)) (λ m u. level_here u level_end)))))))
        (λ hs g. (g.1.0, g.1.1.1.0)) (λ hs g. tt)
    statement_levels (While first c s) n j h p q r =
        level_closed {L = λ hs. IsAt hs r.0 h × IsAt hs r.1 h}
        (level_here r.2 (λ u.
        level_part u (heads.values at first.line c h p) (λ m u.
        level_either {next = h} h u refl (omega arith) (omega arith) (λ hs k. k.1.1) (λ u.
        level_within u (λ hs k. (k.1.1, k.1.0)) (statement_levels s n (in_loop r.1 r.0) h (m + 1)) (λ m u.
        level_jump {next = h} u refl (omega arith) (omega arith) (λ hs k. k.1.0) (λ u. level_here u level_end))))))
        (λ hs g. (g.0, g.1.1.0)) (λ hs g. tt)
    statement_levels (Do first s c) n j h p q r =
        level_closed {L = λ hs. IsAt hs r.0 h × IsAt hs r.1 h × IsAt hs r.2 h}
        (level_here r.3 (λ u.
        level_within u (λ hs k. (k.1.2, k.1.1)) (statement_levels s n (in_loop r.2 r.1) h p) (λ m u.
        level_here u (λ u.
        level_part u (heads.values at first.line c h m) (λ m u.
        level_either {next = h} h u refl (omega arith) (omega arith) (λ hs k. k.1.2) (λ u.
        level_jump {next = h} u refl (omega arith) (omega arith) (λ hs k. k.1.0) (λ u. level_here u level_end)))))))
        (λ hs g. (g.0, g.1.1.0, g.1.1.1.0)) (λ hs g. tt)
    statement_levels (For first begin c step s) n j h p q r =
        level_closed {L = λ hs. IsAt hs r.0 h × IsAt hs r.1 h × IsAt hs r.2 h}
        (level_part r.3 (heads.start_levels at first.line begin h p) (λ m u.
        level_here u (λ u.
        level_within u (λ hs k. k.1.2) (heads.perhaps_levels at {N = Label r.2} (test at first.line r.2) c
        (heads.test_levels at first.line r.2) h m) (λ m u.
        level_within u (λ hs k. (k.1.2, k.1.1)) (statement_levels s n (in_loop r.2 r.1) h m) (λ m u.
        level_here u (λ u.
        level_part u (heads.perhaps_levels at {N = heads.none at} (effect at first.line) step
        (heads.effects at first.line) h m) (λ m u.
        level_jump {next = h} u refl (omega arith) (omega arith) (λ hs k. k.1.0) (λ u. level_here u level_end))))))))
        (λ hs g. (g.0, g.1.1.1.0, g.1.1.1.1.0)) (λ hs g. tt)
    statement_levels (Return first e) n j h p q r = level_free (heads.returned_levels at first.line at.is_main e h p
        q r)
    statement_levels (Break first) n j h p q r = level_more (heads.jump_levels at first.line j.over h p q r)
        (λ hs k. k.0)
    statement_levels (Continue first) n j h p q r = level_more (heads.jump_levels at first.line j.next h p q r)
        (λ hs k. k.1)
    statement_levels (Region first kinds.Parallel clauses captures s) n j h p q r =
        level_free (heads.parallel_levels at first.line n.bodies (clause_value clauses)
        (given_copies clauses captures s) h p q r)
    statement_levels (Region first kinds.Task clauses captures s) n j h p q r =
        level_free (heads.task_levels at first.line n.bodies (given_copies clauses captures s) h p q r)
    statement_levels (Loop first clauses nowait loop s) n j h p q r =
        level_free
        (heads.given_levels at {N = heads.none at} {G = heads.none at} (loop_rest at first.line clauses nowait loop
        (λ next. statement at n s (in_iteration next))) (comparison_of loop.comparison)
        (λ comparison. heads.loop_levels at first.line clauses nowait loop
        (λ next. statement at n s (in_iteration next)) comparison
        (λ next h p q r. level_more (statement_levels s n (in_iteration next) h p q r) (λ hs k. (tt, k))))
        h p q r)
    statement_levels (Sections first clauses nowait sections) n j h p q r =
        level_closed {L = λ hs. IsAt hs r.1 h × IsAt hs r.2 h × Begin r.0 h hs}
        (level_part r.4 (heads.starts_levels at first.line clauses h p) (λ m u.
        level_next {next = h} h u refl (omega arith) (omega arith) (λ u.
        level_here u (λ u.
        level_either {next = h} h u refl (omega arith) (omega arith) (λ hs k. k.1.1) (λ u.
        level_pick r.0 u r.3 (λ hs k. k.1.2) (λ u.
        level_within u (λ hs k. k.1.0) (parts_levels sections (next_pick n) first.line r.1 r.0 h (m + 1 + 1 + 1))
        (λ m u.
        level_here u (λ u.
        level_part u (heads.reductions_levels at first.line clauses h m) (λ m u.
        level_free (heads.end_levels at first.line nowait h m q u))))))))))
        (λ hs g. (g.0, g.1.1.0, g.1.0)) (λ hs g. tt)
    statement_levels (Construct first (constructs.Single nowait) clauses s) n j h p q r =
        level_free (heads.single_levels at first.line nowait clauses (statement at n s nowhere)
        (λ h p q r. level_more (statement_levels s n nowhere h p q r) (λ hs k. (tt, tt))) h p q r)
    statement_levels (Construct first constructs.Masked clauses s) n j h p q r =
        level_free (heads.masked_levels at first.line clauses (statement at n s nowhere)
        (λ h p q r. level_more (statement_levels s n nowhere h p q r) (λ hs k. (tt, tt))) h p q r)
    statement_levels (Construct first (constructs.Critical name) clauses s) n j h p q r =
        level_free (heads.critical_levels at first.line name (statement at n s nowhere)
        (λ h p q r. level_more (statement_levels s n nowhere h p q r) (λ hs k. (tt, tt))) h p q r)
    statement_levels (Construct first (constructs.Atomic access) clauses s) n j h p q r = level_free
        (heads.assignment_levels at first.line s h p q r)
    statement_levels (Construct first constructs.Taskgroup clauses s) n j h p q r =
        level_free (heads.group_levels at first.line (statement at n s nowhere)
        (λ h p q r. level_more (statement_levels s n nowhere h p q r) (λ hs k. (tt, tt))) h p q r)
    statement_levels (Update first u) n j h p q r = level_free (heads.update_levels at first.line u h p q r)
    statement_levels (StandAlone first directive) n j h p q r = level_free
        (heads.alone_levels at first.line directive h p q r)

    pub statements_levels : (items : ResolvedStatementsTree) (n : Numbers) (j : Jumps) → heads.Steady at (Room j)
        (heads.none at) (statements at n items j)
    statements_levels NoStatements n j h p q r = level_end r
    statements_levels (Statement s rest) n j h p q r =
        level_as (level_within r (λ hs k. k) (statement_levels s n j h p)
        (λ m r. statements_levels rest (behind n s) j h m q r)) (λ hs g. tt)

    pub parts_levels : (sections : ResolvedPartsTree) (n : Numbers) (l grab : ℕ) (places : List ℕ)
        → heads.Steady at (Label grab) (Begin places) (parts at n l grab sections places)
    parts_levels NoParts n l grab places h p q r = no_place_levels grab places h p q r
    parts_levels (Part items rest) n l grab places h p q r =
        with_place_levels places
        (λ x xs. here x ▸ part (statements at n items nowhere) ▸ ins at l (i.Serial (serials.Jump grab)) ▸ parts at
        (behind_all n items) l grab rest xs)
        (λ x xs h p q r.
        level_as
        (level_here r (λ r.
        level_within r (λ hs k. (tt, tt)) (statements_levels items n nowhere h p) (λ m r.
        level_jump {next = h} r refl (omega arith) (omega arith) (λ hs k. k)
        (λ r. parts_levels rest (behind_all n items) l grab xs h (m + 1) q r))))
        (λ hs g. (g.0, g.1.1)))
        h p q r

-- ---- from heights to ways

each_contains : {A : Type 0} (P : A → Type 0) (xs : List A) (x : A) → Each P xs → Contains xs x → P x
each_contains P [] x h c = absurd (omega (arith, c.1))
each_contains P (y ∷ ys) x h (zero, lt, e) = subst P e h.0
each_contains P (y ∷ ys) x h (suc k, lt, e) = each_contains P ys x h.1 (k, omega (arith, lt), e)

-- heights of all places of a body, at which each instruction is fine
record HasHeights (picks : List (List ℕ)) (code : List Line) : Type 0 where
  hs : List ℕ
  long : length hs ≡ length code
  begins : IsAt hs 0 0
  fine : (k : ℕ) (line : Line) (x : ℕ) → slice_get code k ≡ Some line → IsAt hs k x → IsFine picks hs k x line

there : (hs : List ℕ) (k : ℕ) → k < length hs → (x : ℕ) × IsAt hs k x
there [] k lt = absurd (omega (arith, lt))
there (x ∷ hs) zero lt = (x, refl)
there (x ∷ hs) (suc k) lt = there hs k (omega (arith, lt))

module _ (picks : List (List ℕ)) (code : List Line) (known : HasHeights picks code) where
  abbrev IsFineAt : ℕ → ℕ → Line → Type 0
  IsFineAt k x line = IsFine picks known.hs k x line

  way_known : (at height : ℕ) → Way picks code at height → IsAt known.hs at height
  way_known _ _ starts = known.begins
  way_known _ _ (follows at height rest to line way is enough next) =
      let f : IsFineAt at height line = known.fine at line height is (way_known at height way) in
      let same : f.rest + pushes line.instruction ≡ rest + pushes line.instruction = omega (arith, f.enough, enough) in
      each_contains (λ z. IsAt known.hs z (f.rest + pushes line.instruction)) (successors picks at line.instruction)
      to f.leads next ∙ ap Some same

  one_height : HasOneHeight picks code
  one_height = record {
    enough = λ at height line way is.
        let f : IsFineAt at height line = known.fine at line height is (way_known at height way) in omega
        (arith, f.enough);
    one = λ at height other way more.
        let same : Some height ≡ Some other = sym (way_known at height way) ∙ way_known at other more in cc same;
  }

  goes_on : (at to : ℕ) (line : Line) → slice_get code at ≡ Some line
      → Contains (successors picks at line.instruction) to → to < length code
  goes_on at to line is next =
      let x = there known.hs at (omega (arith, slice_get_within code at line is, known.long)) in
      let f : IsFineAt at x.0 line = known.fine at line x.0 is x.1 in
      let e = each_contains (λ z. IsAt known.hs z (f.rest + pushes line.instruction))
      (successors picks at line.instruction) to f.leads next in
      omega (arith, slice_get_within known.hs to (f.rest + pushes line.instruction) e, known.long)

  is_level : IsLevel picks code
  is_level = record {
    one_height = one_height;
    inside = λ small. record {
      begins = omega (arith, slice_get_within known.hs 0 0 known.begins, known.long);
      goes_on = goes_on;
      numbered = small;
    };
  }

has_shift : (hs xs : List ℕ) (p y : ℕ) → HasAt hs p xs → HasAt (y ∷ hs) (p + 1) xs
has_shift hs [] p y h = tt
has_shift hs (x ∷ xs) p y h = let e : p + 1 ≡ suc p = omega arith in (
  ap (λ z. slice_get (y ∷ hs) z) e ∙ h.0,
  has_shift hs xs (p + 1) y h.1,
)

has_self : (xs ys : List ℕ) → HasAt (xs ++ ys) 0 xs
has_self [] ys = tt
has_self (x ∷ xs) ys = (refl, has_shift (xs ++ ys) xs 0 x (has_self xs ys))

last_at : (xs : List ℕ) (y : ℕ) → IsAt (xs ++ y ∷ []) (length xs) y
last_at [] y = refl
last_at (x ∷ xs) y = last_at xs y

-- heights up to the last instruction, which goes nowhere and needs nothing
finished : (picks : List (List ℕ)) (code : List Line) (m l : ℕ) (last : Instr)
    → Levels picks code nothing nothing 0 m 0 0 → slice_get code m ≡ Some (record { instruction = last; line = l })
    → m + 1 ≡ length code
    → pops last ≡ 0 → successors picks m last ≡ [] → IsLevel picks code
finished picks code m l last a is end enough ways =
    let hs : List ℕ = a.piece ++ 0 ∷ [] in
    let piece : HasAt hs 0 a.piece = has_self a.piece (0 ∷ []) in
    let at_end : m ≡ length a.piece = omega (arith, a.long) in
    let at_last : IsAt hs m 0 = ap (λ z. slice_get hs z) at_end ∙ last_at a.piece 0 in
    is_level picks code (record {
      hs = hs;
      long = omega (arith, length-append a.piece (0 ∷ []), a.long, end);
      begins = a.starts hs piece at_last;
      fine = λ k line x line_is at.
          ⊎_elim
          (λ (below : k < m). a.fine hs piece at_last tt k (omega arith) below line x line_is at)
          (λ (behind : m ≤ k).
          let here : k ≡ m = omega (arith, behind, end, slice_get_within code k line line_is) in
          let same : record { instruction = last; line = l } ≡ line = cc (
            is,
            ap (λ z. slice_get code z) here,
            line_is,
          ) in
          let zero_is : 0 ≡ x = cc (at_last, ap (λ z. slice_get hs z) here, at) in
          let f : IsFine picks hs m 0 (record { instruction = last; line = l }) =
          record {
            rest = 0;
            enough = omega (arith, enough);
            leads = subst
                (λ z. Each (λ to. IsAt hs to (0 + pushes last)) z) (sym ways) tt;
          } in
          subst (λ (z : ℕ). IsFine picks hs z x line) (sym here) (subst (λ (z : ℕ). IsFine picks hs m z line)
          zero_is (subst (λ (z : Line). IsFine picks hs m 0 z) same f)))
          (cases_lt k m);
    })

level_join : {picks : List (List ℕ)} {code : List Line} {p m q h mid out : ℕ}
    → Levels picks code nothing nothing p m h mid → Levels picks code nothing nothing m q mid out
    → Levels picks code nothing nothing p q h out
level_join {picks} {code} {p} {m} {q} {h} {mid} {out} a b =
    level_part {A = λ z. Levels picks code nothing nothing p z h mid} {R = λ z. Levels picks code nothing nothing z
    q mid out} (m, a, b) (λ m x. x) (λ m x. x)

last_pops : (is_main : Bool) → pops (last_instruction is_main false) ≡ 0
last_pops true = refl
last_pops false = refl

last_ways : (picks : List (List ℕ)) (m : ℕ) (is_main : Bool) → successors picks m (last_instruction is_main false) ≡ []
last_ways picks m true = refl
last_ways picks m false = refl

pub body_levels : (at : Site) (n : Numbers) (f : ResolvedFunctionTree) (tree : BodyTree) → body_row at n f tree 0
    (length at.code) → IsLevel at.picks at.code
body_levels at n f FunctionBody r =
    finished at.picks at.code r.0 f.closing_line (last_instruction at.is_main false)
    (level_more (statements_levels at f.body n nowhere 0 0 r.0 r.1) (λ hs k. (tt, tt)))
    r.2.0 r.2.1 (last_pops at.is_main) (last_ways at.picks r.0 at.is_main)
body_levels at n f (RegionBody first kinds.Parallel clauses captures s) r =
    let b = r.1.2.2 in
    finished at.picks at.code (b.0 + 1) first.line (i.Team teams.Leave)
    (level_next {R = Unit {0}} {next = 0} 0 (r.0, tt) refl (omega arith) (omega arith) (λ u.
    level_join (heads.reduction_starts_levels at first.line clauses 0 1 r.1.0 r.1.1)
    (level_join (level_more (statement_levels at s n nowhere 0 r.1.0 r.1.2.0 r.1.2.1) (λ hs k. (tt, tt)))
    (level_join (heads.reductions_levels at first.line clauses 0 r.1.2.0 b.0 b.1)
    (level_next {R = Unit {0}} {next = 0} 0 (b.2.0, tt) refl (omega arith) (omega arith) (λ u. level_end refl))))))
    b.2.1.0 b.2.1.1 refl refl
body_levels at n f (RegionBody first kinds.Task clauses captures s) r =
    finished at.picks at.code r.0 first.line (i.Task taskings.TaskEnd)
    (level_more (statement_levels at s n nowhere 0 0 r.0 r.1) (λ hs k. (tt, tt)))
    r.2.0 r.2.1 refl refl

module _ (tree : ResolvedTree) (raw : Raw) where
  bodies_levels : (bs : List BodySite) (xs : List Body) → AllZip (IsBodyOf tree raw) bs xs
      → All (λ body. IsLevel raw.picks body.code) xs
  bodies_levels [] [] a = λ k d lt. absurd (omega (arith, lt))
  bodies_levels [] (x ∷ xs) a = absurd a
  bodies_levels (b ∷ bs) [] a = absurd a
  bodies_levels (b ∷ bs) (x ∷ xs) a =
      All-cons (λ body. IsLevel raw.picks body.code) x xs
      (body_levels (site_of tree raw b x) b.numbers b.function b.tree a.0.code)
      (bodies_levels bs xs a.1)

pub code_is_level : CodeIsLevel
code_is_level tree raw a = bodies_levels tree raw (bodies_of tree) raw.bodies a.bodies

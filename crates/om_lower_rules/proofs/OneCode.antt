-- A tree has one code, and so has each of its bodies.
use Rattle.std.proofs.Common.{◌≡◌, ℕ, zero, suc, ◌<◌, Bool, true, false, List, [], ◌∷◌, length, Some, refl, sym, ap}
use Rattle.std.proofs.Common.{subst, ◌∙◌, arith}
use Rattle.std.specs.Prelude.{slice_get, Contains}
use Rattle.std.specs.List.{AllZip}
use Rattle.std.proofs.lemmas.Option.{slice_get_within}
use Rattle.om_code.specs.declared.instruction.Exits.{Exits}
use Rattle.om_code.specs.declared.instruction.Exits.TheVariants.{Nowhere, Next, Always, Either, OneOf}
use Rattle.om_code.specs.declared.raw.Body.{Body}
use Rattle.om_code.specs.declared.raw.Piece.{Piece}
use Rattle.om_code.specs.declared.raw.Raw.{Raw}
use Rattle.om_code.specs.declared.raw.Line.{Line}
use Rattle.om_code.specs.Ways.{exits, places, Way, starts, follows}
use Rattle.om_scope_tree.specs.declared.resolved.RegionKind.TheVariants as kinds
use Rattle.om_scope_tree.specs.ResolvedTree.{ResolvedFunctionTree, ResolvedTree}
use Rattle.om_lower_rules.specs.declared.variables.VariableScope.{VariableScope}
use Rattle.om_lower_rules.specs.Bodies.{Numbers, next_body, BodyTree, BodySite, FunctionBody, RegionBody}
use Rattle.om_lower_rules.specs.Bodies.{function_variables, function_bodies, behind_function, behind_functions, bodies_from}
use Rattle.om_lower_rules.specs.Bodies.{bodies_of, first_numbers, variables_of}
use Rattle.om_lower_rules.specs.Code.{body_row, IsBodyOf}
use Rattle.om_lower_rules.specs.Laws.{OneBodyCode, OneCode}
use Rattle.om_lower_rules.specs.AtomicPlaces.{atomic_places}
use Rattle.om_lower_rules.specs.Mentions.{atomic_lines, formats_of, locks_of, IsTextOf}
use Rattle.om_lower_rules.specs.Numbered.{site_with}
use Rattle.om_lower_rules.specs.Rows.{Site}
use Rattle.om_lower_rules.specs.Scopes.{Found, names_with}
use Rattle.om_lower_rules.specs.Statements.{nowhere, last_instruction}
use Rattle.om_lower_rules.proofs.ExpressionTwins.{with_code}
use Rattle.om_lower_rules.proofs.HeadTwins as heads
use Rattle.om_lower_rules.proofs.ScopeTwins.{body_match}
use Rattle.om_lower_rules.proofs.StatementTwins as twins
use Rattle.om_lower_rules.proofs.Twins.{Alike, Agree, HasOneList, twin_end, twin_next, twin_within, twin_as, twin_part}

-- lists with the same at each place
same_by_places : {A : Type 0} (xs ys : List A) → length xs ≡ length ys → ((k : ℕ) → k < length xs → slice_get xs k
    ≡ slice_get ys k) → xs ≡ ys
same_by_places [] [] l h = refl
same_by_places [] (y ∷ ys) l h = absurd (omega (arith, l))
same_by_places (x ∷ xs) [] l h = absurd (omega (arith, l))
same_by_places (x ∷ xs) (y ∷ ys) l h =
    let first : Some x ≡ Some y = h zero (omega arith) in
    cc (first, same_by_places xs ys (omega (arith, l)) (λ k lt. h (suc k) (omega (arith, lt))))

-- the scopes of a body, all of which end in it
abbrev all_closed : List VariableScope → Found
all_closed scopes = record { opened = []; closed = scopes }

module _ (functions : List ResolvedFunctionTree) (formats locks picks picks' : List (List ℕ)) where
  abbrev Covered : ℕ → ℕ → Type 0
  Covered a b = twins.Covers picks picks' a b

  abbrev HaveCodes : List BodySite → Type 0
  HaveCodes bs = twins.HaveCodes functions formats locks picks picks' bs

  abbrev HasCodes : BodySite → Type 0
  HasCodes b = twins.HasCodes functions formats locks picks picks' b

  -- the last instruction of a function goes on nowhere
  last_list : (is_main : Bool) → HasOneList picks picks' (exits (last_instruction is_main false))
  last_list true = tt
  last_list false = tt

  -- two codes of one body
  body_agrees : (f : ResolvedFunctionTree) (tree : BodyTree) (n : Numbers) (base : Site) (code code' : List Line)
      (q q' : ℕ)
      → body_row (with_code base code picks) n f tree 0 q → body_row (with_code base code' picks') n f tree 0 q'
      → (q ≡ q') × Agree code code' picks picks' 0 q
  body_agrees f FunctionBody n base code code' q q' r t =
      let a : Alike code code' picks picks' (Unit {0}) (Unit {0}) 0 q 0 q' =
      twin_as
      (twin_within r t (λ k. (refl, refl)) (twins.statements_twin functions formats locks picks picks' f f.body n
      (function_variables f) base code code' nowhere nowhere 0 0)
      (λ m m' r t. twin_next r t (last_list base.is_main) twin_end))
      (λ g. tt) in
      (a.same refl, a.agree refl tt)
  body_agrees f (RegionBody first kinds.Parallel clauses captures s) n base code code' q q' r t =
      let a : Alike code code' picks picks' (Unit {0}) (Unit {0}) 0 q 0 q' =
      twin_as
      (twin_next r t tt (λ r t.
      twin_part r t (heads.reduction_starts_twin base code code' picks picks' first.line clauses 1 1) (λ m m' r t.
      twin_within r t (λ k. (refl, refl)) (twins.statement_twin functions formats locks picks picks' f s n [] base
      code code' nowhere nowhere m m') (λ m m' r t.
      twin_part r t (heads.reductions_twin base code code' picks picks' first.line clauses m m') (λ m m' r t.
      twin_next r t tt (λ r t. twin_next r t tt twin_end))))))
      (λ g. tt) in
      (a.same refl, a.agree refl tt)
  body_agrees f (RegionBody first kinds.Task clauses captures s) n base code code' q q' r t =
      let a : Alike code code' picks picks' (Unit {0}) (Unit {0}) 0 q 0 q' =
      twin_as
      (twin_within r t (λ k. (refl, refl)) (twins.statement_twin functions formats locks picks picks' f s n [] base
      code code' nowhere nowhere 0 0)
      (λ m m' r t. twin_next r t tt twin_end))
      (λ g. tt) in
      (a.same refl, a.agree refl tt)

  -- the lists of PICK of a function, and of functions
  function_covers : (f : ResolvedFunctionTree) (n : Numbers) → HaveCodes (function_bodies n f) → Covered n.picks
      (behind_function n f).picks
  function_covers f n h =
      let r = h.0.one in let t = h.0.other in
      let base = twins.base_of functions formats locks picks picks'
      (record { function = f; tree = FunctionBody; outer = []; numbers = next_body n }) in
      (twins.statements_twin functions formats locks picks picks' f f.body (next_body n) (function_variables f) base
      h.0.code h.0.code' nowhere nowhere
      0 0 r.0 t.0 r.1 t.1).given refl h.1

  functions_cover : (fs : List ResolvedFunctionTree) (n : Numbers) → HaveCodes (bodies_from n fs) → Covered n.picks
      (behind_functions n fs).picks
  functions_cover [] n h = twins.covers_none functions formats locks picks picks' n.picks
  functions_cover (f ∷ fs) n h =
      twins.covers_join functions formats locks picks picks' n.picks (behind_function n f).picks
      (behind_functions (behind_function n f) fs).picks
      (function_covers f n (twins.front functions formats locks picks picks' f (function_bodies n f)
      (bodies_from (behind_function n f) fs) h))
      (functions_cover fs (behind_function n f) (twins.back functions formats locks picks picks' f
      (function_bodies n f) (bodies_from (behind_function n f) fs) h))

-- ---- one body

module _ (picks others : List (List ℕ)) where
  -- an instruction with one list goes on to the same places
  same_places : (at : ℕ) (e : Exits) → HasOneList picks others e → places picks at e ≡ places others at e
  same_places at Nowhere h = refl
  same_places at Next h = refl
  same_places at (Always target) h = refl
  same_places at (Either target) h = refl
  same_places at (OneOf list) h = h

  same_ways : (code : List Line)
      → ((k : ℕ) (line : Line) → slice_get code k ≡ Some line → HasOneList picks others (exits line.instruction))
      → (at height : ℕ) → Way picks code at height → Way others code at height
  same_ways code lists _ _ starts = starts
  same_ways code lists _ _ (follows at height rest to line way is takes leads) =
      follows at height rest to line (same_ways code lists at height way) is takes
      (subst (λ tos. Contains tos to) (same_places at (exits line.instruction) (lists at line is)) leads)

pub one_body_code : OneBodyCode
one_body_code names n f tree code other picks others r t =
    let e = body_agrees names.functions names.formats names.locks picks others f tree n (site_with names [] []) code
    other (length code) (length other) r t in
    let same : code ≡ other = same_by_places code other e.0 (λ k lt. e.1.by k (omega arith) lt) in
    let ways = same_ways picks others code
    (λ k line at. e.1.lists k line (omega arith) (slice_get_within code k line at) at) in
    (same, λ at height way. subst (λ lines. Way others lines at height) same (ways at height way))

module _ (tree : ResolvedTree) (raw other : Raw) where
  codes : (bs : List BodySite) (xs ys : List Body) → AllZip (IsBodyOf tree raw) bs xs → AllZip (IsBodyOf tree other)
      bs ys
      → twins.HaveCodes tree.functions (formats_of tree) (locks_of tree) raw.picks other.picks bs
  codes [] [] [] a b = tt
  codes [] [] (y ∷ ys) a b = absurd b
  codes [] (x ∷ xs) ys a b = absurd a
  codes (c ∷ bs) [] ys a b = absurd a
  codes (c ∷ bs) (x ∷ xs) [] a b = absurd b
  codes (c ∷ bs) (x ∷ xs) (y ∷ ys) a b = (
    record {
      code = x.code;
      code' = y.code;
      end = length x.code;
      end' = length y.code;
      one = a.0.code;
      other = b.0.code;
    },
    codes bs xs ys a.1 b.1,
  )

  same_body : (c : BodySite) (x y : Body) → IsBodyOf tree raw c x → IsBodyOf tree other c y → x ≡ y
  same_body c x y a b =
      let base = twins.base_of tree.functions (formats_of tree) (locks_of tree) raw.picks other.picks c in
      let e = body_agrees tree.functions (formats_of tree) (locks_of tree) raw.picks other.picks c.function c.tree
      c.numbers base x.code y.code (length x.code) (length y.code) a.code b.code in
      let code : x.code ≡ y.code = same_by_places x.code y.code e.0 (λ k lt. e.1.by k (omega arith) lt) in
      let slots = a.slots ∙ sym b.slots in
      let given = a.given ∙ sym b.given in
      let scopes = (body_match base x.code y.code raw.picks other.picks c.function c.tree 0 (length x.code)
      (length y.code) (all_closed a.names.scopes) (all_closed b.names.scopes) a.names.stand b.names.stand).1 in
      let names = a.names.named
      ∙ ap (λ (found : Found). names_with c.function.name (variables_of c) c.outer found.closed) scopes
      ∙ sym b.names.named in
      let atomic = a.atomic ∙ ap (λ lines. atomic_places (atomic_lines tree) lines) code ∙ sym b.atomic in
      λ i. record { code = code i; slots = slots i; given = given i; names = names i; atomic = atomic i }

  same_bodies : (bs : List BodySite) (xs ys : List Body) → AllZip (IsBodyOf tree raw) bs xs
      → AllZip (IsBodyOf tree other) bs ys → xs ≡ ys
  same_bodies [] [] [] a b = refl
  same_bodies [] [] (y ∷ ys) a b = absurd b
  same_bodies [] (x ∷ xs) ys a b = absurd a
  same_bodies (c ∷ bs) [] ys a b = absurd a
  same_bodies (c ∷ bs) (x ∷ xs) [] a b = absurd b
  same_bodies (c ∷ bs) (x ∷ xs) (y ∷ ys) a b =
      let first = same_body c x y a.0 b.0 in let rest = same_bodies bs xs ys a.1 b.1 in λ i. first i ∷ rest i

same_texts : (formats : List (List ℕ)) (xs ys : List (List Piece)) → AllZip IsTextOf formats xs → AllZip IsTextOf
    formats ys → xs ≡ ys
same_texts [] [] [] a b = refl
same_texts [] [] (y ∷ ys) a b = absurd b
same_texts [] (x ∷ xs) ys a b = absurd a
same_texts (f ∷ fs) [] ys a b = absurd a
same_texts (f ∷ fs) (x ∷ xs) [] a b = absurd b
same_texts (f ∷ fs) (x ∷ xs) (y ∷ ys) a b =
    let texts : Some x ≡ Some y = sym a.0 ∙ b.0 in
    let text : x ≡ y = cc texts in let rest = same_texts fs xs ys a.1 b.1 in λ i. text i ∷ rest i

pub one_code : OneCode
one_code tree raw other a b =
    let covered = functions_cover tree.functions (formats_of tree) (locks_of tree) raw.picks other.picks
    tree.functions first_numbers
    (codes tree raw other (bodies_of tree) raw.bodies other.bodies a.bodies b.bodies) in
    let globals = a.globals ∙ sym b.globals in
    let bodies = same_bodies tree raw other (bodies_of tree) raw.bodies other.bodies a.bodies b.bodies in
    let mains : Some raw.main ≡ Some other.main = sym a.main ∙ b.main in
    let main : raw.main ≡ other.main = cc mains in
    let texts = same_texts (formats_of tree) raw.texts other.texts a.texts b.texts in
    let picks : raw.picks ≡ other.picks = same_by_places raw.picks other.picks (a.picks ∙ sym b.picks)
    (λ k lt. covered.by k (omega arith) (omega (arith, lt, a.picks))) in
    let locks = a.locks ∙ sym b.locks in
    λ i. record {
      globals = globals i;
      bodies = bodies i;
      main = main i;
      texts = texts i;
      picks = picks i;
      locks = locks i;
    }

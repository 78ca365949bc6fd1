-- At an instruction of a function's body the name of a global that the instruction names means it: no variable of the
-- function has the name there, and the body of a function stands in no other one.
use Rattle.std.proofs.Common.{◌≡◌, ℕ, zero, suc, ◌+◌, ◌<◌, ◌≤◌, ◌⊎◌, inl, inr, ⊎_elim, Bool, true, false, List, [], ◌∷◌, ◌++◌}
use Rattle.std.proofs.Common.{Option, None, Some, arith, refl, sym, ◌∙◌, ap, subst, length, slice_get, map, nat_lt, take}
use Rattle.std.proofs.Common.{bytes_eq}
use Rattle.std.specs.Prelude.{All, cond, not, option_map, position, if◌then◌else◌}
use Rattle.std.specs.List.{AllZip, position_or_len}
use Rattle.std.proofs.lemmas.Bool.{lt-ltb, ltb-true}
use Rattle.std.proofs.lemmas.List.Elements.{All-nil, All-cons, All-append, All-head, All-tail}
use Rattle.std.proofs.lemmas.List.Sums.{passes_at_first}
use Rattle.std.proofs.lemmas.Option.{slice_get_within, slice_get-get_or, get_or_from_slice_get}
use Rattle.std.proofs.lemmas.Slice.Eq.{bytes_eq-Decides}
use Rattle.om_code.specs.declared.raw.Body.{Body}
use Rattle.om_code.specs.declared.raw.GlobalVariable as raws
use Rattle.om_code.specs.declared.raw.Line.{Line}
use Rattle.om_code.specs.declared.raw.Raw.{Raw}
use Rattle.om_code_places.specs.declared.visible.Var.TheVariants as var
use Rattle.om_code_places.specs.Visible.{around_below, around_or, global_named, global_var, innermost, meant, meant_in}
use Rattle.om_code_places.specs.Visible.{meant_or, round_meant, start_in, starts, starts_body, variable_at}
use Rattle.om_lower_rules.specs.Bodies.{BodySite, Numbers, all_regions, behind}
use Rattle.om_lower_rules.specs.Bodies.{behind_all, behind_function, behind_functions, behind_parts, bodies_from, bodies_of}
use Rattle.om_lower_rules.specs.Bodies.{called_body}
use Rattle.om_lower_rules.specs.Bodies.{first_numbers, function_bodies, function_variables, next_body, next_pick}
use Rattle.om_lower_rules.specs.Bodies.{parts_regions, region_variables, regions}
use Rattle.om_lower_rules.specs.Code.{IsBodyOf, IsCodeOf, global_of, site_of}
use Rattle.om_lower_rules.specs.Positions.{all_regions_long, function_long, parts_regions_long, regions_long}
use Rattle.om_scope_tree.specs.declared.resolved.GlobalVariable.{GlobalVariable}
use Rattle.om_scope_tree.specs.ResolvedTree.{ResolvedStatementTree, Declaration, Block, Empty, Expression, If, IfElse}
use Rattle.om_scope_tree.specs.ResolvedTree.{While, Do, For, Return, Break, Continue, Region, Loop, Sections, Construct}
use Rattle.om_scope_tree.specs.ResolvedTree.{Update, StandAlone, ResolvedStatementsTree, NoStatements, Statement}
use Rattle.om_scope_tree.specs.ResolvedTree.{ResolvedPartsTree, NoParts, Part, ResolvedFunctionTree, ResolvedTree}
use Rattle.om_name_laws.specs.GlobalLaws.{NamesMeanGlobals}
use Rattle.om_name_laws.specs.NameLaws.{IsCopied}
use Rattle.om_name_laws.specs.Sees.{global_as}
use Rattle.om_name_laws.proofs.Begun.{begins_it, body_e, ends}
use Rattle.om_name_laws.proofs.Bodies.{names_mean}

-- ---- the bodies before that of a function

-- the numbers of the bodies in it lie below this one
abbrev Fits : ℕ → BodySite → Type 0
Fits above b = ends b.function b.tree b.numbers ≤ above

module _ (f : ResolvedFunctionTree) (above : ℕ) where
  mutual
    unfolding regions all_regions parts_regions

    fit : (s : ResolvedStatementTree) (outer : List ℕ) (n : Numbers) → (behind n s).bodies ≤ above
        → All (Fits above) (regions f outer n s)
    fit (Declaration at ds) outer n le = All-nil (Fits above)
    fit (Block at items) outer n le = all_fit items outer n le
    fit (Empty at) outer n le = All-nil (Fits above)
    fit (Expression at e) outer n le = All-nil (Fits above)
    fit (If at c s) outer n le = fit s outer n le
    fit (IfElse at c s t) outer n le =
        let more = regions_long f t [] (behind n s) in
        All-append (Fits above) (regions f outer n s) (regions f outer (behind n s) t)
        (fit s outer n (omega (arith, le, more))) (fit t outer (behind n s) le)
    fit (While at c s) outer n le = fit s outer n le
    fit (Do at s c) outer n le = fit s outer n le
    fit (For at start condition step s) outer n le = fit s outer n le
    fit (Return at value) outer n le = All-nil (Fits above)
    fit (Break at) outer n le = All-nil (Fits above)
    fit (Continue at) outer n le = All-nil (Fits above)
    fit (Region at kind clauses captures s) outer n le =
        All-cons (Fits above) _ (regions f (region_variables clauses s) (next_body n) s) le
        (fit s (region_variables clauses s) (next_body n) le)
    fit (Loop at clauses nowait l s) outer n le = fit s outer n le
    fit (Sections at clauses nowait parts) outer n le = parts_fit parts outer (next_pick n) le
    fit (Construct at kind clauses s) outer n le = fit s outer n le
    fit (Update at u) outer n le = All-nil (Fits above)
    fit (StandAlone at directive) outer n le = All-nil (Fits above)

    all_fit : (items : ResolvedStatementsTree) (outer : List ℕ) (n : Numbers) → (behind_all n items).bodies ≤ above
        → All (Fits above) (all_regions f outer n items)
    all_fit NoStatements outer n le = All-nil (Fits above)
    all_fit (Statement s rest) outer n le =
        let more = all_regions_long f rest [] (behind n s) in
        All-append (Fits above) (regions f outer n s) (all_regions f outer (behind n s) rest)
        (fit s outer n (omega (arith, le, more))) (all_fit rest outer (behind n s) le)

    parts_fit : (parts : ResolvedPartsTree) (outer : List ℕ) (n : Numbers) → (behind_parts n parts).bodies ≤ above
        → All (Fits above) (parts_regions f outer n parts)
    parts_fit NoParts outer n le = All-nil (Fits above)
    parts_fit (Part items rest) outer n le =
        let more = parts_regions_long f rest [] (behind_all n items) in
        All-append (Fits above) (all_regions f outer n items) (parts_regions f outer (behind_all n items) rest)
        (all_fit items outer n (omega (arith, le, more))) (parts_fit rest outer (behind_all n items) le)

  function_fit : (n : Numbers) → (behind_function n f).bodies ≤ above → All (Fits above) (function_bodies n f)
  function_fit n le = All-cons (Fits above) _ (all_regions f (function_variables f) (next_body n) f.body) le
      (all_fit f.body (function_variables f) (next_body n) le)

functions_grow : (fs : List ResolvedFunctionTree) (n : Numbers) → n.bodies ≤ (behind_functions n fs).bodies
functions_grow [] n = omega arith
functions_grow (f ∷ fs) n =
    let one = function_long f n in
    let rest = functions_grow fs (behind_function n f) in
    omega (arith, one, rest)

found : {A : Type 0} (Q : A → Type 0) (xs : List A) (i : ℕ) (x : A) → All Q xs → slice_get xs i ≡ Some x → Q x
found Q [] i x all e = cc
found Q (y ∷ ys) zero x all e = let same : y ≡ x = cc e in subst Q same (All-head Q y ys all)
found Q (y ∷ ys) (suc i) x all e = found Q ys i x (All-tail Q y ys all) e

get_either : {A : Type 0} (xs ys : List A) (i : ℕ) (x : A) → slice_get (xs ++ ys) i ≡ Some x
    → (slice_get xs i ≡ Some x) ⊎ ((j : ℕ) × (i ≡ length xs + j) × (slice_get ys j ≡ Some x))
get_either [] ys i x e = inr (i, omega arith, e)
get_either (z ∷ xs) ys zero x e = inl e
get_either (z ∷ xs) ys (suc i) x e = by (get_either xs ys i x e)
  where
    by : (slice_get xs i ≡ Some x) ⊎ ((j : ℕ) × (i ≡ length xs + j) × (slice_get ys j ≡ Some x))
        → (slice_get (z ∷ xs) (suc i) ≡ Some x)
        ⊎ ((j : ℕ) × (suc i ≡ length (z ∷ xs) + j) × (slice_get ys j ≡ Some x))
    by (inl here) = inl here
    by (inr there) = let at = there.1 in inr (there.0, omega (arith, at), there.2)

-- what stands before the body of a function begins none but bodies before it
sites_below : (fs : List ResolvedFunctionTree) (k : ℕ) (n : Numbers) (i : ℕ) (b : BodySite)
    → slice_get (bodies_from n fs) i ≡ Some b → n.bodies + i < (behind_functions n (take k fs)).bodies
    → Fits (behind_functions n (take k fs)).bodies b
sites_below [] k n i b e lt = cc
sites_below (g ∷ fs) zero n i b e lt = absurd (omega (arith, lt))
sites_below (g ∷ fs) (suc k) n i b e lt =
    by (λ j there less. sites_below fs k (behind_function n g) j b there less)
    (get_either (function_bodies n g) (bodies_from (behind_function n g) fs) i b e)
  where
    by : ((j : ℕ) → slice_get (bodies_from (behind_function n g) fs) j ≡ Some b
        → (behind_function n g).bodies + j < (behind_functions (behind_function n g) (take k fs)).bodies
        → Fits (behind_functions (behind_function n g) (take k fs)).bodies b)
        → (slice_get (function_bodies n g) i ≡ Some b)
        ⊎ ((j : ℕ) × (i ≡ length (function_bodies n g) + j) × (slice_get (bodies_from (behind_function n g) fs) j
        ≡ Some b))
        → Fits (behind_functions (behind_function n g) (take k fs)).bodies b
    by more (inl here) =
        found (Fits (behind_functions (behind_function n g) (take k fs)).bodies) (function_bodies n g) i b
        (function_fit g (behind_functions (behind_function n g) (take k fs)).bodies n
        (functions_grow (take k fs) (behind_function n g))) here
    by more (inr there) =
        let at = there.1 in
        let long = function_long g n in
        more there.0 there.2 (omega (arith, lt, at, long))

zip_found : {A B : Type 0} (Q : A → B → Type 0) (xs : List A) (ys : List B) (i : ℕ) (y : B) → AllZip Q xs ys
    → slice_get ys i ≡ Some y → (x : A) × (slice_get xs i ≡ Some x) × Q x y
zip_found Q [] [] i y zip e = cc
zip_found Q [] (z ∷ ys) i y zip e = absurd zip
zip_found Q (x ∷ xs) [] i y zip e = absurd zip
zip_found Q (x ∷ xs) (z ∷ ys) zero y zip e = let same : z ≡ y = cc e in (x, refl, subst (Q x) same zip.0)
zip_found Q (x ∷ xs) (z ∷ ys) (suc i) y zip e = zip_found Q xs ys i y zip.1 e

-- ---- no body before it begins the body of a function

none_starts : (number : ℕ) (code : List Line)
    → ((k : ℕ) (line : Line) → slice_get code k ≡ Some line → starts number line ≡ false)
    → position (starts number) code ≡ None
none_starts number [] h = refl
none_starts number (x ∷ code) h =
    by (nat_lt (position_or_len (starts number) (x ∷ code)) (length (x ∷ code))) refl
  where
    by : (b : Bool) → nat_lt (position_or_len (starts number) (x ∷ code)) (length (x ∷ code)) ≡ b
        → cond b (Some (position_or_len (starts number) (x ∷ code))) None ≡ None
    by true e =
        let first = position_or_len (starts number) (x ∷ code) in
        let lt : first < length (x ∷ code) = ltb-true first (length (x ∷ code)) e in
        let passes = passes_at_first (starts number) (x ∷ code) x lt in
        let fails = h first _ (slice_get-get_or (x ∷ code) first x lt) in
        let never : true ≡ false = sym passes ∙ fails in
        cc
    by false e = refl

module _ (tree : ResolvedTree) (raw : Raw) (code : IsCodeOf tree raw) (k : ℕ) where
  abbrev number : ℕ
  number = called_body tree.functions k

  none_begins : (b : BodySite) (body : Body) → IsBodyOf tree raw b body → Fits number b → (j : ℕ) (line : Line)
      → slice_get body.code j ≡ Some line → starts number line ≡ false
  none_begins b body is fits j line there = by (starts_body number line.instruction) refl
    where
      by : (x : Bool) → starts_body number line.instruction ≡ x → x ≡ false
      by true e =
          let every = body_e (site_of tree raw b body) b.function number b.tree b.numbers fits 0 (length body.code)
          is.code in
          let known = every.by j (omega arith) (slice_get_within body.code j line there) line there in
          let lt : number < number = begins_it number number line.instruction known e in
          absurd (omega (arith, lt))
      by false e = refl

  start_none : (i : ℕ) → i < number → start_in number (slice_get raw.bodies i) ≡ None
  start_none i lt = by (slice_get raw.bodies i) refl
    where
      by : (o : Option Body) → slice_get raw.bodies i ≡ o → start_in number o ≡ None
      by None e = refl
      by (Some body) e =
          let site = zip_found (IsBodyOf tree raw) (bodies_of tree) raw.bodies i body code.bodies e in
          none_starts number body.code (none_begins site.0 body site.2
          (sites_below tree.functions k first_numbers i site.0 site.1 (omega (arith, lt))))

  around_none : (m : ℕ) → m ≤ number → around_below raw.bodies number m ≡ None
  around_none zero le = refl
  around_none (suc m) le =
      ap (λ o. around_or m o (around_below raw.bodies number m)) (start_none m (omega (arith, le)))
      ∙ around_none m (omega (arith, le))

-- ---- the global of a name

same_bytes : (a b : List ℕ) (x : Bool) → bytes_eq a b ≡ x → bytes_eq b a ≡ x
same_bytes a b true e = (bytes_eq-Decides b a).1 (sym ((bytes_eq-Decides a b).0 e))
same_bytes a b false e = by (bytes_eq b a) refl
  where
    by : (x : Bool) → bytes_eq b a ≡ x → x ≡ false
    by true f =
        let never : true ≡ false = sym ((bytes_eq-Decides a b).1 (sym ((bytes_eq-Decides b a).0 f))) ∙ e in
        cc
    by false f = refl

module _ (name : List ℕ) where
  abbrev named : raws.GlobalVariable → Bool
  named global = bytes_eq global.name name

  first_named : (gs : List GlobalVariable) (g : ℕ) → global_as name gs ≡ Some g
      → (position_or_len named (map global_of gs) ≡ g) × (g < length (map global_of gs))
  first_named [] g e = absurd cc
  first_named (x ∷ gs) g e = by (bytes_eq name x.name) refl e (global_as name gs) refl
      (λ m f. first_named gs m f)
    where
      by : (b : Bool) → bytes_eq name x.name ≡ b
          → (if b then Some 0 else option_map (λ n. n + 1) (global_as name gs)) ≡ Some g
          → (o : Option ℕ) → global_as name gs ≡ o
          → ((m : ℕ) → global_as name gs ≡ Some m
          → (position_or_len named (map global_of gs) ≡ m) × (m < length (map global_of gs)))
          → (position_or_len named (map global_of (x ∷ gs)) ≡ g) × (g < length (map global_of (x ∷ gs)))
      by true is e o f more =
          let none : 0 ≡ g = cc e in (
            ap (λ t. cond (not t) (1 + position_or_len named (map global_of gs)) 0) (same_bytes name x.name true is) ∙ none,
            omega (arith, none),
          )
      by false is e None f more =
          let no : None ≡ Some g = sym (ap (option_map (λ n. n + 1)) f) ∙ e in
          absurd cc
      by false is e (Some m) f more =
          let next : Some (m + 1) ≡ Some g = sym (ap (option_map (λ n. n + 1)) f) ∙ e in
          let same : m + 1 ≡ g = cc next in
          let rest = more m f in
          let first = rest.0 in
          let less = rest.1 in (
            ap (λ t. cond (not t) (1 + position_or_len named (map global_of gs)) 0)
                (same_bytes name x.name false is) ∙ omega (arith, first, same),
            omega (arith, less, same),
          )

global_there : (tree : ResolvedTree) (raw : Raw) (name : List ℕ) (g : ℕ) → IsCodeOf tree raw
    → global_as name tree.globals ≡ Some g → global_named raw name ≡ Some g
global_there tree raw name g code e =
    let first = first_named name tree.globals g e in
    let at = first.0 in
    let less = first.1 in
    ap (λ globals. position (named name) globals) code.globals
    ∙ ap (λ b. cond b (Some (position_or_len (named name) (map global_of tree.globals))) None)
    (lt-ltb (position_or_len (named name) (map global_of tree.globals)) (length (map global_of tree.globals))
    (omega (arith, at, less)))
    ∙ ap (λ m. Some m) at

-- ---- the law

-- where no variable of the function has the name, it means the global
leads_there : (tree : ResolvedTree) (raw : Raw) (code : IsCodeOf tree raw) (k : ℕ) (body : Body) (p g : ℕ)
    (name : List ℕ) → slice_get raw.bodies (called_body tree.functions k) ≡ Some body
    → global_as name tree.globals ≡ Some g → innermost p name body.names.scopes ≡ None
    → variable_at raw (called_body tree.functions k) p name ≡ Some (var.Global g)
leads_there tree raw code k body p g name there is none =
    let number : ℕ = called_body tree.functions k in
    let next : number + 1 ≡ suc number = omega arith in
    ap (λ z. meant z raw number p name) next
    ∙ ap (λ z. meant_in raw number p name z (λ around. meant number raw around.body around.at name)) there
    ∙ ap (λ z. meant_or z (round_meant (global_var (global_named raw name)) body.names.outer
    (around_below raw.bodies number number)
    (λ around. meant number raw around.body around.at name))) none
    ∙ ap (λ z. round_meant (global_var (global_named raw name)) body.names.outer z
    (λ around. meant number raw around.body around.at name))
    (around_none tree raw code k number (omega arith))
    ∙ ap global_var (global_there tree raw name g code is)

pub names_mean_globals : NamesMeanGlobals
names_mean_globals tree raw k f n body p g line sees code there body_there is at is_named =
    let number : ℕ = called_body tree.functions k in
    let base = (names_mean tree raw f n number body sees
    (k, slice_get_within tree.functions k f there, get_or_from_slice_get tree.functions k f f there) is
    body_there).global p g line at is_named in (
      base.0,
      base.1,
      ⊎_elim
          (λ (none : innermost p base.0 body.names.scopes ≡ None). inl
          (leads_there tree raw code k body p g base.0 body_there base.1 none))
          (λ (copied : IsCopied raw f n number body p base.0). inr copied) base.2,
    )

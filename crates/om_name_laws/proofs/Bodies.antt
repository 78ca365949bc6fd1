-- In the body of a function each instruction that names a variable stands where the variable's name means it.
use Rattle.std.proofs.Common.{◌≡◌, ℕ, suc, ◌+◌, ◌<◌, ◌∙◌, ◌⊎◌, Bool, true, false, List, [], ◌∷◌, ◌++◌}
use Rattle.std.proofs.Common.{Option, None, Some, IfSome, inl, inr, refl, sym, ap, subst, arith, length, map, nat_eq}
use Rattle.std.proofs.Common.{nat_le, nat_lt, bytes_eq, slice_get, append-nil}
use Rattle.std.specs.Prelude.{cond, not, ◌&&◌, if◌then◌else◌}
use Rattle.std.specs.List.{position_or_len}
use Rattle.std.specs.Option.{option_or}
use Rattle.std.proofs.lemmas.Bool.{eqb-true, lt-ltb}
use Rattle.std.proofs.lemmas.List.Elements.{All-contains}
use Rattle.std.proofs.lemmas.Option.{slice_get_within}
use Rattle.om_code.specs.declared.instruction.Instr.TheVariants as i
use Rattle.om_code.specs.declared.instruction.Sharing.TheVariants as sharings
use Rattle.om_code.specs.declared.instruction.Place.{Place}
use Rattle.om_code.specs.declared.instruction.Place.TheVariants as places
use Rattle.om_code.specs.declared.raw.Body.{Body}
use Rattle.om_code.specs.declared.raw.Line.{Line}
use Rattle.om_code.specs.declared.raw.Names.{Names}
use Rattle.om_code.specs.declared.raw.Raw.{Raw}
use Rattle.om_code_places.specs.declared.visible.Var.{Var}
use Rattle.om_code_places.specs.declared.visible.Var.TheVariants as var
use Rattle.om_code.specs.declared.raw.Scope.{Scope}
use Rattle.om_code_places.specs.Visible.{around_below, global_named, global_var, innermost, meant, meant_in, meant_or}
use Rattle.om_code_places.specs.Visible.{round_meant, slot_var, variable_at}
use Rattle.om_lower_rules.specs.declared.variables.VariableScope.{VariableScope}
use Rattle.om_lower_rules.specs.Bodies.{Numbers, variables_of}
use Rattle.om_lower_rules.specs.Code.{IsBodyOf, site_of}
use Rattle.om_lower_rules.specs.Rows.{Site}
use Rattle.om_lower_rules.specs.Scopes.{Found, all_scopes, before, each_scope, instructions}
use Rattle.om_lower_rules.specs.Scopes.{opened_with, parameter_scope, scope_in, slot_among}
use Rattle.om_lower_rules.specs.Slots.{place, slot_of}
use Rattle.om_lower_rules.specs.Statements.{nowhere}
use Rattle.om_lower_rules.specs.Tables.{number_in}
use Rattle.om_scope_rules.specs.TreePlaces.{Place as Spot, Declared, Begun, function_places, statements_places}
use Rattle.om_scope_tree.specs.declared.resolved.GlobalVariable.{GlobalVariable}
use Rattle.om_scope_tree.specs.declared.resolved.LocalVariable.{LocalVariable}
use Rattle.om_scope_tree.specs.declared.resolved.Variable.{Variable}
use Rattle.om_scope_tree.specs.declared.resolved.Variable.TheVariants as named
use Rattle.om_scope_tree.specs.ResolvedTree.{ResolvedFunctionTree, ResolvedTree}
use Rattle.om_name_laws.specs.NameLaws as laws
use Rattle.om_name_laws.specs.NameLaws.{IsDeclared, named_place}
use Rattle.om_name_laws.specs.Sees.{FunctionSees, ItemsSee, Known, known_scalar, with_parameters}
use Rattle.om_name_laws.proofs.Known.{AreOf, PlacesOf, places_back, places_front}
use Rattle.om_name_laws.specs.Sees.{CapturesSee}
use Rattle.om_name_laws.proofs.Meanings.{closed_meaning, known_scope, or_none}
use Rattle.om_name_laws.proofs.Parts as parts
use Rattle.om_name_laws.proofs.Runs.{last_names}
use Rattle.om_name_laws.proofs.Statements as statements
use Rattle.om_name_laws.proofs.Statements.{after_items, items_of}

-- ---- slots

number_len : (x : ℕ) (slots : List ℕ) → number_in (nat_eq x) slots ≡ position_or_len (nat_eq x) slots
number_len x [] = refl
number_len x (z ∷ zs) = first (nat_eq x z) (number_len x zs)
  where
    first : (b : Bool) → number_in (nat_eq x) zs ≡ position_or_len (nat_eq x) zs
        → (if b then 0 else number_in (nat_eq x) zs + 1) ≡ cond (not b) (1 + position_or_len (nat_eq x) zs) 0
    first true e = refl
    first false e = omega (arith, e)

number_is : (x y : ℕ) (slots : List ℕ) → slice_get slots (number_in (nat_eq x) slots) ≡ Some y → x ≡ y
number_is x y [] e = absurd cc
number_is x y (z ∷ zs) e = first (nat_eq x z) refl e (number_is x y zs)
  where
    first : (b : Bool) → nat_eq x z ≡ b → slice_get (z ∷ zs) (if b then 0 else number_in (nat_eq x) zs + 1) ≡ Some y
        → (slice_get zs (number_in (nat_eq x) zs) ≡ Some y → x ≡ y) → x ≡ y
    first true same e rest = let there : z ≡ y = cc e in eqb-true x z same ∙ there
    first false same e rest =
        let next : suc (number_in (nat_eq x) zs) ≡ number_in (nat_eq x) zs + 1 = omega arith in
        rest (ap (λ k. slice_get (z ∷ zs) k) next ∙ e)

-- the slot that a name leads to is the one that instructions name
slot_there : (slots : List ℕ) (x y : ℕ) → slice_get slots (slot_of slots x) ≡ Some y
    → slot_among slots x ≡ Some (slot_of slots x)
slot_there slots x y e =
    let len = number_len x slots in
    let within = slice_get_within slots (slot_of slots x) y e in
    let lt : position_or_len (nat_eq x) slots < length slots = omega (arith, len, within) in
    ap (λ b. cond b (Some (position_or_len (nat_eq x) slots)) None)
    (lt-ltb (position_or_len (nat_eq x) slots) (length slots) lt)
    ∙ ap (λ k. Some k) (sym len)

-- ---- what a name means in a body

meant_here : (slots : List ℕ) (r : ℕ) (name : List ℕ) (vs : List VariableScope) (k : Known) (round : Option Var)
    → closed_meaning r name vs ≡ Some k
    → meant_or (innermost r name (map (scope_in slots) vs)) round ≡ slot_var k.length (slot_among slots k.at)
meant_here slots r name [] k round e = absurd cc
meant_here slots r name (v ∷ vs) k round e =
    first (nat_le v.from r && (nat_lt r v.to && bytes_eq name v.name)) e (meant_here slots r name vs k round)
  where
    first : (b : Bool) → (if b then Some (known_scope v) else closed_meaning r name vs) ≡ Some k
        → (closed_meaning r name vs ≡ Some k
        → meant_or (innermost r name (map (scope_in slots) vs)) round ≡ slot_var k.length (slot_among slots k.at))
        → meant_or (if b then Some (record { slot = slot_among slots v.variable; length = v.length })
        else innermost r name (map (scope_in slots) vs)) round ≡ slot_var k.length (slot_among slots k.at)
    first true e rest =
        let same : known_scope v ≡ k = cc e in
        ap (λ (z : Known). slot_var z.length (slot_among slots z.at)) same
    first false e rest = rest e

hidden_here : (slots : List ℕ) (r : ℕ) (name : List ℕ) (vs : List VariableScope) → closed_meaning r name vs ≡ None
    → innermost r name (map (scope_in slots) vs) ≡ None
hidden_here slots r name [] e = refl
hidden_here slots r name (v ∷ vs) e =
    first (nat_le v.from r && (nat_lt r v.to && bytes_eq name v.name)) e (hidden_here slots r name vs)
  where
    first : (b : Bool) → (if b then Some (known_scope v) else closed_meaning r name vs) ≡ None
        → (closed_meaning r name vs ≡ None → innermost r name (map (scope_in slots) vs) ≡ None)
        → (if b then Some (record { slot = slot_among slots v.variable; length = v.length })
        else innermost r name (map (scope_in slots) vs)) ≡ None
    first true e rest = absurd cc
    first false e rest = rest e

-- ---- declared variables

places_more : (Q R : List ℕ → ℕ → Type 0) → ((name : List ℕ) (x : ℕ) → Q name x → R name x) → (ps : List Spot)
    → PlacesOf Q ps → PlacesOf R ps
places_more Q R more [] h = tt
places_more Q R more (Declared v ∷ ps) h = (more v.name v.at h.0, places_more Q R more ps h.1)
places_more Q R more (Begun s ∷ ps) h = places_more Q R more ps h

all_declared : (ps : List Spot) → PlacesOf (λ name x. IsDeclared name x ps) ps
all_declared [] = tt
all_declared (Declared v ∷ ps) = (
  inl (refl, refl),
  places_more (λ name x. IsDeclared name x ps) (λ name x. IsDeclared name x (Declared v ∷ ps)) (λ name x h. inr h) ps
      (all_declared ps),
)
all_declared (Begun s ∷ ps) = all_declared ps

-- ---- parameters

module _ (at : Site) (globals : List GlobalVariable) (Q : List ℕ → ℕ → Type 0) (all : List VariableScope) where
  parameters_fit : (vs : List LocalVariable) (own : List Known) → (p q' : ℕ) (f : Found) → p ≡ 0
      → each_scope parameter_scope vs p q' f
      → parts.Meets at globals Q [] all own (with_parameters own vs) p p q' f
  parameters_fit [] own p q' f begin s = parts.none_here at globals Q [] all own p p q' f refl s.0 s.1
  parameters_fit (v ∷ vs) own p q' f begin s =
      let k = known_scalar v in
      parts.meets_both at globals Q [] all own (k ∷ own) (with_parameters (k ∷ own) vs) p p p s.0 q' s.1 s.2 f
      (each_scope parameter_scope vs)
      (parts.opened_here at globals Q [] all own k p p s.0 (opened_with None 0 v) s.1 refl (sym begin) (sym s.3.0)
      (parts.code_none at globals Q [] all (k ∷ own) p) s.3.1)
      s.4 (λ q2 g e. parameters_fit vs (k ∷ own) p q2 g begin e) s.5

  parameters_of : (vs : List LocalVariable) (own : List Known) → PlacesOf Q (map Declared vs) → AreOf Q (own ++ [])
      → AreOf Q (with_parameters own vs ++ [])
  parameters_of [] own h of = of
  parameters_of (v ∷ vs) own h of = parameters_of vs (known_scalar v ∷ own) h.1 (h.0, of)

-- ---- the body of a function

module _ (tree : ResolvedTree) (raw : Raw) (f : ResolvedFunctionTree) (n : Numbers) (body : Body)
    (is : IsBodyOf tree raw (laws.function_site f n) body)
    (sees : FunctionSees (CapturesSee tree.globals) tree.globals f) where
  abbrev site : Site
  site = site_of tree raw (laws.function_site f n) body

  abbrev Q : List ℕ → ℕ → Type 0
  Q name x = IsDeclared name x (function_places f)

  abbrev own : List Known
  own = with_parameters [] f.parameters

  pub fine : (r : ℕ) → r < length body.code → parts.Fine site tree.globals Q [] is.names.scopes r
  fine r lt =
      let all = is.names.scopes in
      let t = is.names.stand in
      let b = t.1 in
      let declared = all_declared (function_places f) in
      let ps = places_front Q (map Declared f.parameters) (statements_places f.body) declared in
      let qs = places_back Q (map Declared f.parameters) (statements_places f.body) declared in
      let of = parameters_of site tree.globals Q all f.parameters [] ps tt in
      let seen = subst (λ e. ItemsSee (CapturesSee tree.globals) tree.globals e f.body) (sym (append-nil own)) sees in
      let code = is.code in
      let m = code.0 in
      let last = code.2.1 in
      let out = after_items own f.body in
      let fit = parts.meets_block site tree.globals Q [] all [] out 0 (length body.code) (length body.code) t.0
      (record { opened = []; closed = all })
      (parts.meets_both site tree.globals Q [] all [] own out 0 0 (length body.code) b.0 (length body.code) b.1 b.2 t.0
      (before (all_scopes site f.body) (instructions 1))
      (parameters_fit site tree.globals Q all f.parameters [] 0 b.0 b.1 refl b.3) b.4
      (λ q2 g e. parts.meets_before site tree.globals Q [] all own out 0 m (length body.code) e.0 q2 g
      (instructions 1)
      (statements.items_fit site tree.globals Q [] all f.body own of seen qs n nowhere 0 m e.0 g code.1 e.1) e.2
      (λ q3 w. w ∙ last)
      (subst (λ z. parts.Coding site tree.globals Q [] all out m z) last
      (parts.code_ins site tree.globals Q [] all out (items_of Q f.body own [] qs of) m _ _ code.2.0
      (last_names site (λ x. Unit {0}) site.is_main false))))
      b.5) t.2 in
      fit.1.fine
      (record {
        by = λ r name lo hi. sym (or_none (option_or (closed_meaning r name all) None)
            ∙ or_none (closed_meaning r name all));
      })
      r (omega arith) lt

  abbrev slots : List ℕ
  slots = variables_of (laws.function_site f n)

  abbrev round : (number p : ℕ) → List ℕ → Option Var
  round number p name =
      round_meant (global_var (global_named raw name)) body.names.outer (around_below raw.bodies number number)
      (λ around. meant number raw around.body around.at name)

  -- what a name means is the slot of the variable whose scope is innermost there
  found_slot : (number p : ℕ) (k : Known) → slice_get raw.bodies number ≡ Some body
      → closed_meaning p k.name is.names.scopes ≡ Some k
      → variable_at raw number p k.name ≡ slot_var k.length (slot_among slots k.at)
  found_slot number p k there found =
      let next : number + 1 ≡ suc number = omega arith in
      ap (λ z. meant z raw number p k.name) next
      ∙ ap (λ z. meant_in raw number p k.name z (λ around. meant number raw around.body around.at k.name)) there
      ∙ ap (λ (z : List Scope). meant_or (innermost p k.name z) (round number p k.name))
      (ap (λ (z : Names). z.scopes) is.names.named)
      ∙ meant_here slots p k.name is.names.scopes k (round number p k.name) found

  -- where the body has it
  shown : (number p : ℕ) (k : Known) (x : ℕ) → slice_get raw.bodies number ≡ Some body
      → closed_meaning p k.name is.names.scopes ≡ Some k → slice_get slots (slot_of slots k.at) ≡ Some x
      → variable_at raw number p k.name ≡ Some (var.Slot (slot_of slots k.at) k.length)
  shown number p k x there found slot =
      found_slot number p k there found ∙ ap (λ z. slot_var k.length z) (slot_there slots k.at x slot)

  named_place_is : (p : ℕ) (line : Line) (place : Place) → slice_get body.code p ≡ Some line
      → named_place line.instruction ≡ Some place → parts.Meant site tree.globals Q [] is.names.scopes p place
  named_place_is p line place at is_named =
      subst (λ z. IfSome z (parts.Meant site tree.globals Q [] is.names.scopes p)) is_named
      (fine p (slice_get_within body.code p line at) line at)

  variable : (number : ℕ) → slice_get raw.bodies number ≡ Some body → (p slot x : ℕ) (line : Line)
      → slice_get body.code p ≡ Some line → named_place line.instruction ≡ Some (places.Slot slot)
      → slice_get slots slot ≡ Some x → laws.VariableMeant raw f n number body p slot x
  variable number there p slot x line at is_named within =
      let m = named_place_is p line (places.Slot slot) at is_named in
      by m.0 m.1 m.2
    where
      by : (v : Variable) → places.Slot slot ≡ place site v
          → parts.IsTold site tree.globals Q [] is.names.scopes p v
          ⊎ (parts.IsCopied site tree.globals Q [] is.names.scopes p v
          ⊎ parts.IsEarly site tree.globals Q [] is.names.scopes p v)
          → laws.VariableMeant raw f n number body p slot x
      by (named.Global g) e h = absurd cc
      by (named.Local y) e (inl h) =
          let same : slot ≡ slot_of slots y = cc e in
          let is_x : y ≡ x = number_is y x slots (ap (λ z. slice_get slots z) (sym same) ∙ within) in
          told y same is_x h
        where
          told : (y : ℕ) → slot ≡ slot_of slots y → y ≡ x
              → parts.IsTold site tree.globals Q [] is.names.scopes p (named.Local y)
              → laws.VariableMeant raw f n number body p slot x
          told y same is_x (k, at_y, q, inl found) =
              let place : slot_of slots k.at ≡ slot = ap (λ z. slot_of slots z) at_y ∙ sym same in (
                k.name,
                subst (λ z. IsDeclared k.name z (function_places f)) (at_y ∙ is_x) q,
                inl (
                  k.length,
                  shown number p k x there found (ap (λ z. slice_get slots z) place ∙ within)
                      ∙ ap (λ z. Some (var.Slot z k.length)) place,
                ),
              )
          told y same is_x (k, at_y, q, inr found) = absurd cc
      by (named.Local y) e (inr (inl h)) =
          let same : slot ≡ slot_of slots y = cc e in
          let is_x : y ≡ x = number_is y x slots (ap (λ z. slice_get slots z) (sym same) ∙ within) in (
            h.0.name,
            subst (λ z. IsDeclared h.0.name z (function_places f)) is_x h.1,
            inr (inl (h.0.at, h.2, found_slot number p (known_scalar h.0) there h.3, h.4)),
          )
      by (named.Local y) e (inr (inr h)) =
          let same : slot ≡ slot_of slots y = cc e in
          let is_x : y ≡ x = number_is y x slots (ap (λ z. slice_get slots z) (sym same) ∙ within) in (
            h.0,
            subst (λ z. IsDeclared h.0 z (function_places f)) is_x h.1,
            inr (inr (
              h.2,
              h.3,
              h.4,
              subst (λ z. laws.IsAt body h.2 (i.Sharing (sharings.Iterate z h.3))) (sym same)
                  h.5,
            )),
          )

  global : (number : ℕ) → slice_get raw.bodies number ≡ Some body → (p g : ℕ) (line : Line)
      → slice_get body.code p ≡ Some line → named_place line.instruction ≡ Some (places.Global g)
      → laws.GlobalMeant tree raw f n number body p g
  global number there p g line at is_named =
      let m = named_place_is p line (places.Global g) at is_named in
      by m.0 m.1 m.2
    where
      by : (v : Variable) → places.Global g ≡ place site v
          → parts.IsTold site tree.globals Q [] is.names.scopes p v
          ⊎ (parts.IsCopied site tree.globals Q [] is.names.scopes p v
          ⊎ parts.IsEarly site tree.globals Q [] is.names.scopes p v)
          → laws.GlobalMeant tree raw f n number body p g
      by (named.Local y) e h = absurd cc
      by (named.Global k) e (inl h) =
          let same : k ≡ g = cc e in (
            h.0,
            h.1 ∙ ap (λ z. Some z) same,
            inl (ap (λ (z : List Scope). innermost p h.0 z) (ap (λ (z : Names). z.scopes) is.names.named)
                ∙ hidden_here slots p h.0 is.names.scopes h.2),
          )
      by (named.Global k) e (inr (inl h)) =
          let same : k ≡ g = cc e in (
            h.0.name,
            h.1 ∙ ap (λ z. Some z) same,
            inr
                (h.0.at, h.2, found_slot number p (known_scalar h.0) there h.3, h.4),
          )
      by (named.Global k) e (inr (inr h)) = absurd h

  pub mean : (number : ℕ) → slice_get raw.bodies number ≡ Some body → laws.NamesMean tree raw f n number body
  mean number there = record { variable = variable number there; global = global number there }

pub names_mean : laws.NamesMeanVariables
names_mean tree raw f n number body sees there is at =
    mean tree raw f n body is
    (All-contains (FunctionSees (CapturesSee tree.globals) tree.globals) tree.functions f sees there) number at

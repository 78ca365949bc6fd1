-- The code of a body, once all of it is written.
use Rattle.std.proofs.Common.{◌≡◌, ◌<◌, ◌≤◌, ℕ, zero, suc, List, [], ◌∷◌, None, Some, Contains, get_or, map, length, refl, sym, ap}
use Rattle.std.proofs.Common.{◌++◌, arith, subst, ◌∙◌}
use Rattle.std.specs.Prelude.{slice_get}
use Rattle.std.proofs.lemmas.List.{length-map}
use Rattle.std.proofs.lemmas.Option.{slice_get_within}
use Rattle.om_lower.proofs.Ascending.{body_table}
use Rattle.om_lower.specs.declared.body.Emitted.{Emitted}
use Rattle.om_lower.specs.Emitted.{EmitsBody, FitsRow, HasLists, HasRow, HasScopesRow}
use Rattle.om_lower_emit.specs.declared.draft.Pick.{Pick}
use Rattle.om_lower_emit.specs.Drafts.{Labels, Written, known, nothing, place_in, settled, settled_code}
use Rattle.om_lower_emit.specs.Emits.{Finished, Fits}
use Rattle.om_lower_emit.specs.Settled.{ListsStand, number_of, settled_list, settled_lists}
use Rattle.om_scope_tree.specs.declared.resolved.RegionKind.TheVariants as kinds
use Rattle.om_scope_tree.specs.ResolvedTree.{ResolvedFunctionTree}
use Rattle.om_lower_rules.specs.Bodies.{BodyTree, FunctionBody, Numbers, RegionBody}
use Rattle.om_lower_rules.specs.Code.{body_row}
use Rattle.om_lower_rules.specs.Rows.{Site}
use Rattle.om_lower_rules.specs.Scopes.{Found, body_scopes}
use Rattle.om_lower_emit.specs.declared.writing.ScopeStack.{ScopeStack}
use Rattle.om_lower_emit.specs.Statements.{pick_number}
use Rattle.om_lower_emit.specs.Scoped.{AreInside, ScopesStand}
use Rattle.om_lower_rules.specs.Numbered.{Numbered, site_with}

get_map : {A B : Type 0} → (f : A → B) (xs : List A) (k : ℕ) (x : A) → slice_get xs k ≡ Some x
    → slice_get (map f xs) k ≡ Some (f x)
get_map f [] k x at = cc
get_map f (y ∷ xs) zero x at = cc
get_map f (y ∷ xs) (suc k) x at = get_map f xs k x at

get_there : {A : Type 0} (xs : List A) (k : ℕ) (x : A) → slice_get xs k ≡ Some x → get_or xs k x ≡ x
get_there [] k x at = cc
get_there (y ∷ xs) zero x at = cc
get_there (y ∷ xs) (suc k) x at = get_there xs k x at

found : {A : Type 0} (xs : List A) (k : ℕ) (x : A) → slice_get xs k ≡ Some x → Contains xs x
found xs k x at = (k, slice_get_within xs k x at, get_there xs k x at)

-- code with the place of each label fits what was written, where its lists stand in the program
settled_fits : (d : Written) (picks : List (List ℕ)) → ListsStand (settled_lists d) picks
    → Fits (record { code = settled_code d; picks = picks }) (place_in d.places) 0 d
settled_fits d picks stand = record {
  code = λ k x le e. get_map (settled (place_in d.places)) d.code k x e;
  places = λ l x e. ap known e;
  picks = λ k x e. stand (settled_list (place_in d.places) x)
      (found (settled_lists d) k (settled_list (place_in d.places) x) (get_map (settled_list (place_in d.places))
      d.picks k x e));
}

stands_in : (names : Numbered) (n : Numbers) (f : ResolvedFunctionTree) (tree : BodyTree) (final : Written)
    (picks : List (List ℕ)) → EmitsBody names n f tree nothing final → ListsStand (settled_lists final) picks
    → body_row (site_with names (settled_code final) picks) n f tree 0 (length (settled_code final))
stands_in names n f tree final picks emitted stand =
    let done : Finished = record { code = settled_code final; picks = picks } in
    let row = emitted.writes.stands done (place_in final.places) (settled_fits final picks stand) in
    subst (λ q. body_row (site_with names (settled_code final) picks) n f tree 0 q)
    (sym (length-map final.code (settled (place_in final.places)))) row

-- what is written of a body from nothing is its row, in its own code
row_stands : (names : Numbered) (n : Numbers) (f : ResolvedFunctionTree) (tree : BodyTree)
    (start final : Written) (made : Emitted) → start ≡ nothing → made.code ≡ settled_code final
    → made.lists.items ≡ settled_lists final → EmitsBody names n f tree start final → HasRow names n f tree made
row_stands names n f tree start final made first same lists emitted picks stand =
    let whole = stands_in names n f tree final picks
    (subst (λ d. EmitsBody names n f tree d final) first emitted)
    (subst (λ all. ListsStand all picks) lists stand) in
    subst (λ c. body_row (site_with names c picks) n f tree 0 (length c)) (sym same) whole

numbers_same : (at : Labels) (xs : List Pick) → map number_of (map (settled_list at) xs) ≡ map pick_number xs
numbers_same at [] = refl
numbers_same at (x ∷ xs) = ap (λ z. x.number ∷ z) (numbers_same at xs)

-- its lists are those of the `sections` in it
lists_are : (names : Numbered) (n : Numbers) (f : ResolvedFunctionTree) (tree : BodyTree)
    (start final : Written) (made : Emitted) → start ≡ nothing
    → made.lists.items ≡ settled_lists final → EmitsBody names n f tree start final → HasLists n f tree made
lists_are names n f tree start final made first lists emitted =
    let whole = subst (λ d. EmitsBody names n f tree d final) first emitted in
    ap (map number_of) lists ∙ numbers_same (place_in final.places) final.picks ∙ whole.adds

-- all scopes of a body are over at its end
all_over : (at : Site) (f : ResolvedFunctionTree) (tree : BodyTree) (p q : ℕ) (found : Found)
    → body_scopes at f tree p q found → found ≡ record { opened = []; closed = found.closed }
all_over at f FunctionBody p q found r = λ i. record { opened = (ap (λ (x : Found). x.opened) r.2) i; closed = found.closed }
all_over at f (RegionBody first kinds.Parallel clauses captures s) p q found r =
    λ i. record { opened = (ap (λ (x : Found). x.opened) r.2) i; closed = found.closed }
all_over at f (RegionBody first kinds.Task clauses captures s) p q found r =
    λ i. record { opened = (ap (λ (x : Found). x.opened) r.2) i; closed = found.closed }

-- what begins and ends in a body that is written from nothing are its scopes, in its own code
scopes_stand : (names : Numbered) (f : ResolvedFunctionTree) (tree : BodyTree) (start final : Written)
    (x y : ScopeStack) (made : Emitted) → start ≡ nothing → x.closed.items ≡ [] → made.code ≡ settled_code final
    → made.lists.items ≡ settled_lists final → made.scopes.items ≡ y.closed.items
    → ScopesStand names (λ at. body_scopes at f tree) start x final y → HasScopesRow names f tree made
scopes_stand names f tree start final x y made first none same lists ended h picks stand =
    let done : Finished = record { code = settled_code final; picks = picks } in
    let at = site_with names (settled_code final) picks in
    let row : body_scopes at f tree 0 (length final.code) h.found =
    subst (λ p. body_scopes at f tree p (length final.code) h.found) (ap (λ (d : Written). length d.code) first)
    (h.stands done (place_in final.places) (fits_later start final
    (settled_fits final picks (subst (λ all. ListsStand all picks) lists stand)))) in
    let closed : h.found.closed ≡ made.scopes.items =
    sym (ended ∙ h.closed ∙ ap (λ xs. xs ++ h.found.closed) none) in
    let whole : body_scopes at f tree 0 (length final.code) (record { opened = []; closed = made.scopes.items }) =
    subst (λ xs. body_scopes at f tree 0 (length final.code) (record { opened = []; closed = xs })) closed
    (subst (λ z. body_scopes at f tree 0 (length final.code) z) (all_over at f tree 0 (length final.code) h.found row)
    row) in
    let long : body_scopes at f tree 0 (length (settled_code final)) (record { opened = []; closed = made.scopes.items }) =
    subst (λ q. body_scopes at f tree 0 q (record { opened = []; closed = made.scopes.items }))
    (sym (length-map final.code (settled (place_in final.places)))) whole in
    subst (λ c. body_scopes (site_with names c picks) f tree 0 (length c)
    (record { opened = []; closed = made.scopes.items })) (sym same) long
  where
    fits_later : (a b : Written) → Fits (record { code = settled_code final; picks = picks }) (place_in final.places) 0 b
        → Fits (record { code = settled_code final; picks = picks }) (place_in final.places) (length a.code) b
    fits_later a b f = record { code = λ k x le e. f.code k x (omega arith) e; places = f.places; picks = f.picks }

settled_length : (d : Written) → length (settled_code d) ≡ length d.code
settled_length d = length-map d.code (settled (place_in d.places))

-- and they begin and end in it
scopes_inside : (names : Numbered) (f : ResolvedFunctionTree) (tree : BodyTree) (start final : Written)
    (x y : ScopeStack) (made : Emitted) → x.closed.items ≡ [] → made.code ≡ settled_code final
    → made.scopes.items ≡ y.closed.items → ScopesStand names (λ at. body_scopes at f tree) start x final y
    → AreInside (length made.code) made.scopes.items
scopes_inside names f tree start final x y made none same ended h =
    let closed : made.scopes.items ≡ h.found.closed =
    ended ∙ h.closed ∙ ap (λ xs. xs ++ h.found.closed) none in
    subst (λ n. AreInside n made.scopes.items) (sym (ap length same ∙ settled_length final))
    (subst (AreInside (length final.code)) (sym closed) h.ended)

-- code that is too long is not settled
pub long_row : (names : Numbered) (n : Numbers) (f : ResolvedFunctionTree) (tree : BodyTree) (start final : Written)
    → start ≡ nothing → EmitsBody names n f tree start final → 65536 < length final.code → FitsRow names n f tree None
long_row names n f tree start final first emitted more =
    let whole = subst (λ d. EmitsBody names n f tree d final) first emitted in
    let table = body_table n f tree (settled_lists final)
    (numbers_same (place_in final.places) final.picks ∙ whole.adds) in (
      table.picks,
      settled_code final,
      stands_in names n f tree final table.picks whole table.stand,
      omega (arith, more, settled_length final),
    )

-- and other code is
pub short_row : (names : Numbered) (n : Numbers) (f : ResolvedFunctionTree) (tree : BodyTree) (start final : Written)
    (x y : ScopeStack) (made : Emitted) → start ≡ nothing → x.closed.items ≡ [] → made.code ≡ settled_code final
    → made.lists.items ≡ settled_lists final → made.scopes.items ≡ y.closed.items → length final.code ≤ 65536
    → EmitsBody names n f tree start final → ScopesStand names (λ at. body_scopes at f tree) start x final y
    → FitsRow names n f tree (Some made)
short_row names n f tree start final x y made first none same lists ended short emitted h = (
  row_stands names n f tree start final made first same lists emitted,
  omega (arith, ap length same, settled_length final, short),
  lists_are names n f tree start final made first lists emitted,
  scopes_stand names f tree start final x y made first none same lists ended h,
  scopes_inside names f tree start final x y made none same ended h,
)

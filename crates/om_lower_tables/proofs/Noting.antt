-- What is left to note, behind what has been noted, is all.
use Rattle.std.proofs.Common.{◌≡◌, ℕ, List, [], ◌∷◌, ◌++◌, map, ap, sym, ◌∙◌, subst}
use Rattle.std.proofs.lemmas.List.Sums.{fold-append}
use Rattle.std.proofs.lemmas.List.{append_assoc, append-nil}
use Rattle.std.specs.List.{AllZip}
use Rattle.std.specs.Str.{bytes_eq}
use Rattle.om_scope_tree.specs.declared.resolved.AtomicAccess.{AtomicAccess}
use Rattle.om_scope_tree.specs.ResolvedTree.{ResolvedFunctionTree, ResolvedPartsTree, ResolvedStatementsTree, Part}
use Rattle.om_lower_rules.specs.Bodies.{Numbers, behind_all, behind_parts}
use Rattle.om_lower_rules.specs.Ends.{all_region_ends, parts_region_ends}
use Rattle.om_lower_rules.specs.Numbering.{numbers_of}
use Rattle.om_lower_rules.specs.Tables.{with_sight}
use Rattle.om_lower_rules.specs.declared.tables.Numbers as tables
use Rattle.om_lower_rules.specs.Mentions.{Mention, access_mention, all_mentioned, extent_mention, format_mention}
use Rattle.om_lower_rules.specs.Mentions.{lock_mention, parts_mentioned, with_access}
use Rattle.om_lower_tables.specs.declared.mentions.Mentions.{Mentions}
use Rattle.om_lower_rules.specs.Extents.{measured}
use Rattle.om_lower_rules.specs.Slots.{Extent}
use Rattle.om_lower_tables.specs.Noted.{AddsCells, AreNoted, accessed, noted}
use Rattle.om_lower_rules.specs.ProgramTables.{AreCellsOf}

abbrev pub AreLeft : (left all : (A : Type 0) → Mention A → List A) → (now first : Mentions) → Type 0
AreLeft left all now first =
    (noted now.formats (left _ format_mention) ≡ noted first.formats (all _ format_mention))
    × (noted now.locks (left _ lock_mention) ≡ noted first.locks (all _ lock_mention))
    × (measured now.extents (left _ extent_mention) ≡ measured first.extents (all _ extent_mention))
    × (accessed now.atomics.entries (left _ access_mention) ≡ accessed first.atomics.entries (all _ access_mention))

pub noted_further : (texts xs ys : List (List ℕ)) → noted texts (xs ++ ys) ≡ noted (noted texts xs) ys
noted_further texts xs ys = fold-append (with_sight bytes_eq) texts xs ys

measured_further : (extents xs ys : List Extent) → measured extents (xs ++ ys) ≡ measured (measured extents xs) ys
measured_further extents xs ys = fold-append _ extents xs ys

pub accessed_further : (lines xs ys : List (ℕ × AtomicAccess))
    → accessed lines (xs ++ ys) ≡ accessed (accessed lines xs) ys
accessed_further lines xs ys = fold-append with_access lines xs ys

-- one mention more
left_next : (one rest left all : (A : Type 0) → Mention A → List A) (now next first : Mentions)
    → ((A : Type 0) (m : Mention A) → left A m ≡ one A m ++ rest A m) → AreNoted one now next
    → AreLeft left all now first → AreLeft rest all next first
left_next one rest left all now next first here more is =
    let f = format_mention in
    let l = lock_mention in
    let e = extent_mention in
    let a = access_mention in (
      ap (λ texts. noted texts (rest _ f)) more.0 ∙ sym (noted_further now.formats (one _ f) (rest _ f))
          ∙ ap (λ sights. noted now.formats sights) (sym (here _ f)) ∙ is.0,
      ap (λ texts. noted texts (rest _ l)) more.1 ∙ sym (noted_further now.locks (one _ l) (rest _ l))
          ∙ ap (λ sights. noted now.locks sights) (sym (here _ l)) ∙ is.1,
      ap (λ extents. measured extents (rest _ e)) more.2 ∙ sym (measured_further now.extents (one _ e) (rest _ e))
          ∙ ap (λ declared. measured now.extents declared) (sym (here _ e)) ∙ is.2,
      ap (λ lines. accessed lines (rest _ a)) more.3
          ∙ sym (accessed_further now.atomics.entries (one _ a) (rest _ a))
          ∙ ap (λ sights. accessed now.atomics.entries sights) (sym (here _ a)) ∙ is.3,
    )

-- a part of `sections` has been walked over
pub parts_next : (items : ResolvedStatementsTree) (left rest all : ResolvedPartsTree) (n first : Numbers)
    (numbers : tables.Numbers) (old_ends ends begun : List tables.Numbers) (now next begin : Mentions)
    → left ≡ Part items rest → numbers_of numbers ≡ behind_all n items
    → map numbers_of ends ≡ map numbers_of old_ends ++ all_region_ends n items
    → AreNoted (λ A m. all_mentioned m items) now next → behind_parts n left ≡ behind_parts first all
    → map numbers_of old_ends ++ parts_region_ends n left ≡ map numbers_of begun ++ parts_region_ends first all
    → AreLeft (λ A m. parts_mentioned m left) (λ A m. parts_mentioned m all) now begin
    → (behind_parts (numbers_of numbers) rest ≡ behind_parts first all)
    × (map numbers_of ends ++ parts_region_ends (numbers_of numbers) rest
    ≡ map numbers_of begun ++ parts_region_ends first all)
    × AreLeft (λ A m. parts_mentioned m rest) (λ A m. parts_mentioned m all) next begin
unfolding parts_mentioned
parts_next items left rest all n first numbers old_ends ends begun now next begin here is filled more behind_left
    ends_left noted_left =
    let old = map numbers_of old_ends in (
      ap (λ k. behind_parts k rest) is ∙ ap (λ parts. behind_parts n parts) (sym here) ∙ behind_left,
      ap (λ xs. xs ++ parts_region_ends (numbers_of numbers) rest) filled
          ∙ append_assoc old (all_region_ends n items) (parts_region_ends (numbers_of numbers) rest)
          ∙ ap (λ k. old ++ (all_region_ends n items ++ parts_region_ends k rest)) is
          ∙ ap (λ parts. old ++ parts_region_ends n parts) (sym here) ∙ ends_left,
      left_next (λ A m. all_mentioned m items) (λ A m. parts_mentioned m rest) (λ A m. parts_mentioned m left)
          (λ A m. parts_mentioned m all) now next begin (λ A m. ap (λ parts. parts_mentioned m parts) here) more
          noted_left,
    )

-- whoever gives the cells of the functions that are left has given those of all
abbrev pub Onward : (all left : List ResolvedFunctionTree) → List (List Extent) → Type 0
Onward all left noted = (rest : List (List Extent)) → AllZip AreCellsOf left rest → AllZip AreCellsOf all (noted ++ rest)

pub cells_next : (all left : List ResolvedFunctionTree) (f : ResolvedFunctionTree) (old new : List (List Extent))
    → Onward all (f ∷ left) old → AddsCells f old new → Onward all left new
cells_next all left f old new onward adds = λ rest zip.
    subst (λ x. AllZip AreCellsOf all (x ++ rest)) (sym adds.1)
    (subst (λ x. AllZip AreCellsOf all x) (sym (append_assoc old (adds.0 ∷ []) rest))
    (onward (adds.0 ∷ rest) (adds.2, zip)))

pub cells_done : (all : List ResolvedFunctionTree) (noted : List (List Extent)) → Onward all [] noted
    → AllZip AreCellsOf all noted
cells_done all noted onward = subst (λ x. AllZip AreCellsOf all x) (append-nil noted) (onward [] tt)

-- Each body of a whole tree is whole, mentions what its program has, and the bodies in it stand where numbers tell.
use Rattle.std.proofs.Common.{◌≡◌, ℕ, ◌≤◌, List, [], ◌∷◌, ◌++◌, Option, Some, None, refl, arith}
use Rattle.std.specs.Prelude.{All, IfSome}
use Rattle.std.specs.List.{flat_map}
use Rattle.std.specs.Str.{bytes_eq}
use Rattle.std.proofs.lemmas.List.Elements.{All-nil, All-cons, All-head, All-tail, All-append}
use Rattle.om_scope_tree.specs.declared.resolved.Capture.{Capture}
use Rattle.om_scope_tree.specs.declared.resolved.ConstructKind.TheVariants as constructs
use Rattle.om_lexer.specs.declared.token.Span.{Span}
use Rattle.om_scope_tree.specs.Beside.{Everywhere, EverywhereIn, EverywhereInParts, IsCopyBehind, CopiesBehind}
use Rattle.om_scope_tree.specs.Beside.{TreeCopiesBehind}
use Rattle.om_scope_tree.specs.ResolvedTree.{ResolvedDeclaratorTree, ResolvedClauseTree, ResolvedStartTree, StartNothing}
use Rattle.om_scope_tree.specs.ResolvedTree.{StartExpression, StartDeclaration, ResolvedStatementTree, Declaration, Block}
use Rattle.om_scope_tree.specs.ResolvedTree.{Empty, Expression, If, IfElse, While, Do, For, Return, Break, Continue}
use Rattle.om_scope_tree.specs.ResolvedTree.{Region, Loop, Sections, Construct, Update, StandAlone}
use Rattle.om_scope_tree.specs.ResolvedTree.{ResolvedStatementsTree, NoStatements, Statement, ResolvedPartsTree, NoParts}
use Rattle.om_scope_tree.specs.ResolvedTree.{Part, ResolvedFunctionTree, ResolvedTree}
use Rattle.om_scope_tree.specs.Whole.{Around, Admitted, declared, after_declarators, repeated, after_start, after_item}
use Rattle.om_scope_tree.specs.Whole.{within, iterated, of_region, IsRegion, AreWholeClauses, IsWholeStatement}
use Rattle.om_scope_tree.specs.Whole.{AreWholeItems, AreWholeParts, IsWholeFunction, IsWholeTree, at_function}
use Rattle.om_lower_rules.specs.Bodies.{Numbers, next_body, next_pick, behind, behind_all, behind_function, BodyTree}
use Rattle.om_lower_rules.specs.Bodies.{FunctionBody, RegionBody, BodySite, variables_of, region_variables}
use Rattle.om_lower_rules.specs.Bodies.{function_variables, regions, all_regions, parts_regions, function_bodies, bodies_from}
use Rattle.om_lower_rules.specs.Bodies.{bodies_of, first_numbers}
use Rattle.om_lower_rules.specs.Mentions.{Mention, format_mention, lock_mention, extent_mention, perhaps_mentioned}
use Rattle.om_lower_rules.specs.Mentions.{start_mentioned, clause_mentioned, loop_mentioned, mentioned, all_mentioned}
use Rattle.om_lower_rules.specs.Mentions.{parts_mentioned, function_mentioned, tree_mentioned, formats_of, locks_of}
use Rattle.om_lower_rules.specs.Mentions.{extents_of}
use Rattle.om_lower_rules.specs.Slots.{Extent, cells_of_length}
use Rattle.om_lower_rules.proofs.Named.{Has, has_front, has_back, table_has}
use Rattle.om_lower_rules.proofs.NamedExpressions.{same_bytes}
use Rattle.om_lower_rules.specs.Positions.{StandsAt, stands_whole, stands_front, stands_back, stands_tail, regions_long}
use Rattle.om_lower_rules.specs.Positions.{all_regions_long, function_long}
use Rattle.om_lower_rules.proofs.WholeMentions.{items_all}

-- a region, with what stands round it
pub record IsWholeRegion (around : Around) (admitted : Admitted) (first : Span) (clauses : List ResolvedClauseTree)
    (captures : List Capture) (s : ResolvedStatementTree) : Type 0 where
  pub listed : AreWholeClauses around admitted clauses
  pub region : IsRegion first.start clauses captures s
  pub copies : All (IsCopyBehind first.start) clauses
  pub body : IsWholeStatement (within around clauses) s

abbrev pub IsWholeBody : Around → ResolvedFunctionTree → BodyTree → Type 0
IsWholeBody around f FunctionBody = AreWholeItems around f.body
IsWholeBody around f (RegionBody first kind clauses captures s) =
    IsWholeRegion around (of_region kind) first clauses captures s

-- what a body mentions, and the bodies in it
abbrev pub body_mentioned : {A : Type 0} → Mention A → ResolvedFunctionTree → BodyTree → List A
body_mentioned m f FunctionBody = all_mentioned m f.body
body_mentioned m f (RegionBody first kind clauses captures s) = mentioned m s

abbrev pub inner : ResolvedFunctionTree → BodyTree → List ℕ → Numbers → List BodySite
inner f FunctionBody variables n = all_regions f variables n f.body
inner f (RegionBody first kind clauses captures s) variables n = regions f variables n s

abbrev pub HasCells : Extent → Type 0
HasCells extent = 1 ≤ extent.cells

pub record IsPlaced (tree : ResolvedTree) (b : BodySite) : Type 0 where
  pub around : Around
  pub here : (around.globals ≡ tree.globals) × (around.functions ≡ tree.functions)
  pub whole : IsWholeBody around b.function b.tree
  pub formats : Has bytes_eq (formats_of tree) (body_mentioned format_mention b.function b.tree)
  pub locks : Has bytes_eq (locks_of tree) (body_mentioned lock_mention b.function b.tree)
  pub inside : StandsAt (bodies_of tree) b.numbers.bodies (inner b.function b.tree (variables_of b) b.numbers)
  pub extents : All HasCells (extents_of b.function)

extent_cells : (d : ResolvedDeclaratorTree) → IfSome d.length (λ length. 1 ≤ length)
    → All HasCells (extent_mention.by_declarator d)
extent_cells d w = All-cons HasCells _ [] (cells d.length w) (All-nil HasCells)
  where
    cells : (length : Option ℕ) → IfSome length (λ n. 1 ≤ n) → 1 ≤ cells_of_length length
    cells None w = omega arith
    cells (Some n) w = w

pub function_extents : (f : ResolvedFunctionTree) (around : Around) → AreWholeItems around f.body
    → All HasCells (extents_of f)
function_extents f around w =
    items_all extent_mention HasCells (λ e around used w. All-nil HasCells) extent_cells (λ at kind. All-nil HasCells)
    f.body around w

module _ (tree : ResolvedTree) where
  abbrev IsHere : Around → Type 0
  IsHere around = (around.globals ≡ tree.globals) × (around.functions ≡ tree.functions)

  abbrev Formats : List (List ℕ) → Type 0
  Formats xs = Has bytes_eq (formats_of tree) xs

  abbrev Locks : List (List ℕ) → Type 0
  Locks xs = Has bytes_eq (locks_of tree) xs

  abbrev Stand : Numbers → List BodySite → Type 0
  Stand n some = StandsAt (bodies_of tree) n.bodies some

  formats_front : (xs ys : List (List ℕ)) → Formats (xs ++ ys) → Formats xs
  formats_front xs ys h = has_front bytes_eq (formats_of tree) xs ys h

  formats_back : (xs ys : List (List ℕ)) → Formats (xs ++ ys) → Formats ys
  formats_back xs ys h = has_back bytes_eq (formats_of tree) xs ys h

  locks_front : (xs ys : List (List ℕ)) → Locks (xs ++ ys) → Locks xs
  locks_front xs ys h = has_front bytes_eq (locks_of tree) xs ys h

  locks_back : (xs ys : List (List ℕ)) → Locks (xs ++ ys) → Locks ys
  locks_back xs ys h = has_back bytes_eq (locks_of tree) xs ys h

  declared_here : (ds : List ResolvedDeclaratorTree) (around : Around) → IsHere around
      → IsHere (after_declarators around ds)
  declared_here [] around g = g
  declared_here (d ∷ ds) around g = declared_here ds (declared around d) g

  start_here : (start : ResolvedStartTree) (around : Around) → IsHere around → IsHere (after_start around start)
  start_here StartNothing around g = g
  start_here (StartExpression e) around g = g
  start_here (StartDeclaration ds) around g = declared_here ds around g

  item_here : (s : ResolvedStatementTree) (around : Around) → IsHere around → IsHere (after_item around s)
  item_here (Declaration first ds) around g = declared_here ds around g
  item_here _ around g = g

  module _ (f : ResolvedFunctionTree) (extents : All HasCells (extents_of f)) where
    mutual
      unfolding regions all_regions parts_regions mentioned all_mentioned parts_mentioned

      placed : (s : ResolvedStatementTree) (around : Around) (outer : List ℕ) (n : Numbers) → IsHere around
          → IsWholeStatement around s
          → Everywhere CopiesBehind s → Formats (mentioned format_mention s) → Locks (mentioned lock_mention s)
          → Stand n (regions f outer n s)
          → All (IsPlaced tree) (regions f outer n s)
      placed (Block first items) around outer n g w a t k b = placed_items items around outer n g w a.1 t k b
      placed (If first c s) around outer n g w a t k b =
          placed s around outer n g w.1 a.1 (formats_back (format_mention.in_expression c)
          (mentioned format_mention s) t) k b
      placed (IfElse first c s e) around outer n g w a t k b =
          let tr = formats_back (format_mention.in_expression c) (mentioned format_mention s
          ++ mentioned format_mention e) t in
          All-append (IsPlaced tree) (regions f outer n s) (regions f outer (behind n s) e)
          (placed s around outer n g w.1 a.1 (formats_front (mentioned format_mention s)
          (mentioned format_mention e) tr) (locks_front (mentioned lock_mention s) (mentioned lock_mention e) k)
          (stands_front (bodies_of tree) (regions f outer n s) (regions f outer (behind n s) e) n.bodies b))
          (placed e around outer (behind n s) g w.2 a.2 (formats_back (mentioned format_mention s)
          (mentioned format_mention e) tr) (locks_back (mentioned lock_mention s) (mentioned lock_mention e) k)
          (stands_back (bodies_of tree) (regions f outer n s) (regions f outer (behind n s) e) n.bodies
          (behind n s).bodies (regions_long f s outer n) b))
      placed (While first c s) around outer n g w a t k b =
          placed s (repeated around) outer n g w.1 a.1 (formats_back (format_mention.in_expression c)
          (mentioned format_mention s) t) k b
      placed (Do first s c) around outer n g w a t k b =
          placed s (repeated around) outer n g w.0 a.1 (formats_front (mentioned format_mention s)
          (format_mention.in_expression c) t) (locks_front (mentioned lock_mention s) [] k) b
      placed (For first start c step s) around outer n g w a t k b =
          placed s (repeated (after_start around start)) outer n (start_here start around g) w.3 a.1
          (formats_back (perhaps_mentioned format_mention step) (mentioned format_mention s)
          (formats_back (perhaps_mentioned format_mention c) (perhaps_mentioned format_mention step
          ++ mentioned format_mention s)
          (formats_back (start_mentioned format_mention start) (perhaps_mentioned format_mention c
          ++ (perhaps_mentioned format_mention step ++ mentioned format_mention s)) t)))
          (locks_back (perhaps_mentioned lock_mention step) (mentioned lock_mention s)
          (locks_back (perhaps_mentioned lock_mention c) (perhaps_mentioned lock_mention step
          ++ mentioned lock_mention s)
          (locks_back (start_mentioned lock_mention start) (perhaps_mentioned lock_mention c
          ++ (perhaps_mentioned lock_mention step ++ mentioned lock_mention s)) k)))
          b
      placed (Region first kind clauses captures s) around outer n g w a t k b =
          let ts = formats_back (flat_map (clause_mentioned format_mention) clauses) (mentioned format_mention s) t in
          let ks = locks_back (flat_map (clause_mentioned lock_mention) clauses) (mentioned lock_mention s) k in
          let bs = stands_tail (bodies_of tree) _ (regions f (region_variables clauses s) (next_body n) s) n.bodies b in
          All-cons (IsPlaced tree) _ (regions f (region_variables clauses s) (next_body n) s)
          (record {
            around = around;
            here = g;
            whole = record { listed = w.0; region = w.1; copies = a.0; body = w.2 };
            formats = ts;
            locks = ks;
            inside = bs;
            extents = extents;
          })
          (placed s (within around clauses) (region_variables clauses s) (next_body n) g w.2 a.1 ts ks bs)
      placed (Loop first clauses nowait l s) around outer n g w a t k b =
          placed s (iterated around clauses l) outer n g w.2 a.1
          (formats_back (loop_mentioned format_mention l) (mentioned format_mention s)
          (formats_back (flat_map (clause_mentioned format_mention) clauses) (loop_mentioned format_mention l
          ++ mentioned format_mention s) t))
          (locks_back (flat_map (clause_mentioned lock_mention) clauses) (mentioned lock_mention s) k) b
      placed (Sections first clauses nowait sections) around outer n g w a t k b =
          placed_parts sections (within around clauses) outer (next_pick n) g w.3 a.1
          (formats_back (flat_map (clause_mentioned format_mention) clauses)
          (parts_mentioned format_mention sections) t)
          (locks_back (flat_map (clause_mentioned lock_mention) clauses) (parts_mentioned lock_mention sections) k) b
      placed (Construct first (constructs.Critical name) clauses s) around outer n g w a t k b =
          placed s (within around clauses) outer n g w.1 a.1
          (formats_back (flat_map (clause_mentioned format_mention) clauses) (mentioned format_mention s) t)
          (locks_back (flat_map (clause_mentioned lock_mention) clauses) (mentioned lock_mention s) k.1) b
      placed (Construct first (constructs.Single nowait) clauses s) around outer n g w a t k b =
          placed s (within around clauses) outer n g w.1 a.1
          (formats_back (flat_map (clause_mentioned format_mention) clauses) (mentioned format_mention s) t)
          (locks_back (flat_map (clause_mentioned lock_mention) clauses) (mentioned lock_mention s) k) b
      placed (Construct first constructs.Masked clauses s) around outer n g w a t k b =
          placed s (within around clauses) outer n g w.1 a.1
          (formats_back (flat_map (clause_mentioned format_mention) clauses) (mentioned format_mention s) t)
          (locks_back (flat_map (clause_mentioned lock_mention) clauses) (mentioned lock_mention s) k) b
      placed (Construct first (constructs.Atomic access) clauses s) around outer n g w a t k b =
          placed s (within around clauses) outer n g w.1 a.1
          (formats_back (flat_map (clause_mentioned format_mention) clauses) (mentioned format_mention s) t)
          (locks_back (flat_map (clause_mentioned lock_mention) clauses) (mentioned lock_mention s) k) b
      placed (Construct first constructs.Taskgroup clauses s) around outer n g w a t k b =
          placed s (within around clauses) outer n g w.1 a.1
          (formats_back (flat_map (clause_mentioned format_mention) clauses) (mentioned format_mention s) t)
          (locks_back (flat_map (clause_mentioned lock_mention) clauses) (mentioned lock_mention s) k) b
      placed (Declaration first ds) around outer n g w a t k b = All-nil (IsPlaced tree)
      placed (Empty first) around outer n g w a t k b = All-nil (IsPlaced tree)
      placed (Expression first e) around outer n g w a t k b = All-nil (IsPlaced tree)
      placed (Return first e) around outer n g w a t k b = All-nil (IsPlaced tree)
      placed (Break first) around outer n g w a t k b = All-nil (IsPlaced tree)
      placed (Continue first) around outer n g w a t k b = All-nil (IsPlaced tree)
      placed (Update first u) around outer n g w a t k b = All-nil (IsPlaced tree)
      placed (StandAlone first directive) around outer n g w a t k b = All-nil (IsPlaced tree)

      placed_items : (items : ResolvedStatementsTree) (around : Around) (outer : List ℕ) (n : Numbers)
          → IsHere around → AreWholeItems around items
          → EverywhereIn CopiesBehind items → Formats (all_mentioned format_mention items)
          → Locks (all_mentioned lock_mention items) → Stand n (all_regions f outer n items)
          → All (IsPlaced tree) (all_regions f outer n items)
      placed_items NoStatements around outer n g w a t k b = All-nil (IsPlaced tree)
      placed_items (Statement s rest) around outer n g w a t k b =
          All-append (IsPlaced tree) (regions f outer n s) (all_regions f outer (behind n s) rest)
          (placed s around outer n g w.0 a.0 (formats_front (mentioned format_mention s)
          (all_mentioned format_mention rest) t) (locks_front (mentioned lock_mention s)
          (all_mentioned lock_mention rest) k)
          (stands_front (bodies_of tree) (regions f outer n s) (all_regions f outer (behind n s) rest) n.bodies b))
          (placed_items rest (after_item around s) outer (behind n s) (item_here s around g) w.1 a.1
          (formats_back (mentioned format_mention s) (all_mentioned format_mention rest) t)
          (locks_back (mentioned lock_mention s) (all_mentioned lock_mention rest) k)
          (stands_back (bodies_of tree) (regions f outer n s) (all_regions f outer (behind n s) rest) n.bodies
          (behind n s).bodies (regions_long f s outer n) b))

      placed_parts : (sections : ResolvedPartsTree) (around : Around) (outer : List ℕ) (n : Numbers) → IsHere around
          → AreWholeParts around sections
          → EverywhereInParts CopiesBehind sections → Formats (parts_mentioned format_mention sections)
          → Locks (parts_mentioned lock_mention sections)
          → Stand n (parts_regions f outer n sections) → All (IsPlaced tree) (parts_regions f outer n sections)
      placed_parts NoParts around outer n g w a t k b = All-nil (IsPlaced tree)
      placed_parts (Part items rest) around outer n g w a t k b =
          All-append (IsPlaced tree) (all_regions f outer n items) (parts_regions f outer (behind_all n items) rest)
          (placed_items items around outer n g w.1 a.0 (formats_front (all_mentioned format_mention items)
          (parts_mentioned format_mention rest) t)
          (locks_front (all_mentioned lock_mention items) (parts_mentioned lock_mention rest) k)
          (stands_front (bodies_of tree) (all_regions f outer n items) (parts_regions f outer (behind_all n items)
          rest) n.bodies b))
          (placed_parts rest around outer (behind_all n items) g w.2 a.1
          (formats_back (all_mentioned format_mention items) (parts_mentioned format_mention rest) t)
          (locks_back (all_mentioned lock_mention items) (parts_mentioned lock_mention rest) k)
          (stands_back (bodies_of tree) (all_regions f outer n items) (parts_regions f outer (behind_all n items)
          rest) n.bodies (behind_all n items).bodies (all_regions_long f items outer n) b))

  placed_functions : (fs : List ResolvedFunctionTree) (n : Numbers)
      → All (IsWholeFunction tree.globals tree.functions) fs → All (λ f. EverywhereIn CopiesBehind f.body) fs
      → Formats (flat_map (function_mentioned format_mention) fs)
      → Locks (flat_map (function_mentioned lock_mention) fs) → Stand n (bodies_from n fs)
      → All (IsPlaced tree) (bodies_from n fs)
  placed_functions [] n w a t k b = All-nil (IsPlaced tree)
  placed_functions (f ∷ fs) n w a t k b =
      let around = at_function tree.globals tree.functions f in
      let whole = (All-head (IsWholeFunction tree.globals tree.functions) f fs w).body in
      let behind_copies = All-head (λ f. EverywhereIn CopiesBehind f.body) f fs a in
      let extents = function_extents f around whole in
      let tf = formats_front (function_mentioned format_mention f) (flat_map (function_mentioned format_mention) fs)
      t in
      let kf = locks_front (function_mentioned lock_mention f) (flat_map (function_mentioned lock_mention) fs) k in
      let front = stands_front (bodies_of tree) (function_bodies n f) (bodies_from (behind_function n f) fs)
      n.bodies b in
      let inside = stands_tail (bodies_of tree) _ (all_regions f (function_variables f) (next_body n) f.body)
      n.bodies front in
      All-append (IsPlaced tree) (function_bodies n f) (bodies_from (behind_function n f) fs)
      (All-cons (IsPlaced tree) _ (all_regions f (function_variables f) (next_body n) f.body)
      (record {
        around = around;
        here = (refl, refl);
        whole = whole;
        formats = tf;
        locks = kf;
        inside = inside;
        extents = extents;
      })
      (placed_items f extents f.body around (function_variables f) (next_body n) (refl, refl) whole behind_copies tf
      kf inside))
      (placed_functions fs (behind_function n f) (All-tail (IsWholeFunction tree.globals tree.functions) f fs w)
      (All-tail (λ f. EverywhereIn CopiesBehind f.body) f fs a)
      (formats_back (function_mentioned format_mention f) (flat_map (function_mentioned format_mention) fs) t)
      (locks_back (function_mentioned lock_mention f) (flat_map (function_mentioned lock_mention) fs) k)
      (stands_back (bodies_of tree) (function_bodies n f) (bodies_from (behind_function n f) fs) n.bodies
      (behind_function n f).bodies (function_long f n) b))

  pub bodies_placed : IsWholeTree tree → TreeCopiesBehind tree → All (IsPlaced tree) (bodies_of tree)
  bodies_placed w a =
      placed_functions tree.functions first_numbers w.functions a
      (table_has bytes_eq same_bytes (tree_mentioned format_mention tree))
      (table_has bytes_eq same_bytes (tree_mentioned lock_mention tree))
      (stands_whole (bodies_of tree))

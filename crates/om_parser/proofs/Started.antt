-- A statement by its start.
use Rattle.std.proofs.Common.{◌≡◌, ℕ, suc, ◌≤◌, List, [], ◌∷◌, length, get_or, take, drop, take_all, ◌-◌, refl, sym, ap}
use Rattle.std.proofs.Common.{subst, ◌∙◌, arith, Bool, Result}
use Rattle.om_lexer.specs.declared.fault.SourceFault.{SourceFault}
use Rattle.om_lexer.specs.declared.token.Token.{Token}
use Rattle.om_parser.specs.declared.start.Start.TheVariants as starts
use Rattle.om_parser_parts.specs.Reading.{Reads}
use Rattle.om_parser_parts.specs.PartReading.{Parts}
use Rattle.om_parser.specs.StatementReading.{start_of, block_after, statement_of, statement_at}
use Rattle.om_parser_tree.specs.Tree.{StatementTree}

block_started : (p : Parts) (checked : Bool) (room blocks_left : ℕ) (t : Token) (ts : List Token) → start_of t.kind
    ≡ starts.Block → statement_at p checked (suc room) blocks_left (t ∷ ts)
    ≡ block_after p (statement_at p checked room) blocks_left t.span ts
unfolding statement_at statement_of
block_started p checked room blocks_left t ts e = rw e refl

-- a block that is read is the statement that is read
pub block_statement : {X : Type 0} (f : X → StatementTree × List Token) (r : Result X SourceFault) (p : Parts)
    (checked : Bool) (room less blocks_left : ℕ) (ts : List Token) (first : Token) → 1 ≤ length ts → first
    ≡ get_or ts 0 first → room ≡ suc less → start_of first.kind ≡ starts.Block
    → Reads f r (block_after p (statement_at p checked less) blocks_left first.span
    (take (length ts - 1) (drop 1 ts))) → Reads f r (statement_at p checked room blocks_left ts)
block_statement f r p checked room less blocks_left [] first some is one start h = absurd (omega (arith, some))
block_statement f r p checked room less blocks_left (t ∷ ts) first some is one start h =
    subst (λ n. Reads f r (statement_at p checked n blocks_left (t ∷ ts))) (sym one)
    (subst (λ read. Reads f r read)
    (sym (block_started p checked less blocks_left t ts (sym (ap (λ (u : Token). start_of u.kind) is) ∙ start)))
    (subst (λ (u : Token). Reads f r (block_after p (statement_at p checked less) blocks_left u.span ts)) is
    (subst (λ us. Reads f r (block_after p (statement_at p checked less) blocks_left first.span us)) behind h)))
  where
    behind : take (length (t ∷ ts) - 1) ts ≡ ts
    behind = take_all (length (t ∷ ts) - 1) ts (omega arith)

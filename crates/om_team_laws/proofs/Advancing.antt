-- A chunk that a member takes is its own, and lies behind what it had.
use Rattle.std.proofs.Common.{◌≡◌, sym, ◌∙◌, ap, ◌+◌, arith, true, false, if◌then◌else◌, Some}
use Rattle.std.specs.Prelude.{nat_eq, nat_le, ◌&&◌}
use Rattle.om_state.specs.declared.control.Construct.TheVariants as construct
use Rattle.om_state.specs.declared.control.Kind.{Kind}
use Rattle.om_state.specs.declared.control.Share.{Share}
use Rattle.om_state.specs.declared.control.Team.{Team}
use Rattle.om_team_worksharing.specs.declared.chunk.Chunk.{Chunk}
use Rattle.om_team_worksharing.specs.Chunks.{static_chunk}
use Rattle.om_team_laws.specs.Statics.{HasOwnChunk, size_in, wait, waits}
use Rattle.om_team_laws.specs.Works.{is_dynamic}
use Rattle.om_team_laws.proofs.Chunks.{chunk_has_some, chunk_lies, chunks_behind}
use Rattle.om_team_laws.proofs.Owned.{Advances, waits_less}
use Rattle.om_team_laws.proofs.Regions.{count_less}

pub taken_advances : (team : Team) (k : Kind) (share : Share) (chunk : Chunk) → is_dynamic share.schedule ≡ false
    → static_chunk (size_in share.schedule) share.count team.size team.number share.taken ≡ Some chunk
    → Advances team k share (record share { taken = share.taken + 1; next = chunk.first; end = chunk.end })
taken_advances team k share chunk static g o = (
  (
    o.0,
    λ again small.
        let some = chunk_has_some (size_in share.schedule) share.count team.size team.number share.taken chunk g in
        record {
          in_order = omega (arith, some);
          own = λ iteration low high. (
            share.taken,
            chunk_lies (size_in share.schedule) share.count team.size team.number share.taken iteration chunk g low high,
          );
          behind = λ r other le e.
              chunks_behind (size_in share.schedule) share.count team.size team.number share.taken r chunk other small
              (omega (arith, le)) g e;
        },
  ),
  λ small region iteration.
      let c : HasOwnChunk team share = o.1 static small in
      let order = c.in_order in
      let after = c.behind share.taken chunk (omega arith) g in
      count_less (waits region iteration share)
      (waits region iteration (record share { taken = share.taken + 1; next = chunk.first; end = chunk.end }))
      (λ e. waits_less (is_dynamic share.schedule) (nat_eq share.region region) share.next chunk.first iteration
      (omega (arith, order, after)) e),
)

-- a loop with a dynamic schedule gives no chance
pub given_advances : (team : Team) (k : Kind) (share : Share) (chunk : Chunk) → is_dynamic share.schedule ≡ true
    → Advances team k share (record share { taken = share.taken; next = chunk.first; end = chunk.end })
given_advances team k share chunk dynamic o = (
  (
    o.0,
    λ static small. (let no : true ≡ false = sym dynamic ∙ static in cc),
  ),
  λ small region iteration.
      let none : wait region iteration
      (construct.Share (record share { taken = share.taken; next = chunk.first; end = chunk.end })) ≡ 0 =
      ap (λ b. if (if b then false else (nat_eq share.region region && nat_le chunk.first iteration)) then 1 else 0)
      dynamic in
      omega (arith, none),
)

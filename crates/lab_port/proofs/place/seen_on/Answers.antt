use Rattle.std.proofs.Common.{◌+◌, ap, ◌∙◌, arith}
use Rattle.lab_port.proofs.Lines.{between_size, line_on, front_on, front_inside}
use Rattle.lab_port.proofs.place.seen_on.Goals as goal

pub front_behind-requires : goal.front_behind-requires
front_behind-requires c =
    let source = c.args.source.now in
    let seen = c.args.seen in
    omega (
      arith,
      c.ranges.at.fits,
      c.requires.known.2,
      front_inside source seen.at,
      between_size source seen.at c.args.at c.requires.order c.requires.inside,
    )

pub returns-clause-seen : goal.returns-clause-seen
returns-clause-seen c =
    let source = c.args.source.now in
    let seen = c.args.seen in (
      c.requires.inside,
      ap (λ feeds. seen.line + feeds) c.line_feeds.ensures.count
          ∙ line_on source seen.at c.args.at seen.line c.requires.order c.requires.known.1,
      c.front_behind.ensures ∙ front_on source seen.at c.args.at seen.front c.requires.order c.requires.known.2,
    )

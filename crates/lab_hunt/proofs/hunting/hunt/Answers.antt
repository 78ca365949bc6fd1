use Rattle.std.proofs.Common.{refl, rules}
use Rattle.lab_hunt.proofs.Dues.{compared_in, found_in}
use Rattle.lab_hunt.proofs.hunting.hunt.Goals as goal

pub returns : goal.returns
returns g c = (
  refl,
  record {
    alone = c.in-Some.book;
    runs = search rules;
    good = search rules;
    compared_is = compared_in c.args.aims.now _ c.args.source.now _ c.in_ok-sought.sought refl refl
        c.in_ok-wanted.ensures.standard c.in_ok-wanted.ensures.wanted c.in_ok-sought.ensures;
  },
)

pub returns-in-Some-found : goal.returns-in-Some-found
returns-in-Some-found g c = rw c.in-Some-found.is (found_in c.args.aims.now _ c.args.source.now
    c.in_ok-text.text.items c.in-Some.book c.in-Some-found.found (search rules) refl refl
    c.in_ok-wanted.ensures.standard c.in_ok-wanted.ensures.wanted
    (rw c.in-Some-found.is at c.in_ok-sought.ensures.found))

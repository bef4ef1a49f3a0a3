use Rattle.std.proofs.Common.{arith}
use Rattle.rprec.proofs.Counts.{few_shared, shared_below}
use Rattle.rprec.proofs.room.find_over.Goals as goal

pub sum_shared-requires-clause-few : goal.sum_shared-requires-clause-few
sum_shared-requires-clause-few g c = few_shared c.args.known.now.marks.now c.args.known.now.a.now c.args.known.now.b.now c.share.new.counts c.share.ensures

pub invariant_of-pair : goal.invariant_of-pair
invariant_of-pair g c =
    let known = c.args.known.now in
    record {
      is = record {
        a = known.met.first;
        b = known.met.second;
        first = known.first_sums;
        second = known.second_sums;
        shared = shared_below known.marks.now known.a.now known.b.now c.share.new.counts known.met.first known.met.second c.share.ensures;
        both = c.sum_shared.ensures;
        places = omega (arith, c.longest-longest.ensures, c.requires.places);
        blocks = omega (arith, c.longest-longest.ensures, c.requires.blocks);
        first_short = omega (arith, c.longest-longest.ensures);
        second_short = omega (arith, c.longest-longest.ensures);
        some = omega (arith, c.longest-longest.ensures);
        few = omega (arith, c.longest-longest.ensures, known.met.first.short, known.met.second.short);
        topic = known.topic;
        total = known.few;
      };
    }

use Rattle.std.proofs.Common.{◌≡◌, [], ◌∷◌, ◌++◌, arith, ◌∙◌}
use Rattle.std.proofs.lemmas.Grind.{common_steps}
use Rattle.topic_counts.specs.declared.powers.Place.{Place}
use Rattle.topic_counts.specs.Places.{place_of}
use Rattle.topic_counts.proofs.PlacesMore.{low_first, high_first, low_next, high_next, place_here, each_more}
use Rattle.topic_counts.proofs.powers.Powers.new.Goals as goal

pub loop-i-init : goal.loop-i-init
loop-i-init c = record {
  low = low_first c.args.top c.args.bottom;
  high = high_first c.args.top c.args.bottom;
  low_small = omega arith;
  high_small = omega arith;
  count = omega arith;
  each = λ i p h. absurd (omega arith);
}

pub loop-i-preserved : goal.loop-i-preserved
loop-i-preserved c =
    let here : Place = record { low = c.loop-i.low; high = c.loop-i.high; weight_low = c.part_down.result; weight_high = c.part_up.result } in
    let pushed : c.push.new.self.items ≡ c.loop-i.places.items ++ here ∷ [] = grind (arith, common_steps) in
    record {
      low = c.part_down-low.ensures.value ∙ low_next c.args.top c.args.bottom c.loop-i._i c.loop-i.low c.loop-i.invariant.low;
      high = c.part_up-high.ensures.value ∙ high_next c.args.top c.args.bottom c.loop-i._i c.loop-i.high c.loop-i.invariant.high;
      low_small = omega arith;
      high_small = omega arith;
      count = grind (arith, common_steps);
      each = each_more (place_of c.args.top c.args.bottom) c.loop-i.places.items c.push.new.self.items here c.loop-i._i c.loop-i.invariant.count pushed
          (place_here c.args.top c.args.bottom c.loop-i._i c.loop-i.low c.loop-i.high c.part_down.result c.part_up.result c.loop-i.invariant.low c.loop-i.invariant.high c.part_down.ensures.value c.part_up.ensures.value) c.loop-i.invariant.each;
    }

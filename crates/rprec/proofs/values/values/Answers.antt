use Rattle.std.proofs.Common.{◌≡◌, [], ◌∷◌, ◌++◌, arith}
use Rattle.std.proofs.lemmas.Grind.{common_steps}
use Rattle.desk_model.specs.Mark.{mark_at}
use Rattle.desk_model.specs.Completion.{with_picked}
use Rattle.measure_laws.specs.Classes.{is_unjudged, open_in}
use Rattle.measure_laws.specs.Prefixes.{only_second, neutral}
use Rattle.rprec.specs.Picks.{picks}
use Rattle.rprec.proofs.Walks.{left_more, value_is, value_more, same_classes}
use Rattle.rprec.proofs.values.values.Goals as goal

pub loop-place-preserved : goal.loop-place-preserved
loop-place-preserved c =
    let marks = c.args.marks.now in
    let a = c.args.a.now in
    let b = c.args.b.now in
    let r = c.args.count in
    let place = c.loop-place.place in
    let old = c.loop-place.invariant in
    let same = same_classes _ _ _ _ (is_unjudged (mark_at marks place)) c.is_among_first.ensures c.is_among_first-in-loop-place.ensures in
    let pushed : c.push.new.self.items ≡ c.loop-place.values.items ++ c.choose-choice.result.value ∷ [] = grind (arith, common_steps) in
    record {
      count = grind (arith, common_steps);
      second = left_more (open_in marks (only_second r a b)) place c.args.wanted.second c.loop-place.left.second c.choose-choice.result.left.second _ old.second c.choose-choice.ensures.second same.0;
      both = left_more (open_in marks (neutral r a b)) place c.args.wanted.both c.loop-place.left.both c.choose-choice.result.left.both _ old.both c.choose-choice.ensures.both same.1.0;
      first = left_more (open_in marks (only_second r b a)) place c.args.wanted.first c.loop-place.left.first c.choose-choice.result.left.first _ old.first c.choose-choice.ensures.first same.1.1;
      each = value_more (with_picked marks (picks c.args.wanted marks a b r)) c.loop-place.values.items c.push.new.self.items c.choose-choice.result.value place old.count pushed
          (value_is marks a b r place c.args.wanted c.loop-place.left _ _ c.choose-choice.result.value c.is_among_first.ensures c.is_among_first-in-loop-place.ensures old.second old.both old.first c.choose-choice.ensures.value) old.each;
    }

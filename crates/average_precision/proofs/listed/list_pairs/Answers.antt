use Rattle.std.proofs.Common.{ℕ, ◌*◌, List, length, get_or, take, ap, ◌∙◌, arith}
use Rattle.std.specs.Prelude.{flat_map}
use Rattle.desk_model.specs.declared.types.MeasureName.TheVariants.{AveragePrecision}
use Rattle.measure_core.specs.Lists.{times}
use Rattle.measure_core.specs.PairLists.{documents_on, sizes_on}
use Rattle.measure_core.proofs.PairListing.{listed_more, made_more}
use Rattle.measure_core.proofs.Tallying.{times-append}
use Rattle.average_precision.proofs.Using.{none_used}
use Rattle.average_precision.proofs.listed.list_pairs.Goals as goal

pub loop-pair-init : goal.loop-pair-init
loop-pair-init c = record {
  sizes = c.in_ok-sizes.ensures.items;
  runs = c.requires.runs;
  few = c.requires.unused;
  uses = λ doc. none_used c.args.runs.now.kept.on.marks.now c.args.runs.now.kept.on.rankings.now c.args.uses.now doc (length c.args.uses.now) c.requires.unused;
}

pub loop-pair-preserved : goal.loop-pair-preserved
loop-pair-preserved c =
    let marks = c.args.runs.now.kept.on.marks.now in
    let t = c.args.runs.now.kept.on.rankings.now in
    let pairs = c.args.pairs.now in
    let i = c.loop-pair.pair-index in
    let f = documents_on AveragePrecision marks t in
    record {
      sizes = made_more (sizes_on AveragePrecision marks t) pairs i _ c.loop-pair.sizes.items c.push.new.self.items c.list_pair.result c.loop-pair-test.true c.loop-pair.invariant.sizes c.in_ok-push.ensures.items c.list_pair.ensures.sizes;
      runs = c.list_pair.ensures.size ∙ c.loop-pair.invariant.runs;
      few = λ run lt. let more = c.list_pair.ensures.few (2 * i) c.loop-pair.invariant.few run lt in (omega (arith, more.0), omega (arith, more.1));
      uses = λ doc.
          omega (
            arith,
            c.list_pair.ensures.uses doc,
            c.loop-pair.invariant.uses doc,
            ap (λ (l : List ℕ). times l doc) (listed_more f pairs i (record { first = 0; second = 0 }) c.loop-pair-test.true),
            times-append (flat_map f (take i pairs)) (f (get_or pairs i (record { first = 0; second = 0 }))) doc,
          );
    }

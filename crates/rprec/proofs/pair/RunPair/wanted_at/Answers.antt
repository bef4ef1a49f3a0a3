use Rattle.std.proofs.Common.{◌≡◌, false, length, take, refl, ap, arith}
use Rattle.desk_model.specs.Classes.{only_count}
use Rattle.measure_laws.specs.Classes.{open_in, size_of}
use Rattle.measure_laws.specs.Prefixes.{only_second}
use Rattle.measure_laws.proofs.LeastDifferences.{open_size}
use Rattle.measure_laws.proofs.Stretches.{class_sizes}
use Rattle.rprec.specs.declared.prefixes.Prefixes.{Prefixes}
use Rattle.rprec.specs.Sums.{prefixes}
use Rattle.rprec.proofs.Pairs.{pair_prefixes}
use Rattle.rprec.proofs.pair.RunPair.wanted_at.Goals as goal

pub returns : goal.returns
returns c =
    let p = c.args.self.now in
    let marks = p.marks.now in
    let a = p.a.now in
    let b = p.b.now in
    let r = c.args.count in
    let n = length marks in
    let f = prefixes p r in
    let apart = pair_prefixes p r c.args.self.now.is in
    let told = c.prefixes_at-prefixes in
    let first : told.result.first.unjudged ≡ f.first.unjudged = ap (λ (g : Prefixes). g.first.unjudged) told.ensures in
    let second : told.result.second.unjudged ≡ f.second.unjudged = ap (λ (g : Prefixes). g.second.unjudged) told.ensures in
    let first_size : size_of n (open_in marks (only_second r b a)) ≡ f.first.unjudged = open_size marks a b r (only_count false marks (take r a) (take r b)) f.first.unjudged c.args.self.now.is.a refl (omega (arith, apart.first)) in
    let second_size : size_of n (open_in marks (only_second r a b)) ≡ f.second.unjudged = open_size marks b a r (only_count false marks (take r b) (take r a)) f.second.unjudged c.args.self.now.is.b refl (omega (arith, apart.second)) in
    let topic = c.args.self.now.is.topic in
    let chosen = c.saturating_sub-chosen.ensures in
    let made = c.wanted_of.ensures in
    record {
      second = omega (arith, made.second, chosen, topic.relevant);
      both = omega (arith, made.both, chosen, topic.relevant, second, second_size);
      first = omega (arith, made.first, chosen, topic.relevant, topic.unjudged, first, second, first_size, second_size, class_sizes marks a b r);
    }

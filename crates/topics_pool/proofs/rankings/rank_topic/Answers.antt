use Rattle.std.proofs.Common.{◌<◌, List, ℕ, [], length, map, refl, sym, ◌∙◌, subst, arith}
use Rattle.std.specs.Prelude.{Vec}
use Rattle.std.specs.declared.alloc.Global.{Global}
use Rattle.std.proofs.lemmas.List.{length-map}
use Rattle.std.proofs.lemmas.Option.{slice_get_read}
use Rattle.desk_model.proofs.Nested.{inner, length-zipped, zipped_at}
use Rattle.run_reader.specs.Run.{Run}
use Rattle.topics_pool.specs.Made.{AreDocsOf}
use Rattle.topics_pool.proofs.Ranked.{ranked_step, all_ranked}
use Rattle.topics_pool.proofs.rankings.rank_topic.Goals as goal

pub bounds-numbers-r : goal.bounds-numbers-r
bounds-numbers-r c =
    let items = λ (each : Vec ℕ Global). each.items in
    let numbers = c.args.numbers.now in
    let zipped = length-zipped (λ (run : Run) (each : List ℕ). AreDocsOf run c.args.book.now c.args.places.now each) c.args.runs.now (map items numbers) c.requires.docs in
    omega (arith, zipped, length-map numbers items, c.loop-r-test.true)

pub topic_ranking-requires : goal.topic_ranking-requires
topic_ranking-requires c =
    let items = λ (each : Vec ℕ Global). each.items in
    let runs = c.args.runs.now in
    let numbers = c.args.numbers.now in
    let run = c.index-runs-r.result in
    let related = λ (run : Run) (each : List ℕ). AreDocsOf run c.args.book.now c.args.places.now each in
    let zipped = length-zipped related runs (map items numbers) c.requires.docs in
    let within : c.loop-r.r < length numbers = omega (arith, zipped, length-map numbers items, c.loop-r-test.true) in
    let got = slice_get_read runs _ c.loop-r.r run refl c.loop-r-test.true c.index-runs-r.is in
    subst (related run) (inner numbers c.loop-r.r c.index-numbers-r.result within c.index-numbers-r.is ∙ sym c.deref.ensures.value) (zipped_at related runs (map items numbers) c.loop-r.r run [] c.requires.docs got)

pub loop-r-preserved : goal.loop-r-preserved
loop-r-preserved c =
    let items = λ (each : Vec (List ℕ) Global). each.items in
    let long = length-map c.loop-r.rankings items in
    let within : c.loop-r.r < length (map items c.loop-r.rankings) = omega (arith, long, c.requires.each, c.loop-r.auto.rankings, c.loop-r-test.true) in
    ranked_step c.loop-r.r c.args.runs.now c.args.book.now (map items c.args.rankings.now) (map items c.loop-r.rankings) (map items c.push_ranking.new.rankings) c.index-runs-r.result c.in_ok-ranking.ranking
    c.loop-r.invariant within c.loop-r-test.true c.index-runs-r.is c.in_ok-ranking.ensures c.in_ok-push_ranking.ensures

pub returns : goal.returns
returns c = all_ranked c.loop-r.r c.args.runs.now c.args.book.now _ _ c.loop-r.invariant c.loop-r-test.false

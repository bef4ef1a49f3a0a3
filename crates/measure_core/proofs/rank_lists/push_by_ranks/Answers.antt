use Rattle.std.proofs.Common.{◌≡◌, Bool, Some, ◌++◌, length, ap, sym, ◌∙◌}
use Rattle.std.proofs.lemmas.Result.{IfOk-weaker}
use Rattle.desk_model.specs.Completion.{with_picked}
use Rattle.desk_model.specs.Placed.{lookup}
use Rattle.desk_model.specs.declared.placed.Placed.{Placed}
use Rattle.measure_core.specs.Lists.{added_documents, passes_by_ranks, placed_documents}
use Rattle.measure_core.proofs.Placed.{ranked_listed}
use Rattle.measure_core.proofs.Walking.{left_whole}
use Rattle.measure_core.proofs.rank_lists.push_by_ranks.Goals as goal

pub invariant_of-first : goal.invariant_of-first
invariant_of-first g c =
    let es = c.by_doc in
    record { left = left_whole (length c.args.pair.now.marks.now) c.args.pair.now.a.now es.result.now c.args.pair.now.met.first es.ensures.ascending es.ensures.ranks }

pub invariant_of-second : goal.invariant_of-second
invariant_of-second g c =
    let fs = c.by_doc-2 in
    record { left = left_whole (length c.args.pair.now.marks.now) c.args.pair.now.b.now fs.result.now c.args.pair.now.met.second fs.ensures.ascending fs.ensures.ranks }

pub returns : goal.returns
returns g c =
    let marks = c.args.pair.now.marks.now in
    let n = length marks in
    let test = g.T.RankTest.test c.args.test.now in
    let absent = g.met.T.RankTest.absent c.args.test.now in
    let a = c.args.pair.now.a.now in
    let b = c.args.pair.now.b.now in
    let es = c.by_doc.result.now in
    let fs = c.by_doc-2.result.now in
    let before = c.args.docs.now.items in
    let now = c.push_places.new.docs.items in
    let truth = with_picked marks (passes_by_ranks test a b) in
    let listed : Placed → Bool = λ p. test (lookup es p.doc) (Some p.rank) in
    let right = left_whole n b fs c.args.pair.now.met.second c.by_doc-2.ensures.ascending c.by_doc-2.ensures.ranks in
    let all : added_documents marks truth ≡ placed_documents marks listed fs = ranked_listed marks test absent a b es fs c.by_doc.ensures.ranks c.by_doc-2.ensures.ranks right in
    IfOk-weaker c.push_places.result (λ _. now ≡ before ++ placed_documents marks listed fs) (λ _. now ≡ before ++ added_documents marks truth) (λ _ is. is ∙ sym (ap (λ ds. before ++ ds) all)) c.push_places.ensures

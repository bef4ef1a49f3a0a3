use Rattle.std.proofs.Common.{◌≡◌, ℕ, false, List, length, get_or, ap, sym, ◌∙◌, subst}
use Rattle.std.proofs.lemmas.Result.{IfOk-weaker}
use Rattle.desk_model.specs.Named.{book_at}
use Rattle.desk_model.specs.declared.types.Mark.{Mark}
use Rattle.measure_laws.specs.Cases.{least_truth}
use Rattle.measure_core.specs.Laws.{AreValues}
use Rattle.pair_table.specs.Evidence.{relevant_names, least_names_of}
use Rattle.pair_table.specs.TopicUnder.{topic_of}
use Rattle.pair_table.proofs.Listing.{case_listed}
use Rattle.pair_table.proofs.witness.TopicPair.most_names.Goals as goal

pub returns : goal.returns
returns g c =
    let measure = g.M.Measure.measured c.args.measure.now in
    let at = c.args.self.now.topic in
    let one = (topic_of at).ranking c.args.self.now.second in
    let other = (topic_of at).ranking c.args.self.now.first in
    let marks : List Mark = (topic_of at).marks in
    let docs = (book_at at.desk at.number).docs in
    let values = c.in_ok-truth.truth.items in
    let are : AreValues (least_truth measure marks one other) (length marks) values =
    subst (λ (m : List Mark). AreValues (least_truth measure m one other) (length m) values) c.marks.ensures.marks
    (subst (λ (r : List ℕ). AreValues (least_truth measure c.marks.result.now r other) (length c.marks.result.now) values) c.ranking-b.ensures
    (subst (λ (r : List ℕ). AreValues (least_truth measure c.marks.result.now c.ranking-b.result.now r) (length c.marks.result.now) values) c.ranking-a.ensures c.in_ok-truth.ensures)) in
    let count : length marks ≡ length docs = ap (λ (m : List Mark). length m) (sym c.marks.ensures.marks) ∙ c.marks.ensures.count in
    let listed = case_listed measure docs marks one other values c.deref.result.now count c.deref.ensures.value are in
    IfOk-weaker c.relevant.result (λ names. names ≡ relevant_names docs marks (λ doc. get_or c.deref.result.now doc false)) (λ names. names ≡ least_names_of measure at c.args.self.now.second c.args.self.now.first) (λ names is. is ∙ listed) c.relevant.ensures

use Rattle.std.proofs.Common.{◌≡◌, ℕ, ◌+◌, ◌<◌, List, length, get_or, Some, ap, sym, subst, ◌∙◌, arith}
use Rattle.std.specs.List.{AllByRecursion, zip}
use Rattle.std.proofs.lemmas.List.{get_or_default}
use Rattle.small_lemmas.proofs.Lists.{map_there, slice_get-zip}
use Rattle.desk_model.specs.Book.{Book}
use Rattle.desk_model.specs.Desk.{topics_under}
use Rattle.desk_model.specs.Order.{Topic}
use Rattle.desk_model.specs.declared.types.Mark.{Mark}
use Rattle.desk_model.proofs.DeskTopics.{length-marks, small_at, topic_of, topic_there}
use Rattle.order_bundle.specs.Bundle.{topic_lines}
use Rattle.order_bundle.specs.Lengths.{text_length}
use Rattle.order_bundle.specs.declared.bundle.Picks.{Picks}
use Rattle.pair_table.proofs.DeskTopics.{all_met_at}
use Rattle.pair_table.proofs.Listing.{universe_there}
use Rattle.table_bundle.specs.Drafts.{names_where}
use Rattle.table_bundle.specs.Lengths.{all_picks, is_counted, lists_on, picks_length_by, topic_length, topic_with}
use Rattle.table_bundle.proofs.Exchange.{few_times, picks_below}
use Rattle.table_bundle.proofs.ListLengths.{topic_counted}
use Rattle.table_bundle.proofs.standing_table.TopicPairs.length.Goals as goal

pub topic-marks-requires : goal.topic-marks-requires
topic-marks-requires g c = omega (arith, c.args.self.now.known, length-marks c.args.self.now.on.now.standing.now.desk.now c.args.self.now.on.now.standing.now.marks.now c.args.self.now.on.now.standing.now.marked)

pub count-requires : goal.count-requires
count-requires g c = record { met = all_met_at c.args.self.now.on.now.standing.now.desk.now c.args.self.now.on.now.standing.now.marks.now c.valid.ensures c.args.self.now.on.now.standing.now.marked c.args.self.now.number c.topic-marks.result.now c.topic-marks.ensures }

pub documents_length-requires : goal.documents_length-requires
documents_length-requires g c =
    ap length c.deref.ensures.value ∙ c.in_ok-heads.ensures.size ∙ universe_there c.args.self.now.on.now.standing.now.desk.now c.args.self.now.on.now.standing.now.marks.now c.args.self.now.number c.topic-book.result.now c.topic-marks.result.now c.args.self.now.on.now.standing.now.marked c.topic-book.ensures c.topic-marks.ensures

pub picks_length-requires-clause-size : goal.picks_length-requires-clause-size
picks_length-requires-clause-size g c =
    omega (arith, ap length c.deref-2.ensures.value, c.in_ok-heads.ensures.size, small_at c.args.self.now.on.now.standing.now.desk.now c.args.self.now.on.now.standing.now.marks.now c.valid.ensures c.args.self.now.on.now.standing.now.marked c.args.self.now.number c.topic-marks.result.now c.topic-marks.ensures)

pub picks_length-requires-clause-few : goal.picks_length-requires-clause-few
picks_length-requires-clause-few g c = λ k d lt.
    let measure = g.M.Measure.measured c.args.self.now.on.now.standing.now.table.now.measure in
    let topic = topic_with c.args.self.now.on.now.standing.now.desk.now c.args.self.now.number c.topic-marks.result.now in
    let in_docs : k < length c.topic-marks.result.now = omega (arith, lt, ap length c.deref-2.ensures.value, c.in_ok-heads.ensures.size) in
    omega (arith, get_or_default c.deref-2.result.now k d 0 lt, ap (λ (l : List ℕ). get_or l k 0) c.deref-2.ensures.value, c.in_ok-heads.ensures.counts k in_docs, few_times measure topic c.args.self.now.on.now.pairs.now k, c.args.self.now.on.now.few)

pub overflow_add-result-2 : goal.overflow_add-result-2
overflow_add-result-2 g c =
    omega (
      arith,
      c.in_ok-heads.ensures.few,
      c.documents_length.ensures.few,
      c.picks_length.ensures.few,
      c.args.self.now.on.now.few,
      ap length c.deref-2.ensures.value,
      c.in_ok-heads.ensures.size,
      small_at c.args.self.now.on.now.standing.now.desk.now c.args.self.now.on.now.standing.now.marks.now c.valid.ensures c.args.self.now.on.now.standing.now.marked c.args.self.now.number c.topic-marks.result.now c.topic-marks.ensures,
    )

pub returns-clause-bytes : goal.returns-clause-bytes
returns-clause-bytes g c =
    let measure = g.M.Measure.measured c.args.self.now.on.now.standing.now.table.now.measure in
    let desk = c.args.self.now.on.now.standing.now.desk.now in
    let marks = c.args.self.now.on.now.standing.now.marks.now in
    let t = c.args.self.now.number in
    let m : List Mark = c.topic-marks.result.now in
    let book : Book = c.topic-book.result.now in
    let pairs = c.args.self.now.on.now.pairs.now in
    let topics = topics_under desk marks in
    let counts : List ℕ = c.in_ok-heads.counts.items in
    let lists : List Picks = lists_on measure pairs (topic_with desk t m) in
    let size : length counts ≡ length m = c.in_ok-heads.ensures.size in
    let over : length m ≡ length book.docs = universe_there desk marks t book m c.args.self.now.on.now.standing.now.marked c.topic-book.ensures c.topic-marks.ensures in
    let below : AllByRecursion (λ (d : ℕ). d < length counts) (all_picks lists) = subst (λ (n : ℕ). AllByRecursion (λ (d : ℕ). d < n) (all_picks lists)) (sym size) (picks_below measure (topic_with desk t m) pairs) in
    let counted = topic_counted book lists counts (size ∙ over) (λ d lt. c.in_ok-heads.ensures.counts d (omega (arith, lt, size))) below in
    let documents : c.documents_length.result ≡ text_length (topic_lines (record { topic = book.name; docs = names_where (is_counted counts) book.docs })) =
    c.documents_length.ensures.bytes ∙ ap (λ (l : List ℕ). text_length (topic_lines (record { topic = book.name; docs = names_where (is_counted l) book.docs }))) c.deref.ensures.value in
    let picks : c.picks_length.result ≡ picks_length_by counts = c.picks_length.ensures.bytes ∙ ap picks_length_by c.deref-2.ensures.value in
    let total : topic_length book lists ≡ c.in_ok-heads.heads + c.documents_length.result + c.picks_length.result = omega (arith, c.in_ok-heads.ensures.bytes, documents, picks, counted) in
    let at = slice_get-zip desk.topics topics t book (topic_of desk t m) c.topic-book.ensures (topic_there desk marks t m c.topic-marks.ensures) in
    map_there (λ (p : Book × Topic). topic_length p.0 (lists_on measure pairs p.1)) (zip desk.topics topics) t (book, topic_of desk t m) at ∙ ap (λ (n : ℕ). Some n) total

pub returns-clause-few : goal.returns-clause-few
returns-clause-few g c =
    omega (
      arith,
      c.in_ok-heads.ensures.few,
      c.documents_length.ensures.few,
      c.picks_length.ensures.few,
      c.args.self.now.on.now.few,
      ap length c.deref-2.ensures.value,
      c.in_ok-heads.ensures.size,
      small_at c.args.self.now.on.now.standing.now.desk.now c.args.self.now.on.now.standing.now.marks.now c.valid.ensures c.args.self.now.on.now.standing.now.marked c.args.self.now.number c.topic-marks.result.now c.topic-marks.ensures,
    )

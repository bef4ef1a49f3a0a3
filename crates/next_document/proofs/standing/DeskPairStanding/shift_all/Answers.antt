use Rattle.std.proofs.Common.{◌≡◌, ℕ, ◌+◌, ◌<◌, ◌≤◌, List, [], length, map, get_or, ap, sym, ◌∙◌, subst, arith}
use Rattle.std.specs.Prelude.{Vec, vec_len}
use Rattle.std.specs.Vec.{with_items}
use Rattle.std.specs.declared.alloc.Global.{Global}
use Rattle.std.proofs.lemmas.List.{length-map, map-set, with_items_is}
use Rattle.std.proofs.Math.ListN.{set}
use Rattle.desk_model.specs.Desk.{Desk, AreMarksOf}
use Rattle.desk_model.specs.declared.types.Mark.{Mark}
use Rattle.desk_model.proofs.DeskTopics.{length-marks}
use Rattle.desk_model.proofs.Nested.{inner}
use Rattle.desk_model.specs.declared.types.Mark.{Mark}
use Rattle.next_document.specs.Moved.{pair_weights}
use Rattle.next_document.specs.Kept.{AreOver}
use Rattle.measure_core.specs.Shifts.{HaveRoom, AreShifted}
use Rattle.measure_core.specs.declared.shift.Shift.{Shift}
use Rattle.next_document.proofs.AllTopics.{AreShiftedBelow, shifted_topic, shifted_over}
use Rattle.next_document.proofs.standing.DeskPairStanding.shift_all.Goals as goal

abbrev lists : List (Vec ℕ Global) → List (List ℕ)
lists vecs = map (λ (each : Vec ℕ Global). each.items) vecs

as_many : (desk : Desk) (marks : List (List Mark)) (totals : List (Vec ℕ Global)) → AreMarksOf desk marks → AreOver marks (lists totals) → length totals ≡ length desk.topics
as_many desk marks totals known over = sym (length-map totals (λ (each : Vec ℕ Global). each.items)) ∙ over.topics ∙ length-marks desk marks known

in_totals : (desk : Desk) (marks : List (List Mark)) (old now : List (Vec ℕ Global)) (topic end : ℕ) → topic < end → end ≡ length desk.topics → AreMarksOf desk marks → AreOver marks (lists old) → length now ≡ length old → topic < length now
in_totals desk marks old now topic end lt count known over long = omega (arith, as_many desk marks old known over)

in_lists : (old now : List (Vec ℕ Global)) (topic : ℕ) → topic < length now → length now ≡ length old → topic < length (lists old)
in_lists old now topic lt long = omega (arith, length-map old (λ (each : Vec ℕ Global). each.items))

in_marks : (desk : Desk) (marks : List (List Mark)) (topic end : ℕ) → topic < end → end ≡ length desk.topics → AreMarksOf desk marks → topic < length marks
in_marks desk marks topic end lt count known = omega (arith, length-marks desk marks known)

pub bounds-totals-topic : goal.bounds-totals-topic
bounds-totals-topic g c =
    in_totals c.args.self.now.standing.on.desk.now c.args.self.now.standing.on.marks.now c.args.totals.now c.loop-topic.totals c.loop-topic.topic c.topic_count-topic-end.result c.loop-topic-test.true c.topic_count-topic-end.ensures.count c.args.self.now.standing.on.marked c.requires.room.over c.loop-topic.auto.totals

-- what the vector of a topic holds is what it held at first
held_at : (shift : Shift) (weights : ℕ → ℕ → ℕ) (topic : ℕ) (old now : List (Vec ℕ Global)) (v : Vec ℕ Global) (items : List ℕ) → AreShiftedBelow shift weights topic (lists old) (lists now) → topic < length now → v ≡ get_or now topic v →
    items ≡ (get_or now topic v).items → (items ≡ get_or (lists now) topic []) × (items ≡ get_or (lists old) topic [])
held_at shift weights topic old now v items h lt is value =
    let here : items ≡ get_or (lists now) topic [] = value ∙ ap (λ (w : Vec ℕ Global). w.items) (sym is) ∙ sym (inner now topic v lt is) in (here, here ∙ h.kept topic (omega arith))

pub shift_totals-requires-clause-count : goal.shift_totals-requires-clause-count
shift_totals-requires-clause-count g c =
    let weights = pair_weights (g.M.Measure.measured c.args.self.now.standing.measure.now) c.args.self.now.standing.on.desk.now c.args.self.now.standing.on.marks.now c.args.self.now.pair in
    let topic = c.loop-topic.topic in
    let within : topic < length c.loop-topic.totals = in_totals c.args.self.now.standing.on.desk.now c.args.self.now.standing.on.marks.now c.args.totals.now c.loop-topic.totals topic c.topic_count-topic-end.result c.loop-topic-test.true c.topic_count-topic-end.ensures.count c.args.self.now.standing.on.marked c.requires.room.over c.loop-topic.auto.totals in
    let held = held_at c.args.shift weights topic c.args.totals.now c.loop-topic.totals c.index-totals-topic.result c.deref_mut.result.now c.loop-topic.invariant within c.index-totals-topic.is c.deref_mut.ensures.value in
    ap length held.1 ∙ c.requires.room.over.docs topic (in_marks c.args.self.now.standing.on.desk.now c.args.self.now.standing.on.marks.now topic c.topic_count-topic-end.result c.loop-topic-test.true c.topic_count-topic-end.ensures.count c.args.self.now.standing.on.marked)

pub shift_totals-requires-clause-room : goal.shift_totals-requires-clause-room
shift_totals-requires-clause-room g c =
    let topic = c.loop-topic.topic in
    let weights = pair_weights (g.M.Measure.measured c.args.self.now.standing.measure.now) c.args.self.now.standing.on.desk.now c.args.self.now.standing.on.marks.now c.args.self.now.pair in
    let within : topic < length c.loop-topic.totals = in_totals c.args.self.now.standing.on.desk.now c.args.self.now.standing.on.marks.now c.args.totals.now c.loop-topic.totals topic c.topic_count-topic-end.result c.loop-topic-test.true c.topic_count-topic-end.ensures.count c.args.self.now.standing.on.marked c.requires.room.over c.loop-topic.auto.totals in
    let held = held_at c.args.shift weights topic c.args.totals.now c.loop-topic.totals c.index-totals-topic.result c.deref_mut.result.now c.loop-topic.invariant within c.index-totals-topic.is c.deref_mut.ensures.value in
    subst (λ (xs : List ℕ). HaveRoom c.args.shift (weights topic) xs) (sym held.1)
    (c.requires.room.each topic (in_marks c.args.self.now.standing.on.desk.now c.args.self.now.standing.on.marks.now topic c.topic_count-topic-end.result c.loop-topic-test.true c.topic_count-topic-end.ensures.count c.args.self.now.standing.on.marked))

pub loop-topic-preserved : goal.loop-topic-preserved
loop-topic-preserved g c =
    let topic = c.loop-topic.topic in
    let shift = c.args.shift in
    let old = lists c.args.totals.now in
    let weights = pair_weights (g.M.Measure.measured c.args.self.now.standing.measure.now) c.args.self.now.standing.on.desk.now c.args.self.now.standing.on.marks.now c.args.self.now.pair in
    let within : topic < length c.loop-topic.totals = in_totals c.args.self.now.standing.on.desk.now c.args.self.now.standing.on.marks.now c.args.totals.now c.loop-topic.totals topic c.topic_count-topic-end.result c.loop-topic-test.true c.topic_count-topic-end.ensures.count c.args.self.now.standing.on.marked c.requires.room.over c.loop-topic.auto.totals in
    let inside : topic < length old = in_lists c.args.totals.now c.loop-topic.totals topic within c.loop-topic.auto.totals in
    let now = c.shift_totals.new.totals in
    let held = held_at shift weights topic c.args.totals.now c.loop-topic.totals c.index-totals-topic.result c.deref_mut.result.now c.loop-topic.invariant within c.index-totals-topic.is c.deref_mut.ensures.value in
    let is : AreShifted shift (weights topic) (get_or (lists c.loop-topic.totals) topic []) now = subst (λ (xs : List ℕ). AreShifted shift (weights topic) xs now) held.0 c.shift_totals.ensures in
    let v : Vec ℕ Global = get_or c.loop-topic.totals topic c.index-totals-topic.result in
    let long : length now ≡ vec_len v = c.shift_totals.ensures.count ∙ c.deref_mut.ensures.len in
    subst (AreShiftedBelow shift weights (topic + 1) old)
    (sym (map-set (λ (each : Vec ℕ Global). each.items) c.loop-topic.totals topic (with_items v now) ∙ ap (λ (xs : List ℕ). set (lists c.loop-topic.totals) topic xs) (with_items_is v now long)))
    (shifted_topic shift weights old (lists c.loop-topic.totals) topic now c.loop-topic.invariant inside is)

pub returns : goal.returns
returns g c =
    let all : length c.args.self.now.standing.on.marks.now ≤ c.loop-topic.topic = omega (arith, length-marks c.args.self.now.standing.on.desk.now c.args.self.now.standing.on.marks.now c.args.self.now.standing.on.marked, c.loop-topic-test.false, c.topic_count-topic-end.ensures.count) in
    record {
      over = shifted_over c.args.shift (pair_weights (g.M.Measure.measured c.args.self.now.standing.measure.now) c.args.self.now.standing.on.desk.now c.args.self.now.standing.on.marks.now c.args.self.now.pair) (lists c.args.totals.now) (lists c.loop-topic.totals) c.args.self.now.standing.on.marks.now c.loop-topic.topic
          c.loop-topic.invariant all c.requires.room.over;
      each = λ topic lt. c.loop-topic.invariant.done topic (omega (arith, lt, all));
    }

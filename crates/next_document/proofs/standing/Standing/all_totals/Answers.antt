use Rattle.std.proofs.Common.{◌≡◌, ℕ, ◌+◌, ◌<◌, List, [], length, ◌∷◌, ◌++◌, map, get_or, ap, sym, ◌∙◌, subst, arith}
use Rattle.std.specs.Prelude.{Vec}
use Rattle.std.specs.declared.alloc.Global.{Global}
use Rattle.std.proofs.lemmas.Result.{IfOk-from_err}
use borrow.Author.Count.{below_more}
use Rattle.std.proofs.lemmas.List.{length-map, length-append, map-append, get_or_append_left, get_or_push}
use Rattle.desk_model.specs.declared.types.Mark.{Mark}
use Rattle.desk_model.proofs.DeskTopics.{length-marks}
use Rattle.desk_model.specs.declared.types.Mark.{Mark}
use Rattle.next_document.specs.Kept.{AreOver, AreTotalsOf, AreNumbered, AreTopicTotals}
use Rattle.next_document.specs.Shown.{shown}
use Rattle.next_document.proofs.Over.{numbered}
use Rattle.next_document.proofs.standing.Standing.all_totals.Goals as goal

abbrev lists : List (Vec ℕ Global) → List (List ℕ)
lists vecs = map (λ (each : Vec ℕ Global). each.items) vecs

over : (marks : List (List Mark)) (all : List (Vec ℕ Global)) (end : ℕ) → length all ≡ end → length marks ≡ end → ((topic : ℕ) → topic < end → length (get_or (lists all) topic []) ≡ length (get_or marks topic [])) → AreOver marks (lists all)
over marks all end count whole same = record { topics = omega (arith, length-map all (λ (each : Vec ℕ Global). each.items), count, whole); docs = λ topic lt. same topic (omega (arith, lt, whole)) }

pub returns-clause-totals : goal.returns-clause-totals
returns-clause-totals g c =
    let whole : length c.args.self.now.on.marks.now ≡ c.loop-topic.topic = omega (arith, length-marks c.args.self.now.on.desk.now c.args.self.now.on.marks.now c.args.self.now.on.marked, c.loop-topic-test.false, c.loop-topic.auto.topic-end, c.topic_count-topic-end.ensures.count) in
    record {
      over = over c.args.self.now.on.marks.now c.loop-topic.all.items c.loop-topic.topic c.loop-topic.invariant.topics whole c.loop-topic.invariant.counts;
      each = λ topic lt. c.loop-topic.invariant.totals topic (omega (arith, lt, whole));
    }

pub returns-clause-numbered : goal.returns-clause-numbered
returns-clause-numbered g c =
    let whole : length c.args.self.now.on.marks.now ≡ c.loop-topic.topic = omega (arith, length-marks c.args.self.now.on.desk.now c.args.self.now.on.marks.now c.args.self.now.on.marked, c.loop-topic-test.false, c.loop-topic.auto.topic-end, c.topic_count-topic-end.ensures.count) in
    numbered c.args.self.now.on.desk.now c.args.self.now.on.marks.now (lists c.loop-topic.all.items) c.topic_count-topic-end.ensures.desk c.args.self.now.on.marked (over c.args.self.now.on.marks.now c.loop-topic.all.items c.loop-topic.topic c.loop-topic.invariant.topics whole c.loop-topic.invariant.counts)

pub loop-topic-init : goal.loop-topic-init
loop-topic-init g c = record { topics = ap length c.new-all.ensures.items; counts = λ topic lt. absurd (omega (arith, lt)); totals = λ topic lt. absurd (omega (arith, lt)) }

pub returns-in_err-totals-clause-totals : goal.returns-in_err-totals-clause-totals
returns-in_err-totals-clause-totals g c =
    IfOk-from_err c.from_residual.result (λ (all : Vec (Vec ℕ Global) Global). AreTotalsOf (shown g.M.Measure.measured c.args.self.now) (lists all.items)) c.from_residual.ensures.0

pub returns-in_err-totals-clause-numbered : goal.returns-in_err-totals-clause-numbered
returns-in_err-totals-clause-numbered g c = IfOk-from_err c.from_residual.result (λ (all : Vec (Vec ℕ Global) Global). AreNumbered (lists all.items)) c.from_residual.ensures.0

-- what holds of the list of each topic, one more at the end
one_more : (P : ℕ → List ℕ → Type 0) (before now : List (Vec ℕ Global)) (v : Vec ℕ Global) (end : ℕ) → length before ≡ end → now ≡ before ++ v ∷ [] → ((topic : ℕ) → topic < end → P topic (get_or (lists before) topic [])) → P end v.items → (topic : ℕ) → topic < end + 1 →
    P topic (get_or (lists now) topic [])
one_more P before now v end count is below here =
    let all : lists now ≡ lists before ++ v.items ∷ [] = ap lists is ∙ map-append (λ (each : Vec ℕ Global). each.items) before (v ∷ []) in
    let long : length (lists before) ≡ end = length-map before (λ (each : Vec ℕ Global). each.items) ∙ count in
    below_more (λ (topic : ℕ). P topic (get_or (lists now) topic [])) end
    (λ topic lt. subst (P topic) (sym (ap (λ (xs : List (List ℕ)). get_or xs topic []) all ∙ get_or_append_left (lists before) (v.items ∷ []) [] topic (omega (arith, lt, long)))) (below topic lt))
    (subst (P end) (sym (ap (λ (xs : List (List ℕ)). get_or xs end []) all ∙ get_or_push (lists before) v.items [] end long)) here)

pub loop-topic-preserved : goal.loop-topic-preserved
loop-topic-preserved g c =
    let before = c.loop-topic.all.items in
    let totals = c.in_ok-totals.totals in
    let s = shown g.M.Measure.measured c.args.self.now in
    let is : c.push.new.self.items ≡ before ++ totals ∷ [] = c.in_ok-push.ensures.items in
    let more = λ (P : ℕ → List ℕ → Type 0). one_more P before c.push.new.self.items totals c.loop-topic.topic c.loop-topic.invariant.topics is in
    record {
      topics = ap length is ∙ length-append before (totals ∷ []) ∙ ap (λ (n : ℕ). n + 1) c.loop-topic.invariant.topics;
      counts = more (λ (topic : ℕ) (xs : List ℕ). length xs ≡ length (get_or c.args.self.now.on.marks.now topic [])) c.loop-topic.invariant.counts c.in_ok-totals.ensures.count;
      totals = more (AreTopicTotals s) c.loop-topic.invariant.totals c.in_ok-totals.ensures.totals;
    }

use Rattle.std.proofs.Common.{◌≡◌, ℕ, ◌<◌, List, [], length, map, get_or, ap, sym, ◌∙◌, subst, arith}
use Rattle.std.specs.Prelude.{Vec, vec_len}
use Rattle.std.specs.Vec.{with_items}
use Rattle.std.specs.declared.alloc.Global.{Global}
use Rattle.std.proofs.Math.ListN.{set}
use Rattle.std.proofs.lemmas.List.{length-map, map-set, with_items_is}
use Rattle.desk_model.proofs.DeskTopics.{length-marks}
use Rattle.desk_model.proofs.Nested.{inner}
use Rattle.next_document.specs.Kept.{AreTotalsOf}
use Rattle.next_document.specs.Total.{standing}
use Rattle.next_document.proofs.Over.{totals_whole}
use Rattle.next_document.proofs.renewed.renew.Goals as goal

abbrev lists : List (Vec ℕ Global) → List (List ℕ)
lists vecs = map (λ (each : Vec ℕ Global). each.items) vecs

pub bounds-totals-topic : goal.bounds-totals-topic
bounds-totals-topic g c =
    omega (arith, c.requires.topic, length-marks c.args.desk.now c.args.marks.now c.requires.marks, c.requires.others.over.topics, length-map c.args.totals.now (λ (each : Vec ℕ Global). each.items))

-- what the vector of the changed topic holds
held_at : (changed : ℕ) (totals : List (Vec ℕ Global)) (v : Vec ℕ Global) (items : List ℕ) → changed < length totals → v ≡ get_or totals changed v → items ≡ (get_or totals changed v).items → items ≡ get_or (lists totals) changed []
held_at changed totals v items lt is value = value ∙ ap (λ (w : Vec ℕ Global). w.items) (sym is) ∙ sym (inner totals changed v lt is)

pub sum_topic-requires : goal.sum_topic-requires
sum_topic-requires g c =
    let marks = length-marks c.args.desk.now c.args.marks.now c.requires.marks in
    let over = c.requires.others.over in
    let within : c.args.topic < length c.args.totals.now = omega (arith, c.requires.topic, marks, over.topics, length-map c.args.totals.now (λ (each : Vec ℕ Global). each.items)) in
    record { count = ap length (held_at c.args.topic c.args.totals.now c.index-totals-topic.result c.deref_mut.result.now within c.index-totals-topic.is c.deref_mut.ensures.value) ∙ over.docs c.args.topic (omega (arith, c.requires.topic, marks)) }

pub returns : goal.returns
returns g c =
    let marks = length-marks c.args.desk.now c.args.marks.now c.requires.marks in
    let s = standing (g.M.Measure.measured c.args.measure.now) c.args.desk.now c.args.marks.now c.args.held.now in
    let changed = c.args.topic in
    let totals = c.args.totals.now in
    let over = c.requires.others.over in
    let now = c.sum_topic.new.totals in
    let within : changed < length totals = omega (arith, c.requires.topic, marks, over.topics, length-map totals (λ (each : Vec ℕ Global). each.items)) in
    let in_marks : changed < length c.args.marks.now = omega (arith, c.requires.topic, marks) in
    let v : Vec ℕ Global = get_or totals changed c.index-totals-topic.result in
    let kept : length now ≡ length c.deref_mut.result.now = c.sum_topic.auto.totals in
    let long : length now ≡ vec_len v = kept ∙ c.deref_mut.ensures.len in
    let count : length now ≡ length (get_or c.args.marks.now changed []) =
    kept ∙ ap length (held_at changed totals c.index-totals-topic.result c.deref_mut.result.now within c.index-totals-topic.is c.deref_mut.ensures.value) ∙ over.docs changed in_marks in
    subst (AreTotalsOf s)
    (sym (map-set (λ (each : Vec ℕ Global). each.items) totals changed (with_items v now) ∙ ap (λ (xs : List ℕ). set (lists totals) changed xs) (with_items_is v now long)))
    (totals_whole s changed (lists totals) now c.requires.others in_marks count c.sum_topic.ensures)

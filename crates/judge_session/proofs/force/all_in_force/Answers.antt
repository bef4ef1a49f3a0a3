use Rattle.std.proofs.Common.{◌≡◌, ◌<◌, ◌+◌, [], map, length, get_or, ap, sym, subst, ◌∙◌, arith, List, Option}
use Rattle.std.specs.Prelude.{ℤ}
use Rattle.std.specs.List.{enumerate_from}
use Rattle.std.proofs.lemmas.List.{get_or-map, length-map}
use Rattle.std.proofs.lemmas.Option.{get_or_from_slice_get}
use Rattle.desk_model.specs.Book.{Book}
use Rattle.judge_session.specs.InForce.{grade_after, counted_grade}
use Rattle.judge_session.proofs.Grades.{all_counted_once, all_forced, counted-start, written_back}
use Rattle.judge_session.proofs.force.all_in_force.Goals as goal

pub replay-requires : goal.replay-requires
replay-requires c = record {
  counted = λ doc e lt.
      let gs = c.in_ok-file.file.items in
      let same : c.deref_mut.result.now ≡ map counted_grade gs = c.deref_mut.ensures.value ∙ c.in_ok-grades.ensures ∙ ap (map counted_grade) c.deref.ensures.value in
      subst (λ (xs : List (Option ℤ)). get_or xs doc e ≡ counted_grade (get_or xs doc e)) (sym same)
      (all_counted_once gs doc e (omega (arith, lt, ap length same, length-map gs counted_grade)));
}

pub returns : goal.returns
returns c =
    let topic = c.args.topic in
    let changes = c.args.changes.now in
    let gs = c.in_ok-file.file.items in
    let len = c.in_ok-grades.grades.len in
    let r = c.replay.new.grades in
    let same : c.deref_mut.result.now ≡ map counted_grade gs = c.deref_mut.ensures.value ∙ c.in_ok-grades.ensures ∙ ap (map counted_grade) c.deref.ensures.value in
    let length-r : length r ≡ len = c.replay.auto.grades ∙ c.deref_mut.ensures.len in
    let length-gs : length gs ≡ len = sym (length-map gs counted_grade) ∙ ap length (sym same) ∙ c.deref_mut.ensures.len in
    let there = get_or_from_slice_get c.args.desk.now.topics topic c.topic.result.now (record { name = []; docs = []; grades = [] }) c.topic.ensures in
    written_back len r c.in_ok-grades.grades.items length-r
    ∙ all_forced topic 0 changes gs r (length-r ∙ sym length-gs) (λ k e lt.
    let in_range : k < length c.deref_mut.result.now = omega (arith, lt, c.deref_mut.ensures.len, length-gs) in
    let place : k ≡ 0 + k = omega arith in
    c.replay.ensures k e in_range
    ∙ ap (λ xs. counted_grade (grade_after (get_or xs k e) topic k changes)) same
    ∙ ap (λ g. counted_grade (grade_after g topic k changes)) (get_or-map counted_grade gs k e e lt)
    ∙ counted-start (get_or gs k e) topic k changes
    ∙ ap (λ j. counted_grade (grade_after (get_or gs k e) topic j changes)) place)
    ∙ ap (λ fs. map (λ p. counted_grade (grade_after p.1 topic p.0 changes)) (enumerate_from 0 fs)) (c.in_ok-file.ensures ∙ ap (λ (book : Book). book.grades) (sym there))

use Rattle.std.proofs.Common.{◌≡◌, ◌+◌, ◌<◌, ℕ, Bool, nat_le, nat_eq, ◌&&◌, true, false, drop, length, slice_index_or, arith, ap}
use Rattle.desk_model.specs.Completion.{with_picked}
use Rattle.desk_model.proofs.Counts.{one_if}
use Rattle.topic_counts.proofs.Places.{list_within, at_place, goes_on, one_at_most}
use Rattle.topic_counts.proofs.Walk.{left_step, left_whole, left_first_done, left_second_done, shared_few}
use Rattle.topic_counts.proofs.shared.shared_documents.Goals as goal

pub bounds-marks-x : goal.bounds-marks-x
bounds-marks-x c =
    at_place (λ e. e.doc < length c.args.marks.now) c.loop-i.i c.by_doc-first.result.now _ c.loop-i-test.true
    (list_within (length c.args.marks.now) c.args.a.now c.by_doc-first.result.now c.requires.first c.by_doc-first.ensures.ranks)

pub with_if-counts-requires : goal.with_if-counts-requires
with_if-counts-requires c =
    omega (
      arith,
      c.loop-i.invariant.most,
      left_whole (with_picked c.args.marks.now (λ _. true)) c.args.k (length c.args.marks.now) c.args.a.now c.args.b.now c.by_doc-first.result.now c.by_doc-second.result.now c.requires.first c.by_doc-first.ensures.ranks c.by_doc-second.ensures.ranks,
      shared_few true c.args.k (length c.args.marks.now) c.args.marks.now c.args.a.now c.args.b.now c.requires.first,
    )

pub loop-i-smaller : goal.loop-i-smaller
loop-i-smaller c =
    let x = slice_index_or c.by_doc-first.result.now c.loop-i.i (record { doc = 0; rank = 0 }) in
    let y = slice_index_or c.by_doc-second.result.now c.loop-i.j (record { doc = 0; rank = 0 }) in
    let p : c.passed-i.result ≡ one_if (nat_le x.doc y.doc) = c.passed-i.ensures in
    let q : c.passed-j.result ≡ one_if (nat_le y.doc x.doc) = c.passed-j.ensures in
    omega (arith, p, q, goes_on x.doc y.doc, one_at_most (nat_le x.doc y.doc), one_at_most (nat_le y.doc x.doc))

pub loop-i-preserved : goal.loop-i-preserved
loop-i-preserved c =
    let marks = c.args.marks.now in
    let n = length c.args.marks.now in
    let first = c.by_doc-first.result.now in
    let second = c.by_doc-second.result.now in
    let x = slice_index_or c.by_doc-first.result.now c.loop-i.i (record { doc = 0; rank = 0 }) in
    let y = slice_index_or c.by_doc-second.result.now c.loop-i.j (record { doc = 0; rank = 0 }) in
    let p : c.passed-i.result ≡ one_if (nat_le x.doc y.doc) = c.passed-i.ensures in
    let q : c.passed-j.result ≡ one_if (nat_le y.doc x.doc) = c.passed-j.ensures in
    let within = list_within n c.args.a.now first c.requires.first c.by_doc-first.ensures.ranks in
    let step = λ (truth : ℕ → Bool). left_step truth c.args.k n c.loop-i.i c.loop-i.j (c.loop-i.i + c.passed-i.result) (c.loop-i.j + c.passed-j.result) first second (record { doc = 0; rank = 0 }) c.loop-i-test.true c.if-j-second.true
    c.by_doc-first.ensures.ascending c.by_doc-second.ensures.ascending within (ap (λ m. c.loop-i.i + m) p) (ap (λ m. c.loop-i.j + m) q) in
    let counted : (truth : ℕ → Bool) → one_if (truth x.doc && c.is_shared.result) ≡ one_if (truth x.doc && (nat_eq x.doc y.doc && (nat_le x.rank c.args.k && nat_le y.rank c.args.k))) =
    λ truth. ap (λ b. one_if (truth x.doc && b)) c.is_shared.ensures in
    record {
      first_in = omega (arith, p, one_at_most (nat_le x.doc y.doc));
      second_in = omega (arith, q, one_at_most (nat_le y.doc x.doc));
      least = omega (arith, c.loop-i.invariant.least, step (with_picked marks (λ _. false)), counted (with_picked marks (λ _. false)), c.with_if-counts.ensures.relevant);
      most = omega (arith, c.loop-i.invariant.most, step (with_picked marks (λ _. true)), counted (with_picked marks (λ _. true)), c.with_if-counts.ensures.either);
    }

pub returns-else-j-second-clause-least : goal.returns-else-j-second-clause-least
returns-else-j-second-clause-least c =
    omega (
      arith,
      c.loop-i.invariant.least,
      left_second_done (with_picked c.args.marks.now (λ _. false)) c.args.k (length c.args.marks.now) c.loop-i.j (drop c.loop-i.i c.by_doc-first.result.now) c.by_doc-second.result.now c.if-j-second.false,
      left_whole (with_picked c.args.marks.now (λ _. false)) c.args.k (length c.args.marks.now) c.args.a.now c.args.b.now c.by_doc-first.result.now c.by_doc-second.result.now c.requires.first c.by_doc-first.ensures.ranks c.by_doc-second.ensures.ranks,
    )

pub returns-else-j-second-clause-most : goal.returns-else-j-second-clause-most
returns-else-j-second-clause-most c =
    omega (
      arith,
      c.loop-i.invariant.most,
      left_second_done (with_picked c.args.marks.now (λ _. true)) c.args.k (length c.args.marks.now) c.loop-i.j (drop c.loop-i.i c.by_doc-first.result.now) c.by_doc-second.result.now c.if-j-second.false,
      left_whole (with_picked c.args.marks.now (λ _. true)) c.args.k (length c.args.marks.now) c.args.a.now c.args.b.now c.by_doc-first.result.now c.by_doc-second.result.now c.requires.first c.by_doc-first.ensures.ranks c.by_doc-second.ensures.ranks,
    )

pub returns-after-loop-i-clause-least : goal.returns-after-loop-i-clause-least
returns-after-loop-i-clause-least c =
    omega (
      arith,
      c.loop-i.invariant.least,
      left_first_done (with_picked c.args.marks.now (λ _. false)) c.args.k (length c.args.marks.now) c.loop-i.i c.by_doc-first.result.now (drop c.loop-i.j c.by_doc-second.result.now) c.loop-i-test.false,
      left_whole (with_picked c.args.marks.now (λ _. false)) c.args.k (length c.args.marks.now) c.args.a.now c.args.b.now c.by_doc-first.result.now c.by_doc-second.result.now c.requires.first c.by_doc-first.ensures.ranks c.by_doc-second.ensures.ranks,
    )

pub returns-after-loop-i-clause-most : goal.returns-after-loop-i-clause-most
returns-after-loop-i-clause-most c =
    omega (
      arith,
      c.loop-i.invariant.most,
      left_first_done (with_picked c.args.marks.now (λ _. true)) c.args.k (length c.args.marks.now) c.loop-i.i c.by_doc-first.result.now (drop c.loop-i.j c.by_doc-second.result.now) c.loop-i-test.false,
      left_whole (with_picked c.args.marks.now (λ _. true)) c.args.k (length c.args.marks.now) c.args.a.now c.args.b.now c.by_doc-first.result.now c.by_doc-second.result.now c.requires.first c.by_doc-first.ensures.ranks c.by_doc-second.ensures.ranks,
    )

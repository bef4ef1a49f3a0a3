use Rattle.std.proofs.Common.{◌≡◌, ◌≢◌, ℕ, ◌+◌, ◌<◌, Bool, true, false, List, length, get_or, set, refl, sym, subst, arith}
use Rattle.std.specs.Prelude.{nat_lt}
use Rattle.std.proofs.lemmas.Bool.Decides.{nat_tests}
use Rattle.std.proofs.lemmas.List.{get_or-set_other}
use Rattle.std.proofs.lemmas.Grind.{get_or-set_at}
use Rattle.measure_core.specs.Pairs.{ranking_on}
use Rattle.topic_counts.specs.Seen.{ArePrefix}
use Rattle.topic_counts.specs.declared.counts.Counts.{Counts}
use Rattle.measure_core.proofs.own_rows.count_runs.Goals as goal

one_more : (P : ℕ → Counts → Type 0) (counts : List Counts) (i : ℕ) (x : Counts) → i < length counts → P i x → ((run : ℕ) (none : Counts) → run < i → P run (get_or counts run none)) →
    (run : ℕ) (none : Counts) → run < i + 1 → P run (get_or (set counts i x) run none)
one_more P counts i x within here before run none lt = go (nat_lt run i) refl
  where
    go : (b : Bool) → nat_lt run i ≡ b → P run (get_or (set counts i x) run none)
    go true e =
        let earlier : run < i = grind (arith, nat_tests) in
        let apart : run ≢ i = λ same. absurd (omega (arith, earlier, same)) in
        subst (P run) (sym (get_or-set_other counts i run x none apart)) (before run none earlier)
    go false e =
        let same : run ≡ i = grind (arith, nat_tests, lt) in
        subst (P run) (sym (get_or-set_at counts i run x none same within)) (subst (λ (n : ℕ). P n x) (sym same) here)

pub loop-run-preserved : goal.loop-run-preserved
loop-run-preserved c =
    one_more (λ run counts. ArePrefix c.args.k c.args.on.now.marks.now (ranking_on c.args.on.now.rankings.now run) counts) c.loop-run.counts c.loop-run.run c.prefix_documents.result
    (omega (arith, c.loop-run-test.true, c.loop-run.auto.counts, c.requires, c.runs-run-end.ensures.count))
    (subst (λ (a : List ℕ). ArePrefix c.args.k c.args.on.now.marks.now a c.prefix_documents.result) c.ranking.ensures
    (record { least = c.prefix_documents.ensures.least; most = c.prefix_documents.ensures.most; few = c.prefix_documents.ensures.few })) c.loop-run.invariant

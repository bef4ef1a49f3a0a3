use Rattle.std.proofs.Common.{◌≡◌, ◌≢◌, ℕ, ◌+◌, ◌<◌, List, length, get_or, set, nat_eq, true, false, Bool, refl, sym, subst, ap, ◌∙◌, arith}
use Rattle.std.proofs.lemmas.Bool.Decides.{nat_tests}
use Rattle.std.proofs.lemmas.Grind.{get_or-set_at}
use Rattle.std.proofs.lemmas.List.{get_or-set_other}
use Rattle.desk_model.specs.declared.types.Mark.{Mark}
use Rattle.measure_core.specs.Pairs.{ranking_on}
use Rattle.measure_core.specs.declared.room.RunCandidates.{RunCandidates}
use Rattle.average_precision.specs.Rooms.{IsKept}
use Rattle.average_precision.proofs.average_precision.AveragePrecision.keep_runs.Goals as goal

one_more : (P : ℕ → RunCandidates → Type 0) (kept : List RunCandidates) (i : ℕ) (x : RunCandidates) → i < length kept → P i x → ((run : ℕ) → run < i → (none : RunCandidates) → P run (get_or kept run none)) →
    (run : ℕ) → run < i + 1 → (none : RunCandidates) → P run (get_or (set kept i x) run none)
one_more P kept i x within here before run lt none = go (nat_eq i run) refl
  where
    go : (b : Bool) → nat_eq i run ≡ b → P run (get_or (set kept i x) run none)
    go true is =
        let same : run ≡ i = grind (arith, nat_tests) in
        subst (P run) (sym (get_or-set_at kept i run x none same within)) (subst (λ (n : ℕ). P n x) (sym same) here)
    go false is =
        let apart : run ≢ i = grind (arith, nat_tests) in
        subst (P run) (sym (get_or-set_other kept i run x none apart)) (before run (omega (arith, lt, apart)) none)

pub loop-run-preserved : goal.loop-run-preserved
loop-run-preserved c =
    let on = c.args.on.now in
    let own = c.chosen_run-own in
    let t = on.rankings.now in
    let marked : IsKept on.marks.now own.result.on.docs.now c.kept_run.result = subst (λ (ms : List Mark). IsKept ms own.result.on.docs.now c.kept_run.result) own.ensures.marks c.kept_run.ensures.kept in
    record {
      long = c.kept_run.ensures.long ∙ ap length own.ensures.marks;
      kept = one_more (λ run kept. IsKept on.marks.now (ranking_on t run) kept) c.loop-run.kept c.loop-run.run c.kept_run.result
          (omega (arith, c.loop-run-test.true, c.loop-run.auto.kept, c.requires.room, c.runs-run-end.ensures.count))
          (subst (λ (a : List ℕ). IsKept on.marks.now a c.kept_run.result) (own.ensures.docs ∙ c.ranking.ensures) marked) c.loop-run.invariant.kept;
    }

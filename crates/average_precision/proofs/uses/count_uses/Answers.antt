use Rattle.std.proofs.Common.{◌≡◌, ℕ, ◌+◌, ◌<◌, ◌^◌, List, ◌++◌, length, drop, get_or, take, ap, sym, subst, ◌∙◌, arith}
use Rattle.std.proofs.lemmas.List.{append-nil, drop_all, take_all}
use Rattle.desk_model.specs.declared.types.Mark.{Mark}
use Rattle.measure_core.specs.Pairs.{ranking_on}
use Rattle.measure_core.specs.declared.room.Class.{Class}
use Rattle.average_precision.specs.Uses.{no_uses, share}
use Rattle.average_precision.proofs.Using.{share_room, shares_more}
use Rattle.average_precision.proofs.uses.count_uses.Goals as goal

-- a slice that is written back takes the place of all items
written_back : (n : ℕ) (new old : List Class) → length new ≡ n → length old ≡ n → take n (new ++ drop (length new) old) ≡ new
written_back n new old e f = ap (λ l. take n (new ++ l)) (drop_all (length new) old (omega (arith, e, f))) ∙ ap (take n) (append-nil new) ∙ take_all n new (omega (arith, e))

pub count_run-requires-clause-room : goal.count_run-requires-clause-room
count_run-requires-clause-room c = λ doc lt.
    let marks = c.args.kept.now.on.marks.now in
    let t = c.args.kept.now.on.rankings.now in
    let uses = c.args.uses.now in
    let run = c.loop-run.run in
    let own = c.chosen-chosen in
    let in_docs : doc < length c.args.counts.now = omega (arith, lt, c.loop-run.auto.counts) in
    subst (λ (ms : List Mark). get_or c.loop-run.counts doc 0 + share ms own.result.on.docs.now (get_or uses run no_uses) doc < 2 ^ 32) (sym own.ensures.marks)
    (subst (λ (docs : List ℕ). get_or c.loop-run.counts doc 0 + share marks docs (get_or uses run no_uses) doc < 2 ^ 32) (sym own.ensures.docs)
    (share_room marks t uses run doc (get_or c.args.counts.now doc 0) (get_or c.loop-run.counts doc 0) (2 ^ 32) (omega (arith, c.loop-run-test.true, c.runs-run-end.ensures.count, c.requires.runs)) (c.loop-run.invariant.raised doc in_docs) (c.requires.room doc in_docs)))

pub loop-run-preserved : goal.loop-run-preserved
loop-run-preserved c =
    let marks = c.args.kept.now.on.marks.now in
    let t = c.args.kept.now.on.rankings.now in
    let uses = c.args.uses.now in
    let run = c.loop-run.run in
    let own = c.chosen-chosen in
    let old : List Class = c.loop-run.classes.items in
    let new : List Class = c.mark_run.new.classes in
    let n = c.loop-run.classes.len in
    let kept : length c.deref_mut.result.now ≡ length old = ap length c.deref_mut.ensures.value in
    let long : length new ≡ n = omega (arith, c.mark_run.auto.classes, c.deref_mut.ensures.len) in
    let back : take n (new ++ drop (length new) old) ≡ new = written_back n new old long (omega (arith, kept, c.deref_mut.ensures.len)) in
    record {
      long = ap length back ∙ c.mark_run.ensures.long ∙ ap length own.ensures.marks;
      raised = λ doc lt.
          let uses_here = get_or uses run no_uses in
          let same : share own.result.on.marks.now own.result.on.docs.now uses_here doc ≡ share marks (ranking_on t run) uses_here doc =
          ap (λ (ms : List Mark). share ms own.result.on.docs.now uses_here doc) own.ensures.marks ∙ ap (λ (ds : List ℕ). share marks ds uses_here doc) own.ensures.docs in
          omega (arith, c.count_run.ensures doc (omega (arith, lt, c.loop-run.auto.counts)), same, c.loop-run.invariant.raised doc lt, shares_more marks t uses run doc);
    }

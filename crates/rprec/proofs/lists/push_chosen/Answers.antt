use Rattle.std.proofs.Common.{◌≡◌, ◌++◌, ◌-◌, ◌<◌, ◌+◌, ℕ, Bool, List, length, take, refl, ap, ap₂, sym, ◌∙◌, arith}
use Rattle.std.proofs.Math.Seq.{take-append-add}
use Rattle.std.proofs.lemmas.Result.{IfOk-weaker}
use Rattle.desk_model.specs.Completion.{with_picked}
use Rattle.measure_laws.specs.Classes.{judged_count, open_in, size_of}
use Rattle.measure_laws.specs.Prefixes.{only_second, neutral}
use Rattle.measure_laws.specs.RprecCase.{greedy_pick}
use Rattle.measure_core.specs.Lists.{added_documents}
use Rattle.marked_lists.specs.More.{own_and_more}
use Rattle.marked_lists.specs.declared.more_lists.More.{More}
use Rattle.measure_core.proofs.Pushing.{picked_same}
use Rattle.rprec.specs.Picks.{picks}
use Rattle.rprec.specs.declared.values.Wanted.{Wanted}
use Rattle.rprec.proofs.Taken.{all_own, own_alone}
use Rattle.rprec.proofs.Walks.{picks_are}
use Rattle.rprec.proofs.lists.push_chosen.Goals as goal

pub returns-then-wanted-gt0 : goal.returns-then-wanted-gt0
returns-then-wanted-gt0 c =
    let marks = c.args.pair.now.marks.now in
    let r = c.args.count in
    let a = c.args.pair.now.a.now in
    let b = c.args.pair.now.b.now in
    let w = c.args.wanted in
    let is = c.requires in
    let more : More = record { both = w.both; first = w.first } in
    let before = c.args.docs.now.items in
    let now = c.push_own_and_more.new.docs.items in
    let size = size_of (length marks) (open_in marks (only_second r a b)) in
    let many : size < w.second = omega (arith, is.second, is.both, c.if-wanted-gt0.true) in
    let same : added_documents marks (with_picked marks (own_and_more r more marks a b)) ≡ added_documents marks (with_picked marks (greedy_pick marks a b r)) =
    picked_same marks (own_and_more r more marks a b) (picks w marks a b r) (λ doc lt unjudged. all_own marks a b r doc w lt many unjudged)
    ∙ ap (λ (pick : ℕ → Bool). added_documents marks (with_picked marks pick)) (picks_are marks a b r w is.second is.both is.first) in
    IfOk-weaker c.push_own_and_more.result (λ _. now ≡ before ++ added_documents marks (with_picked marks (own_and_more r more marks a b))) (λ _. now ≡ before ++ added_documents marks (with_picked marks (greedy_pick marks a b r)))
    (λ _ done. done ∙ ap (λ ds. before ++ ds) same) c.push_own_and_more.ensures

pub returns : goal.returns
returns c =
    let marks = c.args.pair.now.marks.now in
    let r = c.args.count in
    let a = c.args.pair.now.a.now in
    let b = c.args.pair.now.b.now in
    let before = c.args.docs.now.items in
    let wanted = c.args.wanted in
    let is = c.requires in
    let chosen = wanted.second in
    let w : Wanted = record { second = chosen; both = 0; first = 0 } in
    let own = added_documents marks (with_picked marks (only_second r a b)) in
    let size = size_of (length marks) (open_in marks (only_second r a b)) in
    let both : 0 ≡ r - judged_count marks - size = omega (arith, is.both, c.if-wanted-gt0.false) in
    let first : 0 ≡ r - judged_count marks - size - size_of (length marks) (open_in marks (neutral r a b)) = omega (arith, both) in
    let end : c.len-start.result + chosen ≡ length before + chosen = omega (arith, c.len-start.ensures) in
    let greedy : take chosen own ≡ added_documents marks (with_picked marks (greedy_pick marks a b r)) =
    sym (own_alone marks a b r w refl refl) ∙ ap (λ (pick : ℕ → Bool). added_documents marks (with_picked marks pick)) (picks_are marks a b r w is.second both first) in
    c.truncate.ensures.items ∙ ap₂ (λ (m : ℕ) (l : List ℕ). take m l) end c.in_ok-push_own_marked.ensures ∙ take-append-add before own chosen ∙ ap (λ ds. before ++ ds) greedy

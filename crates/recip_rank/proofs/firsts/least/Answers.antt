use Rattle.std.proofs.Common.{◌≡◌, ◌<◌, ℕ, true, nat_eq, List, length, get_or, arith, ap, ◌∙◌, sym, subst, refl, Option, Some, None}
use Rattle.std.specs.Option.{option_eq}
use Rattle.desk_model.proofs.Counts.{nat_eq-true}
use Rattle.desk_model.specs.Score.{first_true}
use Rattle.measure_laws.specs.ReciprocalCase.{with_choice}
use Rattle.recip_rank.proofs.Candidates.{Walked, walk_shut, walk_open, open_firsts, walk_settles, walk_stops}
use Rattle.recip_rank.proofs.firsts.least.Goals.{in-Other, in-Unjudged+else-eq}
use Rattle.recip_rank.proofs.firsts.least.Goals as goal

pub returns-in-Relevant-clause-choice : goal.returns-in-Relevant-clause-choice
returns-in-Relevant-clause-choice c =
    let here = ap (λ (xs : List ℕ). get_or xs c.loop-place.place 0) c.docs-docs.ensures.docs in
    let long = ap length c.docs-docs.ensures.docs in
    walk_stops c.args.marks.now c.args.a.now c.args.b.now c.loop-place.place _ c.loop-place.best c.requires.second (omega arith) here c.in-Relevant.is c.loop-place.invariant

pub loop-place-preserved : goal.loop-place-preserved
loop-place-preserved c =
    let here = ap (λ (xs : List ℕ). get_or xs c.loop-place.place 0) c.docs-docs.ensures.docs in
    let long = ap length c.docs-docs.ensures.docs in
    let within : c.loop-place.place < length c.args.b.now = omega arith in
    let judged = c.first_rank-judged.ensures.first ∙ ap (λ (xs : List ℕ). first_true (with_choice c.args.marks.now None) xs) c.docs.ensures.docs in
    elim c.match-marks-doc.branch [
      | in-Other w ↦ walk_shut c.args.marks.now c.args.a.now c.args.b.now c.loop-place.place _ c.match-marks-doc.best within here w.in-Other.is (subst (Walked c.args.marks.now c.args.a.now c.args.b.now c.loop-place.place) (sym w.best-is) c.loop-place.invariant)
      | in-Unjudged+else-eq w ↦
          walk_open c.args.marks.now c.args.a.now c.args.b.now c.loop-place.place _ c.loop-place.best _ c.match-marks-doc.best _ within here w.in-Unjudged.is refl
          (open_firsts c.args.marks.now c.args.a.now c.args.b.now c.loop-place.place _ c.first_rank-judged.result w.rank_in.result w.earlier_of.result c.requires.first c.requires.second within here w.in-Unjudged.is c.loop-place.invariant.unseen judged w.rank_in.ensures.rank w.earlier_of.ensures c.first_rank-judged.ensures.within w.rank_in.ensures.within)
          refl (w.best-is ∙ w.better-best.ensures) c.loop-place.invariant
    ]

same_rank : (x y : Option ℕ) → option_eq nat_eq x y ≡ true → x ≡ y
same_rank None None e = refl
same_rank (Some m) (Some n) e = ap (λ k. Some k) (nat_eq-true m n e)
same_rank None (Some n) e = absurd (cc)
same_rank (Some m) None e = absurd (cc)

pub returns-then-eq-clause-choice : goal.returns-then-eq-clause-choice
returns-then-eq-clause-choice c =
    let marks = c.args.marks.now in
    let a = c.args.a.now in
    let b = c.args.b.now in
    let here = ap (λ (xs : List ℕ). get_or xs c.loop-place.place 0) c.docs-docs.ensures.docs in
    let long = ap length c.docs-docs.ensures.docs in
    let within : c.loop-place.place < length b = omega arith in
    let judged = c.first_rank-judged.ensures.first ∙ ap (λ (xs : List ℕ). first_true (with_choice marks None) xs) c.docs.ensures.docs in
    let firsts =
    open_firsts marks a b c.loop-place.place _ c.first_rank-judged.result c.rank_in.result c.earlier_of.result c.requires.first c.requires.second within here c.in-Unjudged.is c.loop-place.invariant.unseen judged c.rank_in.ensures.rank c.earlier_of.ensures
    c.first_rank-judged.ensures.within c.rank_in.ensures.within in
    walk_settles marks a b c.loop-place.place _ c.first_rank-judged.result _ c.better-best.result c.loop-place.best c.requires.second within here c.in-Unjudged.is judged (same_rank c.earlier_of.result c.first_rank-judged.result (sym c.eq.ensures ∙ c.if-eq.true)) firsts refl c.loop-place.invariant
    (walk_open marks a b c.loop-place.place _ c.loop-place.best _ c.better-best.result _ within here c.in-Unjudged.is refl firsts refl c.better-best.ensures c.loop-place.invariant)

pub returns-then-eq-clause-firsts : goal.returns-then-eq-clause-firsts
returns-then-eq-clause-firsts c =
    let marks = c.args.marks.now in
    let a = c.args.a.now in
    let b = c.args.b.now in
    let here = ap (λ (xs : List ℕ). get_or xs c.loop-place.place 0) c.docs-docs.ensures.docs in
    let long = ap length c.docs-docs.ensures.docs in
    let within : c.loop-place.place < length b = omega arith in
    let judged = c.first_rank-judged.ensures.first ∙ ap (λ (xs : List ℕ). first_true (with_choice marks None) xs) c.docs.ensures.docs in
    let firsts =
    open_firsts marks a b c.loop-place.place _ c.first_rank-judged.result c.rank_in.result c.earlier_of.result c.requires.first c.requires.second within here c.in-Unjudged.is c.loop-place.invariant.unseen judged c.rank_in.ensures.rank c.earlier_of.ensures
    c.first_rank-judged.ensures.within c.rank_in.ensures.within in
    (walk_open marks a b c.loop-place.place _ c.loop-place.best _ c.better-best.result _ within here c.in-Unjudged.is refl firsts refl c.better-best.ensures c.loop-place.invariant).firsts

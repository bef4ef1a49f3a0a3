use Rattle.std.proofs.Common.{◌≡◌, ◌+◌, ◌<◌, ℕ, zero, suc, [], ◌∷◌, Bool, true, false, not, List, length, take, nat_eq, get_or, ap, sym, ◌∙◌, subst, arith}
use Rattle.std.specs.List.{IsDistinct, AllByRecursion}
use Rattle.desk_model.specs.Ranking.{IsRanking, is_in}
use Rattle.desk_model.proofs.PrecisionEnds.{prefix_within}
use Rattle.desk_model.proofs.Counts.{IsDistinct-take}
use Rattle.measure_core.specs.Shifts.{HaveRoom, AreShifted}
use Rattle.measure_core.proofs.Alone.{listed, AreBalancedFrom, none_yet, passed_over, room_for_one, one_shifted, all_done}
use Rattle.measure_core.proofs.one_side.shift_alone.Goals as goal
use Rattle.measure_core.proofs.one_side.shift_alone.Goals.{then-not-is_among_first, else-not-is_among_first}

abbrev keep : ℕ → List ℕ → ℕ → Bool
keep k other doc = not (is_in (take k other) doc)

pub loop-doc-init : goal.loop-doc-init
loop-doc-init c = none_yet (keep c.args.k c.args.other.now) c.prefix-doc-items.result.now c.args.shift c.args.totals.now

at_doc : (n i : ℕ) (xs : List ℕ) → AllByRecursion (λ x. x < n) xs → i < length xs → get_or xs i 0 < n
at_doc n i [] h lt = absurd (omega arith)
at_doc n zero (x ∷ xs) h lt = h.0
at_doc n (suc i) (x ∷ xs) h lt = at_doc n i xs h.1 (omega arith)

-- the documents of the prefix are different, and of the totals
prefix_is : (n k : ℕ) (docs ps : List ℕ) → IsRanking n docs → ps ≡ take k docs → IsDistinct nat_eq ps × AllByRecursion (λ x. x < n) ps
prefix_is n k docs ps ranking e = (subst (IsDistinct nat_eq) (sym e) (IsDistinct-take k docs ranking.distinct), subst (AllByRecursion (λ x. x < n)) (sym e) (prefix_within k n docs ranking))

pub apply-requires : goal.apply-requires
apply-requires c =
    let ps = c.prefix-doc-items.result.now in
    let i = c.loop-doc.doc-index in
    let is : ps ≡ take c.args.k c.args.ranking.now = c.prefix-doc-items.ensures ∙ ap (take c.args.k) c.docs.ensures.docs in
    let good = prefix_is (length c.args.totals.now) c.args.k c.args.ranking.now ps c.requires.ranking is in
    let kept : keep c.args.k c.args.other.now (get_or ps i 0) ≡ true = ap not (sym c.is_among_first.ensures ∙ c.if-not-is_among_first.true) in
    room_for_one (keep c.args.k c.args.other.now) ps c.args.shift c.args.totals.now i c.loop-doc.totals c.loop-doc.invariant c.loop-doc-test.true (at_doc (length c.args.totals.now) i ps good.1 c.loop-doc-test.true) kept
    (subst (λ (xs : List ℕ). HaveRoom c.args.shift (listed (keep c.args.k c.args.other.now) xs) c.args.totals.now) (sym is) c.requires.room)

pub loop-doc-preserved : goal.loop-doc-preserved
loop-doc-preserved c =
    let ps = c.prefix-doc-items.result.now in
    let i = c.loop-doc.doc-index in
    let is : ps ≡ take c.args.k c.args.ranking.now = c.prefix-doc-items.ensures ∙ ap (take c.args.k) c.docs.ensures.docs in
    let good = prefix_is (length c.args.totals.now) c.args.k c.args.ranking.now ps c.requires.ranking is in
    elim c.if-not-is_among_first.branch [
      | then-not-is_among_first w ↦
          let kept : keep c.args.k c.args.other.now (get_or ps i 0) ≡ true = ap not (sym c.is_among_first.ensures ∙ w.if-not-is_among_first.true) in
          subst (AreBalancedFrom (keep c.args.k c.args.other.now) ps c.args.shift c.args.totals.now (i + 1)) (sym w.totals-is)
          (one_shifted (keep c.args.k c.args.other.now) ps c.args.shift c.args.totals.now i w.apply.result c.loop-doc.totals good.0 c.loop-doc.invariant c.loop-doc-test.true (at_doc (length c.args.totals.now) i ps good.1 c.loop-doc-test.true) kept w.apply.ensures)
      | else-not-is_among_first w ↦
          let kept : keep c.args.k c.args.other.now (get_or ps i 0) ≡ false = ap not (sym c.is_among_first.ensures ∙ w.if-not-is_among_first.false) in
          subst (AreBalancedFrom (keep c.args.k c.args.other.now) ps c.args.shift c.args.totals.now (i + 1)) (sym w.totals-is)
          (passed_over (keep c.args.k c.args.other.now) ps c.args.shift c.args.totals.now i c.loop-doc.totals c.loop-doc.invariant c.loop-doc-test.true kept)
    ]

pub returns : goal.returns
returns c =
    let items = c.prefix-doc-items in
    let is : items.result.now ≡ take c.args.k c.args.ranking.now = items.ensures ∙ ap (take c.args.k) c.docs.ensures.docs in
    subst (λ (ps : List ℕ). AreShifted c.args.shift (listed (keep c.args.k c.args.other.now) ps) c.args.totals.now c.loop-doc.totals) is
    (all_done (keep c.args.k c.args.other.now) items.result.now c.args.shift c.args.totals.now c.loop-doc.doc-index c.loop-doc.totals c.loop-doc.invariant (omega (arith, c.loop-doc-test.false)))

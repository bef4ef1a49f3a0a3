use Rattle.std.proofs.Common.{ℕ, ◌+◌, ◌<◌, List, length, take, get_or, refl, ◌∙◌, sym, subst}
use Rattle.desk_model.specs.Mark.{mark_at}
use Rattle.measure_core.specs.Bits.{AreBitsIn}
use Rattle.measure_core.proofs.SetBits.{bit_left, bit_set, is_not_other}
use Rattle.measure_core.proofs.bits.set_bits.Goals as goal
use Rattle.measure_core.proofs.bits.set_bits.Goals.{then-ne, else-ne}

pub loop-doc-preserved : goal.loop-doc-preserved
loop-doc-preserved c =
    let docs = c.docs-doc-items.result.now in
    let marks = c.args.marked.now.marks.now in
    let i = c.loop-doc.doc-index in
    let bits = c.loop-doc.bits in
    let doc = get_or docs i 0 in
    let known : doc < length marks = subst (λ (l : List ℕ). get_or l i 0 < length marks) (sym c.docs-doc-items.ensures.docs) (c.args.marked.now.met.ranking.within i 0 (subst (λ (l : List ℕ). i < length l) c.docs-doc-items.ensures.docs c.loop-doc-test.true)) in
    elim c.if-ne.branch [
      | then-ne w ↦
          subst (λ (l : List ℕ). AreBitsIn (take (i + 1) docs) marks l) (sym w.bits-is)
          (bit_set docs i doc c.loop-doc-test.true refl marks bits c.loop-doc.invariant known (is_not_other (mark_at marks doc) ∙ sym c.ne.ensures ∙ w.if-ne.true))
      | else-ne w ↦
          subst (λ (l : List ℕ). AreBitsIn (take (i + 1) docs) marks l) (sym w.bits-is)
          (bit_left docs i doc c.loop-doc-test.true refl marks bits c.loop-doc.invariant known (is_not_other (mark_at marks doc) ∙ sym c.ne.ensures ∙ w.if-ne.false))
    ]

use Rattle.std.proofs.Common.{◌≡◌, ℕ, ◌<◌, true, false, get_or, inl, inr, ap, sym, ◌∙◌, arith, length, length-set}
use Rattle.std.specs.Prelude.{option_map}
use Rattle.desk_text.specs.Lines.{is_bad, is_separator}
use Rattle.desk_text.proofs.FieldBytes.{separator_is_good, in_no_stop, bad_stop, both, some_byte, bad_found, none_bad}
use Rattle.desk_text.proofs.FieldLemmas.{field_found}
use Rattle.desk_text.proofs.Marking.{marked_more}
use Rattle.desk_text.proofs.field.fields_behind.Goals as goal
use Rattle.desk_text.proofs.field.fields_behind.Goals.{then-count-lt6, else-count-lt6}

pub returns-in_default-clause-bad : goal.returns-in_default-clause-bad
returns-in_default-clause-bad c =
    let line = c.args.line.now in
    let end = c.next_stop-end.result in
    let here = c.in_default.ensures.none in
    let lt : end < length line = here.0 in
    let good : (i : ℕ) → i < end → is_bad (get_or line i 0) ≡ false =
    both (λ i. is_bad (get_or line i 0) ≡ false) c.loop-at.at end c.loop-at.invariant.good (λ i from to. (in_no_stop (get_or line i 0) (c.next_stop-end.ensures.field.each i from to)).1) in
    let found = bad_found line end lt good (bad_stop (get_or line end 0) (c.next_stop-end.ensures.stop lt) here.1) in
    λ i. option_map (λ at. record { at = at }) (sym found i)

pub loop-at-preserved : goal.loop-at-preserved
loop-at-preserved c =
    let line = c.args.line.now in
    let at = c.loop-at.at in
    let end = c.next_stop-end.result in
    let next = c.in-Some.next in
    let skipped = c.in-Some.ensures.some in
    let ends : end < length line → is_separator (get_or line end 0) ≡ true = λ lt. skipped.separators end (omega arith) (c.in-Some.ensures.more lt) in
    let some : at < end = some_byte line at end c.loop-at-test.true c.next_stop-end.ensures.field.order (c.loop-at.invariant.stops c.loop-at-test.true) ends in
    let field = field_found line at end some c.next_stop-end.ensures.field.within (λ i from to. (in_no_stop (get_or line i 0) (c.next_stop-end.ensures.field.each i from to)).0) ends in
    let good : (i : ℕ) → i < end → is_bad (get_or line i 0) ≡ false =
    both (λ i. is_bad (get_or line i 0) ≡ false) at end c.loop-at.invariant.good (λ i from to. (in_no_stop (get_or line i 0) (c.next_stop-end.ensures.field.each i from to)).1) in
    record {
      marked = marked_more line c.loop-at.count c.loop-at.places c.if-count-lt6.places at end next c.loop-at.invariant.marked
          field skipped.fields some c.next_stop-end.ensures.field.within skipped.order c.loop-at.invariant.six
          (elim c.if-count-lt6.branch [ then-count-lt6 w ↦ inl (w.if-count-lt6.true, w.places-is) | else-count-lt6 w ↦ inr (w.if-count-lt6.false, w.places-is) ]);
      six = elim c.if-count-lt6.branch [ then-count-lt6 w ↦ ap length w.places-is ∙ (length-set c.loop-at.places c.loop-at.count (at, end) ∙ c.loop-at.invariant.six) | else-count-lt6 w ↦ ap length w.places-is ∙ c.loop-at.invariant.six ];
      within = skipped.within;
      stops = skipped.start;
      good = both (λ i. is_bad (get_or line i 0) ≡ false) end next good (λ i from to. separator_is_good (get_or line i 0) (skipped.separators i from to));
    }

pub returns-clause-bad : goal.returns-clause-bad
returns-clause-bad c =
    let none = none_bad c.args.line.now (λ i lt. c.loop-at.invariant.good i (omega arith)) in
    λ i. option_map (λ at. record { at = at }) (sym none i)

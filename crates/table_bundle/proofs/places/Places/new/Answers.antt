use Rattle.std.proofs.Common.{◌≡◌, ℕ, ◌+◌, Bool, false, [], ◌∷◌, ◌++◌, length, get_or, ap, sym, ◌∙◌, arith}
use Rattle.std.specs.Prelude.{filter}
use Rattle.std.specs.List.{range_with_len}
use Rattle.std.proofs.lemmas.List.{length_push}
use Rattle.std.proofs.lemmas.List.FromFn.{length-range_with_len, map-range_with_len_more}
use Rattle.std.proofs.lemmas.List.Sums.{length-filter, count_by-le-length}
use Rattle.table_bundle.specs.Drafts.{places_where}
use Rattle.table_bundle.proofs.Choosing.{filter_kept, filter_more, place}
use Rattle.table_bundle.proofs.places.Places.new.Goals as goal
use Rattle.table_bundle.proofs.places.Places.new.Goals.{then-flag, else-flag}

pub overflow_add-before : goal.overflow_add-before
overflow_add-before c =
    let p : ℕ → Bool = λ doc. get_or c.args.flags.now doc false in
    let i = c.loop-flag.flag-index in
    omega (arith, c.requires, c.loop-flag-test.true, c.loop-flag.invariant.before, length-filter p (range_with_len 0 i), count_by-le-length p (range_with_len 0 i), length-range_with_len 0 i)

pub loop-flag-preserved : goal.loop-flag-preserved
loop-flag-preserved c =
    let p : ℕ → Bool = λ doc. get_or c.args.flags.now doc false in
    let i = c.loop-flag.flag-index in
    let here = c.loop-flag.invariant in
    record {
      made = c.in_ok-push.ensures.items ∙ ap (λ l. l ++ c.loop-flag.before ∷ []) here.made ∙ ap (λ n. places_where p i ++ n ∷ []) here.before ∙ sym (map-range_with_len_more (place p) 0 i i (omega arith));
      before = elim c.if-flag.branch [
        | then-flag w ↦
            let more : length (filter p (range_with_len 0 (i + 1))) ≡ length (filter p (range_with_len 0 i)) + 1 = ap length (filter_more p i w.if-flag.true) ∙ length_push (filter p (range_with_len 0 i)) i in
            omega (arith, w.before-is, here.before, more)
        | else-flag w ↦ w.before-is ∙ here.before ∙ sym (ap length (filter_kept p i w.if-flag.false))
      ];
    }

use Rattle.std.proofs.Common.{◌≡◌, ℕ, ◌+◌, ◌*◌, ◌≤◌, true, false, List, length, get_or, ap, ap₂, ◌∙◌, arith}
use Rattle.std.specs.Prelude.{decimal, filter}
use Rattle.std.specs.List.{range_with_len}
use Rattle.std.proofs.lemmas.List.{length_push}
use Rattle.std.proofs.Math.Nat.{mul-le-mul_right}
use Rattle.table_bundle.specs.Lengths.{is_counted, pick_share}
use Rattle.table_bundle.proofs.Choosing.{filter_kept, filter_more}
use Rattle.table_bundle.proofs.ListLengths.{no_count, no_share, pick_more, some_count}
use Rattle.table_bundle.proofs.topic_length.picks_length.Goals as goal
use Rattle.table_bundle.proofs.topic_length.picks_length.Goals.{then-times-gt0, else-times-gt0}

pub loop-times-preserved : goal.loop-times-preserved
loop-times-preserved c =
    let counts : List ℕ = c.args.counts.now in
    let i = c.loop-times.times-index in
    let test = is_counted counts in
    let before = filter test (range_with_len 0 i) in
    let here = c.loop-times.invariant in
    elim c.if-times-gt0.branch [
      | then-times-gt0 w ↦
          let passes : test i ≡ true = some_count (get_or counts i 0) w.if-times-gt0.true in
          let more : length (filter test (range_with_len 0 (i + 1))) ≡ length before + 1 = ap length (filter_more test i passes) ∙ length_push before i in
          let share : w.from.result * (w.digits.result + 6) ≡ pick_share counts i = ap₂ (λ (a b : ℕ). a * (b + 6)) w.from.ensures (w.digits.ensures.count ∙ ap (λ n. length (decimal n)) here.place) in
          let times : w.from.result ≤ 65280 = omega (arith, w.from.ensures, c.requires.few i 0 c.loop-times-test.true) in
          let most : w.from.result * (w.digits.result + 6) ≤ 65280 * (w.digits.result + 6) = mul-le-mul_right (w.digits.result + 6) times in
          record {
            place = omega (arith, w.place-is, here.place, more);
            few_places = omega (arith, w.place-is, here.few_places);
            bytes = omega (arith, w.bytes-is, here.bytes, pick_more counts i, share);
            few = omega (arith, w.bytes-is, here.few, most, w.digits.ensures.few);
          }
      | else-times-gt0 w ↦
          let fails : test i ≡ false = no_count (get_or counts i 0) w.if-times-gt0.false in
          record {
            place = omega (arith, w.place-is, here.place, ap length (filter_kept test i fails));
            few_places = omega (arith, w.place-is, here.few_places);
            bytes = omega (arith, w.bytes-is, here.bytes, pick_more counts i, no_share counts i w.if-times-gt0.false);
            few = omega (arith, w.bytes-is, here.few);
          }
    ]

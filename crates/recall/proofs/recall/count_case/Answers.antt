use Rattle.std.proofs.Common.{ℕ, ◌<◌, List, length, refl, ap, ◌∙◌, arith}
use Rattle.desk_model.specs.Completion.{with_picked}
use Rattle.measure_laws.specs.Prefixes.{only_second}
use Rattle.measure_core.specs.Lists.{times}
use Rattle.measure_core.proofs.Splitting.{all_taken}
use Rattle.recall.proofs.Led.{least_length, least_times}
use Rattle.recall.proofs.recall.count_case.Goals as goal

pub count_own-own-requires-clause-room : goal.count_own-own-requires-clause-room
count_own-own-requires-clause-room c = λ d lt.
    let marks = c.args.ranked.now.marks.now in
    let own = all_taken marks (with_picked marks (only_second c.args.k c.args.ranked.now.a.now c.args.ranked.now.b.now)) (length marks) refl in
    omega (arith, c.requires.room d lt, ap (λ (l : List ℕ). times l d) own, least_times c.args.k marks c.args.ranked.now.a.now c.args.ranked.now.b.now d)

pub count_led-requires-clause-own : goal.count_led-requires-clause-own
count_led-requires-clause-own c =
    let marks = c.args.ranked.now.marks.now in
    c.count_own-own.ensures.count ∙ ap (λ (l : List ℕ). length l) (all_taken marks (with_picked marks (only_second c.args.k c.args.ranked.now.a.now c.args.ranked.now.b.now)) (length marks) refl)

pub count_led-requires-clause-room : goal.count_led-requires-clause-room
count_led-requires-clause-room c = λ d lt.
    let marks = c.args.ranked.now.marks.now in
    let own = all_taken marks (with_picked marks (only_second c.args.k c.args.ranked.now.a.now c.args.ranked.now.b.now)) (length marks) refl in
    let before : d < length c.args.counts.now = omega (arith, lt, c.count_own-own.auto.counts) in
    omega (arith, c.requires.room d before, c.count_own-own.ensures.counts d before, ap (λ (l : List ℕ). times l d) own, least_times c.args.k marks c.args.ranked.now.a.now c.args.ranked.now.b.now d)

pub returns-clause-count : goal.returns-clause-count
returns-clause-count c =
    let marks = c.args.ranked.now.marks.now in
    let own = all_taken marks (with_picked marks (only_second c.args.k c.args.ranked.now.a.now c.args.ranked.now.b.now)) (length marks) refl in
    omega (arith, c.count_own-own.ensures.count, ap (λ (l : List ℕ). length l) own, c.count_led.ensures.count, least_length c.args.k marks c.args.ranked.now.a.now c.args.ranked.now.b.now)

pub returns-clause-counts : goal.returns-clause-counts
returns-clause-counts c = λ d before.
    let marks = c.args.ranked.now.marks.now in
    let own = all_taken marks (with_picked marks (only_second c.args.k c.args.ranked.now.a.now c.args.ranked.now.b.now)) (length marks) refl in
    let later : d < length c.count_own-own.new.counts = omega (arith, before, c.count_own-own.auto.counts) in
    omega (arith, c.count_own-own.ensures.counts d before, c.count_led.ensures.counts d later, ap (λ (l : List ℕ). times l d) own, least_times c.args.k marks c.args.ranked.now.a.now c.args.ranked.now.b.now d)

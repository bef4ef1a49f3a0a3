use Rattle.std.proofs.Common.{◌≡◌, ℕ, ◌-◌, ◌<◌, length, ap, arith}
use Rattle.measure_laws.specs.Classes.{judged_count}
use Rattle.measure_core.specs.Lists.{times}
use Rattle.rprec.specs.Picks.{others}
use Rattle.rprec.proofs.Shares.{greedy_length, greedy_times}
use Rattle.rprec.proofs.lists.count_chosen.Goals as goal

pub count_own-own-requires-clause-room : goal.count_own-own-requires-clause-room
count_own-own-requires-clause-room c = λ d lt.
    let marks = c.args.ranked.now.marks.now in
    let count = c.args.count in
    let m = count - c.args.all.relevant in
    let is : m ≡ count - judged_count marks = omega (arith, c.requires.topic.relevant) in
    omega (arith, c.requires.room d lt, greedy_times marks c.args.ranked.now.a.now c.args.ranked.now.b.now count m d is)

pub count_others-requires-clause-room : goal.count_others-requires-clause-room
count_others-requires-clause-room c = λ d lt.
    let marks = c.args.ranked.now.marks.now in
    let a = c.args.ranked.now.a.now in
    let b = c.args.ranked.now.b.now in
    let count = c.args.count in
    let m = count - c.args.all.relevant in
    let is : m ≡ count - judged_count marks = omega (arith, c.requires.topic.relevant) in
    let before : d < length c.args.counts.now = omega (arith, lt, c.count_own-own.auto.counts) in
    omega (arith, c.requires.room d before, c.count_own-own.ensures.counts d before, greedy_times marks a b count m d is, ap (λ (k : ℕ). times (others count (m - k) marks a b) d) c.count_own-own.ensures.count)

pub returns-clause-count : goal.returns-clause-count
returns-clause-count c =
    let marks = c.args.ranked.now.marks.now in
    let a = c.args.ranked.now.a.now in
    let b = c.args.ranked.now.b.now in
    let count = c.args.count in
    let m = count - c.args.all.relevant in
    let is : m ≡ count - judged_count marks = omega (arith, c.requires.topic.relevant) in
    omega (arith, c.count_own-own.ensures.count, c.count_others.ensures.count, greedy_length marks a b count m is, ap (λ (k : ℕ). length (others count (m - k) marks a b)) c.count_own-own.ensures.count)

pub returns-clause-counts : goal.returns-clause-counts
returns-clause-counts c = λ d before.
    let marks = c.args.ranked.now.marks.now in
    let a = c.args.ranked.now.a.now in
    let b = c.args.ranked.now.b.now in
    let count = c.args.count in
    let m = count - c.args.all.relevant in
    let is : m ≡ count - judged_count marks = omega (arith, c.requires.topic.relevant) in
    let later : d < length c.count_own-own.new.counts = omega (arith, before, c.count_own-own.auto.counts) in
    omega (arith, c.count_own-own.ensures.counts d before, c.count_others.ensures.counts d later, greedy_times marks a b count m d is, ap (λ (k : ℕ). times (others count (m - k) marks a b) d) c.count_own-own.ensures.count)

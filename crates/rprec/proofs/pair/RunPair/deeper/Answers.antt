use Rattle.std.proofs.Common.{◌≡◌, ℕ, ◌+◌, ◌-◌, arith, ap, ◌∙◌}
use Rattle.rprec.specs.declared.prefixes.Packed.{Packed}
use Rattle.rprec.specs.Packed.{pack}
use Rattle.rprec.specs.Sums.{prefixes}
use Rattle.rprec.proofs.Counts.{number_adds, sum_more}
use Rattle.rprec.proofs.Pairs.{first_few, first_packed, of_numbers, second_few, second_packed}
use Rattle.rprec.proofs.pair.RunPair.deeper.Goals as goal

pub overflow_add-result : goal.overflow_add-result
overflow_add-result c =
    let p = c.args.self.now in
    let d = c.args.depth in
    omega (arith, ap (λ (n : Packed). n.first) c.requires.packed, first_packed p d c.args.self.now.is (omega (arith, c.args.self.now.is.few, c.requires.depth)), number_adds p.marks.now p.a.now d c.next_number-one.result c.next_number-one.ensures, first_few p (d + 1) c.args.self.now.is)

pub overflow_add-result-2 : goal.overflow_add-result-2
overflow_add-result-2 c =
    let p = c.args.self.now in
    let d = c.args.depth in
    omega (arith, ap (λ (n : Packed). n.second) c.requires.packed, second_packed p d c.args.self.now.is (omega (arith, c.args.self.now.is.few, c.requires.depth)), number_adds p.marks.now p.b.now d c.next_number-two.result c.next_number-two.ensures, second_few p (d + 1) c.args.self.now.is)

pub overflow_sub-result : goal.overflow_sub-result
overflow_sub-result c =
    let p = c.args.self.now in
    let d = c.args.depth in
    let here = first_packed p d c.args.self.now.is (omega (arith, c.args.self.now.is.few, c.requires.depth)) in
    let next = first_packed p (d + 1) c.args.self.now.is (omega (arith, c.args.self.now.is.few, c.requires.depth)) in
    omega (arith, ap (λ (n : Packed). n.first) c.requires.packed, here, next, number_adds p.marks.now p.a.now d c.next_number-one.result c.next_number-one.ensures, sum_more p.shared.now d, c.from-both.ensures)

pub overflow_sub-result-2 : goal.overflow_sub-result-2
overflow_sub-result-2 c =
    let p = c.args.self.now in
    let d = c.args.depth in
    let here = second_packed p d c.args.self.now.is (omega (arith, c.args.self.now.is.few, c.requires.depth)) in
    let next = second_packed p (d + 1) c.args.self.now.is (omega (arith, c.args.self.now.is.few, c.requires.depth)) in
    omega (arith, ap (λ (n : Packed). n.second) c.requires.packed, here, next, number_adds p.marks.now p.b.now d c.next_number-two.result c.next_number-two.ensures, sum_more p.shared.now d, c.from-both.ensures)

pub returns : goal.returns
returns c =
    let p = c.args.self.now in
    let d = c.args.depth in
    let both = c.from-both.result in
    let first : c.args.packed.first + c.next_number-one.result - both ≡ pack (prefixes p (d + 1)).first =
    omega (
      arith,
      ap (λ (n : Packed). n.first) c.requires.packed,
      first_packed p d c.args.self.now.is (omega (arith, c.args.self.now.is.few, c.requires.depth)),
      first_packed p (d + 1) c.args.self.now.is (omega (arith, c.args.self.now.is.few, c.requires.depth)),
      number_adds p.marks.now p.a.now d c.next_number-one.result c.next_number-one.ensures,
      sum_more p.shared.now d,
      c.from-both.ensures,
    ) in
    let second : c.args.packed.second + c.next_number-two.result - both ≡ pack (prefixes p (d + 1)).second =
    omega (
      arith,
      ap (λ (n : Packed). n.second) c.requires.packed,
      second_packed p d c.args.self.now.is (omega (arith, c.args.self.now.is.few, c.requires.depth)),
      second_packed p (d + 1) c.args.self.now.is (omega (arith, c.args.self.now.is.few, c.requires.depth)),
      number_adds p.marks.now p.b.now d c.next_number-two.result c.next_number-two.ensures,
      sum_more p.shared.now d,
      c.from-both.ensures,
    ) in
    ap (λ (n : ℕ). of_numbers n (c.args.packed.second + c.next_number-two.result - both)) first ∙ ap (of_numbers (pack (prefixes p (d + 1)).first)) second

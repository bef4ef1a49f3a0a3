use Rattle.std.proofs.Common.{◌≡◌, ℕ, ◌*◌, ◌-◌, slice_index_or, arith, ap, ◌∙◌}
use Rattle.rprec.specs.Packed.{pack}
use Rattle.rprec.specs.Sums.{prefixes}
use Rattle.rprec.proofs.Pairs.{first_packed, of_numbers, second_packed}
use Rattle.rprec.proofs.pair.RunPair.at_block.Goals as goal

pub overflow_sub-result : goal.overflow_sub-result
overflow_sub-result c =
    let p = c.args.self.now in
    let block = c.args.block in
    omega (arith, c.args.self.now.is.both.each block c.requires, c.args.self.now.is.first.each block (omega (arith, c.requires, c.args.self.now.is.few)), first_packed p (10 * block) c.args.self.now.is (omega (arith, c.requires, c.args.self.now.is.few)))

pub overflow_sub-result-2 : goal.overflow_sub-result-2
overflow_sub-result-2 c =
    let p = c.args.self.now in
    let block = c.args.block in
    omega (arith, c.args.self.now.is.both.each block c.requires, c.args.self.now.is.second.each block (omega (arith, c.requires, c.args.self.now.is.few)), second_packed p (10 * block) c.args.self.now.is (omega (arith, c.requires, c.args.self.now.is.few)))

pub returns : goal.returns
returns c =
    let p = c.args.self.now in
    let block = c.args.block in
    let both = c.args.self.now.is.both.each block c.requires in
    let first : slice_index_or p.first.now.numbers block 0 - slice_index_or p.both.now block 0 ≡ pack (prefixes p (10 * block)).first =
    omega (arith, both, c.args.self.now.is.first.each block (omega (arith, c.requires, c.args.self.now.is.few)), first_packed p (10 * block) c.args.self.now.is (omega (arith, c.requires, c.args.self.now.is.few))) in
    let second : slice_index_or p.second.now.numbers block 0 - slice_index_or p.both.now block 0 ≡ pack (prefixes p (10 * block)).second =
    omega (arith, both, c.args.self.now.is.second.each block (omega (arith, c.requires, c.args.self.now.is.few)), second_packed p (10 * block) c.args.self.now.is (omega (arith, c.requires, c.args.self.now.is.few))) in
    ap (λ (n : ℕ). of_numbers n (slice_index_or p.second.now.numbers block 0 - slice_index_or p.both.now block 0)) first ∙ ap (of_numbers (pack (prefixes p (10 * block)).first)) second

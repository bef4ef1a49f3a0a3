use Rattle.std.proofs.Common.{◌*◌}
use Rattle.every_completion.proofs.Wide.{natural_fits, part_small, product_high, product_is, product_low, read_difference_fits, read_product_fits, small_word, within_word}
use Rattle.every_completion.proofs.walk.scaled.Goals as goal

pub overflow_mul-more : goal.overflow_mul-more
overflow_mul-more c = let x = c.args.x in let y = c.args.y in small_word (x.num * y.den) (within_word _ (part_small x.num y.den x.few y.small))

pub overflow_mul-less : goal.overflow_mul-less
overflow_mul-less c = let x = c.args.x in let y = c.args.y in small_word (y.num * x.den) (within_word _ (part_small y.num x.den y.few x.small))

pub overflow_cast-difference : goal.overflow_cast-difference
overflow_cast-difference c = let x = c.args.x in let y = c.args.y in natural_fits (x.num * y.den) (within_word _ (part_small x.num y.den x.few y.small))

pub overflow_cast-difference-2 : goal.overflow_cast-difference-2
overflow_cast-difference-2 c = let x = c.args.x in let y = c.args.y in natural_fits (y.num * x.den) (within_word _ (part_small y.num x.den y.few x.small))

pub overflow_sub-difference : goal.overflow_sub-difference
overflow_sub-difference c =
    let x = c.args.x in
    let y = c.args.y in
    read_difference_fits (x.num * y.den) (y.num * x.den) (part_small x.num y.den x.few y.small) (part_small y.num x.den y.few x.small)

pub overflow_cast-result : goal.overflow_cast-result
overflow_cast-result c = natural_fits c.args.scale.now.unit c.args.scale.now.short

pub overflow_mul-result : goal.overflow_mul-result
overflow_mul-result c =
    let x = c.args.x in
    let y = c.args.y in
    read_product_fits c.args.scale.now.unit (x.num * y.den) (y.num * x.den) c.args.scale.now.short (part_small x.num y.den x.few y.small) (part_small y.num x.den y.few x.small)

pub returns-clause-value : goal.returns-clause-value
returns-clause-value c =
    let x = c.args.x in
    let y = c.args.y in
    product_is c.args.scale.now.unit (x.num * y.den) (y.num * x.den) c.args.scale.now.short (part_small x.num y.den x.few y.small) (part_small y.num x.den y.few x.small)

pub returns-clause-low : goal.returns-clause-low
returns-clause-low c =
    let x = c.args.x in
    let y = c.args.y in
    product_low c.args.scale.now.unit (x.num * y.den) (y.num * x.den) c.args.scale.now.short (part_small x.num y.den x.few y.small) (part_small y.num x.den y.few x.small)

pub returns-clause-high : goal.returns-clause-high
returns-clause-high c =
    let x = c.args.x in
    let y = c.args.y in
    product_high c.args.scale.now.unit (x.num * y.den) (y.num * x.den) c.args.scale.now.short (part_small x.num y.den x.few y.small) (part_small y.num x.den y.few x.small)

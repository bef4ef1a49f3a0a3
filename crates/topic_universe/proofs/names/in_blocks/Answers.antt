use Rattle.std.proofs.Common.{◌≡◌, ◌-◌, ◌*◌, length, map, take, drop, ap, sym, ◌∙◌, arith, length-drop}
use Rattle.std.proofs.lemmas.List.{take_all}
use Rattle.name_table.specs.declared.blocked_names.TheConstants.{BLOCK_NAMES}
use Rattle.name_table.proofs.Blocks.{all_blocks}
use Rattle.topic_universe.proofs.Placing.{name_of}
use Rattle.topic_universe.proofs.names.in_blocks.Goals as goal

pub returns : goal.returns
returns c =
    let pairs = c.args.pairs.now in
    let blocks = c.in_ok-whole.whole.items in
    let n = BLOCK_NAMES * c.len.result in
    let count : c.len.result ≡ length blocks = omega (arith, c.len.ensures) in
    let rest = take_all (length pairs - n) (drop n pairs) (omega (arith, length-drop n pairs)) in
    let left : c.in_ok-last.last ≡ map name_of (drop n pairs) = c.in_ok-last.ensures ∙ ap (map name_of) rest in
    let named = c.in_ok-whole.ensures.names ∙ ap (λ k. map name_of (take (BLOCK_NAMES * k) pairs)) (sym count) in
    c.of.ensures ∙ all_blocks (λ block. block) name_of pairs blocks c.in_ok-last.last n named left

use Rattle.std.proofs.Common.{◌≡◌, ◌≤◌, ◌+◌, ◌-◌, ◌*◌, ℕ, List, ◌++◌, ◌∷◌, [], length, map, drop, ap, sym, subst, ◌∙◌, arith, length-take, length-drop}
use Rattle.std.specs.Prelude.{All, flat_map, slice_range}
use Rattle.std.proofs.lemmas.List.{length-map, length_push}
use Rattle.std.proofs.lemmas.List.Elements.{All-push}
use Rattle.name_table.specs.declared.blocked_names.TheConstants.{BLOCK_NAMES}
use Rattle.name_table.proofs.Blocks.{one_block_more}
use Rattle.topic_universe.proofs.Placing.{name_of}
use Rattle.topic_universe.proofs.names.whole_blocks.Goals as goal

pub loop-block-preserved : goal.loop-block-preserved
loop-block-preserved c =
    let pairs = c.args.pairs.now in
    let k = c.loop-block.block in
    let start = BLOCK_NAMES * k in
    let blocks = c.loop-block.blocks.items in
    let block = c.in_ok-in_one_row.field-0 in
    let within : start + BLOCK_NAMES ≤ length pairs = omega (arith, c.loop-block-test.true) in
    let next : block ≡ map name_of (slice_range pairs start (start + BLOCK_NAMES)) = c.in_ok-in_one_row.ensures in
    let size : length block ≡ BLOCK_NAMES =
    ap length next ∙ length-map (slice_range pairs start (start + BLOCK_NAMES)) name_of
    ∙ omega (arith, length-take (start + BLOCK_NAMES - start) (drop start pairs), length-drop start pairs, within) in
    let pushed : c.push.new.self.items ≡ blocks ++ block ∷ [] = c.in_ok-push.ensures.items in
    record {
      count = omega (arith, ap length pushed, length_push blocks block, c.loop-block.invariant.count);
      whole = subst (All (λ (block : List (List ℕ)). length block ≡ BLOCK_NAMES)) (sym pushed) (All-push (λ block. length block ≡ BLOCK_NAMES) blocks block c.loop-block.invariant.whole size);
      names = ap (flat_map (λ block. block)) pushed ∙ one_block_more (λ block. block) name_of pairs blocks block k within c.loop-block.invariant.names next;
    }

use Rattle.std.proofs.Common.{◌≡◌, ◌*◌, length, map, take}
use Rattle.std.specs.Prelude.{All, flat_map}
use Rattle.name_table.specs.declared.blocked_names.TheConstants.{BLOCK_NAMES}
use Rattle.topic_universe.proofs.Placing.{name_of}
use Rattle.topic_universe.proofs.names.whole_blocks.Given as goal

abbrev pub invariant-loop-block : goal.invariant-loop-block
invariant-loop-block l = record {
  count : length l.blocks.items ≡ l.block;
  whole : All (λ block. length block ≡ BLOCK_NAMES) l.blocks.items;
  names : flat_map (λ block. block) l.blocks.items ≡ map name_of (take (BLOCK_NAMES * l.block) l.pairs);
}

use Rattle.std.proofs.Common.{◌≡◌, ◌≤◌, ◌+◌, ◌-◌, ◌*◌, Option, ℤ, ◌++◌, ◌∷◌, [], length, map, drop, ap, sym, subst, ◌∙◌, arith, length-take, length-drop}
use Rattle.std.specs.Prelude.{Vec, slice_range}
use Rattle.std.specs.declared.alloc.Global.{Global}
use Rattle.std.proofs.lemmas.List.{length-map, length_push}
use Rattle.std.proofs.lemmas.List.Elements.{All-drop, All-push, All-take}
use Rattle.name_table.specs.declared.blocked_names.TheConstants.{BLOCK_NAMES}
use Rattle.name_table.proofs.Blocks.{one_block_more}
use Rattle.desk_model.specs.FileGrades.{grades_of, AreWhole}
use Rattle.file_rows.specs.Grouped.{rows_at}
use Rattle.topic_universe.specs.Sorted.{Numbered}
use Rattle.topics_pool.specs.Made.{IsNumberedAfter}
use Rattle.topics_pool.specs.Rows.{grade_in}
use Rattle.topics_pool.proofs.book.whole_blocks.Goals as goal

pub listed_grades-requires : goal.listed_grades-requires
listed_grades-requires c =
    let numbered = λ (doc : Numbered). IsNumberedAfter (rows_at c.args.qrels.now c.args.t) doc.0.now doc.1 in
    let start = BLOCK_NAMES * c.loop-block.block in
    record {
      topic = c.requires.topic;
      numbers = All-take numbered (start + BLOCK_NAMES - start) (drop start c.args.docs.now) (All-drop numbered start c.args.docs.now c.requires.numbers);
    }

pub loop-block-preserved : goal.loop-block-preserved
loop-block-preserved c =
    let items = λ (block : Vec (Option ℤ) Global). block.items in
    let grade = λ (doc : Numbered). grade_in (rows_at c.args.qrels.now c.args.t) doc.0.now in
    let docs = c.args.docs.now in
    let k = c.loop-block.block in
    let start = BLOCK_NAMES * k in
    let blocks = c.loop-block.blocks.items in
    let block = c.in_ok-listed_grades.field-0 in
    let within : start + BLOCK_NAMES ≤ length docs = omega (arith, c.loop-block-test.true) in
    let next : block.items ≡ map grade (slice_range docs start (start + BLOCK_NAMES)) = c.in_ok-listed_grades.ensures in
    let size : length block.items ≡ BLOCK_NAMES =
    ap length next ∙ length-map (slice_range docs start (start + BLOCK_NAMES)) grade
    ∙ omega (arith, length-take (start + BLOCK_NAMES - start) (drop start docs), length-drop start docs, within) in
    let pushed : c.push.new.self.items ≡ blocks ++ block ∷ [] = c.in_ok-push.ensures.items in
    record {
      count = omega (arith, ap length pushed, length_push blocks block, c.loop-block.invariant.count);
      whole = subst AreWhole (sym pushed) (All-push (λ (block : Vec (Option ℤ) Global). length block.items ≡ BLOCK_NAMES) blocks block c.loop-block.invariant.whole size);
      grades = ap grades_of pushed ∙ one_block_more items grade docs blocks block k within c.loop-block.invariant.grades next;
    }

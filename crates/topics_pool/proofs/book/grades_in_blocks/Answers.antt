use Rattle.std.proofs.Common.{◌≡◌, ◌-◌, ◌*◌, Option, ℤ, length, map, take, drop, ap, sym, ◌∙◌, arith, length-drop}
use Rattle.std.specs.Prelude.{Vec}
use Rattle.std.specs.declared.alloc.Global.{Global}
use Rattle.std.proofs.lemmas.List.{take_all}
use Rattle.std.proofs.lemmas.List.Elements.{All-drop, All-take}
use Rattle.name_table.specs.declared.blocked_names.TheConstants.{BLOCK_NAMES}
use Rattle.name_table.proofs.Blocks.{all_blocks}
use Rattle.file_rows.specs.Grouped.{rows_at}
use Rattle.topic_universe.specs.Sorted.{Numbered}
use Rattle.topics_pool.specs.Made.{IsNumberedAfter}
use Rattle.topics_pool.specs.Rows.{grade_in}
use Rattle.topics_pool.proofs.book.grades_in_blocks.Goals as goal

pub listed_grades-requires : goal.listed_grades-requires
listed_grades-requires c =
    let numbered = λ (doc : Numbered). IsNumberedAfter (rows_at c.args.qrels.now c.args.t) doc.0.now doc.1 in
    let docs = c.args.docs.now in
    let start = BLOCK_NAMES * c.len.result in
    record {
      topic = c.requires.topic;
      numbers = All-take numbered (length docs - start) (drop start docs) (All-drop numbered start docs c.requires.numbers);
    }

pub returns : goal.returns
returns c =
    let grade = λ (doc : Numbered). grade_in (rows_at c.args.qrels.now c.args.t) doc.0.now in
    let docs = c.args.docs.now in
    let blocks = c.in_ok-whole.whole.items in
    let n = BLOCK_NAMES * c.len.result in
    let count : c.len.result ≡ length blocks = omega (arith, c.len.ensures) in
    let rest = take_all (length docs - n) (drop n docs) (omega (arith, length-drop n docs)) in
    let left : c.in_ok-last.last.items ≡ map grade (drop n docs) = c.in_ok-last.ensures ∙ ap (map grade) rest in
    let graded = c.in_ok-whole.ensures.grades ∙ ap (λ k. map grade (take (BLOCK_NAMES * k) docs)) (sym count) in
    c.of.ensures ∙ all_blocks (λ (block : Vec (Option ℤ) Global). block.items) grade docs blocks c.in_ok-last.last.items n graded left

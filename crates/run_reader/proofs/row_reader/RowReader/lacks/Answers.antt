use Rattle.std.proofs.Common.{true, sym, ap, ◌≡◌, ◌∙◌}
use Rattle.std.specs.Prelude.{not}
use Rattle.file_rows.specs.Grouped.{is_topic}
use Rattle.run_reader.proofs.Places.{placed_has}
use Rattle.run_reader.proofs.row_reader.RowReader.lacks.Goals as goal

pub returns-in-Some : goal.returns-in-Some
returns-in-Some c =
    ap not (sym (placed_has (λ name. is_topic name c.args.self.now.beside.qrels.now ≡ true) c.args.topic.now c.args.self.now.gathered.kept _ c.requires.sound.known (sym c.requires.place ∙ c.in-Some.is)))

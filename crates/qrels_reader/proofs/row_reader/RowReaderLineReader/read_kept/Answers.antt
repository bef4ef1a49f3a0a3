use Rattle.std.proofs.Common.{◌++◌, ◌∷◌, [], List, ℕ, Bor, ap, sym, subst, ◌∙◌}
use Rattle.std.specs.Prelude.{option_map}
use Rattle.qrels_reader.specs.Reader.{HasRead}
use Rattle.file_rows.proofs.PieceLines.{kept_is, long_line}
use Rattle.qrels_reader.proofs.row_reader.RowReaderLineReader.read_kept.Goals as goal

pub returns-in-Some-clause-read : goal.returns-in-Some-clause-read
returns-in-Some-clause-read c before line e h =
    let same = kept_is line c.in-Some.line.now (sym e ∙ ap (option_map (λ (bytes : Bor (List ℕ)). bytes.now)) c.in-Some.is) in
    subst (λ text. HasRead c.read.new.self.fault c.read.new.self (before ++ text ∷ [])) (sym same) (c.read.ensures.read before h)

pub returns-in-None-clause-read : goal.returns-in-None-clause-read
returns-in-None-clause-read c before line e h =
    c.read_long.ensures before line (long_line line (sym (ap (option_map (λ (bytes : Bor (List ℕ)). bytes.now)) c.in-None.is) ∙ e)) h

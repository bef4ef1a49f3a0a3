use Rattle.std.proofs.Common.{◌≡◌, true, sym, subst, inl, inr}
use Rattle.std.specs.Prelude.{All, IfOk}
use Rattle.desk_text.specs.Lines.{lines}
use Rattle.file_rows.specs.Reading.{IsUnlessMemory}
use Rattle.file_rows.specs.Grouped.{is_topic, names_of}
use Rattle.run_reader.specs.Reader.{HasRead, IsReady, name_in}
use Rattle.run_reader.proofs.Progress.{finished, finished_run, finished_name, told}
use Rattle.run_reader.proofs.Right.{known_run}
use Rattle.run_reader.proofs.row_reader.RowReader.finish.Goals as goal

pub returns-in-Some-clause-run : goal.returns-in-Some-clause-run
returns-in-Some-clause-run c = told c.args.self c.args.fed.now.bytes c.in-Some.fault (subst (λ f. HasRead f c.args.self (lines c.args.fed.now.bytes)) c.in-Some.is c.requires.read)

pub run-requires-clause-sound : goal.run-requires-clause-sound
run-requires-clause-sound c = subst (λ f. IsReady f c.args.self) c.in-None.is c.requires.ready

pub run-requires-clause-name : goal.run-requires-clause-name
run-requires-clause-name c = finished_name c.args.self c.args.fed.now.bytes (subst (λ f. HasRead f c.args.self (lines c.args.fed.now.bytes)) c.in-None.is c.requires.read) c.requires.name

pub run-requires-clause-kept : goal.run-requires-clause-kept
run-requires-clause-kept c = finished_run c.args.self c.args.fed.now.bytes (subst (λ f. HasRead f c.args.self (lines c.args.fed.now.bytes)) c.in-None.is c.requires.read)

pub returns-in-None-clause-run : goal.returns-in-None-clause-run
returns-in-None-clause-run c =
    subst (IsUnlessMemory c.run.result) (finished c.args.self c.args.fed.now.bytes (subst (λ f. HasRead f c.args.self (lines c.args.fed.now.bytes)) c.in-None.is c.requires.read)) c.run.ensures

pub returns-in-None-clause-known : goal.returns-in-None-clause-known
returns-in-None-clause-known c =
    let sound = subst (λ f. IsReady f c.args.self) c.in-None.is c.requires.ready in
    elim c.run.ensures [
      | inl w ↦ subst (λ r. IfOk r (λ run. All (λ name. is_topic name c.args.self.beside.qrels.now ≡ true) (names_of run.topics))) (sym w) tt
      | inr w ↦ subst (λ r. IfOk r (λ run. All (λ name. is_topic name c.args.self.beside.qrels.now ≡ true) (names_of run.topics))) (sym w) (known_run c.args.self.beside.qrels.now (name_in c.args.self) c.args.self.beside.used c.args.self.gathered.kept sound.known)
    ]

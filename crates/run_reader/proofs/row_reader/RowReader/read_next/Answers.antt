use Rattle.std.proofs.Common.{◌≡◌, ℕ, ◌+◌, List, true, false, cond, refl, subst, sym, ap, ap₂, ◌∙◌, inl}
use Rattle.std.specs.Prelude.{Option, Some, unwrap_or, Result, Ok, Err, OnOk, IsErrAnd}
use Rattle.std.proofs.lemmas.Result.{IfOk-from_err, on_ok_weaker}
use Rattle.desk_text.specs.Lines.{is_blank}
use Rattle.file_rows.specs.Rows.{Row}
use Rattle.file_rows.specs.Grouped.{TopicRows}
use Rattle.file_rows.specs.declared.fault.FileFault.{FileFault}
use Rattle.file_rows.specs.declared.fault.FileFault.TheVariants.{Memory}
use Rattle.run_reader.specs.declared.used.Used.{Used}
use Rattle.run_reader.specs.declared.row_reader.RowReader.{RowReader}
use Rattle.run_reader.specs.Rows.{tag_of}
use Rattle.run_reader.specs.Reader.{row_said, given_in, given_or, name_in, name_after, IsTracked, IsSound, ReadsLine}
use Rattle.desk_model.specs.Name.{is_name}
use Rattle.run_reader.proofs.Right.{named_form}
use Rattle.run_reader.proofs.Chains.{read_blank, read_misformed, read_said}
use Rattle.run_reader.proofs.row_reader.RowReader.read_next.Goals as goal

pub returns-in_ok-take_name-in-Ok-clause-read : goal.returns-in_ok-take_name-in-Ok-clause-read
returns-in_ok-take_name-in-Ok-clause-read c rows e =
    let before = c.args.self.now in
    let taken = c.take_name.new.self in
    let step = c.in_ok-take_name-in-Ok.ensures in
    let kept : taken.gathered.kept ≡ before.gathered.kept = ap (λ g. g.kept) step.gathered in
    let read = read_said taken.beside.qrels.now taken.beside.used taken.lines rows c.args.line.now (row_said c.in-Ok.row) taken.gathered.kept c.add.new.self.gathered.kept c.add.result
    (sym c.is_blank.ensures ∙ c.if-is_blank.false) (sym c.in-Ok.ensures.row) (kept ∙ e) c.add.ensures.dropped c.add.ensures.right c.add.ensures.added c.add.ensures.wrong in
    subst (λ b. ReadsLine b.qrels.now b.used (before.lines + 1) rows c.args.line.now c.add.result c.add.new.self.gathered.kept) step.beside
    (subst (λ n. ReadsLine taken.beside.qrels.now taken.beside.used n rows c.args.line.now c.add.result c.add.new.self.gathered.kept) step.lines read)

-- a reader with what a sound one has is sound
sound_as : (old new : RowReader) → new.beside ≡ old.beside → new.gathered ≡ old.gathered → IsSound old → IsSound new
sound_as old new beside gathered sound = record {
  tracked = subst IsTracked (sym gathered) sound.tracked;
  known = rw (beside, gathered) sound.known;
  few = rw (beside, gathered) sound.few;
  small = rw (beside, gathered) sound.small;
}

reads_in_memory : (qrels : List TopicRows) (used : Used) (number : ℕ) (rows : List Row) (line : List ℕ) (r : Result (Unit {0}) FileFault) (topics : List TopicRows) → IsErrAnd r (λ e. e ≡ Memory) → ReadsLine qrels used number rows line r topics
reads_in_memory qrels used number rows line (Ok done) topics is = absurd is
reads_in_memory qrels used number rows line (Err e) topics is = inl is

name_after_blank : (name : Option (List ℕ)) (line : List ℕ) → is_blank line ≡ true → name ≡ name_after name line
name_after_blank name line blank = ap (λ b. cond b name (Some (unwrap_or name (tag_of line)))) (sym blank)

name_after_row : (name : Option (List ℕ)) (line tag : List ℕ) → is_blank line ≡ false → tag ≡ tag_of line → Some (unwrap_or name tag) ≡ name_after name line
name_after_row name line tag filled is = ap (λ tag. Some (unwrap_or name tag)) is ∙ ap (λ b. cond b name (Some (unwrap_or name (tag_of line)))) (sym filled)

anyway : {T E : Type 0} (r : Result T E) (P : Type 0) → P → OnOk r P
anyway (Ok x) P h = h
anyway (Err e) P h = tt

pub returns-then-self-clause-read : goal.returns-then-self-clause-read
returns-then-self-clause-read c rows e = inl refl

pub returns-then-self-clause-sound : goal.returns-then-self-clause-sound
returns-then-self-clause-sound c = tt

pub returns-then-self-clause-lines : goal.returns-then-self-clause-lines
returns-then-self-clause-lines c = tt

pub returns-then-self-clause-name : goal.returns-then-self-clause-name
returns-then-self-clause-name c = tt

pub returns-then-self-clause-fault : goal.returns-then-self-clause-fault
returns-then-self-clause-fault c = tt

pub returns-then-self-clause-beside : goal.returns-then-self-clause-beside
returns-then-self-clause-beside c = refl

pub returns-then-is_blank-clause-read : goal.returns-then-is_blank-clause-read
returns-then-is_blank-clause-read c rows e = read_blank c.args.self.now.beside.qrels.now c.args.self.now.beside.used (c.args.self.now.lines + 1) rows c.args.line.now c.args.self.now.gathered.kept (sym c.is_blank.ensures ∙ c.if-is_blank.true) e

pub returns-then-is_blank-clause-sound : goal.returns-then-is_blank-clause-sound
returns-then-is_blank-clause-sound c = sound_as c.args.self.now _ refl refl c.requires

pub returns-then-is_blank-clause-name : goal.returns-then-is_blank-clause-name
returns-then-is_blank-clause-name c = name_after_blank (name_in c.args.self.now) c.args.line.now (sym c.is_blank.ensures ∙ c.if-is_blank.true)

pub returns-then-is_blank-clause-lines : goal.returns-then-is_blank-clause-lines
returns-then-is_blank-clause-lines c = refl

pub returns-then-is_blank-clause-beside : goal.returns-then-is_blank-clause-beside
returns-then-is_blank-clause-beside c = refl

pub returns-then-is_blank-clause-fault : goal.returns-then-is_blank-clause-fault
returns-then-is_blank-clause-fault c = refl

pub returns-in_err-take_name-in-Ok-clause-read : goal.returns-in_err-take_name-in-Ok-clause-read
returns-in_err-take_name-in-Ok-clause-read c rows _ = reads_in_memory c.args.self.now.beside.qrels.now c.args.self.now.beside.used (c.args.self.now.lines + 1) rows c.args.line.now c.from_residual.result c.take_name.new.self.gathered.kept c.from_residual.ensures.1

pub returns-in_err-take_name-in-Ok-clause-sound : goal.returns-in_err-take_name-in-Ok-clause-sound
returns-in_err-take_name-in-Ok-clause-sound c = IfOk-from_err c.from_residual.result _ c.from_residual.ensures.0

pub returns-in_err-take_name-in-Ok-clause-lines : goal.returns-in_err-take_name-in-Ok-clause-lines
returns-in_err-take_name-in-Ok-clause-lines c = IfOk-from_err c.from_residual.result _ c.from_residual.ensures.0

pub returns-in_err-take_name-in-Ok-clause-name : goal.returns-in_err-take_name-in-Ok-clause-name
returns-in_err-take_name-in-Ok-clause-name c = IfOk-from_err c.from_residual.result _ c.from_residual.ensures.0

pub returns-in_err-take_name-in-Ok-clause-fault : goal.returns-in_err-take_name-in-Ok-clause-fault
returns-in_err-take_name-in-Ok-clause-fault c = IfOk-from_err c.from_residual.result _ c.from_residual.ensures.0

pub returns-in_err-take_name-in-Ok-clause-beside : goal.returns-in_err-take_name-in-Ok-clause-beside
returns-in_err-take_name-in-Ok-clause-beside c = c.take_name.ensures.beside

pub take_name-requires : goal.take_name-requires
take_name-requires c = subst (λ tag. is_name tag ≡ true) (sym c.in-Ok.ensures.tag) (named_form c.args.line.now (row_said c.in-Ok.row) (sym c.in-Ok.ensures.row)).tag

pub add-requires : goal.add-requires
add-requires c = sound_as c.args.self.now c.take_name.new.self c.in_ok-take_name-in-Ok.ensures.beside c.in_ok-take_name-in-Ok.ensures.gathered c.requires

pub returns-in_ok-take_name-in-Ok-clause-sound : goal.returns-in_ok-take_name-in-Ok-clause-sound
returns-in_ok-take_name-in-Ok-clause-sound c = c.add.ensures.sound

pub returns-in_ok-take_name-in-Ok-clause-lines : goal.returns-in_ok-take_name-in-Ok-clause-lines
returns-in_ok-take_name-in-Ok-clause-lines c = on_ok_weaker c.add.result (λ same. same ∙ c.in_ok-take_name-in-Ok.ensures.lines) c.add.ensures.lines

pub returns-in_ok-take_name-in-Ok-clause-name : goal.returns-in_ok-take_name-in-Ok-clause-name
returns-in_ok-take_name-in-Ok-clause-name c =
    let taken = c.take_name.new.self in
    let read = c.add.new.self in
    let same : name_in read ≡ name_in taken = ap₂ (λ beside tag. given_or (given_in beside) tag) c.add.ensures.beside c.add.ensures.tag in
    anyway c.add.result (name_in read ≡ name_after (name_in c.args.self.now) c.args.line.now)
    (same ∙ c.in_ok-take_name-in-Ok.ensures.name ∙ name_after_row (name_in c.args.self.now) c.args.line.now c.in-Ok.row.tag.now (sym c.is_blank.ensures ∙ c.if-is_blank.false) c.in-Ok.ensures.tag)

pub returns-in_ok-take_name-in-Ok-clause-beside : goal.returns-in_ok-take_name-in-Ok-clause-beside
returns-in_ok-take_name-in-Ok-clause-beside c = c.add.ensures.beside ∙ c.in_ok-take_name-in-Ok.ensures.beside

pub returns-in_ok-take_name-in-Ok-clause-fault : goal.returns-in_ok-take_name-in-Ok-clause-fault
returns-in_ok-take_name-in-Ok-clause-fault c = anyway c.add.result (c.add.new.self.fault ≡ c.args.self.now.fault) (c.add.ensures.fault ∙ c.in_ok-take_name-in-Ok.ensures.fault)

pub returns-in-Err-clause-read : goal.returns-in-Err-clause-read
returns-in-Err-clause-read c rows _ = read_misformed c.args.self.now.beside.qrels.now c.args.self.now.beside.used (c.args.self.now.lines + 1) rows c.args.line.now c.in-Err.fault c.args.self.now.gathered.kept (sym c.is_blank.ensures ∙ c.if-is_blank.false) (sym c.in-Err.ensures.row)

pub returns-in-Err-clause-sound : goal.returns-in-Err-clause-sound
returns-in-Err-clause-sound c = tt

pub returns-in-Err-clause-lines : goal.returns-in-Err-clause-lines
returns-in-Err-clause-lines c = tt

pub returns-in-Err-clause-name : goal.returns-in-Err-clause-name
returns-in-Err-clause-name c = tt

pub returns-in-Err-clause-fault : goal.returns-in-Err-clause-fault
returns-in-Err-clause-fault c = tt

pub returns-in-Err-clause-beside : goal.returns-in-Err-clause-beside
returns-in-Err-clause-beside c = refl

use Rattle.std.proofs.Common.{◌≡◌, ◌+◌, ◌≤◌, ◌⊎◌, List, true, false, refl, ap, sym, subst, ◌∙◌, inl, inr, length, arith}
use Rattle.std.specs.Prelude.{Bool, not, All, OnOk, IfErr, IsErrAnd, Result, Ok, Err, if◌then◌else◌}
use Rattle.std.proofs.lemmas.Bool.{not-false}
use Rattle.std.proofs.lemmas.Result.{IfOk-from_err}
use Rattle.file_rows.specs.Grouped.{is_topic, rows_in, stands_in, TopicRows}
use Rattle.file_rows.specs.Reading.{checked}
use Rattle.file_rows.specs.Rows.{Row}
use Rattle.file_rows.specs.declared.fault.FileFault.{FileFault}
use Rattle.file_rows.specs.declared.fault.FileFault.TheVariants.{Memory}
use Rattle.file_rows.specs.declared.fault.LineFault.{LineFault}
use Rattle.file_rows.specs.declared.fault.LineFault.TheVariants.{RepeatedDocument}
use Rattle.run_reader.specs.declared.used.Used.{Used}
use Rattle.run_reader.specs.declared.gathered.Gathered.{Gathered}
use Rattle.run_reader.specs.declared.row_reader.RowReader.{RowReader}
use Rattle.run_reader.specs.Run.{limits_after, faults_after}
use Rattle.file_rows.specs.declared.limits.TheConstants.{MOST_NAME_BYTES}
use Rattle.run_reader.specs.declared.limits.TheConstants.{MOST_RUN_ROWS}
use Rattle.file_rows.specs.Grouped.{names_of, place_of, row_count, name_bytes_in, with_row_on}
use Rattle.run_reader.specs.Reader.{row_said, IsSound, IsTracked}
use Rattle.file_rows.proofs.Grouping.{row_count-with_row, name_bytes_in-with_row}
use Rattle.run_reader.proofs.Places.{names_with}
use Rattle.run_reader.proofs.row_reader.RowReader.add.Goals as goal

-- the first fault after the topics, where these stay
first_told : {looked kept : List TopicRows} {room first : Result (Unit {0}) LineFault} (used : Used) (row : Row) → looked ≡ kept → room ≡ checked (limits_after used looked row)
    → first ≡ (if stands_in row.document (rows_in row.topic looked) then Err RepeatedDocument else room) → first ≡ checked (faults_after used kept row)
first_told {looked} used row same e f =
    f ∙ ap (λ r. if stands_in row.document (rows_in row.topic looked) then Err RepeatedDocument else r) e ∙ ap (λ ts. checked (faults_after used ts row)) same

-- a row without a fault passes no limit
passes_none : (repeated : Bool) (room first : Result (Unit {0}) LineFault) (done : Unit {0}) → first ≡ (if repeated then Err RepeatedDocument else room) → first ≡ Ok done → room ≡ Ok done
passes_none false room first done is fine = sym is ∙ fine
passes_none true room first done is fine = let no : Err RepeatedDocument ≡ Ok done = sym is ∙ fine in absurd (cc)

-- a reader stays sound while the topics stay
still_sound : (reader : RowReader) (gathered : Gathered) → gathered.kept ≡ reader.gathered.kept → IsTracked gathered → IsSound reader → IsSound (record reader { gathered = gathered })
still_sound reader gathered same tracked sound = record {
  tracked = tracked;
  known = subst (λ ts. All (λ name. is_topic name reader.beside.qrels.now ≡ true) (names_of ts)) (sym same) sound.known;
  few = subst (λ ts. reader.beside.used.rows + row_count ts ≤ MOST_RUN_ROWS) (sym same) sound.few;
  small = subst (λ ts. reader.beside.used.name_bytes + name_bytes_in ts ≤ MOST_NAME_BYTES) (sym same) sound.small;
}

in_memory : {T : Type 0} (W : FileFault → Type 0) (r : Result T FileFault) → IsErrAnd r (λ e. e ≡ Memory) → IfErr r (λ e. (e ≡ Memory) ⊎ W e)
in_memory W (Ok x) is = tt
in_memory W (Err e) is = inl is

-- the qrels do not both lack a topic and have it
lacks_or_has : {P : Type 0} (lacks has : Bool) → lacks ≡ true → lacks ≡ not has → has ≡ true → P
lacks_or_has lacks has missing is known = let no : true ≡ false = sym missing ∙ is ∙ ap not known in absurd (cc)

has_or_lacks : {P : Type 0} (lacks has : Bool) → lacks ≡ false → lacks ≡ not has → has ≡ false → P
has_or_lacks lacks has there is unknown = let no : false ≡ true = sym there ∙ is ∙ ap not unknown in absurd (cc)

pub place-requires : goal.place-requires
place-requires c = c.requires.tracked

pub returns-in_err-place-clause-dropped : goal.returns-in_err-place-clause-dropped
returns-in_err-place-clause-dropped c = IfOk-from_err c.from_residual.result _ c.from_residual.ensures.0

pub returns-in_err-place-clause-right : goal.returns-in_err-place-clause-right
returns-in_err-place-clause-right c = IfOk-from_err c.from_residual.result _ c.from_residual.ensures.0

pub returns-in_err-place-clause-added : goal.returns-in_err-place-clause-added
returns-in_err-place-clause-added c = IfOk-from_err c.from_residual.result _ c.from_residual.ensures.0

pub returns-in_err-place-clause-sound : goal.returns-in_err-place-clause-sound
returns-in_err-place-clause-sound c = IfOk-from_err c.from_residual.result _ c.from_residual.ensures.0

pub returns-in_err-place-clause-lines : goal.returns-in_err-place-clause-lines
returns-in_err-place-clause-lines c = IfOk-from_err c.from_residual.result _ c.from_residual.ensures.0

pub returns-in_err-place-clause-wrong : goal.returns-in_err-place-clause-wrong
returns-in_err-place-clause-wrong c = in_memory _ c.from_residual.result c.from_residual.ensures.1

pub returns-in_err-place-clause-tag : goal.returns-in_err-place-clause-tag
returns-in_err-place-clause-tag c = refl

pub returns-in_err-place-clause-beside : goal.returns-in_err-place-clause-beside
returns-in_err-place-clause-beside c = refl

pub returns-in_err-place-clause-fault : goal.returns-in_err-place-clause-fault
returns-in_err-place-clause-fault c = refl

pub lacks-requires-clause-sound : goal.lacks-requires-clause-sound
lacks-requires-clause-sound c = still_sound c.args.self.now c.place.new.self c.place.ensures.kept c.in_ok-place.ensures.tracked c.requires

pub lacks-requires-clause-place : goal.lacks-requires-clause-place
lacks-requires-clause-place c = c.in_ok-place.ensures.place ∙ ap (place_of c.args.row.now.topic.now) (sym c.place.ensures.kept)

pub room-room-requires-clause-sound : goal.room-room-requires-clause-sound
room-room-requires-clause-sound c = still_sound c.args.self.now c.place.new.self c.place.ensures.kept c.in_ok-place.ensures.tracked c.requires

pub room-room-requires-clause-place : goal.room-room-requires-clause-place
room-room-requires-clause-place c = c.in_ok-place.ensures.place ∙ ap (place_of c.args.row.now.topic.now) (sym c.place.ensures.kept)

pub returns-then-lacks-clause-dropped : goal.returns-then-lacks-clause-dropped
returns-then-lacks-clause-dropped c _ = c.place.ensures.kept

pub returns-then-lacks-clause-right : goal.returns-then-lacks-clause-right
returns-then-lacks-clause-right c known = lacks_or_has c.lacks.result (is_topic c.args.row.now.topic.now c.args.self.now.beside.qrels.now) c.if-lacks.true c.lacks.ensures known

pub returns-then-lacks-clause-added : goal.returns-then-lacks-clause-added
returns-then-lacks-clause-added c known = lacks_or_has c.lacks.result (is_topic c.args.row.now.topic.now c.args.self.now.beside.qrels.now) c.if-lacks.true c.lacks.ensures known

pub returns-then-lacks-clause-wrong : goal.returns-then-lacks-clause-wrong
returns-then-lacks-clause-wrong c = tt

pub returns-then-lacks-clause-sound : goal.returns-then-lacks-clause-sound
returns-then-lacks-clause-sound c = still_sound c.args.self.now c.place.new.self c.place.ensures.kept c.in_ok-place.ensures.tracked c.requires

pub returns-then-lacks-clause-lines : goal.returns-then-lacks-clause-lines
returns-then-lacks-clause-lines c = refl

pub returns-then-lacks-clause-tag : goal.returns-then-lacks-clause-tag
returns-then-lacks-clause-tag c = refl

pub returns-then-lacks-clause-beside : goal.returns-then-lacks-clause-beside
returns-then-lacks-clause-beside c = refl

pub returns-then-lacks-clause-fault : goal.returns-then-lacks-clause-fault
returns-then-lacks-clause-fault c = refl

pub returns-in-Ok-clause-sound : goal.returns-in-Ok-clause-sound
returns-in-Ok-clause-sound c =
    let reader = c.args.self.now in
    let row = row_said c.args.row.now in
    let looked = c.place.new.self.kept in
    let added : c.put.new.self.kept ≡ with_row_on looked row = subst (λ told. OnOk told (c.put.new.self.kept ≡ with_row_on looked row)) c.in-Ok.is c.in_ok-put.ensures.added in
    let known : is_topic row.topic reader.beside.qrels.now ≡ true = not-false (is_topic row.topic reader.beside.qrels.now) (sym c.lacks.ensures ∙ c.if-lacks.false) in
    let fits : c.room-room.result ≡ Ok c.in-Ok.field-0 = passes_none (stands_in row.document (rows_in row.topic looked)) c.room-room.result c.in_ok-put.field-0 c.in-Ok.field-0 c.in_ok-put.ensures.told c.in-Ok.is in
    let few : reader.beside.used.rows + row_count looked + 1 ≤ MOST_RUN_ROWS = subst (λ r. OnOk r (reader.beside.used.rows + row_count looked + 1 ≤ MOST_RUN_ROWS)) fits c.room-room.ensures.few in
    let small : reader.beside.used.name_bytes + name_bytes_in looked + length row.document ≤ MOST_NAME_BYTES =
    subst (λ r. OnOk r (reader.beside.used.name_bytes + name_bytes_in looked + length row.document ≤ MOST_NAME_BYTES)) fits c.room-room.ensures.small in
    let names = subst (λ ts. All (λ name. is_topic name reader.beside.qrels.now ≡ true) (names_of ts)) (sym c.place.ensures.kept) c.requires.known in
    record {
      tracked = subst (λ told. OnOk told (IsTracked c.put.new.self)) c.in-Ok.is c.in_ok-put.ensures.tracked;
      known = subst (λ ts. All (λ name. is_topic name reader.beside.qrels.now ≡ true) (names_of ts)) (sym added) (names_with (λ name. is_topic name reader.beside.qrels.now ≡ true) looked row names known);
      few = (let rows = ap row_count added in omega (arith, row_count-with_row looked row, few));
      small = (let bytes = ap name_bytes_in added in omega (arith, name_bytes_in-with_row looked row, small));
    }

pub returns-in-Err-clause-wrong : goal.returns-in-Err-clause-wrong
returns-in-Err-clause-wrong c =
    let reader = c.args.self.now in
    let row = row_said c.args.row.now in
    let known : is_topic row.topic reader.beside.qrels.now ≡ true = not-false (is_topic row.topic reader.beside.qrels.now) (sym c.lacks.ensures ∙ c.if-lacks.false) in
    let told = first_told reader.beside.used row c.place.ensures.kept c.room-room.ensures.fault c.in_ok-put.ensures.told in
    inr (c.in-Err.fault, known, sym told ∙ c.in-Err.is, refl)

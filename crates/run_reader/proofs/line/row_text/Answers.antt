use Rattle.std.proofs.Common.{◌≡◌, length, true, false, refl, sym, ap, ◌∙◌, arith}
use Rattle.std.specs.Prelude.{not, ◌||◌, Ok, Err}
use Rattle.std.specs.Result.{result_map_both}
use Rattle.std.proofs.lemmas.Bool.{le-ltb, eq-eqb, ne_eqb}
use Rattle.desk_text.specs.Lines.{is_bad, fields_of}
use Rattle.desk_text.specs.declared.line.TheConstants.{LONGEST_LINE}
use Rattle.desk_text.specs.Reading.{score_of}
use Rattle.file_rows.specs.Reading.{field, is_long}
use Rattle.file_rows.proofs.Places.{is_some-position}
use Rattle.file_rows.proofs.Chains.{is_some-from, is_none-from}
use Rattle.run_reader.specs.Rows.{tag_of, row_of, line_fault}
use Rattle.run_reader.specs.Reader.{row_said}
use Rattle.run_reader.proofs.Chains.{formed_is}
use Rattle.run_reader.proofs.line.row_text.Goals as goal

pub returns-in_default-clause-row : goal.returns-in_default-clause-row
returns-in_default-clause-row c =
    let line = c.args.line.now in
    sym (formed_is line false true _ _ (le-ltb LONGEST_LINE (length line) (omega arith)) (sym (is_some-position is_bad line) ∙ is_some-from _ _ _ c.in_default.ensures.bad) refl refl)

pub returns-then-count-ne6-clause-row : goal.returns-then-count-ne6-clause-row
returns-then-count-ne6-clause-row c =
    let line = c.args.line.now in
    let number = c.in-Ok.ensures.ok.number in
    sym (formed_is line false false true _ (le-ltb LONGEST_LINE (length line) (omega arith)) (sym (is_some-position is_bad line) ∙ is_none-from _ _ c.in-Ok.ensures.bad)
    (ap not (ne_eqb (length (fields_of line)) 6 (λ e. c.if-count-ne6.true (c.count.ensures ∙ number ∙ e)))) refl)

pub returns-then-has_long-clause-row : goal.returns-then-has_long-clause-row
returns-then-has_long-clause-row c =
    let line = c.args.line.now in
    let number = c.in-Ok.ensures.ok.number in
    let short = le-ltb LONGEST_LINE (length line) (omega arith) in
    let good = sym (is_some-position is_bad line) ∙ is_none-from _ _ c.in-Ok.ensures.bad in
    let six = ap not (eq-eqb (length (fields_of line)) 6 (sym number ∙ sym c.count.ensures ∙ c.if-count-ne6.false)) in
    let names : (is_long (field line 0) || (is_long (field line 2) || is_long (tag_of line))) ≡ true =
    (λ i. is_long (sym c.text-topic.ensures i) || (is_long (sym c.text-document.ensures i) || is_long (sym c.text-tag.ensures i))) ∙ sym c.has_long.ensures ∙ c.if-has_long.true in
    sym (formed_is line false false false true short good six names)

pub returns-in-Ok-read_score-clause-row : goal.returns-in-Ok-read_score-clause-row
returns-in-Ok-read_score-clause-row c =
    let line = c.args.line.now in
    let number = c.in-Ok.ensures.ok.number in
    let short = le-ltb LONGEST_LINE (length line) (omega arith) in
    let good = sym (is_some-position is_bad line) ∙ is_none-from _ _ c.in-Ok.ensures.bad in
    let six = ap not (eq-eqb (length (fields_of line)) 6 (sym number ∙ sym c.count.ensures ∙ c.if-count-ne6.false)) in
    let names : (is_long (field line 0) || (is_long (field line 2) || is_long (tag_of line))) ≡ false =
    (λ i. is_long (sym c.text-topic.ensures i) || (is_long (sym c.text-document.ensures i) || is_long (sym c.text-tag.ensures i))) ∙ sym c.has_long.ensures ∙ c.if-has_long.false in
    let score : score_of (field line 4) ≡ Ok c.in-Ok-read_score.score = ap score_of (sym c.text.ensures) ∙ sym c.read_score.ensures.value ∙ c.in-Ok-read_score.is in
    let row : Ok (row_said (record { topic = c.text-topic.result; document = c.text-document.result; score = c.in-Ok-read_score.score; tag = c.text-tag.result })) ≡ row_of line =
    (λ i. Ok (record { topic = c.text-topic.ensures i; document = c.text-document.ensures i; value = c.in-Ok-read_score.score }))
    ∙ sym (ap (result_map_both (λ s. record { topic = field line 0; document = field line 2; value = s }) line_fault) score) in
    row ∙ sym (formed_is line false false false false short good six names)

pub returns-in-Err-clause-row : goal.returns-in-Err-clause-row
returns-in-Err-clause-row c =
    let line = c.args.line.now in
    let number = c.in-Ok.ensures.ok.number in
    let short = le-ltb LONGEST_LINE (length line) (omega arith) in
    let good = sym (is_some-position is_bad line) ∙ is_none-from _ _ c.in-Ok.ensures.bad in
    let six = ap not (eq-eqb (length (fields_of line)) 6 (sym number ∙ sym c.count.ensures ∙ c.if-count-ne6.false)) in
    let names : (is_long (field line 0) || (is_long (field line 2) || is_long (tag_of line))) ≡ false =
    (λ i. is_long (sym c.text-topic.ensures i) || (is_long (sym c.text-document.ensures i) || is_long (sym c.text-tag.ensures i))) ∙ sym c.has_long.ensures ∙ c.if-has_long.false in
    let score : score_of (field line 4) ≡ Err c.in-Err.fault = ap score_of (sym c.text.ensures) ∙ sym c.read_score.ensures.value ∙ c.in-Err.is in
    ap Err c.line_fault.ensures
    ∙ sym (ap (result_map_both (λ s. record { topic = field line 0; document = field line 2; value = s }) line_fault) score)
    ∙ sym (formed_is line false false false false short good six names)

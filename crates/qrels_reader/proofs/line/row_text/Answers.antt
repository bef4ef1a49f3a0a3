use Rattle.std.proofs.Common.{◌≡◌, length, true, false, refl, sym, ap, ap₂, ◌∙◌, arith, inl, inr, w16, w64, to_z, of_z}
use Rattle.std.specs.Prelude.{not, ◌||◌, is_none, Some, Ok, ◌≤ℤ◌, unwrap_or, pos}
use Rattle.std.proofs.lemmas.Bool.{lt-ltb, le-ltb, eq-eqb, ne_eqb}
use Rattle.std.proofs.lemmas.Int.{ints}
use Rattle.desk_text.specs.Lines.{is_bad, fields_of}
use Rattle.desk_text.specs.Numbers.{whole_of}
use Rattle.desk_text.specs.declared.line.TheConstants.{LONGEST_LINE}
use Rattle.std.proofs.Math.Bool.{or-true}
use Rattle.qrels_reader.specs.declared.limits.TheConstants.{LEAST_GRADE, GREATEST_GRADE}
use Rattle.file_rows.specs.Reading.{field, is_long}
use Rattle.qrels_reader.specs.Reader.{row_said}
use Rattle.qrels_reader.proofs.Grades.{whole_of_within}
use Rattle.qrels_reader.specs.Rows.{grade_of, row_of}
use Rattle.file_rows.proofs.Places.{is_some-position}
use Rattle.qrels_reader.proofs.Chains.{form_is}
use Rattle.file_rows.proofs.Chains.{is_some-from, is_none-from}
use Rattle.qrels_reader.proofs.line.row_text.Goals as goal

pub returns-in_default : goal.returns-in_default
returns-in_default c =
    let line = c.args.line.now in
    sym (form_is line false true _ _ _ (le-ltb LONGEST_LINE (length line) (omega arith)) (sym (is_some-position is_bad line) ∙ is_some-from _ _ _ c.in_default.ensures.bad) refl refl refl)

pub returns-then-count-ne4 : goal.returns-then-count-ne4
returns-then-count-ne4 c =
    let line = c.args.line.now in
    let number = c.in-Ok.ensures.ok.number in
    sym (form_is line false false true _ _ (le-ltb LONGEST_LINE (length line) (omega arith)) (sym (is_some-position is_bad line) ∙ is_none-from _ _ c.in-Ok.ensures.bad)
    (ap not (ne_eqb (length (fields_of line)) 4 (λ e. c.if-count-ne4.true (c.count.ensures ∙ number ∙ e)))) refl refl)

pub returns-then-topic-gt-LONGEST : goal.returns-then-topic-gt-LONGEST
returns-then-topic-gt-LONGEST c =
    let line = c.args.line.now in
    let number = c.in-Ok.ensures.ok.number in
    let short = le-ltb LONGEST_LINE (length line) (omega arith) in
    let good = sym (is_some-position is_bad line) ∙ is_none-from _ _ c.in-Ok.ensures.bad in
    let four = ap not (eq-eqb (length (fields_of line)) 4 (sym number ∙ sym c.count.ensures ∙ c.if-count-ne4.false)) in
    let long : (is_long (field line 0) || is_long (field line 2)) ≡ true = elim c.then-topic-gt-LONGEST.either [
      | inl w ↦ ap (λ b. b || is_long (field line 2)) (ap is_long (sym c.text-topic.ensures) ∙ lt-ltb 255 (length c.text-topic.result.now) w)
      | inr w ↦ ap (λ b. is_long (field line 0) || b) (ap is_long (sym c.text-document.ensures) ∙ lt-ltb 255 (length c.text-document.result.now) w.1) ∙ or-true (is_long (field line 0))
    ] in
    sym (form_is line false false false true _ short good four long refl)

pub returns-in_default-whole : goal.returns-in_default-whole
returns-in_default-whole c =
    let line = c.args.line.now in
    let number = c.in-Ok.ensures.ok.number in
    let short = le-ltb LONGEST_LINE (length line) (omega arith) in
    let good = sym (is_some-position is_bad line) ∙ is_none-from _ _ c.in-Ok.ensures.bad in
    let four = ap not (eq-eqb (length (fields_of line)) 4 (sym number ∙ sym c.count.ensures ∙ c.if-count-ne4.false)) in
    let names : (is_long (field line 0) || is_long (field line 2)) ≡ false =
    ap₂ (λ a b. a || b) (ap is_long (sym c.text-topic.ensures) ∙ le-ltb 255 (length c.text-topic.result.now) (omega arith)) (ap is_long (sym c.text-document.ensures) ∙ le-ltb 255 (length c.text-document.result.now) (omega arith)) in
    let grade : grade_of line ≡ c.whole.result = sym (c.whole.ensures ∙ ap (whole_of LEAST_GRADE GREATEST_GRADE) c.text.ensures) in
    sym (form_is line false false false false true short good four names (ap is_none (grade ∙ c.in_default-whole.is)))

pub returns : goal.returns
returns c =
    let line = c.args.line.now in
    let number = c.in-Ok.ensures.ok.number in
    let short = le-ltb LONGEST_LINE (length line) (omega arith) in
    let good = sym (is_some-position is_bad line) ∙ is_none-from _ _ c.in-Ok.ensures.bad in
    let four = ap not (eq-eqb (length (fields_of line)) 4 (sym number ∙ sym c.count.ensures ∙ c.if-count-ne4.false)) in
    let names : (is_long (field line 0) || is_long (field line 2)) ≡ false =
    ap₂ (λ a b. a || b) (ap is_long (sym c.text-topic.ensures) ∙ le-ltb 255 (length c.text-topic.result.now) (omega arith)) (ap is_long (sym c.text-document.ensures) ∙ le-ltb 255 (length c.text-document.result.now) (omega arith)) in
    let grade : grade_of line ≡ c.whole.result = sym (c.whole.ensures ∙ ap (whole_of LEAST_GRADE GREATEST_GRADE) c.text.ensures) in
    let found : grade_of line ≡ Some c.in-Some.grade = grade ∙ c.in-Some.is in
    let within = whole_of_within LEAST_GRADE GREATEST_GRADE c.in-Some.grade (field line 3) found in
    let least : LEAST_GRADE ≤ℤ c.in-Some.grade = within.0 in
    let most : c.in-Some.grade ≤ℤ GREATEST_GRADE = within.1 in
    let kept : to_z w16 (of_z w16 (to_z w64 (of_z w64 c.in-Some.grade))) ≡ c.in-Some.grade = omega (arith, ints) in
    let row : row_said (record { topic = c.text-topic.result; document = c.text-document.result; grade = to_z w16 (of_z w16 (to_z w64 (of_z w64 c.in-Some.grade))) }) ≡ row_of line =
    λ i. record { topic = c.text-topic.ensures i; document = c.text-document.ensures i; value = (kept ∙ sym (ap (λ o. unwrap_or o (pos 0)) found)) i } in
    ap Ok row ∙ sym (form_is line false false false false false short good four names (ap is_none found))

use Rattle.std.proofs.Common.{◌≡◌, ◌<◌, length, true, false, refl, sym, subst, ap, ◌∙◌, arith, w16, w64, to_z, of_z}
use Rattle.std.specs.Prelude.{not, ◌||◌, is_none, Some, Ok, ◌≤ℤ◌, unwrap_or, pos}
use Rattle.std.proofs.lemmas.Bool.{le-ltb, eq-eqb, ne_eqb}
use Rattle.std.proofs.lemmas.Int.{ints}
use Rattle.small_lemmas.proofs.Tests.{neither}
use Rattle.desk_text.specs.Lines.{is_bad, fields_of}
use Rattle.desk_text.specs.declared.line.TheConstants.{LONGEST_LINE}
use Rattle.desk_model.specs.Name.{is_name}
use Rattle.file_rows.specs.Reading.{field, is_long}
use Rattle.file_rows.proofs.Places.{is_some-position}
use Rattle.file_rows.proofs.Chains.{is_some-from, is_none-from}
use Rattle.file_rows.proofs.FieldNames.{is_name-field}
use Rattle.sheet_merge.specs.declared.limits.TheConstants.{LEAST_GRADE, GREATEST_GRADE}
use Rattle.sheet_merge.specs.Reader.{entry_said}
use Rattle.sheet_merge.specs.Lines.{stamp_of, sheet_grade_of, entry_of}
use Rattle.sheet_merge.proofs.Forms.{form_is, stamp_within, whole_within}
use Rattle.sheet_merge.proofs.line.entry_text.Goals as goal

pub returns-in_default-clause-said : goal.returns-in_default-clause-said
returns-in_default-clause-said c =
    let line = c.args.line.now in
    sym (form_is line false true _ _ _ _ (le-ltb LONGEST_LINE (length line) (omega arith)) (sym (is_some-position is_bad line) ∙ is_some-from _ _ _ c.in_default.ensures.bad) refl refl refl refl)

pub returns-then-count-ne5-clause-said : goal.returns-then-count-ne5-clause-said
returns-then-count-ne5-clause-said c =
    let line = c.args.line.now in
    let number = c.in-Ok.ensures.ok.number in
    sym (form_is line false false true _ _ _ (le-ltb LONGEST_LINE (length line) (omega arith)) (sym (is_some-position is_bad line) ∙ is_none-from _ _ c.in-Ok.ensures.bad)
    (ap not (ne_eqb (length (fields_of line)) 5 (λ e. c.if-count-ne5.true (c.count.ensures ∙ number ∙ e)))) refl refl refl)

pub returns-in_default-stamp-clause-said : goal.returns-in_default-stamp-clause-said
returns-in_default-stamp-clause-said c =
    let line = c.args.line.now in
    let number = c.in-Ok.ensures.ok.number in
    let short = le-ltb LONGEST_LINE (length line) (omega arith) in
    let good = sym (is_some-position is_bad line) ∙ is_none-from _ _ c.in-Ok.ensures.bad in
    let five = ap not (eq-eqb (length (fields_of line)) 5 (sym number ∙ sym c.count.ensures ∙ c.if-count-ne5.false)) in
    let stamp : stamp_of (field line 0) ≡ c.stamp.result = ap stamp_of (sym c.text.ensures) ∙ sym c.stamp.ensures in
    sym (form_is line false false false true _ _ short good five (ap is_none (stamp ∙ c.in_default-stamp.is)) refl refl)

pub returns-then-is_any_long-clause-said : goal.returns-then-is_any_long-clause-said
returns-then-is_any_long-clause-said c =
    let line = c.args.line.now in
    let number = c.in-Ok.ensures.ok.number in
    let short = le-ltb LONGEST_LINE (length line) (omega arith) in
    let good = sym (is_some-position is_bad line) ∙ is_none-from _ _ c.in-Ok.ensures.bad in
    let five = ap not (eq-eqb (length (fields_of line)) 5 (sym number ∙ sym c.count.ensures ∙ c.if-count-ne5.false)) in
    let stamp : stamp_of (field line 0) ≡ c.stamp.result = ap stamp_of (sym c.text.ensures) ∙ sym c.stamp.ensures in
    let long : (is_long (field line 1) || (is_long (field line 2) || is_long (field line 3))) ≡ true =
    (λ i. is_long (sym c.text-who.ensures i) || (is_long (sym c.text-topic.ensures i) || is_long (sym c.text-document.ensures i))) ∙ sym c.is_any_long.ensures ∙ c.if-is_any_long.true in
    sym (form_is line false false false false true _ short good five (ap is_none (stamp ∙ c.in-Some.is)) long refl)

pub returns-in_default-whole-clause-said : goal.returns-in_default-whole-clause-said
returns-in_default-whole-clause-said c =
    let line = c.args.line.now in
    let number = c.in-Ok.ensures.ok.number in
    let short = le-ltb LONGEST_LINE (length line) (omega arith) in
    let good = sym (is_some-position is_bad line) ∙ is_none-from _ _ c.in-Ok.ensures.bad in
    let five = ap not (eq-eqb (length (fields_of line)) 5 (sym number ∙ sym c.count.ensures ∙ c.if-count-ne5.false)) in
    let stamp : stamp_of (field line 0) ≡ c.stamp.result = ap stamp_of (sym c.text.ensures) ∙ sym c.stamp.ensures in
    let names : (is_long (field line 1) || (is_long (field line 2) || is_long (field line 3))) ≡ false =
    (λ i. is_long (sym c.text-who.ensures i) || (is_long (sym c.text-topic.ensures i) || is_long (sym c.text-document.ensures i))) ∙ sym c.is_any_long.ensures ∙ c.if-is_any_long.false in
    let grade : sheet_grade_of (field line 4) ≡ c.whole.result = sym (c.whole.ensures ∙ ap sheet_grade_of c.text-2.ensures) in
    sym (form_is line false false false false false true short good five (ap is_none (stamp ∙ c.in-Some.is)) names (ap is_none (grade ∙ c.in_default-whole.is)))

pub returns-clause-said : goal.returns-clause-said
returns-clause-said c =
    let line = c.args.line.now in
    let number = c.in-Ok.ensures.ok.number in
    let short = le-ltb LONGEST_LINE (length line) (omega arith) in
    let good = sym (is_some-position is_bad line) ∙ is_none-from _ _ c.in-Ok.ensures.bad in
    let five = ap not (eq-eqb (length (fields_of line)) 5 (sym number ∙ sym c.count.ensures ∙ c.if-count-ne5.false)) in
    let stamp : stamp_of (field line 0) ≡ Some c.in-Some.stamp = ap stamp_of (sym c.text.ensures) ∙ sym c.stamp.ensures ∙ c.in-Some.is in
    let names : (is_long (field line 1) || (is_long (field line 2) || is_long (field line 3))) ≡ false =
    (λ i. is_long (sym c.text-who.ensures i) || (is_long (sym c.text-topic.ensures i) || is_long (sym c.text-document.ensures i))) ∙ sym c.is_any_long.ensures ∙ c.if-is_any_long.false in
    let grade : sheet_grade_of (field line 4) ≡ Some c.in-Some-whole.grade = sym (c.whole.ensures ∙ ap sheet_grade_of c.text-2.ensures) ∙ c.in-Some-whole.is in
    let within = whole_within LEAST_GRADE GREATEST_GRADE c.in-Some-whole.grade (field line 4) grade in
    let least : LEAST_GRADE ≤ℤ c.in-Some-whole.grade = within.0 in
    let most : c.in-Some-whole.grade ≤ℤ GREATEST_GRADE = within.1 in
    let kept : to_z w16 (of_z w16 (to_z w64 (of_z w64 c.in-Some-whole.grade))) ≡ c.in-Some-whole.grade = omega (arith, ints) in
    let row : entry_said (record { stamp = c.in-Some.stamp; who = c.text-who.result; topic = c.text-topic.result; document = c.text-document.result; grade = to_z w16 (of_z w16 (to_z w64 (of_z w64 c.in-Some-whole.grade))) }) ≡ entry_of line =
    λ i. ((c.text-topic.ensures i, c.text-document.ensures i), record { stamp = sym (ap (λ o. unwrap_or o 0) stamp) i; who = c.text-who.ensures i; grade = (kept ∙ sym (ap (λ o. unwrap_or o (pos 0)) grade)) i }) in
    ap Ok row ∙ sym (form_is line false false false false false false short good five (ap is_none stamp) names (ap is_none grade))

pub returns-clause-right : goal.returns-clause-right
returns-clause-right c =
    let line = c.args.line.now in
    let number = c.in-Ok.ensures.ok.number in
    let good = sym (is_some-position is_bad line) ∙ is_none-from _ _ c.in-Ok.ensures.bad in
    let five : length (fields_of line) ≡ 5 = sym number ∙ sym c.count.ensures ∙ c.if-count-ne5.false in
    let stamp : stamp_of (field line 0) ≡ Some c.in-Some.stamp = ap stamp_of (sym c.text.ensures) ∙ sym c.stamp.ensures ∙ c.in-Some.is in
    let names : (is_long (field line 1) || (is_long (field line 2) || is_long (field line 3))) ≡ false =
    (λ i. is_long (sym c.text-who.ensures i) || (is_long (sym c.text-topic.ensures i) || is_long (sym c.text-document.ensures i))) ∙ sym c.is_any_long.ensures ∙ c.if-is_any_long.false in
    let grade : sheet_grade_of (field line 4) ≡ Some c.in-Some-whole.grade = sym (c.whole.ensures ∙ ap sheet_grade_of c.text-2.ensures) ∙ c.in-Some-whole.is in
    let within = whole_within LEAST_GRADE GREATEST_GRADE c.in-Some-whole.grade (field line 4) grade in
    let least : LEAST_GRADE ≤ℤ c.in-Some-whole.grade = within.0 in
    let most : c.in-Some-whole.grade ≤ℤ GREATEST_GRADE = within.1 in
    let kept : to_z w16 (of_z w16 (to_z w64 (of_z w64 c.in-Some-whole.grade))) ≡ c.in-Some-whole.grade = omega (arith, ints) in
    let who = neither (is_long (field line 1)) (is_long (field line 2) || is_long (field line 3)) names in
    let rest = neither (is_long (field line 2)) (is_long (field line 3)) who.1 in
    let first : 1 < length (fields_of line) = omega (arith, five) in
    let second : 2 < length (fields_of line) = omega (arith, five) in
    let third : 3 < length (fields_of line) = omega (arith, five) in
    record {
      topic = ap is_name c.text-topic.ensures ∙ is_name-field line 2 good second rest.0;
      document = ap is_name c.text-document.ensures ∙ is_name-field line 3 good third rest.1;
      assessor = ap is_name c.text-who.ensures ∙ is_name-field line 1 good first who.0;
      first_stamp = (stamp_within (field line 0) c.in-Some.stamp stamp).0;
      last_stamp = (stamp_within (field line 0) c.in-Some.stamp stamp).1;
      least = subst (λ g. LEAST_GRADE ≤ℤ g) (sym kept) least;
      greatest = subst (λ g. g ≤ℤ GREATEST_GRADE) (sym kept) most;
    }

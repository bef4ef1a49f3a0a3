use Rattle.std.proofs.Common.{◌≡◌, All, List, ℕ, length, Some, ap, sym, subst, ◌∙◌, arith}
use Rattle.std.proofs.lemmas.List.{length-map}
use Rattle.desk_model.specs.Book.{Book}
use Rattle.desk_model.specs.Name.{number_of}
use Rattle.order_certificate.specs.Claim.{topics_of}
use Rattle.order_bundle.specs.Bundle.{Bundle}
use Rattle.order_bundle.specs.Evidence.{name_at, named_evidence}
use Rattle.order_certificate.proofs.Holds.{place_within}
use Rattle.order_verifier.specs.Refusal.{Compared, ShowsOf, topics_in}
use Rattle.order_verifier.specs.Verified.{FailsBy}
use Rattle.order_verifier.proofs.Topics.{length-named}
use Rattle.bundle_verifier.specs.Refusal.{HasRows, IsRunOf}
use Rattle.bundle_verifier.specs.Rows.{AreNumbersOf}
use Rattle.bundle_verifier.proofs.Matched.{different_numbers, rows_of, topics_named}
use Rattle.bundle_verifier.proofs.claim.check_claim.Goals as goal

pub new-comparison-requires-clause-runs : goal.new-comparison-requires-clause-runs
new-comparison-requires-clause-runs c = record {
  whole = c.requires.whole;
  known = c.requires.marks;
  first_known = let at = place_within _ c.args.desk.now.runs 0 c.run_number-first.result c.run_number-first.ensures in omega (arith, at);
  second_known = let at = place_within _ c.args.desk.now.runs 0 c.run_number-second.result c.run_number-second.ensures in omega (arith, at);
}

pub run_number-first-requires-clause-known : goal.run_number-first-requires-clause-known
run_number-first-requires-clause-known c = subst (All (IsRunOf c.args.desk.now)) (sym (c.as_slice-names.ensures ∙ ap (λ (v : Bundle). v.runs) c.bundle.view_is)) c.requires.names.0

pub run_number-second-requires-clause-known : goal.run_number-second-requires-clause-known
run_number-second-requires-clause-known c = subst (All (IsRunOf c.args.desk.now)) (sym (c.as_slice-names.ensures ∙ ap (λ (v : Bundle). v.runs) c.bundle.view_is)) c.requires.names.0

pub check-requires-clause-rows : goal.check-requires-clause-rows
check-requires-clause-rows c =
    subst (λ ts. HasRows ts c.args.claim.now.evidence) (sym (c.as_slice.ensures ∙ ap (λ (v : Bundle). v.topics) c.bundle.view_is)) (rows_of c.args.bundle.now.topics c.args.claim.now.evidence c.requires.claim.rows)

pub check-requires-clause-numbers : goal.check-requires-clause-numbers
check-requires-clause-numbers c =
    subst (λ (w : Compared). AreNumbersOf w.desk c.as_slice.result.now c.args.numbers.now) (sym c.new-comparison.ensures)
    (subst (λ ts. AreNumbersOf c.args.desk.now ts c.args.numbers.now) (sym (c.as_slice.ensures ∙ ap (λ (v : Bundle). v.topics) c.bundle.view_is)) c.requires.numbers)

pub check-requires-clause-topics : goal.check-requires-clause-topics
check-requires-clause-topics c =
    let name : Book → List ℕ = λ book. book.name in
    ap (λ ts. length (topics_of (named_evidence ts c.args.claim.now.evidence))) (c.as_slice.ensures ∙ ap (λ (v : Bundle). v.topics) c.bundle.view_is) ∙ ap length (topics_named c.args.bundle.now.topics c.args.claim.now.evidence c.requires.claim.rows ∙ c.requires.names.1) ∙ length-map c.args.desk.now.topics name ∙ sym (length-named c.args.desk.now c.args.marks.now c.requires.marks)
    ∙ ap (λ (w : Compared). length (topics_in w)) (sym c.new-comparison.ensures)

pub returns-in-Ok : goal.returns-in-Ok
returns-in-Ok c =
    let b = c.args.bundle.now in
    let claim = c.args.claim.now in
    let e = named_evidence b.topics claim.evidence in
    let a = c.run_number-first.result in
    let z = c.run_number-second.result in
    let first : number_of c.args.desk.now.runs (name_at b.runs claim.first) ≡ Some a = subst (λ ns. number_of c.args.desk.now.runs (name_at ns claim.first) ≡ Some a) (c.as_slice-names.ensures ∙ ap (λ (v : Bundle). v.runs) c.bundle.view_is) c.run_number-first.ensures in
    let second : number_of c.args.desk.now.runs (name_at b.runs claim.second) ≡ Some z = subst (λ ns. number_of c.args.desk.now.runs (name_at ns claim.second) ≡ Some z) (c.as_slice-names.ensures ∙ ap (λ (v : Bundle). v.runs) c.bundle.view_is) c.run_number-second.ensures in
    let compared : c.new-comparison.result ≡ record { measure = b.measure; desk = c.args.desk.now; marks = c.args.marks.now; first = a; second = z } =
    c.new-comparison.ensures ∙ ap (λ m. record { measure = m; desk = c.args.desk.now; marks = c.args.marks.now; first = a; second = z }) c.requires.made in
    record {
      first = a;
      second = z;
      runs = (first, second);
      two_runs = different_numbers c.args.desk.now.runs b.runs c.valid.ensures.runs.ascending.ascending claim.first claim.second a z c.requires.claim.first_known c.requires.claim.second_known c.requires.claim.different
          first second;
      topics = topics_named b.topics claim.evidence c.requires.claim.rows ∙ c.requires.names.1;
      shows = subst (λ (w : Compared). ShowsOf w e) compared (subst (λ ts. ShowsOf c.new-comparison.result (named_evidence ts claim.evidence)) (c.as_slice.ensures ∙ ap (λ (v : Bundle). v.topics) c.bundle.view_is) c.in-Ok.ensures);
    }

pub returns-in-Err : goal.returns-in-Err
returns-in-Err c =
    let b = c.args.bundle.now in
    let claim = c.args.claim.now in
    let e = named_evidence b.topics claim.evidence in
    let a = c.run_number-first.result in
    let z = c.run_number-second.result in
    let first : number_of c.args.desk.now.runs (name_at b.runs claim.first) ≡ Some a = subst (λ ns. number_of c.args.desk.now.runs (name_at ns claim.first) ≡ Some a) (c.as_slice-names.ensures ∙ ap (λ (v : Bundle). v.runs) c.bundle.view_is) c.run_number-first.ensures in
    let second : number_of c.args.desk.now.runs (name_at b.runs claim.second) ≡ Some z = subst (λ ns. number_of c.args.desk.now.runs (name_at ns claim.second) ≡ Some z) (c.as_slice-names.ensures ∙ ap (λ (v : Bundle). v.runs) c.bundle.view_is) c.run_number-second.ensures in
    let compared : c.new-comparison.result ≡ record { measure = b.measure; desk = c.args.desk.now; marks = c.args.marks.now; first = a; second = z } =
    c.new-comparison.ensures ∙ ap (λ m. record { measure = m; desk = c.args.desk.now; marks = c.args.marks.now; first = a; second = z }) c.requires.made in
    let different = different_numbers c.args.desk.now.runs b.runs c.valid.ensures.runs.ascending.ascending claim.first claim.second a z c.requires.claim.first_known c.requires.claim.second_known c.requires.claim.different
    first second in
    (a, z, ((first, second), different), topics_named b.topics claim.evidence c.requires.claim.rows ∙ c.requires.names.1, subst (λ (w : Compared). FailsBy w e c.in-Err.failure) compared (subst (λ ts. FailsBy c.new-comparison.result (named_evidence ts claim.evidence) c.in-Err.failure) (c.as_slice.ensures ∙ ap (λ (v : Bundle). v.topics) c.bundle.view_is) c.in-Err.ensures))

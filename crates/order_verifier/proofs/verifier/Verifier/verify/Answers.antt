use Rattle.std.proofs.Common.{List, ℕ, length, ap, sym, subst, ◌∙◌, arith}
use Rattle.std.proofs.lemmas.List.{length-map}
use Rattle.desk_model.specs.Book.{Book}
use Rattle.desk_model.specs.Desk.{AreMarksOf}
use Rattle.order_verifier.specs.Refusal.{Compared, topic_names, topics_in}
use Rattle.topic_ends.proofs.KnownBounds.{none_known}
use Rattle.order_verifier.proofs.Told.{failure_placed, topic_placed}
use Rattle.order_verifier.proofs.Topics.{length-named}
use Rattle.order_certificate.proofs.Holds.{place_within}
use Rattle.order_verifier.proofs.verifier.Verifier.verify.Goals as goal

pub new-requires-clause-runs : goal.new-requires-clause-runs
new-requires-clause-runs c =
    let runs = c.in-Ok.ensures.0 in
    record {
      whole = c.wrong_topic.ensures.desk;
      known = subst (AreMarksOf c.args.desk.now) (sym (c.anew-marks.ensures ∙ c.rows-rows.ensures)) c.requires.marks;
      first_known = let at = place_within _ c.args.desk.now.runs 0 c.in-Ok.runs.first runs.0 in omega (arith, at);
      second_known = let at = place_within _ c.args.desk.now.runs 0 c.in-Ok.runs.second runs.1 in omega (arith, at);
    }

pub check-requires-clause-topics : goal.check-requires-clause-topics
check-requires-clause-topics c =
    let name : Book → List ℕ = λ book. book.name in
    ap length c.in_default.ensures.place ∙ length-map c.args.desk.now.topics name ∙ sym (length-named c.args.desk.now c.anew-marks.result (subst (AreMarksOf c.args.desk.now) (sym (c.anew-marks.ensures ∙ c.rows-rows.ensures)) c.requires.marks)) ∙ ap (λ (w : Compared). length (topics_in w)) (sym c.new.ensures)

pub wrong_names-requires-in-Some-clause-place : goal.wrong_names-requires-in-Some-clause-place
wrong_names-requires-in-Some-clause-place c = topic_placed c.args.certificate.now.evidence (topic_names c.args.desk.now) c.in-Some.place c.in-Some.ensures.place

pub rejection-requires-clause-place : goal.rejection-requires-clause-place
rejection-requires-clause-place c = failure_placed c.new.result c.args.certificate.now.evidence c.in-Err-check.failure c.in-Err-check.ensures

pub new-requires-clause-bounds : goal.new-requires-clause-bounds
new-requires-clause-bounds c = none_known c.args.desk.now c.anew-marks.result

use Rattle.std.proofs.Common.{◌≡◌, Some, false, [], ◌∷◌, List, ℕ, ap, sym, ◌∙◌, arith}
use Rattle.std.specs.Prelude.{slice_get, ◌↔◌, IsTrue}
use Rattle.desk_model.specs.Name.{number_of}
use Rattle.desk_model.proofs.PairPlace.{there}
use Rattle.order_certificate.specs.Evidence.{AreUnjudged}
use Rattle.order_certificate.proofs.Holds.{place_within}
use Rattle.order_verifier.specs.Refusal.{Compared}
use Rattle.order_verifier.proofs.Topics.{book_met, named_topic, topic_of_book, topic_on, topic_within}
use Rattle.order_verifier.proofs.Unjudged.{tested, unnumbered}
use Rattle.order_verifier.proofs.comparison.Comparison.find_unjudged.Goals as goal

pub bounds-marks-doc : goal.bounds-marks-doc
bounds-marks-doc c =
    let marked : slice_get c.self.inside.marks.now c.args.topic ≡ Some c.args.marks.now = ap (λ (v : Compared). slice_get v.marks c.args.topic) c.self.view_is ∙ c.requires.marks in
    let row = c.in-Some.ensures in
    let book = there c.self.inside.desk.now.topics c.args.topic (topic_within _ _ c.self.view_is c.self.invariant.0.known c.args.topic _ c.requires.topic) in
    let docs : c.args.documents.now.docs ≡ book.0.docs = topic_of_book _ _ c.self.view_is c.args.topic c.args.marks.now book.0 marked book.1 (λ _ n. c.args.documents.now.docs ≡ n.docs) c.requires.topic in
    let within = place_within _ book.0.docs 0 c.in-Some.doc (ap (λ (ds : List (List ℕ)). number_of ds row.0) (sym docs) ∙ sym row.2) in
    let met = book_met c.self.inside.desk.now c.self.inside.marks.now c.self.inside.runs.first c.self.inside.runs.second c.self.invariant.0 c.args.topic c.args.marks.now book.0 marked book.1 in
    omega (arith, within, met.0)

pub returns-in-Some : goal.returns-in-Some
returns-in-Some c =
    let marked : slice_get c.self.inside.marks.now c.args.topic ≡ Some c.args.marks.now = ap (λ (v : Compared). slice_get v.marks c.args.topic) c.self.view_is ∙ c.requires.marks in
    let row = c.in-Some.ensures in
    let book = there c.self.inside.desk.now.topics c.args.topic (topic_within _ _ c.self.view_is c.self.invariant.0.known c.args.topic _ c.requires.topic) in
    let docs : c.args.documents.now.docs ≡ book.0.docs = topic_of_book _ _ c.self.view_is c.args.topic c.args.marks.now book.0 marked book.1 (λ _ n. c.args.documents.now.docs ≡ n.docs) c.requires.topic in
    let numbered : number_of c.args.documents.now.docs row.0 ≡ Some c.in-Some.doc = sym row.2 in (
      row.0,
      row.1,
      (
        (λ _. numbered),
        topic_on _ _ c.self.view_is c.args.topic c.args.marks.now book.0 marked book.1 (λ _ n. IsTrue c.is_open.result ↔ AreUnjudged n (row.0 ∷ []))
            (tested (named_topic c.self.inside.desk.now c.args.topic c.args.marks.now book.0) row.0 c.in-Some.doc c.is_open.result (ap (λ (ds : List (List ℕ)). number_of ds row.0) (sym docs) ∙ numbered) c.is_open.ensures),
      ),
    )

pub returns-in-None : goal.returns-in-None
returns-in-None c =
    let marked : slice_get c.self.inside.marks.now c.args.topic ≡ Some c.args.marks.now = ap (λ (v : Compared). slice_get v.marks c.args.topic) c.self.view_is ∙ c.requires.marks in
    let row = c.in-None.ensures in
    let book = there c.self.inside.desk.now.topics c.args.topic (topic_within _ _ c.self.view_is c.self.invariant.0.known c.args.topic _ c.requires.topic) in
    let docs : c.args.documents.now.docs ≡ book.0.docs = topic_of_book _ _ c.self.view_is c.args.topic c.args.marks.now book.0 marked book.1 (λ _ n. c.args.documents.now.docs ≡ n.docs) c.requires.topic in (
      row.0,
      row.1,
      (
        (λ no. absurd (cc)),
        topic_on _ _ c.self.view_is c.args.topic c.args.marks.now book.0 marked book.1 (λ _ n. IsTrue false ↔ AreUnjudged n (row.0 ∷ []))
            ((λ no. absurd (cc)), (λ h. absurd (unnumbered (named_topic c.self.inside.desk.now c.args.topic c.args.marks.now book.0) row.0 (ap (λ (ds : List (List ℕ)). number_of ds row.0) (sym docs) ∙ sym row.2) h))),
      ),
    )

-- Answers by cells are answers by a name, and two runs have one answer by a name.
use Rattle.std.proofs.Common.{◌≡◌, ◌≢◌, ℕ, ◌<◌, List, length, Some, Result, Ok, Err, ap, sym, subst, ◌∙◌, refl}
use Rattle.std.specs.Prelude.{slice_get}
use Rattle.desk_model.specs.Desk.{Desk, IsDesk, AreMarksOf, topics_under}
use Rattle.desk_model.specs.Extremes.{Ends}
use Rattle.desk_model.specs.Order.{Topic}
use Rattle.desk_model.specs.Verdict.{totals_of, verdict}
use Rattle.desk_model.specs.declared.types.Mark.{Mark}
use Rattle.desk_model.specs.declared.types.MeasureName.{MeasureName}
use Rattle.desk_model.specs.declared.types.Totals.{Totals}
use Rattle.desk_model.specs.declared.types.Verdict.{Verdict}
use Rattle.desk_model.specs.declared.types.Verdict.TheVariants.{Above, Below, Equal, Open, Close}
use Rattle.topic_counts.specs.declared.span.Span.{Span}
use Rattle.measure_laws.proofs.Unique.{named_ends_unique}
use Rattle.measure_core.specs.Laws.{AreMet}
use Rattle.measure_core.specs.Made.{HasEnds, AreNumbersOfName}
use Rattle.measure_core.specs.declared.cell.Cell.{Cell}
use Rattle.order_certificate.specs.declared.certificate.Certificate.{Certificate}
use Rattle.order_certificate.specs.declared.certificate.Evidence.{Evidence}
use Rattle.order_certificate.specs.declared.certificate.Evidence.TheVariants.{Above as AboveBy, Equal as EqualBy}
use Rattle.pair_table.specs.Evidence.{bounds_of, Compares, SaysOfVerdict, IsCertificateOf, IsAnswered}
use Rattle.pair_table.specs.Numbers.{HaveEnds, HasCellEnds, AreEndsBy, ArePairSums}
use Rattle.pair_table.specs.declared.evidence.EvidenceFault.{EvidenceFault}
use Rattle.pair_table.specs.declared.evidence.EvidenceFault.TheVariants.{Close as CloseBy, Memory}
use Rattle.pair_table.proofs.DeskTopics.{topics_met}
use Rattle.pair_table.proofs.Listing.{there_number}
use Rattle.pair_table.proofs.Orders.{MetBy}
use Rattle.pair_table.proofs.Zips.{zip_then, zip_unique_first}

-- ---- from one kind of ends to another
module _ (Has Has' : HaveEnds) (gives : (m : List Mark) (a b : List ℕ) (e : Ends) → AreMet m a b → Has m a b e → Has' m a b e) (measure : MeasureName) (desk : Desk) (marks : List (List Mark)) (level : ℕ) (is_desk : IsDesk desk) (known : AreMarksOf desk marks) where
  given_ends : (a b : ℕ) (ends : List Ends) → a < length desk.runs → b < length desk.runs → AreEndsBy Has (topics_under desk marks) a b ends → AreEndsBy Has' (topics_under desk marks) a b ends
  given_ends a b ends in_a in_b h =
      zip_then (λ e topic. Has topic.marks (topic.ranking a) (topic.ranking b) e) (λ e topic. Has' topic.marks (topic.ranking a) (topic.ranking b) e) (MetBy a b)
      (λ e topic met x. gives topic.marks (topic.ranking a) (topic.ranking b) e met x) ends (topics_under desk marks) (topics_met desk marks is_desk known a b in_a in_b) h

  given_sums : (a b : ℕ) (sums : Totals) → a < length desk.runs → b < length desk.runs → ArePairSums Has (topics_under desk marks) a b sums → ArePairSums Has' (topics_under desk marks) a b sums
  given_sums a b sums in_a in_b h = record { ends = h.ends; named = given_ends a b h.ends in_a in_b h.named; summed = h.summed }

  given_says : (a b : ℕ) (c : Certificate) (v : Verdict) → a < length desk.runs → b < length desk.runs → SaysOfVerdict Has measure desk marks level a b c v → SaysOfVerdict Has' measure desk marks level a b c v
  given_says a b c Above in_a in_b h = record { compares = h.compares; ends = h.ends; named = given_ends a b h.ends in_a in_b h.named; bounds = h.bounds }
  given_says a b c Below in_a in_b h = record { compares = h.compares; ends = h.ends; named = given_ends b a h.ends in_b in_a h.named; bounds = h.bounds }
  given_says a b c Equal in_a in_b h = record { compares = h.compares; ends = h.ends; named = given_ends a b h.ends in_a in_b h.named; bounds = h.bounds }
  given_says a b c Open in_a in_b h = h
  given_says a b c Close in_a in_b h = absurd h

  given_answer : (a b : ℕ) (answer : Result Certificate EvidenceFault) → a < length desk.runs → b < length desk.runs → IsAnswered Has measure desk marks level a b answer → IsAnswered Has' measure desk marks level a b answer
  given_answer a b (Ok c) in_a in_b h = record { sums = h.sums; summed = given_sums a b h.sums in_a in_b h.summed; says = given_says a b c (verdict h.sums) in_a in_b h.says }
  given_answer a b (Err (CloseBy sums)) in_a in_b h = (given_sums a b sums in_a in_b h.0, h.1)
  given_answer a b (Err Memory) in_a in_b h = tt

pub named_answer : (name : MeasureName) (cell : List Mark → List ℕ → List ℕ → Cell) (bounds : List Mark → List ℕ → Span) (desk : Desk) (marks : List (List Mark)) (level a b : ℕ) (answer : Result Certificate EvidenceFault) →
    AreNumbersOfName name cell bounds → IsDesk desk → AreMarksOf desk marks → a < length desk.runs → b < length desk.runs →
    IsAnswered (HasCellEnds cell) name desk marks level a b answer → IsAnswered (HasEnds name) name desk marks level a b answer
named_answer name cell bounds desk marks level a b answer numbers is_desk known in_a in_b h =
    given_answer (HasCellEnds cell) (HasEnds name) (λ m x y e met is. subst (HasEnds name m x y) (sym is) (numbers.cells m x y met)) name desk marks level is_desk known a b answer in_a in_b h

-- ---- one answer
abbrev certificate : MeasureName → ℕ → List ℕ → List ℕ → Evidence → Certificate
certificate m l f s e = record { measure = m; level = l; first = f; second = s; evidence = e }

same_certificate : (m m' : MeasureName) (l l' : ℕ) (f f' s s' : List ℕ) (e e' : Evidence) → m ≡ m' → l ≡ l' → f ≡ f' → s ≡ s' → e ≡ e' → certificate m l f s e ≡ certificate m' l' f' s' e'
same_certificate m m' l l' f f' s s' e e' p q r t u =
    ap (λ x. certificate x l f s e) p ∙ ap (λ x. certificate m' x f s e) q ∙ ap (λ x. certificate m' l' x s e) r ∙ ap (λ x. certificate m' l' f' x e) t ∙ ap (λ x. certificate m' l' f' s' x) u

-- by whichever ends two rankings have, where they have one kind of them
module _ (Has : HaveEnds) (one : (m : List Mark) (a b : List ℕ) (e f : Ends) → Has m a b e → Has m a b f → e ≡ f) (name : MeasureName) (desk : Desk) (marks : List (List Mark)) (level : ℕ) where
  same_ends : (a b : ℕ) (ends others : List Ends) → AreEndsBy Has (topics_under desk marks) a b ends → AreEndsBy Has (topics_under desk marks) a b others → ends ≡ others
  same_ends a b ends others h g =
      zip_unique_first (λ (e : Ends) (topic : Topic). Has topic.marks (topic.ranking a) (topic.ranking b) e) (λ e f topic x y. one topic.marks (topic.ranking a) (topic.ranking b) e f x y) ends others (topics_under desk marks) h g

  one_run : (run : ℕ) (x y : List ℕ) → slice_get desk.runs run ≡ Some x → slice_get desk.runs run ≡ Some y → x ≡ y
  one_run run x y e f = cc

  one_compared : (a b : ℕ) (c d : Certificate) → Compares name desk level a b c → Compares name desk level a b d → c.evidence ≡ d.evidence → c ≡ d
  one_compared a b c d h k same =
      same_certificate c.measure d.measure c.level d.level c.first d.first c.second d.second c.evidence d.evidence
      (h.by_measure ∙ sym k.by_measure) (h.at_level ∙ sym k.at_level)
      (one_run a c.first d.first (there_number desk.runs c.first a h.runs.0) (there_number desk.runs d.first a k.runs.0))
      (one_run b c.second d.second (there_number desk.runs c.second b h.runs.1) (there_number desk.runs d.second b k.runs.1)) same

  one_said : (a b : ℕ) (c d : Certificate) (v : Verdict) → SaysOfVerdict Has name desk marks level a b c v → SaysOfVerdict Has name desk marks level a b d v → c ≡ d
  one_said a b c d Above h k =
      one_compared a b c d h.compares k.compares (h.bounds ∙ ap (λ ends. AboveBy (bounds_of _ desk ends)) (same_ends a b h.ends k.ends h.named k.named) ∙ sym k.bounds)
  one_said a b c d Below h k =
      one_compared b a c d h.compares k.compares (h.bounds ∙ ap (λ ends. AboveBy (bounds_of _ desk ends)) (same_ends b a h.ends k.ends h.named k.named) ∙ sym k.bounds)
  one_said a b c d Equal h k =
      one_compared a b c d h.compares k.compares (h.bounds ∙ ap (λ ends. EqualBy (bounds_of _ desk ends)) (same_ends a b h.ends k.ends h.named k.named) ∙ sym k.bounds)
  one_said a b c d Open h k = one_compared a b c d h.compares k.compares (h.cases ∙ sym k.cases)
  one_said a b c d Close h k = absurd h

  one_sums : (a b : ℕ) (t u : Totals) → ArePairSums Has (topics_under desk marks) a b t → ArePairSums Has (topics_under desk marks) a b u → t ≡ u
  one_sums a b t u h k = h.summed ∙ ap totals_of (same_ends a b h.ends k.ends h.named k.named) ∙ sym k.summed

  -- a close verdict has no certificate
  none_close : (a b : ℕ) (c : Certificate) (sums : Totals) → IsCertificateOf Has name desk marks level a b c → ArePairSums Has (topics_under desk marks) a b sums → verdict sums ≡ Close → ⊥
  none_close a b c sums h k close = subst (SaysOfVerdict Has name desk marks level a b c) (ap verdict (one_sums a b h.sums sums h.summed k) ∙ close) h.says

  pub one_answer_by : (a b : ℕ) (answer other : Result Certificate EvidenceFault) → IsAnswered Has name desk marks level a b answer → IsAnswered Has name desk marks level a b other → answer ≢ Err Memory → other ≢ Err Memory → answer ≡ other
  one_answer_by a b (Ok c) (Ok d) h k m n =
      ap Ok (one_said a b c d (verdict h.sums) h.says
      (subst (SaysOfVerdict Has name desk marks level a b d) (ap verdict (one_sums a b k.sums h.sums k.summed h.summed)) k.says))
  one_answer_by a b (Ok c) (Err (CloseBy sums)) h k m n = absurd (none_close a b c sums h k.0 k.1)
  one_answer_by a b (Err (CloseBy sums)) (Ok d) h k m n = absurd (none_close a b d sums k h.0 h.1)
  one_answer_by a b (Err (CloseBy sums)) (Err (CloseBy others)) h k m n = ap (λ t. Err (CloseBy t)) (one_sums a b sums others h.0 k.0)
  one_answer_by a b (Err Memory) other h k m n = absurd (m refl)
  one_answer_by a b answer (Err Memory) h k m n = absurd (n refl)

pub one_answer : (name : MeasureName) (desk : Desk) (marks : List (List Mark)) (level a b : ℕ) (answer other : Result Certificate EvidenceFault) →
    IsAnswered (HasEnds name) name desk marks level a b answer → IsAnswered (HasEnds name) name desk marks level a b other → answer ≢ Err Memory → other ≢ Err Memory → answer ≡ other
one_answer name desk marks level a b = one_answer_by (HasEnds name) (named_ends_unique name) name desk marks level a b

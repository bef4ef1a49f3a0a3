-- The certificate of two runs by a measure's name is evidence.
use Rattle.std.proofs.Common.{◌≡◌, ◌≢◌, ℕ, ◌+◌, ◌<◌, List, [], ◌∷◌, map, length, ℤ, pos, neg_ℤ, ◌≤ℤ◌, ◌<ℤ◌, refl, ap, sym, subst, arith}
use Rattle.std.specs.List.{AllZip, AllByRecursion, zip, enumerate_from}
use Rattle.std.proofs.lemmas.Int.{ints}
use Rattle.std.proofs.lemmas.List.Elements.{recursion_from_All}
use Rattle.desk_model.specs.Book.{Book, IsBook}
use Rattle.desk_model.specs.Desk.{Desk, IsDesk, AreMarksOf, ranking_of, topics_under}
use Rattle.desk_model.specs.Extremes.{Ends}
use Rattle.desk_model.specs.MeasureText.{IsMeasure}
use Rattle.desk_model.specs.Order.{Topic}
use Rattle.desk_model.specs.Verdict.{whole_sum, totals_of, verdict}
use Rattle.desk_model.specs.declared.types.Mark.{Mark}
use Rattle.desk_model.specs.declared.types.MeasureName.{MeasureName}
use Rattle.desk_model.specs.declared.types.Verdict.{Verdict}
use Rattle.desk_model.specs.declared.types.Verdict.TheVariants.{Above, Below, Equal, Open, Close}
use Rattle.desk_model.proofs.DeskTopics.{length-topics_under}
use Rattle.measure_laws.specs.Cases.{least_truth}
use Rattle.measure_laws.specs.Ends.{IsUpperEnd, IsLowerEnd}
use Rattle.measure_laws.proofs.CaseEnds.{least_case_upper, most_case_lower, named_swapped, upper_agree}
use Rattle.measure_laws.proofs.LeastCases.{least_truth-Completes}
use Rattle.measure_laws.proofs.Swapping.{swapped_ends}
use Rattle.measure_core.specs.Made.{HasEnds}
use Rattle.order_certificate.specs.Claim.{NamedTopic, named_topics, NamesTopics}
use Rattle.order_certificate.specs.Evidence.{AreLows, AreHighs, AreUnjudged, listed_truth, lows_of, highs_of, Shows, IsEvidence}
use Rattle.order_certificate.specs.declared.certificate.Certificate.{Certificate}
use Rattle.order_certificate.specs.declared.certificate.Evidence.{Evidence}
use Rattle.order_certificate.specs.declared.certificate.Evidence.TheVariants.{Above as AboveBy, Equal as EqualBy, Open as OpenBy}
use Rattle.order_certificate.specs.declared.certificate.TopicWitness.{TopicWitness}
use Rattle.pair_table.specs.Evidence.{bounds_of, relevant_names, witnesses_of, Compares, SaysOfVerdict, IsCertificateOf}
use Rattle.pair_table.specs.Numbers.{AreEndsOf}
use Rattle.pair_table.proofs.Certified.{bound_from, witness_from, length-ends, bounds_name, witnesses_name}
use Rattle.pair_table.proofs.DeskTopics.{topics_met}
use Rattle.pair_table.proofs.Documents.{listed_completes, listed_unjudged}
use Rattle.pair_table.proofs.Named.{ends_one}
use Rattle.pair_table.proofs.Orders.{MetBy}
use Rattle.pair_table.proofs.Verdicts.{above_says, below_says, equal_says, open_says}

abbrev named : Book × Topic → NamedTopic
named p = record { docs = p.0.docs; topic = p.1 }

-- a topic has as many marks as documents
abbrev pub Sized : Book → Topic → Type 0
Sized book topic = length topic.marks ≡ length book.docs

pub sized_from : (desk : Desk) (n : ℕ) (books : List Book) (marks : List (List Mark)) → AllZip (λ (book : Book) (m : List Mark). length m ≡ length book.docs) books marks →
    AllZip Sized books (map (λ (p : ℕ × List Mark). record { marks = p.1; ranking = λ run. ranking_of desk run p.0 }) (enumerate_from n marks))
sized_from desk n [] [] h = tt
sized_from desk n [] (m ∷ marks) h = absurd h
sized_from desk n (b ∷ books) [] h = absurd h
sized_from desk n (b ∷ books) (m ∷ marks) h = (h.0, sized_from desk (n + 1) books marks h.1)

-- ---- sums
low_values : (high : Ends → ℤ) (books : List Book) (ends : List Ends) → length ends ≡ length books → lows_of (map (bound_from high) (zip books ends)) ≡ map (λ (e : Ends). e.least_lo) ends
low_values high [] [] same = refl
low_values high [] (e ∷ ends) same = absurd (omega (arith, same))
low_values high (b ∷ books) [] same = absurd (omega (arith, same))
low_values high (b ∷ books) (e ∷ ends) same = ap (λ zs. e.least_lo ∷ zs) (low_values high books ends (omega (arith, same)))

high_values : (high : Ends → ℤ) (books : List Book) (ends : List Ends) → length ends ≡ length books → highs_of (map (bound_from high) (zip books ends)) ≡ map high ends
high_values high [] [] same = refl
high_values high [] (e ∷ ends) same = absurd (omega (arith, same))
high_values high (b ∷ books) [] same = absurd (omega (arith, same))
high_values high (b ∷ books) (e ∷ ends) same = ap (λ zs. high e ∷ zs) (high_values high books ends (omega (arith, same)))

pub swapped_sum : (ends : List Ends) → whole_sum (map (λ (e : Ends). e.least_lo) (map swapped_ends ends)) ≡ neg_ℤ (whole_sum (map (λ (e : Ends). e.most_hi) ends))
swapped_sum [] = refl
swapped_sum (e ∷ ends) = omega (arith, ints, swapped_sum ends)

not_above : (z : ℤ) → z ≤ℤ z
not_above z = omega (arith, ints)

module _ (m : MeasureName) (valid : IsMeasure m) (a b : ℕ) where
  abbrev Has : Ends → Topic → Type 0
  Has e topic = HasEnds m topic.marks (topic.ranking a) (topic.ranking b) e

  pub swapped_all : (ends : List Ends) (topics : List Topic) → AllByRecursion (MetBy a b) topics → AllZip Has ends topics → AreEndsOf m topics b a (map swapped_ends ends)
  swapped_all [] [] met h = tt
  swapped_all [] (t ∷ topics) met h = absurd h
  swapped_all (e ∷ ends) [] met h = absurd h
  swapped_all (e ∷ ends) (t ∷ topics) met h = (named_swapped m t.marks (t.ranking a) (t.ranking b) e valid met.0.first met.0.second h.0, swapped_all ends topics met.1 h.1)

  -- ---- bounds
  lows : (high : Ends → ℤ) (books : List Book) (topics : List Topic) (ends : List Ends) → length topics ≡ length books → AllZip Has ends topics → AreLows m a b (lows_of (map (bound_from high) (zip books ends))) (map named (zip books topics))
  lows high [] [] [] same h = tt
  lows high [] [] (e ∷ ends) same h = absurd h
  lows high [] (t ∷ topics) ends same h = absurd (omega (arith, same))
  lows high (x ∷ books) [] ends same h = absurd (omega (arith, same))
  lows high (x ∷ books) (t ∷ topics) [] same h = absurd h
  lows high (x ∷ books) (t ∷ topics) (e ∷ ends) same h = ((e, h.0, not_above e.least_lo), lows high books topics ends (omega (arith, same)) h.1)

  highs : (books : List Book) (topics : List Topic) (ends : List Ends) → length topics ≡ length books → AllZip Has ends topics → AreHighs m a b (highs_of (map (bound_from (λ e. e.most_hi)) (zip books ends))) (map named (zip books topics))
  highs [] [] [] same h = tt
  highs [] [] (e ∷ ends) same h = absurd h
  highs [] (t ∷ topics) ends same h = absurd (omega (arith, same))
  highs (x ∷ books) [] ends same h = absurd (omega (arith, same))
  highs (x ∷ books) (t ∷ topics) [] same h = absurd h
  highs (x ∷ books) (t ∷ topics) (e ∷ ends) same h = ((e, h.0, not_above e.most_hi), highs books topics ends (omega (arith, same)) h.1)

  -- ---- witnesses
  unjudged : (books : List Book) (topics : List Topic) → AllByRecursion IsBook books → AllZip Sized books topics →
      AllZip (λ (w : TopicWitness) t. AreUnjudged t w.low × AreUnjudged t w.high) (map (witness_from m a b) (zip books topics)) (map named (zip books topics))
  unjudged [] [] are h = tt
  unjudged [] (t ∷ topics) are h = absurd h
  unjudged (x ∷ books) [] are h = absurd h
  unjudged (x ∷ books) (t ∷ topics) are h = (
    (
      listed_unjudged x.docs are.0.ascending t.marks (least_truth m t.marks (t.ranking a) (t.ranking b)),
      listed_unjudged x.docs are.0.ascending t.marks (least_truth m t.marks (t.ranking b) (t.ranking a)),
    ),
    unjudged books topics are.1 h.1,
  )

  -- the listed documents make the least and the most case
  low_end : (x : Book) (t : Topic) (e : Ends) → IsBook x → Sized x t → MetBy a b t → Has e t →
      IsUpperEnd m (length t.marks) (listed_truth (named (x, t)) (relevant_names x.docs t.marks (least_truth m t.marks (t.ranking a) (t.ranking b)))) (t.ranking a) (t.ranking b) e.least_hi
  low_end x t e is_book size met h =
      let truth = least_truth m t.marks (t.ranking a) (t.ranking b) in
      upper_agree m (length t.marks) truth (listed_truth (named (x, t)) (relevant_names x.docs t.marks truth)) (t.ranking a) (t.ranking b) e.least_hi met.first met.second
      (λ doc lt. sym (listed_completes x.docs is_book.ascending t.marks truth (least_truth-Completes m t.marks (t.ranking a) (t.ranking b)) size doc (omega (arith, lt, size))))
      (least_case_upper m t.marks (t.ranking a) (t.ranking b) e valid met.first met.second h)

  high_end : (x : Book) (t : Topic) (e : Ends) → IsBook x → Sized x t → MetBy a b t → Has e t →
      IsLowerEnd m (length t.marks) (listed_truth (named (x, t)) (relevant_names x.docs t.marks (least_truth m t.marks (t.ranking b) (t.ranking a)))) (t.ranking a) (t.ranking b) e.most_lo
  high_end x t e is_book size met h =
      let truth = least_truth m t.marks (t.ranking b) (t.ranking a) in
      upper_agree m (length t.marks) truth (listed_truth (named (x, t)) (relevant_names x.docs t.marks truth)) (t.ranking b) (t.ranking a) (neg_ℤ e.most_lo) met.second met.first
      (λ doc lt. sym (listed_completes x.docs is_book.ascending t.marks truth (least_truth-Completes m t.marks (t.ranking b) (t.ranking a)) size doc (omega (arith, lt, size))))
      (most_case_lower m t.marks (t.ranking a) (t.ranking b) e valid met.first met.second h)

  low_ends : (books : List Book) (topics : List Topic) (ends : List Ends) → AllByRecursion IsBook books → AllZip Sized books topics → AllByRecursion (MetBy a b) topics → AllZip Has ends topics →
      AllZip (λ end (p : TopicWitness × NamedTopic). IsUpperEnd m (length p.1.topic.marks) (listed_truth p.1 p.0.low) (p.1.topic.ranking a) (p.1.topic.ranking b) end) (map (λ (e : Ends). e.least_hi) ends)
      (zip (map (witness_from m a b) (zip books topics)) (map named (zip books topics)))
  low_ends [] [] [] are size met h = tt
  low_ends [] [] (e ∷ ends) are size met h = absurd h
  low_ends [] (t ∷ topics) ends are size met h = absurd size
  low_ends (x ∷ books) [] ends are size met h = absurd size
  low_ends (x ∷ books) (t ∷ topics) [] are size met h = absurd h
  low_ends (x ∷ books) (t ∷ topics) (e ∷ ends) are size met h = (low_end x t e are.0 size.0 met.0 h.0, low_ends books topics ends are.1 size.1 met.1 h.1)

  high_ends : (books : List Book) (topics : List Topic) (ends : List Ends) → AllByRecursion IsBook books → AllZip Sized books topics → AllByRecursion (MetBy a b) topics → AllZip Has ends topics →
      AllZip (λ end (p : TopicWitness × NamedTopic). IsLowerEnd m (length p.1.topic.marks) (listed_truth p.1 p.0.high) (p.1.topic.ranking a) (p.1.topic.ranking b) end) (map (λ (e : Ends). e.most_lo) ends)
      (zip (map (witness_from m a b) (zip books topics)) (map named (zip books topics)))
  high_ends [] [] [] are size met h = tt
  high_ends [] [] (e ∷ ends) are size met h = absurd h
  high_ends [] (t ∷ topics) ends are size met h = absurd size
  high_ends (x ∷ books) [] ends are size met h = absurd size
  high_ends (x ∷ books) (t ∷ topics) [] are size met h = absurd h
  high_ends (x ∷ books) (t ∷ topics) (e ∷ ends) are size met h = (high_end x t e are.0 size.0 met.0 h.0, high_ends books topics ends are.1 size.1 met.1 h.1)

-- ---- the certificate
module _ (m : MeasureName) (valid : IsMeasure m) (desk : Desk) (marks : List (List Mark)) (level : ℕ) (is_desk : IsDesk desk) (known : AreMarksOf desk marks) where
  counted : length (topics_under desk marks) ≡ length desk.topics
  counted = length-topics_under desk marks known

  evident : (a b : ℕ) (c : Certificate) (e : Evidence) → a ≢ b → Compares m desk level a b c → c.evidence ≡ e → NamesTopics e desk → Shows m (named_topics desk marks) a b e → IsEvidence c desk marks
  evident a b c e apart h is topics shown = record {
    first = a;
    second = b;
    runs = h.runs;
    two_runs = apart;
    topics = subst (λ x. NamesTopics x desk) (sym is) topics;
    shows = subst (λ x. Shows x (named_topics desk marks) a b c.evidence) (sym h.by_measure) (subst (Shows m (named_topics desk marks) a b) (sym is) shown);
  }

  shown_above : (a b : ℕ) (ends : List Ends) → AreEndsOf m (topics_under desk marks) a b ends → pos 0 <ℤ whole_sum (map (λ (e : Ends). e.least_lo) ends) → Shows m (named_topics desk marks) a b (AboveBy (bounds_of (λ _. pos 0) desk ends))
  shown_above a b ends h positive = (
    lows m valid a b (λ _. pos 0) desk.topics (topics_under desk marks) ends counted h,
    subst (λ zs. pos 0 <ℤ whole_sum zs) (sym (low_values (λ _. pos 0) desk.topics ends (length-ends (HasEnds m) desk marks a b ends known h))) positive,
  )

  shown_equal : (a b : ℕ) (ends : List Ends) → AreEndsOf m (topics_under desk marks) a b ends → whole_sum (map (λ (e : Ends). e.least_lo) ends) ≡ pos 0 → whole_sum (map (λ (e : Ends). e.most_hi) ends) ≡ pos 0 →
      Shows m (named_topics desk marks) a b (EqualBy (bounds_of (λ e. e.most_hi) desk ends))
  shown_equal a b ends h low high =
      let count = length-ends (HasEnds m) desk marks a b ends known h in (
        lows m valid a b (λ e. e.most_hi) desk.topics (topics_under desk marks) ends counted h,
        highs m valid a b desk.topics (topics_under desk marks) ends counted h,
        subst (λ zs. pos 0 ≤ℤ whole_sum zs) (sym (low_values (λ e. e.most_hi) desk.topics ends count)) (subst (λ z. pos 0 ≤ℤ z) (sym low) (not_above (pos 0))),
        subst (λ zs. whole_sum zs ≤ℤ pos 0) (sym (high_values (λ e. e.most_hi) desk.topics ends count)) (subst (λ z. z ≤ℤ pos 0) (sym high) (not_above (pos 0))),
      )

  shown_open : (a b : ℕ) (ends : List Ends) → a < length desk.runs → b < length desk.runs → AreEndsOf m (topics_under desk marks) a b ends → verdict (totals_of ends) ≡ Open → Shows m (named_topics desk marks) a b (OpenBy (witnesses_of m desk marks a b))
  shown_open a b ends in_a in_b h open_ =
      let are = recursion_from_All IsBook desk.topics is_desk.books in
      let size = sized_from desk 0 desk.topics marks known in
      let met = topics_met desk marks is_desk known a b in_a in_b in (
        unjudged m valid a b desk.topics (topics_under desk marks) are size,
        (totals_of ends).least_hi,
        (totals_of ends).most_lo,
        (map (λ (e : Ends). e.least_hi) ends, low_ends m valid a b desk.topics (topics_under desk marks) ends are size met h, refl),
        (map (λ (e : Ends). e.most_lo) ends, high_ends m valid a b desk.topics (topics_under desk marks) ends are size met h, refl),
        open_says (totals_of ends) open_,
      )

  said_evidence : (a b : ℕ) (c : Certificate) (ends : List Ends) (v : Verdict) → a ≢ b → a < length desk.runs → b < length desk.runs → AreEndsOf m (topics_under desk marks) a b ends → verdict (totals_of ends) ≡ v →
      SaysOfVerdict (HasEnds m) m desk marks level a b c v → IsEvidence c desk marks
  said_evidence a b c ends Above apart in_a in_b h is s =
      let same = ends_one m (topics_under desk marks) a b ends s.ends h s.named in
      evident a b c _ apart s.compares s.bounds (bounds_name (λ _. pos 0) desk s.ends (length-ends (HasEnds m) desk marks a b s.ends known s.named))
      (shown_above a b s.ends s.named (subst (λ xs. pos 0 <ℤ whole_sum (map (λ (e : Ends). e.least_lo) xs)) same (above_says (totals_of ends) is)))
  said_evidence a b c ends Below apart in_a in_b h is s =
      let swapped = swapped_all m valid a b ends (topics_under desk marks) (topics_met desk marks is_desk known a b in_a in_b) h in
      let same = ends_one m (topics_under desk marks) b a (map swapped_ends ends) s.ends swapped s.named in
      let negative = below_says (totals_of ends) is in
      let positive : pos 0 <ℤ whole_sum (map (λ (e : Ends). e.least_lo) (map swapped_ends ends)) = subst (λ z. pos 0 <ℤ z) (sym (swapped_sum ends)) (above_zero (totals_of ends).most_hi negative) in
      evident b a c _ (λ e. apart (sym e)) s.compares s.bounds (bounds_name (λ _. pos 0) desk s.ends (length-ends (HasEnds m) desk marks b a s.ends known s.named))
      (shown_above b a s.ends s.named (subst (λ xs. pos 0 <ℤ whole_sum (map (λ (e : Ends). e.least_lo) xs)) same positive))
    where
      above_zero : (z : ℤ) → z <ℤ pos 0 → pos 0 <ℤ neg_ℤ z
      above_zero z k = omega (arith, ints)
  said_evidence a b c ends Equal apart in_a in_b h is s =
      let same = ends_one m (topics_under desk marks) a b ends s.ends h s.named in
      let both = equal_says (totals_of ends) is in
      evident a b c _ apart s.compares s.bounds (bounds_name (λ e. e.most_hi) desk s.ends (length-ends (HasEnds m) desk marks a b s.ends known s.named))
      (shown_equal a b s.ends s.named (subst (λ xs. whole_sum (map (λ (e : Ends). e.least_lo) xs) ≡ pos 0) same both.0) (subst (λ xs. whole_sum (map (λ (e : Ends). e.most_hi) xs) ≡ pos 0) same both.1))
  said_evidence a b c ends Open apart in_a in_b h is s =
      evident a b c _ apart s.compares s.cases (witnesses_name m desk marks a b known) (shown_open a b ends in_a in_b h is)
  said_evidence a b c ends Close apart in_a in_b h is s = absurd s

  said_measure : (a b : ℕ) (c : Certificate) (v : Verdict) → SaysOfVerdict (HasEnds m) m desk marks level a b c v → c.measure ≡ m
  said_measure a b c Above s = s.compares.by_measure
  said_measure a b c Below s = s.compares.by_measure
  said_measure a b c Equal s = s.compares.by_measure
  said_measure a b c Open s = s.compares.by_measure
  said_measure a b c Close s = absurd s

pub certificate_measure : (name : MeasureName) (desk : Desk) (marks : List (List Mark)) (level a b : ℕ) (c : Certificate) → IsMeasure name → IsDesk desk → AreMarksOf desk marks → IsCertificateOf (HasEnds name) name desk marks level a b c → c.measure ≡ name
certificate_measure name desk marks level a b c valid is_desk known h = said_measure name valid desk marks level is_desk known a b c (verdict h.sums) h.says

pub answered_evidence : (name : MeasureName) (desk : Desk) (marks : List (List Mark)) (level a b : ℕ) (c : Certificate) → IsMeasure name → IsDesk desk → AreMarksOf desk marks →
    a ≢ b → a < length desk.runs → b < length desk.runs → IsCertificateOf (HasEnds name) name desk marks level a b c → IsEvidence c desk marks
answered_evidence name desk marks level a b c valid is_desk known apart in_a in_b h =
    said_evidence name valid desk marks level is_desk known a b c h.summed.ends (verdict h.sums) apart in_a in_b h.summed.named (ap verdict (sym h.summed.summed)) h.says

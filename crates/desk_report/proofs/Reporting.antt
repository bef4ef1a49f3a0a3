-- What a table says of its desk and of two runs, by the name of its measure.
use Rattle.std.proofs.Common.{◌≡◌, ℕ, ◌*◌, ◌<◌, List, [], length, get_or, ℤ, pos, neg_ℤ, ◌≤ℤ◌, Result, Ok, Err, Option, Some, inl, inr, ap, sym, subst, ◌∙◌, arith}
use Rattle.std.specs.Prelude.{All, map, slice_get, unwrap_or}
use Rattle.std.specs.List.{zip}
use Rattle.std.proofs.lemmas.Int.{ints}
use Rattle.std.proofs.lemmas.Option.{unwrap_or-slice_get}
use Rattle.std.proofs.lemmas.Slice.Zip.{get_or-zip, length-zip}
use Rattle.std.proofs.Math.Nat.{min-le_left, min-le_right}
use Rattle.desk_model.specs.Desk.{Desk, IsDesk, AreMarksOf, topics_under}
use Rattle.desk_model.specs.Pairs.{pairs_of}
use Rattle.desk_model.specs.Verdict.{verdict}
use Rattle.desk_model.specs.declared.types.Mark.{Mark}
use Rattle.desk_model.specs.declared.types.MeasureName.{MeasureName}
use Rattle.desk_model.specs.declared.types.Totals.{Totals}
use Rattle.desk_model.specs.declared.types.Verdict.{Verdict}
use Rattle.topic_counts.specs.declared.span.Span.{Span}
use Rattle.measure_laws.specs.Measures.{unit_of}
use Rattle.measure_core.specs.Laws.{MeetsLaws}
use Rattle.measure_core.specs.Made.{HasEnds}
use Rattle.measure_core.specs.declared.cell.Cell.{Cell}
use Rattle.order_bundle.specs.Scoped.{IsScoped, scoped_text}
use Rattle.order_bundle.specs.declared.any_certificate.AnyCertificate.TheVariants.{One}
use Rattle.order_certificate.specs.declared.certificate.Certificate.{Certificate}
use Rattle.pair_table.specs.Evidence.{IsAnswered}
use Rattle.pair_table.specs.Kept.{HeldSums, AreSumsOf, AreModestTotals}
use Rattle.pair_table.specs.Numbers.{HasCellEnds, ArePairNumbers, AreNumbersIn}
use Rattle.pair_table.specs.Sums.{run_numbers, swapped_totals}
use Rattle.pair_table.specs.declared.evidence.EvidenceFault.{EvidenceFault}
use Rattle.pair_table.specs.declared.evidence.EvidenceFault.TheVariants.{Close}
use Rattle.pair_table.proofs.Answered.{named_answer}
use Rattle.pair_table.proofs.DeskTopics.{topics_met}
use Rattle.pair_table.proofs.Named.{pair_named, table_named}
use Rattle.pair_table.proofs.Saying.{standing_sums}
use Rattle.next_document.specs.Kept.{HeldTotals as Weights, AreKeptFor, IsNextWhereKept}
use Rattle.next_document.specs.Proposal.{Standing, IsNext}
use Rattle.next_document.specs.Total.{standing}
use Rattle.next_document.specs.declared.proposal.Proposal.{Proposal}
use Rattle.desk_report.specs.Close.{close_line}
use Rattle.desk_report.specs.Judging.{next_line}
use Rattle.desk_report.specs.Table.{AreNearTotals, table_text, pair_line, ended}
use Rattle.desk_report.specs.Reports.{Subject, IsSubjectOf, IsTableText, IsPairText, IsCertificateText, IsCloseText, IsNextText, AreWeightsOf, standing_of, run_name, AreRuns}

-- ---- the sums of two runs are not large
one_of : (pairs : List (ℕ × ℕ)) (totals : List Totals) (k : ℕ) (pair : ℕ × ℕ) (sums : Totals) → All AreModestTotals totals → k < length (zip pairs totals) → get_or (zip pairs totals) k (pair, sums) ≡ (pair, sums) → AreModestTotals sums
one_of pairs totals k pair sums modest lt is =
    let in_pairs : k < length pairs = omega (arith, lt, length-zip pairs totals, min-le_left (length pairs) (length totals)) in
    let in_totals : k < length totals = omega (arith, lt, length-zip pairs totals, min-le_right (length pairs) (length totals)) in
    let there : get_or totals k sums ≡ sums = ap (λ (p : (ℕ × ℕ) × Totals). p.1) (sym (get_or-zip pairs totals k (pair, sums) in_pairs in_totals) ∙ is) in
    subst AreModestTotals there (modest k sums in_totals)

low_back : (n : ℕ) (z : ℤ) → neg_ℤ z ≤ℤ pos n → neg_ℤ (pos n) ≤ℤ z
low_back n z h = omega (arith, ints)

high_back : (n : ℕ) (z : ℤ) → neg_ℤ (pos n) ≤ℤ neg_ℤ z → z ≤ℤ pos n
high_back n z h = omega (arith, ints)

pub sums_are_near : (runs : ℕ) (totals : List Totals) (a b : ℕ) (sums : Totals) → All AreModestTotals totals → AreSumsOf runs totals a b sums → AreNearTotals sums
sums_are_near runs totals a b sums modest (inl (k, lt, is)) =
    let all = one_of (pairs_of (run_numbers runs)) totals k (a, b) sums modest lt is in (all.0, all.3)
sums_are_near runs totals a b sums modest (inr (k, lt, is)) =
    let all = one_of (pairs_of (run_numbers runs)) totals k (b, a) (swapped_totals sums) modest lt is in
    ((low_back _ sums.least_lo all.3.1, high_back _ sums.least_lo all.3.0), (low_back _ sums.most_hi all.0.1, high_back _ sums.most_hi all.0.0))

-- ---- names of runs
named_run : (desk : Desk) (run : ℕ) (name : List ℕ) → slice_get desk.runs run ≡ Some name → name ≡ run_name desk run
named_run desk run name is = sym (ap (λ o. unwrap_or o []) is) ∙ unwrap_or-slice_get desk.runs run []

-- ---- the next document by totals that are kept
pub kept_next_is : (desk : Desk) (marks : List (List Mark)) (weights : Weights) (proposal : Option Proposal) (s : Subject) (text : List ℕ) → IsDesk desk → AreMarksOf desk marks → IsNextWhereKept marks weights proposal →
    s.desk ≡ desk → s.marks ≡ marks → AreWeightsOf s weights → text ≡ ended (next_line desk proposal) → IsNextText s text
kept_next_is desk marks weights proposal s text valid known next over marked of is =
    let kept : AreKeptFor s.measure desk marks weights = subst (λ d. AreKeptFor s.measure d marks weights) over (subst (λ ms. AreKeptFor s.measure s.desk ms weights) marked of.kept) in
    let same : standing s.measure desk marks weights.verdicts ≡ standing_of s of.totals = λ i. record { measure = s.measure; desk = sym over i; marks = sym marked i; verdicts = of.decided i } in
    record {
      valid = subst IsDesk (sym over) valid;
      totals = of.totals;
      summed = of.summed;
      proposal = proposal;
      next = subst (λ (standing : Standing). IsNext standing proposal) same (next s.measure desk valid known kept).next;
      is = is ∙ ap (λ d. ended (next_line d proposal)) (sym over);
    }

-- ---- texts
module _ {M : Type 0} (measured : MeasureName) (cell : List Mark → List ℕ → List ℕ → Cell) (bounds : List Mark → List ℕ → Span) (desk : Desk) (valid : IsDesk desk) (sums : HeldSums M) (s : Subject) (of : IsSubjectOf measured cell bounds desk sums s) where
  valid_too : IsDesk s.desk
  valid_too = subst IsDesk (sym of.over) valid

  runs_too : (a b : ℕ) → AreRuns desk a b → AreRuns s.desk a b
  runs_too a b h = subst (λ d. AreRuns d a b) (sym of.over) h

  named_too : (run : ℕ) (name : List ℕ) → slice_get desk.runs run ≡ Some name → name ≡ run_name s.desk run
  named_too run name is = named_run desk run name is ∙ ap (λ d. run_name d run) (sym of.over)

  pub table_numbers : AreNumbersIn s.measure s.desk s.marks sums.bounds sums.totals
  table_numbers =
      subst (λ b. AreNumbersIn s.measure s.desk s.marks b sums.totals) (sym of.on.stands.bounds)
      (subst (AreNumbersIn s.measure s.desk s.marks _) (sym of.on.stands.totals) (table_named s.measure cell bounds s.desk s.marks of.on.made.numbers valid_too of.marked))

  pub table_is : (level : ℕ) (depth : Option ℕ) (name : MeasureName) (unit : ℤ) (text : List ℕ) → s.level ≡ level → s.depth ≡ depth → name ≡ measured → unit ≡ pos (unit_of measured) → text ≡ table_text desk name level depth unit sums.bounds sums.totals → IsTableText s text
  table_is level depth name unit text at under named units is = record {
    valid = valid_too;
    bounds = sums.bounds;
    totals = sums.totals;
    numbers = table_numbers;
    is = is ∙ ap (λ d. table_text d name level depth unit sums.bounds sums.totals) (sym of.over)
        ∙ ap (λ m. table_text s.desk m level depth unit sums.bounds sums.totals) (named ∙ of.on.made.named)
        ∙ ap (λ l. table_text s.desk s.measure l depth unit sums.bounds sums.totals) (sym at)
        ∙ ap (λ o. table_text s.desk s.measure s.level o unit sums.bounds sums.totals) (sym under)
        ∙ ap (λ u. table_text s.desk s.measure s.level s.depth u sums.bounds sums.totals) (units ∙ ap (λ m. pos (unit_of m)) of.on.made.named);
  }

  pub next_is : (marks : List (List Mark)) (measure : MeasureName) (verdicts : List Verdict) (proposal : Option Proposal) (text : List ℕ) → s.marks ≡ marks → measure ≡ measured → verdicts ≡ map verdict sums.totals →
      IsNext (record { measure = measure; desk = desk; marks = marks; verdicts = verdicts }) proposal → text ≡ ended (next_line desk proposal) → IsNextText s text
  next_is marks measure verdicts proposal text marked named decided next is =
      let name : measure ≡ s.measure = named ∙ of.on.made.named in
      let same : record { measure = measure; desk = desk; marks = marks; verdicts = verdicts } ≡ standing_of s sums.totals =
      λ i. record { measure = name i; desk = sym of.over i; marks = sym marked i; verdicts = decided i } in
      record {
        valid = valid_too;
        totals = sums.totals;
        summed = table_numbers.pairs;
        proposal = proposal;
        next = subst (λ (standing : Standing). IsNext standing proposal) same next;
        is = is ∙ ap (λ d. ended (next_line d proposal)) (sym of.over);
      }

  pair_numbers : (a b : ℕ) (totals : Totals) → MeetsLaws measured cell bounds → AreRuns desk a b → AreSumsOf sums.runs sums.totals a b totals → ArePairNumbers s.measure (topics_under s.desk s.marks) a b totals
  pair_numbers a b totals laws runs h =
      let topics = topics_under s.desk s.marks in
      let there = runs_too a b runs in
      subst (ArePairNumbers s.measure topics a b) (sym (standing_sums measured cell bounds s.desk s.marks a b totals sums laws valid_too of.marked of.on.stands h))
      (pair_named s.measure cell bounds of.on.made.numbers topics a b (topics_met s.desk s.marks valid_too of.marked a b there.first there.second))

  pub pair_is : (a b : ℕ) (totals : Totals) (parts : ℕ) (x y : List ℕ) (text : List ℕ) → MeetsLaws measured cell bounds → AreRuns desk a b → AreSumsOf sums.runs sums.totals a b totals → parts ≡ unit_of measured * length desk.topics →
      slice_get desk.runs a ≡ Some x → slice_get desk.runs b ≡ Some y → text ≡ ended (pair_line parts x y totals) → IsPairText s a b text
  pair_is a b totals parts x y text laws runs h units first second is =
      let same : parts ≡ unit_of s.measure * length s.desk.topics = units ∙ ap (λ m. unit_of m * length desk.topics) of.on.made.named ∙ ap (λ (d : Desk). unit_of s.measure * length d.topics) (sym of.over) in
      record {
        valid = valid_too;
        runs = runs_too a b runs;
        totals = totals;
        summed = pair_numbers a b totals laws runs h;
        is = is ∙ ap (λ p. ended (pair_line p x y totals)) same ∙ ap (λ n. ended (pair_line (unit_of s.measure * length s.desk.topics) n y totals)) (named_too a x first)
            ∙ ap (λ n. ended (pair_line (unit_of s.measure * length s.desk.topics) (run_name s.desk a) n totals)) (named_too b y second);
      }

  answered_by_name : (level a b : ℕ) (marks : List (List Mark)) (answer : Result Certificate EvidenceFault) → s.level ≡ level → s.marks ≡ marks → AreRuns desk a b → IsAnswered (HasCellEnds cell) measured desk marks level a b answer →
      IsAnswered (HasEnds s.measure) s.measure s.desk s.marks s.level a b answer
  answered_by_name level a b marks answer at marked runs h =
      let there = runs_too a b runs in
      named_answer s.measure cell bounds s.desk s.marks s.level a b answer of.on.made.numbers valid_too of.marked there.first there.second
      (subst (λ m. IsAnswered (HasCellEnds cell) m s.desk s.marks s.level a b answer) of.on.made.named
      (subst (λ d. IsAnswered (HasCellEnds cell) measured d s.marks s.level a b answer) (sym of.over)
      (subst (λ ms. IsAnswered (HasCellEnds cell) measured desk ms s.level a b answer) (sym marked)
      (subst (λ l. IsAnswered (HasCellEnds cell) measured desk marks l a b answer) (sym at) h))))

  pub certificate_is : (level : ℕ) (depth : Option ℕ) (a b : ℕ) (marks : List (List Mark)) → s.level ≡ level → s.depth ≡ depth → s.marks ≡ marks → AreRuns desk a b → (c : Certificate) (text : List ℕ) → IsScoped (record { depth = depth; body = One c }) → IsAnswered (HasCellEnds cell) measured desk marks level a b (Ok c) →
      text ≡ scoped_text (record { depth = depth; body = One c }) → IsCertificateText s a b text
  certificate_is level depth a b marks at under marked runs c text within h is = record {
    valid = valid_too;
    runs = runs_too a b runs;
    certificate = c;
    within = subst (λ o. IsScoped (record { depth = o; body = One c })) (sym under) within;
    of_pair = answered_by_name level a b marks (Ok c) at marked runs h;
    is = is ∙ ap (λ o. scoped_text (record { depth = o; body = One c })) (sym under);
  }

  pub close_is : (level a b : ℕ) (marks : List (List Mark)) → s.level ≡ level → s.marks ≡ marks → AreRuns desk a b → (totals : Totals) (x y text : List ℕ) → IsAnswered (HasCellEnds cell) measured desk marks level a b (Err (Close totals)) →
      slice_get desk.runs a ≡ Some x → slice_get desk.runs b ≡ Some y → text ≡ ended (close_line x y totals) → IsCloseText s a b text
  close_is level a b marks at marked runs totals x y text h first second is =
      let answer = answered_by_name level a b marks (Err (Close totals)) at marked runs h in
      record {
        valid = valid_too;
        runs = runs_too a b runs;
        totals = totals;
        summed = answer.0;
        close = answer.1;
        is = is ∙ ap (λ n. ended (close_line n y totals)) (named_too a x first) ∙ ap (λ n. ended (close_line (run_name s.desk a) n totals)) (named_too b y second);
      }

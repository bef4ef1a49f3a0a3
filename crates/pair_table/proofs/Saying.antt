-- What is said of two runs by their cells.
use Rattle.std.proofs.Common.{◌≡◌, ℕ, List, [], ◌∷◌, length, Result, Ok, Err, subst, refl}
use Rattle.std.specs.Prelude.{IfOk}
use Rattle.std.specs.List.{AllByRecursion}
use Rattle.desk_model.specs.Desk.{Desk, IsDesk, AreMarksOf, topics_under}
use Rattle.desk_model.specs.Extremes.{Ends}
use Rattle.desk_model.specs.Order.{Topic}
use Rattle.desk_model.specs.Verdict.{verdict}
use Rattle.desk_model.specs.declared.types.Mark.{Mark}
use Rattle.desk_model.specs.declared.types.MeasureName.{MeasureName}
use Rattle.desk_model.specs.declared.types.Totals.{Totals}
use Rattle.desk_model.specs.declared.types.Verdict.{Verdict}
use Rattle.topic_counts.specs.declared.span.Span.{Span}
use Rattle.measure_core.specs.Laws.{MeetsLaws}
use Rattle.measure_core.specs.Made.{ends_of}
use Rattle.measure_core.specs.declared.cell.Cell.{Cell}
use Rattle.order_certificate.specs.declared.certificate.Certificate.{Certificate}
use Rattle.pair_table.specs.Numbers.{HasCellEnds, AreEndsBy, ArePairSums}
use Rattle.pair_table.specs.Evidence.{SaysOfVerdict, IsCertificateOf}
use Rattle.pair_table.specs.Kept.{HeldSums, Kept, AreSumsOf, SumsStandFor, table_sums}
use Rattle.pair_table.specs.Made.{IsSumsOf, IsTableOf}
use Rattle.pair_table.specs.Sums.{cell_ends, pair_sums}
use Rattle.pair_table.proofs.Swapped.{exact_in_both}
use Rattle.pair_table.proofs.Zips.{zip_made}

pub if_ok_both : {A E : Type 0} (r : Result A E) (P Q R : A → Type 0) → ((x : A) → P x → Q x → R x) → IfOk r P → IfOk r Q → IfOk r R
if_ok_both (Ok x) P Q R f p q = f x p q
if_ok_both (Err e) P Q R f p q = tt

each_itself : {X Y : Type 0} (f : X → Y) (xs : List X) → AllByRecursion (λ x. f x ≡ f x) xs
each_itself f [] = tt
each_itself f (x ∷ xs) = (refl, each_itself f xs)

pub cells_named : (cell : List Mark → List ℕ → List ℕ → Cell) (topics : List Topic) (a b : ℕ) → AreEndsBy (HasCellEnds cell) topics a b (cell_ends cell topics a b)
cells_named cell topics a b =
    let f : Topic → Ends = λ topic. ends_of (cell topic.marks (topic.ranking a) (topic.ranking b)) in
    zip_made (λ e topic. e ≡ f topic) f topics (each_itself f topics)

-- the sums of two runs, where those of a table stand for a desk under marks
pub standing_sums : {M : Type 0} (name : MeasureName) (cell : List Mark → List ℕ → List ℕ → Cell) (bounds : List Mark → List ℕ → Span) (desk : Desk) (marks : List (List Mark)) (i j : ℕ) (totals : Totals) (sums : HeldSums M) →
    MeetsLaws name cell bounds → IsDesk desk → AreMarksOf desk marks → SumsStandFor cell bounds desk marks sums → AreSumsOf sums.runs sums.totals i j totals → totals ≡ pair_sums cell (topics_under desk marks) i j
standing_sums name cell bounds desk marks i j totals sums laws is_desk known stands h =
    exact_in_both name cell bounds desk marks i j totals laws is_desk known
    (subst (λ ts. AreSumsOf (length desk.runs) ts i j totals) stands.totals (subst (λ n. AreSumsOf n sums.totals i j totals) stands.runs h))

pub summed_cells : (cell : List Mark → List ℕ → List ℕ → Cell) (topics : List Topic) (a b : ℕ) (sums : Totals) → sums ≡ pair_sums cell topics a b → ArePairSums (HasCellEnds cell) topics a b sums
unfolding pair_sums
summed_cells cell topics a b sums e = record { ends = cell_ends cell topics a b; named = cells_named cell topics a b; summed = e }

pub answered_by : (cell : List Mark → List ℕ → List ℕ → Cell) (measure : MeasureName) (desk : Desk) (marks : List (List Mark)) (level a b : ℕ) (c : Certificate) (sums : Totals) (v : Verdict) →
    sums ≡ pair_sums cell (topics_under desk marks) a b → v ≡ verdict sums → SaysOfVerdict (HasCellEnds cell) measure desk marks level a b c v → IsCertificateOf (HasCellEnds cell) measure desk marks level a b c
answered_by cell measure desk marks level a b c sums v e is said = record {
  sums = sums;
  summed = summed_cells cell (topics_under desk marks) a b sums e;
  says = subst (SaysOfVerdict (HasCellEnds cell) measure desk marks level a b c) is said;
}

-- the sums of a table of a name's measure are those of the name
pub sums_too : {M : Type 0} (measured : MeasureName) (cell : List Mark → List ℕ → List ℕ → Cell) (bound : List Mark → List ℕ → Span) (name : MeasureName) (desk : Desk) (marks : List (List Mark)) (table : Kept M) →
    IsTableOf measured cell bound name desk marks table → IsSumsOf measured cell bound name desk marks (table_sums table)
sums_too measured cell bound name desk marks table h = record { made = h.made; stands = h.stands.sums }

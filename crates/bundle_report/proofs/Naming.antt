-- A bundle by the cells of a table is one of what the table speaks of.
use Rattle.std.proofs.Common.{◌≡◌, ℕ, List, length, ap, sym, subst, ◌∙◌}
use Rattle.std.specs.Prelude.{Option}
use Rattle.desk_model.specs.Desk.{Desk, IsDesk, AreMarksOf}
use Rattle.desk_model.specs.declared.types.Mark.{Mark}
use Rattle.desk_model.specs.declared.types.MeasureName.{MeasureName}
use Rattle.topic_counts.specs.declared.span.Span.{Span}
use Rattle.measure_core.specs.Made.{HasEnds, AreNumbersOfName}
use Rattle.measure_core.specs.declared.cell.Cell.{Cell}
use Rattle.order_bundle.specs.Bundle.{Bundle}
use Rattle.order_bundle.specs.Scoped.{IsScoped, scoped_text}
use Rattle.order_bundle.specs.declared.any_certificate.AnyCertificate.TheVariants.{Many}
use Rattle.pair_table.specs.Kept.{HeldSums}
use Rattle.pair_table.specs.Numbers.{HasCellEnds}
use Rattle.table_bundle.specs.Bundles.{IsBundleOf}
use Rattle.desk_report.specs.Reports.{Subject, IsSubjectOf}
use Rattle.bundle_report.specs.Bundled.{IsBundleOn, certificate_on, text_on}

-- a bundle by the cells of a measure with a name's numbers is one by that name
abbrev pub BundlesAreOfNames : Type 0
BundlesAreOfNames =
    (name : MeasureName) (cell : List Mark → List ℕ → List ℕ → Cell) (bounds : List Mark → List ℕ → Span) (desk : Desk) (marks : List (List Mark)) (level : ℕ) (b : Bundle) →
    AreNumbersOfName name cell bounds → IsDesk desk → AreMarksOf desk marks → IsBundleOf (HasCellEnds cell) name desk marks level b → IsBundleOf (HasEnds name) name desk marks level b

pub bundle_on : BundlesAreOfNames → {M : Type 0} (measured : MeasureName) (cell : List Mark → List ℕ → List ℕ → Cell) (bounds : List Mark → List ℕ → Span) (desk : Desk) (sums : HeldSums M) (s : Subject) (level : ℕ) (marks : List (List Mark)) →
    IsDesk desk → s.level ≡ level → s.marks ≡ marks → IsSubjectOf measured cell bounds desk sums s → (b : Bundle) → IsBundleOf (HasCellEnds cell) measured desk marks level b → IsBundleOn s b
bundle_on by_name measured cell bounds desk sums s level marks valid at marked of b h =
    let there : IsDesk s.desk = subst IsDesk (sym of.over) valid in
    let moved : IsBundleOf (HasCellEnds cell) s.measure s.desk s.marks s.level b =
    subst (λ m. IsBundleOf (HasCellEnds cell) m s.desk s.marks s.level b) of.on.made.named
    (subst (λ d. IsBundleOf (HasCellEnds cell) measured d s.marks s.level b) (sym of.over)
    (subst (λ ms. IsBundleOf (HasCellEnds cell) measured desk ms s.level b) (sym marked)
    (subst (λ l. IsBundleOf (HasCellEnds cell) measured desk marks l b) (sym at) h))) in
    record { valid = there; of_pairs = by_name s.measure cell bounds s.desk s.marks s.level b of.on.made.numbers there of.marked moved }

-- a text under a depth is one of the subject with that depth
pub text_is_on : (s : Subject) (b : Bundle) (depth : Option ℕ) (text : List ℕ) → s.depth ≡ depth → text ≡ scoped_text (record { depth = depth; body = Many b }) → text ≡ text_on s b
text_is_on s b depth text under is = is ∙ ap (λ (d : Option ℕ). scoped_text (record { depth = d; body = Many b })) (sym under)

-- so is its length
pub length_is_on : (s : Subject) (b : Bundle) (depth : Option ℕ) (n : ℕ) → s.depth ≡ depth → n ≡ length (scoped_text (record { depth = depth; body = Many b })) → n ≡ length (text_on s b)
length_is_on s b depth n under is = is ∙ ap (λ (d : Option ℕ). length (scoped_text (record { depth = d; body = Many b }))) (sym under)

-- what is within the form under a depth is so under that of the subject
pub within_on : (s : Subject) (b : Bundle) (depth : Option ℕ) → s.depth ≡ depth → IsScoped (record { depth = depth; body = Many b }) → IsScoped (certificate_on s b)
within_on s b depth under within = subst (λ (d : Option ℕ). IsScoped (record { depth = d; body = Many b })) (sym under) within

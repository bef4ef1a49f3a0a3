-- What is true of printed texts.
use Rattle.std.specs.Prelude.{◌≢◌, ℕ, ◌<◌, List, length}
use Rattle.desk_model.specs.Desk.{Desk, IsDesk, AreMarksOf}
use Rattle.desk_model.specs.MeasureText.{IsMeasure}
use Rattle.desk_model.specs.declared.types.Mark.{Mark}
use Rattle.desk_model.specs.declared.types.MeasureName.{MeasureName}
use Rattle.measure_core.specs.Made.{HasEnds}
use Rattle.order_bundle.specs.Bundle.{Bundle}
use Rattle.order_bundle.specs.Either.{AnyEvidenceImpliesClaims}
use Rattle.order_bundle.specs.Evidence.{IsBundleEvidence}
use Rattle.order_certificate.specs.Evidence.{IsEvidence}
use Rattle.order_certificate.specs.declared.certificate.Certificate.{Certificate}
use Rattle.pair_table.specs.Evidence.{IsCertificateOf}
use Rattle.table_bundle.specs.Bundles.{IsBundleOf}
use Rattle.desk_report.specs.ByGrades.{GradedTextsAreTrue}
use Rattle.desk_report.specs.Claims.{TablesAreTrue, CertificatesAreTrue, CloseLinesAreTrue, AnswerLinesAreTrue, PairLinesAreTrue, OtherLinesAreTrue, NextLinesAreTrue, QrelsTextsAreTrue, NoTextIsTrue}
use Rattle.desk_report.specs.Tiers.{TiersTextsAreTrue}
use Rattle.sheet_report.specs.Claims.{SheetTextsAreTrue, JudgementsClaimNothing}

-- certificates of two runs are evidence
abbrev pub CertificatesAreEvidence : Type 0
CertificatesAreEvidence =
    (name : MeasureName) (desk : Desk) (marks : List (List Mark)) (level a b : ℕ) (c : Certificate) → IsMeasure name → IsDesk desk → AreMarksOf desk marks → a ≢ b → a < length desk.runs → b < length desk.runs →
    IsCertificateOf (HasEnds name) name desk marks level a b c → IsEvidence c desk marks

-- bundles of all pairs are evidence
abbrev pub BundlesAreEvidence : Type 0
BundlesAreEvidence =
    (name : MeasureName) (desk : Desk) (marks : List (List Mark)) (level : ℕ) (b : Bundle) → IsDesk desk → AreMarksOf desk marks → IsBundleOf (HasEnds name) name desk marks level b → IsBundleEvidence b desk marks

-- what is printed is true
pub record PrintsTruth : Type 0 where
  pub tables : TablesAreTrue
  pub graded : GradedTextsAreTrue
  pub tiers : TiersTextsAreTrue
  pub certificates : CertificatesAreTrue
  pub close_lines : CloseLinesAreTrue
  pub evidence : CertificatesAreEvidence
  pub bundles : BundlesAreEvidence
  pub answers : AnswerLinesAreTrue
  pub claims : AnyEvidenceImpliesClaims
  pub pair_lines : PairLinesAreTrue
  pub others : OtherLinesAreTrue
  pub next : NextLinesAreTrue
  pub qrels : QrelsTextsAreTrue
  pub no_text : NoTextIsTrue
  pub sheets : SheetTextsAreTrue
  pub judgements : JudgementsClaimNothing

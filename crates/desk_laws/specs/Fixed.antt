-- What fixes the answer of a call over known files.
use Rattle.std.specs.Prelude.{◌≡◌, ℕ, List, Result}
use Rattle.desk_outside.specs.Outside.{Files}
use Rattle.desk_words.specs.declared.command.Check.{Check}
use Rattle.desk_model.specs.Desk.{Desk}
use Rattle.desk_model.specs.declared.types.Mark.{Mark}
use Rattle.desk_model.specs.declared.types.MeasureName.{MeasureName}
use Rattle.measure_core.specs.Made.{HasEnds}
use Rattle.file_rows.specs.Grouped.{TopicRows}
use Rattle.run_reader.specs.Run.{Run}
use Rattle.topics_pool.specs.Rows.{IsDeskOf}
use Rattle.next_document.specs.Laws.{NextIsOne}
use Rattle.order_bundle.specs.Bundle.{Bundle}
use Rattle.table_bundle.specs.Bundles.{IsBundleOf}
use Rattle.order_tiers.specs.Order.{Ordered, IsOrderIn}
use Rattle.order_bundle.specs.declared.any_certificate.AnyCertificate.{AnyCertificate}
use Rattle.order_bundle.specs.declared.scoped.Scoped.{Scoped}
use Rattle.bundle_verifier.specs.Either.{IsAnyVerified}
use Rattle.bundle_verifier.specs.declared.rejected.BundleRejected.{BundleRejected}
use Rattle.session_replies.specs.Laws.{RepliesAreOne}
use Rattle.desk_files.specs.Files.{Stop}
use Rattle.desk_files.specs.Load.{Loaded}
use Rattle.desk_files.specs.Checks.{CheckComes}

-- the files of a check come to one thing alone
abbrev pub CheckIsOne : Type 0
CheckIsOne = (check : Check) (files : Files) (x y : Result (Loaded × Scoped) Stop) → CheckComes files check x → CheckComes files check y → x ≡ y

-- rows make one desk
abbrev pub DeskIsOne : Type 0
DeskIsOne = (qrels : List TopicRows) (runs : List Run) (d e : Desk) → IsDeskOf qrels runs d → IsDeskOf qrels runs e → d ≡ e

-- a certificate of either version has one answer on a desk under its marks
abbrev pub VerifierIsOne : Type 0
VerifierIsOne = (c : AnyCertificate) (desk : Desk) (marks : List (List Mark)) (r s : Result (Unit {0}) BundleRejected) → IsAnyVerified c desk marks r → IsAnyVerified c desk marks s → r ≡ s

-- a desk under its marks has one bundle of all pairs by a measure's name
abbrev pub BundleIsOne : Type 0
BundleIsOne = (name : MeasureName) (desk : Desk) (marks : List (List Mark)) (level : ℕ) (a b : Bundle) → IsBundleOf (HasEnds name) name desk marks level a → IsBundleOf (HasEnds name) name desk marks level b → a ≡ b

-- a desk under its marks has one order of its runs by a measure's name
abbrev pub OrderIsOne : Type 0
OrderIsOne = (name : MeasureName) (desk : Desk) (marks : List (List Mark)) (order other : Ordered) → IsOrderIn name desk marks order → IsOrderIn name desk marks other → order ≡ other

-- each of them, and a line of a session has one reply, and there is one proposal
pub record AnswersAreFixed : Type 0 where
  pub check : CheckIsOne
  pub desk : DeskIsOne
  pub verifier : VerifierIsOne
  pub bundle : BundleIsOne
  pub order : OrderIsOne
  pub replies : RepliesAreOne
  pub next : NextIsOne

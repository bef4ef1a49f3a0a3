-- The files of a desk again, with what `apply` printed as their judgements file.
use Rattle.std.proofs.Common.{◌≡◌, ℕ, zero, suc, ℤ, List, [], ◌∷◌, get_or, map, Result, Ok, Err, refl, ap, sym, subst, ◌∙◌}
use Rattle.std.specs.Prelude.{Option, Some, None, is_some}
use Rattle.desk_outside.specs.Outside.{Files}
use Rattle.desk_words.specs.declared.command.Placing.{Placing}
use Rattle.desk_model.specs.Book.{Book}
use Rattle.desk_model.specs.Desk.{Desk}
use Rattle.desk_model.specs.Name.{number_of}
use Rattle.desk_model.specs.Named.{book_at}
use Rattle.desk_report.specs.Judging.{qrels_text}
use Rattle.topics_pool.specs.Rows.{IsDeskOf}
use Rattle.qrels_reader.specs.Grouped.{qrels_of}
use Rattle.qrels_round_trip.specs.RoundTrip.{HasJudgements, IsJudged}
use Rattle.sheet_merge.specs.Sheet.{SheetPlace, SheetRow}
use Rattle.sheet_merge.specs.Placed.{topic_number, is_document_of, is_placed}
use Rattle.sheet_report.specs.Applied.{all_under, GradesUnderAreGrades, ApplyingAgainChangesNothing}
use Rattle.desk_files.specs.Files.{Stop}
use Rattle.desk_files.specs.Load.{Loaded, loaded}
use Rattle.desk_files.specs.Placings.{placing_sources, PlacingComes}
use Rattle.desk_top.specs.Outcome.{Outcome}
use Rattle.desk_top.specs.Sheets.{PrintsApplied}
use Rattle.desk_laws.specs.Applied.{sources_again, IsAsBefore, AppliedFilesComeAgain, ApplyingTwiceChangesNothing}
use Rattle.desk_laws.specs.Replaced.{AreFilesWith, ComesAgain}
use Rattle.desk_laws.proofs.Again.{come_again}
use Rattle.desk_laws.proofs.Loading.{AreLoaded, taken_apart}
use Rattle.desk_laws.proofs.SameText.{text_again}

-- what `apply` printed is of a desk with grades in force
module _ (files : Files) (placing : Placing) (found : Loaded × List SheetRow) (outcome : Outcome) (comes : PlacingComes files placing (Ok found)) (printed : PrintsApplied found outcome) where
  apart : AreLoaded files (placing_sources placing) found.0
  apart = taken_apart files (placing_sources placing) found.0 comes.0

  in_force : GradesUnderAreGrades → IsJudged apart.judgements.bytes found.0.qrels found.0.runs printed.desk (all_under printed.desk found.1)
  in_force grades = record {
    read = apart.judgements.says;
    of_rows = printed.ranked;
    in_force = grades apart.judgements.bytes found.0.qrels found.0.runs printed.desk found.1 apart.judgements.says printed.ranked printed.sheet;
  }

pub applied_again : GradesUnderAreGrades → AppliedFilesComeAgain
applied_again grades files again placing path found applied =
    let printed = applied.printed in
    let desk = printed.desk in
    let under = all_under desk found.1 in
    let judged = in_force files placing found applied.outcome applied.comes printed grades in
    subst (λ text. ComesAgain (sources_again placing path) text desk under (loaded again (sources_again placing path))) (sym printed.prints.1)
    (come_again files again (placing_sources placing) path found.0 desk under (record { loads = applied.comes.0; of_rows = printed.ranked; in_force = judged.in_force })
    (subst (λ text. AreFilesWith files again path text placing.runs) printed.prints.1 applied.with_text))

-- ---- the same places
docs_at : (books : List Book) (i : ℕ) (none : Book) → (get_or books i none).docs ≡ get_or (map (λ (book : Book). book.docs) books) i none.docs
docs_at [] i none = refl
docs_at (book ∷ books) zero none = refl
docs_at (book ∷ books) (suc i) none = docs_at books i none

module _ (desk other : Desk) (grades : List (List (Option ℤ))) (same : HasJudgements desk grades other) where
  same_docs : (t : ℕ) → (book_at other t).docs ≡ (book_at desk t).docs
  same_docs t =
      let none : Book = record { name = []; docs = []; grades = [] } in
      docs_at other.topics t none ∙ ap (λ (all : List (List (List ℕ))). get_or all t []) same.universes ∙ sym (docs_at desk.topics t none)

  in_topic : (document : List ℕ) (topic : Option ℕ) → is_document_of other document topic ≡ is_document_of desk document topic
  in_topic document None = refl
  in_topic document (Some t) = ap (λ docs. is_some (number_of docs document)) (same_docs t)

  same_places : (place : SheetPlace) → is_placed other place ≡ is_placed desk place
  same_places place = in_topic place.1 (topic_number other place.0) ∙ ap (λ names. is_document_of desk place.1 (number_of names place.0)) same.topics

pub applied_twice : GradesUnderAreGrades → ApplyingAgainChangesNothing → ApplyingTwiceChangesNothing
applied_twice grades nothing files again placing path found later other applied loads ranked =
    at (loaded again (sources_again placing path)) loads (applied_again grades files again placing path found applied)
  where
    at : (r : Result Loaded Stop) → r ≡ Ok later → ComesAgain (sources_again placing path) applied.printed.prints.0 applied.printed.desk (all_under applied.printed.desk found.1) r → IsAsBefore found.1 applied.printed.desk other
    at (Ok rows) e comes =
        let own : rows ≡ later = cc in
        let is = comes other (subst (λ (r : Loaded). IsDeskOf r.qrels r.runs other) (sym own) ranked) in
        let desk = applied.printed.desk in
        let under = all_under desk found.1 in
        let same : all_under other found.1 ≡ under = nothing desk other found.1 is.same in
        let read = (taken_apart again (sources_again placing path) later loads).judgements in
        let bytes : Some read.bytes ≡ Some applied.printed.prints.0 = sym read.there ∙ applied.with_text.judgements in
        let text : read.bytes ≡ applied.printed.prints.0 = cc in
        let says : qrels_of (qrels_text desk under) ≡ Ok later.qrels = ap qrels_of (sym (text ∙ applied.printed.prints.1)) ∙ read.says in
        let judged = in_force files placing found applied.outcome applied.comes applied.printed grades in
        record {
          places = same_places desk other under is.same;
          grades = same;
          text = ap (qrels_text other) same
              ∙ text_again (apart files placing found applied.outcome applied.comes applied.printed).judgements.bytes found.0.qrels later.qrels found.0.runs later.runs desk other under judged says ranked is.same;
        }
    at (Err why) e comes = absurd (cc)

-- What a bundle holds of each pair: by a measure's name, and as evidence.
use Rattle.std.proofs.Common.{◌≡◌, ◌≢◌, ℕ, ◌+◌, ◌<◌, List, [], ◌∷◌, length, map, Option, Some, None, Ok, Err, refl, ap, sym, subst, ◌∙◌, arith}
use Rattle.std.specs.Prelude.{All, filter, flat_map, slice_get}
use Rattle.std.specs.List.{AllZip, AllByRecursion, enumerate_from}
use Rattle.std.proofs.lemmas.List.Elements.{All-from_recursion}
use Rattle.std.proofs.lemmas.List.Sorted.{All-permutation}
use Rattle.std.proofs.lemmas.Option.{slice_get_within, slice_get-get_or}
use Rattle.desk_model.specs.Book.{Book}
use Rattle.desk_model.specs.Desk.{Desk, IsDesk, AreMarksOf}
use Rattle.desk_model.specs.MeasureText.{IsMeasure}
use Rattle.desk_model.specs.Name.{number_of}
use Rattle.desk_model.specs.Pairs.{pairs_of}
use Rattle.desk_model.specs.declared.types.Mark.{Mark}
use Rattle.desk_model.specs.declared.types.MeasureName.{MeasureName}
use Rattle.topic_counts.specs.declared.span.Span.{Span}
use Rattle.measure_core.specs.Made.{HasEnds, AreNumbersOfName}
use Rattle.measure_core.specs.Pairs.{run_numbers}
use Rattle.measure_core.specs.declared.cell.Cell.{Cell}
use Rattle.order_certificate.specs.Evidence.{IsEvidence}
use Rattle.order_certificate.specs.declared.certificate.Certificate.{Certificate}
use Rattle.order_bundle.specs.Bundle.{Bundle}
use Rattle.order_bundle.specs.Evidence.{IsBundleEvidence, name_at, written_out}
use Rattle.order_bundle.specs.declared.bundle.PairClaim.{PairClaim}
use Rattle.order_bundle.specs.declared.bundle.TopicNames.{TopicNames}
use Rattle.pair_table.specs.Numbers.{HasCellEnds}
use Rattle.pair_table.specs.declared.evidence.EvidenceFault.TheVariants.{Close as CloseBy}
use Rattle.pair_table.proofs.Answered.{named_answer}
use Rattle.pair_table.proofs.Evident.{answered_evidence}
use Rattle.pair_table.proofs.Listing.{number_there, there_number}
use Rattle.pair_table.proofs.Zips.{IsPairBelow, pairs_below}
use Rattle.table_bundle.specs.Bundles.{if_held, is_listed_by, IsBundleOf, IsHeldOf, IsSaidOf}
use Rattle.table_bundle.proofs.Ascending.{one_number}

zip_weaker : {A B : Type 0} (R S : A → B → Type 0) → ((x : A) (y : B) → R x y → S x y) → (xs : List A) (ys : List B) → AllZip R xs ys → AllZip S xs ys
zip_weaker R S f [] [] h = tt
zip_weaker R S f [] (y ∷ ys) h = absurd h
zip_weaker R S f (x ∷ xs) [] h = absurd h
zip_weaker R S f (x ∷ xs) (y ∷ ys) h = (f x y h.0, zip_weaker R S f xs ys h.1)

pub number_within : (names : List (List ℕ)) (name : List ℕ) (i : ℕ) → number_of names name ≡ Some i → i < length names
number_within names name i e = slice_get_within names i name (there_number names name i e)

-- ---- by a measure's name
module _ (name : MeasureName) (cell : List Mark → List ℕ → List ℕ → Cell) (bounds : List Mark → List ℕ → Span) (desk : Desk) (marks : List (List Mark)) (level : ℕ) (numbers : AreNumbersOfName name cell bounds) (is_desk : IsDesk desk) (known : AreMarksOf desk marks) where
  said_by_name : (a b : ℕ) (x : Bundle) (held : Option PairClaim) → a < length desk.runs → b < length desk.runs → IsSaidOf (HasCellEnds cell) name desk marks level a b x held → IsSaidOf (HasEnds name) name desk marks level a b x held
  said_by_name a b x (Some c) in_a in_b h = named_answer name cell bounds desk marks level a b (Ok (written_out x c)) numbers is_desk known in_a in_b h
  said_by_name a b x None in_a in_b h = let by = named_answer name cell bounds desk marks level a b (Err (CloseBy h.0)) numbers is_desk known in_a in_b (h.1, h.2) in (h.0, by.0, by.1)

  held_by_name : (x : Bundle) (pair : ℕ × ℕ) (held : Option PairClaim) → IsHeldOf (HasCellEnds cell) name desk marks level x pair held → IsHeldOf (HasEnds name) name desk marks level x pair held
  held_by_name x pair held h = record {
    first = h.first;
    second = h.second;
    first_named = h.first_named;
    second_named = h.second_named;
    said = said_by_name h.first h.second x held (number_within desk.runs _ h.first h.first_named) (number_within desk.runs _ h.second h.second_named) h.said;
  }

  pub bundle_by_name : (x : Bundle) → IsBundleOf (HasCellEnds cell) name desk marks level x → IsBundleOf (HasEnds name) name desk marks level x
  bundle_by_name x h = record {
    form = h.form;
    by_measure = h.by_measure;
    at_level = h.at_level;
    runs = h.runs;
    held = h.held;
    each_pair = zip_weaker (IsHeldOf (HasCellEnds cell) name desk marks level x) (IsHeldOf (HasEnds name) name desk marks level x) (held_by_name x) (pairs_of (run_numbers (length x.runs))) h.held h.each_pair;
    claims = h.claims;
    topics = h.topics;
  }

-- ---- evidence
abbrev topic_name : TopicNames → List ℕ
topic_name t = t.topic

abbrev book_name : Book → List ℕ
book_name book = book.name

listed_names : (certificates : List Certificate) (n : ℕ) (books : List Book) → map topic_name (map (λ (p : ℕ × Book). record { topic = p.1.name; docs = filter (is_listed_by certificates p.0) p.1.docs }) (enumerate_from n books)) ≡ map book_name books
listed_names certificates n [] = refl
listed_names certificates n (b ∷ books) = ap (λ ns. b.name ∷ ns) (listed_names certificates (n + 1) books)

module _ (name : MeasureName) (desk : Desk) (marks : List (List Mark)) (level : ℕ) (is_desk : IsDesk desk) (known : AreMarksOf desk marks) (x : Bundle) (are : IsBundleOf (HasEnds name) name desk marks level x) where
  abbrev IsProved : PairClaim → Type 0
  IsProved c = IsEvidence (written_out x c) desk marks

  valid : IsMeasure name
  valid = subst IsMeasure are.by_measure are.form.measure

  -- the two runs of a pair differ
  two_runs : (pair : ℕ × ℕ) (held : Option PairClaim) → IsPairBelow (length x.runs) pair → (h : IsHeldOf (HasEnds name) name desk marks level x pair held) → h.first ≢ h.second
  two_runs pair held below h same =
      let first : slice_get desk.runs h.first ≡ Some (name_at x.runs pair.0) = there_number desk.runs _ h.first h.first_named in
      let second : slice_get desk.runs h.second ≡ Some (name_at x.runs pair.1) = there_number desk.runs _ h.second h.second_named in
      let named : name_at x.runs pair.0 ≡ name_at x.runs pair.1 = cc in
      let is = one_number x.runs are.form.runs.ascending.ascending pair.0 pair.1 (omega (arith, below.order, below.below)) below.below named in
      omega (arith, is, below.order)

  proved_each : (pairs : List (ℕ × ℕ)) (held : List (Option PairClaim)) → AllByRecursion (IsPairBelow (length x.runs)) pairs → AllZip (IsHeldOf (HasEnds name) name desk marks level x) pairs held → AllByRecursion IsProved (flat_map if_held held)
  proved_each [] [] below h = tt
  proved_each [] (c ∷ held) below h = absurd h
  proved_each (p ∷ pairs) [] below h = absurd h
  proved_each (p ∷ pairs) (None ∷ held) below h = proved_each pairs held below.1 h.1
  proved_each (p ∷ pairs) (Some c ∷ held) below h =
      let here = h.0 in (
        answered_evidence name desk marks level here.first here.second (written_out x c) valid is_desk known (two_runs p (Some c) below.0 here)
            (number_within desk.runs _ here.first here.first_named) (number_within desk.runs _ here.second here.second_named) here.said,
        proved_each pairs held below.1 h.1,
      )

  pub bundle_evidence : IsBundleEvidence x desk marks
  bundle_evidence = record {
    runs = All-permutation (λ name. (run : ℕ) × (number_of desk.runs name ≡ Some run)) desk.runs x.runs are.runs (λ k d lt. (k, number_there desk.runs k _ is_desk.distinct (slice_get-get_or desk.runs k d lt)));
    topics = ap (map topic_name) are.topics ∙ listed_names (map (written_out x) x.claims) 0 desk.topics;
    claims = subst (All IsProved) (sym are.claims) (All-from_recursion IsProved (flat_map if_held are.held) (proved_each (pairs_of (run_numbers (length x.runs))) are.held (pairs_below (length x.runs)) are.each_pair));
  }

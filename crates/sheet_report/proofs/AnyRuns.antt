-- A text that is true of each desk with some topics, whatever its runs are called, claims nothing of runs.
use Rattle.std.proofs.Common.{◌≡◌, ℕ, zero, suc, List, [], ◌∷◌, take, get_or, map, true, refl, ap, sym, ◌∙◌, arith, Option, Some, ℤ}
use Rattle.std.specs.Prelude.{codes, nat_eq, slice_get, ◌<◌, length}
use Rattle.std.proofs.lemmas.Bool.{eqb-false}
use Rattle.std.proofs.lemmas.List.Elements.{All-from_recursion}
use Rattle.std.proofs.lemmas.Map.Keys.{IsDistinct-from_apart}
use Rattle.desk_text.specs.Lines.{whole_lines}
use Rattle.desk_model.specs.Book.{Book}
use Rattle.desk_model.specs.Name.{is_name, is_same_name}
use Rattle.desk_model.specs.Desk.{Desk, IsDesk, AreRankingsOver}
use Rattle.desk_model.specs.declared.types.Mark.{Mark}
use Rattle.desk_model.specs.declared.types.MeasureName.{MeasureName}
use Rattle.desk_model.specs.declared.types.MeasureName.TheVariants.{Precision, Reciprocal}
use Rattle.desk_report.specs.Claims.{IsPairLine, IsRunLine, IsTrueLine, IsTrueText, QrelsTextsAreTrue}
use Rattle.desk_report.specs.Judging.{qrels_text}
use Rattle.desk_report.proofs.Lines.{other_line}
use Rattle.order_bundle.specs.Scoped.{IsScopedText}
use Rattle.order_bundle.specs.declared.scoped.Scoped.{Scoped}
use Rattle.sheet_report.specs.Claims.{JudgementsClaimNothing}

-- ---- a desk with these topics, of one run that ranks nothing
abbrev one_run : Desk → List ℕ → Desk
one_run desk run = record { topics = desk.topics; runs = run ∷ []; rankings = map (λ (book : Book). []) desk.topics ∷ [] }

unranked : (books : List Book) → AreRankingsOver books (map (λ (book : Book). []) books)
unranked [] = tt
unranked (book ∷ books) = (record { distinct = IsDistinct-from_apart nat_eq [] (λ i j d lt end. absurd (omega (arith, lt, end))); within = All-from_recursion (λ doc. doc < length book.docs) [] tt; short = omega arith }, unranked books)

is_desk : (desk : Desk) (run : List ℕ) → is_name run ≡ true → IsDesk desk → IsDesk (one_run desk run)
is_desk desk run named valid = record {
  books = valid.books;
  ascending = valid.ascending;
  some_topic = valid.some_topic;
  topics = valid.topics;
  named = All-from_recursion (λ run. is_name run ≡ true) (run ∷ []) (named, tt);
  distinct = IsDistinct-from_apart is_same_name (run ∷ []) (λ i j d lt end. absurd (omega (arith, lt, end)));
  some_run = omega arith;
  runs = omega arith;
  cells = omega arith;
  ranked = refl;
  rankings = All-from_recursion (AreRankingsOver desk.topics) (map (λ (book : Book). []) desk.topics ∷ []) (unranked desk.topics, tt);
}

-- its only run
only : (run name : List ℕ) (i : ℕ) → slice_get (run ∷ []) i ≡ Some name → run ≡ name
only run name zero e = cc
only run name (suc i) e = absurd (cc)

-- two names differ
two_names : (name : List ℕ) → codes "a" ≡ name → codes "b" ≡ name → ⊥
two_names name a b = eqb-false 97 98 refl (ap (λ w. get_or w 0 0) (a ∙ sym b))

module _ (true_texts : QrelsTextsAreTrue) (desk : Desk) (valid : IsDesk desk) (grades : List (List (Option ℤ))) (received : ℕ) where
  abbrev text : List ℕ
  text = take received (qrels_text desk grades)

  -- what is received is true whatever the run is called
  of_run : (name : MeasureName) (marks : List (List Mark)) (run : List ℕ) → is_name run ≡ true → IsTrueText name (one_run desk run) marks text
  of_run name marks run named = true_texts name (one_run desk run) marks grades received (is_desk desk run named valid)

  line_true : (name : MeasureName) (other : Desk) (marks : List (List Mark)) (i : ℕ) (d : List ℕ) → i < length (whole_lines text) → IsTrueLine name other marks (get_or (whole_lines text) i d)
  line_true name other marks i d lt =
      let line = get_or (whole_lines text) i d in
      let of_a : IsTrueLine name (one_run desk (codes "a")) marks line = (of_run name marks (codes "a") refl).lines i d lt in
      let of_b : IsTrueLine name (one_run desk (codes "b")) marks line = (of_run name marks (codes "b") refl).lines i d lt in
      other_line name other marks line
      (λ first said second low high e.
      let a = of_a.pair_bounds first said second low high e in
      let b = of_b.pair_bounds first said second low high e in
      two_names first (only (codes "a") first a.a a.named_first) (only (codes "b") first b.a b.named_first))
      (λ run low high e.
      let a = of_a.run_bounds run low high e in
      let b = of_b.run_bounds run low high e in
      absurd (two_names run (only (codes "a") run a.run a.named) (only (codes "b") run b.run b.named)))

  -- it is no certificate, which would be of one measure alone
  no_certificate : (c : Scoped) → IsScopedText text c → ⊥
  no_certificate c t =
      let one : Precision 1 ≡ Reciprocal = sym ((of_run (Precision 1) [] (codes "a") refl).claim c t).0 ∙ ((of_run Reciprocal [] (codes "a") refl).claim c t).0 in
      absurd (cc)

pub judgements_true : QrelsTextsAreTrue → JudgementsClaimNothing
judgements_true true_texts name desk other marks grades received valid = record {
  lines = λ i d lt. line_true true_texts desk valid grades received name other marks i d lt;
  claim = λ c t. absurd (no_certificate true_texts desk valid grades received c t);
}

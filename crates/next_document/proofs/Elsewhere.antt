-- Totals where the marks of one topic change.
use Rattle.std.proofs.Common.{◌≡◌, ◌≢◌, inl, inr, ℕ, zero, suc, ◌<◌, List, [], ◌∷◌, length, map, get_or, refl, ap, sym, subst, ◌∙◌, arith}
use Rattle.std.specs.Prelude.{sum}
use Rattle.std.proofs.Math.ListN.{set}
use Rattle.std.proofs.lemmas.List.{length-set, get_or-set_same, get_or-set_other}
use Rattle.small_lemmas.proofs.Numbers.{same_or_not}
use Rattle.desk_model.specs.Desk.{Desk, ranking_of}
use Rattle.desk_model.specs.declared.types.Mark.{Mark}
use Rattle.desk_model.specs.declared.types.MeasureName.{MeasureName}
use Rattle.desk_model.specs.declared.types.Verdict.{Verdict}
use Rattle.measure_laws.specs.Weights.{weight_of}
use Rattle.next_document.specs.Kept.{HeldTotals, AreKeptFor, AreKeptBut, WereKept, WeighsWithoutMarks}
use Rattle.next_document.specs.Proposal.{total_weight, unsettled_pairs}
use Rattle.next_document.specs.Total.{standing}

-- what was at a place is put back
set_back : {X : Type 0} (xs : List X) (i : ℕ) (y d : X) → set (set xs i y) i (get_or xs i d) ≡ xs
set_back [] i y d = refl
set_back (x ∷ xs) zero y d = refl
set_back (x ∷ xs) (suc i) y d = ap (λ zs. x ∷ zs) (set_back xs i y d)

map_same : {X Y : Type 0} (f g : X → Y) → ((x : X) → f x ≡ g x) → (xs : List X) → map f xs ≡ map g xs
map_same f g h [] = refl
map_same f g h (x ∷ xs) = let rest = map_same f g h xs in let here = h x in cc

module _ (measure : MeasureName) (desk : Desk) (marks : List (List Mark)) (topic : ℕ) (row : List Mark) where
  total_elsewhere : (verdicts : List Verdict) (t doc : ℕ) → t ≢ topic → total_weight (standing measure desk (set marks topic row) verdicts) t doc ≡ total_weight (standing measure desk marks verdicts) t doc
  total_elsewhere verdicts t doc apart =
      ap (λ (r : List Mark). sum (map (λ (pair : ℕ × ℕ). weight_of measure r (ranking_of desk pair.0 t) (ranking_of desk pair.1 t) doc) (unsettled_pairs (standing measure desk marks verdicts)))) (get_or-set_other marks topic t row [] apart)

  pub kept_elsewhere : (kept : HeldTotals) → topic < length marks → length row ≡ length (get_or marks topic []) → AreKeptFor measure desk marks kept → AreKeptBut topic measure desk (set marks topic row) kept
  kept_elsewhere kept within count h = record {
    over = record {
      topics = h.over.topics ∙ sym (length-set marks topic row);
      docs = λ t lt. h.over.docs t (omega (arith, lt, length-set marks topic row)) ∙ sym (elim (same_or_not t topic) [
        | inl e ↦ subst (λ (u : ℕ). length (get_or (set marks topic row) u []) ≡ length (get_or marks u [])) (sym e) (ap length (get_or-set_same marks topic row [] within) ∙ count)
        | inr apart ↦ ap length (get_or-set_other marks topic t row [] apart)
      ]);
    };
    each = λ t lt apart doc inside.
        h.each t (omega (arith, lt, length-set marks topic row)) doc (omega (arith, inside, ap length (get_or-set_other marks topic t row [] apart))) ∙ sym (total_elsewhere kept.verdicts t doc apart);
  }

  pub were_kept : (kept : HeldTotals) → topic < length marks → length row ≡ length (get_or marks topic []) → AreKeptFor measure desk marks kept → WereKept topic measure desk (set marks topic row) kept
  were_kept kept within count h = record {
    row = get_or marks topic [];
    long = sym (ap length (get_or-set_same marks topic row [] within) ∙ count);
    before = subst (λ ms. AreKeptFor measure desk ms kept) (sym (set_back marks topic row [])) h;
  }

-- ---- what was kept under marks that differ from these in one topic
module _ (measure : MeasureName) (desk : Desk) (marks : List (List Mark)) (topic : ℕ) (kept : HeldTotals) (within : topic < length marks) (were : WereKept topic measure desk marks kept) where
  abbrev before : List (List Mark)
  before = set marks topic were.row

  -- is under these marks that of every other topic
  pub others_kept : AreKeptBut topic measure desk marks kept
  others_kept =
      subst (λ ms. AreKeptBut topic measure desk ms kept) (set_back marks topic were.row [])
      (kept_elsewhere measure desk before topic (get_or marks topic []) kept (omega (arith, within, length-set marks topic were.row))
      (sym (ap length (get_or-set_same marks topic were.row [] within) ∙ were.long)) were.before)

  same_total : WeighsWithoutMarks measure → (t doc : ℕ) → total_weight (standing measure desk before kept.verdicts) t doc ≡ total_weight (standing measure desk marks kept.verdicts) t doc
  same_total without t doc =
      ap sum
      (map_same (λ (pair : ℕ × ℕ). weight_of measure (get_or before t []) (ranking_of desk pair.0 t) (ranking_of desk pair.1 t) doc) (λ (pair : ℕ × ℕ). weight_of measure (get_or marks t []) (ranking_of desk pair.0 t) (ranking_of desk pair.1 t) doc)
      (λ pair. without (get_or before t []) (get_or marks t []) (ranking_of desk pair.0 t) (ranking_of desk pair.1 t) doc) (unsettled_pairs (standing measure desk marks kept.verdicts)))

  -- and of all topics, where weights do not depend on marks
  pub still_kept : WeighsWithoutMarks measure → AreKeptFor measure desk marks kept
  still_kept without = record {
    over = others_kept.over;
    each = λ t lt doc inside.
        let lt_before : t < length before = omega (arith, lt, length-set marks topic were.row) in
        were.before.each t lt_before doc (omega (arith, inside, others_kept.over.docs t lt, were.before.over.docs t lt_before)) ∙ same_total without t doc;
  }

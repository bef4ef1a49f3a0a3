-- A document that neither of two rankings has weighs nothing.
use Rattle.std.proofs.Common.{◌≡◌, ℕ, Bool, true, false, max, List, Option, Some, None, refl, ap, sym, ◌∙◌}
use Rattle.std.specs.Prelude.{is_some}
use Rattle.desk_model.specs.Ranking.{rank}
use Rattle.desk_model.proofs.Unranked.{unranked_in}
use Rattle.desk_model.specs.declared.types.Mark.{Mark}
use Rattle.desk_model.specs.declared.types.MeasureName.{MeasureName}
use Rattle.desk_model.specs.declared.types.MeasureName.TheVariants.{Precision, Recall, RPrecision, Reciprocal, Biased, AveragePrecision}
use Rattle.measure_laws.specs.Classes.{judged_count}
use Rattle.measure_laws.specs.Weights.{weight_of, one_side_weight}

on_no_side : (k : ℕ) (a b : List ℕ) (doc : ℕ) → rank a doc ≡ None → rank b doc ≡ None → one_side_weight k a b doc ≡ 0
on_no_side k a b doc h j = rw (unranked_in a doc k h, unranked_in b doc k j) refl

pub weighs_nothing : (measure : MeasureName) (marks : List Mark) (a b : List ℕ) (doc : ℕ) → rank a doc ≡ None → rank b doc ≡ None → weight_of measure marks a b doc ≡ 0
weighs_nothing (Precision k) marks a b doc h j = on_no_side k a b doc h j
weighs_nothing (Recall k) marks a b doc h j = on_no_side k a b doc h j
weighs_nothing RPrecision marks a b doc h j = on_no_side (max 1 (judged_count marks)) a b doc h j
weighs_nothing Reciprocal marks a b doc h j = rw (h, j) refl
weighs_nothing (Biased top bottom) marks a b doc h j = rw (h, j) refl
weighs_nothing AveragePrecision marks a b doc h j = rw (h, j) refl

-- where no rank was found there is none
pub no_rank : (o r : Option ℕ) (found : Bool) → r ≡ o → found ≡ is_some r → found ≡ false → o ≡ None
no_rank None r found e h k = refl
no_rank (Some n) r found e h k = let bad : true ≡ false = sym (h ∙ ap is_some e) ∙ k in absurd (cc)

-- There is one bundle of a table, by whichever ends two rankings have, where they have one kind of them.
use Rattle.std.proofs.Common.{◌≡◌, ℕ, List, [], ◌∷◌, ◌++◌, length, map, Option, Some, None, Ok, Err, refl, ap, sym, subst, ◌∙◌}
use Rattle.std.specs.Prelude.{flat_map}
use Rattle.std.specs.List.{AllZip}
use Rattle.std.proofs.lemmas.Option.{same_Some}
use Rattle.desk_model.specs.Desk.{Desk}
use Rattle.desk_model.specs.Extremes.{Ends}
use Rattle.desk_model.specs.Name.{number_of}
use Rattle.desk_model.specs.Pairs.{pairs_of}
use Rattle.desk_model.specs.declared.types.Mark.{Mark}
use Rattle.desk_model.specs.declared.types.MeasureName.{MeasureName}
use Rattle.measure_core.specs.Pairs.{run_numbers}
use Rattle.measure_core.specs.declared.cell.Cell.{Cell}
use Rattle.order_bundle.specs.Bundle.{Bundle, IsBundle}
use Rattle.order_bundle.specs.Evidence.{name_at, written_out}
use Rattle.order_bundle.specs.declared.bundle.PairClaim.{PairClaim}
use Rattle.order_bundle.specs.declared.bundle.TopicNames.{TopicNames}
use Rattle.pair_table.specs.Numbers.{HaveEnds, HasCellEnds}
use Rattle.pair_table.specs.declared.evidence.EvidenceFault.TheVariants.{Close as CloseBy}
use Rattle.pair_table.proofs.Answered.{one_answer_by}
use Rattle.table_bundle.specs.Bundles.{if_held, listed_topics, IsBundleOf, IsHeldOf, IsSaidOf}
use Rattle.table_bundle.proofs.Ascending.{one_order}
use Rattle.table_bundle.proofs.WrittenOnce.{all_fit, same_claims}

module _ (Has : HaveEnds) (one : (m : List Mark) (a b : List ℕ) (e f : Ends) → Has m a b e → Has m a b f → e ≡ f) (name : MeasureName) (desk : Desk) (marks : List (List Mark)) (level : ℕ) where
  abbrev Holds : Bundle → ℕ × ℕ → Option PairClaim → Type 0
  Holds x pair held = IsHeldOf Has name desk marks level x pair held

  -- ---- each claim is written out alike
  module _ (x y : Bundle) where
    same_said : (a b : ℕ) (held other : Option PairClaim) → IsSaidOf Has name desk marks level a b x held → IsSaidOf Has name desk marks level a b y other → map (written_out x) (if_held held) ≡ map (written_out y) (if_held other)
    same_said a b None None h k = refl
    same_said a b (Some c) None h k =
        let same : Ok (written_out x c) ≡ Err (CloseBy k.0) = one_answer_by Has one name desk marks level a b (Ok (written_out x c)) (Err (CloseBy k.0)) h (k.1, k.2) (λ e. cc) (λ e. cc) in
        absurd (cc)
    same_said a b None (Some d) h k =
        let same : Err (CloseBy h.0) ≡ Ok (written_out y d) = one_answer_by Has one name desk marks level a b (Err (CloseBy h.0)) (Ok (written_out y d)) (h.1, h.2) k (λ e. cc) (λ e. cc) in
        absurd (cc)
    same_said a b (Some c) (Some d) h k =
        let same : Ok (written_out x c) ≡ Ok (written_out y d) = one_answer_by Has one name desk marks level a b (Ok (written_out x c)) (Ok (written_out y d)) h k (λ e. cc) (λ e. cc) in
        let one : written_out x c ≡ written_out y d = cc in
        ap (λ z. z ∷ []) one

    map_joined : (cs ds : List PairClaim) (z : Bundle) → map (written_out z) (cs ++ ds) ≡ map (written_out z) cs ++ map (written_out z) ds
    map_joined [] ds z = refl
    map_joined (c ∷ cs) ds z = ap (λ l. written_out z c ∷ l) (map_joined cs ds z)

    module _ (runs : x.runs ≡ y.runs) where
      same_held : (pair : ℕ × ℕ) (held other : Option PairClaim) → Holds x pair held → Holds y pair other → map (written_out x) (if_held held) ≡ map (written_out y) (if_held other)
      same_held pair held other h k =
          let first : h.first ≡ k.first = same_Some h.first k.first (sym h.first_named ∙ ap (λ rs. number_of desk.runs (name_at rs pair.0)) runs ∙ k.first_named) in
          let second : h.second ≡ k.second = same_Some h.second k.second (sym h.second_named ∙ ap (λ rs. number_of desk.runs (name_at rs pair.1)) runs ∙ k.second_named) in
          same_said k.first k.second held other
          (subst (λ n. IsSaidOf Has name desk marks level k.first n x held) second (subst (λ n. IsSaidOf Has name desk marks level n h.second x held) first h.said)) k.said

      all_same : (pairs : List (ℕ × ℕ)) (held other : List (Option PairClaim)) → AllZip (Holds x) pairs held → AllZip (Holds y) pairs other → map (written_out x) (flat_map if_held held) ≡ map (written_out y) (flat_map if_held other)
      all_same [] [] [] h k = refl
      all_same [] [] (d ∷ other) h k = absurd k
      all_same [] (c ∷ held) other h k = absurd h
      all_same (p ∷ pairs) [] other h k = absurd h
      all_same (p ∷ pairs) (c ∷ held) [] h k = absurd k
      all_same (p ∷ pairs) (c ∷ held) (d ∷ other) h k =
          map_joined (if_held c) (flat_map if_held held) x
          ∙ ap (λ l. l ++ map (written_out x) (flat_map if_held held)) (same_held p c d h.0 k.0)
          ∙ ap (λ l. map (written_out y) (if_held d) ++ l) (all_same pairs held other h.1 k.1)
          ∙ sym (map_joined (if_held d) (flat_map if_held other) y)

  -- ---- the bundles are one
  abbrev with_claims : Bundle → List PairClaim → Bundle
  with_claims x claims = record { measure = x.measure; level = x.level; runs = x.runs; topics = x.topics; claims = claims }

  abbrev bundle : MeasureName → ℕ → List (List ℕ) → List TopicNames → List PairClaim → Bundle
  bundle m l rs ts cs = record { measure = m; level = l; runs = rs; topics = ts; claims = cs }

  pub one_bundle : (x y : Bundle) → IsBundleOf Has name desk marks level x → IsBundleOf Has name desk marks level y → x ≡ y
  one_bundle x y h k =
      let runs : x.runs ≡ y.runs = one_order desk.runs x.runs y.runs h.runs k.runs h.form.runs.ascending.ascending k.form.runs.ascending.ascending in
      let others : AllZip (Holds y) (pairs_of (run_numbers (length x.runs))) k.held = subst (λ rs. AllZip (Holds y) (pairs_of (run_numbers (length rs))) k.held) (sym runs) k.each_pair in
      let written : map (written_out x) x.claims ≡ map (written_out y) y.claims =
      ap (map (written_out x)) h.claims ∙ all_same x y runs (pairs_of (run_numbers (length x.runs))) h.held k.held h.each_pair others ∙ sym (ap (map (written_out y)) k.claims) in
      let topics : x.topics ≡ y.topics = h.topics ∙ ap (λ cs. listed_topics cs desk) written ∙ sym k.topics in
      let heads : y ≡ with_claims x y.claims =
      sym (ap (λ m. bundle m x.level x.runs x.topics y.claims) (h.by_measure ∙ sym k.by_measure) ∙ ap (λ l. bundle y.measure l x.runs x.topics y.claims) (h.at_level ∙ sym k.at_level)
      ∙ ap (λ rs. bundle y.measure y.level rs x.topics y.claims) runs ∙ ap (λ ts. bundle y.measure y.level y.runs ts y.claims) topics) in
      let form : IsBundle (with_claims x y.claims) = subst IsBundle heads k.form in
      let same : map (written_out x) x.claims ≡ map (written_out x) y.claims = subst (λ z. map (written_out x) x.claims ≡ map (written_out z) z.claims) heads written in
      let claims : x.claims ≡ y.claims = same_claims x h.form x.claims y.claims (all_fit (length x.runs) x.topics None x.claims h.form.claims.ascending) (all_fit (length x.runs) x.topics None y.claims form.claims.ascending) same in
      ap (with_claims x) claims ∙ sym heads

-- by the cells of a measure
pub one_bundle_by_cells : (cell : List Mark → List ℕ → List ℕ → Cell) (name : MeasureName) (desk : Desk) (marks : List (List Mark)) (level : ℕ) (x y : Bundle) →
    IsBundleOf (HasCellEnds cell) name desk marks level x → IsBundleOf (HasCellEnds cell) name desk marks level y → x ≡ y
one_bundle_by_cells cell = one_bundle (HasCellEnds cell) (λ m a b e f h k. h ∙ sym k)

-- Claims on pairs, one after the other: how many bytes they have without the lists of open pairs.
use Rattle.std.proofs.Common.{◌≡◌, ◌≢◌, ℕ, ◌+◌, ◌<◌, ◌≤◌, List, [], ◌∷◌, ◌++◌, length, get_or, map, take, Some, ℤ, pos, refl, ap, subst, ◌∙◌, arith, length-append}
use Rattle.std.specs.Prelude.{flat_map}
use Rattle.std.specs.List.{AllByRecursion}
use Rattle.std.proofs.lemmas.Grind.{flat_map-append}
use Rattle.std.proofs.lemmas.List.{append-nil, length-map, map-append, take_more}
use Rattle.std.proofs.lemmas.Option.{same_Some}
use Rattle.small_lemmas.proofs.Lists.{all-append}
use Rattle.desk_model.specs.Extremes.{Ends}
use Rattle.desk_model.specs.Order.{Topic}
use Rattle.desk_model.specs.Verdict.{verdict}
use Rattle.desk_model.specs.declared.types.Mark.{Mark}
use Rattle.desk_model.specs.declared.types.MeasureName.{MeasureName}
use Rattle.desk_model.specs.declared.types.Verdict.{Verdict}
use Rattle.desk_model.specs.declared.types.Verdict.TheVariants as of_pair
use Rattle.measure_core.specs.Made.{ends_of}
use Rattle.measure_core.specs.declared.cell.Cell.{Cell}
use Rattle.order_bundle.specs.Bundle.{claim_lines}
use Rattle.order_bundle.specs.Lengths.{HasFewRows, text_length}
use Rattle.order_bundle.specs.declared.bundle.PairClaim.{PairClaim}
use Rattle.pair_table.specs.Sums.{cell_ends, pair_sums}
use Rattle.table_bundle.specs.Bundles.{if_held}
use Rattle.table_bundle.specs.Drafts.{bounds_by, draft_by, draft_on, drafts_on}
use Rattle.table_bundle.specs.Lengths.{if_open, length_but_lists, open_on, open_pairs}
use Rattle.table_bundle.specs.declared.pairs.NamedPair.{NamedPair}

module _ (cell : List Mark → List ℕ → List ℕ → Cell) (measure : MeasureName) (topics : List Topic) where
  -- ---- one more pair
  pub drafts_more : (pairs : List NamedPair) (i : ℕ) (p : NamedPair) → i < length pairs → drafts_on cell measure topics (take (i + 1) pairs) ≡ drafts_on cell measure topics (take i pairs) ++ if_held (draft_on cell measure topics (get_or pairs i p))
  drafts_more pairs i p lt =
      let next = get_or pairs i p in
      ap (drafts_on cell measure topics) (take_more pairs i p lt)
      ∙ ap (flat_map if_held) (map-append (draft_on cell measure topics) (take i pairs) (next ∷ []))
      ∙ flat_map-append if_held (map (draft_on cell measure topics) (take i pairs)) (draft_on cell measure topics next ∷ [])
      ∙ ap (λ l. drafts_on cell measure topics (take i pairs) ++ l) (append-nil (if_held (draft_on cell measure topics next)))

  pub open_more : (pairs : List NamedPair) (i : ℕ) (p : NamedPair) → i < length pairs → open_pairs cell topics (take (i + 1) pairs) ≡ open_pairs cell topics (take i pairs) ++ open_on cell topics (get_or pairs i p)
  open_more pairs i p lt =
      let next = get_or pairs i p in
      ap (open_pairs cell topics) (take_more pairs i p lt) ∙ flat_map-append (open_on cell topics) (take i pairs) (next ∷ []) ∙ ap (λ l. open_pairs cell topics (take i pairs) ++ l) (append-nil (open_on cell topics next))

  -- ---- a claim on a pair that is not open keeps all its lines
  long_bounds : (high : Ends → ℤ) (a b : ℕ) → length (bounds_by high (cell_ends cell topics a b)) ≡ length topics
  long_bounds high a b = length-map (cell_ends cell topics a b) _ ∙ length-map topics (λ (topic : Topic). ends_of (cell topic.marks (topic.ranking a) (topic.ranking b)))

  pub settled : (pair : ℕ × ℕ) (a b : ℕ) (v : Verdict) (c : PairClaim) → length topics ≤ 10000 → v ≢ of_pair.Open → draft_by cell measure topics pair a b v ≡ Some c → HasFewRows c × (text_length (claim_lines c) ≡ length_but_lists c)
  settled pair a b of_pair.Above c few other is = subst (λ (x : PairClaim). HasFewRows x × (text_length (claim_lines x) ≡ length_but_lists x)) (same_Some _ c is) (omega (arith, few, long_bounds (λ _. pos 0) a b), refl)
  settled pair a b of_pair.Below c few other is = subst (λ (x : PairClaim). HasFewRows x × (text_length (claim_lines x) ≡ length_but_lists x)) (same_Some _ c is) (omega (arith, few, long_bounds (λ _. pos 0) b a), refl)
  settled pair a b of_pair.Equal c few other is = subst (λ (x : PairClaim). HasFewRows x × (text_length (claim_lines x) ≡ length_but_lists x)) (same_Some _ c is) (omega (arith, few, long_bounds (λ e. e.most_hi) a b), refl)
  settled pair a b of_pair.Open c few other is = absurd (other refl)
  settled pair a b of_pair.Close c few other is = absurd (cc)

  pub none_open : (p : NamedPair) (v : Verdict) → v ≢ of_pair.Open → if_open v p ≡ []
  none_open p of_pair.Above other = refl
  none_open p of_pair.Below other = refl
  none_open p of_pair.Equal other = refl
  none_open p of_pair.Open other = absurd (other refl)
  none_open p of_pair.Close other = refl

  -- ---- the open pairs are some of the pairs
  one_open : (P : NamedPair → Type 0) (p : NamedPair) (v : Verdict) → P p → AllByRecursion P (if_open v p)
  one_open P p of_pair.Above h = tt
  one_open P p of_pair.Below h = tt
  one_open P p of_pair.Equal h = tt
  one_open P p of_pair.Open h = (h, tt)
  one_open P p of_pair.Close h = tt

  pub all_open : (P : NamedPair → Type 0) (pairs : List NamedPair) → AllByRecursion P pairs → AllByRecursion P (open_pairs cell topics pairs)
  all_open P [] h = tt
  all_open P (p ∷ pairs) h = all-append P (open_on cell topics p) (open_pairs cell topics pairs) (one_open P p (verdict (pair_sums cell topics p.first p.second)) h.0) (all_open P pairs h.1)

  few_open_on : (p : NamedPair) (v : Verdict) → length (if_open v p) ≤ 1
  few_open_on p of_pair.Above = omega arith
  few_open_on p of_pair.Below = omega arith
  few_open_on p of_pair.Equal = omega arith
  few_open_on p of_pair.Open = omega arith
  few_open_on p of_pair.Close = omega arith

  pub few_open : (pairs : List NamedPair) → length (open_pairs cell topics pairs) ≤ length pairs
  few_open [] = omega arith
  few_open (p ∷ pairs) = omega (arith, length-append (open_on cell topics p) (open_pairs cell topics pairs), few_open_on p (verdict (pair_sums cell topics p.first p.second)), few_open pairs)

-- Rows of which one is written.
use Rattle.std.proofs.Common.{◌≡◌, ◌≢◌, ℕ, ◌<◌, Bool, true, false, List, [], length, get_or, set, refl, ap, ◌∙◌, inl, inr, arith}
use Rattle.std.proofs.lemmas.Bool.{cases_lt}
use Rattle.std.proofs.lemmas.Grind.{get_or-set_at}
use Rattle.std.proofs.lemmas.List.{get_or_past, length-set, get_or-set_other}
use Rattle.small_lemmas.proofs.Numbers.{same_or_not}
use Rattle.order_tiers.specs.Rows.{has, is_above, IsSquare}
use Rattle.order_tiers.proofs.Tests.{not_both}

-- a run that is above another is one of the rows, and so is the other
pub is_run : (rows : List (List Bool)) (a b : ℕ) → is_above rows a b ≡ true → a < length rows
is_run rows a b e = elim (cases_lt a (length rows)) [
  | inl inside ↦ inside
  | inr past ↦ not_both (is_above rows a b) e (ap (λ row. has row b) (get_or_past rows a [] past))
]

pub in_row : (runs : ℕ) (rows : List (List Bool)) → IsSquare runs rows → (a b : ℕ) → is_above rows a b ≡ true → (a < runs) × (b < runs)
in_row runs rows square a b e =
    let count = square.count in
    let inside = is_run rows a b e in
    let wide = square.wide a [] inside in (
      omega (arith, inside, count),
      elim (cases_lt b runs) [
        | inl within ↦ within
        | inr past ↦ not_both (is_above rows a b) e (get_or_past (get_or rows a []) b false (omega (arith, past, wide)))
      ],
    )

-- ---- one row written
module _ (rows : List (List Bool)) (run : ℕ) (row : List Bool) (lt : run < length rows) where
  pub written_here : (b : ℕ) → is_above (set rows run row) run b ≡ has row b
  written_here b = ap (λ r. has r b) (get_or-set_at rows run run row [] refl lt)

  pub written_elsewhere : (a b : ℕ) → a ≢ run → is_above (set rows run row) a b ≡ is_above rows a b
  written_elsewhere a b apart = ap (λ r. has r b) (get_or-set_other rows run a row [] apart)

  pub written_square : (runs : ℕ) → length row ≡ runs → IsSquare runs rows → IsSquare runs (set rows run row)
  written_square runs long square = record {
    few = square.few;
    count = length-set rows run row ∙ square.count;
    wide = λ k d within.
        let inside : k < length rows = omega (arith, within, length-set rows run row) in
        elim (same_or_not k run) [
          | inl here ↦ ap length (get_or-set_at rows run k row d here lt) ∙ long
          | inr other ↦ ap length (get_or-set_other rows run k row d other) ∙ square.wide k d inside
        ];
  }

use Rattle.std.proofs.Common.{◌≡◌, ℕ, ◌+◌, ◌<◌, Bool, true, false, nat_lt, List, [], length, get_or, take, refl, ap, ap₂, sym, ◌∙◌, arith}
use Rattle.std.specs.Str.{bytes_eq}
use Rattle.std.proofs.lemmas.Bool.Decides.{nat_tests}
use Rattle.std.proofs.lemmas.List.{get_or-map, get_or-take, length-map, length-take-le}
use Rattle.std.proofs.lemmas.List.Elements.{All-from_get_or}
use Rattle.std.proofs.lemmas.List.Folds.{list_any_at, list_any_none}
use Rattle.run_reader.specs.Run.{Run}
use Rattle.topics_pool.specs.Rows.{run_names, is_repeated}
use Rattle.topics_pool.proofs.runs.has_earlier_name.Goals as goal

name_at : (runs : List Run) (i : ℕ) (run : Run) → i < length runs → run ≡ get_or runs i run → get_or (run_names runs) i [] ≡ run.name
name_at runs i run lt is = get_or-map (λ (r : Run). r.name) runs i run [] lt ∙ ap (λ (r : Run). r.name) (sym is)

one-more : (p : ℕ → Bool) (n : ℕ) → ((k : ℕ) → k < n → p k ≡ false) → p n ≡ false → (k : ℕ) → k < n + 1 → p k ≡ false
one-more p n before here k lt = go (nat_lt k n) refl
  where
    go : (b : Bool) → nat_lt k n ≡ b → p k ≡ false
    go true e = let below : k < n = grind (arith, nat_tests) in before k below
    go false e = let same : k ≡ n = grind (arith, nat_tests) in ap p same ∙ here

repeats : (names : List (List ℕ)) (r i : ℕ) → i < r → r < length names → bytes_eq (get_or names r []) (get_or names i []) ≡ true → is_repeated names r ≡ true
repeats names r i lt within is =
    let long = length-take-min names r within in
    list_any_at (bytes_eq (get_or names r [])) (take r names) i [] (omega (arith, long, lt)) (ap (bytes_eq (get_or names r [])) (get_or-take r names i [] lt) ∙ is)
  where
    length-take-min : (names : List (List ℕ)) (r : ℕ) → r < length names → length (take r names) ≡ r
    length-take-min names r within = length-take-le r names (omega (arith, within))

differs : (names : List (List ℕ)) (r : ℕ) → r < length names → ((k : ℕ) → k < r → bytes_eq (get_or names r []) (get_or names k []) ≡ false) → is_repeated names r ≡ false
differs names r within none =
    let long : length (take r names) ≡ r = length-take-le r names (omega (arith, within)) in
    list_any_none (bytes_eq (get_or names r [])) (take r names) (All-from_get_or (λ n. bytes_eq (get_or names r []) n ≡ false) (take r names) [] (λ i lt.
    let below : i < r = omega (arith, long, lt) in
    ap (bytes_eq (get_or names r [])) (get_or-take r names i [] below) ∙ none i below))

pub returns-then-eq : goal.returns-then-eq
returns-then-eq c =
    let runs = c.args.runs.now in
    let long = length-map runs (λ (run : Run). run.name) in
    let compared : bytes_eq (get_or (run_names runs) c.args.r []) (get_or (run_names runs) c.loop-earlier.earlier []) ≡ true =
    ap₂ bytes_eq (name_at runs c.args.r c.index-runs-r.result c.requires c.index-runs-r.is ∙ sym c.name-name.ensures.value) (name_at runs c.loop-earlier.earlier c.index-runs-earlier.result (omega (arith, c.requires, c.loop-earlier-test.true)) c.index-runs-earlier.is ∙ sym c.name.ensures.value)
    ∙ sym c.eq.ensures ∙ c.if-eq.true in
    sym (repeats (run_names runs) c.args.r c.loop-earlier.earlier c.loop-earlier-test.true (omega (arith, long, c.requires)) compared)

pub loop-earlier-preserved : goal.loop-earlier-preserved
loop-earlier-preserved c =
    let runs = c.args.runs.now in
    let compared : bytes_eq (get_or (run_names runs) c.args.r []) (get_or (run_names runs) c.loop-earlier.earlier []) ≡ false =
    ap₂ bytes_eq (name_at runs c.args.r c.index-runs-r.result c.requires c.index-runs-r.is ∙ sym c.name-name.ensures.value) (name_at runs c.loop-earlier.earlier c.index-runs-earlier.result (omega (arith, c.requires, c.loop-earlier-test.true)) c.index-runs-earlier.is ∙ sym c.name.ensures.value)
    ∙ sym c.eq.ensures ∙ c.if-eq.false in
    one-more (λ k. bytes_eq (get_or (run_names runs) c.args.r []) (get_or (run_names runs) k [])) c.loop-earlier.earlier c.loop-earlier.invariant compared

pub returns : goal.returns
returns c =
    let long = length-map c.args.runs.now (λ (run : Run). run.name) in
    sym (differs (run_names c.args.runs.now) c.args.r (omega (arith, long, c.requires)) (λ k lt. c.loop-earlier.invariant k (omega (arith, lt, c.loop-earlier-test.false))))

-- Two lists of one length side by side, each pair made one row.
use Rattle.std.proofs.Common.{◌≡◌, ℕ, ◌<◌, List, length, map, Some, arith}
use Rattle.std.specs.Prelude.{slice_get}
use Rattle.std.specs.List.{zip}
use Rattle.std.proofs.lemmas.List.{length-map}
use Rattle.std.proofs.lemmas.Slice.Zip.{length-zip}
use Rattle.desk_model.proofs.PairPlace.{there}
use Rattle.small_lemmas.proofs.Lists.{map_there, slice_get-zip}

module _ {A B C : Type 0} (f : A × B → C) (xs : List A) (ys : List B) (even : length ys ≡ length xs) where
  pub length_rows : length (map f (zip xs ys)) ≡ length ys
  length_rows = omega (arith, length-map (zip xs ys) f, length-zip xs ys, even)

  pub row_within : (i : ℕ) → i < length (map f (zip xs ys)) → i < length ys
  row_within i lt = omega (arith, lt, length_rows)

  pub row_there : (i : ℕ) (y : B) → i < length ys → slice_get ys i ≡ Some y → (x : A) × (slice_get xs i ≡ Some x) × (slice_get (map f (zip xs ys)) i ≡ Some (f (x, y)))
  row_there i y lt at =
      let x = there xs i (omega (arith, lt, even)) in
      (x.0, x.1, map_there f (zip xs ys) i (x.0, y) (slice_get-zip xs ys i x.0 y x.1 at))

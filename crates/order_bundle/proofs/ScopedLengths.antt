-- How long the text of a certificate with a depth is.
use Rattle.std.proofs.Common.{◌≡◌, ◌+◌, ◌++◌, length, ap, sym, arith}
use Rattle.order_bundle.specs.Depths.{depth_lines}
use Rattle.order_bundle.specs.Lengths.{text_length}
use Rattle.order_bundle.specs.Places.{any_text, unscoped}
use Rattle.order_bundle.specs.Scoped.{lines_after_level, lines_to_level, scoped_text}
use Rattle.order_bundle.specs.declared.scoped.Scoped.{Scoped}
use Rattle.order_bundle.proofs.Counting.{more_lines}
use Rattle.order_bundle.proofs.Either.{unscoped_text}

-- the line of the depth, and the text that there would be without it
pub scoped_length : (s : Scoped) → length (scoped_text s) ≡ length (any_text s.body) + text_length (depth_lines s.depth)
unfolding scoped_text
scoped_length s =
    let first = lines_to_level s.body in
    let depth = depth_lines s.depth in
    let later = lines_after_level s.body in
    let without : length (any_text s.body) ≡ text_length (first ++ later) = ap length (sym (unscoped_text s.body)) in
    omega (arith, without, more_lines first (depth ++ later), more_lines depth later, more_lines first later)

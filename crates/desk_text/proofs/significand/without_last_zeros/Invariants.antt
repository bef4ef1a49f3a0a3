use Rattle.std.proofs.Common.{◌≡◌, ◌-◌, ◌≤◌, length, replicate, ◌++◌}
use Rattle.desk_text.proofs.significand.without_last_zeros.Given as goal

abbrev pub invariant-loop-kept : goal.invariant-loop-kept
invariant-loop-kept l =
    (length l.kept ≤ length l.digits) × (l.digits ≡ l.kept ++ replicate (length l.digits - length l.kept) 48)

abbrev pub decreases-loop-kept : goal.decreases-loop-kept
decreases-loop-kept l = length l.kept

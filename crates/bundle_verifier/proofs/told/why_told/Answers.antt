use Rattle.std.proofs.Common.{◌≤◌, All, length, sym, subst}
use Rattle.desk_model.specs.Limits.{TOPIC_LIMIT}
use Rattle.std.specs.Prelude.{slice_get}
use Rattle.bundle_verifier.specs.Lines.{lists_of}
use Rattle.bundle_verifier.specs.Sizes.{HasFewPicks, HasPlaceOn, IsPlacedOn}
use Rattle.bundle_verifier.proofs.Placed.{lists_few}
use Rattle.bundle_verifier.proofs.told.why_told.Goals as goal

pub line_on_lists-after-requires-clause-few : goal.line_on_lists-after-requires-clause-few
line_on_lists-after-requires-clause-few c = subst (λ ls. length ls ≤ TOPIC_LIMIT) (sym c.lists_of-lists.ensures) (lists_few c.args.bundle.now c.args.claim c.claims_are_small.ensures).0

pub line_on_lists-after-requires-clause-picks : goal.line_on_lists-after-requires-clause-picks
line_on_lists-after-requires-clause-picks c = subst (All HasFewPicks) (sym c.lists_of-lists.ensures) (lists_few c.args.bundle.now c.args.claim c.claims_are_small.ensures).1

pub line_on_lists-after-requires-clause-place : goal.line_on_lists-after-requires-clause-place
line_on_lists-after-requires-clause-place c =
    subst (λ ls. HasPlaceOn ls c.in-NotCompletion.place) (sym c.lists_of-lists.ensures) (subst (IsPlacedOn (lists_of (slice_get c.args.bundle.now.claims c.args.claim))) c.in-NotCompletion.is c.requires.place)

-- What `verify` prints.
use Rattle.std.specs.Prelude.{◌≡◌, ◌==◌, ◌+◌, if◌then◌else◌, ℕ, ◌<◌, Option, List, [], ◌∷◌, ◌++◌, length, slice_index_or, Result, Ok, Err, codes, decimal}
use Rattle.desk_model.specs.Desk.{Desk}
use Rattle.topics_pool.specs.Rows.{IsDeskOf, topic_names}
use Rattle.order_bundle.specs.Scoped.{IsScoped, depth_lines}
use Rattle.order_bundle.specs.declared.scoped.Scoped.{Scoped}
use Rattle.order_verifier.specs.declared.rejected.Rejected.{Rejected as Reason}
use Rattle.order_verifier.specs.declared.rejected.Rejected.TheVariants.{WrongNames, BoundTooGreat, NoSum, NotCompletion, NoDifference}
use Rattle.bundle_verifier.specs.Either.{IsAnyVerified}
use Rattle.bundle_verifier.specs.declared.rejected.BundleRejected.{BundleRejected}
use Rattle.desk_files.specs.Load.{Loaded}
use Rattle.desk_top.specs.declared.status.Status.{Status}
use Rattle.desk_top.specs.declared.status.Status.TheVariants.{Done, Rejected}
use Rattle.desk_top.specs.declared.outcome.Outcome.{Outcome as Made}
use Rattle.desk_top.specs.declared.outcome.Outcome.TheVariants as made
use Rattle.desk_top.specs.Answer.{OfCheck, marks_for}
use Rattle.desk_top.specs.Outcome.{Outcome, Prints}

-- which claim of a bundle is rejected, counted from 1; nothing at 0, which is none: at a wrong name, and for a certificate of one pair
abbrev pub claim_text : ℕ → List ℕ
claim_text claim = if claim == 0 then [] else (codes "claim " ++ decimal claim ++ 32 ∷ [])

-- the number of a line in a certificate's file, by its number where the line of the depth, which comes before it, is not counted
abbrev pub file_line : Option ℕ → ℕ → ℕ
file_line depth line = line + length (depth_lines depth)

-- why it is rejected
abbrev pub reason_text : Desk → Option ℕ → Reason → List ℕ
reason_text desk depth (WrongNames line) = codes "WrongNames line " ++ decimal (file_line depth line)
reason_text desk depth (BoundTooGreat topic) = codes "BoundTooGreat topic " ++ slice_index_or (topic_names desk.topics) topic []
reason_text desk depth NoSum = codes "NoSum"
reason_text desk depth (NotCompletion line) = codes "NotCompletion line " ++ decimal (file_line depth line)
reason_text desk depth NoDifference = codes "NoDifference"

abbrev pub rejection_text : Desk → Option ℕ → BundleRejected → List ℕ
rejection_text desk depth rejected = claim_text rejected.claim ++ reason_text desk depth rejected.why

-- the topic of a reason is on the desk
abbrev pub IsReasonOn : Desk → Reason → Type 0
IsReasonOn desk (BoundTooGreat topic) = topic < length desk.topics
IsReasonOn desk why = Unit {0}

-- the line that tells what checking a certificate of either version answered
abbrev pub verification_text : Desk → Option ℕ → Result (Unit {0}) BundleRejected → List ℕ
verification_text desk depth (Ok _) = codes "accepted\n"
verification_text desk depth (Err rejected) = codes "rejected " ++ rejection_text desk depth rejected ++ codes "\n"

-- its status
abbrev pub verification_status : Result (Unit {0}) BundleRejected → Status
verification_status (Ok _) = Done
verification_status (Err rejected) = Rejected

-- what checking a certificate over a desk prints
abbrev pub verification : Scoped → Desk → Result (Unit {0}) BundleRejected → Outcome
verification c desk answer = Prints (verification_status answer) (record { about = OfCheck c desk; text = verification_text desk c.depth answer } ∷ [])

-- the answer of the verifier over the desk of rows
pub record PrintsCheck (found : Loaded × Scoped) (outcome : Outcome) : Type 0 where
  pub desk : Desk
  pub ranked : IsDeskOf found.0.qrels found.0.runs desk
  pub within : IsScoped found.1
  pub answer : Result (Unit {0}) BundleRejected
  pub verified : IsAnyVerified found.1.body desk (marks_for found.1 desk) answer
  pub is : outcome ≡ verification found.1 desk answer

-- what was made is that text with that status
abbrev pub IsText : List ℕ → Status → Made → Type 0
IsText text status (made.Prints shown ended) = (shown.items ≡ text) × (ended ≡ status)
IsText text status outcome = ⊥

-- what was made is what checking a certificate over a desk answered
pub record IsChecked (c : Scoped) (desk : Desk) (outcome : Made) : Type 0 where
  pub answer : Result (Unit {0}) BundleRejected
  pub verified : IsAnyVerified c.body desk (marks_for c desk) answer
  pub text : IsText (verification_text desk c.depth answer) (verification_status answer) outcome

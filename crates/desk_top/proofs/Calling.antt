-- What words mean.
use Rattle.std.proofs.Common.{◌≡◌, ℕ, List, [], refl, sym, subst, ◌∙◌, append-nil, inl}
use Rattle.std.specs.Prelude.{Ok, Err}
use Rattle.desk_outside.specs.Inputs.{Cut}
use Rattle.desk_outside.specs.Seen.{IsUntouched, ReceivedNothing}
use Rattle.desk_outside.proofs.Told.{append_known-nil}
use Rattle.desk_files.specs.Files.{Memory as Memory-stop}
use Rattle.desk_files.specs.Reads.{Extent, ToEnd, Somewhere, GoThrough, ReadsFiles}
use Rattle.desk_words.specs.Laws.{CommandIsUnique}
use Rattle.desk_words.specs.Words.{IsCommandOf}
use Rattle.desk_words.specs.declared.command.Command.{Command}
use Rattle.desk_top.specs.declared.status.Status.{Status}
use Rattle.desk_top.specs.declared.status.Status.TheVariants.{Usage, Memory}
use Rattle.desk_top.specs.Told.{WritesLine}
use Rattle.desk_top.specs.Answer.{usage}
use Rattle.desk_top.specs.Meaning.{Meaning, Means, meaning_of, usage_meaning}
use Rattle.desk_top.specs.Status.{IsStatus, status_line}
use Rattle.desk_top.specs.Meets.{Call, AreRead, IsCallOf, Meets, CanEnd}
use Rattle.desk_top.specs.Truths.{PrintsTruth}
use Rattle.desk_top.proofs.Meeting.{can_end, meets_memory, meets_usage, reads_found}
use Rattle.desk_top.proofs.Truth.{says_truth}
use Rattle.desk_top.proofs.Commands.{asked, command_is_truthful, usage_is_truthful}

module _ (words : List (List ℕ)) (fact : Meaning → Type 0) where
  -- words are of a command
  pub means_command : CommandIsUnique → (command : Command) → IsCommandOf words command → fact (meaning_of command) → Means words fact
  means_command unique command said holds = record { command = λ other says. subst (λ c. fact (meaning_of c)) (unique words command other said says) holds; usage = λ none. absurd (none command said) }

  -- or of none
  pub means_usage : ((command : Command) → IsCommandOf words command → ⊥) → fact usage_meaning → Means words fact
  means_usage none holds = record { command = λ command said. absurd (none command said); usage = λ _. holds }

  -- whatever they are
  pub means_all : ((meaning : Meaning) → fact meaning) → Means words fact
  means_all holds = record { command = λ command said. holds (meaning_of command); usage = λ none. holds usage_meaning }

-- ---- words of no command, and memory that ran out before they were read
module _ (words : List (List ℕ)) (call : Call) (status : Status) (nothing : ReceivedNothing call.out) (cells : call.has_cells ≡ call.had_cells) (opened : call.files.has ≡ call.files.had) (untouched : IsUntouched call.input) where
  -- no file was opened
  no_files : (extent : Extent) → GoThrough [] extent → ReadsFiles extent call.files.had call.files.has
  no_files extent none = record { files = []; through = none; added = opened ∙ sym (append-nil call.files.had) }

  pub usage_meets : ((command : Command) → IsCommandOf words command → ⊥) → status ≡ Usage → WritesLine call.err (status_line Usage) → Means words (λ meaning. Meets meaning call status)
  usage_meets none is line =
      means_usage words (λ meaning. Meets meaning call status) none (meets_usage usage_meaning call status is (λ i. record { found = Ok tt; comes = refl; is = refl }) nothing line (inl cells) (inl opened)
      (reads_found usage_meaning call status tt refl (inl (Cut [], usage, refl, record { ended = is; text = nothing ∙ sym (append_known-nil call.out.had); line = line })) (no_files ToEnd tt) (inl untouched)))

  pub memory_meets : status ≡ Memory → WritesLine call.err (status_line Memory) → Means words (λ meaning. Meets meaning call status)
  memory_meets is line = means_all words (λ meaning. Meets meaning call status) (λ meaning. meets_memory meaning call status is (inl nothing) line (inl cells) (inl opened) (record { came = Err Memory-stop; led = is; files = no_files Somewhere tt; input = untouched }))

-- ---- the call
pub call_meets : PrintsTruth → (words : List (List ℕ)) (call : Call) (status : Status) → AreRead words call status → Means words (λ meaning. Meets meaning call status) → IsCallOf words call status
call_meets laws words call status read meets = record {
  read = read;
  meets = meets;
  truth = record {
    command = λ command said. says_truth (meaning_of command) call status (command_is_truthful laws command (asked words command said)) (meets.command command said);
    usage = λ none. says_truth usage_meaning call status usage_is_truthful (meets.usage none);
  };
}

-- how a call can end
pub can_end_of : (words : List (List ℕ)) (call : Call) (number : ℕ) → IsStatus number (IsCallOf words call) → IsStatus number (λ status. Means words (λ meaning. CanEnd meaning call.files.files status))
can_end_of words call number (status, is, ends) = (
  status,
  is,
  record {
    command = λ command said. can_end (meaning_of command) call status (ends.meets.command command said);
    usage = λ none. can_end usage_meaning call status (ends.meets.usage none);
  },
)

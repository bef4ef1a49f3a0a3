-- Ways to meet a meaning.
use Rattle.std.proofs.Common.{◌≡◌, ℕ, ◌<◌, List, [], ◌++◌, length, refl, ap, sym, subst, ◌∙◌, inl, inr}
use Rattle.std.proofs.lemmas.List.{append_cancel_left}
use Rattle.std.specs.Prelude.{Option, Some, None, Ok, Err, IfSome, ◌⊎◌}
use Rattle.std.specs.Io.KnownBytes.{append_known}
use Rattle.desk_outside.specs.Outside.{Files}
use Rattle.desk_outside.specs.Inputs.{Input, Whole, Cut, IsInput, IsPart}
use Rattle.desk_outside.specs.Seen.{Sink, IsUntouched, ReceivedNothing, ReceivedAll, ReceivedPrefix}
use Rattle.desk_outside.proofs.Told.{append_known-nil, prepend_known-nil}
use Rattle.desk_files.specs.Files.{Outside, Memory, Refused}
use Rattle.desk_files.specs.Reads.{ToEnd, ReadsFiles, extent_at}
use Rattle.desk_files.specs.Views.{refusal_of, stop_of}
use Rattle.desk_files.specs.declared.stop.Stop.{Stop as KeptStop}
use Rattle.desk_files.specs.declared.stop.Stop.TheVariants as kept
use Rattle.session_stream.specs.NoMore.{ReadsNoMore}
use Rattle.desk_top.specs.declared.status.Status.{Status}
use Rattle.desk_top.specs.declared.status.Status.TheVariants as statuses
use Rattle.desk_top.specs.Status.{status_line, GoesWithText}
use Rattle.desk_top.specs.Told.{WritesLine, TellsStop}
use Rattle.desk_top.specs.Answer.{Answer, text_of, said_with, told_with, stop_answer}
use Rattle.desk_top.specs.Loading.{OpensWithin}
use Rattle.desk_top.specs.Meaning.{Meaning, IsAnswer}
use Rattle.desk_top.specs.Works.{CountsFor, MakesText, StopsLoading, CountsStop, PutsText}
use Rattle.desk_top.specs.Meets.{Call, HasAnswer, IsGiven, GivesAnswer, OutputFailed, FilesFailed, Stopped, CountsCells, GivesOn, ReadsAsked, Meets, CanEnd}

-- an input's bytes, where they are known
abbrev bytes_of : Option (List ℕ) → List ℕ
bytes_of None = []
bytes_of (Some bytes) = bytes

bytes_known : (o : Option (List ℕ)) → IfSome o (λ all. all ≡ bytes_of o)
bytes_known None = tt
bytes_known (Some bytes) = refl

some_same : (x y : List ℕ) → Some x ≡ Some y → x ≡ y
some_same x y h = cc

-- the bytes that were received after those that had been
pub sent_is : (old new : Option (List ℕ)) (had sent text : List ℕ) → old ≡ Some had → new ≡ Some (had ++ sent) → new ≡ append_known old text → sent ≡ text
sent_is old new had sent text o e is =
    append_cancel_left had sent text (some_same (had ++ sent) (had ++ text) (sym e ∙ is ∙ ap (λ known. append_known known text) o))

-- a sink that received nothing received the whole of no text
no_text : (out : Sink) → ReceivedNothing out → ReceivedAll out []
no_text out same = same ∙ sym (append_known-nil out.had)

module _ (meaning : Meaning) (call : Call) where
  -- an answer that does not hang on the input was given
  pub given : (status : Status) (answer : Answer) → ((i : Input) → IsAnswer meaning call.files.files i answer) → status ≡ answer.status → ReceivedAll call.out (text_of answer.said) → WritesLine call.err answer.told → GivesAnswer meaning call status
  given status answer is ended text line = record {
    input = Whole (bytes_of call.input.rest);
    met = bytes_known call.input.rest;
    answer = answer;
    is = is (Whole (bytes_of call.input.rest));
    holds = record { ended = ended; text = text; line = line };
  }

  -- it is an answer over any part of the input
  at_part : (answer : Answer) (fact : Answer → Type 0) → ((i : Input) → IsAnswer meaning call.files.files i answer) → fact answer → HasAnswer meaning call.files.files (IsPart call.input) fact
  at_part answer fact is holds = record { input = Cut []; met = (call.input.rest, prepend_known-nil call.input.rest); answer = answer; is = is (Cut []); holds = holds }

  -- the answer was given, and neither failed the outside nor ran memory out
  pub meets_given : (status : Status) → (status ≡ statuses.Outside → ⊥) → (status ≡ statuses.Memory → ⊥) → GivesAnswer meaning call status → CountsCells meaning call → OpensWithin meaning.loading call.files → ReadsAsked meaning call status → Meets meaning call status
  meets_given status not_outside not_memory gives cells opened reads = record {
    answered = inl gives;
    outside = λ outside. absurd (not_outside outside);
    memory = λ memory. absurd (not_memory memory);
    told = (elim [ inl outside ↦ absurd (not_outside outside) | inr memory ↦ absurd (not_memory memory) ]);
    cells = cells;
    opened = opened;
    reads = reads;
  }

  -- an object outside failed
  pub meets_outside : (status : Status) → status ≡ statuses.Outside → GivesAnswer meaning call status ⊎ OutputFailed meaning call ⊎ FilesFailed meaning call → WritesLine call.err (status_line statuses.Outside) → CountsCells meaning call → OpensWithin meaning.loading call.files → ReadsAsked meaning call status → Meets meaning call status
  meets_outside status is why line cells opened reads = record {
    answered = inr (inl is);
    outside = λ _. why;
    memory = λ memory. absurd (let other : statuses.Outside ≡ statuses.Memory = sym is ∙ memory in cc);
    told = λ _. subst (λ s. WritesLine call.err (status_line s)) (sym is) line;
    cells = cells;
    opened = opened;
    reads = reads;
  }

  -- memory ran out
  pub meets_memory : (status : Status) → status ≡ statuses.Memory → Stopped meaning call → WritesLine call.err (status_line statuses.Memory) → CountsCells meaning call → OpensWithin meaning.loading call.files → ReadsAsked meaning call status → Meets meaning call status
  meets_memory status is stopped line cells opened reads = record {
    answered = inr (inr is);
    outside = λ outside. absurd (let other : statuses.Memory ≡ statuses.Outside = sym is ∙ outside in cc);
    memory = λ _. stopped;
    told = λ _. subst (λ s. WritesLine call.err (status_line s)) (sym is) line;
    cells = cells;
    opened = opened;
    reads = reads;
  }

  -- the answer is that of a refusal, or of usage
  meets_told : (status told : Status) (line : List ℕ) → status ≡ told → (told ≡ statuses.Outside → ⊥) → (told ≡ statuses.Memory → ⊥) → ((i : Input) → IsAnswer meaning call.files.files i (told_with told line)) → ReceivedNothing call.out → WritesLine call.err line → CountsCells meaning call → OpensWithin meaning.loading call.files → ReadsAsked meaning call status → Meets meaning call status
  meets_told status told line is not_outside not_memory answers nothing writes cells opened reads =
      meets_given status (λ e. not_outside (sym is ∙ e)) (λ e. not_memory (sym is ∙ e)) (given status (told_with told line) answers is (no_text call.out nothing) writes) cells opened reads

  pub meets_refusal : (status : Status) (line : List ℕ) → status ≡ statuses.Refused → ((i : Input) → IsAnswer meaning call.files.files i (told_with statuses.Refused line)) → ReceivedNothing call.out → WritesLine call.err line → CountsCells meaning call → OpensWithin meaning.loading call.files → ReadsAsked meaning call status → Meets meaning call status
  meets_refusal status line is answers nothing writes cells opened reads = meets_told status statuses.Refused line is (λ e. cc) (λ e. cc) answers nothing writes cells opened reads

  pub meets_usage : (status : Status) → status ≡ statuses.Usage → ((i : Input) → IsAnswer meaning call.files.files i (told_with statuses.Usage (status_line statuses.Usage))) → ReceivedNothing call.out → WritesLine call.err (status_line statuses.Usage) → CountsCells meaning call → OpensWithin meaning.loading call.files → ReadsAsked meaning call status → Meets meaning call status
  meets_usage status is answers nothing writes cells opened reads = meets_told status statuses.Usage (status_line statuses.Usage) is (λ e. cc) (λ e. cc) answers nothing writes cells opened reads

  -- a line was told, and no text put
  told_line : (status told : Status) (line : List ℕ) → status ≡ told → ReceivedNothing call.out → WritesLine call.err line → IsGiven call status (told_with told line)
  told_line status told line is nothing writes = record { ended = is; text = no_text call.out nothing; line = writes }

  -- what was read, where the files say something
  pub reads_found : (status : Status) (found : meaning.loading.Found) → meaning.loading.comes call.files.files (Ok found) → GivesOn meaning call status found ⊎ (status ≡ statuses.Outside) ⊎ (status ≡ statuses.Memory) → ReadsFiles ToEnd call.files.had call.files.has →
      IsUntouched call.input ⊎ (meaning.reads × ReadsNoMore call.input) → ReadsAsked meaning call status
  reads_found status found comes led files input = record { came = Ok found; led = (comes, led); files = files; input = input }

  -- ---- by what was made of the files, where the input was not read
  module _ (same : call.input.rest ≡ call.input.left) (untouched : IsUntouched call.input) where
    counts_for : (found : meaning.loading.Found) → meaning.loading.comes call.files.files (Ok found) → CountsFor meaning call.had_cells call.has_cells found → CountsCells meaning call
    counts_for found comes counts = inr (found, comes, Cut [], same ∙ prepend_known-nil call.input.left, counts.0, counts.1 (Cut []), counts.2)

    counts_stop : (stop : KeptStop) → CountsStop meaning call.files.files call.had_cells call.has_cells stop → CountsCells meaning call
    counts_stop stop (inl none) = inl none
    counts_stop stop (inr some) = counts_for some.1 some.2 some.3

    -- a text was made, and put
    pub meets_put : (found : meaning.loading.Found) → meaning.loading.comes call.files.files (Ok found) → (text : List ℕ) (status ended : Status) → MakesText meaning found text status → CountsFor meaning call.had_cells call.has_cells found →
        PutsText call.out call.err text status ended → OpensWithin meaning.loading call.files → ReadsFiles ToEnd call.files.had call.files.has → Meets meaning call ended
    meets_put found comes text status ended makes counts put opened files = at put
      where
        answer : Answer
        answer = said_with status makes.said

        its : (i : Input) → IsAnswer meaning call.files.files i answer
        its i = record { found = Ok found; comes = comes; is = makes.answers i }

        at : PutsText call.out call.err text status ended → Meets meaning call ended
        at (inl whole) =
            meets_given ended (λ e. subst GoesWithText (sym whole.0 ∙ e) makes.goes) (λ e. subst GoesWithText (sym whole.0 ∙ e) makes.goes)
            (given ended answer its whole.0 received whole.2) (counts_for found comes counts) opened
            (reads_found ended found comes (inl (Cut [], answer, makes.answers (Cut []), record { ended = whole.0; text = received; line = whole.2 })) files (inl untouched))
          where
            received : ReceivedAll call.out (text_of answer.said)
            received = subst (ReceivedAll call.out) makes.is whole.1
        at (inr broken) =
            meets_outside ended broken.0
            (inr (inl (broken.1, at_part answer (λ a. (0 < length (text_of a.said)) × ReceivedPrefix call.out (text_of a.said)) its (subst (λ t. (0 < length t) × ReceivedPrefix call.out t) makes.is (broken.2, broken.3)))))
            broken.4 (counts_for found comes counts) opened (reads_found ended found comes (inr (inl broken.0)) files (inl untouched))

    -- a refusal was made, and told
    pub meets_refused : (found : meaning.loading.Found) → meaning.loading.comes call.files.files (Ok found) → (line : List ℕ) (status : Status) → ((i : Input) → meaning.answers found i (told_with statuses.Refused line)) → CountsFor meaning call.had_cells call.has_cells found →
        status ≡ statuses.Refused → ReceivedNothing call.out → WritesLine call.err line → OpensWithin meaning.loading call.files → ReadsFiles ToEnd call.files.had call.files.has → Meets meaning call status
    meets_refused found comes line status answers counts is nothing writes opened files =
        meets_refusal status line is (λ i. record { found = Ok found; comes = comes; is = answers i }) nothing writes (counts_for found comes counts) opened
        (reads_found status found comes (inl (Cut [], told_with statuses.Refused line, answers (Cut []), told_line status statuses.Refused line is nothing writes)) files (inl untouched))

    -- the command stopped, and told why
    pub meets_stopped : (stop : KeptStop) (status : Status) → StopsLoading meaning.loading call.files stop → CountsStop meaning call.files.files call.had_cells call.has_cells stop → TellsStop stop call.err status → ReceivedNothing call.out → OpensWithin meaning.loading call.files →
        ReadsFiles (extent_at (stop_of stop)) call.files.had call.files.has → Meets meaning call status
    meets_stopped (kept.Refused refusal) status stopped counts (inl refused) nothing opened files =
        meets_refusal status _ refused.0 (λ i. record { found = Err (Refused (refusal_of refusal)); comes = stopped; is = refl }) nothing refused.1 (counts_stop (kept.Refused refusal) counts) opened
        (record { came = Err (Refused (refusal_of refusal)); led = (stopped, inl (told_line status statuses.Refused _ refused.0 nothing refused.1)); files = files; input = untouched })
    meets_stopped (kept.Refused refusal) status stopped counts (inr memory) nothing opened files =
        meets_memory status memory.0 (inl nothing) memory.1 (counts_stop (kept.Refused refusal) counts) opened
        (record { came = Err (Refused (refusal_of refusal)); led = (stopped, inr memory.0); files = files; input = untouched })
    meets_stopped kept.Outside status stopped counts told nothing opened files =
        meets_outside status told.0 (why stopped counts) told.1 (counts_stop kept.Outside counts) opened (record { came = Err Outside; led = told.0; files = files; input = untouched })
      where
        why : StopsLoading meaning.loading call.files kept.Outside → CountsStop meaning call.files.files call.had_cells call.has_cells kept.Outside → GivesAnswer meaning call status ⊎ OutputFailed meaning call ⊎ FilesFailed meaning call
        why (inl failed) (inl none) = inr (inr (failed.0, failed.1, nothing, none))
        why (inl failed) (inr some) = let other : kept.Outside ≡ kept.Memory = some.0 in absurd (cc)
        why (inr missing) counted = inl (given status (stop_answer Outside) (λ i. record { found = Err Outside; comes = missing; is = refl }) told.0 (no_text call.out nothing) told.1)
    meets_stopped kept.Memory status stopped counts told nothing opened files =
        meets_memory status told.0 (inl nothing) told.1 (counts_stop kept.Memory counts) opened (record { came = Err Memory; led = told.0; files = files; input = untouched })

-- an answer of which something weaker holds, over any input
any_answer : (meaning : Meaning) (known : Option Files) (P : Input → Type 0) (fact weaker : Answer → Type 0) → ((answer : Answer) → fact answer → weaker answer) → HasAnswer meaning known P fact → HasAnswer meaning known (λ input. Unit {0}) weaker
any_answer meaning known P fact weaker f has = record { input = has.input; met = tt; answer = has.answer; is = has.is; holds = f has.answer has.holds }

-- how a call that meets a meaning can end
pub can_end : (meaning : Meaning) (call : Call) (status : Status) → Meets meaning call status → CanEnd meaning call.files.files status
can_end meaning call status meets = at meets.answered
  where
    given_end : GivesAnswer meaning call status → CanEnd meaning call.files.files status
    given_end gives = inl (any_answer meaning call.files.files (IsInput call.input) (IsGiven call status) (λ answer. status ≡ answer.status) (λ answer is. is.ended) gives)

    failed_end : status ≡ statuses.Outside → GivesAnswer meaning call status ⊎ OutputFailed meaning call ⊎ FilesFailed meaning call → CanEnd meaning call.files.files status
    failed_end is (inl gives) = given_end gives
    failed_end is (inr (inl failed)) = inr (inl (is, inr (any_answer meaning call.files.files _ _ (λ answer. 0 < length (text_of answer.said)) (λ answer holds. holds.0) failed.1)))
    failed_end is (inr (inr failed)) = inr (inl (is, inl failed.0))

    at : GivesAnswer meaning call status ⊎ (status ≡ statuses.Outside) ⊎ (status ≡ statuses.Memory) → CanEnd meaning call.files.files status
    at (inl gives) = given_end gives
    at (inr (inl outside)) = failed_end outside (meets.outside outside)
    at (inr (inr memory)) = inr (inr memory)

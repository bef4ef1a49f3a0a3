-- What follows for every call that ends as its words mean.
use Rattle.std.proofs.Common.{◌≡◌, ℕ, List, [], ◌∷◌, ◌++◌, map, flat_map, length, ap, sym, subst, ◌∙◌, arith, inl, inr, append-nil, length-append}
use Rattle.std.specs.Prelude.{Option, Some, Result, Ok, Err, ◌⊎◌}
use Rattle.std.specs.List.{Contains}
use Rattle.std.specs.Io.KnownBytes.{append_known}
use Rattle.desk_outside.specs.Calls.{ShelfCall, Reading, opened_in}
use Rattle.desk_outside.specs.Outside.{Files, Rose}
use Rattle.desk_outside.specs.Inputs.{Input, Whole, Cut, IsInput}
use Rattle.desk_outside.specs.Seen.{Shelf, Source, ReceivedNothing}
use Rattle.desk_outside.proofs.Logs.{opened_in-append}
use Rattle.desk_outside.proofs.Told.{append_known-nil}
use Rattle.desk_words.specs.declared.command.Command.{Command}
use Rattle.desk_files.specs.Files.{Stop, Outside, Memory, Refused, Refusal}
use Rattle.desk_files.specs.Reads.{FileReads, calls_of}
use Rattle.desk_top.specs.declared.status.Status.{Status}
use Rattle.desk_top.specs.declared.status.Status.TheVariants as statuses
use Rattle.desk_top.specs.Told.{WritesLine, refusal_line}
use Rattle.desk_top.specs.Answer.{Answer, text_of, usage, stop_answer, stop_status}
use Rattle.desk_top.specs.Loading.{Loading, OpensFiles, OpensWithin}
use Rattle.desk_top.specs.Meaning.{Meaning, AnswersOn, IsAnswer, meaning_of, usage_meaning}
use Rattle.desk_top.specs.Meets.{Call, GivesAnswer, OutputFailed, FilesFailed, Stopped, Meets}
use Rattle.desk_laws.specs.Laws.{IsStatusOf, OtherWordsAreUsage, GoodFilesAreAnswered, MissingFileIsOutside, RefusalIsTold, StatusesAreFew}

-- ---- what is asked of each command
-- known files come to one thing, and files that are refused may be opened
pub record IsLawfulLoading (loading : Loading) : Type 0 where
  pub one : (files : Files) (x y : Result loading.Found Stop) → loading.comes (Some files) x → loading.comes (Some files) y → x ≡ y
  pub opens : (known : Option Files) (refusal : Refusal) → loading.comes known (Err (Refused refusal)) → OpensFiles loading known

-- an input that failed
abbrev pub IsCut : Input → Type 0
IsCut (Whole bytes) = ⊥
IsCut (Cut bytes) = Unit {0}

-- a status that a command has, or that of an input that failed
abbrev pub EndsIn : Meaning → Input → Status → Type 0
EndsIn meaning input status = Contains meaning.ends status ⊎ ((status ≡ statuses.Outside) × meaning.reads × IsCut input)

-- the statuses of the answers are those that the command has
abbrev pub HasEnds : Meaning → Type 0
HasEnds meaning = (found : meaning.loading.Found) (input : Input) (answer : Answer) → meaning.answers found input answer → EndsIn meaning input answer.status

failed_source : (source : Source) (input : Input) → IsInput source input → IsCut input → Rose source.before source.after
failed_source source (Whole bytes) met cut = absurd cut
failed_source source (Cut bytes) met cut = met.1

status_there : (meaning : Meaning) (source : Source) (input : Input) (status : Status) → IsInput source input → EndsIn meaning input status → IsStatusOf meaning source status
status_there meaning source input status met (inl there) = inl there
status_there meaning source input status met (inr cut) = inr (cut.0, cut.1, failed_source source input met cut.2)

module _ (meaning : Meaning) where
  -- ---- the answers on known files
  module _ (lawful : IsLawfulLoading meaning.loading) (files : Files) (input : Input) (answer : Answer) where
    pub on_found : (found : meaning.loading.Found) → meaning.loading.comes (Some files) (Ok found) → IsAnswer meaning (Some files) input answer → meaning.answers found input answer
    on_found found comes is = at is.found is.comes is.is
      where
        at : (other : Result meaning.loading.Found Stop) → meaning.loading.comes (Some files) other → AnswersOn meaning input other answer → meaning.answers found input answer
        at (Ok x) own answers = let both : Ok x ≡ Ok found = lawful.one files (Ok x) (Ok found) own comes in let same : x ≡ found = cc in subst (λ y. meaning.answers y input answer) same answers
        at (Err why) own answers = let bad : Err why ≡ Ok found = lawful.one files (Err why) (Ok found) own comes in absurd (cc)

    pub on_stop : (why : Stop) → meaning.loading.comes (Some files) (Err why) → IsAnswer meaning (Some files) input answer → answer ≡ stop_answer why
    on_stop why comes is = at is.found is.comes is.is
      where
        at : (other : Result meaning.loading.Found Stop) → meaning.loading.comes (Some files) other → AnswersOn meaning input other answer → answer ≡ stop_answer why
        at (Ok x) own answers = let bad : Ok x ≡ Err why = lawful.one files (Ok x) (Err why) own comes in absurd (cc)
        at (Err other) own answers = let both : Err other ≡ Err why = lawful.one files (Err other) (Err why) own comes in let same : other ≡ why = cc in answers ∙ ap stop_answer same

  -- ---- how a call ends
  module _ (call : Call) (status : Status) (meets : Meets meaning call status) where
    -- it gave its answer, or something failed, or memory ran out
    abbrev pub Ways : Type 0
    Ways = GivesAnswer meaning call status ⊎ OutputFailed meaning call ⊎ FilesFailed meaning call ⊎ (status ≡ statuses.Memory)

    pub ways : Ways
    ways = at meets.answered
      where
        why : GivesAnswer meaning call status ⊎ OutputFailed meaning call ⊎ FilesFailed meaning call → Ways
        why (inl gives) = inl gives
        why (inr (inl failed)) = inr (inl failed)
        why (inr (inr failed)) = inr (inr (inl failed))

        at : GivesAnswer meaning call status ⊎ (status ≡ statuses.Outside) ⊎ (status ≡ statuses.Memory) → Ways
        at (inl gives) = inl gives
        at (inr (inl outside)) = why (meets.outside outside)
        at (inr (inr memory)) = inr (inr (inr memory))

    few : IsLawfulLoading meaning.loading → HasEnds meaning → IsStatusOf meaning call.input status ⊎ (OpensFiles meaning.loading call.files.files × (status ≡ statuses.Refused)) ⊎ (status ≡ statuses.Outside) ⊎ (status ≡ statuses.Memory)
    few lawful has = at meets.answered
      where
        on : (input : Input) (answer : Answer) → IsInput call.input input → status ≡ answer.status → (found : Result meaning.loading.Found Stop) → meaning.loading.comes call.files.files found → AnswersOn meaning input found answer →
            IsStatusOf meaning call.input status ⊎ (OpensFiles meaning.loading call.files.files × (status ≡ statuses.Refused)) ⊎ (status ≡ statuses.Outside) ⊎ (status ≡ statuses.Memory)
        on input answer met is (Ok found) comes answers = inl (status_there meaning call.input input status met (subst (EndsIn meaning input) (sym is) (has found input answer answers)))
        on input answer met is (Err Outside) comes answers = inr (inr (inl (is ∙ ap (λ (a : Answer). a.status) answers)))
        on input answer met is (Err Memory) comes answers = inr (inr (inr (is ∙ ap (λ (a : Answer). a.status) answers)))
        on input answer met is (Err (Refused refusal)) comes answers = inr (inl (lawful.opens call.files.files refusal comes, is ∙ ap (λ (a : Answer). a.status) answers))

        at : GivesAnswer meaning call status ⊎ (status ≡ statuses.Outside) ⊎ (status ≡ statuses.Memory) → IsStatusOf meaning call.input status ⊎ (OpensFiles meaning.loading call.files.files × (status ≡ statuses.Refused)) ⊎ (status ≡ statuses.Outside) ⊎ (status ≡ statuses.Memory)
        at (inl gives) = on gives.input gives.answer gives.met gives.holds.ended gives.is.found gives.is.comes gives.is.is
        at (inr other) = inr (inr other)

    -- over known files
    module _ (lawful : IsLawfulLoading meaning.loading) (files : Files) (known : call.files.files ≡ Some files) where
      its_answer : (input : Input) (answer : Answer) → IsAnswer meaning call.files.files input answer → IsAnswer meaning (Some files) input answer
      its_answer input answer is = subst (λ k. IsAnswer meaning k input answer) known is

      good : HasEnds meaning → (found : meaning.loading.Found) → meaning.loading.comes (Some files) (Ok found) → (Rose call.files.before call.files.after → ⊥) → (Rose call.out.before call.out.after → ⊥) → IsStatusOf meaning call.input status ⊎ (status ≡ statuses.Memory)
      good has found comes calm still = at ways
        where
          at : Ways → IsStatusOf meaning call.input status ⊎ (status ≡ statuses.Memory)
          at (inl gives) =
              inl (status_there meaning call.input gives.input status gives.met (subst (EndsIn meaning gives.input) (sym gives.holds.ended)
              (has found gives.input gives.answer (on_found lawful files gives.input gives.answer found comes (its_answer gives.input gives.answer gives.is)))))
          at (inr (inl failed)) = absurd (still failed.0)
          at (inr (inr (inl failed))) = absurd (calm failed.1)
          at (inr (inr (inr memory))) = inr memory

      module _ (why : Stop) (comes : meaning.loading.comes (Some files) (Err why)) where
        stops : (input : Input) (answer : Answer) → IsAnswer meaning call.files.files input answer → answer ≡ stop_answer why
        stops input answer is = on_stop lawful files input answer why comes (its_answer input answer is)

        stop_ends : (status ≡ stop_status why) ⊎ (status ≡ statuses.Outside) ⊎ (status ≡ statuses.Memory)
        stop_ends = at meets.answered
          where
            at : GivesAnswer meaning call status ⊎ (status ≡ statuses.Outside) ⊎ (status ≡ statuses.Memory) → (status ≡ stop_status why) ⊎ (status ≡ statuses.Outside) ⊎ (status ≡ statuses.Memory)
            at (inl gives) = inl (gives.holds.ended ∙ ap (λ (a : Answer). a.status) (stops gives.input gives.answer gives.is))
            at (inr other) = inr other

        silent : OutputFailed meaning call → ⊥
        silent failed =
            let has = failed.1 in
            let empty : length (text_of has.answer.said) ≡ 0 = ap (λ (a : Answer). length (text_of a.said)) (stops has.input has.answer has.is) in
            omega (arith, empty, has.holds.0)

        nothing_of : (input : Input) (answer : Answer) → IsAnswer meaning call.files.files input answer → call.out.has ≡ append_known call.out.had (text_of answer.said) → ReceivedNothing call.out
        nothing_of input answer is received = received ∙ ap (λ (a : Answer). append_known call.out.had (text_of a.said)) (stops input answer is) ∙ append_known-nil call.out.had

        nothing_stopped : Stopped meaning call → ReceivedNothing call.out
        nothing_stopped (inl nothing) = nothing
        nothing_stopped (inr part) = let has = part.1 in nothing_of has.input has.answer has.is has.holds

      told : (refusal : Refusal) → meaning.loading.comes (Some files) (Err (Refused refusal)) → (Rose call.files.before call.files.after → ⊥) → (((status ≡ statuses.Refused) × WritesLine call.err (refusal_line refusal)) ⊎ (status ≡ statuses.Memory)) × ReceivedNothing call.out
      told refusal comes calm = at ways
        where
          at : Ways → (((status ≡ statuses.Refused) × WritesLine call.err (refusal_line refusal)) ⊎ (status ≡ statuses.Memory)) × ReceivedNothing call.out
          at (inl gives) =
              let is = stops (Refused refusal) comes gives.input gives.answer gives.is in (
                inl (gives.holds.ended ∙ ap (λ (a : Answer). a.status) is, subst (λ (a : Answer). WritesLine call.err a.told) is gives.holds.line),
                nothing_of (Refused refusal) comes gives.input gives.answer gives.is gives.holds.text,
              )
          at (inr (inl failed)) = absurd (silent (Refused refusal) comes failed)
          at (inr (inr (inl failed))) = absurd (calm failed.1)
          at (inr (inr (inr memory))) = (inr memory, nothing_stopped (Refused refusal) comes (meets.memory memory))

-- ---- usage
usage_alone : (known : Option Files) (input : Input) (answer : Answer) → IsAnswer usage_meaning known input answer → answer ≡ usage
usage_alone known input answer is = at is.found is.comes is.is
  where
    at : (found : Result (Unit {0}) Stop) → found ≡ Ok tt → AnswersOn usage_meaning input found answer → answer ≡ usage
    at (Ok found) comes answers = answers
    at (Err why) comes answers = absurd (cc)

usage_opened : (shelf : Shelf) → OpensWithin usage_meaning.loading shelf → opened_in shelf.has ≡ opened_in shelf.had
usage_opened shelf (inl same) = ap opened_in same
usage_opened shelf (inr opens) = opens.added ∙ ap (λ names. opened_in shelf.had ++ names) opens.allowed ∙ append-nil (opened_in shelf.had)

-- where no file was opened, none was read
none_opened : (had has : List ShelfCall) (files : List FileReads) → has ≡ had ++ flat_map calls_of files → opened_in has ≡ opened_in had → has ≡ had
none_opened had has [] added same = added ∙ append-nil had
none_opened had has (file ∷ files) added same =
    let names : List (List ℕ) = opened_in (map Reading file.reads ++ flat_map calls_of files) in
    let more : opened_in had ≡ opened_in had ++ file.name ∷ names = sym same ∙ ap opened_in added ∙ opened_in-append had (flat_map calls_of (file ∷ files)) in
    absurd (omega (arith, ap length more, length-append (opened_in had) (file.name ∷ names)))

pub other_words : OtherWordsAreUsage
other_words words call status ends none = (at (ways usage_meaning call status meets), none_opened call.files.had call.files.has meets.reads.files.files meets.reads.files.added (usage_opened call.files meets.opened))
  where
    meets : Meets usage_meaning call status
    meets = ends.meets.usage none

    at : Ways usage_meaning call status meets → (status ≡ statuses.Usage) ⊎ (status ≡ statuses.Memory)
    at (inl gives) = inl (gives.holds.ended ∙ ap (λ (a : Answer). a.status) (usage_alone call.files.files gives.input gives.answer gives.is))
    at (inr (inl failed)) =
        let has = failed.1 in
        let empty : length (text_of has.answer.said) ≡ 0 = ap (λ (a : Answer). length (text_of a.said)) (usage_alone call.files.files has.input has.answer has.is) in
        absurd (omega (arith, empty, has.holds.0))
    at (inr (inr (inl failed))) = let bad : failed.0.0 ∷ [] ≡ [] = failed.0.1 in absurd (omega (arith, ap length bad))
    at (inr (inr (inr memory))) = inr memory

-- ---- the laws
module _ (loads : (command : Command) → IsLawfulLoading (meaning_of command).loading) where
  pub statuses_few : ((command : Command) → HasEnds (meaning_of command)) → StatusesAreFew
  statuses_few has words command call status ends asks = few (meaning_of command) call status (ends.meets.command command asks) (loads command) (has command)

  pub good_files : ((command : Command) → HasEnds (meaning_of command)) → GoodFilesAreAnswered
  good_files has words command files call status over is_good calm still =
      good (meaning_of command) call status (over.ends.meets.command command over.asks) (loads command) files over.known (has command) is_good.0 is_good.1 calm still

  pub missing_file : MissingFileIsOutside
  missing_file words command files call status over comes = at (stop_ends (meaning_of command) call status (over.ends.meets.command command over.asks) (loads command) files over.known Outside comes)
    where
      at : (status ≡ statuses.Outside) ⊎ (status ≡ statuses.Outside) ⊎ (status ≡ statuses.Memory) → (status ≡ statuses.Outside) ⊎ (status ≡ statuses.Memory)
      at (inl outside) = inl outside
      at (inr other) = other

  pub refusal_told : RefusalIsTold
  refusal_told words command files call status over refusal comes calm =
      told (meaning_of command) call status (over.ends.meets.command command over.asks) (loads command) files over.known refusal comes calm

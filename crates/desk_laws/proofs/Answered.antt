-- What a call answers: one thing, in whole lines.
use Rattle.std.proofs.Common.{◌≡◌, ℕ, List, ap, sym, subst, ◌∙◌, inl, inr}
use Rattle.std.specs.Prelude.{Option, Some, Result, Ok, Err, IfSome, ◌⊎◌}
use Rattle.desk_outside.specs.Outside.{Files}
use Rattle.desk_outside.specs.Inputs.{Input, Whole, Cut, IsInput}
use Rattle.desk_words.specs.declared.command.Command.{Command}
use Rattle.desk_files.specs.Files.{Stop}
use Rattle.desk_top.specs.declared.status.Status.{Status}
use Rattle.desk_top.specs.declared.status.Status.TheVariants.{Outside, Memory}
use Rattle.desk_top.specs.Answer.{Answer, text_of}
use Rattle.desk_top.specs.Meaning.{Meaning, AnswersOn, IsAnswer, meaning_of}
use Rattle.desk_top.specs.Meets.{Call, IsGiven, GivesAnswer}
use Rattle.desk_laws.specs.Answered.{IsAnsweredCall, IsKnownCall, TextsEndTheirLines, AnswersAreOne, CallsAreOne}
use Rattle.desk_laws.proofs.LineEnds.{text_ends, stop_line_ends}
use Rattle.desk_laws.proofs.Statuses.{IsLawfulLoading, on_found, on_stop}
use Rattle.desk_laws.proofs.Answering.{EndsLines, HasLines, HasOneAnswer}
use Rattle.desk_laws.proofs.Commands.{IsLawful}

-- a call that was answered gave its answer
gives : (words : _) (command : Command) (call : Call) (status : Status) → IsAnsweredCall words command call status → GivesAnswer (meaning_of command) call status
gives words command call status answered = at (answered.ends.meets.command command answered.asks).answered
  where
    at : GivesAnswer (meaning_of command) call status ⊎ (status ≡ Outside) ⊎ (status ≡ Memory) → GivesAnswer (meaning_of command) call status
    at (inl gives) = gives
    at (inr (inl outside)) = absurd (answered.not_outside outside)
    at (inr (inr memory)) = absurd (answered.not_memory memory)

answer_lines : (meaning : Meaning) → HasLines meaning → (known : Option Files) (input : Input) (answer : Answer) → IsAnswer meaning known input answer → EndsLines answer
answer_lines meaning lines known input answer is = at is.found is.is
  where
    at : (found : Result meaning.loading.Found Stop) → AnswersOn meaning input found answer → EndsLines answer
    at (Ok found) own = lines found input answer own
    at (Err why) own = subst EndsLines (sym own) (record { said = tt; told = stop_line_ends why })

pub one_answer : (meaning : Meaning) → IsLawfulLoading meaning.loading → HasOneAnswer meaning → (files : Files) (input : Input) (first second : Answer) → IsAnswer meaning (Some files) input first → IsAnswer meaning (Some files) input second → first ≡ second
one_answer meaning lawful one files input first second is other = at is.found is.comes is.is
  where
    at : (found : Result meaning.loading.Found Stop) → meaning.loading.comes (Some files) found → AnswersOn meaning input found first → first ≡ second
    at (Ok found) comes own = one found input first second own (on_found meaning lawful files input second found comes other)
    at (Err why) comes own = own ∙ sym (on_stop meaning lawful files input second why comes other)

module _ (lawful : (command : Command) → IsLawful (meaning_of command)) where
  pub texts_end : TextsEndTheirLines
  texts_end words command call status answered =
      let given = gives words command call status answered in
      let lines = answer_lines (meaning_of command) (lawful command).lines call.files.files given.input given.answer given.is in
      ((text_of given.answer.said, given.holds.text, text_ends given.answer.said lines.said), (given.answer.told, given.holds.line, lines.told))

  pub answers_one : AnswersAreOne
  answers_one command files input first second is other = one_answer (meaning_of command) (lawful command).loading (lawful command).one files input first second is other

  -- the answer of a known call is over its bytes
  over_bytes : (words : _) (command : Command) (files : Files) (bytes : List ℕ) (call : Call) (status : Status) → IsKnownCall words command files bytes call status → (answer : Answer) × IsAnswer (meaning_of command) (Some files) (Whole bytes) answer × IsGiven call status answer
  over_bytes words command files bytes call status known = at (gives words command call status known.answered)
    where
      input_is : (i : Input) → IsInput call.input i → i ≡ Whole bytes
      input_is (Whole others) met = ap Whole (sym (subst (λ o. IfSome o (λ all. all ≡ others)) known.input_known met))
      input_is (Cut others) met = absurd (known.calm met.1)

      at : GivesAnswer (meaning_of command) call status → (answer : Answer) × IsAnswer (meaning_of command) (Some files) (Whole bytes) answer × IsGiven call status answer
      at given = (
        given.answer,
        subst (λ i. IsAnswer (meaning_of command) (Some files) i given.answer) (input_is given.input given.met) (subst (λ k. IsAnswer (meaning_of command) k given.input given.answer) known.files_known given.is),
        given.holds,
      )

  pub calls_one : CallsAreOne
  calls_one words command files bytes first second s t known again =
      let one = over_bytes words command files bytes first s known in
      let other = over_bytes words command files bytes second t again in
      (one.0, one.2, subst (λ a. IsGiven second t a) (answers_one command files (Whole bytes) other.0 one.0 other.1 one.1) other.2)

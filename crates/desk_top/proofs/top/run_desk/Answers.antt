use Rattle.std.proofs.Common.{refl, ap, inl, inr}
use Rattle.std.specs.Prelude.{map, string_bytes, Err}
use Rattle.desk_top.specs.Meets.{Meets, LeavesInput}
use Rattle.desk_top.proofs.Commands.{asked}
use Rattle.desk_top.proofs.Calling.{means_command, usage_meets, memory_meets, call_meets}
use Rattle.desk_top.proofs.top.run_desk.Goals as goal

pub returns-in-Ok-clause-ends : goal.returns-in-Ok-clause-ends
returns-in-Ok-clause-ends g c =
    let words = map string_bytes c.args.words.now in
    let command = c.in-Ok.command in (
      c.run_command.result,
      c.into.ensures,
      call_meets c.printed_texts_are_true.ensures words _ _ (inl (command, c.in-Ok.ensures.ok)) (means_command words (λ meaning. Meets meaning _ _) c.command_is_unique.ensures command c.in-Ok.ensures.ok c.run_command.ensures.meets),
    )

pub returns-in-Ok-clause-input : goal.returns-in-Ok-clause-input
returns-in-Ok-clause-input g c =
    let words = map string_bytes c.args.words.now in
    means_command words (λ meaning. LeavesInput meaning _ _ _) c.command_is_unique.ensures c.in-Ok.command c.in-Ok.ensures.ok c.run_command.ensures.input

pub returns-in-Err-Usage-clause-ends : goal.returns-in-Err-Usage-clause-ends
returns-in-Err-Usage-clause-ends g c =
    let words = map string_bytes c.args.words.now in
    let none = c.in-Err-Usage.ensures.usage (ap Err c.in-Err-Usage.field-0-is) in
    (c.tell_usage.result, c.into-in-Err-Usage.ensures, call_meets c.printed_texts_are_true.ensures words _ _ (inr (inl none)) (usage_meets words _ _ refl refl refl refl none c.tell_usage.ensures.status c.tell_usage.ensures.line))

pub returns-in-Err-Memory-clause-ends : goal.returns-in-Err-Memory-clause-ends
returns-in-Err-Memory-clause-ends g c =
    let words = map string_bytes c.args.words.now in
    (c.tell_memory.result, c.into-in-Err-Memory.ensures, call_meets c.printed_texts_are_true.ensures words _ _ (inr (inr (c.tell_memory.ensures.status, refl))) (memory_meets words _ _ refl refl refl refl c.tell_memory.ensures.status c.tell_memory.ensures.line))

pub run_command-requires : goal.run_command-requires
run_command-requires g c = asked (map string_bytes c.args.words.now) c.in-Ok.command c.in-Ok.ensures.ok

use Rattle.std.proofs.Common.{lit<}
use Rattle.desk_words.specs.Words.{is_equals}
use Rattle.desk_words.proofs.Values.{run_unnamed, none_passes}
use Rattle.desk_words.proofs.value.run_word.Goals as goal

pub returns-in_ok-filled-in-None-clause-ok : goal.returns-in_ok-filled-in-None-clause-ok
returns-in_ok-filled-in-None-clause-ok c =
    run_unnamed c.args.word.now c.in_ok-filled-in-None.field-0 (none_passes is_equals c.args.word.now (c.in-None.ensures.byte (lit< tt) (λ w o h. h))) c.in_ok-filled-in-None.ensures.ok c.in_ok-filled-in-None.ensures.some

use Rattle.desk_files.proofs.Checking.{one_check}
use Rattle.desk_laws.proofs.answers.answers_are_fixed.Goals as goal

pub returns : goal.returns
returns c = record {
  check = one_check c.scoped_text_and_certificate_are_one.ensures.certificate c.scoped_first_bad_line_is_unique.ensures.unique c.scoped_first_bad_line_is_unique.ensures.none;
  desk = c.desk_is_one.ensures;
  verifier = c.any_answers_are_one.ensures;
  bundle = c.bundle_is_one.ensures.names;
  order = c.orders_are_one.ensures;
  replies = c.replies_are_one.ensures;
  next = c.next_is_one.ensures;
}

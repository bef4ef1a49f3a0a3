use Rattle.desk_text.proofs.WholeLines.{whole_lines-append_more, unended-append_more}
use Rattle.desk_text.proofs.laws.bytes_of_a_line_end_none.Goals as goal

pub returns : goal.returns
returns c = record { whole = whole_lines-append_more; unended = unended-append_more }

use Rattle.desk_text.proofs.WholeLines.{whole_lines-append_ended, unended-append_ended}
use Rattle.desk_text.proofs.laws.a_line_feed_ends_a_line.Goals as goal

pub returns : goal.returns
returns c = record { whole = whole_lines-append_ended; unended = unended-append_ended }

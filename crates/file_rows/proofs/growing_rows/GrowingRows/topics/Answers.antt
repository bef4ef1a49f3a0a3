use Rattle.std.proofs.Common.{sym, ◌∙◌}
use Rattle.file_rows.proofs.Zipped.{length_held}
use Rattle.file_rows.proofs.RowFiles.{holding}
use Rattle.file_rows.proofs.growing_rows.GrowingRows.topics.Goals as goal

pub returns : goal.returns
returns g c = c.len.ensures ∙ sym (length_held (holding c.self.invariant c.self.view_is))

use Rattle.desk_report.proofs.Tiered.{tiers_true}
use Rattle.desk_report.proofs.claims.printed_tiers_are_true.Goals as goal

pub returns : goal.returns
returns c = tiers_true c.covers_hold.ensures.holds c.covers_hold.ensures.within c.scoped_certificates_have_texts.ensures.written

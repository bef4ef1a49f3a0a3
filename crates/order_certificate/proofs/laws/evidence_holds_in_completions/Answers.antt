use Rattle.order_certificate.specs.declared.certificate.Evidence.TheVariants.{Above, Equal, Open}
use Rattle.order_certificate.proofs.Holds.{evidence_claims, claimed}
use Rattle.order_certificate.proofs.laws.evidence_holds_in_completions.Goals as goal

pub returns-clause-above : goal.returns-clause-above
returns-clause-above _ c desk marks valid is_desk known h a b bounds runs is = (claimed c desk marks a b (Above bounds) (evidence_claims c desk marks valid is_desk known h) runs is).in_every

pub returns-clause-equal : goal.returns-clause-equal
returns-clause-equal _ c desk marks valid is_desk known h a b bounds runs is = (claimed c desk marks a b (Equal bounds) (evidence_claims c desk marks valid is_desk known h) runs is).in_every

pub returns-clause-open : goal.returns-clause-open
returns-clause-open _ c desk marks valid is_desk known h a b witnesses runs is = claimed c desk marks a b (Open witnesses) (evidence_claims c desk marks valid is_desk known h) runs is

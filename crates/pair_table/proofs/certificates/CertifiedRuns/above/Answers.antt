use Rattle.std.proofs.Common.{ap, ◌∙◌}
use Rattle.desk_model.specs.Desk.{topics_under}
use Rattle.order_certificate.specs.declared.certificate.Evidence.TheVariants.{Above as By}
use Rattle.pair_table.specs.Sums.{cell_ends}
use Rattle.pair_table.proofs.Saying.{if_ok_both, cells_named}
use Rattle.pair_table.proofs.certificates.CertifiedRuns.above.Goals as goal

pub returns : goal.returns
returns g c =
    let cell = g.M.Measure.cell_of c.args.self.now.table.now.measure in
    let desk = c.args.self.now.desk.now in
    if_ok_both c.certificate.result _ _ _
    (λ x p q marks known stands. record {
      compares = p;
      ends = cell_ends cell (topics_under desk marks) c.args.self.now.first c.args.self.now.second;
      named = cells_named cell (topics_under desk marks) c.args.self.now.first c.args.self.now.second;
      bounds = q ∙ ap By (c.in_ok-bounds.ensures marks known stands);
    })
    c.certificate.ensures.compares c.certificate.ensures.evidence

use Rattle.order_bundle.specs.declared.any_certificate.AnyCertificate.TheVariants.{One}
use Rattle.desk_report.proofs.reports.certificate_text.Goals as goal

pub returns-in-Ok : goal.returns-in-Ok
returns-in-Ok c = c.scoped_certificates_have_texts.ensures.written c.in-Ok.text.items (record { depth = c.args.depth; body = One c.args.certificate }) c.in-Ok.ensures.text

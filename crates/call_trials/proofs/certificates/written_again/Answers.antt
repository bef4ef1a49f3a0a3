use Rattle.call_trials.proofs.certificates.written_again.Goals as goal

pub write_certificate-requires : goal.write_certificate-requires
write_certificate-requires c = c.certificates_have_texts.ensures.within c.args.text.now c.in_ok-certificate.certificate c.in_ok-certificate.ensures

use Rattle.bundle_trials.proofs.depths.is_written_again.Goals as goal

pub write_scoped-requires : goal.write_scoped-requires
write_scoped-requires c = c.scoped_certificates_have_texts.ensures.within c.args.text.now c.in-Ok.scoped c.in-Ok.ensures

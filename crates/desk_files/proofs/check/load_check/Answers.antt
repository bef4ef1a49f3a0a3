use Rattle.std.proofs.Common.{◌∙◌, subst}
use Rattle.std.specs.Prelude.{Ok, Err, IfSome}
use Rattle.std.proofs.lemmas.Result.{IfOk-from_err}
use Rattle.std.proofs.Math.Nat.{le_trans}
use Rattle.desk_files.specs.Outcome.{StopsAt}
use Rattle.desk_files.specs.Certificates.{CertificateComes}
use Rattle.desk_files.specs.Checks.{sources_of, certificate_file}
use Rattle.desk_files.proofs.InTurn.{file_opened, reads_one, reads_then, files_handed_on}
use Rattle.desk_files.proofs.Then.{opens_for_desk, opens_all_and_last, desk_makes_none, last_makes_none, comes_to_both}
use Rattle.desk_files.proofs.check.load_check.Goals as goal

pub returns-in_err-desk-clause-makes : goal.returns-in_err-desk-clause-makes
returns-in_err-desk-clause-makes g c =
    let check = c.args.check.now in
    desk_makes_none (sources_of check) (certificate_file check) (g.F.Shelf.state c.args.files.now).files (g.F.Shelf.state c.args.files.now).faults (g.F.Shelf.state c.load_desk.new.files).faults c.from_residual.result c.in_err-desk.field-0.0 c.from_residual.ensures.1 c.in_err-desk.ensures.makes

pub returns-in_err-certificate-clause-makes : goal.returns-in_err-certificate-clause-makes
returns-in_err-certificate-clause-makes g c =
    let known = (g.F.Shelf.state c.args.files.now).files in
    let between = (g.F.Shelf.state c.load_desk.new.files).faults in
    let now = (g.F.Shelf.state c.load_certificate.new.files).faults in
    let check = c.args.check.now in
    let stop = c.in_err-certificate.field-0.0 in
    let made = c.in_ok-desk.ensures.makes in
    let stopped : StopsAt known between now stop (λ files why. CertificateComes files check.cert (Err why)) = subst (λ k. StopsAt k between now stop (λ files why. CertificateComes files check.cert (Err why))) c.load_desk.ensures.files c.in_err-certificate.ensures.comes in
    last_makes_none (sources_of check) (certificate_file check) known (g.F.Shelf.state c.args.files.now).faults between now made.0 c.from_residual-in_err-certificate.result stop c.from_residual-in_err-certificate.ensures.1 c.load_desk.ensures.later made.1 stopped

pub returns-clause-makes : goal.returns-clause-makes
returns-clause-makes g c =
    let known = (g.F.Shelf.state c.args.files.now).files in
    let check = c.args.check.now in
    let made = c.in_ok-desk.ensures.makes in
    let certificate = c.in_ok-certificate.certificate in
    let text : IfSome known (λ files. CertificateComes files check.cert (Ok certificate)) = subst (λ k. IfSome k (λ files. CertificateComes files check.cert (Ok certificate))) c.load_desk.ensures.files c.in_ok-certificate.ensures.comes in
    (made.0, comes_to_both (sources_of check) (certificate_file check) known made.0 certificate made.1 text, made.2)

pub returns-in_err-desk-clause-certificate : goal.returns-in_err-desk-clause-certificate
returns-in_err-desk-clause-certificate g c = IfOk-from_err c.from_residual.result _ c.from_residual.ensures.0

pub returns-in_err-certificate-clause-certificate : goal.returns-in_err-certificate-clause-certificate
returns-in_err-certificate-clause-certificate g c = IfOk-from_err c.from_residual-in_err-certificate.result _ c.from_residual-in_err-certificate.ensures.0

pub returns-in_err-certificate-clause-files : goal.returns-in_err-certificate-clause-files
returns-in_err-certificate-clause-files g c = c.load_certificate.ensures.files ∙ c.load_desk.ensures.files

pub returns-in_err-certificate-clause-later : goal.returns-in_err-certificate-clause-later
returns-in_err-certificate-clause-later g c = le_trans c.load_desk.ensures.later c.load_certificate.ensures.later

pub returns-clause-files : goal.returns-clause-files
returns-clause-files g c = c.load_certificate.ensures.files ∙ c.load_desk.ensures.files

pub returns-clause-later : goal.returns-clause-later
returns-clause-later g c = le_trans c.load_desk.ensures.later c.load_certificate.ensures.later

pub returns-in_err-desk-clause-opened : goal.returns-in_err-desk-clause-opened
returns-in_err-desk-clause-opened g c = opens_for_desk (sources_of c.args.check.now) c.args.check.now.cert (g.F.Shelf.state c.args.files.now).files _ _ c.load_desk.ensures.opened

pub returns-in_err-certificate-clause-opened : goal.returns-in_err-certificate-clause-opened
returns-in_err-certificate-clause-opened g c =
    let made = c.in_ok-desk.ensures.makes in
    opens_all_and_last (sources_of c.args.check.now) c.args.check.now.cert (g.F.Shelf.state c.args.files.now).files made.0 _ _ _ made.1 c.in_ok-desk.ensures.all (file_opened _ _ _ _ c.load_certificate.ensures.reads)

pub returns-clause-opened : goal.returns-clause-opened
returns-clause-opened g c =
    let made = c.in_ok-desk.ensures.makes in
    opens_all_and_last (sources_of c.args.check.now) c.args.check.now.cert (g.F.Shelf.state c.args.files.now).files made.0 _ _ _ made.1 c.in_ok-desk.ensures.all (file_opened _ _ _ _ c.load_certificate.ensures.reads)

pub returns-in_err-desk-clause-files : goal.returns-in_err-desk-clause-files
returns-in_err-desk-clause-files g c = c.load_desk.ensures.files

pub returns-in_err-desk-clause-later : goal.returns-in_err-desk-clause-later
returns-in_err-desk-clause-later g c = c.load_desk.ensures.later

pub returns-clause-certificate : goal.returns-clause-certificate
returns-clause-certificate g c = c.in_ok-certificate.ensures.certificate

pub returns-in_err-desk-clause-reads : goal.returns-in_err-desk-clause-reads
returns-in_err-desk-clause-reads g c = files_handed_on _ _ c.from_residual.result c.in_err-desk.field-0.0 c.from_residual.ensures.1 c.in_err-desk.ensures.reads

pub returns-in_err-certificate-clause-reads : goal.returns-in_err-certificate-clause-reads
returns-in_err-certificate-clause-reads g c =
    files_handed_on _ _ c.from_residual-in_err-certificate.result c.in_err-certificate.field-0.0 c.from_residual-in_err-certificate.ensures.1
    (reads_then _ _ _ _ c.in_ok-desk.ensures.reads (reads_one _ _ _ _ c.in_err-certificate.ensures.reads))

pub returns-clause-reads : goal.returns-clause-reads
returns-clause-reads g c = reads_then _ _ _ _ c.in_ok-desk.ensures.reads (reads_one _ _ _ _ c.in_ok-certificate.ensures.reads)

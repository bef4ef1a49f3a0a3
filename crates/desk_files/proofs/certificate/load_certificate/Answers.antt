use Rattle.std.proofs.Common.{◌≡◌, ℕ, List, refl, ap, inl, inr}
use Rattle.std.specs.Prelude.{Option, Some, None, Result, Ok, Err, IfSome, IsErrAnd}
use Rattle.std.proofs.lemmas.Result.{IfOk-from_err}
use Rattle.std.proofs.Math.Nat.{le_refl}
use Rattle.line_forms.specs.Form.{IsFirstBad}
use Rattle.order_bundle.specs.Scoped.{IsScopedText, scoped_places}
use Rattle.order_bundle.specs.declared.scoped.Scoped.{Scoped}
use Rattle.desk_outside.specs.Outside.{Files}
use Rattle.desk_files.specs.declared.stop.Stop.{Stop as KeptStop}
use Rattle.desk_files.specs.Files.{Refused, BadLine, whole_file}
use Rattle.desk_files.specs.Outcome.{Stops}
use Rattle.desk_files.specs.Certificates.{CertificateComes, ReadsCertificate}
use Rattle.desk_files.specs.Reads.{Somewhere}
use Rattle.desk_files.proofs.InTurn.{file_handed_on, file_to_end}
use Rattle.desk_files.proofs.Stopping.{stops_at_too, handed_on}
use Rattle.desk_files.proofs.Loading.{IsFedWhole}
use Rattle.desk_files.proofs.certificate.load_certificate.Goals as goal

-- what stops the reading of the file
stops_with_file : (known : Option Files) (before now : ℕ) (path : List ℕ) (r : Result Scoped KeptStop) (e : KeptStop) → IsErrAnd r (λ stop. stop ≡ e) → Stops known before now e (λ held. whole_file path (held path)) → ReadsCertificate known before now path r
stops_with_file known before now path r e is stops =
    handed_on (λ r. ReadsCertificate known before now path r) r e is
    (stops_at_too known before before now e (λ files why. whole_file path (files path) ≡ Err why) (λ files why. CertificateComes files path (Err why)) (le_refl before) stops (λ files why told stops. inl stops))

-- the bytes of the file are the text of a certificate
is_of_file : (known : Option Files) (path bytes : List ℕ) (c : Scoped) → IsFedWhole known path bytes → IsScopedText bytes c → IfSome known (λ files. CertificateComes files path (Ok c))
is_of_file None path bytes c fed text = tt
is_of_file (Some files) path bytes c fed text = (bytes, fed, text)

-- the bytes of the file have a bad line
has_bad_line : (known : Option Files) (there path bytes : List ℕ) (line : ℕ) → there ≡ path → IsFedWhole known path bytes → IsFirstBad scoped_places bytes line → IfSome known (λ files. CertificateComes files path (Err (Refused (BadLine there line))))
has_bad_line None there path bytes line same fed bad = tt
has_bad_line (Some files) there path bytes line same fed bad = inr (bytes, fed, (line, bad, ap (λ p. Refused (BadLine p line)) same))

pub returns-in_err-bytes-clause-comes : goal.returns-in_err-bytes-clause-comes
returns-in_err-bytes-clause-comes g c =
    stops_with_file (g.F.Shelf.state c.args.files.now).files (g.F.Shelf.state c.args.files.now).faults (g.F.Shelf.state c.read_file.new.files).faults c.args.path.now c.from_residual.result c.in_err-bytes.field-0.0 c.from_residual.ensures.1 (rw c.as_str-path.ensures at c.in_err-bytes.ensures.gives)

pub returns-in_err-bytes-clause-certificate : goal.returns-in_err-bytes-clause-certificate
returns-in_err-bytes-clause-certificate g c = IfOk-from_err c.from_residual.result _ c.from_residual.ensures.0

pub returns-in-Ok-clause-comes : goal.returns-in-Ok-clause-comes
returns-in-Ok-clause-comes g c =
    let whole : IsFedWhole (g.F.Shelf.state c.args.files.now).files c.args.path.now c.in_ok-bytes.bytes.items = rw c.as_str-path.ensures at c.in_ok-bytes.ensures.gives in
    is_of_file (g.F.Shelf.state c.args.files.now).files c.args.path.now c.in_ok-bytes.bytes.items c.in-Ok.certificate whole (rw c.deref.ensures.value at c.in-Ok.ensures)

pub returns-in-Err-BadLine-clause-comes : goal.returns-in-Err-BadLine-clause-comes
returns-in-Err-BadLine-clause-comes g c =
    let whole : IsFedWhole (g.F.Shelf.state c.args.files.now).files c.args.path.now c.in_ok-bytes.bytes.items = rw c.as_str-path.ensures at c.in_ok-bytes.ensures.gives in
    has_bad_line (g.F.Shelf.state c.args.files.now).files c.as_str-path.result.now c.args.path.now c.in_ok-bytes.bytes.items c.in-Err-BadLine.line c.as_str-path.ensures whole (rw (c.in-Err-BadLine.field-0-is, c.deref.ensures.value) at c.in-Err-BadLine.ensures)

pub returns-in-Ok-clause-certificate : goal.returns-in-Ok-clause-certificate
returns-in-Ok-clause-certificate g c = c.scoped_certificates_have_texts.ensures.within c.deref.result.now c.in-Ok.certificate c.in-Ok.ensures

pub returns-in_err-bytes-clause-files : goal.returns-in_err-bytes-clause-files
returns-in_err-bytes-clause-files g c = c.read_file.ensures.files

pub returns-in_err-bytes-clause-later : goal.returns-in_err-bytes-clause-later
returns-in_err-bytes-clause-later g c = c.read_file.ensures.later

pub returns-in-Ok-clause-files : goal.returns-in-Ok-clause-files
returns-in-Ok-clause-files g c = c.read_file.ensures.files

pub returns-in-Ok-clause-later : goal.returns-in-Ok-clause-later
returns-in-Ok-clause-later g c = c.read_file.ensures.later

pub returns-in-Err-BadLine-clause-files : goal.returns-in-Err-BadLine-clause-files
returns-in-Err-BadLine-clause-files g c = c.read_file.ensures.files

pub returns-in-Err-BadLine-clause-later : goal.returns-in-Err-BadLine-clause-later
returns-in-Err-BadLine-clause-later g c = c.read_file.ensures.later

pub returns-clause-files : goal.returns-clause-files
returns-clause-files g c = c.read_file.ensures.files

pub returns-clause-later : goal.returns-clause-later
returns-clause-later g c = c.read_file.ensures.later

pub returns-in-Err-BadLine-clause-certificate : goal.returns-in-Err-BadLine-clause-certificate
returns-in-Err-BadLine-clause-certificate g c = tt

pub returns-clause-comes : goal.returns-clause-comes
returns-clause-comes g c = tt

pub returns-clause-certificate : goal.returns-clause-certificate
returns-clause-certificate g c = tt

pub returns-in_err-bytes-clause-reads : goal.returns-in_err-bytes-clause-reads
returns-in_err-bytes-clause-reads g c = file_handed_on c.args.path.now _ _ c.from_residual.result c.in_err-bytes.field-0.0 c.from_residual.ensures.1 (rw c.as_str-path.ensures at c.in_err-bytes.ensures.reads)

pub returns-in-Ok-clause-reads : goal.returns-in-Ok-clause-reads
returns-in-Ok-clause-reads g c = rw c.as_str-path.ensures at c.in_ok-bytes.ensures.reads

pub returns-in-Err-BadLine-clause-reads : goal.returns-in-Err-BadLine-clause-reads
returns-in-Err-BadLine-clause-reads g c = rw c.as_str-path.ensures at c.in_ok-bytes.ensures.reads

pub returns-clause-reads : goal.returns-clause-reads
returns-clause-reads g c =
    file_to_end c.args.path.now Somewhere _ _ (inr refl) (rw c.as_str-path.ensures at c.in_ok-bytes.ensures.reads)

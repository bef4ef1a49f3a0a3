-- What the files of a check say.
use Rattle.std.specs.Prelude.{ℕ, List, Option, Result}
use Rattle.desk_outside.specs.Outside.{Files}
use Rattle.desk_words.specs.declared.command.Check.{Check}
use Rattle.desk_model.specs.Desk.{Desk}
use Rattle.order_bundle.specs.declared.scoped.Scoped.{Scoped}
use Rattle.desk_files.specs.declared.stop.Stop.{Stop as KeptStop}
use Rattle.desk_files.specs.Files.{Stop}
use Rattle.desk_files.specs.Load.{Sources, Loaded, sources}
use Rattle.desk_files.specs.Certificates.{CertificateComes}
use Rattle.desk_files.specs.Then.{LastFile, ThenComes, MakesThen, ThenMayOpen}

-- what the desk of a check is read from
abbrev pub sources_of : Check → Sources
sources_of check = sources check.qrels check.runs

-- the certificate of a check
abbrev pub certificate_file : Check → LastFile Scoped
certificate_file check = record { path = check.cert; comes = λ files rows found. CertificateComes files check.cert found }

-- the files of a check come to the rows of a desk and a certificate; or to the first stop, of the desk or then of the certificate
abbrev pub CheckComes : Files → Check → Result (Loaded × Scoped) Stop → Type 0
CheckComes files check found = ThenComes files (sources_of check) (certificate_file check) found

-- a desk and a certificate are those of the files; a stop is one that the files come to
abbrev pub MakesCheck : Option Files → ℕ → ℕ → Check → Result (Desk × Scoped) KeptStop → Type 0
MakesCheck known before now check made = MakesThen known before now (sources_of check) (certificate_file check) made

-- the names that a check may open: those for its desk, and then the certificate's, where the desk is read
abbrev pub CheckMayOpen : Option Files → Check → List (List ℕ) → Type 0
CheckMayOpen known check names = ThenMayOpen known (sources_of check) check.cert names

-- A desk, and then a certificate.
use Rattle.std.proofs.Common.{◌≡◌, ℕ, List, [], ◌∷◌, ap, sym, subst, ◌∙◌, inl, inr}
use Rattle.std.specs.Prelude.{Option, Result, Ok, Err}
use Rattle.desk_outside.specs.Outside.{Files}
use Rattle.desk_words.specs.declared.command.Check.{Check}
use Rattle.line_forms.specs.Form.{IsFirstBad}
use Rattle.order_bundle.specs.Scoped.{IsScopedText, scoped_places}
use Rattle.order_bundle.specs.declared.scoped.Scoped.{Scoped}
use Rattle.desk_files.specs.Files.{Stop, Refused, BadLine, whole_file}
use Rattle.desk_files.specs.Certificates.{CertificateComes}
use Rattle.desk_files.specs.Load.{Loaded}
use Rattle.desk_files.specs.Checks.{sources_of, certificate_file, CheckComes, CheckMayOpen}
use Rattle.desk_files.proofs.Then.{then_opens_qrels, same_stop, same_found, one_then}

-- the judgements' path alone may be opened
pub check_opens_qrels : (known : Option Files) (check : Check) → CheckMayOpen known check (check.qrels ∷ [])
check_opens_qrels known check = then_opens_qrels (sources_of check) check.cert known

-- ---- a certificate's file comes to one thing alone
abbrev OneCertificate : Type 0
OneCertificate = (bytes : List ℕ) (c d : Scoped) → IsScopedText bytes c → IsScopedText bytes d → c ≡ d

abbrev OneBadLine : Type 0
OneBadLine = (bytes : List ℕ) (m n : ℕ) → IsFirstBad scoped_places bytes m → IsFirstBad scoped_places bytes n → m ≡ n

abbrev NoBadLine : Type 0
NoBadLine = (bytes : List ℕ) (c : Scoped) (n : ℕ) → IsScopedText bytes c → IsFirstBad scoped_places bytes n → ⊥

module _ (one : OneCertificate) (one_line : OneBadLine) (none : NoBadLine) where
  one_file : (files : Files) (path : List ℕ) (x y : Result Scoped Stop) → CertificateComes files path x → CertificateComes files path y → x ≡ y
  one_file files path (Ok c) (Ok d) (a, read, text) (b, again, other) = ap Ok (one b c d (subst (λ z. IsScopedText z c) (same_found (whole_file path (files path)) a b read again) text) other)
  one_file files path (Ok c) (Err h) (a, read, text) (inl stops) = let bad : Ok a ≡ Err h = sym read ∙ stops in absurd (cc)
  one_file files path (Ok c) (Err h) (a, read, text) (inr (b, again, (line, bad, is))) = absurd (none b c line (subst (λ z. IsScopedText z c) (same_found (whole_file path (files path)) a b read again) text) bad)
  one_file files path (Err h) (Ok d) (inl stops) (b, again, other) = let bad : Ok b ≡ Err h = sym again ∙ stops in absurd (cc)
  one_file files path (Err h) (Ok d) (inr (a, read, (line, bad, is))) (b, again, other) = absurd (none b d line other (subst (λ z. IsFirstBad scoped_places z line) (same_found (whole_file path (files path)) a b read again) bad))
  one_file files path (Err h) (Err k) (inl stops) (inl also) = ap Err (same_stop h k (whole_file path (files path)) stops also)
  one_file files path (Err h) (Err k) (inl stops) (inr (b, again, (line, bad, is))) = let no : Ok b ≡ Err h = sym again ∙ stops in absurd (cc)
  one_file files path (Err h) (Err k) (inr (a, read, (line, bad, is))) (inl also) = let no : Ok a ≡ Err k = sym read ∙ also in absurd (cc)
  one_file files path (Err h) (Err k) (inr (a, read, (line, bad, is))) (inr (b, again, (number, other, also))) =
      let same : line ≡ number = one_line b line number (subst (λ z. IsFirstBad scoped_places z line) (same_found (whole_file path (files path)) a b read again) bad) other in
      ap Err (is ∙ ap (λ n. Refused (BadLine path n)) same ∙ sym also)

  -- so do the files of a check
  pub one_check : (check : Check) (files : Files) (x y : Result (Loaded × Scoped) Stop) → CheckComes files check x → CheckComes files check y → x ≡ y
  one_check check files x y comes again = one_then files (sources_of check) (certificate_file check) (λ rows x y. one_file files check.cert x y) x y comes again

-- The meaning of a demo.
use Rattle.std.proofs.Common.{◌≡◌, ℕ, List, [], ◌∷◌, ◌++◌, take, flat_map, refl, ap, sym, subst, ◌∙◌, arith, inl, inr, append-nil, append_assoc}
use Rattle.std.specs.Prelude.{codes, decimal, map, None, Ok, Err, Vec}
use Rattle.std.specs.declared.alloc.Global.{Global}
use Rattle.desk_outside.specs.Seen.{Shelf}
use Rattle.desk_model.specs.Desk.{Desk}
use Rattle.desk_model.specs.declared.types.Verdict.{Verdict}
use Rattle.desk_model.specs.Verdict.{verdict}
use Rattle.desk_report.specs.Table.{ended}
use Rattle.desk_report.specs.Reports.{Subject, IsNextText, cells_of}
use Rattle.demo_desk.specs.Summary.{number_line, summary_lines}
use Rattle.desk_report.specs.Claims.{IsTrueText, IsTrueProposal, IsOtherWord}
use Rattle.desk_report.proofs.Spelling.{ink_in_line}
use Rattle.desk_report.proofs.Texts.{decimal_ink}
use Rattle.desk_report.proofs.Others.{in_line_back, other_word}
use Rattle.desk_files.specs.declared.stop.Stop.{Stop as KeptStop}
use Rattle.desk_files.specs.declared.stop.Stop.TheVariants as kept
use Rattle.desk_top.specs.declared.outcome.Outcome.TheVariants as made
use Rattle.desk_top.specs.declared.status.Status.TheVariants.{Done}
use Rattle.desk_top.specs.Answer.{OfNothing, OfProposal, text_of, IsTrueOf, AreAlwaysTrue}
use Rattle.desk_top.specs.Outcome.{Outcome, Prints}
use Rattle.desk_top.specs.Loading.{no_loading}
use Rattle.desk_top.specs.Meaning.{demo_meaning}
use Rattle.desk_top.specs.Works.{CountsFor, CountsStop, StopsLoading, Works}
use Rattle.desk_top.specs.Meets.{IsTruthful}
use Rattle.desk_top.specs.Showing.{demo_subject, demo_sayings, IsDemoText, PrintsDemo, CountsDemo}
use Rattle.desk_top.specs.Truths.{PrintsTruth}
use Rattle.desk_top.proofs.Marking.{marks_known}
use Rattle.desk_top.proofs.Truth.{IsTrueOutcome, outcome_is_true}

-- ---- what is said is true
module _ (laws : PrintsTruth) (desk : Desk) where
  -- a line of the summary claims nothing of any desk
  number_true : (word : List ℕ) (number : ℕ) → IsOtherWord word → (n : ℕ) → IsTrueOf OfNothing (take n (ended (number_line word number)))
  number_true word number other n = λ measure desk marks. laws.others measure desk marks word (decimal number) n other (in_line_back (decimal number) (ink_in_line (decimal number) (decimal_ink number)))

  next_true : (next : List ℕ) → IsNextText (demo_subject desk) next → (n : ℕ) → IsTrueOf (OfProposal (demo_subject desk)) (take n next)
  next_true next is n =
      let s : Subject = demo_subject desk in
      subst (λ t. IsTrueText s.measure s.desk s.marks (take n t) × IsTrueProposal s.measure s.desk s.marks (take n t)) (sym is.is)
      (laws.next s.measure s.desk s.marks is.totals is.proposal n is.valid (marks_known 1 None desk is.valid) is.summed is.next)

  demo_true : (seed rows : ℕ) (verdicts : List Verdict) (next : List ℕ) → IsNextText (demo_subject desk) next → AreAlwaysTrue (demo_sayings desk (summary_lines seed rows (demo_subject desk).marks verdicts) next)
  demo_true seed rows verdicts next is = (
    number_true (codes "demo") _ (other_word (codes "demo") refl refl refl refl),
    (
      number_true (codes "rows") _ (other_word (codes "rows") refl refl refl refl),
      (
        number_true (codes "judged") _ (other_word (codes "judged") refl refl refl refl),
        (
          number_true (codes "above") _ (other_word (codes "above") refl refl refl refl),
          (
            number_true (codes "below") _ (other_word (codes "below") refl refl refl refl),
            (
              number_true (codes "equal") _ (other_word (codes "equal") refl refl refl refl),
              (
                number_true (codes "open") _ (other_word (codes "open") refl refl refl refl),
                (
                  number_true (codes "close") _ (other_word (codes "close") refl refl refl refl),
                  (next_true next is, tt),
                ),
              ),
            ),
          ),
        ),
      ),
    ),
  )

pub demo_is_truthful : PrintsTruth → (seed : ℕ) → IsTruthful (demo_meaning seed)
demo_is_truthful laws seed found input answer is = outcome_is_true (PrintsDemo seed) true answer is
  where
    true : (outcome : Outcome) → PrintsDemo seed outcome → IsTrueOutcome outcome
    true outcome is =
        subst IsTrueOutcome (sym is.is)
        (subst (λ lines. AreAlwaysTrue (demo_sayings is.desk lines is.next)) (sym is.texts.summary) (demo_true laws is.desk seed is.rows (map verdict is.texts.totals) is.next is.texts.proposal))

-- ---- what was made
said_text : (desk : Desk) (lines : List (List ℕ)) (next : List ℕ) → text_of (demo_sayings desk lines next) ≡ flat_map ended lines ++ next
said_text desk [] next = append-nil next
said_text desk (line ∷ lines) next = ap (λ more. ended line ++ more) (said_text desk lines next) ∙ sym (append_assoc (ended line) (flat_map ended lines) next)

module _ (seed : ℕ) (files : Shelf) (before after : ℕ) where
  -- no cell is a bound as well
  demo_counts : (text : List ℕ) → IsDemoText seed text → CountsDemo seed before after → CountsFor (demo_meaning seed) before after tt
  demo_counts text is (inl none) = (cells_of is.desk, λ taken. record { desk = is.desk; rows = is.rows; made = is.made; holds = refl }, omega (arith, none))
  demo_counts text is (inr has) = (cells_of has.desk, λ taken. record { desk = has.desk; rows = has.rows; made = has.made; holds = refl }, has.holds)

  pub demo_works : (text : Vec ℕ Global) → IsDemoText seed text.items → CountsDemo seed before after → Works (demo_meaning seed) files before after (Ok (made.Prints text Done))
  demo_works text is counts = (
    tt,
    refl,
    (
      record {
        said = demo_sayings is.desk is.shown.lines is.shown.next;
        is = is.shown.is ∙ sym (said_text is.desk is.shown.lines is.shown.next);
        goes = tt;
        answers = λ input. (
          Prints Done (demo_sayings is.desk is.shown.lines is.shown.next),
          record { desk = is.desk; rows = is.rows; made = is.made; lines = is.shown.lines; next = is.shown.next; texts = is.shown.texts; is = refl },
          refl,
        );
      },
      demo_counts text.items is counts,
    ),
  )

  pub demo_memory : (stop : KeptStop) → stop ≡ kept.Memory → CountsDemo seed before after → Works (demo_meaning seed) files before after (Err stop)
  demo_memory stop is counts = (subst (StopsLoading no_loading files) (sym is) tt, at counts)
    where
      at : CountsDemo seed before after → CountsStop (demo_meaning seed) files.files before after stop
      at (inl none) = inl none
      at (inr has) = inr (is, tt, refl, (cells_of has.desk, λ taken. record { desk = has.desk; rows = has.rows; made = has.made; holds = refl }, has.holds))

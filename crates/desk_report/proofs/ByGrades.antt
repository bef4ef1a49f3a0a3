-- Each line of a table by grades is true.
use Rattle.std.proofs.Common.{◌≡◌, ℕ, ◌*◌, ◌<◌, List, ◌∷◌, ◌++◌, length, take, get_or, refl, ap, sym, subst, ◌∙◌, arith, rules, pos, ◌*ℤ◌, Some}
use Rattle.std.specs.Prelude.{codes, decimal, slice_get, All, flat_map, true}
use Rattle.std.specs.List.{AllByRecursion}
use Rattle.std.proofs.lemmas.Bool.{eqb-false}
use Rattle.std.proofs.lemmas.List.Elements.{All-from_recursion, recursion_from_All}
use Rattle.std.proofs.Math.Nat.{mul-pos}
use Rattle.small_lemmas.proofs.Lists.{all-append}
use Rattle.desk_text.specs.Lines.{whole_lines}
use Rattle.desk_model.specs.Desk.{Desk, IsDesk}
use Rattle.desk_model.specs.Extremes.{IsAtMostScore, IsAtLeastScore}
use Rattle.desk_model.specs.Fraction.{IsAtMost, IsAtLeast, over}
use Rattle.desk_model.specs.MeasureText.{measure_text}
use Rattle.desk_model.specs.Name.{is_name}
use Rattle.desk_model.specs.Pairs.{pairs_of}
use Rattle.desk_model.specs.Verdict.{verdict}
use Rattle.desk_model.specs.declared.types.Totals.{Totals}
use Rattle.desk_model.specs.declared.types.Verdict.TheVariants.{Above, Below, Equal, Open}
use Rattle.desk_model.proofs.Words.{IsWord, name_word, fields_word}
use Rattle.topic_counts.specs.Numbers.{floor_of, ceiling_of}
use Rattle.topic_counts.specs.declared.span.Span.{Span}
use Rattle.graded_rbp.specs.Grades.{graded_topics}
use Rattle.graded_rbp.specs.Kept.{all_graded_totals, all_graded_bounds}
use Rattle.graded_rbp.specs.Numbers.{graded_totals, graded_bounds}
use Rattle.graded_rbp.specs.Orders.{HoldsByGrades, HoldsOfRunByGrades, ForTwoRunsByGrades, ForEachRunByGrades}
use Rattle.graded_rbp.specs.Score.{GradedMeasure, IsGradedMeasure, binary, graded_unit, graded_mean}
use Rattle.graded_rbp.proofs.Desks.{length-graded_topics}
use Rattle.graded_rbp.proofs.Holding.{unit_positive}
use Rattle.pair_table.specs.Sums.{run_numbers}
use Rattle.pair_table.proofs.Zips.{zip_making, all_in_range, all_then, IsPairBelow, pairs_below}
use Rattle.desk_report.specs.ByGrades.{graded_head, graded_lines, graded_text, EnclosesDifferenceByGrades, EnclosesMeanByGrades, IsTrueLineByGrades, GradedTextsAreTrue}
use Rattle.desk_report.specs.Claims.{HoldsByNames, IsPairLine}
use Rattle.desk_report.specs.Means.{decimal_text}
use Rattle.desk_report.specs.Table.{word_of, run_line, pair_line, run_lines, pair_lines, ended}
use Rattle.desk_report.proofs.Lines.{word, field, word_of_injective, fields_run, fields_pair, pair_not_run, prefix_all}
use Rattle.desk_report.proofs.Pairing.{all_weaker, each_line, AlikePairs, paired, numbered_from_0}
use Rattle.desk_report.proofs.Rounding.{printed_low, printed_high}
use Rattle.desk_report.proofs.Spelling.{AreInLine, ink_in_line, in_line-append, in_line-spaced}
use Rattle.desk_report.proofs.Texts.{decimal_ink, decimal_text_word, measure_ink, verdict_word}
use Rattle.desk_report.proofs.Truths.{AreWritten, no_certificate}

module _ (m : GradedMeasure) (desk : Desk) where
  -- a line without line feeds that claims nothing false
  abbrev IsSound : List ℕ → Type 0
  IsSound line = AreInLine line × IsTrueLineByGrades m desk line

  -- a run of the desk whose name is a word
  abbrev IsNamed : ℕ → List ℕ → Type 0
  IsNamed run text = (slice_get desk.runs run ≡ Some text) × IsWord text

  -- a line whose first word is neither `pair` nor `run` claims nothing of runs
  worded : (first rest : List ℕ) → IsWord first → AreInLine rest → (first ≡ codes "pair" → ⊥) → (first ≡ codes "run" → ⊥) → IsSound (first ++ 32 ∷ rest)
  worded first rest w line no_pair no_run =
      let own = fields_word first rest w in
      let none : (f said s low high : List ℕ) → IsPairLine (first ++ 32 ∷ rest) f said s low high → ⊥ = λ f said s l h e. no_pair (ap (field 0) (sym own ∙ e)) in (
        in_line-spaced first rest (ink_in_line first w.ink) line,
        record {
          above = λ f s l h e. absurd (none f (codes "above") s l h e);
          below = λ f s l h e. absurd (none f (codes "below") s l h e);
          equal = λ f s l h e. absurd (none f (codes "equal") s l h e);
          undecided = λ f s l h e. absurd (none f (codes "open") s l h e);
          pair_bounds = λ f said s l h e. absurd (none f said s l h e);
          run_bounds = λ r l h e. absurd (no_run (ap (field 0) (sym own ∙ e.0)));
        },
      )

  counted : (first : List ℕ) (n : ℕ) → IsWord first → (first ≡ codes "pair" → ⊥) → (first ≡ codes "run" → ⊥) → IsSound (first ++ 32 ∷ decimal n)
  counted first n w no_pair no_run = worded first (decimal n) w (ink_in_line (decimal n) (decimal_ink n)) no_pair no_run

  head_sound : (topics runs : ℕ) → AllByRecursion IsSound (graded_head (binary m) m.greatest topics runs)
  head_sound topics runs = (
    worded (codes "measure") (measure_text (binary m)) (word _ (omega arith) (search rules)) (ink_in_line (measure_text (binary m)) (measure_ink (binary m)))
        (λ e. eqb-false 109 112 refl (ap (λ w. get_or w 0 0) e)) (λ e. eqb-false 109 114 refl (ap (λ w. get_or w 0 0) e)),
    (
      counted (codes "greatest") m.greatest (word _ (omega arith) (search rules)) (λ e. eqb-false 103 112 refl (ap (λ w. get_or w 0 0) e)) (λ e. eqb-false 103 114 refl (ap (λ w. get_or w 0 0) e)),
      (
        counted (codes "topics") topics (word _ (omega arith) (search rules)) (λ e. eqb-false 116 112 refl (ap (λ w. get_or w 0 0) e)) (λ e. eqb-false 116 114 refl (ap (λ w. get_or w 0 0) e)),
        (counted (codes "runs") runs (word _ (omega arith) (search rules)) (λ e. eqb-false 114 112 refl (ap (λ w. get_or w 0 0) e)) (λ e. eqb-false 115 0 refl (ap (λ w. get_or w 3 0) e)), tt),
      ),
    ),
  )

  module _ (parts : ℕ) (some : 0 < parts) (same : parts ≡ graded_unit m * length (graded_topics desk)) where
    -- ---- the line of a run
    encloses_mean : (run : ℕ) (s : Span) → HoldsOfRunByGrades m (graded_topics desk) run s →
        EnclosesMeanByGrades m (graded_topics desk) (decimal_text (floor_of (s.lo *ℤ pos 1000000) parts)) (decimal_text (ceiling_of (s.hi *ℤ pos 1000000) parts)) run
    encloses_mean run s h = record {
      least = floor_of (s.lo *ℤ pos 1000000) parts;
      most = ceiling_of (s.hi *ℤ pos 1000000) parts;
      low_text = refl;
      high_text = refl;
      from_least = λ cs is. let x = graded_mean m run (graded_topics desk) cs in printed_low s.lo parts x (over 0 1) some (subst (λ u. IsAtMostScore s.lo u x) (sym same) (h.low cs is));
      to_most = λ cs is. let x = graded_mean m run (graded_topics desk) cs in printed_high s.hi parts x (over 0 1) some (subst (λ u. IsAtLeastScore s.hi u x) (sym same) (h.high cs is));
    }

    run_sound : (run : ℕ) (text : List ℕ) (s : Span) → IsNamed run text → HoldsOfRunByGrades m (graded_topics desk) run s → IsSound (run_line parts text s)
    run_sound run text s named h =
        let lo : List ℕ = decimal_text (floor_of (s.lo *ℤ pos 1000000) parts) in
        let hi : List ℕ = decimal_text (ceiling_of (s.hi *ℤ pos 1000000) parts) in
        let wl : IsWord lo = decimal_text_word (floor_of (s.lo *ℤ pos 1000000) parts) in
        let wh : IsWord hi = decimal_text_word (ceiling_of (s.hi *ℤ pos 1000000) parts) in
        let own = fields_run text lo hi named.1 wl wh in
        let bounds = in_line-spaced lo hi (ink_in_line lo wl.ink) (ink_in_line hi wh.ink) in
        let none : (f said t low high : List ℕ) → IsPairLine (run_line parts text s) f said t low high → ⊥ = λ f said t l k e. pair_not_run (sym (ap (field 0) (sym own ∙ e))) in (
          in_line-spaced (codes "run " ++ text) (lo ++ 32 ∷ hi) (in_line-append (codes "run ") text (search rules) (ink_in_line text named.1.ink)) bounds,
          record {
            above = λ f t l k e. absurd (none f (codes "above") t l k e);
            below = λ f t l k e. absurd (none f (codes "below") t l k e);
            equal = λ f t l k e. absurd (none f (codes "equal") t l k e);
            undecided = λ f t l k e. absurd (none f (codes "open") t l k e);
            pair_bounds = λ f said t l k e. absurd (none f said t l k e);
            run_bounds = λ r l k e. let both_are = sym own ∙ e.0 in
                record {
                  run = run;
                  named = named.0 ∙ ap Some (ap (field 1) both_are);
                  holds = subst (λ t. EnclosesMeanByGrades m (graded_topics desk) t k run) (ap (field 2) both_are)
                      (subst (λ t. EnclosesMeanByGrades m (graded_topics desk) lo t run) (ap (field 3) both_are) (encloses_mean run s h));
                };
          },
        )

    -- ---- the line of a pair
    encloses_difference : (a b : ℕ) (t : Totals) → HoldsByGrades m (graded_topics desk) a b t →
        EnclosesDifferenceByGrades m (graded_topics desk) (decimal_text (floor_of (t.least_lo *ℤ pos 1000000) parts)) (decimal_text (ceiling_of (t.most_hi *ℤ pos 1000000) parts)) a b
    encloses_difference a b t h = record {
      least = floor_of (t.least_lo *ℤ pos 1000000) parts;
      most = ceiling_of (t.most_hi *ℤ pos 1000000) parts;
      low_text = refl;
      high_text = refl;
      from_least = λ cs is. let x = graded_mean m a (graded_topics desk) cs in let y = graded_mean m b (graded_topics desk) cs in
          printed_low t.least_lo parts x y some (subst (λ u. IsAtMost t.least_lo u x y) (sym same) (h.least cs is));
      to_most = λ cs is. let x = graded_mean m a (graded_topics desk) cs in let y = graded_mean m b (graded_topics desk) cs in
          printed_high t.most_hi parts x y some (subst (λ u. IsAtLeast t.most_hi u x y) (sym same) (h.most cs is));
    }

    -- a fact of the runs that a pair line names
    named_runs : (a b : ℕ) (x y first second : List ℕ) (fact : ℕ → ℕ → Type 0) → slice_get desk.runs a ≡ Some x → slice_get desk.runs b ≡ Some y → x ≡ first → y ≡ second → fact a b → HoldsByNames desk first second fact
    named_runs a b x y first second fact p q e f h = record { a = a; b = b; named_first = p ∙ ap Some e; named_second = q ∙ ap Some f; holds = h }

    pair_sound : (a b : ℕ) (x y : List ℕ) (t : Totals) → IsNamed a x → IsNamed b y → HoldsByGrades m (graded_topics desk) a b t → IsSound (pair_line parts x y t)
    pair_sound a b x y t na nb h =
        let lo : List ℕ = decimal_text (floor_of (t.least_lo *ℤ pos 1000000) parts) in
        let hi : List ℕ = decimal_text (ceiling_of (t.most_hi *ℤ pos 1000000) parts) in
        let said : List ℕ = word_of (verdict t) in
        let wl : IsWord lo = decimal_text_word (floor_of (t.least_lo *ℤ pos 1000000) parts) in
        let wh : IsWord hi = decimal_text_word (ceiling_of (t.most_hi *ℤ pos 1000000) parts) in
        let ws : IsWord said = verdict_word (verdict t) in
        let own = fields_pair x said y lo hi na.1 ws nb.1 wl wh in
        let bounds = in_line-spaced lo hi (ink_in_line lo wl.ink) (ink_in_line hi wh.ink) in
        let prefix = in_line-append (codes "pair ") x (search rules) (ink_in_line x na.1.ink) in
        let order = in_line-spaced (codes "pair " ++ x) said prefix (ink_in_line said ws.ink) in
        let names = in_line-spaced ((codes "pair " ++ x) ++ 32 ∷ said) y order (ink_in_line y nb.1.ink) in
        let topics = graded_topics desk in (
          in_line-spaced (((codes "pair " ++ x) ++ 32 ∷ said) ++ 32 ∷ y) (lo ++ 32 ∷ hi) names bounds,
          record {
            above = λ f s l k e. let is = sym own ∙ e in
                named_runs a b x y f s _ na.0 nb.0 (ap (field 1) is) (ap (field 3) is) (h.above (word_of_injective (verdict t) Above (ap (field 2) is)));
            below = λ f s l k e. let is = sym own ∙ e in
                named_runs a b x y f s _ na.0 nb.0 (ap (field 1) is) (ap (field 3) is) (h.below (word_of_injective (verdict t) Below (ap (field 2) is)));
            equal = λ f s l k e. let is = sym own ∙ e in
                named_runs a b x y f s _ na.0 nb.0 (ap (field 1) is) (ap (field 3) is) (h.equal (word_of_injective (verdict t) Equal (ap (field 2) is)));
            undecided = λ f s l k e. let is = sym own ∙ e in
                named_runs a b x y f s _ na.0 nb.0 (ap (field 1) is) (ap (field 3) is) (h.undecided (word_of_injective (verdict t) Open (ap (field 2) is)));
            pair_bounds = λ f w s l u e. let is = sym own ∙ e in
                named_runs a b x y f s _ na.0 nb.0 (ap (field 1) is) (ap (field 3) is)
                (subst (λ v. EnclosesDifferenceByGrades m topics v u a b) (ap (field 4) is) (subst (λ v. EnclosesDifferenceByGrades m topics lo v a b) (ap (field 5) is) (encloses_difference a b t h)));
            run_bounds = λ r l u e. absurd (pair_not_run (ap (field 0) (sym own ∙ e.0)));
          },
        )

-- ---- all lines
module _ (pairs : ForTwoRunsByGrades HoldsByGrades) (runs : ForEachRunByGrades HoldsOfRunByGrades) (m : GradedMeasure) (desk : Desk) (measure : IsGradedMeasure m) (valid : IsDesk desk) where
  table_sound : AllByRecursion (IsSound m desk) (graded_lines desk (binary m) m.greatest (all_graded_bounds m desk) (all_graded_totals m desk))
  unfolding graded_lines
  table_sound =
      let n : ℕ = length desk.runs in
      let topics = graded_topics desk in
      let parts : ℕ = graded_unit m * length desk.topics in
      let same : parts ≡ graded_unit m * length topics = ap (λ k. graded_unit m * k) (sym (length-graded_topics desk)) in
      let some : 0 < parts = mul-pos (unit_positive m measure) valid.some_topic in
      let names = numbered_from_0 IsWord desk.runs (all_weaker (λ run. is_name run ≡ true) IsWord desk.runs name_word (recursion_from_All (λ run. is_name run ≡ true) desk.runs valid.named)) in
      let head = head_sound m desk (length desk.topics) n in
      let bounds = zip_making (λ run s. HoldsOfRunByGrades m topics run s) (λ run. graded_bounds m run topics) (run_numbers n)
      (all_in_range (λ run. HoldsOfRunByGrades m topics run (graded_bounds m run topics)) 0 n (λ run _ lt. runs m desk run measure valid (omega (arith, lt)))) in
      let totals = zip_making (λ (pair : ℕ × ℕ) t. HoldsByGrades m topics pair.0 pair.1 t) (λ (pair : ℕ × ℕ). graded_totals m pair.0 pair.1 topics) (pairs_of (run_numbers n))
      (all_then (IsPairBelow n) (λ (pair : ℕ × ℕ). HoldsByGrades m topics pair.0 pair.1 (graded_totals m pair.0 pair.1 topics))
      (λ pair p. pairs m desk pair.0 pair.1 measure valid (omega (arith, p.order, p.below)) p.below (λ e. omega (arith, p.order, e))) (pairs_of (run_numbers n)) (pairs_below n)) in
      let each_run = each_line (IsNamed m desk) (λ run s. HoldsOfRunByGrades m topics run s) (λ run. run_line parts run.0 run.1) (IsSound m desk)
      (λ run text s k h. run_sound m desk parts some same run text s k h) (run_numbers n) desk.runs (all_graded_bounds m desk) names bounds in
      let each_pair = each_line (AlikePairs (IsNamed m desk)) (λ (pair : ℕ × ℕ) t. HoldsByGrades m topics pair.0 pair.1 t) (λ pair. pair_line parts pair.0.0 pair.0.1 pair.1) (IsSound m desk)
      (λ pair texts t k h. pair_sound m desk parts some same pair.0 pair.1 texts.0 texts.1 t k.0 k.1 h)
      (pairs_of (run_numbers n)) (pairs_of desk.runs) (all_graded_totals m desk) (paired (IsNamed m desk) (run_numbers n) desk.runs names) totals in
      all-append (IsSound m desk) (graded_head (binary m) m.greatest (length desk.topics) n ++ run_lines parts desk.runs (all_graded_bounds m desk)) (pair_lines parts desk.runs (all_graded_totals m desk))
      (all-append (IsSound m desk) (graded_head (binary m) m.greatest (length desk.topics) n) (run_lines parts desk.runs (all_graded_bounds m desk)) head each_run) each_pair

  begins : get_or (graded_text desk (binary m) m.greatest (all_graded_bounds m desk) (all_graded_totals m desk)) 0 0 ≡ 109
  unfolding graded_text graded_lines
  begins = refl

  printed : (received : ℕ) → All (IsTrueLineByGrades m desk) (whole_lines (take received (graded_text desk (binary m) m.greatest (all_graded_bounds m desk) (all_graded_totals m desk))))
  unfolding graded_text
  printed received =
      let lines : List (List ℕ) = graded_lines desk (binary m) m.greatest (all_graded_bounds m desk) (all_graded_totals m desk) in
      All-from_recursion (IsTrueLineByGrades m desk) (whole_lines (take received (flat_map ended lines)))
      (prefix_all (IsTrueLineByGrades m desk) lines received (all_weaker (IsSound m desk) AreInLine lines (λ line s. s.0) table_sound) (all_weaker (IsSound m desk) (IsTrueLineByGrades m desk) lines (λ line s. s.1) table_sound))

pub graded_true : ForTwoRunsByGrades HoldsByGrades → ForEachRunByGrades HoldsOfRunByGrades → AreWritten → GradedTextsAreTrue
graded_true pairs runs written m desk received measure valid =
    let text = graded_text desk (binary m) m.greatest (all_graded_bounds m desk) (all_graded_totals m desk) in
    record {
      lines = printed pairs runs m desk measure valid received;
      claim = λ c t. no_certificate written text received c (λ e. let two : 109 ≡ 100 = sym (begins pairs runs m desk measure valid) ∙ e in omega (arith, two)) t;
    }

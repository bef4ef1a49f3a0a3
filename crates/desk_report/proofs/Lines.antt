-- Each line of a table is true.
use Rattle.std.proofs.Common.{◌≡◌, ℕ, ◌*◌, ◌<◌, List, [], ◌∷◌, ◌++◌, length, take, get_or, refl, ap, sym, subst, ◌∙◌, arith, rules, append_assoc, pos, ◌*ℤ◌, Option, Some, None}
use Rattle.std.specs.Prelude.{◌==◌, if◌then◌else◌, codes, decimal, slice_get, slice_index_or, All, flat_map, true}
use Rattle.std.specs.List.{AllZip, AllByRecursion}
use Rattle.std.proofs.lemmas.Bool.{eqb-false}
use Rattle.std.proofs.lemmas.List.Elements.{All-get_or, All-from_recursion, recursion_from_All}
use Rattle.std.proofs.lemmas.Option.{slice_get-get_or}
use Rattle.std.proofs.Math.Nat.{mul-pos}
use Rattle.desk_text.specs.Lines.{fields_of, whole_lines}
use Rattle.desk_model.specs.Name.{is_name}
use Rattle.desk_model.specs.Desk.{Desk, IsDesk, AreMarksOf, topics_under}
use Rattle.desk_model.specs.Extremes.{IsAtMostScore, IsAtLeastScore}
use Rattle.desk_model.specs.Fraction.{IsAtMost, IsAtLeast, over}
use Rattle.desk_model.specs.MeasureText.{IsMeasure, measure_text}
use Rattle.desk_model.specs.Order.{Topic, run_mean, IsAlwaysAbove, AreAlwaysEqual}
use Rattle.desk_model.specs.Pairs.{pairs_of}
use Rattle.desk_model.specs.Verdict.{verdict, IsExactVerdict}
use Rattle.desk_model.specs.declared.types.Mark.{Mark}
use Rattle.desk_model.specs.declared.types.MeasureName.{MeasureName}
use Rattle.desk_model.specs.declared.types.MeasureName.TheVariants.{Precision, Recall, RPrecision, Reciprocal, Biased, AveragePrecision}
use Rattle.desk_model.specs.declared.types.Totals.{Totals}
use Rattle.desk_model.specs.declared.types.Verdict.{Verdict}
use Rattle.desk_model.specs.declared.types.Verdict.TheVariants.{Above, Below, Equal, Open, Close}
use Rattle.desk_model.proofs.DeskTopics.{length-topics_under}
use Rattle.topic_counts.specs.declared.span.Span.{Span}
use Rattle.measure_laws.specs.Measures.{unit_of}
use Rattle.pair_table.specs.Sums.{run_numbers}
use Rattle.pair_table.specs.Orders.{HoldsOfPair, HoldsOfRun, ForEachPair, ForEachRun}
use Rattle.topic_counts.specs.Numbers.{floor_of, ceiling_of}
use Rattle.order_bundle.specs.Scoped.{depth_lines}
use Rattle.desk_report.specs.Means.{decimal_text}
use Rattle.desk_report.specs.Table.{word_of, run_line, pair_line, head_lines, run_lines, pair_lines, ended, table_lines, table_text}
use Rattle.desk_report.specs.Claims.{HoldsByName, HoldsByNames, SaysExactly, EnclosesDifference, EnclosesMean, IsPairLine, IsRunLine, IsTrueLine, ForEachLine}
use Rattle.desk_model.proofs.Words.{AreInk, IsWord, name_word, fields_word, fields_last}
use Rattle.desk_report.proofs.Spelling.{AreInLine, ink_in_line, in_line-append, in_line-spaced, whole_lines-take, whole_lines-of_ended}
use Rattle.desk_report.proofs.Texts.{decimal_ink, decimal_text_word, measure_ink, verdict_word}
use Rattle.desk_report.proofs.Rounding.{printed_low, printed_high}
use Rattle.small_lemmas.proofs.Lists.{all-append}
use Rattle.desk_report.proofs.Pairing.{all_prefix, all_weaker, both, each_line, AlikePairs, paired, numbered_from_0}

pub word : (w : List ℕ) (filled : 0 < length w) (ink : AreInk w) → IsWord w
word w filled ink = record { filled = filled; ink = ink }

-- a field of a line
abbrev pub field : ℕ → List (List ℕ) → List ℕ
field i fields = get_or fields i []

-- ---- what a verdict's word says
-- the verdict of a word
read_verdict : List ℕ → Verdict
read_verdict w =
    let b = get_or w 0 0 in
    if b == 97 then Above else if b == 98 then Below else if b == 101 then Equal else if b == 111 then Open else Close

read_back : (v : Verdict) → read_verdict (word_of v) ≡ v
unfolding read_verdict
read_back Above = refl
read_back Below = refl
read_back Equal = refl
read_back Open = refl
read_back Close = refl

pub word_of_injective : (v w : Verdict) → word_of v ≡ word_of w → v ≡ w
word_of_injective v w e = sym (read_back v) ∙ ap read_verdict e ∙ read_back w

above_not_open : Above ≡ Open → ⊥
above_not_open e = absurd (cc)

below_not_open : Below ≡ Open → ⊥
below_not_open e = absurd (cc)

equal_not_open : Equal ≡ Open → ⊥
equal_not_open e = absurd (cc)

module _ (name : MeasureName) (topics : List Topic) (a b : ℕ) where
  undecided_word : (v : Verdict) → IsExactVerdict name topics a b v → (IsAlwaysAbove name topics a b → ⊥) × (IsAlwaysAbove name topics b a → ⊥) × (AreAlwaysEqual name topics a b → ⊥) → word_of v ≡ codes "open"
  undecided_word Above x none = absurd (none.0 (x.above.0 refl))
  undecided_word Below x none = absurd (none.1 (x.below.0 refl))
  undecided_word Equal x none = absurd (none.2 (x.equal.0 refl))
  undecided_word Open x none = refl
  undecided_word Close x none = absurd (x.never_close refl)

  pub says_exactly : (v : Verdict) → IsExactVerdict name topics a b v → SaysExactly name topics (word_of v) a b
  says_exactly v x = record {
    above = (λ e. x.above.0 (word_of_injective v Above e), λ h. ap word_of (x.above.1 h));
    below = (λ e. x.below.0 (word_of_injective v Below e), λ h. ap word_of (x.below.1 h));
    equal = (λ e. x.equal.0 (word_of_injective v Equal e), λ h. ap word_of (x.equal.1 h));
    undecided = (
      λ e. let open_is = word_of_injective v Open e in
          (λ h. above_not_open (sym (x.above.1 h) ∙ open_is), λ h. below_not_open (sym (x.below.1 h) ∙ open_is), λ h. equal_not_open (sym (x.equal.1 h) ∙ open_is)),
      undecided_word v x,
    );
    never_close = λ e. x.never_close (word_of_injective v Close e);
  }

-- ---- the fields of the lines
pub fields_run : (name low high : List ℕ) → IsWord name → IsWord low → IsWord high → fields_of (codes "run " ++ name ++ 32 ∷ (low ++ 32 ∷ high)) ≡ codes "run" ∷ name ∷ low ∷ high ∷ []
fields_run name low high wn wl wh =
    let bounds : List ℕ = low ++ 32 ∷ high in
    ap fields_of (append_assoc (codes "run ") name (32 ∷ bounds))
    ∙ fields_word (codes "run") (name ++ 32 ∷ bounds) (word _ (omega arith) (search rules))
    ∙ ap (λ fs. codes "run" ∷ fs) (fields_word name bounds wn
    ∙ ap (λ fs. name ∷ fs) (fields_word low high wl
    ∙ ap (λ fs. low ∷ fs) (fields_last high wh)))

pub fields_pair : (first said second low high : List ℕ) → IsWord first → IsWord said → IsWord second → IsWord low → IsWord high →
    fields_of (codes "pair " ++ first ++ 32 ∷ said ++ 32 ∷ second ++ 32 ∷ (low ++ 32 ∷ high)) ≡ codes "pair" ∷ first ∷ said ∷ second ∷ low ∷ high ∷ []
fields_pair first said second low high wf ws wg wl wh =
    let bounds : List ℕ = low ++ 32 ∷ high in
    let later : List ℕ = second ++ 32 ∷ bounds in
    let order : List ℕ = said ++ 32 ∷ later in
    ap fields_of (regroup first said second bounds)
    ∙ fields_word (codes "pair") (first ++ 32 ∷ order) (word _ (omega arith) (search rules))
    ∙ ap (λ fs. codes "pair" ∷ fs) (fields_word first order wf
    ∙ ap (λ fs. first ∷ fs) (fields_word said later ws
    ∙ ap (λ fs. said ∷ fs) (fields_word second bounds wg
    ∙ ap (λ fs. second ∷ fs) (fields_word low high wl
    ∙ ap (λ fs. low ∷ fs) (fields_last high wh)))))
  where
    regroup : (f w s r : List ℕ) → (codes "pair " ++ f ++ 32 ∷ w ++ 32 ∷ s ++ 32 ∷ r) ≡ codes "pair" ++ 32 ∷ (f ++ 32 ∷ (w ++ 32 ∷ (s ++ 32 ∷ r)))
    regroup f w s r = simp append_assoc

-- a line that is whole and true
abbrev pub IsSound : MeasureName → Desk → List (List Mark) → List ℕ → Type 0
IsSound name desk marks line = AreInLine line × IsTrueLine name desk marks line

-- a line that is no pair line is true where what it claims of one run is
pub other_line : (name : MeasureName) (desk : Desk) (marks : List (List Mark)) (line : List ℕ) →
    ((first said second low high : List ℕ) → IsPairLine line first said second low high → ⊥) →
    ((run low high : List ℕ) → IsRunLine line run low high → HoldsByName desk run (EnclosesMean name (topics_under desk marks) low high)) → IsTrueLine name desk marks line
other_line name desk marks line none runs = record {
  above = λ f s l h e. absurd (none f (codes "above") s l h e);
  below = λ f s l h e. absurd (none f (codes "below") s l h e);
  equal = λ f s l h e. absurd (none f (codes "equal") s l h e);
  undecided = λ f s l h e. absurd (none f (codes "open") s l h e);
  exact = λ k is f w s l h e. absurd (none f w s l h e);
  pair_bounds = λ f w s l h e. absurd (none f w s l h e);
  run_bounds = runs;
}

-- ---- the lines before the runs
pub pair_not_run : codes "pair" ≡ codes "run" → ⊥
pair_not_run e = eqb-false 112 114 refl (ap (λ w. get_or w 0 0) e)

module _ (name : MeasureName) (desk : Desk) (marks : List (List Mark)) where
  -- a line whose first word is neither claims nothing of runs
  pub worded_line : (first rest : List ℕ) → IsWord first → AreInLine rest → (first ≡ codes "pair" → ⊥) → (first ≡ codes "run" → ⊥) → IsSound name desk marks (first ++ 32 ∷ rest)
  worded_line first rest w line no_pair no_run =
      let own = fields_word first rest w in (
        in_line-spaced first rest (ink_in_line first w.ink) line,
        other_line name desk marks (first ++ 32 ∷ rest) (λ f s g l h e. no_pair (ap (field 0) (sym own ∙ e))) (λ r l h e. absurd (no_run (ap (field 0) (sym own ∙ e.0)))),
      )

  pub number_in_line : (n : ℕ) → AreInLine (decimal n)
  number_in_line n = ink_in_line (decimal n) (decimal_ink n)

  -- a line of a depth claims nothing of runs
  pub depth_sound : (depth : Option ℕ) → AllByRecursion (IsSound name desk marks) (depth_lines depth)
  depth_sound None = tt
  depth_sound (Some d) = (
    worded_line (codes "depth") (decimal d) (word _ (omega arith) (search rules)) (number_in_line d)
        (λ e. eqb-false 100 112 refl (ap (λ w. get_or w 0 0) e)) (λ e. eqb-false 100 114 refl (ap (λ w. get_or w 0 0) e)),
    tt,
  )

  counts_sound : (topics runs : ℕ) → AllByRecursion (IsSound name desk marks) ((codes "topics " ++ decimal topics) ∷ (codes "runs " ++ decimal runs) ∷ [])
  counts_sound topics runs = (
    worded_line (codes "topics") (decimal topics) (word _ (omega arith) (search rules)) (number_in_line topics)
        (λ e. eqb-false 116 112 refl (ap (λ w. get_or w 0 0) e)) (λ e. eqb-false 116 114 refl (ap (λ w. get_or w 0 0) e)),
    (
      worded_line (codes "runs") (decimal runs) (word _ (omega arith) (search rules)) (number_in_line runs)
          (λ e. eqb-false 114 112 refl (ap (λ w. get_or w 0 0) e)) (λ e. eqb-false 115 0 refl (ap (λ w. get_or w 3 0) e)),
      tt,
    ),
  )

  pub head_sound : (level : ℕ) (depth : Option ℕ) (topics runs : ℕ) → AllByRecursion (IsSound name desk marks) (head_lines name level depth topics runs)
  head_sound level depth topics runs = (
    worded_line (codes "measure") (measure_text name) (word _ (omega arith) (search rules)) (ink_in_line (measure_text name) (measure_ink name))
        (λ e. eqb-false 109 112 refl (ap (λ w. get_or w 0 0) e)) (λ e. eqb-false 109 114 refl (ap (λ w. get_or w 0 0) e)),
    (
      worded_line (codes "level") (decimal level) (word _ (omega arith) (search rules)) (number_in_line level)
          (λ e. eqb-false 108 112 refl (ap (λ w. get_or w 0 0) e)) (λ e. eqb-false 108 114 refl (ap (λ w. get_or w 0 0) e)),
      all-append (IsSound name desk marks) (depth_lines depth) ((codes "topics " ++ decimal topics) ∷ (codes "runs " ++ decimal runs) ∷ []) (depth_sound depth) (counts_sound topics runs),
    ),
  )

  -- a run of the desk whose name is a word
  abbrev pub IsNamed : ℕ → List ℕ → Type 0
  IsNamed run text = (slice_get desk.runs run ≡ Some text) × IsWord text

  -- ---- the line of a run
  encloses_mean : (parts run : ℕ) (s : Span) → 0 < parts → parts ≡ unit_of name * length (topics_under desk marks) → HoldsOfRun name (topics_under desk marks) run s →
      EnclosesMean name (topics_under desk marks) (decimal_text (floor_of (s.lo *ℤ pos 1000000) parts)) (decimal_text (ceiling_of (s.hi *ℤ pos 1000000) parts)) run
  encloses_mean parts run s some same h = record {
    least = floor_of (s.lo *ℤ pos 1000000) parts;
    most = ceiling_of (s.hi *ℤ pos 1000000) parts;
    low_text = refl;
    high_text = refl;
    from_least = λ cs is. let x = run_mean name run (topics_under desk marks) cs in
        printed_low s.lo parts x (over 0 1) some (subst (λ u. IsAtMostScore s.lo u x) (sym same) (h.low cs is));
    to_most = λ cs is. let x = run_mean name run (topics_under desk marks) cs in
        printed_high s.hi parts x (over 0 1) some (subst (λ u. IsAtLeastScore s.hi u x) (sym same) (h.high cs is));
  }

  pub run_sound : (parts run : ℕ) (text : List ℕ) (s : Span) → 0 < parts → parts ≡ unit_of name * length (topics_under desk marks) → IsNamed run text → HoldsOfRun name (topics_under desk marks) run s →
      IsSound name desk marks (run_line parts text s)
  run_sound parts run text s some same named h =
      let lo : List ℕ = decimal_text (floor_of (s.lo *ℤ pos 1000000) parts) in
      let hi : List ℕ = decimal_text (ceiling_of (s.hi *ℤ pos 1000000) parts) in
      let wl : IsWord lo = decimal_text_word (floor_of (s.lo *ℤ pos 1000000) parts) in
      let wh : IsWord hi = decimal_text_word (ceiling_of (s.hi *ℤ pos 1000000) parts) in
      let own = fields_run text lo hi named.1 wl wh in
      let bounds = in_line-spaced lo hi (ink_in_line lo wl.ink) (ink_in_line hi wh.ink) in (
        in_line-spaced (codes "run " ++ text) (lo ++ 32 ∷ hi) (in_line-append (codes "run ") text (search rules) (ink_in_line text named.1.ink)) bounds,
        other_line name desk marks (run_line parts text s) (λ f w g l k e. pair_not_run (sym (ap (field 0) (sym own ∙ e))))
            (λ r l k e. let both_are = sym own ∙ e.0 in
            record {
              run = run;
              named = named.0 ∙ ap Some (ap (field 1) both_are);
              holds = subst (λ t. EnclosesMean name (topics_under desk marks) t k run) (ap (field 2) both_are)
                  (subst (λ t. EnclosesMean name (topics_under desk marks) lo t run) (ap (field 3) both_are) (encloses_mean parts run s some same h));
            }),
      )

  -- ---- the line of a pair
  encloses_difference : (parts a b : ℕ) (t : Totals) → 0 < parts → parts ≡ unit_of name * length (topics_under desk marks) → HoldsOfPair name (topics_under desk marks) a b t →
      EnclosesDifference name (topics_under desk marks) (decimal_text (floor_of (t.least_lo *ℤ pos 1000000) parts)) (decimal_text (ceiling_of (t.most_hi *ℤ pos 1000000) parts)) a b
  encloses_difference parts a b t some same h = record {
    least = floor_of (t.least_lo *ℤ pos 1000000) parts;
    most = ceiling_of (t.most_hi *ℤ pos 1000000) parts;
    low_text = refl;
    high_text = refl;
    from_least = λ cs is. let x = run_mean name a (topics_under desk marks) cs in let y = run_mean name b (topics_under desk marks) cs in
        printed_low t.least_lo parts x y some (subst (λ u. IsAtMost t.least_lo u x y) (sym same) (h.least cs is));
    to_most = λ cs is. let x = run_mean name a (topics_under desk marks) cs in let y = run_mean name b (topics_under desk marks) cs in
        printed_high t.most_hi parts x y some (subst (λ u. IsAtLeast t.most_hi u x y) (sym same) (h.most cs is));
  }

  -- what holds of the pair on a line
  abbrev pub HoldsOnLine : ℕ → ℕ → Totals → Type 0
  HoldsOnLine a b t = HoldsOfPair name (topics_under desk marks) a b t × ((k : ℕ) → name ≡ Precision k → IsExactVerdict name (topics_under desk marks) a b (verdict t))

  -- a fact of the runs that a pair line names
  pub named_runs : (a b : ℕ) (x y first second : List ℕ) (fact : ℕ → ℕ → Type 0) → slice_get desk.runs a ≡ Some x → slice_get desk.runs b ≡ Some y → x ≡ first → y ≡ second → fact a b → HoldsByNames desk first second fact
  named_runs a b x y first second fact p q e f h = record { a = a; b = b; named_first = p ∙ ap Some e; named_second = q ∙ ap Some f; holds = h }

  pub pair_sound : (parts a b : ℕ) (x y : List ℕ) (t : Totals) → 0 < parts → parts ≡ unit_of name * length (topics_under desk marks) → IsNamed a x → IsNamed b y → HoldsOnLine a b t →
      IsSound name desk marks (pair_line parts x y t)
  pair_sound parts a b x y t some same na nb h =
      let lo : List ℕ = decimal_text (floor_of (t.least_lo *ℤ pos 1000000) parts) in
      let hi : List ℕ = decimal_text (ceiling_of (t.most_hi *ℤ pos 1000000) parts) in
      let said : List ℕ = word_of (verdict t) in
      let wl : IsWord lo = decimal_text_word (floor_of (t.least_lo *ℤ pos 1000000) parts) in
      let wh : IsWord hi = decimal_text_word (ceiling_of (t.most_hi *ℤ pos 1000000) parts) in
      let ws : IsWord said = verdict_word (verdict t) in
      let own = fields_pair x said y lo hi na.1 ws nb.1 wl wh in
      let bounds = in_line-spaced lo hi (ink_in_line lo wl.ink) (ink_in_line hi wh.ink) in
      let prefix = in_line-append (codes "pair ") x (search rules) (ink_in_line x na.1.ink) in
      let order = in_line-spaced (codes "pair " ++ x) said prefix (ink_in_line said ws.ink) in
      let names = in_line-spaced ((codes "pair " ++ x) ++ 32 ∷ said) y order (ink_in_line y nb.1.ink) in
      let topics = topics_under desk marks in (
        in_line-spaced (((codes "pair " ++ x) ++ 32 ∷ said) ++ 32 ∷ y) (lo ++ 32 ∷ hi) names bounds,
        record {
          above = λ f s l k e. let is = sym own ∙ e in
              named_runs a b x y f s _ na.0 nb.0 (ap (field 1) is) (ap (field 3) is) (h.0.above (word_of_injective (verdict t) Above (ap (field 2) is)));
          below = λ f s l k e. let is = sym own ∙ e in
              named_runs a b x y f s _ na.0 nb.0 (ap (field 1) is) (ap (field 3) is) (h.0.below (word_of_injective (verdict t) Below (ap (field 2) is)));
          equal = λ f s l k e. let is = sym own ∙ e in
              named_runs a b x y f s _ na.0 nb.0 (ap (field 1) is) (ap (field 3) is) (h.0.equal (word_of_injective (verdict t) Equal (ap (field 2) is)));
          undecided = λ f s l k e. let is = sym own ∙ e in
              named_runs a b x y f s _ na.0 nb.0 (ap (field 1) is) (ap (field 3) is) (h.0.undecided (word_of_injective (verdict t) Open (ap (field 2) is)));
          exact = λ k named f w s l u e. let is = sym own ∙ e in
              named_runs a b x y f s _ na.0 nb.0 (ap (field 1) is) (ap (field 3) is)
              (subst (λ v. SaysExactly name topics v a b) (ap (field 2) is) (says_exactly name topics a b (verdict t) (h.1 k named)));
          pair_bounds = λ f w s l u e. let is = sym own ∙ e in
              named_runs a b x y f s _ na.0 nb.0 (ap (field 1) is) (ap (field 3) is)
              (subst (λ v. EnclosesDifference name topics v u a b) (ap (field 4) is) (subst (λ v. EnclosesDifference name topics lo v a b) (ap (field 5) is) (encloses_difference parts a b t some same h.0)));
          run_bounds = λ r l u e. absurd (pair_not_run (ap (field 0) (sym own ∙ e.0)));
        },
      )

-- ---- the line of two runs
unit_positive : (name : MeasureName) → IsMeasure name → 0 < unit_of name
unit_positive (Precision k) h = omega (arith, h.0)
unit_positive (Recall k) h = omega arith
unit_positive RPrecision h = omega arith
unit_positive Reciprocal h = omega arith
unit_positive AveragePrecision h = omega arith
unit_positive (Biased top bottom) h = omega arith

parts_under : (name : MeasureName) (desk : Desk) (marks : List (List Mark)) → AreMarksOf desk marks → unit_of name * length desk.topics ≡ unit_of name * length (topics_under desk marks)
parts_under name desk marks marked = ap (λ n. unit_of name * n) (sym (length-topics_under desk marks marked))

some_parts : (name : MeasureName) (desk : Desk) → IsMeasure name → IsDesk desk → 0 < unit_of name * length desk.topics
some_parts name desk measure valid = mul-pos (unit_positive name measure) valid.some_topic

pub named_at : (name : MeasureName) (desk : Desk) (marks : List (List Mark)) (run : ℕ) → IsDesk desk → run < length desk.runs → IsNamed name desk marks run (slice_index_or desk.runs run [])
named_at name desk marks run valid within = (slice_get-get_or desk.runs run [] within, name_word (slice_index_or desk.runs run []) (All-get_or (λ text. is_name text ≡ true) desk.runs run [] within valid.named))

pub two_runs_sound : (name : MeasureName) (desk : Desk) (marks : List (List Mark)) (a b : ℕ) (totals : Totals) → IsMeasure name → IsDesk desk → AreMarksOf desk marks → a < length desk.runs → b < length desk.runs →
    HoldsOnLine name desk marks a b totals → IsSound name desk marks (pair_line (unit_of name * length desk.topics) (slice_index_or desk.runs a []) (slice_index_or desk.runs b []) totals)
two_runs_sound name desk marks a b totals measure valid marked in_a in_b h =
    pair_sound name desk marks (unit_of name * length desk.topics) a b (slice_index_or desk.runs a []) (slice_index_or desk.runs b []) totals
    (some_parts name desk measure valid) (parts_under name desk marks marked) (named_at name desk marks a valid in_a) (named_at name desk marks b valid in_b) h

-- ---- all lines
pub table_sound : (name : MeasureName) (desk : Desk) (marks : List (List Mark)) (level : ℕ) (depth : Option ℕ) (bounds : List Span) (totals : List Totals) → IsMeasure name → IsDesk desk → AreMarksOf desk marks →
    AllZip (λ run s. HoldsOfRun name (topics_under desk marks) run s) (run_numbers (length desk.runs)) bounds →
    AllZip (λ pair t. HoldsOnLine name desk marks pair.0 pair.1 t) (pairs_of (run_numbers (length desk.runs))) totals →
    AllByRecursion (IsSound name desk marks) (table_lines desk name level depth (pos (unit_of name)) bounds totals)
unfolding table_lines
table_sound name desk marks level depth bounds totals measure valid marked runs pairs =
    let parts : ℕ = unit_of name * length desk.topics in
    let same : parts ≡ unit_of name * length (topics_under desk marks) = parts_under name desk marks marked in
    let some : 0 < parts = some_parts name desk measure valid in
    let words = all_weaker (λ run. is_name run ≡ true) IsWord desk.runs name_word (recursion_from_All (λ run. is_name run ≡ true) desk.runs valid.named) in
    let names = numbered_from_0 IsWord desk.runs words in
    let head = head_sound name desk marks level depth (length desk.topics) (length desk.runs) in
    let each_run = each_line (IsNamed name desk marks) (λ run s. HoldsOfRun name (topics_under desk marks) run s) (λ run. run_line parts run.0 run.1) (IsSound name desk marks)
    (λ run text s n h. run_sound name desk marks parts run text s some same n h) (run_numbers (length desk.runs)) desk.runs bounds names runs in
    let each_pair = each_line (AlikePairs (IsNamed name desk marks)) (λ pair t. HoldsOnLine name desk marks pair.0 pair.1 t) (λ pair. pair_line parts pair.0.0 pair.0.1 pair.1) (IsSound name desk marks)
    (λ pair texts t n h. pair_sound name desk marks parts pair.0 pair.1 texts.0 texts.1 t some same n.0 n.1 h)
    (pairs_of (run_numbers (length desk.runs))) (pairs_of desk.runs) totals (paired (IsNamed name desk marks) (run_numbers (length desk.runs)) desk.runs names) pairs in
    all-append (IsSound name desk marks) (head_lines name level depth (length desk.topics) (length desk.runs) ++ run_lines parts desk.runs bounds) (pair_lines parts desk.runs totals)
    (all-append (IsSound name desk marks) (head_lines name level depth (length desk.topics) (length desk.runs)) (run_lines parts desk.runs bounds) head each_run) each_pair

-- what holds of lines holds of the whole lines of any prefix of their text
pub prefix_all : (P : List ℕ → Type 0) (lines : List (List ℕ)) (n : ℕ) → AllByRecursion AreInLine lines → AllByRecursion P lines → AllByRecursion P (whole_lines (take n (flat_map ended lines)))
prefix_all P lines n in_line h =
    let cut = whole_lines-take (flat_map ended lines) n in
    all_prefix P (whole_lines (take n (flat_map ended lines))) cut.0 (subst (AllByRecursion P) (sym (whole_lines-of_ended lines in_line) ∙ cut.1) h)

-- the whole lines of any prefix of sound lines
pub prefix_true : (name : MeasureName) (desk : Desk) (marks : List (List Mark)) (lines : List (List ℕ)) (n : ℕ) → AllByRecursion (IsSound name desk marks) lines →
    All (IsTrueLine name desk marks) (whole_lines (take n (flat_map ended lines)))
prefix_true name desk marks lines n h =
    All-from_recursion (IsTrueLine name desk marks) (whole_lines (take n (flat_map ended lines)))
    (prefix_all (IsTrueLine name desk marks) lines n (all_weaker (IsSound name desk marks) AreInLine lines (λ line s. s.0) h) (all_weaker (IsSound name desk marks) (IsTrueLine name desk marks) lines (λ line s. s.1) h))

pub printed_lines : ForEachPair HoldsOfPair → ForEachRun HoldsOfRun → ForEachPair (λ name topics a b t. (k : ℕ) → name ≡ Precision k → IsExactVerdict name topics a b (verdict t)) → ForEachLine IsTrueLine
unfolding table_text
printed_lines pairs runs exact name desk marks level depth received bounds totals measure valid marked numbers =
    prefix_true name desk marks (table_lines desk name level depth (pos (unit_of name)) bounds totals) received
    (table_sound name desk marks level depth bounds totals measure valid marked (runs name desk marks bounds totals measure valid marked numbers)
    (both (λ pair t. HoldsOfPair name (topics_under desk marks) pair.0 pair.1 t) (λ pair t. (k : ℕ) → name ≡ Precision k → IsExactVerdict name (topics_under desk marks) pair.0 pair.1 (verdict t))
    (pairs_of (run_numbers (length desk.runs))) totals (pairs name desk marks bounds totals measure valid marked numbers) (exact name desk marks bounds totals measure valid marked numbers)))

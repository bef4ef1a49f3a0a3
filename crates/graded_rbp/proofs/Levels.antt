-- What a completion by grades is at a level.
use Rattle.std.proofs.Common.{◌≡◌, ℕ, ◌<◌, ◌≤◌, Bool, true, false, List, [], ◌∷◌, map, length, Option, Some, None, ℤ, pos, negsuc, arith, ap, refl, sym, subst, ◌∙◌}
use Rattle.std.specs.Prelude.{if◌then◌else◌, nat_le, min}
use Rattle.std.specs.List.{AllByRecursion}
use Rattle.std.proofs.Math.ListN.{get_or-map}
use Rattle.std.proofs.lemmas.Bool.Decides.{nat_tests}
use Rattle.std.proofs.lemmas.List.{length-map}
use Rattle.desk_model.specs.Completion.{Allows, Completes}
use Rattle.desk_model.specs.Enclosure.{AreLowEnds, AreHighEnds, AreLowBounds, AreHighBounds}
use Rattle.desk_model.specs.Extremes.{Ends}
use Rattle.desk_model.specs.Limits.{PARTS_OF_ONE}
use Rattle.desk_model.specs.Mark.{mark_of, mark_at}
use Rattle.desk_model.specs.Order.{IsCompletion}
use Rattle.desk_model.specs.Ranking.{IsRanking}
use Rattle.desk_model.specs.declared.types.Mark.{Mark}
use Rattle.desk_model.specs.declared.types.Mark.TheVariants.{Relevant, Other}
use Rattle.measure_laws.proofs.Persistence.{least_encloses, most_encloses, run_low_encloses, run_high_encloses}
use Rattle.topic_counts.specs.declared.span.Span.{Span}
use Rattle.graded_rbp.specs.Grades.{GradedTopic, GradedCompletion, AllowsNumber, CompletesGrades, IsGradedCompletion, grade_at}
use Rattle.graded_rbp.specs.Levels.{level_topic, level_topics, level_completion, level_completions}
use Rattle.graded_rbp.specs.Numbers.{ends_on, bounds_on}
use Rattle.graded_rbp.specs.Score.{GradedMeasure, IsGradedMeasure, binary}
use Rattle.graded_rbp.proofs.LevelScores.{IsRankedIn}

-- a level that is not above the greatest number is reached by the smaller of a grade and that number where the grade reaches it
pub reach_min : (level grade greatest : ℕ) → level ≤ greatest → nat_le level (min grade greatest) ≡ nat_le level grade
reach_min level grade greatest h = grind (arith, nat_tests)

-- the mark of a document at a level
pub mark_level : (grades : List (Option ℤ)) (level doc : ℕ) → mark_at (map (λ grade. mark_of grade level) grades) doc ≡ mark_of (grade_at grades doc) level
mark_level grades level doc = get_or-map (λ (grade : Option ℤ). mark_of grade level) grades doc None

allows_level : (greatest level n : ℕ) (grade : Option ℤ) → level ≤ greatest → AllowsNumber greatest grade n → Allows (mark_of grade level) (nat_le level n)
allows_level greatest level n None le h = tt
allows_level greatest level n (Some (negsuc _)) le h = tt
allows_level greatest level n (Some (pos grade)) le h =
    let same : nat_le level n ≡ nat_le level grade = ap (nat_le level) h ∙ reach_min level grade greatest le in
    subst (λ (v : Bool). Allows (if nat_le level grade then Relevant else Other) v) (sym same) (by (nat_le level grade))
  where
    by : (t : Bool) → Allows (if t then Relevant else Other) t
    by true = refl
    by false = refl

level_completes : (greatest level : ℕ) (topic : GradedTopic) (c : GradedCompletion) → level ≤ greatest → CompletesGrades greatest topic c → Completes (level_topic level topic).marks (level_completion level c).truth
level_completes greatest level topic c le h doc lt =
    let inside : doc < length topic.grades = omega (arith, lt, length-map topic.grades (λ (grade : Option ℤ). mark_of grade level)) in
    subst (λ (mark : Mark). Allows mark (nat_le level (c.number doc))) (sym (mark_level topic.grades level doc)) (allows_level greatest level (c.number doc) (grade_at topic.grades doc) le (h.allowed doc inside))

pub all_complete : (greatest level : ℕ) (topics : List GradedTopic) (cs : List GradedCompletion) → level ≤ greatest → IsGradedCompletion greatest topics cs → IsCompletion (level_topics level topics) (level_completions level cs)
all_complete greatest level [] [] le h = tt
all_complete greatest level [] (c ∷ cs) le h = absurd h
all_complete greatest level (t ∷ ts) [] le h = absurd h
all_complete greatest level (t ∷ ts) (c ∷ cs) le h = (level_completes greatest level t c le h.0, all_complete greatest level ts cs le h.1)

pub ranked_level : (level run : ℕ) (topic : GradedTopic) → IsRankedIn run topic → IsRanking (length (level_topic level topic).marks) (topic.ranking run)
ranked_level level run topic h = subst (λ (n : ℕ). IsRanking n (topic.ranking run)) (sym (length-map topic.grades (λ (grade : Option ℤ). mark_of grade level))) h

-- ---- the ends of a pair and the bounds of a run at a level
module _ (m : GradedMeasure) (valid : IsGradedMeasure m) (level : ℕ) where
  module _ (a b : ℕ) where
    pub lows_at : (topics : List GradedTopic) → AllByRecursion (IsRankedIn a) topics → AllByRecursion (IsRankedIn b) topics →
        AreLowEnds (binary m) PARTS_OF_ONE (level_topics level topics) a b (map (λ (e : Ends). e.least_lo) (map (ends_on m a b) (level_topics level topics)))
    lows_at [] ra rb = tt
    lows_at (t ∷ ts) ra rb =
        (least_encloses m.top m.bottom (level_topic level t).marks (t.ranking a) (t.ranking b) valid.persistence (ranked_level level a t ra.0) (ranked_level level b t rb.0), lows_at ts ra.1 rb.1)

    pub highs_at : (topics : List GradedTopic) → AllByRecursion (IsRankedIn a) topics → AllByRecursion (IsRankedIn b) topics →
        AreHighEnds (binary m) PARTS_OF_ONE (level_topics level topics) a b (map (λ (e : Ends). e.most_hi) (map (ends_on m a b) (level_topics level topics)))
    highs_at [] ra rb = tt
    highs_at (t ∷ ts) ra rb =
        (most_encloses m.top m.bottom (level_topic level t).marks (t.ranking a) (t.ranking b) valid.persistence (ranked_level level a t ra.0) (ranked_level level b t rb.0), highs_at ts ra.1 rb.1)

  module _ (run : ℕ) where
    pub bound_lows_at : (topics : List GradedTopic) → AllByRecursion (IsRankedIn run) topics →
        AreLowBounds (binary m) PARTS_OF_ONE (level_topics level topics) run (map (λ (s : Span). s.lo) (map (bounds_on m run) (level_topics level topics)))
    bound_lows_at [] r = tt
    bound_lows_at (t ∷ ts) r = (run_low_encloses m.top m.bottom (level_topic level t).marks (t.ranking run) valid.persistence (ranked_level level run t r.0), bound_lows_at ts r.1)

    pub bound_highs_at : (topics : List GradedTopic) → AllByRecursion (IsRankedIn run) topics →
        AreHighBounds (binary m) PARTS_OF_ONE (level_topics level topics) run (map (λ (s : Span). s.hi) (map (bounds_on m run) (level_topics level topics)))
    bound_highs_at [] r = tt
    bound_highs_at (t ∷ ts) r = (run_high_encloses m.top m.bottom (level_topic level t).marks (t.ranking run) valid.persistence (ranked_level level run t r.0), bound_highs_at ts r.1)

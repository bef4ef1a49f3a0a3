-- The lines of a bundle claim nothing of runs by themselves.
use Rattle.std.proofs.Common.{◌≡◌, ℕ, List, [], ◌∷◌, ◌++◌, length, get_or, map, refl, ap, sym, ◌∙◌, arith, rules, true, Option}
use Rattle.std.specs.Prelude.{codes, decimal, flat_map}
use Rattle.std.specs.List.{AllByRecursion}
use Rattle.std.proofs.lemmas.Bool.{eqb-false}
use Rattle.std.proofs.lemmas.List.Elements.{recursion_from_All}
use Rattle.small_lemmas.proofs.Lists.{all-append}
use Rattle.desk_text.specs.Lines.{fields_of}
use Rattle.desk_model.specs.Desk.{Desk}
use Rattle.desk_model.specs.MeasureText.{measure_text}
use Rattle.desk_model.specs.Name.{is_name}
use Rattle.desk_model.specs.declared.types.Mark.{Mark}
use Rattle.desk_model.specs.declared.types.MeasureName.{MeasureName}
use Rattle.desk_model.proofs.Words.{IsWord, name_word, fields_word, fields_last}
use Rattle.order_certificate.specs.Certificate.{AreDocuments}
use Rattle.order_bundle.specs.Scoped.{depth_lines}
use Rattle.order_bundle.specs.Bundle.{Bundle, IsBundle, both_bounds_line, bound_line, claim_lines, claims_lines, evidence_lines, list_lines, opening_lines, pick_line, picks_lines, run_line, runs_lines, runs_text, topic_lines, topics_lines}
use Rattle.order_bundle.specs.declared.bundle.Bound.{Bound}
use Rattle.order_bundle.specs.declared.bundle.PairClaim.{PairClaim}
use Rattle.order_bundle.specs.declared.bundle.PairEvidence.{PairEvidence}
use Rattle.order_bundle.specs.declared.bundle.PairEvidence.TheVariants.{Above, Equal, Open}
use Rattle.order_bundle.specs.declared.bundle.Picks.{Picks}
use Rattle.order_bundle.specs.declared.bundle.TopicNames.{TopicNames}
use Rattle.desk_report.proofs.Spelling.{AreInLine, ink_in_line, in_line-append, in_line-spaced}
use Rattle.desk_report.proofs.Texts.{measure_ink}
use Rattle.desk_report.proofs.Lines.{IsSound, word, other_line, worded_line, number_in_line, depth_sound}
use Rattle.desk_report.proofs.Others.{other_sound, signed_in_line, name_in_line, documents_sound, count_in_line, named_in, topics_sound}

module _ (name : MeasureName) (desk : Desk) (marks : List (List Mark)) where
  -- each line of some lines is sound
  abbrev AreSound : List (List ℕ) → Type 0
  AreSound lines = AllByRecursion (IsSound name desk marks) lines

  -- a number after a word that is not `pair` and not `run`
  counted : (first : List ℕ) (n : ℕ) → IsWord first → (first ≡ codes "pair" → ⊥) → (first ≡ codes "run" → ⊥) → IsSound name desk marks (first ++ 32 ∷ decimal n)
  counted first n is no_pair no_run = worded_line name desk marks first (decimal n) is (number_in_line name desk marks n) no_pair no_run

  -- ---- runs
  fields_named : (run : List ℕ) → IsWord run → fields_of (run_line run) ≡ codes "run" ∷ run ∷ []
  fields_named run is = fields_word (codes "run") run (word _ (omega arith) (search rules)) ∙ ap (λ fs. codes "run" ∷ fs) (fields_last run is)

  -- a name alone claims nothing of its run: the line has two fields
  run_alone : (run : List ℕ) → is_name run ≡ true → IsSound name desk marks (run_line run)
  run_alone run named =
      let own = fields_named run (name_word run named) in (
        in_line-append (codes "run ") run (search rules) (name_in_line name desk marks run named),
        other_line name desk marks (run_line run)
            (λ f s g l h e. let six : 2 ≡ 6 = ap length (sym own ∙ e) in omega (arith, six))
            (λ r l h e. let four : 2 ≡ 4 = ap length (sym own ∙ e.0) in absurd (omega (arith, four))),
      )

  runs_alone : (runs : List (List ℕ)) → AllByRecursion (λ text. is_name text ≡ true) runs → AreSound (map run_line runs)
  runs_alone [] h = tt
  runs_alone (r ∷ rs) h = (run_alone r h.0, runs_alone rs h.1)

  -- ---- topics
  topic_sound : (t : TopicNames) → is_name t.topic ≡ true → AreDocuments t.docs → AreSound (topic_lines t)
  topic_sound t named docs = (
    other_sound name desk marks 116 _ (omega arith) (λ e. omega (arith, e)) (λ e. omega (arith, e)) (count_in_line name desk marks (codes "topic ") t.topic (length t.docs) (search rules) named),
    documents_sound name desk marks t.docs (named_in name desk marks t.docs docs),
  )

  each_topic_sound : (topics : List TopicNames) → AllByRecursion (λ topic. is_name topic ≡ true) (map (λ (t : TopicNames). t.topic) topics) → AllByRecursion (λ (t : TopicNames). AreDocuments t.docs) topics → AreSound (flat_map topic_lines topics)
  each_topic_sound [] h k = tt
  each_topic_sound (t ∷ ts) h k = all-append (IsSound name desk marks) (topic_lines t) (flat_map topic_lines ts) (topic_sound t h.0 k.0) (each_topic_sound ts h.1 k.1)

  -- ---- claims
  bound_in_line : (b : Bound) → AreInLine (bound_line b)
  bound_in_line b = in_line-append (codes "bound ") _ (search rules) (signed_in_line name desk marks b.low)

  bounds_sound : (bounds : List Bound) → AreSound (map bound_line bounds)
  bounds_sound [] = tt
  bounds_sound (b ∷ bs) = (other_sound name desk marks 98 _ (omega arith) (λ e. omega (arith, e)) (λ e. omega (arith, e)) (bound_in_line b), bounds_sound bs)

  both_bounds_sound : (bounds : List Bound) → AreSound (map both_bounds_line bounds)
  both_bounds_sound [] = tt
  both_bounds_sound (b ∷ bs) =
      (other_sound name desk marks 98 _ (omega arith) (λ e. omega (arith, e)) (λ e. omega (arith, e)) (in_line-spaced (bound_line b) _ (bound_in_line b) (signed_in_line name desk marks b.high)), both_bounds_sound bs)

  each_pick_sound : (picks : List ℕ) → AreSound (map pick_line picks)
  each_pick_sound [] = tt
  each_pick_sound (k ∷ ks) =
      (counted (codes "pick") k (word _ (omega arith) (search rules)) (λ e. eqb-false 105 97 refl (ap (λ w. get_or w 1 0) e)) (λ e. eqb-false 112 114 refl (ap (λ w. get_or w 0 0) e)), each_pick_sound ks)

  lists_sound : (p : Picks) → AreSound (picks_lines p)
  lists_sound p =
      all-append (IsSound name desk marks) (list_lines (codes "low ") p.low) (list_lines (codes "high ") p.high)
      (counted (codes "low") (length p.low) (word _ (omega arith) (search rules)) (λ e. eqb-false 108 112 refl (ap (λ w. get_or w 0 0) e)) (λ e. eqb-false 108 114 refl (ap (λ w. get_or w 0 0) e)), each_pick_sound p.low)
      (counted (codes "high") (length p.high) (word _ (omega arith) (search rules)) (λ e. eqb-false 104 112 refl (ap (λ w. get_or w 0 0) e)) (λ e. eqb-false 104 114 refl (ap (λ w. get_or w 0 0) e)), each_pick_sound p.high)

  all_lists_sound : (picks : List Picks) → AreSound (flat_map picks_lines picks)
  all_lists_sound [] = tt
  all_lists_sound (p ∷ ps) = all-append (IsSound name desk marks) (picks_lines p) (flat_map picks_lines ps) (lists_sound p) (all_lists_sound ps)

  head_sound : (claim : List ℕ) (first second : ℕ) → AreInLine claim → AreInLine (claim ++ runs_text first second)
  head_sound claim first second h = in_line-append claim (runs_text first second) h (in_line-spaced (decimal first) (decimal second) (number_in_line name desk marks first) (number_in_line name desk marks second))

  claim_sound : (first second : ℕ) (e : PairEvidence) → AreSound (evidence_lines e (runs_text first second))
  claim_sound first second (Above bounds) =
      (other_sound name desk marks 99 _ (omega arith) (λ e. omega (arith, e)) (λ e. omega (arith, e)) (head_sound (codes "claim above ") first second (search rules)), bounds_sound bounds)
  claim_sound first second (Equal bounds) =
      (other_sound name desk marks 99 _ (omega arith) (λ e. omega (arith, e)) (λ e. omega (arith, e)) (head_sound (codes "claim equal ") first second (search rules)), both_bounds_sound bounds)
  claim_sound first second (Open picks) =
      (other_sound name desk marks 99 _ (omega arith) (λ e. omega (arith, e)) (λ e. omega (arith, e)) (head_sound (codes "claim open ") first second (search rules)), all_lists_sound picks)

  each_claim_sound : (claims : List PairClaim) → AreSound (flat_map claim_lines claims)
  each_claim_sound [] = tt
  each_claim_sound (c ∷ cs) = all-append (IsSound name desk marks) (claim_lines c) (flat_map claim_lines cs) (claim_sound c.first c.second c.evidence) (each_claim_sound cs)

  -- ---- the bundle, from its last part to its first
  from_claims : (claims : List PairClaim) → AreSound (claims_lines claims)
  from_claims claims = (
    counted (codes "claims") (length claims) (word _ (omega arith) (search rules)) (λ e. eqb-false 99 112 refl (ap (λ w. get_or w 0 0) e)) (λ e. eqb-false 99 114 refl (ap (λ w. get_or w 0 0) e)),
    all-append (IsSound name desk marks) (flat_map claim_lines claims) (codes "end" ∷ []) (each_claim_sound claims)
        (other_sound name desk marks 101 _ (omega arith) (λ e. omega (arith, e)) (λ e. omega (arith, e)) (search rules), tt),
  )

  opening_sound : (m : MeasureName) (level : ℕ) → AreSound (opening_lines m level)
  opening_sound m level = (
    other_sound name desk marks 100 _ (omega arith) (λ e. omega (arith, e)) (λ e. omega (arith, e)) (search rules),
    (
      other_sound name desk marks 109 _ (omega arith) (λ e. omega (arith, e)) (λ e. omega (arith, e)) (in_line-append (codes "measure ") (measure_text m) (search rules) (ink_in_line (measure_text m) (measure_ink m))),
      (counted (codes "level") level (word _ (omega arith) (search rules)) (λ e. eqb-false 108 112 refl (ap (λ w. get_or w 0 0) e)) (λ e. eqb-false 108 114 refl (ap (λ w. get_or w 0 0) e)), tt),
    ),
  )

  pub bundle_sound : (depth : Option ℕ) (b : Bundle) → IsBundle b → AreSound (opening_lines b.measure b.level ++ depth_lines depth ++ runs_lines b.runs b.topics b.claims)
  bundle_sound depth b is =
      let from_topics : AreSound (topics_lines b.topics b.claims) = (
        topics_sound name desk marks (length b.topics),
        all-append (IsSound name desk marks) (flat_map topic_lines b.topics) (claims_lines b.claims)
            (each_topic_sound b.topics (recursion_from_All _ _ is.topics.names.ascending.named) (recursion_from_All _ _ is.topics.docs)) (from_claims b.claims),
      ) in
      let from_runs : AreSound (runs_lines b.runs b.topics b.claims) = (
        counted (codes "runs") (length b.runs) (word _ (omega arith) (search rules)) (λ e. eqb-false 114 112 refl (ap (λ w. get_or w 0 0) e)) (λ e. eqb-false 115 0 refl (ap (λ w. get_or w 3 0) e)),
        all-append (IsSound name desk marks) (map run_line b.runs) (topics_lines b.topics b.claims) (runs_alone b.runs (recursion_from_All _ _ is.runs.ascending.named)) from_topics,
      ) in
      all-append (IsSound name desk marks) (opening_lines b.measure b.level) (depth_lines depth ++ runs_lines b.runs b.topics b.claims) (opening_sound b.measure b.level)
      (all-append (IsSound name desk marks) (depth_lines depth) (runs_lines b.runs b.topics b.claims) (depth_sound name desk marks depth) from_runs)

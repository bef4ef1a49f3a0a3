-- The claims of a table are on all documents of the desk's topics.
use Rattle.std.proofs.Common.{◌≡◌, ℕ, ◌<◌, List, [], ◌∷◌, length, map, Option, Some, None, ℤ, pos, refl, sym, subst, ◌∙◌}
use Rattle.std.specs.Prelude.{◌&&◌, flat_map}
use Rattle.std.specs.List.{AllZip, AllByRecursion}
use Rattle.std.proofs.lemmas.List.{length-map}
use Rattle.std.proofs.lemmas.List.Elements.{All-from_recursion}
use Rattle.desk_model.specs.Book.{Book}
use Rattle.desk_model.specs.Desk.{Desk, IsDesk, AreMarksOf, topics_under}
use Rattle.desk_model.specs.Extremes.{Ends}
use Rattle.desk_model.specs.Mark.{is_unjudged, mark_at}
use Rattle.desk_model.specs.Order.{Topic}
use Rattle.desk_model.specs.declared.types.Mark.{Mark}
use Rattle.desk_model.specs.declared.types.MeasureName.{MeasureName}
use Rattle.desk_model.specs.declared.types.Verdict.{Verdict}
use Rattle.desk_model.specs.declared.types.Verdict.TheVariants.{Above, Below, Equal, Open, Close}
use Rattle.desk_model.proofs.DeskTopics.{length-topics_under}
use Rattle.topic_counts.specs.declared.span.Span.{Span}
use Rattle.measure_laws.specs.Cases.{least_truth}
use Rattle.measure_core.specs.Laws.{MeetsLaws}
use Rattle.measure_core.specs.Made.{ends_of}
use Rattle.measure_core.specs.declared.cell.Cell.{Cell}
use Rattle.order_bundle.specs.Bundle.{ArePicks, ArePicksOn, AreBothBounds, IsEvidenceOn, IsLowerBound}
use Rattle.order_bundle.specs.declared.bundle.PairClaim.{PairClaim}
use Rattle.order_bundle.specs.declared.bundle.TopicNames.{TopicNames}
use Rattle.pair_table.specs.Sums.{cell_ends}
use Rattle.pair_table.proofs.Certified.{number_modest}
use Rattle.pair_table.proofs.DeskTopics.{topics_met}
use Rattle.pair_table.proofs.Evident.{Sized, sized_from}
use Rattle.pair_table.proofs.Orders.{MetBy}
use Rattle.table_bundle.specs.Bundles.{if_held}
use Rattle.table_bundle.specs.Drafts.{all_documents, bounds_by, draft_by, picks_on}
use Rattle.table_bundle.proofs.Choosing.{chosen_picks}
use Rattle.table_bundle.proofs.Listed.{whole}

-- what a claim that is held, if one is, rests on
abbrev pub IsHeldOn : List TopicNames → Option PairClaim → Type 0
IsHeldOn topics None = Unit {0}
IsHeldOn topics (Some c) = IsEvidenceOn topics c.evidence

module _ (name : MeasureName) (cell : List Mark → List ℕ → List ℕ → Cell) (bounds : List Mark → List ℕ → Span) (laws : MeetsLaws name cell bounds) (a b : ℕ) where
  lower_bounds : (ts : List Topic) → AllByRecursion (MetBy a b) ts → AllByRecursion IsLowerBound (bounds_by (λ _. pos 0) (cell_ends cell ts a b))
  lower_bounds [] met = tt
  lower_bounds (t ∷ ts) met = ((number_modest _ (laws.cell_modest t.marks (t.ranking a) (t.ranking b) met.0).least.0, refl), lower_bounds ts met.1)

  both_bounds : (ts : List Topic) → AllByRecursion (MetBy a b) ts → AllByRecursion AreBothBounds (bounds_by (λ e. e.most_hi) (cell_ends cell ts a b))
  both_bounds [] met = tt
  both_bounds (t ∷ ts) met =
      let sizes = laws.cell_modest t.marks (t.ranking a) (t.ranking b) met.0 in
      ((number_modest _ sizes.least.0, number_modest _ sizes.most.1), both_bounds ts met.1)

  case_picks : (x : Book) (t : Topic) → Sized x t → MetBy a b t → ArePicksOn (picks_on name a b t) (whole x)
  case_picks x t size met = (
    subst (λ n. ArePicks n (picks_on name a b t).low) size (chosen_picks (λ doc. is_unjudged (mark_at t.marks doc) && least_truth name t.marks (t.ranking a) (t.ranking b) doc) (length t.marks) met.small),
    subst (λ n. ArePicks n (picks_on name a b t).high) size (chosen_picks (λ doc. is_unjudged (mark_at t.marks doc) && least_truth name t.marks (t.ranking b) (t.ranking a) doc) (length t.marks) met.small),
  )

  all_picks : (books : List Book) (ts : List Topic) → AllZip Sized books ts → AllByRecursion (MetBy a b) ts → AllZip ArePicksOn (map (picks_on name a b) ts) (map whole books)
  all_picks [] [] size met = tt
  all_picks [] (t ∷ ts) size met = absurd size
  all_picks (x ∷ books) [] size met = absurd size
  all_picks (x ∷ books) (t ∷ ts) size met = (case_picks x t size.0 met.0, all_picks books ts size.1 met.1)

module _ (name : MeasureName) (cell : List Mark → List ℕ → List ℕ → Cell) (bounds : List Mark → List ℕ → Span) (laws : MeetsLaws name cell bounds) (desk : Desk) (marks : List (List Mark)) (is_desk : IsDesk desk) (known : AreMarksOf desk marks) where
  abbrev topics : List Topic
  topics = topics_under desk marks

  pub sized : AllZip Sized desk.topics topics
  sized = sized_from desk 0 desk.topics marks known

  length-bounds : (high : Ends → ℤ) (a b : ℕ) → length (bounds_by high (cell_ends cell topics a b)) ≡ length (all_documents desk)
  length-bounds high a b =
      length-map (cell_ends cell topics a b) _ ∙ length-map topics (λ (topic : Topic). ends_of (cell topic.marks (topic.ranking a) (topic.ranking b))) ∙ length-topics_under desk marks known ∙ sym (length-map desk.topics whole)

  pub held_on : (pair : ℕ × ℕ) (a b : ℕ) (v : Verdict) → a < length desk.runs → b < length desk.runs → IsHeldOn (all_documents desk) (draft_by cell name topics pair a b v)
  held_on pair a b Above in_a in_b = (length-bounds (λ _. pos 0) a b, All-from_recursion IsLowerBound _ (lower_bounds name cell bounds laws a b topics (topics_met desk marks is_desk known a b in_a in_b)))
  held_on pair a b Below in_a in_b = (length-bounds (λ _. pos 0) b a, All-from_recursion IsLowerBound _ (lower_bounds name cell bounds laws b a topics (topics_met desk marks is_desk known b a in_b in_a)))
  held_on pair a b Equal in_a in_b = (length-bounds (λ e. e.most_hi) a b, All-from_recursion AreBothBounds _ (both_bounds name cell bounds laws a b topics (topics_met desk marks is_desk known a b in_a in_b)))
  held_on pair a b Open in_a in_b = all_picks name cell bounds laws a b desk.topics topics sized (topics_met desk marks is_desk known a b in_a in_b)
  held_on pair a b Close in_a in_b = tt

-- what holds of each claim that is held
pub all_held : (P : PairClaim → Type 0) (Q : Option PairClaim → Type 0) → ((c : PairClaim) → Q (Some c) → P c) → (held : List (Option PairClaim)) → AllByRecursion Q held → AllByRecursion P (flat_map if_held held)
all_held P Q f [] h = tt
all_held P Q f (None ∷ held) h = all_held P Q f held h.1
all_held P Q f (Some c ∷ held) h = (f c h.0, all_held P Q f held h.1)

pub each_held : (P : PairClaim → Type 0) (Q : Option PairClaim → Type 0) → Q None → ((c : PairClaim) → P c → Q (Some c)) → (held : List (Option PairClaim)) → AllByRecursion P (flat_map if_held held) → AllByRecursion Q held
each_held P Q none f [] h = tt
each_held P Q none f (None ∷ held) h = (none, each_held P Q none f held h)
each_held P Q none f (Some c ∷ held) h = (f c h.0, each_held P Q none f held h.1)

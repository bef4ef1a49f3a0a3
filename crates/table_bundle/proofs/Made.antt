-- Claims on all documents, numbered by the picked ones alone, make the bundle of a table.
use Rattle.std.proofs.Common.{◌≡◌, ℕ, ◌+◌, ◌<◌, ◌≤◌, Bool, List, [], ◌∷◌, length, map, min, max, Option, Some, None, ℤ, pos, refl, ap, sym, subst, ◌∙◌, arith}
use Rattle.std.specs.Prelude.{◌&&◌, filter, flat_map, slice_index}
use Rattle.std.specs.List.{AllZip, AllByRecursion, enumerate_from, range_with_len, zip}
use Rattle.std.proofs.lemmas.List.{length-map}
use Rattle.std.proofs.lemmas.List.Elements.{All-from_recursion, recursion_from_All}
use Rattle.desk_model.specs.Book.{Book, IsBook}
use Rattle.desk_model.specs.Desk.{Desk, IsDesk, AreMarksOf, topics_under}
use Rattle.desk_model.specs.Extremes.{Ends}
use Rattle.desk_model.specs.Mark.{is_unjudged, mark_at}
use Rattle.desk_model.specs.MeasureText.{IsMeasure}
use Rattle.desk_model.specs.Order.{Topic}
use Rattle.desk_model.specs.Pairs.{pairs_of}
use Rattle.desk_model.specs.Verdict.{verdict}
use Rattle.desk_model.specs.declared.types.Mark.{Mark}
use Rattle.desk_model.specs.declared.types.MeasureName.{MeasureName}
use Rattle.desk_model.specs.declared.types.Totals.{Totals}
use Rattle.desk_model.specs.declared.types.Verdict.{Verdict}
use Rattle.desk_model.specs.declared.types.Verdict.TheVariants as of_pair
use Rattle.topic_counts.specs.declared.span.Span.{Span}
use Rattle.measure_laws.specs.Cases.{least_truth}
use Rattle.measure_core.specs.Laws.{MeetsLaws}
use Rattle.measure_core.specs.Pairs.{run_numbers}
use Rattle.measure_core.specs.declared.cell.Cell.{Cell}
use Rattle.order_certificate.specs.Certificate.{AreTopics, IsLevel}
use Rattle.order_certificate.specs.declared.certificate.Certificate.{Certificate}
use Rattle.order_certificate.specs.declared.certificate.Evidence.TheVariants as of_one
use Rattle.order_certificate.specs.declared.certificate.TopicWitness.{TopicWitness}
use Rattle.line_forms.specs.Rows.{AllFollow}
use Rattle.order_bundle.specs.Bundle.{Bundle, IsBundle, IsClaimAfter, IsEvidenceOn, last_pair}
use Rattle.order_bundle.specs.Evidence.{name_at, named_bound, named_lists, written_out}
use Rattle.order_bundle.specs.declared.bundle.PairClaim.{PairClaim}
use Rattle.order_bundle.specs.declared.bundle.PairEvidence.{PairEvidence}
use Rattle.order_bundle.specs.declared.bundle.PairEvidence.TheVariants.{Above, Equal, Open}
use Rattle.order_bundle.specs.declared.bundle.TopicNames.{TopicNames}
use Rattle.order_bundle.proofs.TopicRows.{HasDocuments}
use Rattle.pair_table.specs.Evidence.{relevant_names, Compares, SaysAbove, SaysEqual, SaysOpen}
use Rattle.pair_table.specs.Numbers.{HasCellEnds}
use Rattle.pair_table.specs.Sums.{cell_ends, pair_sums}
use Rattle.pair_table.proofs.Certified.{bound_from, desk_topics, witness_from}
use Rattle.pair_table.proofs.Evident.{Sized}
use Rattle.pair_table.proofs.Saying.{answered_by, cells_named, summed_cells}
use Rattle.pair_table.proofs.Zips.{IsPairBelow, pairs_below}
use Rattle.table_bundle.specs.Bundles.{if_held, listed_topics, IsBundleOf, IsHeldOf, IsSaidOf}
use Rattle.table_bundle.specs.Drafts.{all_documents, bounds_by, claim_above, draft_by, draft_of, drafts, drafts_held, names_where, is_picked_by, over_all, over_picked, picked_places, picked_topics, picks_on, replaced, replaced_evidence, IsNameOrder}
use Rattle.table_bundle.proofs.Choosing.{kept_documents}
use Rattle.table_bundle.proofs.Drafted.{all_held, each_held, held_on, sized, IsHeldOn}
use Rattle.table_bundle.proofs.Following.{claims_follow, length-held, IsHeldOnPair, IsOnPair}
use Rattle.table_bundle.proofs.InOrder.{at_within, few_pairs, length-names, length-order, number_in_order, runs_moved, runs_of_bundle}
use Rattle.table_bundle.proofs.Listed.{picked_are_listed, whole}
use Rattle.table_bundle.proofs.Replacing.{claims_picked, evidence_kept, evidence_on_kept, witness, IsPicked}

-- ---- evidence on all documents, written out
bounds_named : (high : Ends → ℤ) (books : List Book) (ends : List Ends) → map named_bound (zip (map whole books) (bounds_by high ends)) ≡ map (bound_from high) (zip books ends)
bounds_named high [] ends = refl
bounds_named high (x ∷ books) [] = refl
bounds_named high (x ∷ books) (e ∷ ends) = ap (λ l. bound_from high (x, e) ∷ l) (bounds_named high books ends)

-- the names of the documents that a completion makes relevant
names_relevant : (docs : List (List ℕ)) (marks : List Mark) (truth : ℕ → Bool) → length marks ≡ length docs →
    map (name_at docs) (filter (λ doc. is_unjudged (mark_at marks doc) && truth doc) (range_with_len 0 (length marks))) ≡ relevant_names docs marks truth
names_relevant docs marks truth size = ap (λ n. map (name_at docs) (filter (λ doc. is_unjudged (mark_at marks doc) && truth doc) (range_with_len 0 n))) size

module _ (measure : MeasureName) (a b : ℕ) where
  lists_named : (books : List Book) (ts : List Topic) → AllZip Sized books ts → map named_lists (zip (map whole books) (map (picks_on measure a b) ts)) ≡ map (witness_from measure a b) (zip books ts)
  lists_named [] [] size = refl
  lists_named [] (t ∷ ts) size = absurd size
  lists_named (x ∷ books) [] size = absurd size
  lists_named (x ∷ books) (t ∷ ts) size =
      let rest : List TopicWitness = map named_lists (zip (map whole books) (map (picks_on measure a b) ts)) in
      let low = names_relevant x.docs t.marks (least_truth measure t.marks (t.ranking a) (t.ranking b)) size.0 in
      let high = names_relevant x.docs t.marks (least_truth measure t.marks (t.ranking b) (t.ranking a)) size.0 in
      ap (λ l. witness x.name l (map (name_at x.docs) (picks_on measure a b t).high) ∷ rest) low
      ∙ ap (λ l. witness x.name (relevant_names x.docs t.marks (least_truth measure t.marks (t.ranking a) (t.ranking b))) l ∷ rest) high
      ∙ ap (λ ws. witness_from measure a b (x, t) ∷ ws) (lists_named books ts size.1)

-- ---- lists of what is held
replaced_held : List (List ℕ) → Option PairClaim → Option PairClaim
replaced_held places None = None
replaced_held places (Some c) = Some (replaced places c)

held_replaced : (places : List (List ℕ)) (held : List (Option PairClaim)) → flat_map if_held (map (replaced_held places) held) ≡ map (replaced places) (flat_map if_held held)
unfolding replaced_held
held_replaced places [] = refl
held_replaced places (None ∷ held) = held_replaced places held
held_replaced places (Some c ∷ held) = ap (λ l. replaced places c ∷ l) (held_replaced places held)

-- a relation between elements and what is made of them
zip_made_of : {A B C : Type 0} (R : A → C → Type 0) (P : A → Type 0) (Q : B → Type 0) (f : A → B) (g : B → C) → ((x : A) → P x → Q (f x) → R x (g (f x))) → (xs : List A) → AllByRecursion P xs → AllByRecursion Q (map f xs) → AllZip R xs (map g (map f xs))
zip_made_of R P Q f g h [] p q = tt
zip_made_of R P Q f g h (x ∷ xs) p q = (h x p.0 q.0, zip_made_of R P Q f g h xs p.1 q.1)

pub all_made : {A B : Type 0} (P : A → Type 0) (Q : B → Type 0) (f : A → B) → ((x : A) → P x → Q (f x)) → (xs : List A) → AllByRecursion P xs → AllByRecursion Q (map f xs)
all_made P Q f h [] p = tt
all_made P Q f h (x ∷ xs) p = (h x p.0, all_made P Q f h xs p.1)

-- ---- the bundle
module _ (name : MeasureName) (cell : List Mark → List ℕ → List ℕ → Cell) (bounds : List Mark → List ℕ → Span) (valid : IsMeasure name) (laws : MeetsLaws name cell bounds)
    (desk : Desk) (marks : List (List Mark)) (is_desk : IsDesk desk) (known : AreMarksOf desk marks) (level : ℕ) (is_level : IsLevel level) (order : List ℕ) (ordered : IsNameOrder desk order) (two : 2 ≤ length desk.runs) where
  abbrev topics : List Topic
  topics = topics_under desk marks

  abbrev books : List TopicNames
  books = all_documents desk

  abbrev pairs : List (ℕ × ℕ)
  pairs = pairs_of (run_numbers (length order))

  abbrev held : List (Option PairClaim)
  held = drafts_held cell name topics order

  abbrev claims : List PairClaim
  claims = drafts cell name topics order

  abbrev draft : ℕ × ℕ → Option PairClaim
  draft pair = draft_of cell name topics pair (slice_index order pair.0) (slice_index order pair.1)

  abbrev places : List (List ℕ)
  places = picked_places claims books

  abbrev made : Bundle
  made = over_picked name level desk order claims

  below : AllByRecursion (IsPairBelow (length desk.runs)) pairs
  below = subst (λ m. AllByRecursion (IsPairBelow (length desk.runs)) (pairs_of (run_numbers m))) (sym (length-order desk is_desk order ordered)) (pairs_below (length desk.runs))

  held_rests : AllByRecursion (IsHeldOn books) held
  held_rests = all_made (IsPairBelow (length desk.runs)) (IsHeldOn books) draft (λ pair under.
      held_on name cell bounds laws desk marks is_desk known pair (slice_index order pair.0) (slice_index order pair.1) _
      (at_within desk is_desk order ordered pair.0 (omega (arith, under.order, under.below))) (at_within desk is_desk order ordered pair.1 under.below)) pairs below

  pub claims_on : AllByRecursion (λ (c : PairClaim). IsEvidenceOn books c.evidence) claims
  claims_on = all_held (λ (c : PairClaim). IsEvidenceOn books c.evidence) (IsHeldOn books) (λ c h. h) held held_rests

  -- what is known of a draft: it is on all documents, and picks what some claim picks
  abbrev IsHeldPicked : Option PairClaim → Type 0
  IsHeldPicked None = Unit {0}
  IsHeldPicked (Some c) = IsPicked claims c.evidence

  abbrev IsReady : Option PairClaim → Type 0
  IsReady h = IsHeldOn books h × IsHeldPicked h

  both : (hs : List (Option PairClaim)) → AllByRecursion (IsHeldOn books) hs → AllByRecursion IsHeldPicked hs → AllByRecursion IsReady hs
  both [] h k = tt
  both (x ∷ hs) h k = ((h.0, k.0), both hs h.1 k.1)

  ready : AllByRecursion IsReady held
  ready = both held held_rests (each_held (λ (c : PairClaim). IsPicked claims c.evidence) IsHeldPicked tt (λ c h. h) held (claims_picked claims))

  -- each claim is written out as before
  written_same : (c : PairClaim) → IsEvidenceOn books c.evidence → IsPicked claims c.evidence → written_out made (replaced places c) ≡ written_out (over_all name level desk order claims) c
  written_same c on picked = ap (λ e. record { measure = name; level = level; first = name_at made.runs c.first; second = name_at made.runs c.second; evidence = e }) (evidence_kept claims books c.evidence on picked)

  module _ (i j : ℕ) (lt : i < j) (in_j : j < length desk.runs) where
    abbrev a : ℕ
    a = slice_index order i

    abbrev b : ℕ
    b = slice_index order j

    abbrev sums : Totals
    sums = pair_sums cell topics a b

    compares : (first second : ℕ) (e : PairEvidence) → first < length desk.runs → second < length desk.runs → Compares name desk level (slice_index order first) (slice_index order second) (written_out made (record { first = first; second = second; evidence = e }))
    compares first second e in_first in_second = record {
      by_measure = refl;
      at_level = refl;
      runs = (number_in_order desk is_desk order ordered first in_first, number_in_order desk is_desk order ordered second in_second);
    }

    abbrev certificate : PairClaim → Certificate
    certificate x = written_out made (replaced places x)

    abbrev equal_claim : PairClaim
    equal_claim = record { first = i; second = j; evidence = Equal (bounds_by (λ e. e.most_hi) (cell_ends cell topics a b)) }

    abbrev open_claim : PairClaim
    open_claim = record { first = i; second = j; evidence = Open (map (picks_on name a b) topics) }

    said : (v : Verdict) → verdict sums ≡ v → IsReady (draft_by cell name topics (i, j) a b v) → IsSaidOf (HasCellEnds cell) name desk marks level a b made (replaced_held places (draft_by cell name topics (i, j) a b v))
    unfolding replaced_held
    said of_pair.Above is r =
        let in_i : i < length desk.runs = omega (arith, lt, in_j) in
        let x = claim_above cell topics i j a b in
        let says : SaysAbove (HasCellEnds cell) name desk marks level a b (certificate x) = record {
          compares = compares i j (replaced_evidence places x.evidence) in_i in_j;
          ends = cell_ends cell topics a b;
          named = cells_named cell topics a b;
          bounds = evidence_kept claims books x.evidence r.0 r.1 ∙ ap (λ l. of_one.Above l) (bounds_named (λ _. pos 0) desk.topics (cell_ends cell topics a b));
        } in
        answered_by cell name desk marks level a b (certificate x) sums of_pair.Above refl (sym is) says
    said of_pair.Below is r =
        let in_i : i < length desk.runs = omega (arith, lt, in_j) in
        let x = claim_above cell topics j i b a in
        let says : SaysAbove (HasCellEnds cell) name desk marks level b a (certificate x) = record {
          compares = compares j i (replaced_evidence places x.evidence) in_j in_i;
          ends = cell_ends cell topics b a;
          named = cells_named cell topics b a;
          bounds = evidence_kept claims books x.evidence r.0 r.1 ∙ ap (λ l. of_one.Above l) (bounds_named (λ _. pos 0) desk.topics (cell_ends cell topics b a));
        } in
        answered_by cell name desk marks level a b (certificate x) sums of_pair.Below refl (sym is) says
    said of_pair.Equal is r =
        let in_i : i < length desk.runs = omega (arith, lt, in_j) in
        let x = equal_claim in
        let says : SaysEqual (HasCellEnds cell) name desk marks level a b (certificate x) = record {
          compares = compares i j (replaced_evidence places x.evidence) in_i in_j;
          ends = cell_ends cell topics a b;
          named = cells_named cell topics a b;
          bounds = evidence_kept claims books x.evidence r.0 r.1 ∙ ap (λ l. of_one.Equal l) (bounds_named (λ e. e.most_hi) desk.topics (cell_ends cell topics a b));
        } in
        answered_by cell name desk marks level a b (certificate x) sums of_pair.Equal refl (sym is) says
    said of_pair.Open is r =
        let in_i : i < length desk.runs = omega (arith, lt, in_j) in
        let x = open_claim in
        let says : SaysOpen name desk marks level a b (certificate x) = record {
          compares = compares i j (replaced_evidence places x.evidence) in_i in_j;
          cases = evidence_kept claims books x.evidence r.0 r.1 ∙ ap (λ l. of_one.Open l) (lists_named name a b desk.topics topics (sized name cell bounds laws desk marks is_desk known));
        } in
        answered_by cell name desk marks level a b (certificate x) sums of_pair.Open refl (sym is) says
    said of_pair.Close is r = let told = summed_cells cell topics a b sums refl in (sums, told, is)

    forth : (e : PairEvidence) → IsEvidenceOn books e → IsPicked claims e → IsOnPair (length made.runs) made.topics (i, j) (replaced places (record { first = i; second = j; evidence = e }))
    forth e on picked =
        let long = length-names desk is_desk order ordered in
        let least : min i j ≡ i = omega (arith, lt) in
        let greatest : max i j ≡ j = omega (arith, lt) in
        record {
          first = omega (arith, lt, in_j, long);
          second = omega (arith, in_j, long);
          different = λ same. omega (arith, lt, same);
          on = ap (λ m. record { smaller = m; greater = max i j }) least ∙ ap (λ m. record { smaller = i; greater = m }) greatest;
          evidence = evidence_on_kept claims books e on picked;
        }

    back : (e : PairEvidence) → IsEvidenceOn books e → IsPicked claims e → IsOnPair (length made.runs) made.topics (i, j) (replaced places (record { first = j; second = i; evidence = e }))
    back e on picked =
        let long = length-names desk is_desk order ordered in
        let least : min j i ≡ i = omega (arith, lt) in
        let greatest : max j i ≡ j = omega (arith, lt) in
        record {
          first = omega (arith, in_j, long);
          second = omega (arith, lt, in_j, long);
          different = λ same. omega (arith, lt, same);
          on = ap (λ m. record { smaller = m; greater = max j i }) least ∙ ap (λ m. record { smaller = i; greater = m }) greatest;
          evidence = evidence_on_kept claims books e on picked;
        }

    on_pair : (v : Verdict) → IsReady (draft_by cell name topics (i, j) a b v) → IsHeldOnPair (length made.runs) made.topics (i, j) (replaced_held places (draft_by cell name topics (i, j) a b v))
    unfolding replaced_held
    on_pair of_pair.Above r = forth (Above (bounds_by (λ _. pos 0) (cell_ends cell topics a b))) r.0 r.1
    on_pair of_pair.Below r = back (Above (bounds_by (λ _. pos 0) (cell_ends cell topics b a))) r.0 r.1
    on_pair of_pair.Equal r = forth (Equal (bounds_by (λ e. e.most_hi) (cell_ends cell topics a b))) r.0 r.1
    on_pair of_pair.Open r = forth (Open (map (picks_on name a b) topics)) r.0 r.1
    on_pair of_pair.Close r = tt

  length-made : length made.runs ≡ length order
  length-made = length-map order (name_at desk.runs)

  held_each : AllZip (IsHeldOf (HasCellEnds cell) name desk marks level made) pairs (map (replaced_held places) held)
  held_each = zip_made_of (IsHeldOf (HasCellEnds cell) name desk marks level made) (IsPairBelow (length desk.runs)) IsReady draft (replaced_held places)
      (λ pair under r. record {
        first = slice_index order pair.0;
        second = slice_index order pair.1;
        first_named = number_in_order desk is_desk order ordered pair.0 (omega (arith, under.order, under.below));
        second_named = number_in_order desk is_desk order ordered pair.1 under.below;
        said = said pair.0 pair.1 under.order under.below _ refl r;
      })
      pairs below ready

  on_each : AllZip (IsHeldOnPair (length made.runs) made.topics) pairs (map (replaced_held places) held)
  on_each = zip_made_of (IsHeldOnPair (length made.runs) made.topics) (IsPairBelow (length desk.runs)) IsReady draft (replaced_held places) (λ pair under r. on_pair pair.0 pair.1 under.order under.below _ r) pairs below ready

  names_from : (t : ℕ) (bs : List Book) → map (λ (x : TopicNames). x.topic) (map (λ (p : ℕ × TopicNames). record { topic = p.1.topic; docs = names_where (is_picked_by claims p.0) p.1.docs }) (enumerate_from t (map whole bs))) ≡ map (λ (book : Book). book.name) bs
  names_from t [] = refl
  names_from t (x ∷ bs) = ap (λ ns. x.name ∷ ns) (names_from (t + 1) bs)

  docs_from : (t : ℕ) (bs : List Book) → AllByRecursion IsBook bs → AllByRecursion HasDocuments (map (λ (p : ℕ × TopicNames). record { topic = p.1.topic; docs = names_where (is_picked_by claims p.0) p.1.docs }) (enumerate_from t (map whole bs)))
  docs_from t [] are = tt
  docs_from t (x ∷ bs) are = (kept_documents (is_picked_by claims t) x.docs are.0.ascending are.0.documents are.0.small, docs_from (t + 1) bs are.1)

  claims_few : length made.claims ≤ 32640
  claims_few = omega (arith, few_pairs desk is_desk order ordered, length-map pairs draft, length-map claims (replaced places), length-held held)

  form : IsBundle made
  form = record {
    measure = valid;
    level = is_level;
    runs = runs_of_bundle desk is_desk order ordered two;
    topics = record {
      names = subst AreTopics (sym (names_from 0 desk.topics)) (desk_topics desk is_desk);
      docs = All-from_recursion HasDocuments made.topics (docs_from 0 desk.topics (recursion_from_All IsBook desk.topics is_desk.books));
    };
    claims = record {
      count = claims_few;
      ascending = subst (AllFollow last_pair (IsClaimAfter (length made.runs) made.topics) None) (held_replaced places held) (claims_follow (length made.runs) made.topics (length order) (map (replaced_held places) held) on_each);
    };
  }

  written_each : (cs : List PairClaim) → AllByRecursion (λ (c : PairClaim). IsEvidenceOn books c.evidence) cs → AllByRecursion (λ (c : PairClaim). IsPicked claims c.evidence) cs →
      map (written_out made) (map (replaced places) cs) ≡ map (written_out (over_all name level desk order claims)) cs
  written_each [] on picked = refl
  written_each (c ∷ cs) on picked =
      ap (λ x. x ∷ map (written_out made) (map (replaced places) cs)) (written_same c on.0 picked.0) ∙ ap (λ xs. written_out (over_all name level desk order claims) c ∷ xs) (written_each cs on.1 picked.1)

  pub made_bundle : IsBundleOf (HasCellEnds cell) name desk marks level made
  made_bundle = record {
    form = form;
    by_measure = refl;
    at_level = refl;
    runs = runs_moved desk is_desk order ordered;
    held = map (replaced_held places) held;
    each_pair = subst (λ m. AllZip (IsHeldOf (HasCellEnds cell) name desk marks level made) (pairs_of (run_numbers m)) (map (replaced_held places) held)) (sym length-made) held_each;
    claims = sym (held_replaced places held);
    topics = picked_are_listed (over_all name level desk order claims) desk refl claims claims_on (recursion_from_All IsBook desk.topics is_desk.books)
        ∙ ap (λ cs. listed_topics cs desk) (sym (written_each claims claims_on (claims_picked claims)));
  }

  abbrev bundle : MeasureName → List (List ℕ) → List TopicNames → List PairClaim → Bundle
  bundle m rs ts cs = record { measure = m; level = level; runs = rs; topics = ts; claims = cs }

  -- a bundle that is put together from these parts is that of the table
  pub made_from : (m : MeasureName) (rs : List (List ℕ)) (ts : List TopicNames) (cs items : List PairClaim) (pl : List (List ℕ)) → m ≡ name → rs ≡ map (name_at desk.runs) order → items ≡ claims → ts ≡ picked_topics items books → pl ≡ picked_places items books →
      cs ≡ map (replaced pl) items → IsBundleOf (HasCellEnds cell) name desk marks level (record { measure = m; level = level; runs = rs; topics = ts; claims = cs })
  made_from m rs ts cs items pl em er ei et ep ec =
      let topics_are : ts ≡ made.topics = et ∙ ap (λ x. picked_topics x books) ei in
      let places_are : pl ≡ places = ep ∙ ap (λ x. picked_places x books) ei in
      let claims_are : cs ≡ made.claims = ec ∙ ap (λ x. map (replaced x) items) places_are ∙ ap (map (replaced places)) ei in
      subst (IsBundleOf (HasCellEnds cell) name desk marks level)
      (sym (ap (λ x. bundle x rs ts cs) em ∙ ap (λ x. bundle name x ts cs) er ∙ ap (λ x. bundle name made.runs x cs) topics_are ∙ ap (λ x. bundle name made.runs made.topics x) claims_are)) made_bundle

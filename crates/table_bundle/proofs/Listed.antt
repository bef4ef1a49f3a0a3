-- The picked documents are those that the written claims list.
use Rattle.std.proofs.Common.{◌≡◌, ℕ, zero, suc, ◌+◌, ◌<◌, Bool, true, false, nat_eq, List, [], ◌∷◌, length, map, Some, refl, ap, sym, subst, ◌∙◌, arith}
use Rattle.std.specs.Prelude.{All, ◌||◌, filter, slice_get, slice_index_or}
use Rattle.std.specs.List.{AllZip, AllByRecursion, enumerate_from, zip}
use Rattle.std.proofs.lemmas.Bool.Decides.{nat_tests}
use Rattle.std.proofs.lemmas.List.Elements.{recursion_from_All}
use Rattle.std.proofs.lemmas.Option.{slice_get_within}
use Rattle.std.proofs.lemmas.Slice.Eq.{bytes_eq-Decides}
use Rattle.small_lemmas.proofs.Lists.{slice_get-zip, map_there}
use Rattle.desk_model.specs.Book.{Book, IsBook}
use Rattle.desk_model.specs.Desk.{Desk}
use Rattle.desk_model.specs.Name.{is_same_name, AreAscending}
use Rattle.desk_model.specs.Ranking.{is_in}
use Rattle.desk_model.proofs.Nested.{get_or-there}
use Rattle.order_certificate.specs.declared.certificate.TopicWitness.{TopicWitness}
use Rattle.order_bundle.specs.Bundle.{ArePicksOn, Bundle, IsEvidenceOn}
use Rattle.order_bundle.specs.Evidence.{name_at, named_evidence, named_lists, written_out}
use Rattle.order_bundle.specs.declared.bundle.PairClaim.{PairClaim}
use Rattle.order_bundle.specs.declared.bundle.PairEvidence.{PairEvidence}
use Rattle.order_bundle.specs.declared.bundle.PairEvidence.TheVariants.{Above, Equal, Open}
use Rattle.order_bundle.specs.declared.bundle.Picks.{Picks}
use Rattle.order_bundle.specs.declared.bundle.TopicNames.{TopicNames}
use Rattle.table_bundle.specs.Bundles.{has_listed, is_among, is_listed_by, listed_topics, lists_name, no_lists}
use Rattle.table_bundle.specs.Drafts.{all_documents, has_picked, is_picked_by, names_where, no_picks, picked_topics, picks_document, PicksBelow}
use Rattle.table_bundle.proofs.Ascending.{one_number}
use Rattle.table_bundle.proofs.Choosing.{names_filtered}

-- ---- names and numbers are found alike
module _ (docs : List (List ℕ)) (up : AreAscending docs) where
  same_test : (e d : ℕ) → e < length docs → d < length docs → is_same_name (name_at docs e) (name_at docs d) ≡ nat_eq e d
  same_test e d in_e in_d = go (nat_eq e d) refl
    where
      apart : nat_eq e d ≡ false → (b : Bool) → is_same_name (name_at docs e) (name_at docs d) ≡ b → is_same_name (name_at docs e) (name_at docs d) ≡ false
      apart other true named =
          let is : e ≡ d = one_number docs up e d in_e in_d ((bytes_eq-Decides (name_at docs e) (name_at docs d)).0 named) in
          absurd (grind (arith, nat_tests))
      apart other false named = named

      go : (b : Bool) → nat_eq e d ≡ b → is_same_name (name_at docs e) (name_at docs d) ≡ b
      go true same = let is : e ≡ d = grind (arith, nat_tests) in (bytes_eq-Decides (name_at docs e) (name_at docs d)).1 (ap (name_at docs) is)
      go false other = apart other (is_same_name (name_at docs e) (name_at docs d)) refl

  found_alike : (picks : List ℕ) (d : ℕ) → AllByRecursion (λ e. e < length docs) picks → d < length docs → is_among (map (name_at docs) picks) (name_at docs d) ≡ is_in picks d
  found_alike [] d below in_d = refl
  found_alike (e ∷ picks) d below in_d = ap (λ b. b || is_among (map (name_at docs) picks) (name_at docs d)) (same_test e d below.0 in_d) ∙ ap (λ b. nat_eq e d || b) (found_alike picks d below.1 in_d)

-- ---- evidence
picks_there : (ts : List TopicNames) (ps : List Picks) (t : ℕ) (x : TopicNames) → AllZip ArePicksOn ps ts → slice_get ts t ≡ Some x → (p : Picks) × (slice_get ps t ≡ Some p) × ArePicksOn p x
picks_there [] [] t x on at = absurd (cc)
picks_there [] (p ∷ ps) t x on at = absurd on
picks_there (y ∷ ts) [] t x on at = absurd on
picks_there (y ∷ ts) (p ∷ ps) zero x on at = let same : y ≡ x = cc in (p, refl, subst (ArePicksOn p) same on.0)
picks_there (y ∷ ts) (p ∷ ps) (suc t) x on at = picks_there ts ps t x on.1 at

-- its lists pick documents of the topic alone
pub picks_below : (ts : List TopicNames) (e : PairEvidence) (t : ℕ) (x : TopicNames) → IsEvidenceOn ts e → slice_get ts t ≡ Some x → PicksBelow t (length x.docs) e
picks_below ts (Above bounds) t x on at = tt
picks_below ts (Equal bounds) t x on at = tt
picks_below ts (Open picks) t x on at =
    let p = picks_there ts picks t x on at in
    let is : slice_index_or picks t no_picks ≡ p.0 = get_or-there picks t p.0 no_picks p.1 in (
      slice_get_within picks t p.0 p.1,
      subst (λ (q : Picks). All (λ doc. doc < length x.docs) q.low) (sym is) p.2.0.within,
      subst (λ (q : Picks). All (λ doc. doc < length x.docs) q.high) (sym is) p.2.1.within,
    )

listed_alike : (ts : List TopicNames) (e : PairEvidence) (t d : ℕ) (x : TopicNames) → IsEvidenceOn ts e → slice_get ts t ≡ Some x → AreAscending x.docs → d < length x.docs → lists_name t (name_at x.docs d) (named_evidence ts e) ≡ picks_document t d e
listed_alike ts (Above bounds) t d x on at up in_d = refl
listed_alike ts (Equal bounds) t d x on at up in_d = refl
listed_alike ts (Open picks) t d x on at up in_d =
    let p = picks_there ts picks t x on at in
    let there : slice_get (map named_lists (zip ts picks)) t ≡ Some (named_lists (x, p.0)) = map_there named_lists (zip ts picks) t (x, p.0) (slice_get-zip ts picks t x p.0 at p.1) in
    let name = name_at x.docs d in
    ap (λ (w : TopicWitness). has_listed w name) (get_or-there (map named_lists (zip ts picks)) t (named_lists (x, p.0)) no_lists there)
    ∙ ap (λ b. b || is_among (map (name_at x.docs) p.0.high) name) (found_alike x.docs up p.0.low d (recursion_from_All _ p.0.low p.2.0.within) in_d)
    ∙ ap (λ b. is_in p.0.low d || b) (found_alike x.docs up p.0.high d (recursion_from_All _ p.0.high p.2.1.within) in_d)
    ∙ ap (λ (q : Picks). has_picked q d) (sym (get_or-there picks t p.0 no_picks p.1))

-- ---- claims
module _ (b : Bundle) (t d : ℕ) (x : TopicNames) (at : slice_get b.topics t ≡ Some x) (up : AreAscending x.docs) (in_d : d < length x.docs) where
  claims_alike : (claims : List PairClaim) → AllByRecursion (λ (c : PairClaim). IsEvidenceOn b.topics c.evidence) claims → is_listed_by (map (written_out b) claims) t (name_at x.docs d) ≡ is_picked_by claims t d
  claims_alike [] on = refl
  claims_alike (c ∷ claims) on =
      ap (λ z. z || is_listed_by (map (written_out b) claims) t (name_at x.docs d)) (listed_alike b.topics c.evidence t d x on.0 at up in_d) ∙ ap (λ z. picks_document t d c.evidence || z) (claims_alike claims on.1)

-- ---- topics
abbrev pub whole : Book → TopicNames
whole book = record { topic = book.name; docs = book.docs }

abbrev pub with_docs : List ℕ → List (List ℕ) → TopicNames
with_docs topic docs = record { topic = topic; docs = docs }

module _ (b : Bundle) (desk : Desk) (over : b.topics ≡ all_documents desk) (claims : List PairClaim) (on : AllByRecursion (λ (c : PairClaim). IsEvidenceOn b.topics c.evidence) claims) where
  abbrev picked_one : ℕ × TopicNames → TopicNames
  picked_one p = record { topic = p.1.topic; docs = names_where (is_picked_by claims p.0) p.1.docs }

  abbrev listed_one : ℕ × Book → TopicNames
  listed_one p = record { topic = p.1.name; docs = filter (is_listed_by (map (written_out b) claims) p.0) p.1.docs }

  topics_from : (t : ℕ) (books : List Book) → AllByRecursion IsBook books → ((i : ℕ) (book : Book) → slice_get books i ≡ Some book → slice_get b.topics (t + i) ≡ Some (whole book)) →
      map picked_one (enumerate_from t (map whole books)) ≡ map listed_one (enumerate_from t books)
  topics_from t [] are stand = refl
  topics_from t (book ∷ books) are stand =
      let here : t + 0 ≡ t = omega arith in
      let at : slice_get b.topics t ≡ Some (whole book) = subst (λ n. slice_get b.topics n ≡ Some (whole book)) here (stand 0 book refl) in
      let docs : names_where (is_picked_by claims t) book.docs ≡ filter (is_listed_by (map (written_out b) claims) t) book.docs =
      names_filtered (is_picked_by claims t) (is_listed_by (map (written_out b) claims) t) book.docs (λ d in_d. claims_alike b t d (whole book) at are.0.ascending in_d claims on) in
      ap (λ ds. with_docs book.name ds ∷ map picked_one (enumerate_from (t + 1) (map whole books))) docs
      ∙ ap (λ ts. with_docs book.name (filter (is_listed_by (map (written_out b) claims) t) book.docs) ∷ ts) (topics_from (t + 1) books are.1 (λ i x e.
      let later : t + suc i ≡ t + 1 + i = omega arith in
      subst (λ n. slice_get b.topics n ≡ Some (whole x)) later (stand (suc i) x e)))

  pub picked_are_listed : AllByRecursion IsBook desk.topics → picked_topics claims (all_documents desk) ≡ listed_topics (map (written_out b) claims) desk
  picked_are_listed are = topics_from 0 desk.topics are (λ i book e.
      let at : i ≡ 0 + i = omega arith in
      subst (λ n. slice_get b.topics n ≡ Some (whole book)) at (subst (λ ts. slice_get ts i ≡ Some (whole book)) (sym over) (map_there whole desk.topics i book e)))

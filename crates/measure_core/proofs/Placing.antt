-- Ranks set apart, place by place in order of the documents.
use Rattle.std.proofs.Common.{◌≡◌, ◌≢◌, ℕ, zero, suc, ◌+◌, ◌<◌, Bool, true, false, nat_eq, List, ◌∷◌, drop, length, get_or, set, slice_index_or, Some, None, refl, ap, sym, ◌∙◌, arith}
use Rattle.std.specs.Prelude.{if◌then◌else◌}
use Rattle.std.proofs.Math.Seq.{drop-cons}
use Rattle.std.proofs.lemmas.Bool.Decides.{nat_tests}
use Rattle.std.proofs.lemmas.Grind.{get_or-set_at}
use Rattle.std.proofs.lemmas.List.{get_or-set_other}
use Rattle.desk_model.specs.Limits.{RANK_LIMIT}
use Rattle.desk_model.specs.Placed.{lookup, IsAscending}
use Rattle.desk_model.specs.Ranking.{IsRanking, rank}
use Rattle.desk_model.specs.declared.placed.Placed.{Placed}
use Rattle.desk_model.proofs.Counts.{nat_eq-true}
use Rattle.desk_model.proofs.Places.{lookup_at}
use Rattle.measure_laws.specs.Ranks.{IsRankWithin}
use Rattle.measure_core.proofs.Walking.{left_whole, doc_within, rank_is_within}
use Rattle.measure_core.specs.Worths.{rank_or_none}

-- the ranks of all documents but those from a place on
abbrev pub ArePlacedTo : List ℕ → List Placed → List ℕ → ℕ → Type 0
ArePlacedTo docs places ranks i = (doc : ℕ) → lookup (drop i places) doc ≡ None → rank_or_none (get_or ranks doc 0) ≡ rank docs doc

some_rank : (rank : ℕ) → IsRankWithin RANK_LIMIT (Some rank) → rank_or_none rank ≡ Some rank
some_rank zero h = absurd (omega (arith, h.0))
some_rank (suc n) h = refl

pub placed_more : (n i : ℕ) (docs : List ℕ) (places : List Placed) (ranks : List ℕ) (o : Placed) → IsRanking n docs → IsAscending places → ((doc : ℕ) → lookup places doc ≡ rank docs doc) → n ≡ length ranks → i < length places →
    ArePlacedTo docs places ranks i → ArePlacedTo docs places (set ranks (slice_index_or places i o).doc (slice_index_or places i o).rank) (i + 1)
placed_more n i docs places ranks o ranking up same count lt before doc absent = at (nat_eq here.doc doc) refl
  where
    here : Placed
    here = slice_index_or places i o

    at : (b : Bool) → nat_eq here.doc doc ≡ b → rank_or_none (get_or (set ranks here.doc here.rank) doc 0) ≡ rank docs doc
    at true e =
        let is : doc ≡ here.doc = sym (nat_eq-true here.doc doc e) in
        let left = left_whole n docs places ranking up same in
        let read : get_or (set ranks here.doc here.rank) doc 0 ≡ here.rank = get_or-set_at ranks here.doc doc here.rank 0 is (omega (arith, count, doc_within n i places o left lt)) in
        ap rank_or_none read ∙ some_rank here.rank (rank_is_within n i places o left lt) ∙ sym (lookup_at places i o up lt) ∙ ap (lookup places) (sym is) ∙ same doc
    at false e =
        let next : i + 1 ≡ suc i = omega arith in
        let gone : lookup (here ∷ drop (suc i) places) doc ≡ None = ap (λ (b : Bool). if b then Some here.rank else lookup (drop (suc i) places) doc) e ∙ ap (λ m. lookup (drop m places) doc) (sym next) ∙ absent in
        let ne : doc ≢ here.doc = grind (arith, nat_tests) in
        ap rank_or_none (get_or-set_other ranks here.doc doc here.rank 0 ne) ∙ before doc (ap (λ ps. lookup ps doc) (drop-cons places i o lt) ∙ gone)

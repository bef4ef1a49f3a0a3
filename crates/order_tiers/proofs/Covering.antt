-- Covering pairs, listed pair by pair.
use Rattle.std.proofs.Common.{◌≡◌, ◌⊎◌, ℕ, ◌+◌, ◌≤◌, List, [], ◌∷◌, ◌++◌, get_or, sym, subst, ◌∙◌, inl, inr, arith}
use Rattle.std.proofs.lemmas.List.Elements.{All-nil, All-push, Contains-push, Contains-append_left}
use Rattle.std.proofs.lemmas.List.Quantifiers.{all_pairs_push}
use Rattle.small_lemmas.proofs.Numbers.{less_or_last}
use Rattle.pair_table.specs.Numbers.{HaveEnds}
use Rattle.order_tiers.specs.Chains.{IsAmongRuns}
use Rattle.order_tiers.specs.Tables.{HaveCoversBefore}
use Rattle.order_tiers.specs.Order.{ComparedRuns, AreEarlier, IsCover, IsEarlierCover, HasCoverOf, AreCovers}
use Rattle.order_tiers.specs.Tiers.{IsCovering}
use Rattle.order_tiers.specs.declared.cover.Cover.{Cover}

-- a covering pair of one relation is one of another that holds of the same runs
pub same_covering : (Over Other : ℕ → ℕ → Type 0) (runs a b : ℕ) → ((x y : ℕ) → Over x y → Other x y) → ((x y : ℕ) → Other x y → Over x y) → IsCovering Over runs a b → IsCovering Other runs a b
same_covering Over Other runs a b there back h = record { above = there a b h.above; none_between = λ c lt e f. h.none_between c lt (back a c e) (back c b f) }

pub same_covers : (Over Other : ℕ → ℕ → Type 0) (Has : HaveEnds) (t : ComparedRuns) (covers : List Cover) → ((x y : ℕ) → Over x y → Other x y) → ((x y : ℕ) → Other x y → Over x y) → AreCovers Over Has t covers → AreCovers Other Has t covers
same_covers Over Other Has t covers there back h = record {
  ascending = h.ascending;
  each = λ k d lt. let c = h.each k d lt in record { covering = same_covering Over Other t.runs _ _ there back c.covering; ends = c.ends; named = c.named; wins = c.wins; losses = c.losses };
  every = λ a b covering. h.every a b (same_covering Other Over t.runs a b back there covering);
}

module _ (Over : ℕ → ℕ → Type 0) (Has : HaveEnds) (t : ComparedRuns) where
  pub covers_none : HaveCoversBefore Over Has t [] 0 0
  covers_none = record {
    ascending = λ i j d less lt. absurd (omega (arith, lt));
    each = All-nil _;
    before = All-nil _;
    every = λ a b covering early. elim early [ inl less ↦ absurd (omega (arith, less)) | inr same ↦ absurd (let less = same.1 in omega (arith, less)) ];
  }

  pub listed_more : (covers : List Cover) (c : Cover) (a b : ℕ) → HasCoverOf covers a b → HasCoverOf (covers ++ c ∷ []) a b
  listed_more covers c a b h = record { cover = h.cover; listed = Contains-append_left covers (c ∷ []) h.cover h.listed; first = h.first; second = h.second }

  module _ (covers : List Cover) (first second : ℕ) (h : HaveCoversBefore Over Has t covers first second) where
    later : (a b : ℕ) → AreEarlier a b first second → AreEarlier a b first (second + 1)
    later a b early = elim early [ inl less ↦ inl less | inr same ↦ inr (same.0, let less = same.1 in omega (arith, less)) ]

    -- those before the next pair are those before this one, and this one
    sooner : (a b : ℕ) → AreEarlier a b first (second + 1) → AreEarlier a b first second ⊎ ((a ≡ first) × (b ≡ second))
    sooner a b early = elim early [
      | inl less ↦ inl (inl less)
      | inr same ↦ elim (less_or_last b second same.1) [ inl less ↦ inl (inr (same.0, less)) | inr last ↦ inr (same.0, last) ]
    ]

    pub covers_skip : (IsCovering Over t.runs first second → ⊥) → HaveCoversBefore Over Has t covers first (second + 1)
    covers_skip none = record {
      ascending = h.ascending;
      each = h.each;
      before = λ k d lt. later _ _ (h.before k d lt);
      every = λ a b covering early. elim (sooner a b early) [
        | inl before ↦ h.every a b covering before
        | inr same ↦ absurd (none (subst (λ x. IsCovering Over t.runs x second) same.0 (subst (IsCovering Over t.runs a) same.1 covering)))
      ];
    }

    pub covers_push : (c : Cover) → c.first ≡ first → c.second ≡ second → IsCover Over Has t c → HaveCoversBefore Over Has t (covers ++ c ∷ []) first (second + 1)
    covers_push c is_first is_second cover = record {
      ascending = all_pairs_push IsEarlierCover covers c h.ascending (λ k d lt.
          subst (λ x. AreEarlier (get_or covers k d).first (get_or covers k d).second x c.second) (sym is_first)
          (subst (AreEarlier (get_or covers k d).first (get_or covers k d).second first) (sym is_second) (h.before k d lt)));
      each = All-push (IsCover Over Has t) covers c h.each cover;
      before = All-push (λ (x : Cover). AreEarlier x.first x.second first (second + 1)) covers c (λ k d lt. later _ _ (h.before k d lt)) (inr (is_first, omega (arith, is_second)));
      every = λ a b covering early. elim (sooner a b early) [
        | inl before ↦ listed_more covers c a b (h.every a b covering before)
        | inr same ↦ record { cover = c; listed = Contains-push covers c; first = is_first ∙ sym same.0; second = is_second ∙ sym same.1 }
      ];
    }

    -- after the last run that it may be above, a first run is done
    pub covers_row : IsAmongRuns Over t.runs → t.runs ≤ second → HaveCoversBefore Over Has t covers (first + 1) 0
    covers_row within past = record {
      ascending = h.ascending;
      each = h.each;
      before = λ k d lt. elim (h.before k d lt) [ inl less ↦ inl (omega (arith, less)) | inr same ↦ inl (let e = same.0 in omega (arith, e)) ];
      every = λ a b covering early. h.every a b covering (elim early [
        | inl less ↦ elim (less_or_last a first less) [
          | inl before ↦ inl before
          | inr last ↦ inr (last, let lt = (within a b covering.above).1 in omega (arith, lt, past))
        ]
        | inr same ↦ absurd (let less = same.1 in omega (arith, less))
      ]);
    }

    pub covers_all : IsAmongRuns Over t.runs → t.runs ≤ first → AreCovers Over Has t covers
    covers_all within past = record {
      ascending = h.ascending;
      each = h.each;
      every = λ a b covering. h.every a b covering (inl (let lt = (within a b covering.above).0 in omega (arith, lt, past)));
    }

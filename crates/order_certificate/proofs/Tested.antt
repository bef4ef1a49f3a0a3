-- Whether a line of a certificate shows a part that fits its place can be tested.
use Rattle.std.proofs.Common.{◌≢◌, ℕ, List, ◌∷◌, ◌++◌, refl, ap, sym, ◌∙◌, arith, inl, inr, pos, append_assoc}
use Rattle.std.specs.Prelude.{codes, decimal}
use Rattle.std.specs.Fmt.{signed_decimal}
use Rattle.line_forms.specs.Places.{IsLaterName, count_line}
use Rattle.line_forms.proofs.Shown.{named_one}
use Rattle.line_forms.proofs.Tested.{Found, same_list, at_most, numbers_found, signed_found, word_found, name_and_text_known, two_known, range_known}
use Rattle.order_certificate.specs.Certificate.{low_line, low_high_line, IsLevel, IsTopicCount, IsDocumentCount, IsLowBound, IsLowHighBound}
use Rattle.order_certificate.specs.Places.{claim_line}
use Rattle.order_certificate.specs.declared.certificate.TopicBound.{TopicBound}
use Rattle.order_certificate.specs.declared.places.Claim.{Claim}
use Rattle.order_certificate.specs.declared.places.Claim.TheVariants as claimed

pub low_found : (before line : List ℕ) → Found low_line (λ b. IsLaterName before b.topic × IsLowBound b) line
low_found before line = word_found (codes "topic ") (λ (b : TopicBound). b.topic ++ 32 ∷ signed_decimal b.low) (λ b. IsLaterName before b.topic × IsLowBound b)
    (λ text. elim (name_and_text_known before text) [
      | inl h ↦ elim (signed_found h.1) [
        | inl k ↦ inl (record { topic = h.0; low = k.0; high = pos 0 }, (h.2, (k.1, refl)), h.3 ∙ ap (λ z. h.0 ++ 32 ∷ z) k.2)
        | inr never ↦ inr (λ b fits e. never b.low fits.1.0 (named_one h.0 b.topic h.1 (signed_decimal b.low) h.2.0 fits.0.0 (sym h.3 ∙ e)).1)
      ]
      | inr never ↦ inr (λ b fits e. never b.topic (signed_decimal b.low) fits.0 e)
    ]) line

pub low_high_found : (before line : List ℕ) → Found low_high_line (λ b. IsLaterName before b.topic × IsLowHighBound b) line
low_high_found before line = word_found (codes "topic ") (λ (b : TopicBound). (b.topic ++ 32 ∷ signed_decimal b.low) ++ 32 ∷ signed_decimal b.high) (λ b. IsLaterName before b.topic × IsLowHighBound b)
    (λ text. elim (name_and_text_known before text) [
      | inl h ↦ elim (two_known h.1) [
        | inl k ↦ inl (
          record { topic = h.0; low = k.0; high = k.1 },
          (h.2, (k.2, k.3)),
          h.3 ∙ ap (λ z. h.0 ++ 32 ∷ z) k.4 ∙ sym (append_assoc h.0 (32 ∷ signed_decimal k.0) (32 ∷ signed_decimal k.1)),
        )
        | inr never ↦ inr (λ b fits e.
            never b.low b.high fits.1.0 fits.1.1 (named_one h.0 b.topic h.1 (signed_decimal b.low ++ 32 ∷ signed_decimal b.high) h.2.0 fits.0.0 (sym h.3 ∙ e ∙ append_assoc b.topic (32 ∷ signed_decimal b.low) (32 ∷ signed_decimal b.high))).1)
      ]
      | inr never ↦ inr (λ b fits e. never b.topic (signed_decimal b.low ++ 32 ∷ signed_decimal b.high) fits.0 (e ∙ append_assoc b.topic (32 ∷ signed_decimal b.low) (32 ∷ signed_decimal b.high)))
    ]) line

pub high_count_found : (topic line : List ℕ) → Found (λ n. count_line (codes "high ") topic n) IsDocumentCount line
high_count_found topic line = numbers_found (λ n. count_line (codes "high ") topic n) IsDocumentCount 25000001 (λ n. at_most n 25000000) (λ n le. omega arith) line

pub level_found : (line : List ℕ) → Found (λ n. codes "level " ++ decimal n) IsLevel line
level_found line = numbers_found (λ n. codes "level " ++ decimal n) IsLevel 1001 (range_known 1000) (λ n fits. omega (arith, fits)) line

pub topics_found : (line : List ℕ) → Found (λ n. codes "topics " ++ decimal n) IsTopicCount line
topics_found line = numbers_found (λ n. codes "topics " ++ decimal n) IsTopicCount 10001 (range_known 10000) (λ n fits. omega (arith, fits)) line

pub claim_found : (line : List ℕ) → Found claim_line (λ _. Unit {0}) line
claim_found line = elim (same_list line (codes "claim above")) [
  | inl e ↦ inl (claimed.Above, tt, e)
  | inr above ↦ elim (same_list line (codes "claim equal")) [
    | inl e ↦ inl (claimed.Equal, tt, e)
    | inr equal ↦ elim (same_list line (codes "claim open")) [ inl e ↦ inl (claimed.Open, tt, e) | inr open_ ↦ inr (λ claim _. by above equal open_ claim) ]
  ]
]
  where
    by : line ≢ codes "claim above" → line ≢ codes "claim equal" → line ≢ codes "claim open" → (claim : Claim) → line ≢ claim_line claim
    by above equal open_ claimed.Above e = above e
    by above equal open_ claimed.Equal e = equal e
    by above equal open_ claimed.Open e = open_ e

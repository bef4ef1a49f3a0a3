-- The least case of recall lists the second run's own documents, and where the first run leads those that both or neither have.
use Rattle.std.proofs.Common.{◌≡◌, ℕ, zero, suc, ◌+◌, Bool, true, false, cond, not, nat_eq, nat_lt, ◌&&◌, ◌||◌, List, [], ◌∷◌, take, length, refl, ap, sym, ◌∙◌, arith}
use Rattle.std.specs.Prelude.{filter, if◌then◌else◌}
use Rattle.std.specs.List.{range_with_len}
use Rattle.std.proofs.Math.Bool.{and-false}
use Rattle.desk_model.specs.Completion.{with_picked}
use Rattle.desk_model.specs.Mark.{is_unjudged, mark_at}
use Rattle.desk_model.specs.Ranking.{is_in}
use Rattle.desk_model.specs.Score.{true_among}
use Rattle.desk_model.specs.declared.types.Mark.{Mark}
use Rattle.desk_model.specs.declared.types.MeasureName.TheVariants.{Recall}
use Rattle.measure_laws.specs.Cases.{recall_pick}
use Rattle.measure_laws.specs.Classes.{open_in}
use Rattle.measure_laws.specs.Prefixes.{only_second, neutral}
use Rattle.measure_core.specs.Lists.{first_neutral, least_documents, own_documents, times}
use Rattle.measure_core.proofs.Splitting.{added_class, all_taken, weigh_split}
use Rattle.measure_core.proofs.Tallying.{times-cons}
use Rattle.recall.specs.Led.{led_documents}

-- no document is the second run's own and one of those
parts : (u i j l : Bool) → cond {A = ℕ} (u && ((j && not i) || (l && (not (j && not i) && not (i && not j))))) 1 0 ≡ cond (u && (j && not i)) 1 0 + cond (u && (l && (not (j && not i) && not (i && not j)))) 1 0
parts false i j l = refl
parts true true true true = refl
parts true true true false = refl
parts true true false true = refl
parts true true false false = refl
parts true false true true = refl
parts true false true false = refl
parts true false false true = refl
parts true false false false = refl

filter_none : (p : ℕ → Bool) (low n : ℕ) → ((d : ℕ) → p d ≡ false) → filter p (range_with_len low n) ≡ []
filter_none p low zero h = refl
filter_none p low (suc n) h = ap (λ b. cond b (low ∷ filter p (range_with_len (low + 1) n)) (filter p (range_with_len (low + 1) n))) (h low) ∙ filter_none p (low + 1) n h

led_where : (k : ℕ) (marks : List Mark) (a b : List ℕ) (leads : Bool) → filter (λ d. is_unjudged (mark_at marks d) && (leads && neutral k a b d)) (range_with_len 0 (length marks)) ≡ (if leads then first_neutral k (length marks) marks a b else [])
led_where k marks a b true = sym (added_class marks (neutral k a b)) ∙ sym (all_taken marks (with_picked marks (neutral k a b)) (length marks) refl)
led_where k marks a b false = filter_none (λ d. is_unjudged (mark_at marks d) && false) 0 (length marks) (λ d. and-false (is_unjudged (mark_at marks d)))

module _ (weigh : List ℕ → ℕ) (one : ℕ → ℕ) (none : weigh [] ≡ 0) (more : (x : ℕ) (l : List ℕ) → weigh (x ∷ l) ≡ one x + weigh l) where
  pub own_and_led : (k : ℕ) (marks : List Mark) (a b : List ℕ) → weigh (least_documents (Recall k) marks a b) ≡ weigh (own_documents k marks a b) + weigh (led_documents k marks a b)
  own_and_led k marks a b =
      let n = length marks in
      let truth = with_picked marks (only_second k a b) in
      let leads = nat_lt (true_among truth k b) (true_among truth k a) in
      let led : ℕ → Bool = λ d. is_unjudged (mark_at marks d) && (leads && neutral k a b d) in
      omega (
        arith,
        ap weigh (added_class marks (recall_pick k marks a b)),
        weigh_split weigh one none more (open_in marks (recall_pick k marks a b)) (open_in marks (only_second k a b)) led 0 n (λ d from to. parts (is_unjudged (mark_at marks d)) (is_in (take k a) d) (is_in (take k b) d) leads),
        ap weigh (added_class marks (only_second k a b)),
        ap weigh (led_where k marks a b leads),
      )

-- so it is with how often they have a document, and with how many they are
pub least_times : (k : ℕ) (marks : List Mark) (a b : List ℕ) (d : ℕ) → times (least_documents (Recall k) marks a b) d ≡ times (own_documents k marks a b) d + times (led_documents k marks a b) d
least_times k marks a b d = own_and_led (λ l. times l d) (λ x. cond (nat_eq x d) 1 0) refl (λ x l. times-cons x l d) k marks a b

pub least_length : (k : ℕ) (marks : List Mark) (a b : List ℕ) → length (least_documents (Recall k) marks a b) ≡ length (own_documents k marks a b) + length (led_documents k marks a b)
least_length k marks a b = own_and_led (λ l. length l) (λ x. 1) refl (λ x l. omega arith) k marks a b

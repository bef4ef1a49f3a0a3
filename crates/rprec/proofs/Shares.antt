-- The greedy choice lists the first of the second run's own documents, and where these are too few some of the others.
use Rattle.std.proofs.Common.{◌≡◌, ℕ, ◌+◌, ◌-◌, Bool, true, false, cond, not, nat_eq, nat_lt, ◌&&◌, ◌||◌, List, [], ◌∷◌, take, length, refl, ap, sym, ◌∙◌, arith}
use Rattle.std.specs.Prelude.{filter}
use Rattle.std.specs.List.{range_with_len}
use Rattle.std.proofs.lemmas.List.{length-take}
use Rattle.desk_model.specs.Completion.{with_picked}
use Rattle.desk_model.specs.Mark.{is_unjudged, mark_at}
use Rattle.desk_model.specs.Ranking.{is_in}
use Rattle.desk_model.specs.declared.types.Mark.{Mark}
use Rattle.measure_laws.specs.Classes.{is_among_first, judged_count, open_in, size_of}
use Rattle.measure_laws.specs.Prefixes.{only_second, neutral}
use Rattle.measure_laws.specs.RprecCase.{greedy_truth}
use Rattle.measure_core.specs.Lists.{added_documents, first_neutral, own_documents, times}
use Rattle.measure_core.proofs.Splitting.{added_class, class_listed, weigh_both, weigh_split}
use Rattle.measure_core.proofs.Tallying.{times-cons}
use Rattle.rprec.specs.Picks.{others, picks}
use Rattle.rprec.specs.declared.values.Wanted.{Wanted}
use Rattle.rprec.proofs.Taken.{first_taken}
use Rattle.rprec.proofs.Walks.{picks_are}

-- no document is of two classes, by whether each run has it among its first ones
own_part : (u i j s n f : Bool) → cond {A = ℕ} (u && (((u && (j && not i)) && s) || (((u && (not (j && not i) && not (i && not j))) && n) || ((u && (i && not j)) && f)))) 1 0 ≡
    cond ((u && (j && not i)) && s) 1 0 + cond (((u && (not (j && not i) && not (i && not j))) && n) || ((u && (i && not j)) && f)) 1 0
own_part false i j s n f = refl
own_part true true true s true f = refl
own_part true true true s false f = refl
own_part true true false s n true = refl
own_part true true false s n false = refl
own_part true false true true n f = refl
own_part true false true false n f = refl
own_part true false false s true f = refl
own_part true false false s false f = refl

other_part : (u i j n f : Bool) → cond {A = ℕ} (((u && (not (j && not i) && not (i && not j))) && n) || ((u && (i && not j)) && f)) 1 0 ≡ cond ((u && (not (j && not i) && not (i && not j))) && n) 1 0 + cond ((u && (i && not j)) && f) 1 0
other_part false i j n f = refl
other_part true true true true f = refl
other_part true true true false f = refl
other_part true true false n true = refl
other_part true true false n false = refl
other_part true false true n f = refl
other_part true false false true f = refl
other_part true false false false f = refl

module _ (weigh : List ℕ → ℕ) (one : ℕ → ℕ) (none : weigh [] ≡ 0) (more : (x : ℕ) (l : List ℕ) → weigh (x ∷ l) ≡ one x + weigh l) where
  first_weigh : (marks : List Mark) (class : ℕ → Bool) (j : ℕ) → weigh (filter (is_among_first j (open_in marks class)) (range_with_len 0 (length marks))) ≡ weigh (take j (added_documents marks (with_picked marks class)))
  first_weigh marks class j = ap weigh (first_taken (open_in marks class) j (length marks)) ∙ ap (λ (l : List ℕ). weigh (take j l)) (sym (added_class marks class))

  wanted_weigh : (marks : List Mark) (a b : List ℕ) (r : ℕ) (w : Wanted) → weigh (added_documents marks (with_picked marks (picks w marks a b r))) ≡
      weigh (take w.second (own_documents r marks a b)) + (weigh (first_neutral r w.both marks a b) + weigh (take w.first (own_documents r marks b a)))
  wanted_weigh marks a b r w =
      let n = length marks in
      let own : ℕ → Bool = is_among_first w.second (open_in marks (only_second r a b)) in
      let both : ℕ → Bool = is_among_first w.both (open_in marks (neutral r a b)) in
      let first : ℕ → Bool = is_among_first w.first (open_in marks (only_second r b a)) in
      let rest : ℕ → Bool = λ d. both d || first d in
      let u : ℕ → Bool = λ d. is_unjudged (mark_at marks d) in
      let under : ℕ → ℕ → (ℕ → Bool) → Bool = λ d m class. nat_lt (size_of d (open_in marks class)) m in
      let i : ℕ → Bool = is_in (take r a) in
      let j : ℕ → Bool = is_in (take r b) in
      omega (
        arith,
        ap weigh (added_class marks (picks w marks a b r)),
        weigh_split weigh one none more (open_in marks (picks w marks a b r)) own rest 0 n (λ d from to. own_part (u d) (i d) (j d) (under d w.second (only_second r a b)) (under d w.both (neutral r a b)) (under d w.first (only_second r b a))),
        weigh_split weigh one none more rest both first 0 n (λ d from to. other_part (u d) (i d) (j d) (under d w.both (neutral r a b)) (under d w.first (only_second r b a))),
        first_weigh marks (only_second r a b) w.second,
        first_weigh marks (neutral r a b) w.both,
        first_weigh marks (only_second r b a) w.first,
      )

  pub chosen_and_others : (marks : List Mark) (a b : List ℕ) (r chosen : ℕ) → chosen ≡ r - judged_count marks →
      weigh (added_documents marks (greedy_truth marks a b r)) ≡ weigh (take chosen (own_documents r marks a b)) + weigh (others r (chosen - length (take chosen (own_documents r marks a b))) marks a b)
  chosen_and_others marks a b r chosen e =
      let own = own_documents r marks a b in
      let neutrals = added_documents marks (with_picked marks (neutral r a b)) in
      let wanted = chosen - length (take chosen own) in
      let size = size_of (length marks) (open_in marks (only_second r a b)) in
      let others_size = size_of (length marks) (open_in marks (neutral r a b)) in
      let w : Wanted = record { second = chosen; both = wanted; first = wanted - length (take wanted neutrals) } in
      let both : wanted ≡ r - judged_count marks - size = omega (arith, e, length-take chosen own, class_listed marks (only_second r a b)) in
      let first : wanted - length (take wanted neutrals) ≡ r - judged_count marks - size - others_size = omega (arith, both, length-take wanted neutrals, class_listed marks (neutral r a b)) in
      let greedy : weigh (added_documents marks (with_picked marks (picks w marks a b r))) ≡ weigh (added_documents marks (greedy_truth marks a b r)) = ap (λ (pick : ℕ → Bool). weigh (added_documents marks (with_picked marks pick))) (picks_are marks a b r w e both first) in
      omega (arith, greedy, wanted_weigh marks a b r w, weigh_both weigh one none more (take wanted neutrals) (take (wanted - length (take wanted neutrals)) (own_documents r marks b a)))

-- so it is with how often they have a document, and with how many they are
pub greedy_times : (marks : List Mark) (a b : List ℕ) (r chosen d : ℕ) → chosen ≡ r - judged_count marks →
    times (added_documents marks (greedy_truth marks a b r)) d ≡ times (take chosen (own_documents r marks a b)) d + times (others r (chosen - length (take chosen (own_documents r marks a b))) marks a b) d
greedy_times marks a b r chosen d e = chosen_and_others (λ l. times l d) (λ x. cond (nat_eq x d) 1 0) refl (λ x l. times-cons x l d) marks a b r chosen e

pub greedy_length : (marks : List Mark) (a b : List ℕ) (r chosen : ℕ) → chosen ≡ r - judged_count marks →
    length (added_documents marks (greedy_truth marks a b r)) ≡ length (take chosen (own_documents r marks a b)) + length (others r (chosen - length (take chosen (own_documents r marks a b))) marks a b)
greedy_length marks a b r chosen e = chosen_and_others (λ l. length l) (λ x. 1) refl (λ x l. omega arith) marks a b r chosen e

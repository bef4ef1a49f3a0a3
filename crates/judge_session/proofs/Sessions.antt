-- What the steps keep of a session.
use Rattle.std.proofs.Common.{◌≡◌, ℕ, suc, ◌+◌, ◌-◌, ◌<◌, ◌≤◌, List, [], ◌∷◌, true, false, Bool, Option, Some, length, get_or, refl, ap, ap₂, sym, subst, ◌∙◌, arith, cond, length-append}
use Rattle.std.proofs.Math.ListN.{set}
use Rattle.std.specs.Prelude.{not, ◌||◌, if◌then◌else◌, pos, ℤ}
use Rattle.desk_model.specs.Name.{is_same_name}
use Rattle.judge_session.specs.declared.change.Change.{Change}
use Rattle.judge_session.specs.declared.counts.ChangeCounts.{ChangeCounts}
use Rattle.judge_session.specs.Session.{is_live_by, is_undone_by, with_live, without_undone, judged, undone, redone}
use Rattle.judge_session.specs.Marking.{IsLastThat, IsFirstThat}
use Rattle.judge_session.specs.Tally.{changed_document, last_document, count_that, counted, counts_of, is_held, Tallies}
use Rattle.judge_session.specs.Kept.{IsKept}
use Rattle.judge_session.proofs.Names.{same, self_same}
use Rattle.judge_session.proofs.Undoing.{undone-at, redone-at}
use Rattle.judge_session.proofs.Turns.{turn-undone, turn-redone, turn-judged}
use Rattle.judge_session.proofs.Finding.{first_that-at}
use Rattle.judge_session.proofs.Owners.{live_counts, live_not_undone, live_is_by, undone_counts, undone_not_live, undone_is_by}
use Rattle.judge_session.proofs.Lasts.{last_document-append, last_document-judged, last_document-undone, last_document-redone, last_document-own_redone}
use Rattle.judge_session.proofs.Numbers.{one, count-push, count-set, count-within, count-some, live-without, undone-without, length-without}

-- a change of nobody
pub no_change : Change
no_change = record { who = []; topic = 0; doc = 0; grade = pos 0; live = false }

pub length-undone : (who : List ℕ) (xs : List Change) → length (undone who xs) ≡ length xs
length-undone who [] = refl
length-undone who (x ∷ xs) = ap suc (length-undone who xs)

pub length-redone : (who : List ℕ) (xs : List Change) → length (redone who xs) ≡ length xs
length-redone who [] = refl
length-redone who (x ∷ xs) = by (is_undone_by who x) (length-redone who xs)
  where
    by : (b : Bool) → length (redone who xs) ≡ length xs → length (if b then with_live true x ∷ xs else x ∷ redone who xs) ≡ length (x ∷ xs)
    by true h = refl
    by false h = ap suc h

same_counts : (a b : ChangeCounts) → a.live ≡ b.live → a.undone ≡ b.undone → a.last ≡ b.last → a ≡ b
same_counts a b e f g =
    ap₂ (λ (l u : ℕ). let made : ChangeCounts = record { live = l; undone = u; last = a.last } in made) e f
    ∙ ap (λ (o : Option (ℕ × ℕ)). let made : ChangeCounts = record { live = b.live; undone = b.undone; last = o } in made) g

-- a caller with changes is there
pub held : (who : List ℕ) (es : List (List ℕ × ChangeCounts)) → 0 < (counts_of who es).live + (counts_of who es).undone → is_held who es ≡ true
held who [] h = absurd (omega arith)
held who (e ∷ es) h = by (is_same_name who e.0) refl (held who es)
  where
    by : (b : Bool) → is_same_name who e.0 ≡ b → (0 < (counts_of who es).live + (counts_of who es).undone → is_held who es ≡ true) → (is_same_name who e.0 || is_held who es) ≡ true
    by true f rest = ap (λ b. b || is_held who es) f
    by false f rest = ap (λ b. b || is_held who es) f ∙ rest (subst (λ (c : ChangeCounts). 0 < c.live + c.undone) (ap (λ b. if b then e.1 else counts_of who es) f) h)

-- the counts of one caller changed, and so did the list
tally_step : (who q : List ℕ) (xs ys : List Change) (es fs : List (List ℕ × ChangeCounts)) (live undone : ℕ) (last : Option (ℕ × ℕ)) → Tallies es xs →
    counts_of q fs ≡ (if is_same_name who q then record { live = live; undone = undone; last = last } else counts_of q es) →
    (who ≡ q → (live ≡ count_that (is_live_by q) ys) × (undone ≡ count_that (is_undone_by q) ys) × (last ≡ last_document q ys)) →
    (is_same_name who q ≡ false → (count_that (is_live_by q) xs ≡ count_that (is_live_by q) ys) × (count_that (is_undone_by q) xs ≡ count_that (is_undone_by q) ys) × (last_document q xs ≡ last_document q ys)) →
    counts_of q fs ≡ counted q ys
tally_step who q xs ys es fs live undone last tallied now mine others = by (is_same_name who q) refl
  where
    by : (b : Bool) → is_same_name who q ≡ b → counts_of q fs ≡ counted q ys
    by true e =
        let parts = mine (same who q e) in
        now ∙ ap (λ b. if b then record { live = live; undone = undone; last = last } else counts_of q es) e ∙ same_counts (record { live = live; undone = undone; last = last }) (counted q ys) parts.0 parts.1 parts.2
    by false e =
        let parts = others e in
        now ∙ ap (λ b. if b then record { live = live; undone = undone; last = last } else counts_of q es) e ∙ tallied q ∙ same_counts (counted q xs) (counted q ys) parts.0 parts.1 parts.2

module _ (who : List ℕ) (xs : List Change) (es : List (List ℕ × ChangeCounts)) (kept : IsKept xs es) (i : ℕ) where
  live_is : (counts_of who es).live ≡ count_that (is_live_by who) xs
  live_is = ap (λ (c : ChangeCounts). c.live) (kept.tallied who)

  undone_is : (counts_of who es).undone ≡ count_that (is_undone_by who) xs
  undone_is = ap (λ (c : ChangeCounts). c.undone) (kept.tallied who)

  pub few_live : (counts_of who es).live ≤ 1000000
  few_live = omega (arith, live_is, count-within (is_live_by who) xs, kept.session.small)

  pub few_undone : (counts_of who es).undone ≤ 1000000
  few_undone = omega (arith, undone_is, count-within (is_undone_by who) xs, kept.session.small)

  pub undone_within : (counts_of who es).undone ≤ length xs
  undone_within = omega (arith, undone_is, count-within (is_undone_by who) xs)

  pub length_left : length (without_undone who xs) ≡ length xs - (counts_of who es).undone
  length_left = omega (arith, undone_is, length-without who xs)

  -- an undo
  module _ (last : IsLastThat (is_live_by who) xs i) where
    pub undone-set : (d : Change) → set xs i (with_live false (get_or xs i d)) ≡ undone who xs
    undone-set d = sym (undone-at who xs i d last.within (last.here d) last.after)

    pub some_live : 0 < (counts_of who es).live
    some_live = omega (arith, live_is, count-some (is_live_by who) xs i no_change last.within (last.here no_change))

    pub kept-undone : (fs : List (List ℕ × ChangeCounts)) (next : Option (ℕ × ℕ)) → next ≡ last_document who (undone who xs) → ((q : List ℕ) → counts_of q fs ≡ (if is_same_name who q then record { live = (counts_of who es).live - 1; undone = (counts_of who es).undone + 1; last = next } else counts_of q es)) → IsKept (undone who xs) fs
    kept-undone fs next found now = record {
      session = record { small = omega (arith, length-undone who xs, kept.session.small); in_turn = turn-undone who xs kept.session.in_turn };
      tallied = λ q.
          let x = get_or xs i no_change in
          let ys = set xs i (with_live false x) in
          let live : count_that (is_live_by q) ys + one (is_same_name who q) ≡ count_that (is_live_by q) xs + 0 =
          ap (λ b. count_that (is_live_by q) ys + one b) (sym (live_counts who q x (last.here no_change))) ∙ count-set (is_live_by q) xs i (with_live false x) no_change last.within in
          let dead : count_that (is_undone_by q) ys + 0 ≡ count_that (is_undone_by q) xs + one (is_same_name who q) =
          ap (λ b. count_that (is_undone_by q) ys + one b) (sym (live_not_undone who q x (last.here no_change))) ∙ count-set (is_undone_by q) xs i (with_live false x) no_change last.within
          ∙ ap (λ b. count_that (is_undone_by q) xs + one b) (live_is_by who q x (last.here no_change)) in
          tally_step who q xs ys es fs ((counts_of who es).live - 1) ((counts_of who es).undone + 1) next kept.tallied (now q)
          (λ e.
          let lived : (counts_of who es).live ≡ count_that (is_live_by q) xs = live_is ∙ ap (λ w. count_that (is_live_by w) xs) e in
          let died : (counts_of who es).undone ≡ count_that (is_undone_by q) xs = undone_is ∙ ap (λ w. count_that (is_undone_by w) xs) e in
          let me : one (is_same_name who q) ≡ 1 = ap (λ w. one (is_same_name who w)) (sym e) ∙ ap one (self_same who) in
          (omega (arith, live, lived, me), omega (arith, dead, died, me), found ∙ ap (λ w. last_document w (undone w xs)) e ∙ ap (λ w. last_document q (undone w xs)) (sym e) ∙ ap (last_document q) (sym (undone-set no_change))))
          (λ e.
          let me : one (is_same_name who q) ≡ 0 = ap one e in
          (omega (arith, live, me), omega (arith, dead, me), sym (last_document-undone who q e xs) ∙ ap (last_document q) (sym (undone-set no_change))))
          ∙ ap (counted q) (undone-set no_change);
    }

  -- a redo
  module _ (first : IsFirstThat (is_undone_by who) xs i) where
    pub redone-set : (d : Change) → set xs i (with_live true (get_or xs i d)) ≡ redone who xs
    redone-set d = sym (redone-at who xs i d first.within (first.here d) first.before)

    pub some_undone : 0 < (counts_of who es).undone
    some_undone = omega (arith, undone_is, count-some (is_undone_by who) xs i no_change first.within (first.here no_change))

    pub kept-redone : (fs : List (List ℕ × ChangeCounts)) → ((q : List ℕ) → counts_of q fs ≡ (if is_same_name who q then record { live = (counts_of who es).live + 1; undone = (counts_of who es).undone - 1; last = Some (changed_document (get_or xs i no_change)) } else counts_of q es)) → IsKept (redone who xs) fs
    kept-redone fs now = record {
      session = record { small = omega (arith, length-redone who xs, kept.session.small); in_turn = turn-redone who xs kept.session.in_turn };
      tallied = λ q.
          let y = get_or xs i no_change in
          let ys = set xs i (with_live true y) in
          let live : count_that (is_live_by q) ys + 0 ≡ count_that (is_live_by q) xs + one (is_same_name who q) =
          ap (λ b. count_that (is_live_by q) ys + one b) (sym (undone_not_live who q y (first.here no_change))) ∙ count-set (is_live_by q) xs i (with_live true y) no_change first.within
          ∙ ap (λ b. count_that (is_live_by q) xs + one b) (undone_is_by who q y (first.here no_change)) in
          let dead : count_that (is_undone_by q) ys + one (is_same_name who q) ≡ count_that (is_undone_by q) xs + 0 =
          ap (λ b. count_that (is_undone_by q) ys + one b) (sym (undone_counts who q y (first.here no_change))) ∙ count-set (is_undone_by q) xs i (with_live true y) no_change first.within in
          tally_step who q xs ys es fs ((counts_of who es).live + 1) ((counts_of who es).undone - 1) (Some (changed_document y)) kept.tallied (now q)
          (λ e.
          let lived : (counts_of who es).live ≡ count_that (is_live_by q) xs = live_is ∙ ap (λ w. count_that (is_live_by w) xs) e in
          let died : (counts_of who es).undone ≡ count_that (is_undone_by q) xs = undone_is ∙ ap (λ w. count_that (is_undone_by w) xs) e in
          let me : one (is_same_name who q) ≡ 1 = ap (λ w. one (is_same_name who w)) (sym e) ∙ ap one (self_same who) in
          let last : last_document who (redone who xs) ≡ Some (changed_document y) =
          last_document-own_redone who xs y (first_that-at (is_undone_by who) xs i no_change first) kept.session.in_turn in
          (omega (arith, live, lived, me), omega (arith, dead, died, me), sym last ∙ ap (λ w. last_document w (redone who xs)) e ∙ ap (last_document q) (sym (redone-set no_change))))
          (λ e.
          let me : one (is_same_name who q) ≡ 0 = ap one e in
          (omega (arith, live, me), omega (arith, dead, me), sym (last_document-redone who q e xs) ∙ ap (last_document q) (sym (redone-set no_change))))
          ∙ ap (counted q) (redone-set no_change);
    }

-- a caller without undone changes has none to drop
pub without-none : (who : List ℕ) (xs : List Change) → count_that (is_undone_by who) xs ≡ 0 → without_undone who xs ≡ xs
without-none who [] h = refl
without-none who (x ∷ xs) h = by (is_undone_by who x) h (without-none who xs)
  where
    by : (b : Bool) → one b + count_that (is_undone_by who) xs ≡ 0 → (count_that (is_undone_by who) xs ≡ 0 → without_undone who xs ≡ xs) → cond (not b) (x ∷ without_undone who xs) (without_undone who xs) ≡ x ∷ xs
    by true h rest = absurd (omega (arith, h))
    by false h rest = ap (λ ys. x ∷ ys) (rest (omega (arith, h)))

-- a judgement
pub kept-judged : (who : List ℕ) (topic doc : ℕ) (grade : ℤ) (xs : List Change) (es fs : List (List ℕ × ChangeCounts)) → IsKept xs es → length (without_undone who xs) < 1000000 →
    ((q : List ℕ) → counts_of q fs ≡ (if is_same_name who q then record { live = (counts_of who es).live + 1; undone = 0; last = Some (topic, doc) } else counts_of q es)) → IsKept (judged who topic doc grade xs) fs
kept-judged who topic doc grade xs es fs kept room now =
    let new : Change = record { who = who; topic = topic; doc = doc; grade = grade; live = true } in
    let ys = judged who topic doc grade xs in
    record {
      session = record {
        small = omega (arith, length-append (without_undone who xs) (new ∷ []), room);
        in_turn = turn-judged new xs kept.session.in_turn;
      };
      tallied = λ q.
          let live : count_that (is_live_by q) ys ≡ count_that (is_live_by q) xs + one (is_same_name who q) =
          count-push (is_live_by q) (without_undone who xs) new ∙ ap (λ n. n + one (is_same_name who q)) (live-without q who xs) in
          let dead : count_that (is_undone_by q) ys ≡ (if is_same_name who q then 0 else count_that (is_undone_by q) xs) + 0 =
          count-push (is_undone_by q) (without_undone who xs) new ∙ ap (λ n. n + 0) (undone-without q who xs) in
          tally_step who q xs ys es fs ((counts_of who es).live + 1) 0 (Some (topic, doc)) kept.tallied (now q)
          (λ e.
          let lived : (counts_of who es).live ≡ count_that (is_live_by q) xs = ap (λ (c : ChangeCounts). c.live) (kept.tallied who) ∙ ap (λ w. count_that (is_live_by w) xs) e in
          let me : is_same_name who q ≡ true = ap (λ w. is_same_name who w) (sym e) ∙ self_same who in
          let mine : one (is_same_name who q) ≡ 1 = ap one me in
          let gone : count_that (is_undone_by q) ys ≡ 0 = dead ∙ ap (λ b. (if b then 0 else count_that (is_undone_by q) xs) + 0) me in
          (omega (arith, live, lived, mine), sym gone, sym (last_document-append q (without_undone who xs) new me)))
          (λ e.
          let mine : one (is_same_name who q) ≡ 0 = ap one e in
          let stays : count_that (is_undone_by q) ys ≡ count_that (is_undone_by q) xs + 0 = dead ∙ ap (λ b. (if b then 0 else count_that (is_undone_by q) xs) + 0) e in
          (omega (arith, live, mine), omega (arith, stays), sym (last_document-judged who q e xs new e)));
    }

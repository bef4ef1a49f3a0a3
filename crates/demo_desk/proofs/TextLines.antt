-- Lines put one after another, and draws.
use Rattle.std.proofs.Common.{◌≡◌, ℕ, zero, suc, ◌+◌, ◌*◌, List, [], ◌∷◌, ◌++◌, map, refl, ap, sym, ◌∙◌, arith, append_assoc}
use Rattle.std.specs.Prelude.{flat_map, ◌%◌}
use Rattle.std.specs.List.{range_with_len}
use Rattle.std.proofs.lemmas.Grind.{flat_map-append}
use Rattle.std.proofs.lemmas.List.{append-nil}
use Rattle.desk_report.specs.Table.{ended}
use Rattle.demo_desk.specs.Draws.{next_state, state_after, value_of, drawn}
use Rattle.demo_desk.specs.Texts.{judgement_lines, topic_judgements, judgements_on, place_line, document_at, topic_places, places_on}
use Rattle.demo_desk.specs.declared.sizes.TheConstants.{DOCUMENTS}

-- ---- draws
-- one more
pub state_after-one : (x n : ℕ) → next_state (state_after x n) ≡ state_after x (n + 1)
unfolding state_after
state_after-one x n = let e : suc n ≡ n + 1 = omega arith in ap (state_after x) e

-- none
pub state_after-none : (x n : ℕ) → n ≡ 0 → x ≡ state_after x n
unfolding state_after
state_after-none x n e = sym (ap (state_after x) e)

-- draws after draws
pub state_after-add : (x m n : ℕ) → state_after (state_after x m) n ≡ state_after x (m + n)
unfolding state_after
state_after-add x m zero = let e : m ≡ m + 0 = omega arith in ap (state_after x) e
state_after-add x m (suc n) = let e : suc (m + n) ≡ m + suc n = omega arith in ap next_state (state_after-add x m n) ∙ ap (state_after x) e

-- so many draws for each, and one more of these
pub state_after-times : (x each n : ℕ) → state_after (state_after x (each * n)) each ≡ state_after x (each * (n + 1))
state_after-times x each n = let e : each * n + each ≡ each * (n + 1) = omega arith in state_after-add x (each * n) each ∙ ap (state_after x) e

-- the value of the next draw
pub next_drawn : (x n s value : ℕ) → s ≡ state_after x n → value ≡ value_of (next_state s) → value ≡ drawn x n
unfolding state_after
next_drawn x n s value e v = v ∙ ap (λ t. value_of (next_state t)) e

-- ---- lines
pub range_more : (a n : ℕ) → range_with_len a (n + 1) ≡ range_with_len a n ++ (a + n) ∷ []
range_more a n = let e : n + 1 ≡ suc n = omega arith in ap (range_with_len a) e ∙ by a n
  where
    by : (a n : ℕ) → range_with_len a (suc n) ≡ range_with_len a n ++ (a + n) ∷ []
    by a zero = let e : a ≡ a + 0 = omega arith in ap (λ k. k ∷ []) e
    by a (suc n) = let e : (a + 1) + n ≡ a + suc n = omega arith in ap (λ ks. a ∷ ks) (by (a + 1) n) ∙ ap (λ k. a ∷ (range_with_len (a + 1) n ++ k ∷ [])) e

-- the lines of one more
lines_more : (f : ℕ → List (List ℕ)) (n : ℕ) (o before now : List ℕ) → before ≡ o ++ flat_map ended (flat_map f (range_with_len 0 n)) → now ≡ before ++ flat_map ended (f n) →
    now ≡ o ++ flat_map ended (flat_map f (range_with_len 0 (n + 1)))
lines_more f n o before now h k =
    let all = flat_map f (range_with_len 0 n) in
    let one : flat_map f (range_with_len 0 (n + 1)) ≡ all ++ f n =
    let e : 0 + n ≡ n = omega arith in
    ap (flat_map f) (range_more 0 n) ∙ flat_map-append f (range_with_len 0 n) ((0 + n) ∷ []) ∙ ap (λ ls. all ++ ls) (append-nil (f (0 + n)) ∙ ap f e) in
    k ∙ ap (λ t. t ++ flat_map ended (f n)) h ∙ append_assoc o (flat_map ended all) (flat_map ended (f n)) ∙ ap (λ t. o ++ t) (sym (flat_map-append ended all (f n)) ∙ sym (ap (flat_map ended) one))

map_flat : (f : ℕ → List ℕ) (ks : List ℕ) → map f ks ≡ flat_map (λ k. f k ∷ []) ks
map_flat f [] = refl
map_flat f (k ∷ ks) = ap (λ ls. f k ∷ ls) (map_flat f ks)

-- the same where each has one line
line_more : (f : ℕ → List ℕ) (n : ℕ) (o before now : List ℕ) → before ≡ o ++ flat_map ended (map f (range_with_len 0 n)) → now ≡ before ++ ended (f n) →
    now ≡ o ++ flat_map ended (map f (range_with_len 0 (n + 1)))
line_more f n o before now h k =
    lines_more (λ m. f m ∷ []) n o before now (h ∙ ap (λ ls. o ++ flat_map ended ls) (map_flat f (range_with_len 0 n))) (k ∙ ap (λ t. before ++ t) (sym (append-nil (ended (f n)))))
    ∙ ap (λ ls. o ++ flat_map ended ls) (sym (map_flat f (range_with_len 0 (n + 1))))

-- ---- the lines of each text
pub no_judgements : (x topic : ℕ) (o : List ℕ) → o ≡ o ++ flat_map ended (topic_judgements x topic 0)
unfolding topic_judgements
no_judgements x topic o = sym (append-nil o)

pub no_topic_judgements : (x documents : ℕ) (o : List ℕ) → o ≡ o ++ flat_map ended (judgements_on x documents 0)
unfolding judgements_on
no_topic_judgements x documents o = sym (append-nil o)

pub no_places : (x run topic : ℕ) (o : List ℕ) → o ≡ o ++ flat_map ended (topic_places x run topic 0)
unfolding topic_places
no_places x run topic o = sym (append-nil o)

pub no_topic_places : (x run places : ℕ) (o : List ℕ) → o ≡ o ++ flat_map ended (places_on x run places 0)
unfolding places_on
no_topic_places x run places o = sym (append-nil o)

pub judgement_more : (x topic n value : ℕ) (o before now : List ℕ) → value ≡ drawn x n → before ≡ o ++ flat_map ended (topic_judgements x topic n) →
    now ≡ before ++ flat_map ended (judgement_lines topic n value) → now ≡ o ++ flat_map ended (topic_judgements x topic (n + 1))
unfolding topic_judgements
judgement_more x topic n value o before now v h k =
    lines_more (λ doc. judgement_lines topic doc (drawn x doc)) n o before now h (k ∙ ap (λ v. before ++ flat_map ended (judgement_lines topic n v)) v)

pub topic_judgements_more : (x documents n s : ℕ) (o before now : List ℕ) → s ≡ state_after x (documents * n) → before ≡ o ++ flat_map ended (judgements_on x documents n) →
    now ≡ before ++ flat_map ended (topic_judgements s n documents) → now ≡ o ++ flat_map ended (judgements_on x documents (n + 1))
unfolding judgements_on
topic_judgements_more x documents n s o before now e h k =
    lines_more (λ topic. topic_judgements (state_after x (documents * topic)) topic documents) n o before now h (k ∙ ap (λ t. before ++ flat_map ended (topic_judgements t n documents)) e)

pub place_more : (x run topic first n value : ℕ) (o before now : List ℕ) → first ≡ drawn x 0 % DOCUMENTS → value ≡ drawn x (1 + n) → before ≡ o ++ flat_map ended (topic_places x run topic n) →
    now ≡ before ++ ended (place_line run topic (document_at first n) n (value % 100000)) → now ≡ o ++ flat_map ended (topic_places x run topic (n + 1))
unfolding topic_places
place_more x run topic first n value o before now f v h k =
    line_more (λ place. place_line run topic (document_at (drawn x 0 % DOCUMENTS) place) place (drawn x (1 + place) % 100000)) n o before now h
    (k ∙ ap (λ d. before ++ ended (place_line run topic (document_at d n) n (value % 100000))) f ∙ ap (λ v. before ++ ended (place_line run topic (document_at (drawn x 0 % DOCUMENTS) n) n (v % 100000))) v)

pub topic_places_more : (x run places n s : ℕ) (o before now : List ℕ) → s ≡ state_after x ((1 + places) * n) → before ≡ o ++ flat_map ended (places_on x run places n) →
    now ≡ before ++ flat_map ended (topic_places s run n places) → now ≡ o ++ flat_map ended (places_on x run places (n + 1))
unfolding places_on
topic_places_more x run places n s o before now e h k =
    lines_more (λ topic. topic_places (state_after x ((1 + places) * topic)) run topic places) n o before now h (k ∙ ap (λ t. before ++ flat_map ended (topic_places t run n places)) e)

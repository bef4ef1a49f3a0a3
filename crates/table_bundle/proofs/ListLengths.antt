-- How long the lines of a topic's lists are, and of its picked documents.
use Rattle.std.proofs.Common.{◌≡◌, ℕ, zero, suc, ◌+◌, ◌*◌, ◌<◌, ◌≤◌, true, false, List, [], ◌∷◌, ◌++◌, length, map, take, Some, refl, ap, ap₂, sym, ◌∙◌, arith, length-append}
use Rattle.std.specs.Prelude.{codes, decimal, filter, flat_map, nat_lt, slice_get, slice_index}
use Rattle.std.specs.List.{AllByRecursion, range_with_len, sum, sum_by}
use Rattle.std.proofs.lemmas.Bool.Decides.{nat_tests}
use Rattle.std.proofs.lemmas.List.{length-map, map-append}
use Rattle.std.proofs.lemmas.List.Sums.{sum_by-append, sum_by-cons, sum_by_push}
use Rattle.desk_model.specs.Book.{Book}
use Rattle.desk_model.proofs.Nested.{take-there}
use Rattle.line_forms.specs.Places.{count_line}
use Rattle.order_certificate.specs.Certificate.{document_line}
use Rattle.measure_core.specs.Lists.{times}
use Rattle.order_bundle.specs.Bundle.{pick_line, picks_lines, topic_lines}
use Rattle.order_bundle.specs.Lengths.{text_length}
use Rattle.order_bundle.specs.declared.bundle.Picks.{Picks}
use Rattle.order_bundle.specs.declared.bundle.TopicNames.{TopicNames}
use Rattle.order_bundle.proofs.Counting.{more_lines, one_more_line}
use Rattle.pair_table.proofs.Zips.{all_in_range}
use Rattle.table_bundle.specs.Drafts.{names_where, places_where, replaced_list, replaced_picks}
use Rattle.table_bundle.specs.Lengths.{all_picks, both_lists, heads_length, is_counted, is_on, pick_share, picks_length_by, topic_length}
use Rattle.table_bundle.proofs.Choosing.{names_agree, place_at, places_agree, range_more}
use Rattle.table_bundle.proofs.Exchange.{exchanged, on_some_times, sum_by-same}

-- the line that picks a document by its place
abbrev pub line_at : List ℕ → ℕ → ℕ
line_at places doc = length (decimal (slice_index places doc)) + 6

module _ (places : List ℕ) where
  picks_text : (docs : List ℕ) → text_length (map pick_line (replaced_list places docs)) ≡ sum_by (line_at places) docs
  picks_text [] = refl
  picks_text (d ∷ docs) =
      let k = slice_index places d in
      omega (arith, one_more_line (pick_line k) (map pick_line (replaced_list places docs)), length-append (codes "pick ") (decimal k), picks_text docs, sum_by-cons (line_at places) d docs)

  list_text : (word docs : List ℕ) → text_length ((word ++ decimal (length (replaced_list places docs))) ∷ map pick_line (replaced_list places docs)) ≡ length word + length (decimal (length docs)) + 1 + sum_by (line_at places) docs
  list_text word docs =
      let many : length (decimal (length (replaced_list places docs))) ≡ length (decimal (length docs)) = ap (λ n. length (decimal n)) (length-map docs (λ d. slice_index places d)) in
      omega (arith, one_more_line (word ++ decimal (length (replaced_list places docs))) (map pick_line (replaced_list places docs)), length-append word (decimal (length (replaced_list places docs))), picks_text docs, many)

  both_text : (p : Picks) → text_length (picks_lines (replaced_picks (p, places))) ≡ heads_length p + sum_by (line_at places) (both_lists p)
  both_text p =
      let q = replaced_picks (p, places) in
      omega (arith, more_lines ((codes "low " ++ decimal (length q.low)) ∷ map pick_line q.low) ((codes "high " ++ decimal (length q.high)) ∷ map pick_line q.high), list_text (codes "low ") p.low, list_text (codes "high ") p.high, sum_by-append (line_at places) p.low p.high)

  -- all lists of a topic: the lines that begin them, and those of their picks
  pub lists_text : (lists : List Picks) → text_length (flat_map picks_lines (map (λ (p : Picks). replaced_picks (p, places)) lists)) ≡ sum_by heads_length lists + sum_by (line_at places) (all_picks lists)
  lists_text [] = refl
  lists_text (p ∷ lists) =
      omega (arith, more_lines (picks_lines (replaced_picks (p, places))) (flat_map picks_lines (map (λ (x : Picks). replaced_picks (x, places)) lists)), both_text p, lists_text lists, sum_by-cons heads_length p lists, sum_by-append (line_at places) (both_lists p) (all_picks lists))

-- the lines of a topic by how often its lists pick each document
pub topic_counted : (book : Book) (lists : List Picks) (counts : List ℕ) → length counts ≡ length book.docs → ((d : ℕ) → d < length counts → slice_index counts d ≡ times (all_picks lists) d) → AllByRecursion (λ d. d < length counts) (all_picks lists) →
    sum_by heads_length lists + text_length (topic_lines (record { topic = book.name; docs = names_where (is_counted counts) book.docs })) + picks_length_by counts ≡ topic_length book lists
topic_counted book lists counts size counted below =
    let n = length book.docs in
    let same : (d : ℕ) → d < n → is_counted counts d ≡ is_on lists d = λ d lt. ap (nat_lt 0) (counted d (omega (arith, lt, size))) ∙ sym (on_some_times lists d) in
    let names : names_where (is_counted counts) book.docs ≡ names_where (is_on lists) book.docs = names_agree (is_counted counts) (is_on lists) book.docs same in
    let places : places_where (is_counted counts) n ≡ places_where (is_on lists) n = places_agree (is_counted counts) (is_on lists) n same in
    let share : (d : ℕ) → 0 ≤ d → d < 0 + length counts → pick_share counts d ≡ times (all_picks lists) d * line_at (places_where (is_counted counts) n) d = λ d from to.
    let lt : d < length counts = omega (arith, to) in
    ap₂ (λ (a b : ℕ). a * (length (decimal b) + 6)) (counted d lt) (sym (place_at (is_counted counts) book.docs d (omega (arith, lt, size)))) in
    let picks : picks_length_by counts ≡ sum_by (line_at (places_where (is_on lists) n)) (all_picks lists) =
    sum_by-same (pick_share counts) (λ d. times (all_picks lists) d * line_at (places_where (is_counted counts) n) d) (range_with_len 0 (length counts)) (all_in_range (λ d. pick_share counts d ≡ times (all_picks lists) d * line_at (places_where (is_counted counts) n) d) 0 (length counts) share)
    ∙ exchanged (line_at (places_where (is_counted counts) n)) (length counts) (all_picks lists) below
    ∙ ap (λ ps. sum_by (line_at ps) (all_picks lists)) places in
    let documents : text_length (topic_lines (record { topic = book.name; docs = names_where (is_counted counts) book.docs })) ≡ text_length (topic_lines (record { topic = book.name; docs = names_where (is_on lists) book.docs })) =
    ap (λ ds. text_length (topic_lines (record { topic = book.name; docs = ds }))) names in
    omega (arith, documents, picks, lists_text (places_where (is_on lists) n) lists)

-- ---- one more document, and one more topic
pub document_more : (names : List (List ℕ)) (name : List ℕ) → text_length (map document_line (names ++ name ∷ [])) ≡ text_length (map document_line names) + (length name + 5)
document_more names name =
    omega (arith, ap text_length (map-append document_line names (name ∷ [])), more_lines (map document_line names) (document_line name ∷ []), one_more_line (document_line name) [], length-append (codes "doc ") name)

pub topic_head : (t : TopicNames) → text_length (topic_lines t) ≡ text_length (map document_line t.docs) + length t.topic + length (decimal (length t.docs)) + 8
topic_head t =
    omega (arith, one_more_line (count_line (codes "topic ") t.topic (length t.docs)) (map document_line t.docs), length-append (codes "topic ") (t.topic ++ 32 ∷ decimal (length t.docs)), length-append t.topic (32 ∷ decimal (length t.docs)))

pub pick_more : (counts : List ℕ) (i : ℕ) → sum_by (pick_share counts) (range_with_len 0 (i + 1)) ≡ sum_by (pick_share counts) (range_with_len 0 i) + pick_share counts i
pick_more counts i = ap (sum_by (pick_share counts)) (range_more i) ∙ sum_by_push (pick_share counts) (range_with_len 0 i) i

pub sum_more : (xs : List ℕ) (t n : ℕ) → slice_get xs t ≡ Some n → sum (take (t + 1) xs) ≡ sum (take t xs) + n
sum_more xs t n at = ap sum (take-there xs t n at) ∙ sum_by_push (λ x. x) (take t xs) n

-- ---- a count of a document, and none
pub some_count : (n : ℕ) → 0 < n → nat_lt 0 n ≡ true
some_count zero h = absurd (omega arith)
some_count (suc n) h = grind (arith, nat_tests)

pub no_count : (n : ℕ) → n ≤ 0 → nat_lt 0 n ≡ false
no_count zero h = refl
no_count (suc n) h = absurd (omega arith)

pub no_share : (counts : List ℕ) (i : ℕ) → slice_index counts i ≤ 0 → pick_share counts i ≡ 0
no_share counts i h =
    let none : slice_index counts i ≡ 0 = omega arith in
    ap (λ (n : ℕ). n * (length (decimal (length (filter (is_counted counts) (range_with_len 0 i)))) + 6)) none ∙ omega arith

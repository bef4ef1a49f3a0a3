-- A line of a run says its row.
use Rattle.std.proofs.Common.{◌≡◌, ℕ, ◌<◌, ◌≤◌, List, [], ◌∷◌, ◌++◌, length, get_or, true, false, refl, ap, ap₂, sym, ◌∙◌, arith, ℤ, pos, append_assoc, length-append}
use Rattle.std.specs.Prelude.{Bool, not, ◌&&◌, ◌||◌, ◌==◌, nat_le, codes, decimal, Result, Ok, Err}
use Rattle.std.specs.List.{list_any, list_all}
use Rattle.std.specs.Result.{result_map_both}
use Rattle.std.proofs.lemmas.Bool.{and_parts, le-ltb}
use Rattle.std.proofs.lemmas.Fmt.{length-decimal-le}
use Rattle.std.proofs.lemmas.List.Folds.{list_any-append}
use Rattle.desk_text.specs.Lines.{is_separator, is_bad, is_blank, fields_of}
use Rattle.desk_text.specs.declared.line.TheConstants.{LONGEST_LINE}
use Rattle.desk_model.specs.Name.{is_name, is_field_byte}
use Rattle.desk_text.specs.Reading.{score_of}
use Rattle.file_rows.specs.Reading.{field, is_long, and_then, checked}
use Rattle.file_rows.specs.Rows.{Row}
use Rattle.run_reader.specs.Rows.{line_fault, row_of, tag_of, form_faults, formed}
use Rattle.qrels_round_trip.proofs.Line.{passes}
use Rattle.desk_model.proofs.Words.{name_most}
use Rattle.qrels_round_trip.proofs.Words.{word_good}
use Rattle.demo_desk.proofs.NameWords.{IsFieldWord, word_of_name, decimal_word, first_field, last_field, field_no_separator}
use Rattle.demo_desk.specs.Texts.{topic_text, document_text, score_text, tag_text, place_line}
use Rattle.demo_desk.proofs.Names.{document_name, document_length, topic_name, tag_name}
use Rattle.demo_desk.proofs.Scores.{score_word, score_short, score_read}

-- the value of a score that is a score
abbrev pub value_or : {F : Type 0} → Result ℤ F → ℤ
value_or (Ok z) = z
value_or (Err f) = pos 0

abbrev pub score_value : ℕ → ℤ
score_value s = value_or (score_of (score_text s))

value_is : (s : ℕ) → s < 100000 → score_of (score_text s) ≡ Ok (score_value s)
value_is s h = let made = score_read s h in made.1 ∙ ap Ok (sym (ap value_or made.1))

-- a line says a row
pub record Says (line : List ℕ) (row : Row) : Type 0 where
  pub blank : is_blank line ≡ false
  pub good : list_any is_bad line ≡ false
  pub form : formed line ≡ Ok row

-- the row of a place
abbrev pub row_at : ℕ → ℕ → ℕ → Row
row_at topic doc score = record { topic = topic_text topic; document = document_text doc; value = score_value score }

module _ (run topic doc place score : ℕ) (hr : run < 8) (ht : topic < 50) (hd : doc < 10000) (hp : place < 1000) (hs : score < 100000) where
  abbrev line : List ℕ
  line = place_line run topic doc place score

  abbrev t : List ℕ
  t = topic_text topic

  abbrev d : List ℕ
  d = document_text doc

  abbrev p : List ℕ
  p = decimal place

  abbrev s : List ℕ
  s = score_text score

  abbrev g : List ℕ
  g = tag_text run

  t_word : IsFieldWord t
  t_word = word_of_name t (topic_name topic ht)

  q_word : IsFieldWord (codes "Q0")
  q_word = record { filled = omega arith; bytes = refl }

  d_word : IsFieldWord d
  d_word = word_of_name d (document_name doc hd)

  p_word : IsFieldWord p
  p_word = decimal_word place (omega arith)

  s_word : IsFieldWord s
  s_word = score_word score hs

  g_word : IsFieldWord g
  g_word = word_of_name g (tag_name run hr)

  -- the parts, each after a space
  parted : line ≡ t ++ 32 ∷ (codes "Q0" ++ 32 ∷ (d ++ 32 ∷ (p ++ 32 ∷ (s ++ 32 ∷ g))))
  parted = simp append_assoc

  pub line_fields : fields_of line ≡ t ∷ codes "Q0" ∷ d ∷ p ∷ s ∷ g ∷ []
  line_fields =
      ap fields_of parted ∙ first_field t (codes "Q0" ++ 32 ∷ (d ++ 32 ∷ (p ++ 32 ∷ (s ++ 32 ∷ g)))) t_word
      ∙ ap (λ fs. t ∷ fs) (first_field (codes "Q0") (d ++ 32 ∷ (p ++ 32 ∷ (s ++ 32 ∷ g))) q_word
      ∙ ap (λ fs. codes "Q0" ∷ fs) (first_field d (p ++ 32 ∷ (s ++ 32 ∷ g)) d_word
      ∙ ap (λ fs. d ∷ fs) (first_field p (s ++ 32 ∷ g) p_word
      ∙ ap (λ fs. p ∷ fs) (first_field s g s_word
      ∙ ap (λ fs. s ∷ fs) (last_field g g_word)))))

  good_after : (v w : List ℕ) → list_any is_bad v ≡ false → list_any is_bad w ≡ false → list_any is_bad (v ++ 32 ∷ w) ≡ false
  good_after v w a b = list_any-append is_bad v (32 ∷ w) ∙ ap₂ (λ a b. a || b) a b

  line_good : list_any is_bad line ≡ false
  line_good =
      ap (list_any is_bad) parted
      ∙ good_after t (codes "Q0" ++ 32 ∷ (d ++ 32 ∷ (p ++ 32 ∷ (s ++ 32 ∷ g)))) (word_good t t_word.bytes)
      (good_after (codes "Q0") (d ++ 32 ∷ (p ++ 32 ∷ (s ++ 32 ∷ g))) refl
      (good_after d (p ++ 32 ∷ (s ++ 32 ∷ g)) (word_good d d_word.bytes)
      (good_after p (s ++ 32 ∷ g) (word_good p p_word.bytes)
      (good_after s g (word_good s s_word.bytes) (word_good g g_word.bytes)))))

  line_short : length line ≤ LONGEST_LINE
  line_short =
      let lt = name_most t (topic_name topic ht) in
      let ld = document_length doc hd in
      let lp = length-decimal-le 3 place (omega arith) (omega arith) (omega arith) in
      let ls = score_short score hs in
      let lg = name_most g (tag_name run hr) in
      omega (
        arith,
        ap length parted,
        length-append t (32 ∷ (codes "Q0" ++ 32 ∷ (d ++ 32 ∷ (p ++ 32 ∷ (s ++ 32 ∷ g))))),
        length-append d (32 ∷ (p ++ 32 ∷ (s ++ 32 ∷ g))),
        length-append p (32 ∷ (s ++ 32 ∷ g)),
        length-append s (32 ∷ g),
        lt,
        ld,
        lp,
        ls,
        lg,
      )

  starts : (w rest : List ℕ) → IsFieldWord w → list_all is_separator (w ++ rest) ≡ false
  starts [] rest some = absurd (let none = some.filled in omega arith)
  starts (b ∷ bs) rest some = ap (λ t. t && list_all is_separator (bs ++ rest)) (field_no_separator b (and_parts (is_field_byte b) (list_all is_field_byte bs) some.bytes).0)

  pub line_not_blank : is_blank line ≡ false
  line_not_blank =
      ap (λ b. nat_le (length line) LONGEST_LINE && b) (ap (list_all is_separator) parted ∙ starts t (32 ∷ (codes "Q0" ++ 32 ∷ (d ++ 32 ∷ (p ++ 32 ∷ (s ++ 32 ∷ g))))) t_word)
      ∙ by (nat_le (length line) LONGEST_LINE)
    where
      by : (b : Bool) → (b && false) ≡ false
      by true = refl
      by false = refl

  field_is : (i : ℕ) → field line i ≡ get_or (t ∷ codes "Q0" ∷ d ∷ p ∷ s ∷ g ∷ []) i []
  field_is i = ap (λ fs. get_or fs i []) line_fields

  short_name : (name : List ℕ) → is_name name ≡ true → is_long name ≡ false
  short_name name named = le-ltb 255 (length name) (name_most name named)

  pub tag_is : tag_of line ≡ g
  tag_is = field_is 5

  form_right : checked (form_faults line) ≡ Ok (tt {0})
  form_right =
      let count : (not (length (fields_of line) == 6)) ≡ false = ap (λ fs. not (length fs == 6)) line_fields in
      let a : is_long (field line 0) ≡ false = ap is_long (field_is 0) ∙ short_name t (topic_name topic ht) in
      let b : is_long (field line 2) ≡ false = ap is_long (field_is 2) ∙ short_name d (document_name doc hd) in
      let c : is_long (tag_of line) ≡ false = ap is_long (field_is 5) ∙ short_name g (tag_name run hr) in
      passes (form_faults line) (tt {0}) (le-ltb LONGEST_LINE (length line) line_short, (line_good, (count, (ap₂ (λ x y. x || y) a (ap₂ (λ x y. x || y) b c), tt))))

  row_is : row_of line ≡ Ok (row_at topic doc score)
  row_is =
      (λ i. result_map_both (λ score. record { topic = field_is 0 i; document = field_is 2 i; value = score }) line_fault (score_of (field_is 4 i)))
      ∙ ap (result_map_both (λ score. record { topic = t; document = d; value = score }) line_fault) (value_is score hs)

  pub line_says : Says line (row_at topic doc score)
  line_says = record {
    blank = line_not_blank;
    good = line_good;
    form = ap (λ r. and_then r (λ done. row_of line)) form_right ∙ row_is;
  }

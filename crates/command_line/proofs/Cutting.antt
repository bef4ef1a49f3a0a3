-- Words that clap takes are those of parts.
use Rattle.std.proofs.Common.{◌≡◌, ℕ, zero, suc, Bool, true, false, List, [], ◌∷◌, ◌++◌, refl, ap, sym, subst, ◌∙◌, arith, inl, inr}
use Rattle.std.specs.Prelude.{Option, Some, None, ◌⊎◌, ◌==◌, All, Contains}
use Rattle.std.specs.Str.{IsUtf8}
use Rattle.std.proofs.lemmas.Bool.Decides.{nat_tests}
use Rattle.std.proofs.lemmas.List.Elements.{All-head, All-tail}
use Rattle.clap.specs.Words.{Text, fault_of}
use Rattle.clap.specs.Lexer.{name_and_value}
use Rattle.clap.specs.Walk.{arg_by_long}
use Rattle.clap.proofs.CutLemmas.{Lacks}
use Rattle.clap.proofs.LexerLemmas.{name_and_value-at, name_and_value-without}
use Rattle.command_line.specs.Takes.{Takes, options, IsSound}
use Rattle.command_line.specs.Parser.{app_for}
use Rattle.command_line.specs.Parts.{Part, spaced, joined, flag, alone, is_dashed, line_of, AreParts}
use Rattle.command_line.specs.Laws.{AreWordsOf, IsTaken}
use Rattle.command_line.proofs.Rows.{reads_of, shape_for}
use Rattle.command_line.proofs.Walks.{dashed_bytes}
use Rattle.command_line.proofs.Refusals.{missing_refused, short_refused, unknown_refused, valued_refused}

-- ---- the text after `--`, cut at its first `=`
record HasValue (text : Text) : Type 0 where
  name : Text
  value : Text
  cut : text ≡ name ++ 61 ∷ value
  first : Lacks 61 name

lacks_more : (c : ℕ) (cs : Text) → (c == 61) ≡ false → Lacks 61 cs → Lacks 61 (c ∷ cs)
lacks_more c cs other none zero lt e = grind (arith, nat_tests)
lacks_more c cs other none (suc i) lt e = none i (omega arith) e

cut_at_equals : (text : Text) → HasValue text ⊎ Lacks 61 text
cut_at_equals [] = inr (λ i lt. absurd (omega arith))
cut_at_equals (c ∷ cs) = by_first (c == 61) refl (cut_at_equals cs)
  where
    by_first : (b : Bool) → (c == 61) ≡ b → HasValue cs ⊎ Lacks 61 cs → HasValue (c ∷ cs) ⊎ Lacks 61 (c ∷ cs)
    by_first true e later = let same : c ≡ 61 = grind (arith, nat_tests) in inl (record { name = []; value = cs; cut = ap (λ x. x ∷ cs) same; first = λ i lt. absurd (omega arith) })
    by_first false e (inl v) = inl (record { name = c ∷ v.name; value = v.value; cut = ap (λ xs. c ∷ xs) v.cut; first = lacks_more c v.name e v.first })
    by_first false e (inr none) = inr (lacks_more c cs e none)

-- ---- one part more
line_more : (parts : List Part) (p : Part) (rest : List Text) → line_of (parts ++ p ∷ []) ++ rest ≡ line_of parts ++ (line_of (p ∷ []) ++ rest)
line_more [] p rest = refl
line_more (spaced n v ∷ parts) p rest = ap (λ ws. (45 ∷ 45 ∷ n) ∷ v ∷ ws) (line_more parts p rest)
line_more (joined n v ∷ parts) p rest = ap (λ ws. (45 ∷ 45 ∷ (n ++ 61 ∷ v)) ∷ ws) (line_more parts p rest)
line_more (flag n ∷ parts) p rest = ap (λ ws. (45 ∷ 45 ∷ n) ∷ ws) (line_more parts p rest)
line_more (alone word ∷ parts) p rest = ap (λ ws. word ∷ ws) (line_more parts p rest)

parts_more : (t : Takes) (parts : List Part) (p : Part) → AreParts t parts → AreParts t (p ∷ []) → AreParts t (parts ++ p ∷ [])
parts_more t [] p are one = one
parts_more t (spaced n v ∷ parts) p are one = (are.0, are.1, parts_more t parts p are.2 one)
parts_more t (joined n v ∷ parts) p are one = (are.0, parts_more t parts p are.1 one)
parts_more t (flag n ∷ parts) p are one = (are.0, parts_more t parts p are.1 one)
parts_more t (alone word ∷ parts) p are one = (are.0, parts_more t parts p are.1 one)

module _ (t : Takes) (sound : IsSound t) where
  AreAccepted : List Text → Type 0
  AreAccepted words = fault_of (app_for t) words ≡ []

  -- words after parts are those of parts
  Goes : List Text → Type 0
  Goes rest = (done : List Part) → AreParts t done → All IsUtf8 rest → AreAccepted (line_of done ++ rest) → AreWordsOf t (line_of done ++ rest)

  Beyond : List Text → Type 0
  Beyond rest = (next : Text) (more : List Text) → rest ≡ next ∷ more → Goes more

  one_more : (p : Part) (rest whole : List Text) → Goes rest → AreParts t (p ∷ []) → whole ≡ line_of (p ∷ []) ++ rest → All IsUtf8 rest
      → (done : List Part) → AreParts t done → AreAccepted (line_of done ++ whole) → AreWordsOf t (line_of done ++ whole)
  unfolding Goes
  one_more p rest whole goes one e texts done are got =
      let same : line_of done ++ whole ≡ line_of (done ++ p ∷ []) ++ rest = ap (λ ws. line_of done ++ ws) e ∙ sym (line_more done p rest) in
      subst (AreWordsOf t) (sym same) (goes (done ++ p ∷ []) (parts_more t done p are one) texts (subst AreAccepted same got))

  unknown : (x : ℕ) (xs name : Text) (value : Option Text) (rest : List Text) → name_and_value (x ∷ xs) ≡ (name, value) → arg_by_long (shape_for t).rules name ≡ None
      → (done : List Part) → AreParts t done → AreAccepted (line_of done ++ (45 ∷ 45 ∷ x ∷ xs) ∷ rest) → ⊥
  unfolding AreAccepted
  unknown x xs name value rest cut none done are got = unknown_refused t sound done (45 ∷ 45 ∷ x ∷ xs) name value rest are (ap Some cut) refl none got

  -- an option and the next word
  option_goes : (name : Text) (rest : List Text) → Contains (options t) name → Beyond rest → Goes ((45 ∷ 45 ∷ name) ∷ rest)
  unfolding Goes Beyond AreAccepted
  option_goes name [] known beyond done are texts got = absurd (missing_refused t sound done name [] are known tt got)
  option_goes name (next ∷ more) known beyond done are texts got = by_dash (is_dashed next) refl
    where
      later : All IsUtf8 (next ∷ more)
      later = All-tail IsUtf8 (45 ∷ 45 ∷ name) (next ∷ more) texts

      by_dash : (b : Bool) → is_dashed next ≡ b → AreWordsOf t (line_of done ++ (45 ∷ 45 ∷ name) ∷ next ∷ more)
      by_dash true d = absurd (missing_refused t sound done name (next ∷ more) are known (inr (d, All-head IsUtf8 next more later)) got)
      by_dash false d = one_more (spaced name next) more ((45 ∷ 45 ∷ name) ∷ next ∷ more) (beyond next more refl) (known, d, tt) refl (All-tail IsUtf8 next more later) done are got

  -- a word that begins with `--`
  long_goes : (xs : Text) (rest : List Text) → Goes rest → Beyond rest → Goes ((45 ∷ 45 ∷ xs) ∷ rest)
  unfolding Goes AreAccepted
  long_goes [] rest goes beyond done are texts got = record { parts = done; end = Some rest; are_parts = are; line = refl }
  long_goes (x ∷ xs) rest goes beyond done are texts got = by_cut (cut_at_equals (x ∷ xs))
    where
      later : All IsUtf8 rest
      later = All-tail IsUtf8 (45 ∷ 45 ∷ x ∷ xs) rest texts

      valued : (v : HasValue (x ∷ xs)) → ((arg_by_long (shape_for t).rules v.name ≡ None) ⊎ IsTaken t v.name) → AreWordsOf t (line_of done ++ (45 ∷ 45 ∷ x ∷ xs) ∷ rest)
      valued v (inl none) = absurd (unknown x xs v.name (Some v.value) rest (ap name_and_value v.cut ∙ name_and_value-at v.name v.value v.first) none done are got)
      valued v (inr (inl option)) = one_more (joined v.name v.value) rest ((45 ∷ 45 ∷ x ∷ xs) ∷ rest) goes (option, tt) (ap (λ ys. (45 ∷ 45 ∷ ys) ∷ rest) v.cut) later done are got
      valued v (inr (inr known)) = absurd (valued_refused t sound done v.name v.value rest are known (subst (λ ys. AreAccepted (line_of done ++ (45 ∷ 45 ∷ ys) ∷ rest)) v.cut got))

      plain : Lacks 61 (x ∷ xs) → ((arg_by_long (shape_for t).rules (x ∷ xs) ≡ None) ⊎ IsTaken t (x ∷ xs)) → AreWordsOf t (line_of done ++ (45 ∷ 45 ∷ x ∷ xs) ∷ rest)
      plain none_equals (inl none) = absurd (unknown x xs (x ∷ xs) None rest (name_and_value-without (x ∷ xs) none_equals) none done are got)
      plain none_equals (inr (inl option)) = option_goes (x ∷ xs) rest option beyond done are texts got
      plain none_equals (inr (inr known)) = one_more (flag (x ∷ xs)) rest ((45 ∷ 45 ∷ x ∷ xs) ∷ rest) goes (known, tt) refl later done are got

      by_cut : HasValue (x ∷ xs) ⊎ Lacks 61 (x ∷ xs) → AreWordsOf t (line_of done ++ (45 ∷ 45 ∷ x ∷ xs) ∷ rest)
      by_cut (inl v) = valued v ((reads_of t sound).named v.name)
      by_cut (inr none_equals) = plain none_equals ((reads_of t sound).named (x ∷ xs))

  word_goes : (word : Text) (rest : List Text) → Goes rest → Beyond rest → Goes (word ∷ rest)
  unfolding Goes AreAccepted
  word_goes word rest goes beyond done are texts got = by_dash (is_dashed word) refl
    where
      by_second : (x : ℕ) (xs : Text) → word ≡ 45 ∷ x ∷ xs → (b : Bool) → (x == 45) ≡ b → AreWordsOf t (line_of done ++ word ∷ rest)
      by_second x xs e true d =
          let two : x ≡ 45 = grind (arith, nat_tests) in
          let same : word ≡ 45 ∷ 45 ∷ xs = e ∙ ap (λ y. 45 ∷ y ∷ xs) two in
          subst (λ w. AreWordsOf t (line_of done ++ w ∷ rest)) (sym same) (long_goes xs rest goes beyond done are (subst (λ w. All IsUtf8 (w ∷ rest)) same texts) (subst (λ w. AreAccepted (line_of done ++ w ∷ rest)) same got))
      by_second x xs e false d = absurd (short_refused t sound done x xs rest are d (subst IsUtf8 e (All-head IsUtf8 word rest texts)) (subst (λ w. AreAccepted (line_of done ++ w ∷ rest)) e got))

      by_dash : (b : Bool) → is_dashed word ≡ b → AreWordsOf t (line_of done ++ word ∷ rest)
      by_dash true d = let bytes = dashed_bytes word d in by_second bytes.0 bytes.1 bytes.2 (bytes.0 == 45) refl
      by_dash false d = one_more (alone word) rest (word ∷ rest) goes (d, tt) refl (All-tail IsUtf8 word rest texts) done are got

  cut : (rest : List Text) → Goes rest
  unfolding Goes Beyond
  cut [] = λ done are texts got. record { parts = done; end = None; are_parts = are; line = refl }
  cut (word ∷ []) = word_goes word [] (cut []) (λ next more e. absurd (cc))
  cut (word ∷ next ∷ rest) = word_goes word (next ∷ rest) (cut (next ∷ rest)) (λ next' more e. let same : rest ≡ more = cc in subst Goes same (cut rest))

  pub words_of_parts : (words : List Text) → All IsUtf8 words → fault_of (app_for t) words ≡ [] → AreWordsOf t words
  unfolding Goes AreAccepted
  words_of_parts words texts got = cut words [] tt texts got

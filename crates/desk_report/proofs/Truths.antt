-- What was received of a printed text is true.
use Rattle.std.proofs.Common.{◌≡◌, ℕ, zero, suc, List, [], ◌∷◌, ◌++◌, take, drop, get_or, refl, ap, sym, subst, ◌∙◌, arith, ◌*◌, length, append-nil, append_assoc, Option, Some, None, inl, inr, rules, ℤ, pos}
use Rattle.std.specs.Prelude.{All, codes, decimal, flat_map, slice_index_or}
use Rattle.std.specs.List.{AllByRecursion}
use Rattle.std.proofs.lemmas.List.{take-append-drop}
use Rattle.desk_model.specs.Desk.{Desk}
use Rattle.desk_model.specs.Verdict.{verdict, IsExactVerdict}
use Rattle.desk_model.specs.declared.types.Mark.{Mark}
use Rattle.desk_model.specs.declared.types.MeasureName.{MeasureName}
use Rattle.desk_model.specs.declared.types.MeasureName.TheVariants.{Precision}
use Rattle.desk_model.specs.declared.types.Totals.{Totals}
use Rattle.desk_model.specs.Named.{book_at, name_at}
use Rattle.desk_report.specs.Close.{close_line}
use Rattle.desk_report.specs.Judging.{next_line}
use Rattle.desk_report.specs.Table.{pair_line, table_text, table_lines, ended}
use Rattle.desk_model.specs.MeasureText.{IsMeasure}
use Rattle.order_bundle.specs.Either.{AnyClaimHolds, AnyEvidenceImpliesClaims, any_measure}
use Rattle.order_bundle.specs.Places.{IsAnyCertificate}
use Rattle.order_bundle.specs.Scoped.{IsScoped, IsScopedText, scoped_lines, scoped_text}
use Rattle.order_bundle.specs.declared.any_certificate.AnyCertificate.{AnyCertificate}
use Rattle.order_bundle.specs.declared.any_certificate.AnyCertificate.TheVariants.{One, Many}
use Rattle.order_bundle.specs.declared.scoped.Scoped.{Scoped}
use Rattle.topic_counts.specs.declared.span.Span.{Span}
use Rattle.measure_laws.specs.Measures.{unit_of}
use Rattle.pair_table.specs.Orders.{HoldsOfPair, HoldsOfRun, ForEachPair, ForTwoRuns, ForEachRun}
use Rattle.desk_text.specs.Lines.{whole_lines, fields_of}
use Rattle.desk_model.proofs.Words.{name_word, fields_word}
use Rattle.desk_report.specs.Claims.{IsTrueLine, IsTrueText, TablesAreTrue, PairLinesAreTrue, CertificatesAreTrue, CloseLinesAreTrue, IsAnswerWord, AnswerLinesAreTrue, IsInLine, IsOtherWord, OtherLinesAreTrue, NextLinesAreTrue, QrelsTextsAreTrue, NoTextIsTrue}
use Rattle.desk_report.proofs.Spelling.{AreInLine, in_line-spaced, whole_lines-ended}
use Rattle.desk_report.proofs.Pairing.{all_weaker}
use Rattle.desk_report.proofs.Lines.{IsSound, field, two_runs_sound, printed_lines, prefix_all, prefix_true}
use Rattle.desk_report.proofs.Proposed.{next_is_other, next_rest, rest_in_line, proposal_true}
use Rattle.desk_report.proofs.Bundles.{bundle_sound}
use Rattle.desk_report.proofs.Others.{in_line_back, certificate_sound, close_sound, answer_sound, named_sound}
use Rattle.desk_report.proofs.QrelsTexts.{HasFourFields, qrels_lines, text_of_lines, IsQrelsLine, qrels_sound}

-- a text is written as its certificate is
abbrev pub AreWritten : Type 0
AreWritten = (bytes : List ℕ) (c : Scoped) → IsScopedText bytes c → bytes ≡ scoped_text c

begins : (depth : Option ℕ) (body : AnyCertificate) → get_or (scoped_text (record { depth = depth; body = body })) 0 0 ≡ 100
unfolding scoped_text
begins depth (One c) = refl
begins depth (Many b) = refl

certificate_begins : (c : Scoped) → get_or (scoped_text c) 0 0 ≡ 100
certificate_begins c = begins c.depth c.body

-- a text that begins with another byte is no certificate, nor is a prefix of it
pub no_certificate : AreWritten → (text : List ℕ) (n : ℕ) (c : Scoped) → (get_or text 0 0 ≡ 100 → ⊥) → IsScopedText (take n text) c → ⊥
no_certificate written [] zero c other t = other (ap (λ xs. get_or xs 0 0) (written [] c t) ∙ certificate_begins c)
no_certificate written [] (suc n) c other t = other (ap (λ xs. get_or xs 0 0) (written [] c t) ∙ certificate_begins c)
no_certificate written (b ∷ bs) zero c other t = let e : 0 ≡ 100 = ap (λ xs. get_or xs 0 0) (written [] c t) ∙ certificate_begins c in absurd (omega (arith, e))
no_certificate written (b ∷ bs) (suc n) c other t = other (ap (λ xs. get_or xs 0 0) (written (b ∷ take n bs) c t) ∙ certificate_begins c)

table_begins : (desk : Desk) (name : MeasureName) (level : ℕ) (depth : Option ℕ) (unit : ℤ) (bounds : List Span) (totals : List Totals) → get_or (table_text desk name level depth unit bounds totals) 0 0 ≡ 109
unfolding table_text table_lines
table_begins desk name level depth unit bounds totals = refl

pub tables_true : ForEachPair HoldsOfPair → ForEachRun HoldsOfRun → ForEachPair (λ name topics a b t. (k : ℕ) → name ≡ Precision k → IsExactVerdict name topics a b (verdict t)) → AreWritten → TablesAreTrue
tables_true pairs runs exact written name desk marks level depth received bounds totals measure valid marked numbers =
    let text = table_text desk name level depth (pos (unit_of name)) bounds totals in
    record {
      lines = printed_lines pairs runs exact name desk marks level depth received bounds totals measure valid marked numbers;
      claim = λ c t. absurd (no_certificate written text received c (λ e. let two : 109 ≡ 100 = sym (table_begins desk name level depth (pos (unit_of name)) bounds totals) ∙ e in omega (arith, two)) t);
    }

-- the lines of a certificate of either version
lines_sound : (depth : Option ℕ) (body : AnyCertificate) (desk : Desk) (marks : List (List Mark)) → IsAnyCertificate body → AllByRecursion (IsSound (any_measure body) desk marks) (scoped_lines (record { depth = depth; body = body }))
lines_sound depth (One c) desk marks within = certificate_sound c.measure desk marks depth c within
lines_sound depth (Many b) desk marks within = bundle_sound b.measure desk marks depth b within

lines_true : (c : Scoped) (desk : Desk) (marks : List (List Mark)) (received : ℕ) → IsScoped c → All (IsTrueLine (any_measure c.body) desk marks) (whole_lines (take received (scoped_text c)))
unfolding scoped_text
lines_true c desk marks received is = prefix_true (any_measure c.body) desk marks (scoped_lines c) received (lines_sound c.depth c.body desk marks is.body)

measure_within : (c : AnyCertificate) → IsAnyCertificate c → IsMeasure (any_measure c)
measure_within (One c) within = within.measure
measure_within (Many b) within = within.measure

pub certificates_true : ((c : Scoped) → IsScoped c → IsScopedText (scoped_text c) c) → AnyEvidenceImpliesClaims →
    ((bytes more : List ℕ) (c d : Scoped) → IsScopedText bytes c → IsScopedText (bytes ++ more) d → (more ≡ []) × (c ≡ d)) → CertificatesAreTrue
certificates_true texts holds alone c desk marks received is valid marked evidence = record { lines = lines_true c desk marks received is; claim = claim }
  where
    claim : (d : Scoped) → IsScopedText (take received (scoped_text c)) d → (any_measure d.body ≡ any_measure c.body) × AnyClaimHolds d.body desk marks
    claim d t =
        let joined : IsScopedText (take received (scoped_text c) ++ drop received (scoped_text c)) c = subst (λ z. IsScopedText z c) (sym (take-append-drop received (scoped_text c))) (texts c is) in
        let same : d ≡ c = (alone (take received (scoped_text c)) (drop received (scoped_text c)) d c t joined).1 in
        (ap (λ (z : Scoped). any_measure z.body) same, subst (λ (z : Scoped). AnyClaimHolds z.body desk marks) (sym same) (holds c.body desk marks (measure_within c.body is.body) valid marked evidence))

-- the whole lines of a prefix of one line
sound_lines : (name : MeasureName) (desk : Desk) (marks : List (List Mark)) (line : List ℕ) (received : ℕ) → IsSound name desk marks line → All (IsTrueLine name desk marks) (whole_lines (take received (ended line)))
sound_lines name desk marks line received sound =
    subst (λ text. All (IsTrueLine name desk marks) (whole_lines (take received text))) (append-nil (ended line)) (prefix_true name desk marks (line ∷ []) received (sound, tt))

-- a line of its own that begins with another byte than a certificate
module _ (written : AreWritten) (name : MeasureName) (desk : Desk) (marks : List (List Mark)) where
  line_true : (line : List ℕ) (received : ℕ) → IsSound name desk marks line → (get_or (ended line) 0 0 ≡ 100 → ⊥) → IsTrueText name desk marks (take received (ended line))
  line_true line received sound other = record {
    lines = sound_lines name desk marks line received sound;
    claim = λ c t. absurd (no_certificate written (ended line) received c other t);
  }

pub pairs_true : ForTwoRuns HoldsOfPair → ForTwoRuns (λ name topics a b t. (k : ℕ) → name ≡ Precision k → IsExactVerdict name topics a b (verdict t)) → AreWritten → PairLinesAreTrue
pairs_true sums exact written name desk marks a b totals received measure valid marked in_a in_b apart numbers =
    line_true written name desk marks (pair_line (unit_of name * length desk.topics) (slice_index_or desk.runs a []) (slice_index_or desk.runs b []) totals) received
    (two_runs_sound name desk marks a b totals measure valid marked in_a in_b
    (sums name desk marks a b totals measure valid marked in_a in_b apart numbers, exact name desk marks a b totals measure valid marked in_a in_b apart numbers))
    (λ e. let two : 112 ≡ 100 = e in omega (arith, two))

pub close_true : AreWritten → CloseLinesAreTrue
close_true written name desk marks first second totals received f s =
    line_true written name desk marks (close_line first second totals) received (close_sound name desk marks first second totals f s) (λ e. let two : 99 ≡ 100 = e in omega (arith, two))

-- the lines of an answer begin with another byte than a certificate
answer_begins : (word rest : List ℕ) → IsAnswerWord word → get_or (ended (word ++ rest)) 0 0 ≡ 100 → ⊥
answer_begins word rest (inl is) e = let first : 97 ≡ 100 = ap (λ w. get_or (ended (w ++ rest)) 0 0) (sym is) ∙ e in omega (arith, first)
answer_begins word rest (inr is) e = let first : 114 ≡ 100 = ap (λ w. get_or (ended (w ++ rest)) 0 0) (sym is) ∙ e in omega (arith, first)

pub answer_true : AreWritten → AnswerLinesAreTrue
answer_true written name desk marks word rest received is line = line_true written name desk marks (word ++ rest) received (answer_sound name desk marks word rest is line) (answer_begins word rest is)

-- ---- the judgements in force
-- the first line of a certificate begins with its own word, and has two fields
record FirstLine (text : List ℕ) : Type 0 where
  line : List ℕ
  more : List (List ℕ)
  is : whole_lines text ≡ line ∷ more
  first : field 0 (fields_of line) ≡ codes "desk-certificate"
  two : length (fields_of line) ≡ 2

first_of : (depth : Option ℕ) (body : AnyCertificate) → FirstLine (scoped_text (record { depth = depth; body = body }))
unfolding scoped_text
first_of depth (One c) =
    let rest : List ℕ = flat_map ended (drop 1 (scoped_lines (record { depth = depth; body = One c }))) in
    record { line = codes "desk-certificate 1"; more = whole_lines rest; is = whole_lines-ended (codes "desk-certificate 1") rest (search rules); first = refl; two = refl }
first_of depth (Many b) =
    let rest : List ℕ = flat_map ended (drop 1 (scoped_lines (record { depth = depth; body = Many b }))) in
    record { line = codes "desk-certificate 2"; more = whole_lines rest; is = whole_lines-ended (codes "desk-certificate 2") rest (search rules); first = refl; two = refl }

certificate_first : (c : Scoped) → FirstLine (scoped_text c)
certificate_first c = first_of c.depth c.body

-- no prefix of lines of four fields is a certificate
no_certificate_of_four : AreWritten → (lines : List (List ℕ)) (n : ℕ) (c : Scoped) → AllByRecursion AreInLine lines → AllByRecursion HasFourFields lines → IsScopedText (take n (flat_map ended lines)) c → ⊥
no_certificate_of_four written lines n c in_line four t =
    let first = certificate_first c in
    let own : whole_lines (take n (flat_map ended lines)) ≡ first.line ∷ first.more = ap whole_lines (written (take n (flat_map ended lines)) c t) ∙ first.is in
    let all : AllByRecursion HasFourFields (first.line ∷ first.more) = subst (AllByRecursion HasFourFields) own (prefix_all HasFourFields lines n in_line four) in
    let two : 2 ≡ 4 = sym first.two ∙ all.0 in
    omega (arith, two)

-- no prefix of a line of another word is a certificate
no_certificate_of_other : AreWritten → (word rest : List ℕ) (n : ℕ) (c : Scoped) → IsOtherWord word → IsInLine rest → AreInLine (word ++ 32 ∷ rest) → IsScopedText (take n (ended (word ++ 32 ∷ rest))) c → ⊥
no_certificate_of_other written word rest n c is line in_line t =
    let own : List ℕ = word ++ 32 ∷ rest in
    let first = certificate_first c in
    let cut : whole_lines (take n (ended own ++ [])) ≡ first.line ∷ first.more =
    ap (λ z. whole_lines (take n z)) (append-nil (ended own)) ∙ ap whole_lines (written (take n (ended own)) c t) ∙ first.is in
    let all : AllByRecursion (λ l. l ≡ own) (first.line ∷ first.more) = subst (AllByRecursion (λ l. l ≡ own)) cut (prefix_all (λ l. l ≡ own) (own ∷ []) n (in_line, tt) (refl, tt)) in
    is.no_certificate (sym (ap (field 0) (fields_word word rest (name_word word is.is))) ∙ sym (ap (λ l. field 0 (fields_of l)) all.0) ∙ first.first)

pub other_true : AreWritten → OtherLinesAreTrue
other_true written name desk marks word rest received is line =
    let sound = named_sound name desk marks word rest is line in
    record {
      lines = sound_lines name desk marks (word ++ 32 ∷ rest) received sound;
      claim = λ c t. absurd (no_certificate_of_other written word rest received c is line sound.0 t);
    }

-- the whole lines of a prefix of one line are that line
only_line : (line : List ℕ) (n : ℕ) (other : List ℕ) → AreInLine line → whole_lines (take n (ended line)) ≡ other ∷ [] → other ≡ line
only_line line n other in_line e =
    let all : AllByRecursion (λ l. l ≡ line) (whole_lines (take n (ended line ++ []))) = prefix_all (λ l. l ≡ line) (line ∷ []) n (in_line, tt) (refl, tt) in
    let one : AllByRecursion (λ l. l ≡ line) (other ∷ []) = subst (AllByRecursion (λ l. l ≡ line)) (ap (λ z. whole_lines (take n z)) (append-nil (ended line)) ∙ e) all in
    one.0

pub next_true : AreWritten → NextLinesAreTrue
next_true written name desk marks totals None received valid known numbers next = (
  other_true written name desk marks (codes "next") (codes "none") received next_is_other (search rules),
  proposal_true name desk marks totals valid known numbers None (take received (ended (codes "next none"))) next (λ line one. only_line (codes "next none") received line (search rules) one),
)
next_true written name desk marks totals (Some p) received valid known numbers next =
    let rest = next_rest desk (Some p) in
    let in_line = rest_in_line name desk marks totals valid known (Some p) next in
    let same : next_line desk (Some p) ≡ codes "next" ++ 32 ∷ rest = regroup (book_at desk p.topic).name (name_at desk p.topic p.doc) (decimal p.weight) in
    let whole : AreInLine (codes "next" ++ 32 ∷ rest) = in_line-spaced (codes "next") rest (search rules) in_line in (
      subst (λ line. IsTrueText name desk marks (take received (ended line))) (sym same) (other_true written name desk marks (codes "next") rest received next_is_other (in_line_back rest in_line)),
      proposal_true name desk marks totals valid known numbers (Some p) (take received (ended (next_line desk (Some p)))) next
          (λ line one. only_line (next_line desk (Some p)) received line (subst AreInLine (sym same) whole) one),
    )
  where
    regroup : (x y z : List ℕ) → (codes "next " ++ x ++ 32 ∷ y ++ 32 ∷ z) ≡ codes "next" ++ 32 ∷ (x ++ 32 ∷ y ++ 32 ∷ z)
    regroup x y z = simp append_assoc

pub qrels_true : AreWritten → QrelsTextsAreTrue
qrels_true written name desk marks grades received valid =
    let lines = qrels_lines desk grades in
    let all = qrels_sound name desk marks grades valid in
    let sound = all_weaker (IsQrelsLine name desk marks) (IsSound name desk marks) lines (λ line s. s.0) all in
    let in_line = all_weaker (IsQrelsLine name desk marks) AreInLine lines (λ line s. s.0.0) all in
    let four = all_weaker (IsQrelsLine name desk marks) HasFourFields lines (λ line s. s.1) all in
    subst (λ text. IsTrueText name desk marks (take received text)) (sym (text_of_lines desk grades)) (record {
      lines = prefix_true name desk marks lines received sound;
      claim = λ c t. absurd (no_certificate_of_four written lines received c in_line four t);
    })

pub nothing_true : AreWritten → NoTextIsTrue
nothing_true written name desk marks received = record {
  lines = prefix_true name desk marks [] received tt;
  claim = λ c t. absurd (no_certificate written [] received c (λ e. let two : 0 ≡ 100 = e in omega (arith, two)) t);
}

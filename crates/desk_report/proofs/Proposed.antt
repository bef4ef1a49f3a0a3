-- The line of what is to be judged next.
use Rattle.std.proofs.Common.{◌≡◌, ℕ, List, [], ◌∷◌, ◌++◌, get_or, Option, Some, None, refl, ap, sym, ◌∙◌, arith, rules, append_assoc, pos}
use Rattle.std.specs.Prelude.{codes, decimal, true, slice_get, length, map}
use Rattle.desk_text.specs.Lines.{whole_lines, fields_of}
use Rattle.desk_model.specs.Book.{IsBook}
use Rattle.desk_model.specs.Desk.{Desk, IsDesk, AreMarksOf}
use Rattle.desk_model.specs.Name.{is_name}
use Rattle.desk_model.specs.Named.{book_at, name_at}
use Rattle.desk_model.specs.Verdict.{verdict}
use Rattle.desk_model.specs.declared.types.Mark.{Mark}
use Rattle.desk_model.specs.declared.types.Mark.TheVariants.{Unjudged}
use Rattle.desk_model.specs.declared.types.MeasureName.{MeasureName}
use Rattle.desk_model.specs.declared.types.Totals.{Totals}
use Rattle.desk_model.proofs.Words.{IsWord, name_word, fields_word, fields_last}
use Rattle.pair_table.specs.Numbers.{AreAllPairNumbers}
use Rattle.desk_report.specs.Judging.{next_line}
use Rattle.next_document.specs.Proposal.{Standing, IsNext}
use Rattle.next_document.specs.declared.proposal.Proposal.{Proposal}
use Rattle.next_document.proofs.Naming.{topic_known, doc_known}
use Rattle.desk_report.specs.Claims.{IsOtherWord, IsTrueProposal}
use Rattle.desk_report.proofs.Spelling.{AreInLine, ink_in_line, in_line-spaced}
use Rattle.desk_report.proofs.Texts.{decimal_ink, signed_word}
use Rattle.desk_report.proofs.Lines.{field, word}
use Rattle.desk_report.proofs.Others.{other_word}

next_word : IsWord (codes "next")
next_word = word (codes "next") (omega arith) (search rules)

pub next_is_other : IsOtherWord (codes "next")
next_is_other = other_word (codes "next") refl refl refl refl

-- the fields of three words after `next`
next_fields : (a b c : List ℕ) → IsWord a → IsWord b → IsWord c → fields_of (codes "next " ++ a ++ 32 ∷ b ++ 32 ∷ c) ≡ codes "next" ∷ a ∷ b ∷ c ∷ []
next_fields a b c wa wb wc =
    ap fields_of (regroup a b c) ∙ fields_word (codes "next") (a ++ 32 ∷ (b ++ 32 ∷ c)) next_word
    ∙ ap (λ fs. codes "next" ∷ fs) (fields_word a (b ++ 32 ∷ c) wa ∙ ap (λ fs. a ∷ fs) (fields_word b c wb ∙ ap (λ fs. b ∷ fs) (fields_last c wc)))
  where
    regroup : (x y z : List ℕ) → (codes "next " ++ x ++ 32 ∷ y ++ 32 ∷ z) ≡ codes "next" ++ 32 ∷ (x ++ 32 ∷ (y ++ 32 ∷ z))
    regroup x y z = simp append_assoc

-- what follows `next`
abbrev pub next_rest : Desk → Option Proposal → List ℕ
next_rest desk None = codes "none"
next_rest desk (Some p) = (book_at desk p.topic).name ++ 32 ∷ name_at desk p.topic p.doc ++ 32 ∷ decimal p.weight

module _ (name : MeasureName) (desk : Desk) (marks : List (List Mark)) (totals : List Totals) (valid : IsDesk desk) (known : AreMarksOf desk marks) where
  abbrev standing : Standing
  standing = record { measure = name; desk = desk; marks = marks; verdicts = map verdict totals }

  book : (t d : ℕ) → slice_get (get_or marks t []) d ≡ Some Unjudged → IsBook (book_at desk t)
  book t d u = valid.books t (record { name = []; docs = []; grades = [] }) (topic_known desk marks valid known t d u)

  doc_name : (t d : ℕ) → slice_get (get_or marks t []) d ≡ Some Unjudged → is_name (name_at desk t d) ≡ true
  doc_name t d u = let own = book t d u in own.documents d [] (doc_known desk marks valid known t d u)

  pub rest_in_line : (p : Option Proposal) → IsNext standing p → AreInLine (next_rest desk p)
  rest_in_line None h = search rules
  rest_in_line (Some p) h =
      let own = book p.topic p.doc h.unjudged in
      in_line-spaced ((book_at desk p.topic).name ++ 32 ∷ name_at desk p.topic p.doc) (decimal p.weight)
      (in_line-spaced (book_at desk p.topic).name (name_at desk p.topic p.doc) (ink_in_line (book_at desk p.topic).name (name_word (book_at desk p.topic).name own.named).ink)
      (ink_in_line (name_at desk p.topic p.doc) (name_word (name_at desk p.topic p.doc) (doc_name p.topic p.doc h.unjudged)).ink)) (ink_in_line (decimal p.weight) (decimal_ink p.weight))

  fields_of_proposal : (p : Proposal) → IsNext standing (Some p) → fields_of (next_line desk (Some p)) ≡ codes "next" ∷ (book_at desk p.topic).name ∷ name_at desk p.topic p.doc ∷ decimal p.weight ∷ []
  fields_of_proposal p h =
      let own = book p.topic p.doc h.unjudged in
      next_fields (book_at desk p.topic).name (name_at desk p.topic p.doc) (decimal p.weight) (name_word (book_at desk p.topic).name own.named)
      (name_word (name_at desk p.topic p.doc) (doc_name p.topic p.doc h.unjudged)) (signed_word (pos p.weight))

  -- bytes whose one whole line is that of what is to be judged next say what is so
  pub proposal_true : (numbers : AreAllPairNumbers name desk marks totals) (p : Option Proposal) (received : List ℕ) → IsNext standing p →
      ((line : List ℕ) → whole_lines received ≡ line ∷ [] → line ≡ next_line desk p) → IsTrueProposal name desk marks received
  proposal_true numbers None received h own = record {
    proposed = λ line topic doc weight one fields. absurd (three (sym (ap fields_of (own line one)) ∙ fields));
    none = λ line one fields. record { totals = totals; numbers = numbers; holds = h };
  }
    where
      three : {x y z : List ℕ} → fields_of (codes "next none") ≡ codes "next" ∷ x ∷ y ∷ z ∷ [] → ⊥
      three e = let two : 2 ≡ 4 = ap length e in absurd (omega (arith, two))
  proposal_true numbers (Some p) received h own = record {
    proposed = λ line topic doc weight one fields.
        let same = sym (fields_of_proposal p h) ∙ sym (ap fields_of (own line one)) ∙ fields in
        record { totals = totals; numbers = numbers; holds = record { proposal = p; is = h; of_topic = ap (field 1) same; named = ap (field 2) same; total = sym (ap (field 3) same) } };
    none = λ line one fields. absurd (two (sym (fields_of_proposal p h) ∙ sym (ap fields_of (own line one)) ∙ fields));
  }
    where
      two : {x y z : List ℕ} → codes "next" ∷ x ∷ y ∷ z ∷ [] ≡ codes "next" ∷ codes "none" ∷ [] → ⊥
      two e = let four : 4 ≡ 2 = ap length e in absurd (omega (arith, four))

-- A session after a change.
use Rattle.std.proofs.Common.{◌≡◌, ℕ, zero, suc, ◌<◌, List, [], ◌∷◌, length, get_or, Option, Some, None, Result, Ok, Err, ℤ, refl, ap, sym, subst, ◌∙◌, arith}
use Rattle.std.specs.Prelude.{IfOk, IfSome, OnOk, option_map}
use Rattle.std.specs.List.{AllZip}
use Rattle.std.proofs.Math.ListN.{set}
use Rattle.std.proofs.lemmas.List.{length-set}
use Rattle.desk_model.specs.Book.{Book}
use Rattle.desk_model.specs.Desk.{Desk, IsDesk, AreMarksOf}
use Rattle.desk_model.specs.Graded.{Pools, is_in_pools, mark_within, pools_of}
use Rattle.desk_model.specs.declared.types.Mark.{Mark}
use Rattle.judge_session.specs.declared.change.Change.{Change}
use Rattle.judge_session.specs.declared.answers.Changed.{Changed}
use Rattle.judge_session.specs.InForce.{grade_after, grade_in_force, IsSessionOf, IsOfDesk}
use Rattle.desk_model.specs.Named.{book_at}
use Rattle.desk_report.specs.Table.{ended}
use Rattle.desk_report.specs.Judging.{changed_line}
use Rattle.measure_core.specs.Made.{IsMadeFor}
use Rattle.desk_report.specs.Reports.{IsTableOn, subject}
use Rattle.pair_table.specs.Kept.{Kept, StandsFor, StandsElsewhere}
use Rattle.pair_table.proofs.Changing.{numbers_elsewhere}
use Rattle.judge_session.specs.Request.{Heard}
use Rattle.session_replies.specs.Replies.{Setting, marks_after, changes_after, change_reply, IsReply}
use Rattle.session_replies.specs.State.{Numbers, Answers, TakesOver, AreWeightsFor}
use Rattle.session_replies.specs.declared.state.Judging.{Judging}
use Rattle.session_replies.proofs.Marks.{length-marks, length-marks_at, pooled_set}

module _ (s : Setting) (valid : IsDesk s.desk) (marks : List (List Mark)) (changes : List Change) (marked : marks ≡ marks_after s changes) (told : Changed) (of : IsOfDesk s.desk told) where
  pub topic_there : told.topic < length marks
  topic_there = omega (arith, of.topic, ap length marked, length-marks s changes)

  pub doc_there : told.doc < length (get_or marks told.topic [])
  doc_there = omega (arith, of.doc, ap (λ ms. length (get_or ms told.topic [])) marked, length-marks_at s valid told.topic changes of.topic)

  pub marks_follow : (pools : Pools) → pools ≡ pools_of s.desk s.depth → (now : List Change) (new : List (List Mark)) → told.grade ≡ grade_in_force s.desk told.topic told.doc now →
      ((file : Option ℤ) (t d : ℕ) → (told.topic ≡ t → told.doc ≡ d → ⊥) → grade_after file t d now ≡ grade_after file t d changes) →
      new ≡ set marks told.topic (set (get_or marks told.topic []) told.doc (mark_within told.grade s.level (is_in_pools pools told.topic told.doc))) → new ≡ marks_after s now
  marks_follow pools of_desk now new grade same is =
      is ∙ ap (λ (ps : Pools). set marks told.topic (set (get_or marks told.topic []) told.doc (mark_within told.grade s.level (is_in_pools ps told.topic told.doc)))) of_desk
      ∙ ap (λ ms. set ms told.topic (set (get_or ms told.topic []) told.doc (mark_within told.grade s.level (is_in_pools (pools_of s.desk s.depth) told.topic told.doc)))) marked
      ∙ ap (λ g. set (marks_after s changes) told.topic (set (get_or (marks_after s changes) told.topic []) told.doc (mark_within g s.level (is_in_pools (pools_of s.desk s.depth) told.topic told.doc)))) grade
      ∙ pooled_set s valid changes now told.topic told.doc of.topic of.doc same

-- what a mapped option holds
pub mapped_some : {A B : Type 0} (f : A → B) (o : Option A) (y : B) → Some y ≡ option_map f o → (x : A) × (o ≡ Some x) × (y ≡ f x)
mapped_some f None y h = absurd (cc)
mapped_some f (Some x) y h = (x, refl, let same : y ≡ f x = cc in same)

-- what holds of an answer together with facts that hold where there is one
pub ok_with : {A E : Type 0} (r : Result A E) (P Q : Type 0) (F G : A → Type 0) → ((x : A) → F x → P → Q → G x) → IfOk r F → OnOk r P → OnOk r Q → IfOk r G
ok_with (Ok x) P Q F G step f p q = step x f p q
ok_with (Err e) P Q F G step f p q = tt

-- a table that was taken over is one of the new marks
pub table_taken : {M : Type 0} (n : Numbers M) (s : Setting) (marks : List (List Mark)) (old new : Option (Kept M)) → IfSome old (λ table. IsMadeFor s.measure (n.name table.measure) (n.cell table.measure) (n.bound table.measure)) → TakesOver n s.desk marks old new →
    IfSome new (λ table. IsTableOn (n.name table.measure) (n.cell table.measure) (n.bound table.measure) (subject s.measure s.level s.depth s.desk marks) table)
table_taken n s marks None None made h = tt
table_taken n s marks None (Some new) made h = absurd (cc)
table_taken n s marks (Some old) None made h = absurd h
table_taken n s marks (Some old) (Some new) made h = record {
  made = subst (λ m. IsMadeFor s.measure (n.name m) (n.cell m) (n.bound m)) (sym h.0) made;
  stands = h.1;
}

-- what a table that is there was made for, and that it stands for the marks
pub table_made : {M : Type 0} (n : Numbers M) (s : Setting) (marks : List (List Mark)) (table : Option (Kept M)) → IfSome table (λ t. IsTableOn (n.name t.measure) (n.cell t.measure) (n.bound t.measure) (subject s.measure s.level s.depth s.desk marks) t) →
    IfSome table (λ t. IsMadeFor s.measure (n.name t.measure) (n.cell t.measure) (n.bound t.measure))
table_made n s marks None h = tt
table_made n s marks (Some t) h = h.made

pub table_stands : {M : Type 0} (n : Numbers M) (s : Setting) (marks now : List (List Mark)) (table : Option (Kept M)) → now ≡ marks → IfSome table (λ t. IsTableOn (n.name t.measure) (n.cell t.measure) (n.bound t.measure) (subject s.measure s.level s.depth s.desk marks) t) →
    IfSome table (λ t. StandsFor (n.cell t.measure) (n.bound t.measure) s.desk now t)
table_stands n s marks now None e h = tt
table_stands n s marks now (Some t) e h = subst (λ ms. StandsFor (n.cell t.measure) (n.bound t.measure) s.desk ms t) (sym e) h.stands

-- marks of a desk with another mark of one document
pub marks_with : (books : List Book) (marks : List (List Mark)) (t doc : ℕ) (mark : Mark) → AllZip (λ (book : Book) (topic : List Mark). length topic ≡ length book.docs) books marks →
    AllZip (λ (book : Book) (topic : List Mark). length topic ≡ length book.docs) books (set marks t (set (get_or marks t []) doc mark))
marks_with [] [] t doc mark h = tt
marks_with [] (m ∷ ms) t doc mark h = absurd h
marks_with (b ∷ bs) [] t doc mark h = absurd h
marks_with (b ∷ bs) (m ∷ ms) zero doc mark h = (length-set m doc mark ∙ h.0, h.1)
marks_with (b ∷ bs) (m ∷ ms) (suc t) doc mark h = (h.0, marks_with bs ms t doc mark h.1)

-- a table that is there stands on every other topic for the marks with another mark of one document
pub table_elsewhere : {M : Type 0} (n : Numbers M) (desk : Desk) (marks : List (List Mark)) (topic : ℕ) (row : List Mark) (table : Option (Kept M)) → AreMarksOf desk marks → IfSome table (λ t. StandsFor (n.cell t.measure) (n.bound t.measure) desk marks t) →
    IfSome table (λ t. StandsElsewhere (n.cell t.measure) (n.bound t.measure) desk (set marks topic row) topic t)
table_elsewhere n desk marks topic row None known h = tt
table_elsewhere n desk marks topic row (Some t) known h = numbers_elsewhere (n.cell t.measure) (n.bound t.measure) desk marks topic row t known h

-- a change that was told was taken over
module _ {M : Type 0} (n : Numbers M) (s : Setting) (valid : IsDesk s.desk) (heard : Heard) (old new : Judging M) (now : List Change) (told : Changed) where
  pub followed : old.marks.rows ≡ marks_after s old.session → old.marks.pools ≡ pools_of s.desk s.depth → IsOfDesk s.desk told → IsSessionOf s.desk now → told.grade ≡ grade_in_force s.desk told.topic told.doc now →
      ((file : Option ℤ) (t d : ℕ) → (told.topic ≡ t → told.doc ≡ d → ⊥) → grade_after file t d now ≡ grade_after file t d old.session) →
      new.session ≡ now → new.marks.pools ≡ old.marks.pools → new.marks.rows ≡ set old.marks.rows told.topic (set (get_or old.marks.rows told.topic []) told.doc (mark_within told.grade s.level (is_in_pools old.marks.pools told.topic told.doc))) → TakesOver n s.desk new.marks.rows old.table new.table → AreWeightsFor n s.desk new.marks.rows new.weights new.table →
      IfSome old.table (λ table. IsMadeFor s.measure (n.name table.measure) (n.cell table.measure) (n.bound table.measure)) →
      now ≡ changes_after s.desk heard old.session → (word text : List ℕ) → (text ≡ change_reply s.desk word told.topic told.doc now → IsReply s old.session heard text) →
      text ≡ ended (changed_line word (book_at s.desk told.topic).name (get_or (book_at s.desk told.topic).docs told.doc []) told.grade) → Answers n s heard old new text
  followed marked of_desk of on_desk grade same session pools marks table weights made changes word text reply line =
      let marks_are : new.marks.rows ≡ marks_after s new.session = marks_follow s valid old.marks.rows old.session marked told of old.marks.pools of_desk now new.marks.rows grade same marks ∙ ap (marks_after s) (sym session) in
      record {
        ready = record {
          on_desk = subst (IsSessionOf s.desk) (sym session) on_desk;
          marked = marks_are;
          pools = pools ∙ of_desk;
          table = subst (λ ms. IfSome new.table (λ table. IsTableOn (n.name table.measure) (n.cell table.measure) (n.bound table.measure) (subject s.measure s.level s.depth s.desk ms) table)) marks_are (table_taken n s new.marks.rows old.table new.table made table);
          weights = weights;
        };
        changes = session ∙ changes;
        is = reply (line ∙ ap (λ g. ended (changed_line word (book_at s.desk told.topic).name (get_or (book_at s.desk told.topic).docs told.doc []) g)) grade);
      }

-- A line has one reply.
use Rattle.std.proofs.Common.{◌≡◌, ◌≢◌, ℕ, List, Bool, true, false, Option, Some, None, Result, Ok, Err, refl, subst, ap, sym, ◌∙◌, inl, inr, pos, length, ◌*◌}
use Rattle.std.specs.Prelude.{MatchBool, nat_eq, map, decimal, codes, ◌++◌, ◌∷◌}
use Rattle.desk_model.specs.Book.{Book}
use Rattle.desk_model.specs.Desk.{AreMarksOf, topics_under}
use Rattle.desk_model.specs.Name.{number_of}
use Rattle.desk_model.specs.Pairs.{pairs_of}
use Rattle.desk_model.specs.declared.types.Totals.{Totals}
use Rattle.measure_laws.specs.Measures.{unit_of}
use Rattle.desk_report.specs.Table.{table_text, pair_line, ended}
use Rattle.desk_report.specs.Close.{close_line}
use Rattle.desk_report.specs.Judging.{pool_line, next_line}
use Rattle.desk_model.specs.declared.pool.PoolCount.{PoolCount}
use Rattle.judge_session.specs.declared.change.Change.{Change}
use Rattle.next_document.specs.Laws.{NextIsOne}
use Rattle.next_document.specs.Proposal.{IsNext}
use Rattle.order_bundle.specs.Scoped.{scoped_text}
use Rattle.order_bundle.specs.declared.any_certificate.AnyCertificate.TheVariants.{One}
use Rattle.order_certificate.specs.declared.certificate.Certificate.{Certificate}
use Rattle.pair_table.specs.declared.evidence.EvidenceFault.{EvidenceFault}
use Rattle.pair_table.specs.declared.evidence.EvidenceFault.TheVariants.{Close, Memory}
use Rattle.pair_table.specs.Numbers.{ArePairNumbers}
use Rattle.pair_table.specs.Sums.{run_numbers}
use Rattle.pair_table.proofs.Answered.{one_answer}
use Rattle.pair_table.proofs.Named.{pair_unique, table_determined}
use Rattle.pair_table.proofs.Zips.{zip_unique}
use Rattle.desk_report.specs.Reports.{Subject, IsTableText, IsPairText, IsNextText, standing_of, run_name}
use Rattle.judge_session.specs.Request.{Heard, Judge, Undo, Redo, Table, Pair, Certify, Pool, Next, Qrels, Quit, Blank, TooLong, Bad, Asked}
use Rattle.session_replies.specs.Replies.{Setting, subject_after, OnNumbers, IsCertified, IsPoolReply, IsReply, refusal}
use Rattle.session_replies.proofs.Marks.{marks_of_desk}

pub one_table : (s : Subject) (text other : List ℕ) → IsTableText s text → IsTableText s other → text ≡ other
one_table s text other h k =
    let same = table_determined s.measure s.desk s.marks h.bounds k.bounds h.totals k.totals h.numbers k.numbers in
    h.is ∙ ap (λ bounds. table_text s.desk s.measure s.level s.depth (pos (unit_of s.measure)) bounds h.totals) same.0
    ∙ ap (λ totals. table_text s.desk s.measure s.level s.depth (pos (unit_of s.measure)) k.bounds totals) same.1 ∙ sym k.is

one_pair : (s : Subject) (a b : ℕ) (text other : List ℕ) → IsPairText s a b text → IsPairText s a b other → text ≡ other
one_pair s a b text other h k =
    h.is ∙ ap (λ totals. ended (pair_line (unit_of s.measure * length s.desk.topics) (run_name s.desk a) (run_name s.desk b) totals)) (pair_unique s.measure (topics_under s.desk s.marks) a b h.totals k.totals h.summed k.summed) ∙ sym k.is

given : (c : Certificate) (answer : Result Certificate EvidenceFault) → answer ≡ Ok c → answer ≢ Err Memory
given c answer is e = absurd (cc)

close_given : (totals : Totals) (answer : Result Certificate EvidenceFault) → answer ≡ Err (Close totals) → answer ≢ Err Memory
close_given totals answer is e = absurd (cc)

pub one_certified : (s : Subject) (a b : ℕ) (text other : List ℕ) → IsCertified s a b text → IsCertified s a b other → text ≡ other
one_certified s a b text other (inl h) (inl k) =
    let same : Ok h.certificate ≡ Ok k.certificate = one_answer s.measure s.desk s.marks s.level a b (Ok h.certificate) (Ok k.certificate) h.of_pair k.of_pair (given h.certificate (Ok h.certificate) refl) (given k.certificate (Ok k.certificate) refl) in
    let one : h.certificate ≡ k.certificate = cc in
    h.is ∙ ap (λ c. scoped_text (record { depth = s.depth; body = One c })) one ∙ sym k.is
one_certified s a b text other (inl h) (inr k) =
    let same : Ok h.certificate ≡ Err (Close k.totals) = one_answer s.measure s.desk s.marks s.level a b (Ok h.certificate) (Err (Close k.totals)) h.of_pair (k.summed, k.close) (given h.certificate (Ok h.certificate) refl) (close_given k.totals (Err (Close k.totals)) refl) in
    absurd (cc)
one_certified s a b text other (inr h) (inl k) =
    let same : Ok k.certificate ≡ Err (Close h.totals) = one_answer s.measure s.desk s.marks s.level a b (Ok k.certificate) (Err (Close h.totals)) k.of_pair (h.summed, h.close) (given k.certificate (Ok k.certificate) refl) (close_given h.totals (Err (Close h.totals)) refl) in
    absurd (cc)
one_certified s a b text other (inr h) (inr k) =
    h.is ∙ ap (λ totals. ended (close_line (run_name s.desk a) (run_name s.desk b) totals)) (pair_unique s.measure (topics_under s.desk s.marks) a b h.totals k.totals h.summed k.summed) ∙ sym k.is

pub one_next : NextIsOne → (s : Subject) (text other : List ℕ) → AreMarksOf s.desk s.marks → IsNextText s text → IsNextText s other → text ≡ other
one_next law s text other marked h k =
    let pairs = pairs_of (run_numbers (length s.desk.runs)) in
    let topics = topics_under s.desk s.marks in
    let same : h.totals ≡ k.totals =
    zip_unique (λ (pair : ℕ × ℕ) (sums : Totals). ArePairNumbers s.measure topics pair.0 pair.1 sums) (λ pair sums others. pair_unique s.measure topics pair.0 pair.1 sums others) pairs h.totals k.totals h.summed k.summed in
    let next : IsNext (standing_of s k.totals) h.proposal = subst (λ totals. IsNext (standing_of s totals) h.proposal) same h.next in
    h.is ∙ ap (λ proposal. ended (next_line s.desk proposal)) (law (standing_of s k.totals) h.proposal k.proposal h.valid marked next k.next) ∙ sym k.is

one_of_runs : (o p : Option ℕ) (Fact : ℕ → ℕ → List ℕ → Type 0) (text other : List ℕ) → ((a b : ℕ) → Fact a b text → Fact a b other → text ≡ other) → OnNumbers o p Fact text → OnNumbers o p Fact other → text ≡ other
one_of_runs (Some a) (Some b) Fact text other one h k = by (nat_eq a b) h k
  where
    by : (same : Bool) → MatchBool same (text ≡ refusal (codes "SameRun")) (Fact a b text) → MatchBool same (other ≡ refusal (codes "SameRun")) (Fact a b other) → text ≡ other
    by true h k = h ∙ sym k
    by false h k = one a b h k
one_of_runs (Some a) None Fact text other one h k = h ∙ sym k
one_of_runs None p Fact text other one h k = h ∙ sym k

one_line : (c d : PoolCount) → c.size ≡ d.size → c.judged ≡ d.judged → c.relevant ≡ d.relevant → c.unjudged ≡ d.unjudged → ended (pool_line c) ≡ ended (pool_line d)
one_line c d e f g h =
    ap (λ n. ended (codes "pool " ++ decimal n ++ 32 ∷ decimal c.judged ++ 32 ∷ decimal c.relevant ++ 32 ∷ decimal c.unjudged)) e
    ∙ ap (λ n. ended (codes "pool " ++ decimal d.size ++ 32 ∷ decimal n ++ 32 ∷ decimal c.relevant ++ 32 ∷ decimal c.unjudged)) f
    ∙ ap (λ n. ended (codes "pool " ++ decimal d.size ++ 32 ∷ decimal d.judged ++ 32 ∷ decimal n ++ 32 ∷ decimal c.unjudged)) g
    ∙ ap (λ n. ended (codes "pool " ++ decimal d.size ++ 32 ∷ decimal d.judged ++ 32 ∷ decimal d.relevant ++ 32 ∷ decimal n)) h

one_pool : (s : Setting) (changes : List Change) (depth : ℕ) (o : Option ℕ) (text other : List ℕ) → IsPoolReply s changes depth o text → IsPoolReply s changes depth o other → text ≡ other
one_pool s changes depth None text other h k = h ∙ sym k
one_pool s changes depth (Some topic) text other h k =
    h.2 ∙ one_line h.0 k.0 (h.1.size ∙ sym k.1.size) (h.1.judged ∙ sym k.1.judged) (h.1.relevant ∙ sym k.1.relevant) (h.1.unjudged ∙ sym k.1.unjudged) ∙ sym k.2

pub one_reply : NextIsOne → (s : Setting) (changes : List Change) (heard : Heard) (text other : List ℕ) → IsReply s changes heard text → IsReply s changes heard other → text ≡ other
one_reply next s changes Blank text other h k = h ∙ sym k
one_reply next s changes TooLong text other h k = h ∙ sym k
one_reply next s changes Bad text other h k = h ∙ sym k
one_reply next s changes (Asked (Judge who topic doc grade)) text other h k = h ∙ sym k
one_reply next s changes (Asked (Undo who)) text other h k = h ∙ sym k
one_reply next s changes (Asked (Redo who)) text other h k = h ∙ sym k
one_reply next s changes (Asked Table) text other h k = one_table (subject_after s changes) text other h k
one_reply next s changes (Asked (Pair first second)) text other h k =
    one_of_runs (number_of s.desk.runs first) (number_of s.desk.runs second) (IsPairText (subject_after s changes)) text other (λ a b x y. one_pair (subject_after s changes) a b text other x y) h k
one_reply next s changes (Asked (Certify first second)) text other h k =
    one_of_runs (number_of s.desk.runs first) (number_of s.desk.runs second) (IsCertified (subject_after s changes)) text other (λ a b x y. one_certified (subject_after s changes) a b text other x y) h k
one_reply next s changes (Asked (Pool topic depth)) text other h k = one_pool s changes depth (number_of (map (λ (book : Book). book.name) s.desk.topics) topic) text other h k
one_reply next s changes (Asked Next) text other h k = one_next next (subject_after s changes) text other (marks_of_desk s changes h.valid) h k
one_reply next s changes (Asked Qrels) text other h k = h ∙ sym k
one_reply next s changes (Asked Quit) text other h k = h ∙ sym k

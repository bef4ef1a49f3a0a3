-- No words are of two commands.
use Rattle.std.proofs.Common.{◌≡◌, ℕ, Bool, true, false, List, [], ◌∷◌, length, map, refl, ap, sym, subst, ◌∙◌, arith, codes, decimal, inl, inr}
use Rattle.std.specs.Prelude.{Option, Some, None, find, if◌then◌else◌, unwrap_or}
use Rattle.std.specs.List.{AllByRecursion}
use Rattle.std.specs.Str.{bytes_eq}
use Rattle.std.proofs.lemmas.Slice.Eq.{bytes_eq-Decides}
use Rattle.std.proofs.lemmas.Fmt.{decimal_injective}
use Rattle.clap.specs.Words.{Text}
use Rattle.command_line.specs.Given.{Values}
use Rattle.desk_model.specs.declared.types.MeasureName.{MeasureName}
use Rattle.desk_model.specs.MeasureText.{IsTextOf}
use Rattle.desk_model.proofs.Decimals.{unique}
use Rattle.desk_words.specs.Words.{AsksForAll, AsksForTwo, IsCommandAfter, IsDepthOf, IsLevelOf, IsMeasureOf, Says, SaysCheck, SaysJob, SaysPlacing, verb_for, verb_of, word_of}
use Rattle.desk_words.specs.Laws.{CommandIsUnique}
use Rattle.desk_words.specs.declared.read.Verb.{Verb}
use Rattle.desk_words.specs.declared.command.RunWord.{RunWord}
use Rattle.desk_words.specs.declared.command.Job.{Job}
use Rattle.desk_words.specs.declared.command.Check.{Check}
use Rattle.desk_words.specs.declared.command.Placing.{Placing}
use Rattle.desk_words.specs.declared.command.Command.{Command}
use Rattle.desk_words.specs.declared.command.Command.TheVariants.{Table, Certify, CertifyAll, Session, Verify, Demo, Graded, Tiers, Merge, Apply}

one_value : (values : List Text) (a b : Text) → values ≡ a ∷ [] → values ≡ b ∷ [] → a ≡ b
one_value values a b e f = let both : a ∷ [] ≡ b ∷ [] = sym e ∙ f in cc

one_measure : (values : List Text) (a b : MeasureName) → IsMeasureOf values a → IsMeasureOf values b → a ≡ b
one_measure values a b (text, e, is, of) (other, f, is_too, of_too) = unique text a b is is_too of (subst (λ (t : Text). IsTextOf b t) (one_value values other text f e) of_too)

one_level : (values : List Text) (a b : ℕ) → IsLevelOf values a → IsLevelOf values b → a ≡ b
one_level values a b (inl h) (inl k) = h.1 ∙ sym k.1
one_level values a b (inl h) (inr k) = let no : [] ≡ decimal b ∷ [] = sym h.0 ∙ k.0 in cc
one_level values a b (inr h) (inl k) = let no : decimal a ∷ [] ≡ [] = sym h.0 ∙ k.0 in cc
one_level values a b (inr h) (inr k) = decimal_injective a b (omega arith) (omega arith) (one_value values (decimal a) (decimal b) h.0 k.0)

one_depth : (values : List Text) (a b : Option ℕ) → IsDepthOf values a → IsDepthOf values b → a ≡ b
one_depth values None None h k = refl
one_depth values None (Some b) h k = let no : [] ≡ decimal b ∷ [] = sym h ∙ k.0 in cc
one_depth values (Some a) None h k = let no : decimal a ∷ [] ≡ [] = sym h.0 ∙ k in cc
one_depth values (Some a) (Some b) h k = ap Some (decimal_injective a b (omega arith) (omega arith) (one_value values (decimal a) (decimal b) h.0 k.0))

all_same : (runs others : List RunWord) → map Some runs ≡ map Some others → runs ≡ others
all_same [] [] e = refl
all_same [] (y ∷ ys) e = cc
all_same (x ∷ xs) [] e = cc
all_same (x ∷ xs) (y ∷ ys) e =
    let first : x ≡ y = cc in
    let rest : map Some xs ≡ map Some ys = cc in
    let tail : xs ≡ ys = all_same xs ys rest in
    cc

one_job : (values : Values) (a b : Job) → SaysJob values a → SaysJob values b → a ≡ b
one_job values a b h k =
    let qrels = one_value _ a.qrels b.qrels h.qrels.0 k.qrels.0 in
    let measure = one_measure _ a.measure b.measure h.measure k.measure in
    let level = one_level _ a.level b.level h.level k.level in
    let depth = one_depth _ a.depth b.depth h.depth k.depth in
    let runs = all_same a.runs b.runs (sym h.runs.each ∙ k.runs.each) in
    λ i. record { qrels = qrels i; measure = measure i; level = level i; depth = depth i; runs = runs i }

one_check : (values : Values) (a b : Check) → SaysCheck values a → SaysCheck values b → a ≡ b
one_check values a b h k =
    let qrels = one_value _ a.qrels b.qrels h.qrels.0 k.qrels.0 in
    let cert = one_value _ a.cert b.cert h.cert.0 k.cert.0 in
    let runs = all_same a.runs b.runs (sym h.runs.each ∙ k.runs.each) in
    λ i. record { qrels = qrels i; cert = cert i; runs = runs i }

one_placing : (values : Values) (a b : Placing) → SaysPlacing values a → SaysPlacing values b → a ≡ b
one_placing values a b h k =
    let qrels = one_value _ a.qrels b.qrels h.qrels.0 k.qrels.0 in
    let sheet = one_value _ a.sheet b.sheet h.sheet.0 k.sheet.0 in
    let runs = all_same a.runs b.runs (sym h.runs.each ∙ k.runs.each) in
    λ i. record { qrels = qrels i; sheet = sheet i; runs = runs i }

not_both : (values : Values) → AsksForTwo values → AsksForAll values → ⊥
not_both values two all = let none : length (values (codes "all")) ≡ 0 = ap length two in omega (arith, none, all)

-- a row for each command; the two of one verb differ by the flag
one_said : (values : Values) (a b : Command) → verb_for a ≡ verb_for b → Says values a → Says values b → a ≡ b
one_said values (Table a) (Table b) e h k = ap Table (one_job values a b h k)
one_said values (Certify a) (Certify b) e h k = ap Certify (one_job values a b h.0 k.0)
one_said values (CertifyAll a) (CertifyAll b) e h k = ap CertifyAll (one_job values a b h.0 k.0)
one_said values (Certify a) (CertifyAll b) e h k = absurd (not_both values h.1 k.1)
one_said values (CertifyAll a) (Certify b) e h k = absurd (not_both values k.1 h.1)
one_said values (Session a) (Session b) e h k = ap Session (one_job values a b h k)
one_said values (Verify a) (Verify b) e h k = ap Verify (one_check values a b h k)
one_said values (Demo a) (Demo b) e h k = ap Demo (decimal_injective a b (omega (arith, h.1)) (omega (arith, k.1)) (one_value _ (decimal a) (decimal b) h.0 k.0))
one_said values (Graded a m) (Graded b n) e h k =
    let job = one_job values a b h.0 k.0 in
    let greatest = decimal_injective m n (omega (arith, h.2.2)) (omega (arith, k.2.2)) (one_value _ (decimal m) (decimal n) h.2.0 k.2.0) in
    λ i. Graded (job i) (greatest i)
one_said values (Tiers a) (Tiers b) e h k = ap Tiers (one_job values a b h k)
one_said values (Merge a) (Merge b) e h k = ap Merge (sym h.each ∙ k.each)
one_said values (Apply a) (Apply b) e h k = ap Apply (one_placing values a b h k)
one_said values a b e h k = absurd (cc)

-- a word that is that of no verb has none
pub no_verb : (word : Text) (verbs : List Verb) → AllByRecursion (λ v. word ≡ word_of v → ⊥) verbs → None ≡ find (λ v. bytes_eq (word_of v) word) verbs
no_verb word [] h = refl
no_verb word (v ∷ verbs) h = no_verb word verbs h.1 ∙ sym (ap (λ b. if b then Some v else find (λ w. bytes_eq (word_of w) word) verbs) (at (bytes_eq (word_of v) word) refl))
  where
    at : (b : Bool) → bytes_eq (word_of v) word ≡ b → bytes_eq (word_of v) word ≡ false
    at true e = absurd (h.0 (sym ((bytes_eq-Decides (word_of v) word).0 e)))
    at false e = e

-- a word has one verb
pub one_verb : (word : Text) (v w : Verb) → verb_of word ≡ Some v → verb_of word ≡ Some w → v ≡ w
one_verb word v w e f = ap (λ o. unwrap_or o v) (sym e ∙ f)

pub command_is_unique : CommandIsUnique
command_is_unique [] a b h k = absurd h
command_is_unique (word ∷ rest) a b h k =
    let same : verb_for a ≡ verb_for b = one_verb word (verb_for a) (verb_for b) h.0 k.0 in
    let other : IsCommandAfter (verb_for a) rest b = subst (λ v. IsCommandAfter v rest b) (sym same) k.1 in
    one_said h.1.values a b same h.1.said.says (subst (λ vs. Says vs b) (other.given.read ∙ sym h.1.given.read) other.said.says)

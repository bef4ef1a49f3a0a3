-- The names of a list, one after another.
use Rattle.std.proofs.Common.{◌≡◌, ℕ, ◌+◌, ◌<◌, ◌≤◌, Bool, true, false, not, List, [], ◌∷◌, length, take, Some, refl, subst, arith}
use Rattle.std.specs.Prelude.{◌↔◌, IsTrue, slice_get}
use Rattle.std.specs.List.{AllByRecursion, AllZip, zip}
use Rattle.std.proofs.lemmas.List.Elements.{All-from_recursion}
use Rattle.std.proofs.lemmas.List.{take_all}
use Rattle.desk_model.proofs.PairPlace.{there}
use Rattle.order_certificate.specs.Claim.{NamedTopic}
use Rattle.order_certificate.specs.Evidence.{AreUnjudged}
use Rattle.order_certificate.specs.declared.certificate.TopicWitness.{TopicWitness}
use Rattle.order_verifier.specs.Checks.{OfTopic}
use Rattle.order_verifier.specs.Refusal.{AreCompletions, IsFirstOther}
use Rattle.order_verifier.proofs.FirstFailing.{all_more}
use Rattle.order_verifier.proofs.Topics.{of_topic}
use Rattle.order_verifier.proofs.Unjudged.{IsUnjudgedName, unjudged_out}

pub not_true : (b : Bool) → not b ≡ true → b ≡ false
not_true true e = absurd (cc)
not_true false e = refl

pub not_false : (b : Bool) → not b ≡ false → b ≡ true
not_false true e = refl
not_false false e = absurd (cc)

-- a fact of each name, and of all
pub together : (t : NamedTopic) (names : List (List ℕ)) → AllByRecursion (λ name. AreUnjudged t (name ∷ [])) names → AreUnjudged t names
together t names h = All-from_recursion (IsUnjudgedName t) names (each names h)
  where
    each : (ns : List (List ℕ)) → AllByRecursion (λ name. AreUnjudged t (name ∷ [])) ns → AllByRecursion (IsUnjudgedName t) ns
    each [] k = tt
    each (n ∷ ns) k = (unjudged_out t n k.0, each ns k.1)

-- the names before one are those of unjudged documents
abbrev pub UnjudgedBefore : List NamedTopic → ℕ → List (List ℕ) → ℕ → Type 0
UnjudgedBefore topics k names i = OfTopic topics k (λ t. AllByRecursion (λ name. AreUnjudged t (name ∷ [])) (take i names))

module _ (topics : List NamedTopic) (k : ℕ) (names : List (List ℕ)) where
  pub none_before : k < length topics → UnjudgedBefore topics k names 0
  none_before lt = let t = there topics k lt in (t.0, t.1, tt)

  pub all_names : (i : ℕ) → length names ≤ i → UnjudgedBefore topics k names i → OfTopic topics k (λ t. AreUnjudged t names)
  all_names i past h =
      let whole : take i names ≡ names = take_all i names past in
      (h.0, h.1, together h.0 names (subst (AllByRecursion (λ name. AreUnjudged h.0 (name ∷ []))) whole h.2))

  module _ (i : ℕ) (name : List ℕ) (at : slice_get names i ≡ Some name) (before : UnjudgedBefore topics k names i) (b : Bool) (test : OfTopic topics k (λ t. IsTrue b ↔ AreUnjudged t (name ∷ []))) where
    pub one_more_name : b ≡ true → UnjudgedBefore topics k names (i + 1)
    one_more_name is = (test.0, test.1, all_more (λ n. AreUnjudged test.0 (n ∷ [])) names i name (of_topic topics k test.0 test.1 before) at (test.2.0 is))

    pub first_other_name : b ≡ false → OfTopic topics k (λ t. IsFirstOther t names i)
    first_other_name is = (
      test.0,
      test.1,
      record {
        before = of_topic topics k test.0 test.1 before;
        item = name;
        there = at;
        fails = λ h. let yes' : b ≡ true = test.2.1 h in cc;
      },
    )

-- ---- the lists of all topics
pub zip_completions : (ws : List TopicWitness) (ts : List NamedTopic) → length ws ≡ length ts → AllByRecursion AreCompletions (zip ws ts) → AllZip (λ (w : TopicWitness) t. AreUnjudged t w.low × AreUnjudged t w.high) ws ts
zip_completions [] [] e h = tt
zip_completions [] (t ∷ ts) e h = absurd (omega arith)
zip_completions (w ∷ ws) [] e h = absurd (omega arith)
zip_completions (w ∷ ws) (t ∷ ts) e h = (h.0, zip_completions ws ts (omega (arith, e)) h.1)

pub completions_zip : (ws : List TopicWitness) (ts : List NamedTopic) → AllZip (λ (w : TopicWitness) t. AreUnjudged t w.low × AreUnjudged t w.high) ws ts → AllByRecursion AreCompletions (zip ws ts)
completions_zip [] [] h = tt
completions_zip [] (t ∷ ts) h = absurd h
completions_zip (w ∷ ws) [] h = absurd h
completions_zip (w ∷ ws) (t ∷ ts) h = (h.0, completions_zip ws ts h.1)

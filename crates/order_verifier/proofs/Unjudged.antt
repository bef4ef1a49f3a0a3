-- Names of unjudged documents.
use Rattle.std.proofs.Common.{◌≡◌, ℕ, Bool, List, [], ◌∷◌, All, Some, None, ap, sym, ◌∙◌, subst}
use Rattle.std.specs.Prelude.{◌↔◌, IsTrue}
use Rattle.std.specs.List.{AllByRecursion}
use Rattle.std.proofs.lemmas.List.Elements.{recursion_from_All, All-from_recursion}
use Rattle.desk_model.specs.Mark.{is_unjudged, mark_at}
use Rattle.desk_model.specs.Name.{number_of}
use Rattle.desk_model.specs.declared.types.Mark.TheVariants.{Unjudged}
use Rattle.desk_model.proofs.MarkTests.{unjudged_is}
use Rattle.order_certificate.specs.Claim.{NamedTopic}
use Rattle.order_certificate.specs.Evidence.{AreUnjudged}

-- one name is that of an unjudged document
abbrev pub IsUnjudgedName : NamedTopic → List ℕ → Type 0
IsUnjudgedName t name = (doc : ℕ) × (number_of t.docs name ≡ Some doc) × (mark_at t.topic.marks doc ≡ Unjudged)

pub unjudged_one : (t : NamedTopic) (name : List ℕ) → IsUnjudgedName t name → AreUnjudged t (name ∷ [])
unjudged_one t name h = All-from_recursion (IsUnjudgedName t) (name ∷ []) (h, tt)

pub unjudged_out : (t : NamedTopic) (name : List ℕ) → AreUnjudged t (name ∷ []) → IsUnjudgedName t name
unjudged_out t name h = (recursion_from_All (IsUnjudgedName t) (name ∷ []) h).0

pub numbered_unjudged : (t : NamedTopic) (name : List ℕ) (doc : ℕ) → number_of t.docs name ≡ Some doc → AreUnjudged t (name ∷ []) → mark_at t.topic.marks doc ≡ Unjudged
numbered_unjudged t name doc e h =
    let found = unjudged_out t name h in
    let number = found.1 in
    let same : found.0 ≡ doc = cc in subst (λ d. mark_at t.topic.marks d ≡ Unjudged) same found.2

pub unnumbered : (t : NamedTopic) (name : List ℕ) → number_of t.docs name ≡ None → AreUnjudged t (name ∷ []) → ⊥
unnumbered t name e h =
    let found = unjudged_out t name h in
    let number = found.1 in cc

-- names of unjudged documents are those of documents
pub known_names : (t : NamedTopic) (names : List (List ℕ)) → AreUnjudged t names → All (λ name. (number : ℕ) × (number_of t.docs name ≡ Some number)) names
known_names t names h = All-from_recursion (λ name. (number : ℕ) × (number_of t.docs name ≡ Some number)) names (each names (recursion_from_All (IsUnjudgedName t) names h))
  where
    each : (ns : List (List ℕ)) → AllByRecursion (IsUnjudgedName t) ns → AllByRecursion (λ name. (number : ℕ) × (number_of t.docs name ≡ Some number)) ns
    each [] k = tt
    each (n ∷ ns) k = ((k.0.0, k.0.1), each ns k.1)

-- a test of a document's mark says whether its name is that of an unjudged one
pub tested : (t : NamedTopic) (name : List ℕ) (doc : ℕ) (b : Bool) → number_of t.docs name ≡ Some doc → b ≡ is_unjudged (mark_at t.topic.marks doc) → IsTrue b ↔ AreUnjudged t (name ∷ [])
tested t name doc b e is = (
  (λ yes. unjudged_one t name (doc, e, unjudged_is (mark_at t.topic.marks doc) (sym is ∙ yes))),
  (λ h. is ∙ ap is_unjudged (numbered_unjudged t name doc e h)),
)

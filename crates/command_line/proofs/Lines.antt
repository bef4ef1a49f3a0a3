-- The laws of words.
use Rattle.std.proofs.Common.{◌≡◌, zero, suc, List, [], ◌∷◌, ◌++◌, length, refl, ap, sym, subst, ◌∙◌, arith, inl, inr}
use Rattle.std.specs.Prelude.{Option, Some, None, ◌⊎◌, Contains}
use Rattle.std.proofs.lemmas.List.Elements.{All-contains}
use Rattle.clap.specs.Words.{Text}
use Rattle.clap.specs.Walk.{arg_by_long}
use Rattle.command_line.specs.Takes.{Takes, IsSound}
use Rattle.command_line.specs.Parser.{read_by}
use Rattle.command_line.specs.Given.{Values, IsOne, IsOneAtMost, Allows, AreGiven}
use Rattle.command_line.specs.Parts.{Part, AreParts, long_word, line_of, values_of, whole_line, given_by}
use Rattle.command_line.specs.Laws.{WordsGiveWhatPartsGive, IsTaken, TwiceIsRefused, EmptyIsRefused, MissingIsRefused, FlagWithValueIsRefused, UnknownIsRefused, EachLineIsOfParts}
use Rattle.command_line.proofs.Names.{among_names, IsLong, is_long, other_not}
use Rattle.command_line.proofs.Rows.{reads_of, shape_for}
use Rattle.command_line.proofs.Arrivals.{accepted, read}
use Rattle.command_line.proofs.Refusals.{missing_refused, unknown_refused, valued_refused}
use Rattle.command_line.proofs.Cutting.{words_of_parts}

read_all : (t : Takes) → IsSound t → (parts : List Part) (end : Option (List Text)) → AreParts t parts → read_by t (whole_line parts end) ≡ given_by t parts end
read_all t sound parts end are = λ i. λ k. read t sound parts end are k i

pub words_give_what_parts_give : WordsGiveWhatPartsGive
words_give_what_parts_give t parts end values sound are = (
  λ given. (given.read ∙ read_all t sound parts end are, given.allowed),
  λ (same, allowed). record { accepted = accepted t sound parts end are; read = same ∙ sym (read_all t sound parts end are); allowed = allowed },
)

-- ---- what is given once at most
either_among : (xs ys : List Text) (n : Text) → Contains (xs ++ ys) n → Contains xs n ⊎ Contains ys n
either_among [] ys n is = inr is
either_among (x ∷ xs) ys n (zero, lt, e) = inl (0, omega arith, e)
either_among (x ∷ xs) ys n (suc k, lt, e) = elim (either_among xs ys n (k, omega (arith, lt), e)) [
  | inl is ↦ inl (suc is.0, omega (arith, is.1), is.2)
  | inr is ↦ inr is
]

one_at_most : (t : Takes) (values : Values) (n : Text) → Allows t values → IsTaken t n → IsOneAtMost (values n)
one_at_most t values n allowed (inl option) = elim (either_among t.needed t.optional n option) [
  | inl needed ↦ inr (All-contains (λ name. IsOne (values name)) t.needed n allowed.needed needed)
  | inr optional ↦ All-contains (λ name. IsOneAtMost (values name)) t.optional n allowed.optional optional
]
one_at_most t values n allowed (inr flag) = All-contains (λ name. IsOneAtMost (values name)) t.flags n allowed.flags flag

-- what parts give a name that is taken
given_name : (t : Takes) → IsSound t → (parts : List Part) (end : Option (List Text)) (values : Values) (n : Text) → AreParts t parts → IsTaken t n → AreGiven t (whole_line parts end) values → IsOneAtMost (values_of n parts)
given_name t sound parts end values n are known given =
    let both : (values ≡ given_by t parts end) × Allows t values = (words_give_what_parts_give t parts end values sound are).0 given in
    let same : values n ≡ values_of n parts = ap (λ (v : Values). v n) both.0 ∙ rw (other_not t sound n (among_names t n known)) refl in
    subst IsOneAtMost same (one_at_most t values n both.1 known)

pub twice_is_refused : TwiceIsRefused
twice_is_refused t name first second more parts end sound are known e values given = elim (given_name t sound parts end values name are known given) [
  | inl none ↦ (let bad : first ∷ second ∷ more ≡ [] = sym e ∙ none in cc)
  | inr one ↦ (let bad : first ∷ second ∷ more ≡ one.0 ∷ [] = sym e ∙ one.1 in cc)
]

pub empty_is_refused : EmptyIsRefused
empty_is_refused t name parts end sound are option e values given = elim (given_name t sound parts end values name are (inl option) given) [
  | inl none ↦ (let bad : [] ∷ [] ≡ [] = sym e ∙ none in cc)
  | inr one ↦ (let same : [] ≡ one.0 = (let whole : [] ∷ [] ≡ one.0 ∷ [] = sym e ∙ one.1 in cc) in let none : 0 ≡ length one.0 = ap length same in absurd (omega (arith, one.2, none)))
]

-- ---- what clap refuses
pub missing_is_refused : MissingIsRefused
missing_is_refused t name parts rest sound are option none values given = missing_refused t sound parts name rest are option none given.accepted

pub flag_with_value_is_refused : FlagWithValueIsRefused
flag_with_value_is_refused t name value parts rest sound are flag values given = valued_refused t sound parts name value rest are flag given.accepted

pub unknown_is_refused : UnknownIsRefused
unknown_is_refused t name value parts rest sound are long other values given = by_name ((reads_of t sound).named name) value given
  where
    is : IsLong name
    is = is_long name long

    by_name : ((arg_by_long (shape_for t).rules name ≡ None) ⊎ IsTaken t name) → (value : Option Text) → AreGiven t (line_of parts ++ long_word name value ∷ rest) values → ⊥
    by_name (inr known) value given = other known
    by_name (inl none) None given = unknown_refused t sound parts (45 ∷ 45 ∷ name) name None rest are is.long is.more none given.accepted
    by_name (inl none) (Some v) given = unknown_refused t sound parts (45 ∷ 45 ∷ (name ++ 61 ∷ v)) name (Some v) rest are (is.joined v) (is.joined_more v) none given.accepted

pub each_line_is_of_parts : EachLineIsOfParts
each_line_is_of_parts t words values sound texts given = words_of_parts t sound words texts given.accepted

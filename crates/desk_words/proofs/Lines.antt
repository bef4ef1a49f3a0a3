-- The laws of lines, from those of the words of any command.
use Rattle.std.proofs.Common.{◌≡◌, Bool, true, false, true≢false, List, [], ◌∷◌, ◌++◌, refl, ap, sym, subst, ◌∙◌, codes}
use Rattle.std.specs.Prelude.{Option, Some, None, find, if◌then◌else◌, not}
use Rattle.std.specs.List.{list_all}
use Rattle.std.specs.Str.{bytes_eq, IsUtf8}
use Rattle.std.proofs.lemmas.List.Elements.{All-tail}
use Rattle.std.proofs.lemmas.Slice.Eq.{bytes_eq-Decides}
use Rattle.clap.specs.Words.{Text}
use Rattle.command_line.specs.Takes.{options, is_sound, IsSound}
use Rattle.command_line.specs.Given.{Values, Allows}
use Rattle.command_line.specs.Parts.{Part, AreParts, given_by, whole_line}
use Rattle.command_line.specs.Laws.{AreRefused, AreWordsOf, IsTaken}
use Rattle.command_line.proofs.Names.{both, each_of, among_names}
use Rattle.command_line.proofs.Lines as lines
use Rattle.desk_words.specs.Words.{IsCommandAfter, IsCommandOf, IsSaid, verb_for, all_verbs, takes, verb_of, word_of}
use Rattle.desk_words.specs.Laws.{AreUsage, PartsSay, PartsSayTheCommand, OrderIsFree, TwiceIsUsage, EmptyIsUsage, MissingIsUsage, FlagWithValueIsUsage, UnknownIsUsage, HelpIsUsage, EachLineIsOfParts}
use Rattle.desk_words.specs.declared.read.Verb.{Verb}
use Rattle.desk_words.specs.declared.command.Command.{Command}
use Rattle.desk_words.proofs.Commands.{one_verb}

-- ---- what holds of each verb holds of that of a word
found_passes : (p q : Verb → Bool) (vs : List Verb) (v : Verb) → list_all q vs ≡ true → find p vs ≡ Some v → q v ≡ true
found_passes p q [] v all is = cc
found_passes p q (x ∷ xs) v all is = by_first (p x) refl (found_passes p q xs v (both (q x) (list_all q xs) all).1)
  where
    by_first : (b : Bool) → p x ≡ b → (find p xs ≡ Some v → q v ≡ true) → q v ≡ true
    by_first true e rest = let first : Some x ≡ Some v = sym (ap (λ b. if b then Some x else find p xs) e) ∙ is in let same : x ≡ v = cc in subst (λ w. q w ≡ true) same (both (q x) (list_all q xs) all).0
    by_first false e rest = rest (sym (ap (λ b. if b then Some x else find p xs) e) ∙ is)

module _ (word : Text) (v : Verb) (of : verb_of word ≡ Some v) where
  sound : IsSound (takes v)
  sound = found_passes (λ w. bytes_eq (word_of w) word) (λ w. is_sound (takes w)) all_verbs v refl of

  -- the command of words whose first is of the verb
  after_verb : (rest : List Text) (command : Command) → IsCommandOf (word ∷ rest) command → IsCommandAfter v rest command
  after_verb rest command h = subst (λ w. IsCommandAfter w rest command) (one_verb word (verb_for command) v h.0 of) h.1

  pub command_of : (rest : List Text) (command : Command) → IsCommandAfter v rest command → IsCommandOf (word ∷ rest) command
  command_of rest command h = (of ∙ ap Some (sym h.said.of_verb), subst (λ w. IsCommandAfter w rest command) (sym h.said.of_verb) h)

  refused : (rest : List Text) → AreRefused (takes v) rest → AreUsage (word ∷ rest)
  refused rest none command h = let after = after_verb rest command h in none after.values after.given

  -- ---- parts
  says_from : (parts : List Part) (end : Option (List Text)) (command : Command) → AreParts (takes v) parts → IsCommandOf (word ∷ whole_line parts end) command → PartsSay v parts end command
  says_from parts end command are h =
      let after : IsCommandAfter v (whole_line parts end) command = after_verb (whole_line parts end) command h in
      let same = (lines.words_give_what_parts_give (takes v) parts end after.values sound are).0 after.given in
      record { allowed = subst (Allows (takes v)) same.0 same.1; said = subst (λ vs. IsSaid v vs command) same.0 after.said }

  pub says_to : (parts : List Part) (end : Option (List Text)) (command : Command) → AreParts (takes v) parts → PartsSay v parts end command → IsCommandOf (word ∷ whole_line parts end) command
  says_to parts end command are h =
      let values : Values = given_by (takes v) parts end in
      command_of (whole_line parts end) command (record { values = values; given = (lines.words_give_what_parts_give (takes v) parts end values sound are).1 (refl, h.allowed); said = h.said })

pub parts_say_the_command : PartsSayTheCommand
parts_say_the_command word v parts end command of are = (says_from word v of parts end command are, says_to word v of parts end command are)

pub order_is_free : OrderIsFree
order_is_free word v parts others end other_end command of are other_are values words h =
    let said = says_from word v of parts end command are h in
    let same : given_by (takes v) parts end ≡ given_by (takes v) others other_end = λ i. λ name. if bytes_eq (takes v).other name then words i else values name i in
    says_to word v of others other_end command other_are (record { allowed = subst (Allows (takes v)) same said.allowed; said = subst (λ vs. IsSaid v vs command) same said.said })

pub twice_is_usage : TwiceIsUsage
twice_is_usage word name first second v more parts end of are known e = refused word v of _ (lines.twice_is_refused (takes v) name first second more parts end (sound word v of) are known e)

pub empty_is_usage : EmptyIsUsage
empty_is_usage word name v parts end of are option e = refused word v of _ (lines.empty_is_refused (takes v) name parts end (sound word v of) are option e)

pub missing_is_usage : MissingIsUsage
missing_is_usage word name v parts rest of are option none = refused word v of _ (lines.missing_is_refused (takes v) name parts rest (sound word v of) are option none)

pub flag_with_value_is_usage : FlagWithValueIsUsage
flag_with_value_is_usage word name value v parts rest of are flag = refused word v of _ (lines.flag_with_value_is_refused (takes v) name value parts rest (sound word v of) are flag)

pub unknown_is_usage : UnknownIsUsage
unknown_is_usage word name v value parts rest of are long other = refused word v of _ (lines.unknown_is_refused (takes v) name value parts rest (sound word v of) are long other)

pub each_line_is_of_parts : EachLineIsOfParts
each_line_is_of_parts [] command texts h = absurd h
each_line_is_of_parts (word ∷ rest) command texts h =
    let v : Verb = verb_for command in
    let cut : AreWordsOf (takes v) rest = lines.each_line_is_of_parts (takes v) rest h.1.values (sound word v h.0) (All-tail IsUtf8 word rest texts) h.1.given in
    let line : word ∷ rest ≡ word ∷ whole_line cut.parts cut.end = ap (λ ws. word ∷ ws) cut.line in
    record {
      word = word;
      verb = v;
      parts = cut.parts;
      end = cut.end;
      of_verb = h.0;
      are_parts = cut.are_parts;
      line = line;
      says = says_from word v h.0 cut.parts cut.end command cut.are_parts (subst (λ ws. IsCommandOf ws command) line h);
    }

-- ---- names that no command takes
abbrev takes_no : Text → Verb → Bool
takes_no name v = list_all (λ n. not (bytes_eq n name)) (options (takes v) ++ (takes v).flags)

not_taken : (name word : Text) (v : Verb) → list_all (takes_no name) all_verbs ≡ true → verb_of word ≡ Some v → IsTaken (takes v) name → ⊥
not_taken name word v none of known =
    let lacks : list_all (λ n. not (bytes_eq n name)) (options (takes v) ++ (takes v).flags) ≡ true = found_passes (λ w. bytes_eq (word_of w) word) (takes_no name) all_verbs v none of in
    let no : not (bytes_eq name name) ≡ true = each_of (λ n. not (bytes_eq n name)) (options (takes v) ++ (takes v).flags) lacks name (among_names (takes v) name known) in
    true≢false (sym no ∙ ap not ((bytes_eq-Decides name name).1 refl))

pub help_is_usage : HelpIsUsage
help_is_usage word v parts rest of are = (
  unknown_is_usage word (codes "help") v None parts rest of are refl (not_taken (codes "help") word v refl of),
  unknown_is_usage word (codes "version") v None parts rest of are refl (not_taken (codes "version") word v refl of),
)

-- The clap command that is made of what a command takes.
use Rattle.std.proofs.Common.{◌≡◌, ℕ, ◌+◌, ◌<◌, List, [], ◌∷◌, ◌++◌, length, get_or, take, map, ap, sym, ◌∙◌, append_assoc}
use Rattle.std.specs.Borrow.{Bor}
use Rattle.std.proofs.lemmas.List.{map_more, map-append}
use Rattle.clap.specs.Words.{App, Rule, Text, with_rule}
use Rattle.command_line.specs.Takes.{Takes}
use Rattle.command_line.specs.Parser.{app_for, bare_app, flag_rule, option_rule, other_rule, with_rules}

more_rules : (a : App) (xs ys : List Rule) → with_rules (with_rules a xs) ys ≡ with_rules a (xs ++ ys)
more_rules a xs ys = ap (λ (rs : List Rule). record a { top = record a.top { rules = rs } }) (append_assoc a.top.rules xs ys)

abbrev pub names_of : List (Bor Text) → List Text
names_of names = map (λ (n : Bor Text). n.now) names

-- one rule more
pub one_more : (rule : Text → Rule) (names : List (Bor Text)) (i : ℕ) (d : Bor Text) (a b c : App) → i < length names → b ≡ with_rules a (map rule (names_of (take i names))) → c ≡ with_rule b (rule (get_or names i d).now)
    → c ≡ with_rules a (map rule (names_of (take (i + 1) names)))
one_more rule names i d a b c lt so_far is =
    let name : Text = (get_or names i d).now in
    let before : List Text = names_of (take i names) in
    is ∙ ap (λ (x : App). with_rule x (rule name)) so_far ∙ more_rules a (map rule before) (rule name ∷ [])
    ∙ ap (with_rules a) (sym (map-append rule before (name ∷ []))) ∙ ap (λ (ns : List Text). with_rules a (map rule ns)) (sym (map_more (λ (n : Bor Text). n.now) names i d lt))

-- all rules of a row
pub all_rules : (t u : Takes) → t ≡ u → (bare needed optional flagged all : App) → bare ≡ bare_app
    → needed ≡ with_rules bare (map option_rule t.needed) → optional ≡ with_rules needed (map option_rule t.optional) → flagged ≡ with_rules optional (map flag_rule t.flags)
    → all ≡ with_rule flagged (other_rule t.other) → all ≡ app_for u
all_rules t u same bare needed optional flagged all is one two three four =
    let ns : List Rule = map option_rule t.needed in
    let os : List Rule = map option_rule t.optional in
    let fs : List Rule = map flag_rule t.flags in
    let last : List Rule = other_rule t.other ∷ [] in
    let first : needed ≡ with_rules bare_app ns = one ∙ ap (λ (a : App). with_rules a ns) is in
    let second : optional ≡ with_rules bare_app (ns ++ os) = two ∙ ap (λ (a : App). with_rules a os) first ∙ more_rules bare_app ns os in
    let third : flagged ≡ with_rules bare_app ((ns ++ os) ++ fs) = three ∙ ap (λ (a : App). with_rules a fs) second ∙ more_rules bare_app (ns ++ os) fs in
    four ∙ ap (λ (a : App). with_rules a last) third ∙ more_rules bare_app ((ns ++ os) ++ fs) last
    ∙ ap (with_rules bare_app) (append_assoc (ns ++ os) fs last)
    ∙ ap (λ (rs : List Rule). with_rules bare_app (rs ++ (fs ++ last))) (sym (map-append option_rule t.needed t.optional)) ∙ ap app_for same

use Rattle.std.proofs.Common.{◌≡◌, [], ◌∷◌, ◌++◌, ap, sym, ◌∙◌, subst, length, Some, position}
use Rattle.std.specs.Prelude.{cond, not, IfSome, IfNone}
use Rattle.std.specs.Str.{bytes_eq}
use Rattle.name_table.proofs.Positions.{last_position, is_there, not_there}
use Rattle.name_table.proofs.distinct_names.DistinctNames.insert.Goals as goal

pub returns-in-Some-clause-new : goal.returns-in-Some-clause-new
returns-in-Some-clause-new c =
    let name = c.args.name.now in
    let old = c.args.self.now in
    let found : c.in_ok-found.field-0 ≡ position (bytes_eq name) old = c.in_ok-found.ensures.number ∙ ap (position (bytes_eq name)) c.self.view_is in
    ap not (sym (is_there name old c.in-Some.found (sym found ∙ c.in-Some.is)))

pub returns-in-Some-clause-names : goal.returns-in-Some-clause-names
returns-in-Some-clause-names c =
    let name = c.args.name.now in
    let old = c.args.self.now in
    let names = c.self.inside.names in
    let found : c.in_ok-found.field-0 ≡ position (bytes_eq name) old = c.in_ok-found.ensures.number ∙ ap (position (bytes_eq name)) c.self.view_is in
    let any = is_there name old c.in-Some.found (sym found ∙ c.in-Some.is) in
    let kept : c.found_or_pushed.new.names ≡ names = subst (λ f. IfSome f (λ _. c.found_or_pushed.new.names ≡ names)) c.in-Some.is c.in_ok-found.ensures.found in
    kept ∙ c.self.view_is ∙ sym (ap (λ b. cond b old (old ++ name ∷ [])) any)

pub returns-in-None-clause-number : goal.returns-in-None-clause-number
returns-in-None-clause-number c =
    let name = c.args.name.now in
    let old = c.args.self.now in
    let names = c.self.inside.names in
    let found : c.in_ok-found.field-0 ≡ position (bytes_eq name) old = c.in_ok-found.ensures.number ∙ ap (position (bytes_eq name)) c.self.view_is in
    let any = not_there old name (sym found ∙ c.in-None.is) in
    let pushed : c.found_or_pushed.new.names ≡ names ++ name ∷ [] = subst (λ f. IfNone f (c.found_or_pushed.new.names ≡ names ++ name ∷ [])) c.in-None.is c.in_ok-found.ensures.pushed in
    ap (position (bytes_eq name)) (pushed ∙ ap (λ ns. ns ++ name ∷ []) c.self.view_is) ∙ last_position name old any ∙ ap (λ n. Some n) (sym (c.len-i.ensures ∙ ap length c.self.view_is))

pub returns-in-None-clause-new : goal.returns-in-None-clause-new
returns-in-None-clause-new c =
    let name = c.args.name.now in
    let old = c.args.self.now in
    let found : c.in_ok-found.field-0 ≡ position (bytes_eq name) old = c.in_ok-found.ensures.number ∙ ap (position (bytes_eq name)) c.self.view_is in
    ap not (sym (not_there old name (sym found ∙ c.in-None.is)))

pub returns-in-None-clause-names : goal.returns-in-None-clause-names
returns-in-None-clause-names c =
    let name = c.args.name.now in
    let old = c.args.self.now in
    let names = c.self.inside.names in
    let found : c.in_ok-found.field-0 ≡ position (bytes_eq name) old = c.in_ok-found.ensures.number ∙ ap (position (bytes_eq name)) c.self.view_is in
    let any = not_there old name (sym found ∙ c.in-None.is) in
    let pushed : c.found_or_pushed.new.names ≡ names ++ name ∷ [] = subst (λ f. IfNone f (c.found_or_pushed.new.names ≡ names ++ name ∷ [])) c.in-None.is c.in_ok-found.ensures.pushed in
    pushed ∙ ap (λ ns. ns ++ name ∷ []) c.self.view_is ∙ sym (ap (λ b. cond b old (old ++ name ∷ [])) any)

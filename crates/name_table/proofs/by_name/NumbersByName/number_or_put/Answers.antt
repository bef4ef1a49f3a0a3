use Rattle.std.proofs.Common.{◌≡◌, ap, ◌∙◌, Some, false, unwrap_or}
use Rattle.std.specs.Prelude.{cond}
use Rattle.std.specs.Str.{bytes_eq}
use Rattle.std.proofs.lemmas.Cmp.{nat_list_eq_equiv}
use Rattle.name_table.specs.Table.{number_in}
use Rattle.name_table.proofs.ByName.{named, number-put, lookup_named}
use Rattle.name_table.proofs.by_name.NumbersByName.number_or_put.Goals as goal

pub returns-clause-number : goal.returns-clause-number
returns-clause-number c =
    let name = c.args.name.now in
    let es = c.self.inside.numbers.entries in
    let key = c.in_ok-key.key in
    c.in_ok-found.ensures.number
    ∙ ap (λ found. unwrap_or found c.args.number) (lookup_named key.items es ∙ ap (λ bytes. number_in bytes (named es)) c.in_ok-key.ensures.items ∙ ap (number_in name) c.self.view_is)

pub returns-clause-put : goal.returns-clause-put
returns-clause-put c =
    let name = c.args.name.now in
    let es = c.self.inside.numbers.entries in
    let key = c.in_ok-key.key in
    let given = c.in_ok-found.found in
    ap (λ entries. number_in name (named entries)) c.in_ok-found.ensures.entries ∙ number-put name es key given
    ∙ ap (λ bytes. cond (bytes_eq name bytes) (Some given) (number_in name (named es))) c.in_ok-key.ensures.items
    ∙ ap (λ b. cond b (Some given) (number_in name (named es))) (nat_list_eq_equiv.refl name)

pub returns-clause-others : goal.returns-clause-others
returns-clause-others c = λ other apart.
    let name = c.args.name.now in
    let es = c.self.inside.numbers.entries in
    let key = c.in_ok-key.key in
    let given = c.in_ok-found.found in
    let differs : bytes_eq other key.items ≡ false = ap (bytes_eq other) c.in_ok-key.ensures.items ∙ nat_list_eq_equiv.symm other name ∙ apart in
    ap (λ entries. number_in other (named entries)) c.in_ok-found.ensures.entries ∙ number-put other es key given
    ∙ ap (λ b. cond b (Some given) (number_in other (named es))) differs ∙ ap (number_in other) c.self.view_is

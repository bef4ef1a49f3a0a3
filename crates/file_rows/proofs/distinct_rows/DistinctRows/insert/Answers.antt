use Rattle.std.proofs.Common.{◌≡◌, List, length, false, sym, ap, ap₂, ◌∙◌, ◌++◌, ◌∷◌, []}
use Rattle.std.specs.Prelude.{map, not, cond, ℤ}
use Rattle.std.specs.List.{list_any}
use Rattle.std.specs.Str.{bytes_eq}
use Rattle.std.proofs.lemmas.List.{length-map, map-append}
use Rattle.file_rows.specs.Grouped.{Valued, stands_in}
use Rattle.file_rows.specs.Names.{valued_in}
use Rattle.file_rows.proofs.Mapped.{not-true}
use Rattle.file_rows.proofs.RowFiles.{valued}
use Rattle.file_rows.proofs.Zipped.{members_in-append, stands_in-members}
use Rattle.file_rows.proofs.distinct_rows.DistinctRows.insert.Goals as goal

-- the numbers of values of which one was put at the end
numbers_pushed : {V : Type 0} (number : V → ℤ) (old kept new : List V) (value : V) → kept ≡ old → new ≡ kept ++ value ∷ [] → map number new ≡ map number old ++ number value ∷ []
numbers_pushed number old kept new value e f = ap (map number) (f ∙ ap (λ vs. vs ++ value ∷ []) e) ∙ map-append number old (value ∷ [])

pub returns-then-not-is_new-clause-new : goal.returns-then-not-is_new-clause-new
returns-then-not-is_new-clause-new g c =
    let values = c.self.inside.values.items in
    let document = c.args.document.now in
    let same : length c.self.inside.documents ≡ length (map g.V.RowValue.number values) = c.self.invariant ∙ sym (length-map values g.V.RowValue.number) in
    let any : list_any (bytes_eq document) c.self.inside.documents ≡ stands_in document c.args.self.now =
    sym (stands_in-members document c.self.inside.documents (map g.V.RowValue.number values) same) ∙ ap (stands_in document) c.self.view_is in
    sym c.if-not-is_new.true ∙ c.in_ok-is_new.ensures.new ∙ ap not any

pub returns-clause-new : goal.returns-clause-new
returns-clause-new g c =
    let values = c.self.inside.values.items in
    let document = c.args.document.now in
    let same : length c.self.inside.documents ≡ length (map g.V.RowValue.number values) = c.self.invariant ∙ sym (length-map values g.V.RowValue.number) in
    let any : list_any (bytes_eq document) c.self.inside.documents ≡ stands_in document c.args.self.now =
    sym (stands_in-members document c.self.inside.documents (map g.V.RowValue.number values) same) ∙ ap (stands_in document) c.self.view_is in
    sym c.if-not-is_new.false ∙ c.in_ok-is_new.ensures.new ∙ ap not any

pub returns-clause-rows : goal.returns-clause-rows
returns-clause-rows g c =
    let values = c.self.inside.values.items in
    let documents = c.self.inside.documents in
    let document = c.args.document.now in
    let number = g.V.RowValue.number in
    let same : length documents ≡ length (map number values) = c.self.invariant ∙ sym (length-map values number) in
    let none : list_any (bytes_eq document) documents ≡ false = not-true (list_any (bytes_eq document) documents) (sym c.in_ok-is_new.ensures.new ∙ c.if-not-is_new.false) in
    let put : c.insert.new.self ≡ documents ++ document ∷ [] = c.in_ok-is_new.ensures.names ∙ ap (λ b. cond b documents (documents ++ document ∷ [])) none in
    let more = numbers_pushed number values c.reserve.new.self.items c.push_reserved.new.self.items c.args.value c.reserve.ensures.items c.push_reserved.ensures.items in
    let made = members_in-append documents (map number values) document (number c.args.value) same in
    ◌∙◌ {A = List Valued} (ap₂ valued_in put more) (made ∙ ap (λ js. js ++ valued document (number c.args.value) ∷ []) c.self.view_is)

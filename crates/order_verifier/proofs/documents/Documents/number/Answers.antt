use Rattle.std.proofs.Common.{◌≡◌, ◌<◌, ℕ, List, [], true, length, get_or, ap, ◌∙◌, arith, subst, sym}
use Rattle.std.proofs.lemmas.List.{length-map}
use Rattle.desk_model.specs.Name.{number_of}
use Rattle.order_verifier.specs.Rows.{AreNumbered, ListedOn, OfRow, is_picked, names_listed}
use Rattle.order_verifier.proofs.Numbered.{number_there, picked_there}
use Rattle.order_verifier.proofs.documents.Documents.number.Goals as goal

pub returns-in-Picks : goal.returns-in-Picks
returns-in-Picks c =
    let docs = c.self.inside.book.now.docs in
    let names = c.self.inside.names.now in
    let picks = c.self.inside.picks.now in
    let place = c.args.place in
    let listed : record { docs = docs; names = names_listed names picks true } ≡ c.args.self.now = subst (λ f. record { docs = docs; names = names_listed names picks (is_picked f) } ≡ c.args.self.now) c.in-Picks.is c.self.view_is in
    let at : ℕ → List ℕ = λ k. get_or names k [] in
    let within : place < length picks = omega (arith, subst (λ (l : ListedOn). place < length l.names) (sym listed) c.requires, length-map picks at) in
    subst (λ (l : ListedOn). OfRow l.names place (λ name. c.number_near-in-Picks.result ≡ number_of l.docs name)) listed
    (get_or names (get_or picks place 0) [], picked_there names picks place 0 within, c.number_near-in-Picks.ensures ∙ ap (number_of docs) c.name_at-name.ensures)

pub returns-in-NumberedPicks : goal.returns-in-NumberedPicks
returns-in-NumberedPicks c =
    let docs = c.self.inside.book.now.docs in
    let names = c.self.inside.names.now in
    let picks = c.self.inside.picks.now in
    let place = c.args.place in
    let listed : record { docs = docs; names = names_listed names picks true } ≡ c.args.self.now = subst (λ f. record { docs = docs; names = names_listed names picks (is_picked f) } ≡ c.args.self.now) c.in-NumberedPicks.is c.self.view_is in
    let at : ℕ → List ℕ = λ k. get_or names k [] in
    let within : place < length picks = omega (arith, subst (λ (l : ListedOn). place < length l.names) (sym listed) c.requires, length-map picks at) in
    let numbers = subst (λ f. AreNumbered f docs names c.self.inside.numbers.now) c.in-NumberedPicks.is c.self.invariant.0 in
    subst (λ (l : ListedOn). OfRow l.names place (λ name. c.number_at.result ≡ number_of l.docs name)) listed
    (get_or names (get_or picks place 0) [], picked_there names picks place 0 within, c.number_at.ensures ∙ number_there docs names c.self.inside.numbers.now (get_or picks place 0) numbers)

use Rattle.std.proofs.Common.{[], rules, sym, map}
use Rattle.std.proofs.lemmas.Fn.{always_returns_same}
use Rattle.desk_model.specs.Name.{name_cmp, AreAscending}
use Rattle.desk_model.specs.Book.{Book}
use Rattle.desk_model.proofs.Names.{found_number, no_number}
use Rattle.desk_model.proofs.desk.Desk.find_topic.Goals as goal

no_book : Book
no_book = record { name = []; docs = []; grades = [] }

pub returns-in-Ok : goal.returns-in-Ok
returns-in-Ok c =
    let topics = c.deref-topics.result.now in
    let by = c.in-Ok.ensures.position (λ (each : Book). name_cmp each.name c.args.name.now) (always_returns_same _ _ _ (λ a r g called. search rules)) in
    let up : AreAscending (map (λ (book : Book). book.name) topics) = rw c.deref-topics.ensures.value c.self.invariant.ascending in
    rw (← c.self.view_is, ← c.deref-topics.ensures.value) (sym (found_number (λ (book : Book). book.name) topics up c.args.name.now no_book c.in-Ok.at c.in-Ok.ensures.bound by))

pub returns-in-Err : goal.returns-in-Err
returns-in-Err c =
    let topics = c.deref-topics.result.now in
    let by = c.in-Err.ensures.position (λ (each : Book). name_cmp each.name c.args.name.now) (always_returns_same _ _ _ (λ a r g called. search rules)) in
    let up : AreAscending (map (λ (book : Book). book.name) topics) = rw c.deref-topics.ensures.value c.self.invariant.ascending in
    rw (← c.self.view_is, ← c.deref-topics.ensures.value) (sym (no_number (λ (book : Book). book.name) topics up c.args.name.now no_book c.in-Err.field-0 c.in-Err.ensures.bound by))

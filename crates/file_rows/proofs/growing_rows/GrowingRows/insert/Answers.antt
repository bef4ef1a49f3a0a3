use Rattle.std.proofs.Common.{◌≡◌, Bool, List, true, sym, ap, ap₂, ◌∙◌, subst}
use Rattle.std.specs.Prelude.{not, cond, Result, Ok, Err, IfOk}
use Rattle.std.specs.declared.alloc.AllocError.{AllocError}
use Rattle.file_rows.specs.Rows.{Row}
use Rattle.file_rows.specs.Grouped.{TopicRows, stands_in, rows_at, rows_in, valued_of, with_valued, with_row_on}
use Rattle.file_rows.proofs.Places.{at_name, put_at, no_place, put_new, members_at-new, members_on-none}
use Rattle.file_rows.proofs.growing_rows.GrowingRows.insert.Goals as goal

-- what a new row makes of the topics
when_new : (r : Result Bool AllocError) (new more same other : List TopicRows) → IfOk r (λ b. new ≡ cond b more same) → more ≡ other → IfOk r (λ b. b ≡ true → new ≡ other)
when_new (Ok b) new more same other e f = λ h. e ∙ ap (λ b. cond b more same) h ∙ f
when_new (Err x) new more same other e f = tt

pub insert_at-requires-clause-topic : goal.insert_at-requires-clause-topic
insert_at-requires-clause-topic g c = (at_name c.args.self.now c.args.topic.now c.in-Some.t (sym c.requires.place ∙ c.in-Some.is)).0

pub add_topic-requires : goal.add_topic-requires
add_topic-requires g c = no_place c.args.topic.now c.args.self.now (sym c.requires.place ∙ c.in-None.is)

pub returns-in-Some-clause-new : goal.returns-in-Some-clause-new
returns-in-Some-clause-new g c =
    let at = at_name c.args.self.now c.args.topic.now c.in-Some.t (sym c.requires.place ∙ c.in-Some.is) in
    subst (λ rows. IfOk c.insert_at.result (λ is_new. is_new ≡ not (stands_in c.args.document.now rows))) at.1 c.insert_at.ensures.new

pub returns-in-Some-clause-added : goal.returns-in-Some-clause-added
returns-in-Some-clause-added g c =
    let topics = c.args.self.now in
    let row : Row = record { topic = c.args.topic.now; document = c.args.document.now; value = g.V.RowValue.number c.args.value } in
    when_new c.insert_at.result c.insert_at.new.self (with_valued topics c.in-Some.t (valued_of row)) topics (with_row_on topics row) c.insert_at.ensures.rows
    (put_at topics row c.in-Some.t (sym c.requires.place ∙ c.in-Some.is))

pub returns-in_ok-add_topic-in-None-clause-new : goal.returns-in_ok-add_topic-in-None-clause-new
returns-in_ok-add_topic-in-None-clause-new g c =
    let topics = c.args.self.now in
    let name = c.args.topic.now in
    let none = no_place name topics (sym c.requires.place ∙ c.in-None.is) in
    let empty : rows_at c.add_topic.new.self c.topics-t.result ≡ rows_in name topics =
    ap₂ rows_at c.in_ok-add_topic-in-None.ensures.ok c.topics-t.ensures ∙ members_at-new topics name ∙ sym (members_on-none name topics none) in
    subst (λ rows. IfOk c.insert_at-in-None.result (λ is_new. is_new ≡ not (stands_in c.args.document.now rows))) empty c.insert_at-in-None.ensures.new

pub returns-in_ok-add_topic-in-None-clause-added : goal.returns-in_ok-add_topic-in-None-clause-added
returns-in_ok-add_topic-in-None-clause-added g c =
    let topics = c.args.self.now in
    let row : Row = record { topic = c.args.topic.now; document = c.args.document.now; value = g.V.RowValue.number c.args.value } in
    let none = no_place row.topic topics (sym c.requires.place ∙ c.in-None.is) in
    when_new c.insert_at-in-None.result c.insert_at-in-None.new.self (with_valued c.add_topic.new.self c.topics-t.result (valued_of row)) c.add_topic.new.self (with_row_on topics row) c.insert_at-in-None.ensures.rows
    (ap₂ (λ ts t. with_valued ts t (valued_of row)) c.in_ok-add_topic-in-None.ensures.ok c.topics-t.ensures ∙ put_new topics row none)

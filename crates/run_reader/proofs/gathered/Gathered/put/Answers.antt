use Rattle.std.proofs.Common.{◌≡◌, ℕ, List, sym, ap, ◌∙◌}
use Rattle.std.specs.Prelude.{position, Option, Some}
use Rattle.std.specs.Str.{bytes_eq}
use Rattle.file_rows.specs.Rows.{Row}
use Rattle.file_rows.specs.Grouped.{TopicRows, valued_of, names_of, place_of, with_row_on}
use Rattle.run_reader.specs.Reader.{row_said}
use Rattle.file_rows.proofs.Places.{put_at, names_of-with_valued}
use Rattle.file_rows.proofs.Chains.{on_ok}
use Rattle.run_reader.proofs.gathered.Gathered.put.Goals as goal

-- a row of a topic that has a place leaves the places of all topics
places_stay : (topics more : List TopicRows) (row : Row) (t : ℕ) (name : List ℕ) (last : Option ℕ) → place_of row.topic topics ≡ Some t → last ≡ place_of name topics → more ≡ with_row_on topics row → last ≡ place_of name more
places_stay topics more row t name last e f g =
    f ∙ ap (position (bytes_eq name)) (sym (ap names_of (g ∙ sym (put_at topics row t e)) ∙ names_of-with_valued topics t (valued_of row)))

pub returns-in-Some-clause-tracked : goal.returns-in-Some-clause-tracked
returns-in-Some-clause-tracked c =
    on_ok c.in_ok-told.told
    (places_stay c.args.self.now.kept c.put_row.new.self (row_said c.args.row.now) c.in-Some.field-0 c.args.self.now.last_topic.items c.args.self.now.last (sym c.requires.place ∙ c.in-Some.is) c.requires.tracked)
    c.in_ok-told.ensures.added

pub returns-in_ok-look_up-in-None-clause-added : goal.returns-in_ok-look_up-in-None-clause-added
returns-in_ok-look_up-in-None-clause-added c = on_ok c.in_ok-told.told (λ e. c.look_up.ensures.kept ∙ e) c.in_ok-told.ensures.added

pub returns-in_ok-look_up-in-None-clause-tracked : goal.returns-in_ok-look_up-in-None-clause-tracked
returns-in_ok-look_up-in-None-clause-tracked c = on_ok c.in_ok-told.told (λ _. c.in_ok-look_up-in-None.ensures.last) c.in_ok-told.ensures.added

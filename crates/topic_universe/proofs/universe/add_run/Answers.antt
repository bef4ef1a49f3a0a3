use Rattle.std.proofs.Common.{◌≡◌, true, List, map, sym, subst}
use Rattle.std.specs.Prelude.{All}
use Rattle.std.proofs.lemmas.List.Elements.{All-map}
use Rattle.desk_model.specs.Name.{is_name}
use Rattle.file_rows.specs.Grouped.{Valued}
use Rattle.run_reader.specs.Run.{rows_on_topic}
use Rattle.topic_universe.specs.Names.{AddsNames}
use Rattle.topic_universe.specs.Order.{IsTrecOrder}
use Rattle.topic_universe.specs.Universe.{retrieved}
use Rattle.topic_universe.proofs.Sets.{Gathers-moved, Gathers-none}
use Rattle.topic_universe.proofs.Numbers.{ranked_documents}
use Rattle.topic_universe.proofs.Topics.{none_ranked}
use Rattle.topic_universe.proofs.universe.add_run.Goals as goal

pub returns-in_ok-add_ranked-in-Some : goal.returns-in_ok-add_ranked-in-Some
returns-in_ok-add_ranked-in-Some c =
    let rows = rows_on_topic c.args.run.now c.args.topic.now in
    let ranked = c.in-Some.ranked.now in
    let all : All (λ name. is_name name ≡ true) (retrieved c.args.topic.now c.args.run.now) = All-map (λ name. is_name name ≡ true) (λ (row : Valued). row.document) rows c.names_on.ensures.names in
    record {
      names = Gathers-moved c.args.names.now ranked (retrieved c.args.topic.now c.args.run.now) c.add_ranked.new.names c.requires all (ranked_documents rows ranked c.in-Some.ensures.order) c.in_ok-add_ranked-in-Some.ensures.names;
      numbers = record { within = c.in_ok-add_ranked-in-Some.ensures.within; order = subst (IsTrecOrder rows) (sym c.in_ok-add_ranked-in-Some.ensures.numbers) c.in-Some.ensures.order };
    }

pub returns-in-None : goal.returns-in-None
returns-in-None c = record {
  names = subst (λ (rows : List Valued). AddsNames c.args.names.now (map (λ (row : Valued). row.document) rows) c.args.names.now) (sym c.in-None.ensures.order) (Gathers-none c.args.names.now c.requires);
  numbers = none_ranked c.args.names.now _ c.new.result.items c.in-None.ensures.order c.new.ensures.items;
}

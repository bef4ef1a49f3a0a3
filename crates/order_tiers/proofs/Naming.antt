-- The order of a table by the name of its measure.
use Rattle.std.proofs.Common.{ℕ, List, map, length, get_or, sym, subst}
use Rattle.std.specs.Prelude.{All}
use Rattle.desk_model.specs.Desk.{Desk, IsDesk, AreMarksOf, topics_under}
use Rattle.desk_model.specs.Extremes.{Ends}
use Rattle.desk_model.specs.Order.{Topic}
use Rattle.desk_model.specs.Verdict.{verdict}
use Rattle.desk_model.specs.declared.types.Mark.{Mark}
use Rattle.desk_model.specs.declared.types.MeasureName.{MeasureName}
use Rattle.measure_core.specs.Made.{HasEnds, AreNumbersOfName}
use Rattle.measure_core.specs.declared.cell.Cell.{Cell}
use Rattle.topic_counts.specs.declared.span.Span.{Span}
use Rattle.pair_table.specs.Numbers.{HasCellEnds}
use Rattle.pair_table.specs.Sums.{all_pair_sums}
use Rattle.pair_table.proofs.DeskTopics.{topics_met}
use Rattle.pair_table.proofs.Named.{table_named}
use Rattle.pair_table.proofs.Orders.{MetBy}
use Rattle.pair_table.proofs.Zips.{zip_then}
use Rattle.order_tiers.specs.Order.{compared, CoverIsWithin, IsAboveIn, IsCertifiedIn, IsCover, Ordered, IsOrderBy, IsOrderIn}
use Rattle.order_tiers.specs.declared.cover.Cover.{Cover}
use Rattle.order_tiers.proofs.Chaining.{certified_within}
use Rattle.order_tiers.proofs.Said.{pairs_within}

pub named_order : (name : MeasureName) (cell : List Mark → List ℕ → List ℕ → Cell) (bounds : List Mark → List ℕ → Span) (desk : Desk) (marks : List (List Mark)) (order : Ordered) → AreNumbersOfName name cell bounds → IsDesk desk → AreMarksOf desk marks →
    IsOrderBy (HasCellEnds cell) (compared desk marks (all_pair_sums cell (topics_under desk marks) (length desk.runs))) order → IsOrderIn name desk marks order
named_order name cell bounds desk marks order numbers valid known h =
    let topics = topics_under desk marks in
    let totals = all_pair_sums cell topics (length desk.runs) in
    let t = compared desk marks totals in
    let each : (c : Cover) → IsCover (IsCertifiedIn t) (HasCellEnds cell) t c → IsCover (IsCertifiedIn t) (HasEnds name) t c = λ c cover.
    let within = certified_within (IsAboveIn t) (length desk.runs) (pairs_within (length desk.runs) (map verdict totals)) c.first c.second cover.covering.above in
    record {
      covering = cover.covering;
      ends = cover.ends;
      named = zip_then (λ (e : Ends) (topic : Topic). HasCellEnds cell topic.marks (topic.ranking c.first) (topic.ranking c.second) e) (λ (e : Ends) (topic : Topic). HasEnds name topic.marks (topic.ranking c.first) (topic.ranking c.second) e) (MetBy c.first c.second)
          (λ e topic m is. subst (HasEnds name topic.marks (topic.ranking c.first) (topic.ranking c.second)) (sym is) (numbers.cells topic.marks (topic.ranking c.first) (topic.ranking c.second) m))
          cover.ends topics (topics_met desk marks valid known c.first c.second within.0 within.1) cover.named;
      wins = cover.wins;
      losses = cover.losses;
    } in
    record {
      totals = totals;
      numbers = (table_named name cell bounds desk marks numbers valid known).pairs;
      is = record {
        square = h.square;
        certified = h.certified;
        count = h.count;
        tiers = h.tiers;
        greatest = h.greatest;
        covers = record { ascending = h.covers.ascending; each = λ k d lt. each (get_or order.covers k d) (h.covers.each k d lt); every = h.covers.every };
      };
    }

-- the covering pairs of an order are of the desk's runs
pub covers_in_runs : (name : MeasureName) (desk : Desk) (marks : List (List Mark)) (order : Ordered) → IsOrderIn name desk marks order → All (CoverIsWithin (length desk.runs)) order.covers
covers_in_runs name desk marks order h k d lt =
    let above = (h.is.covers.each k d lt).covering.above in
    let within = certified_within (IsAboveIn (compared desk marks h.totals)) (length desk.runs) (pairs_within (length desk.runs) (map verdict h.totals)) _ _ above in
    record { first = within.0; second = within.1 }

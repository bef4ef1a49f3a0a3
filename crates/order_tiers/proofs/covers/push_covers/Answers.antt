use Rattle.std.proofs.Common.{◌≡◌, ◌+◌, List, length, sym, subst, ap, ◌∙◌, arith}
use Rattle.desk_model.specs.Desk.{topics_under}
use Rattle.pair_table.specs.Numbers.{HasCellEnds}
use Rattle.pair_table.specs.Sums.{cell_ends}
use Rattle.pair_table.proofs.Saying.{cells_named}
use Rattle.order_tiers.specs.Tables.{HaveCoversBefore}
use Rattle.order_tiers.specs.Order.{compared, IsCover}
use Rattle.order_tiers.specs.Rows.{AboveBy, IsSquare}
use Rattle.order_tiers.specs.Tiers.{IsCovering}
use Rattle.order_tiers.specs.declared.cover.Cover.{Cover}
use Rattle.order_tiers.proofs.Covering.{covers_skip, covers_push, covers_row}
use Rattle.order_tiers.proofs.Tests.{not_both}
use Rattle.order_tiers.proofs.Writing.{in_row}
use Rattle.order_tiers.proofs.covers.push_covers.Goals as goal
use Rattle.order_tiers.proofs.covers.push_covers.Goals.{then-is_covering+in_ok-push, else-is_covering}

pub loop-second-preserved : goal.loop-second-preserved
loop-second-preserved g c =
    let cell = g.M.Measure.cell_of c.args.table.now.measure in
    let desk = c.args.first.now.of.desk.now in
    let marks = c.args.marks.now in
    let rows = c.args.first.now.of.rows.now in
    let i = c.args.first.now.run in
    let j = c.loop-second.second in
    let t = compared desk marks c.args.table.now.totals in
    let count : length rows ≡ length desk.runs = c.args.first.now.of.count in
    let Has = HasCellEnds cell in
    let list : List Cover = c.loop-second.list.items in
    elim c.if-is_covering.branch [
      | then-is_covering+in_ok-push w ↦
          let made = w.cover_of.result in
          let covering : IsCovering (AboveBy rows) (length desk.runs) i j = subst (λ n. IsCovering (AboveBy rows) n i j) count (c.is_covering.ensures.0 w.if-is_covering.true) in
          let ends = cell_ends cell (topics_under desk marks) i j in
          let first = w.cover_of.ensures.first in
          let second = w.cover_of.ensures.second in
          let cover : IsCover (AboveBy rows) Has t made = record {
            covering = subst (λ x. IsCovering (AboveBy rows) (length desk.runs) x made.second) (sym first) (subst (IsCovering (AboveBy rows) (length desk.runs) i) (sym second) covering);
            ends = ends;
            named = rw (first, second) (cells_named cell (topics_under desk marks) i j);
            wins = w.cover_of.ensures.wins;
            losses = w.cover_of.ensures.losses;
          } in
          subst (λ (l : List Cover). HaveCoversBefore (AboveBy rows) Has t l i (j + 1)) (sym w.in_ok-push.ensures.items ∙ sym (ap (λ v. v.items) w.list-is)) (covers_push (AboveBy rows) Has t list i j c.loop-second.invariant made first second cover)
      | else-is_covering w ↦
          subst (λ (l : List Cover). HaveCoversBefore (AboveBy rows) Has t l i (j + 1)) (sym (ap (λ v. v.items) w.list-is))
          (covers_skip (AboveBy rows) Has t list i j c.loop-second.invariant
          (λ covering. not_both c.is_covering.result (c.is_covering.ensures.1 (subst (λ n. IsCovering (AboveBy rows) n i j) (sym count) covering)) w.if-is_covering.false))
    ]

pub returns : goal.returns
returns g c =
    let cell = g.M.Measure.cell_of c.args.table.now.measure in
    let desk = c.args.first.now.of.desk.now in
    let rows = c.args.first.now.of.rows.now in
    let within = in_row (length desk.runs) rows (subst (λ n. IsSquare n rows) c.args.first.now.of.count c.args.first.now.of.strict.square) in
    covers_row (AboveBy rows) (HasCellEnds cell) (compared desk c.args.marks.now c.args.table.now.totals) c.loop-second.list.items c.args.first.now.run c.loop-second.second c.loop-second.invariant within
    (omega (arith, c.loop-second-test.false, c.run_count-second-end.ensures.count))

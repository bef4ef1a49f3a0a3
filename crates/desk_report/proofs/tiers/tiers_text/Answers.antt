use Rattle.std.proofs.Common.{◌≡◌, ◌++◌, ◌∷◌, [], length, ap, subst, ◌∙◌, append_assoc}
use Rattle.std.specs.Prelude.{All, codes, decimal, flat_map, map}
use Rattle.order_tiers.specs.Order.{CoverIsWithin}
use Rattle.desk_report.specs.Table.{ended, head_lines}
use Rattle.desk_report.specs.Tiers.{line_of_cover, system_lines, tiers_lines, tiers_text}
use Rattle.desk_report.proofs.Joins.{whole}
use Rattle.desk_report.proofs.tiers.tiers_text.Goals as goal

pub push_covers-requires : goal.push_covers-requires
push_covers-requires c = subst (λ n. All (CoverIsWithin n) c.covers.result.now) c.requires c.covers.ensures.within

pub returns : goal.returns
unfolding tiers_text tiers_lines
returns c =
    let desk = c.args.desk.now in
    let order = c.args.order.now in
    let name = c.args.name.now in
    let head = head_lines name c.args.level c.args.depth (length desk.topics) (length desk.runs) in
    let count = codes "tiers " ++ decimal order.greatest in
    let systems = system_lines desk.runs order.tiers in
    let first : c.push_head.new.out.items ≡ [] ++ flat_map ended head =
    c.in_ok-push_head.ensures ∙ ap (λ o. o ++ flat_map ended (head_lines name c.args.level c.args.depth c.topic_count.result c.run_count.result)) c.new-out.ensures.items
    ∙ ap (λ n. flat_map ended (head_lines name c.args.level c.args.depth n c.run_count.result)) c.topic_count.ensures.count
    ∙ ap (λ n. flat_map ended (head_lines name c.args.level c.args.depth (length desk.topics) n)) c.run_count.ensures.count in
    let counted : c.push_number_line.new.out.items ≡ c.push_head.new.out.items ++ ended count = c.in_ok-push_number_line.ensures ∙ ap (λ n. c.push_head.new.out.items ++ ended (codes "tiers " ++ decimal n)) c.tiers.ensures in
    let second : c.push_systems.new.out.items ≡ c.push_head.new.out.items ++ flat_map ended (count ∷ systems) =
    c.in_ok-push_systems.ensures ∙ ap (λ o. o ++ flat_map ended systems) counted ∙ append_assoc c.push_head.new.out.items (ended count) (flat_map ended systems) in
    let third : c.push_covers.new.out.items ≡ c.push_systems.new.out.items ++ flat_map ended (map (line_of_cover desk.runs) order.covers) =
    c.in_ok-push_covers.ensures ∙ ap (λ cs. c.push_systems.new.out.items ++ flat_map ended (map (line_of_cover desk.runs) cs)) c.covers.ensures.covers in
    whole [] c.push_head.new.out.items c.push_systems.new.out.items c.push_covers.new.out.items head (count ∷ systems) (map (line_of_cover desk.runs) order.covers) first second third

use Rattle.std.proofs.Common.{◌≡◌, [], ◌∷◌, ◌++◌, ap, sym, ◌∙◌, rules}
use Rattle.std.specs.Prelude.{slice_index_or}
use Rattle.std.proofs.lemmas.Result.{on_ok_weaker}
use Rattle.desk_model.proofs.Nested.{get_or-there}
use Rattle.desk_report.specs.Table.{ended}
use Rattle.desk_report.specs.Tiers.{cover_line}
use Rattle.desk_report.proofs.Tiered.{cover_joined}
use Rattle.desk_report.proofs.tiers.push_cover.Goals as goal

pub returns : goal.returns
returns c =
    let runs = c.args.desk.now.runs in
    let cover = c.args.cover.now in
    let x = c.run_name-first.result.now in
    let y = c.run_name-second.result.now in
    let names : ended (cover_line x y cover.wins cover.losses) ≡ ended (cover_line (slice_index_or runs cover.first []) (slice_index_or runs cover.second []) cover.wins cover.losses) =
    ap (λ v. ended (cover_line v y cover.wins cover.losses)) (sym (get_or-there runs cover.first x [] c.run_name-first.ensures))
    ∙ ap (λ v. ended (cover_line (slice_index_or runs cover.first []) v cover.wins cover.losses)) (sym (get_or-there runs cover.second y [] c.run_name-second.ensures)) in
    on_ok_weaker c.extend_from_slice.result (λ (e : c.extend_from_slice.new.self.items ≡ c.push_counts.new.out.items ++ 10 ∷ []).
    cover_joined c.args.out.now.items _ _ _ x y cover.wins cover.losses c.in_ok-push_cover_names.ensures c.in_ok-push_counts.ensures e ∙ ap (λ t. c.args.out.now.items ++ t) names) (search rules)

use Rattle.std.proofs.Common.{◌≡◌, ◌<◌, [], length, get_or, refl, ap, ◌∙◌, arith}
use Rattle.std.specs.Prelude.{slice_get}
use Rattle.std.proofs.lemmas.List.{get_or_default}
use Rattle.std.proofs.lemmas.Grind.{common_steps}
use Rattle.desk_model.specs.Book.{Book}
use Rattle.desk_model.specs.Ranking.{IsRanking}
use Rattle.desk_model.specs.Desk.{IsDesk, ranking_of}
use Rattle.desk_model.proofs.Nested.{inner, length-rankings, ranking_over, if_some}
use Rattle.desk_model.proofs.desk.Desk.ranking.Goals as goal

pub index-requires-2 : goal.index-requires-2
index-requires-2 c =
    let valid : IsDesk c.args.self.now = rw (← c.self.view_is) c.self.invariant in
    let in_range : c.args.r < length c.self.inside.rankings.items = grind (arith, common_steps) in
    let kept : get_or c.args.self.now.rankings c.args.r [] ≡ c.index.result.now.items = rw (← c.self.view_is) (inner c.self.inside.rankings.items c.args.r c.index.result.now in_range c.index.ensures) in
    let long = length-rankings c.args.self.now valid c.args.r c.requires.run in
    omega (arith, long, ap length kept)

pub returns : goal.returns
returns c =
    let valid : IsDesk c.args.self.now = rw (← c.self.view_is) c.self.invariant in
    let in_range : c.args.r < length c.self.inside.rankings.items = grind (arith, common_steps) in
    let kept : get_or c.args.self.now.rankings c.args.r [] ≡ c.index.result.now.items = rw (← c.self.view_is) (inner c.self.inside.rankings.items c.args.r c.index.result.now in_range c.index.ensures) in
    let long = length-rankings c.args.self.now valid c.args.r c.requires.run in
    let here : c.args.t < length c.index.result.now.items = omega (arith, long, ap length kept) in
    let is : c.index-2.result.now ≡ ranking_of c.args.self.now c.args.r c.args.t = c.index-2.ensures ∙ get_or_default c.index.result.now.items c.args.t c.index-2.result.now [] here ∙ rw kept refl in
    record {
      ranking = is;
      over = if_some (slice_get c.args.self.now.topics c.args.t) (λ (book : Book). IsRanking (length book.docs) c.index-2.result.now) (λ book e. rw is (ranking_over c.args.self.now valid c.args.r c.requires.run c.args.t book e));
    }

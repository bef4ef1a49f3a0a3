use Rattle.std.proofs.Common.{◌≡◌, rules, sym, ◌∙◌}
use Rattle.std.proofs.lemmas.List.Sorted.{answers_always}
use Rattle.desk_model.specs.Ranking.{rank}
use Rattle.desk_model.specs.Placed.{lookup, IsAscending}
use Rattle.desk_model.specs.declared.placed.Placed.{Placed}
use Rattle.desk_model.proofs.Places.{found_rank, no_rank}
use Rattle.desk_model.proofs.ranking.Ranking.rank_of.Goals as goal

-- the closure gives an entry's document, and the slice is what the ranking keeps
pub returns-in-Ok : goal.returns-in-Ok
returns-in-Ok c =
    let value = c.deref-by_doc.ensures.value in
    let by_key = c.in-Ok.ensures.position (λ (p : Placed). p.doc) (answers_always _ _ _ (λ f a r g called. search rules)) in
    let up : IsAscending c.deref-by_doc.result.now = rw value c.self.invariant.ascending in
    let looked : lookup c.deref-by_doc.result.now c.args.doc ≡ rank c.args.self.now c.args.doc = rw (value, ← c.self.view_is) (c.self.invariant.looked_up c.args.doc) in
    sym (found_rank _ up c.args.doc c.in-Ok.at c.in-Ok.ensures.bound by_key) ∙ looked

pub returns-in-Err : goal.returns-in-Err
returns-in-Err c =
    let value = c.deref-by_doc.ensures.value in
    let by_key = c.in-Err.ensures.position (λ (p : Placed). p.doc) (answers_always _ _ _ (λ f a r g called. search rules)) in
    let up : IsAscending c.deref-by_doc.result.now = rw value c.self.invariant.ascending in
    let looked : lookup c.deref-by_doc.result.now c.args.doc ≡ rank c.args.self.now c.args.doc = rw (value, ← c.self.view_is) (c.self.invariant.looked_up c.args.doc) in
    sym (no_rank _ up c.args.doc c.in-Err.field-0 c.in-Err.ensures.bound by_key) ∙ looked

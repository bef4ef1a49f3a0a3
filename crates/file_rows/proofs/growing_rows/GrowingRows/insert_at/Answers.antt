use Rattle.std.proofs.Common.{◌≡◌, ◌∷◌, ◌++◌, [], ap, sym, ◌∙◌, arith}
use Rattle.std.specs.Prelude.{not, cond}
use Rattle.file_rows.specs.Grouped.{Valued, stands_in}
use Rattle.file_rows.proofs.Zipped.{in_place, held, member_added}
use Rattle.file_rows.proofs.RowFiles.{holding, is_counted}
use Rattle.file_rows.proofs.growing_rows.GrowingRows.insert_at.Goals as goal

pub index_mut-grouped-requires : goal.index_mut-grouped-requires
index_mut-grouped-requires g c =
    let lt = in_place (holding c.self.invariant c.self.view_is) c.args.t c.requires.topic in omega (arith, lt)

pub returns-then-not-is_new-clause-new : goal.returns-then-not-is_new-clause-new
returns-then-not-is_new-clause-new g c =
    let here = held (holding c.self.invariant c.self.view_is) c.args.t c.index_mut-grouped.result.now c.requires.topic c.index_mut-grouped.ensures.value in
    sym c.if-not-is_new.true ∙ c.in_ok-is_new.ensures.new ∙ ap (λ rows. not (stands_in c.args.document.now rows)) (sym here)

pub invariant_of-self-2 : goal.invariant_of-self-2
invariant_of-self-2 g c =
    let row : Valued = record { document = c.args.document.now; value = g.V.RowValue.number c.args.value } in
    let old = c.index_mut-grouped.result.now in
    let put : c.insert.new.self ≡ old ++ row ∷ [] = c.in_ok-is_new.ensures.rows ∙ ap (λ b. cond b (old ++ row ∷ []) old) c.if-not-is_new.false in
    is_counted (member_added (holding c.self.invariant c.self.view_is) c.args.t old c.insert.new.self row c.requires.topic c.index_mut-grouped.ensures.value put)

pub returns-clause-new : goal.returns-clause-new
returns-clause-new g c =
    let here = held (holding c.self.invariant c.self.view_is) c.args.t c.index_mut-grouped.result.now c.requires.topic c.index_mut-grouped.ensures.value in
    sym c.if-not-is_new.false ∙ c.in_ok-is_new.ensures.new ∙ ap (λ rows. not (stands_in c.args.document.now rows)) (sym here)

pub returns-clause-rows : goal.returns-clause-rows
returns-clause-rows g c =
    let row : Valued = record { document = c.args.document.now; value = g.V.RowValue.number c.args.value } in
    let old = c.index_mut-grouped.result.now in
    let put : c.insert.new.self ≡ old ++ row ∷ [] = c.in_ok-is_new.ensures.rows ∙ ap (λ b. cond b (old ++ row ∷ []) old) c.if-not-is_new.false in
    (member_added (holding c.self.invariant c.self.view_is) c.args.t old c.insert.new.self row c.requires.topic c.index_mut-grouped.ensures.value put).topics_are

use Rattle.std.proofs.Common.{◌≡◌, ◌∷◌, [], ◌++◌, ap, subst, arith, ℕ, Err}
use Rattle.std.proofs.lemmas.Result.{err_from_is_err_and}
use Rattle.line_forms.specs.Reading.{BeginsWith, IsReading}
use Rattle.line_forms.specs.Rows.{key_after}
use Rattle.line_forms.proofs.Loops.{key_more, one_read, rest_unread}
use Rattle.order_bundle.specs.Bundle.{pick_line}
use Rattle.order_bundle.specs.Places.{IsPick}
use Rattle.order_bundle.specs.Places.{pick_place}
use Rattle.order_bundle.proofs.PickRows.{pick_kind}
use Rattle.order_bundle.proofs.PickOrder.{next_pick}
use Rattle.order_bundle.proofs.claims.picks.Goals as goal

pub returns-in_err-pick : goal.returns-in_err-pick
returns-in_err-pick c =
    let p = err_from_is_err_and c.from_residual-in_err-pick.result c.from_residual-in_err-pick.ensures.1 in
    let picks = c.loop-lines.picks.items in
    let docs = c.args.docs in
    let fails = subst (λ z. IsReading (pick_place docs z) c.loop-lines.lines.rest (Err c.in_err-pick.field-0.0) c.pick_line.new.lines) c.loop-lines.invariant.least c.in_err-pick.ensures in
    let size = c.len.ensures in
    let test = c.loop-lines-test.true in
    rw (p.1, p.2) (rest_unread (pick_place docs) next_pick (λ (k : ℕ). pick_line k ∷ []) (IsPick docs) (pick_kind docs c.requires) c.args.count 0 c.args.lines.now.rest picks c.loop-lines.lines.rest c.pick_line.new.lines c.in_err-pick.field-0.0 c.loop-lines.invariant.read (omega arith) fails)

pub loop-lines-preserved : goal.loop-lines-preserved
loop-lines-preserved c =
    let picks = c.loop-lines.picks.items in
    let docs = c.args.docs in
    let pick = c.in_ok-pick.pick in
    let here = subst (λ z. BeginsWith (pick_place docs z) c.loop-lines.lines.rest pick c.pick_line.new.lines.rest) c.loop-lines.invariant.least c.in_ok-pick.ensures in
    let items : c.push.new.self.items ≡ picks ++ pick ∷ [] = c.in_ok-push.ensures.items in
    let size = c.len.ensures in
    let test = c.loop-lines-test.true in
    record {
      read = one_read (pick_place docs) next_pick (λ (k : ℕ). pick_line k ∷ []) (IsPick docs) (pick_kind docs c.requires) c.args.count 0 c.args.lines.now.rest picks c.push.new.self.items pick c.loop-lines.lines.rest c.pick_line.new.lines.rest c.loop-lines.invariant.read (omega arith) here items;
      least = omega (arith, key_more next_pick 0 picks pick, ap (key_after next_pick 0) items);
    }

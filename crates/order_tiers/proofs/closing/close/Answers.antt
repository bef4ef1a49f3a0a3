use Rattle.std.proofs.Common.{◌≡◌, ◌<◌, ◌||◌, ◌&&◌, ℕ, Bool, List, [], length, get_or, ap, ◌∙◌, arith}
use Rattle.std.proofs.lemmas.List.{get_or_default}
use Rattle.order_tiers.specs.Rows.{has, is_above}
use Rattle.order_tiers.proofs.Leading.{closing_more, closed}
use Rattle.order_tiers.proofs.closing.close.Goals as goal

pub loop-via-preserved : goal.loop-via-preserved
loop-via-preserved c =
    let rows : List (List Bool) = c.loop-via.rows in
    let via = c.loop-via.via in
    let runs = length c.args.leads.now in
    let inv = c.loop-via.invariant in
    let test = c.loop-via-test.true in
    let inside : via < length rows = omega (arith, test, c.loop-via.auto.rows, c.requires.count, inv.square.count, inv.size) in
    let row = c.index-rows-via.result in
    let leads_are : (b : ℕ) → has c.add_all.new.self b ≡ is_above rows via b = λ b.
    let there : has (get_or rows via row) b ≡ is_above rows via b = ap (λ r. has r b) (get_or_default rows via row [] inside) in
    c.add_all.ensures.joined b ∙ ap (λ x. x || has (get_or rows via row) b) (c.clear.ensures.none b) ∙ there in
    record {
      square = c.lead_through.ensures.square;
      size = c.add_all.ensures.count ∙ c.clear.ensures.count ∙ inv.size;
      closing = closing_more via c.args.rows.now rows c.lead_through.new.rows
          (λ a b. c.lead_through.ensures.led a b ∙ ap (λ x. is_above rows a b || (is_above rows a via && x)) (leads_are b)) inv.closing;
    }

pub returns-clause-chains : goal.returns-clause-chains
returns-clause-chains c = closed c.args.rows.now c.loop-via.rows c.loop-via.via (omega (arith, c.loop-via-test.false, c.loop-via.auto.rows)) c.loop-via.invariant.closing

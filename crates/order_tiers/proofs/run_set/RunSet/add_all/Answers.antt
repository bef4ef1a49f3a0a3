use Rattle.std.proofs.Common.{◌≡◌, ◌||◌, length, ap, sym, ◌∙◌}
use Rattle.order_tiers.specs.Rows.{has, row_of}
use Rattle.order_tiers.proofs.Bits.{length-row_of, joined_has}
use Rattle.order_tiers.proofs.run_set.RunSet.add_all.Goals as goal

pub returns-clause-count : goal.returns-clause-count
returns-clause-count c = length-row_of _ _ ∙ sym (length-row_of c.self.inside.runs c.self.inside.words) ∙ ap length c.self.view_is

pub returns-clause-joined : goal.returns-clause-joined
returns-clause-joined c run =
    let mine = c.self.inside in
    let theirs = c.other.inside in
    let same : theirs.runs ≡ mine.runs = sym (length-row_of theirs.runs theirs.words) ∙ ap length c.other.view_is ∙ sym c.requires ∙ ap length (sym c.self.view_is) ∙ length-row_of mine.runs mine.words in
    joined_has mine.runs mine.words theirs.words c.join_words.new.words (record { each = c.join_words.ensures }) run
    ∙ ap (λ row. has row run || has (row_of mine.runs theirs.words) run) c.self.view_is
    ∙ ap (λ n. has c.args.self.now run || has (row_of n theirs.words) run) (sym same)
    ∙ ap (λ row. has c.args.self.now run || has row run) c.other.view_is

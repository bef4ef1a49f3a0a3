use Rattle.std.proofs.Common.{◌∷◌, [], ◌++◌, ◌∙◌, ap, subst, arith, List, ℕ, Err}
use Rattle.std.proofs.lemmas.Result.{err_from_is_err_and}
use Rattle.line_forms.specs.Places.{IsLaterName, later_name_place}
use Rattle.line_forms.specs.Reading.{BeginsWith, IsReading}
use Rattle.line_forms.specs.Rows.{last_name}
use Rattle.line_forms.proofs.Cuts.{above_free}
use Rattle.line_forms.proofs.Loops.{one_read, rest_unread}
use Rattle.order_certificate.proofs.RowKinds.{name_kind, same_name}
use Rattle.order_certificate.proofs.topics.names.Goals as goal

pub returns-in_err-name : goal.returns-in_err-name
returns-in_err-name c =
    let p = err_from_is_err_and c.from_residual.result c.from_residual.ensures.1 in
    let names = c.loop-alloc.names.items in
    let word = c.args.word.now in
    let last = c.last_of.ensures ∙ ap (last_name (λ (name : List ℕ). name)) c.as_slice.ensures.value in
    let fails = subst (λ z. IsReading (later_name_place word z) c.loop-alloc.lines.rest (Err c.in_err-name.field-0.0) c.later_name_line.new.lines) last c.in_err-name.ensures in
    let size = c.len.ensures in
    let test = c.loop-alloc-test.true in
    rw (p.1, p.2) (rest_unread (later_name_place word) same_name (λ (name : List ℕ). (word ++ name) ∷ []) IsLaterName (name_kind word c.requires) c.args.count [] c.args.lines.now.rest names c.loop-alloc.lines.rest c.later_name_line.new.lines c.in_err-name.field-0.0 c.loop-alloc.invariant (omega arith) fails)

pub loop-alloc-preserved : goal.loop-alloc-preserved
loop-alloc-preserved c =
    let names = c.loop-alloc.names.items in
    let word = c.args.word.now in
    let last = c.last_of.ensures ∙ ap (last_name (λ (name : List ℕ). name)) c.as_slice.ensures.value in
    let here = subst (λ z. BeginsWith (later_name_place word z) c.loop-alloc.lines.rest c.in_ok-name.name c.later_name_line.new.lines.rest) last c.in_ok-name.ensures in
    let size = c.len.ensures in
    let test = c.loop-alloc-test.true in
    one_read (later_name_place word) same_name (λ (name : List ℕ). (word ++ name) ∷ []) IsLaterName (name_kind word c.requires) c.args.count [] c.args.lines.now.rest names c.push.new.self.items c.in_ok-name.name c.loop-alloc.lines.rest c.later_name_line.new.lines.rest c.loop-alloc.invariant (omega arith) here c.in_ok-push.ensures.items

pub later_name_line-requires : goal.later_name_line-requires
later_name_line-requires c = above_free 10 c.args.word.now c.requires

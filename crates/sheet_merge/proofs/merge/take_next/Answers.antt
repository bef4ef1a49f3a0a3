use Rattle.std.proofs.Common.{◌≡◌, ℕ, ◌<◌, List, length, sym, subst, ◌∙◌, arith, inl, inr}
use Rattle.std.specs.Prelude.{All}
use Rattle.sheet_merge.specs.Sheet.{SheetRow, IsSheetRow}
use Rattle.sheet_merge.specs.Packed.{no_row, row_at}
use Rattle.sheet_merge.proofs.Places.{next_only, next_less, next_both, less_back, below_from}
use Rattle.sheet_merge.proofs.Walking.{swapped}
use Rattle.sheet_merge.proofs.merge.take_next.Goals as goal

pub overflow_add-i : goal.overflow_add-i
overflow_add-i c =
    let lt : c.args.i.now < length c.args.a.now = elim (c.requires.some) [ inl l ↦ l | inr r ↦ absurd (omega (arith, r, c.if-j-len.true, c.len.ensures)) ] in
    let few = c.requires.a_few in
    omega (arith, lt, few)

pub returns-then-j-len-clause-next : goal.returns-then-j-len-clause-next
returns-then-j-len-clause-next c =
    let lt : c.args.i.now < length c.args.a.now = elim (c.requires.some) [ inl l ↦ l | inr r ↦ absurd (omega (arith, r, c.if-j-len.true, c.len.ensures)) ] in
    next_only c.args.a.now c.args.b.now c.args.i.now c.args.j.now c.requires.a c.requires.b c.get-row.result lt (omega (arith, c.if-j-len.true, c.len.ensures)) c.get-row.ensures

pub returns-then-i-len-clause-next : goal.returns-then-i-len-clause-next
returns-then-i-len-clause-next c =
    let lt : c.args.j.now < length c.args.b.now = elim (c.requires.some) [ inl l ↦ absurd (omega (arith, l, c.if-i-len.true, c.len-2.ensures)) | inr r ↦ r ] in
    swapped _ _ _ _ _
    (next_only c.args.b.now c.args.a.now c.args.j.now c.args.i.now c.requires.b c.requires.a c.get-row-then-i-len.result lt (omega (arith, c.if-i-len.true, c.len-2.ensures)) c.get-row-then-i-len.ensures)

pub returns-in-Less-clause-next : goal.returns-in-Less-clause-next
returns-in-Less-clause-next c =
    let lt = below_from c.args.i.now (length c.args.a.now) c.requires.i_in (λ e. c.if-i-len.false (e ∙ sym c.len-2.ensures)) in
    let gt = below_from c.args.j.now (length c.args.b.now) c.requires.j_in (λ e. c.if-j-len.false (e ∙ sym c.len.ensures)) in
    next_less c.args.a.now c.args.b.now c.args.i.now c.args.j.now c.requires.a c.requires.b c.get-x.result c.get-y.result lt gt c.get-x.ensures c.get-y.ensures (sym c.compare_place.ensures ∙ c.in-Less.is)

pub returns-in-Greater-clause-next : goal.returns-in-Greater-clause-next
returns-in-Greater-clause-next c =
    let lt = below_from c.args.i.now (length c.args.a.now) c.requires.i_in (λ e. c.if-i-len.false (e ∙ sym c.len-2.ensures)) in
    let gt = below_from c.args.j.now (length c.args.b.now) c.requires.j_in (λ e. c.if-j-len.false (e ∙ sym c.len.ensures)) in
    swapped _ _ _ _ _
    (next_less c.args.b.now c.args.a.now c.args.j.now c.args.i.now c.requires.b c.requires.a c.get-y.result c.get-x.result gt lt c.get-y.ensures c.get-x.ensures
    (less_back c.get-x.result c.get-y.result (sym c.compare_place.ensures ∙ c.in-Greater.is)))

pub returns-in-Equal-clause-next : goal.returns-in-Equal-clause-next
returns-in-Equal-clause-next c =
    let lt = below_from c.args.i.now (length c.args.a.now) c.requires.i_in (λ e. c.if-i-len.false (e ∙ sym c.len-2.ensures)) in
    let gt = below_from c.args.j.now (length c.args.b.now) c.requires.j_in (λ e. c.if-j-len.false (e ∙ sym c.len.ensures)) in
    next_both c.args.a.now c.args.b.now c.args.i.now c.args.j.now c.requires.a c.requires.b c.get-x.result c.get-y.result c.greater_row.result lt gt c.get-x.ensures c.get-y.ensures
    c.greater_row.ensures.row (sym c.compare_place.ensures ∙ c.in-Equal.is)

-- a row of right rows is right
right_at : (rows : List SheetRow) (i : ℕ) (row : SheetRow) → i < length rows → row ≡ row_at rows i → All IsSheetRow rows → IsSheetRow row
right_at rows i row lt is h = subst IsSheetRow (sym is) (h i no_row lt)

pub returns-then-j-len-clause-right : goal.returns-then-j-len-clause-right
returns-then-j-len-clause-right c h k =
    let lt : c.args.i.now < length c.args.a.now = elim (c.requires.some) [ inl l ↦ l | inr r ↦ absurd (omega (arith, r, c.if-j-len.true, c.len.ensures)) ] in
    right_at c.args.a.now c.args.i.now c.get-row.result lt c.get-row.ensures h

pub returns-then-i-len-clause-right : goal.returns-then-i-len-clause-right
returns-then-i-len-clause-right c h k =
    let lt : c.args.j.now < length c.args.b.now = elim (c.requires.some) [ inl l ↦ absurd (omega (arith, l, c.if-i-len.true, c.len-2.ensures)) | inr r ↦ r ] in
    right_at c.args.b.now c.args.j.now c.get-row-then-i-len.result lt c.get-row-then-i-len.ensures k

pub returns-in-Less-clause-right : goal.returns-in-Less-clause-right
returns-in-Less-clause-right c h k =
    let lt = below_from c.args.i.now (length c.args.a.now) c.requires.i_in (λ e. c.if-i-len.false (e ∙ sym c.len-2.ensures)) in
    right_at c.args.a.now c.args.i.now c.get-x.result lt c.get-x.ensures h

pub returns-in-Greater-clause-right : goal.returns-in-Greater-clause-right
returns-in-Greater-clause-right c h k =
    let gt = below_from c.args.j.now (length c.args.b.now) c.requires.j_in (λ e. c.if-j-len.false (e ∙ sym c.len.ensures)) in
    right_at c.args.b.now c.args.j.now c.get-y.result gt c.get-y.ensures k

pub returns-in-Equal-clause-right : goal.returns-in-Equal-clause-right
returns-in-Equal-clause-right c h k =
    let lt = below_from c.args.i.now (length c.args.a.now) c.requires.i_in (λ e. c.if-i-len.false (e ∙ sym c.len-2.ensures)) in
    let gt = below_from c.args.j.now (length c.args.b.now) c.requires.j_in (λ e. c.if-j-len.false (e ∙ sym c.len.ensures)) in
    c.greater_row.ensures.right (right_at c.args.a.now c.args.i.now c.get-x.result lt c.get-x.ensures h) (right_at c.args.b.now c.args.j.now c.get-y.result gt c.get-y.ensures k)

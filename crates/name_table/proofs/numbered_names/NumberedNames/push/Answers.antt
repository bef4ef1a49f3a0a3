use Rattle.std.proofs.Common.{◌≡◌, ◌+◌, [], ◌∷◌, ◌++◌, length, arith, ap, ◌∙◌}
use Rattle.std.specs.Prelude.{sum_by}
use Rattle.name_table.specs.Cut.{cut}
use Rattle.name_table.proofs.Cutting.{sum_by-cut, pushed, Pushed}
use Rattle.name_table.proofs.numbered_names.NumberedNames.push.Goals as goal

pub overflow_cast-end : goal.overflow_cast-end
overflow_cast-end c =
    let n : sum_by length (cut 0 c.self.inside.ends.items c.self.inside.bytes.items) ≡ sum_by length c.args.self.now = ap (sum_by length) c.self.view_is in
    let m = sum_by-cut 0 c.self.inside.ends.items c.self.inside.bytes.items c.self.invariant in
    omega (arith, n, m)

pub invariant_of-self-2 : goal.invariant_of-self-2
invariant_of-self-2 c =
    let end = c.len.result + length c.args.name.now in
    let p : Pushed c.self.inside.ends.items c.self.inside.bytes.items c.push_reserved.new.self.items c.extend_from_slice.new.self.items c.args.name.now =
    pushed _ _ _ _ _ end c.self.invariant (c.push_reserved.ensures.items ∙ ap (λ xs. xs ++ end ∷ []) c.reserve.ensures.items) c.in_ok-extend_from_slice.ensures.items (omega arith) in
    p.is_cut

pub returns-clause-ok : goal.returns-clause-ok
returns-clause-ok c =
    let end = c.len.result + length c.args.name.now in
    let p : Pushed c.self.inside.ends.items c.self.inside.bytes.items c.push_reserved.new.self.items c.extend_from_slice.new.self.items c.args.name.now =
    pushed _ _ _ _ _ end c.self.invariant (c.push_reserved.ensures.items ∙ ap (λ xs. xs ++ end ∷ []) c.reserve.ensures.items) c.in_ok-extend_from_slice.ensures.items (omega arith) in
    p.names ∙ ap (λ ns. ns ++ c.args.name.now ∷ []) c.self.view_is

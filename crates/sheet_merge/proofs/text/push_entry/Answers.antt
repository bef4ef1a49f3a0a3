use Rattle.std.proofs.Common.{◌≡◌, ℕ, List, [], ◌∷◌, ◌++◌, append_assoc, ap, ◌∙◌, arith, to_z, of_z, w16, w32}
use Rattle.std.specs.Prelude.{decimal, Result, Ok, Err, OnOk, if◌then◌else◌}
use Rattle.std.specs.Result.{is_ok}
use Rattle.std.specs.Fmt.{signed_decimal}
use Rattle.std.proofs.lemmas.Int.{ints}
use Rattle.file_rows.proofs.Chains.{on_ok}
use Rattle.sheet_merge.proofs.text.push_entry.Goals as goal

-- what grew where nothing went wrong
grown : {T E : Type 0} (r : Result T E) (new whole old : List ℕ) → new ≡ (if is_ok r then whole else old) → OnOk r (new ≡ whole)
grown (Ok x) new whole old e = e
grown (Err x) new whole old e = tt

-- lists joined from the left and from the right
joined : (s a b d e g : List ℕ) → ((((s ++ a) ++ b) ++ d) ++ e) ++ g ≡ s ++ (a ++ (b ++ (d ++ (e ++ g))))
joined s a b d e g =
    append_assoc (((s ++ a) ++ b) ++ d) e g ∙ append_assoc ((s ++ a) ++ b) d (e ++ g) ∙ append_assoc (s ++ a) b (d ++ (e ++ g)) ∙ append_assoc s a (b ++ (d ++ (e ++ g)))

-- parts that are put one after the other
parts : (o0 o1 o2 o3 o4 o5 o6 o7 s who topic doc g : List ℕ) → o1 ≡ o0 ++ s → o2 ≡ o1 ++ 32 ∷ who → o3 ≡ o2 ++ 32 ∷ topic → o4 ≡ o3 ++ 32 ∷ doc → o5 ≡ o4 ++ 32 ∷ [] → o6 ≡ o5 ++ g → o7 ≡ o6 ++ 10 ∷ []
    → o7 ≡ o0 ++ ((s ++ 32 ∷ (who ++ 32 ∷ (topic ++ 32 ∷ (doc ++ 32 ∷ g)))) ++ 10 ∷ [])
parts o0 o1 o2 o3 o4 o5 o6 o7 s who topic doc g a b c d e f h =
    h ∙ ap (λ x. x ++ 10 ∷ []) (f ∙ ap (λ x. x ++ g) (e ∙ ap (λ x. x ++ 32 ∷ []) (d ∙ ap (λ x. x ++ 32 ∷ doc) (c ∙ ap (λ x. x ++ 32 ∷ topic) (b ∙ ap (λ x. x ++ 32 ∷ who) a))))
    ∙ joined (o0 ++ s) (32 ∷ who) (32 ∷ topic) (32 ∷ doc) (32 ∷ []) g ∙ append_assoc o0 s (32 ∷ (who ++ 32 ∷ (topic ++ 32 ∷ (doc ++ 32 ∷ g)))))
    ∙ append_assoc o0 (s ++ 32 ∷ (who ++ 32 ∷ (topic ++ 32 ∷ (doc ++ 32 ∷ g)))) (10 ∷ [])

pub returns : goal.returns
returns c =
    let row = c.args.row.now in
    let kept : to_z w32 (of_z w32 (to_z w16 (of_z w16 c.grade.result))) ≡ c.grade.result = omega (arith, ints, c.grade.type_inv) in
    on_ok c.extend_from_slice-2.result (λ e.
    parts c.args.out.now.items c.push_whole.new.out.items c.push_field.new.out.items c.push_field-2.new.out.items c.push_field-3.new.out.items c.extend_from_slice.new.self.items c.push_grade.new.out.items c.extend_from_slice-2.new.self.items
    (decimal row.1.stamp) row.1.who row.0.0 row.0.1 (signed_decimal row.1.grade)
    (c.in_ok-push_whole.ensures ∙ ap (λ n. c.args.out.now.items ++ decimal n) c.stamp.ensures)
    (c.in_ok-push_field.ensures ∙ ap (λ w. c.push_whole.new.out.items ++ 32 ∷ w) c.who.ensures)
    (c.in_ok-push_field-2.ensures ∙ ap (λ w. c.push_field.new.out.items ++ 32 ∷ w) c.topic.ensures)
    (c.in_ok-push_field-3.ensures ∙ ap (λ w. c.push_field-2.new.out.items ++ 32 ∷ w) c.document.ensures)
    c.in_ok-extend_from_slice.ensures.items
    (c.in_ok-push_grade.ensures ∙ ap (λ z. c.extend_from_slice.new.self.items ++ signed_decimal z) (kept ∙ c.grade.ensures))
    e) (grown c.extend_from_slice-2.result _ _ _ c.extend_from_slice-2.ensures.items)

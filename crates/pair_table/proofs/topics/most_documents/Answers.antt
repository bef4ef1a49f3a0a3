use Rattle.std.proofs.Common.{◌≡◌, ◌+◌, ◌<◌, ◌≤◌, ℕ, Bool, true, false, List, length, get_or, Some, refl, sym, subst, arith}
use Rattle.std.specs.Prelude.{nat_lt, slice_get}
use Rattle.std.proofs.lemmas.Bool.Decides.{nat_tests}
use Rattle.desk_model.specs.Book.{Book}
use Rattle.desk_model.proofs.Nested.{get_or-there}
use Rattle.pair_table.proofs.topics.most_documents.Goals as goal

most_of : (books : List Book) (i least most : ℕ) (book : Book) → slice_get books i ≡ Some book → length book.docs ≤ most → least ≤ most → ((t : ℕ) (d : Book) → t < i → length (get_or books t d).docs ≤ least) →
    (t : ℕ) (d : Book) → t < i + 1 → length (get_or books t d).docs ≤ most
most_of books i least most book there here more before t d lt = go (nat_lt t i) refl
  where
    go : (b : Bool) → nat_lt t i ≡ b → length (get_or books t d).docs ≤ most
    go true e = let earlier : t < i = grind (arith, nat_tests) in omega (arith, before t d earlier)
    go false e =
        let same : i ≡ t = grind (arith, nat_tests, lt) in
        subst (λ (n : ℕ). length (get_or books n d).docs ≤ most) same (subst (λ (x : Book). length x.docs ≤ most) (sym (get_or-there books i book d there)) here)

pub loop-t-preserved : goal.loop-t-preserved
loop-t-preserved c =
    most_of c.args.desk.now.topics c.loop-t.t c.loop-t.most _ c.topic.result.now c.topic.ensures (omega (arith, c.max-most.ensures, c.doc_count.ensures.count)) (omega (arith, c.max-most.ensures)) c.loop-t.invariant

use Rattle.std.proofs.Common.{◌≡◌, false, length, get_or, Some, ap, ap₂, sym, subst, ◌∙◌, arith}
use Rattle.small_lemmas.proofs.Lists.{map_there}
use Rattle.table_bundle.specs.Drafts.{all_documents, is_picked_by, PicksBelow, places_where}
use Rattle.table_bundle.proofs.Choosing.{names_agree, places_agree}
use Rattle.table_bundle.proofs.Listed.{picks_below, whole, with_docs}
use Rattle.table_bundle.proofs.Replacing.{places_picked, topic_picked}
use Rattle.table_bundle.proofs.places.picked_topic.Goals as goal

pub picked-requires : goal.picked-requires
picked-requires c k d lt =
    let desk = c.args.desk.now in
    let book = c.topic-book.result.now in
    subst (λ n. PicksBelow c.args.topic n (get_or c.args.claims.now k d).evidence) (sym c.doc_count.ensures.count)
    (picks_below (all_documents desk) (get_or c.args.claims.now k d).evidence c.args.topic (whole book) (c.requires.claims k d lt) (map_there whole desk.topics c.args.topic book c.topic-book.ensures))

pub returns-clause-names : goal.returns-clause-names
returns-clause-names c =
    let desk = c.args.desk.now in
    let book = c.topic-book.result.now in
    let t = c.args.topic in
    let topic : c.in_ok-copy_of.field-0 ≡ book.name = c.in_ok-copy_of.ensures ∙ c.name.ensures.name in
    let docs = c.in_ok-flagged_names.ensures ∙ names_agree (λ d. get_or c.deref.result.now d false) (is_picked_by c.args.claims.now t) book.docs (λ d lt.
    ap (λ l. get_or l d false) c.deref.ensures.value ∙ c.in_ok-flags.ensures.flags d (omega (arith, lt, c.doc_count.ensures.count))) in
    topic_picked c.args.claims.now (all_documents desk) t (whole book) (map_there whole desk.topics t book c.topic-book.ensures) ∙ ap Some (sym (ap₂ with_docs topic docs))

pub returns-clause-places : goal.returns-clause-places
returns-clause-places c =
    let desk = c.args.desk.now in
    let book = c.topic-book.result.now in
    let t = c.args.topic in
    let count : length c.deref-2.result.now ≡ length book.docs = ap length c.deref-2.ensures.value ∙ c.in_ok-flags.ensures.count ∙ c.doc_count.ensures.count in
    let places = c.in_ok-places.ensures ∙ ap (places_where (λ d. get_or c.deref-2.result.now d false)) count
    ∙ places_agree (λ d. get_or c.deref-2.result.now d false) (is_picked_by c.args.claims.now t) (length book.docs) (λ d lt.
    ap (λ l. get_or l d false) c.deref-2.ensures.value ∙ c.in_ok-flags.ensures.flags d (omega (arith, lt, c.doc_count.ensures.count))) in
    places_picked c.args.claims.now (all_documents desk) t (whole book) (map_there whole desk.topics t book c.topic-book.ensures) ∙ ap Some (sym places)

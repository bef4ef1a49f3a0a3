use Rattle.std.proofs.Common.{◌≡◌, ◌≤◌, length, take, ◌+◌, sym, subst, arith}
use Rattle.std.proofs.lemmas.List.{take_all}
use Rattle.std.proofs.lemmas.Option.{slice_get_within}
use Rattle.order_verifier.specs.Refusal.{topics_in}
use Rattle.order_verifier.specs.Rows.{AreFlags}
use Rattle.order_verifier.proofs.Flags.{flag_beyond, flag_set}
use Rattle.order_verifier.proofs.ListNames.{all_names, first_other_name, none_before, not_false, not_true, one_more_name}
use Rattle.order_verifier.proofs.comparison.Comparison.first_other_flagged.Goals.{else-found-flags, then-found-flags}
use Rattle.order_verifier.proofs.comparison.Comparison.first_other_flagged.Goals as goal

pub returns-then-not-found-clause-other : goal.returns-then-not-found-clause-other
returns-then-not-found-clause-other c =
    let row = c.find_unjudged-found.ensures in
    first_other_name (topics_in c.args.self.now) c.args.topic c.args.documents.now.names c.loop-document.document row.0 row.1 c.loop-document.invariant.unjudged c.find_unjudged-found.result.is_found row.2.1 (not_true c.find_unjudged-found.result.is_found c.if-not-found.true)

pub loop-document-init : goal.loop-document-init
loop-document-init c =
    let on = c.requires.list.on in
    record {
      unjudged = none_before (topics_in c.args.self.now) c.args.topic c.args.documents.now.names (slice_get_within (topics_in c.args.self.now) c.args.topic on.0 on.1);
      flags = λ doc _ _. c.requires.clear doc;
    }

pub loop-document-preserved : goal.loop-document-preserved
loop-document-preserved c =
    let row = c.find_unjudged-found.ensures in
    let is = not_false c.find_unjudged-found.result.is_found c.if-not-found.false in
    let docs = c.args.documents.now.docs in
    let names = c.args.documents.now.names in
    let up = c.requires.list.docs_ascend in
    let i = c.loop-document.document in
    let numbered = row.2.0 is in
    let flags = c.loop-document.invariant.flags in
    record {
      unjudged = one_more_name (topics_in c.args.self.now) c.args.topic c.args.documents.now.names c.loop-document.document row.0 row.1 c.loop-document.invariant.unjudged c.find_unjudged-found.result.is_found row.2.1 is;
      flags = elim c.if-found-flags.branch [
        | then-found-flags w ↦ subst (AreFlags docs (take (i + 1) names)) (sym w.flags-is) (flag_set docs up names i row.0 row.1 _ numbered c.loop-document.flags flags)
        | else-found-flags w ↦ subst (AreFlags docs (take (i + 1) names)) (sym w.flags-is) (flag_beyond docs up names i row.0 row.1 _ numbered c.loop-document.flags flags w.if-found-flags.false)
      ];
    }

pub returns-clause-other : goal.returns-clause-other
returns-clause-other c =
    let past : length c.args.documents.now.names ≤ c.loop-document.document = omega (arith, c.len-document-end.ensures, c.requires.list.few) in
    all_names (topics_in c.args.self.now) c.args.topic c.args.documents.now.names c.loop-document.document past c.loop-document.invariant.unjudged

pub returns-clause-flags : goal.returns-clause-flags
returns-clause-flags c = λ _.
    let names = c.args.documents.now.names in
    let past : length names ≤ c.loop-document.document = omega (arith, c.len-document-end.ensures, c.requires.list.few) in
    let whole : take c.loop-document.document names ≡ names = take_all c.loop-document.document names past in
    subst (λ ns. AreFlags c.args.documents.now.docs ns c.loop-document.flags) whole c.loop-document.invariant.flags

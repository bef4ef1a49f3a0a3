use Rattle.std.proofs.Common.{◌≤◌, length, arith}
use Rattle.std.proofs.lemmas.Option.{slice_get_within}
use Rattle.order_verifier.specs.Refusal.{topics_in}
use Rattle.order_verifier.proofs.ListNames.{all_names, first_other_name, none_before, not_false, not_true, one_more_name}
use Rattle.order_verifier.proofs.comparison.Comparison.first_other.Goals as goal

pub returns-then-not-found : goal.returns-then-not-found
returns-then-not-found c =
    let row = c.find_unjudged-found.ensures in
    first_other_name (topics_in c.args.self.now) c.args.topic c.args.documents.now.names c.loop-document.document row.0 row.1 c.loop-document.invariant c.find_unjudged-found.result.is_found row.2.1 (not_true c.find_unjudged-found.result.is_found c.if-not-found.true)

pub loop-document-init : goal.loop-document-init
loop-document-init c = none_before (topics_in c.args.self.now) c.args.topic c.args.documents.now.names (slice_get_within (topics_in c.args.self.now) c.args.topic c.requires.on.0 c.requires.on.1)

pub loop-document-preserved : goal.loop-document-preserved
loop-document-preserved c =
    let row = c.find_unjudged-found.ensures in
    one_more_name (topics_in c.args.self.now) c.args.topic c.args.documents.now.names c.loop-document.document row.0 row.1 c.loop-document.invariant c.find_unjudged-found.result.is_found row.2.1 (not_false c.find_unjudged-found.result.is_found c.if-not-found.false)

pub returns : goal.returns
returns c =
    let past : length c.args.documents.now.names ≤ c.loop-document.document = omega (arith, c.len-document-end.ensures, c.requires.few) in
    all_names (topics_in c.args.self.now) c.args.topic c.args.documents.now.names c.loop-document.document past c.loop-document.invariant

use Rattle.std.proofs.Common.{◌≡◌, ◌+◌, List, Some, length, take, ap, sym, subst, ◌∙◌, arith}
use Rattle.std.specs.Prelude.{slice_get}
use Rattle.std.specs.List.{AllByRecursion}
use Rattle.std.proofs.lemmas.List.{take_all}
use Rattle.std.proofs.lemmas.List.Elements.{All-from_recursion}
use Rattle.small_lemmas.proofs.Lists.{all_there}
use Rattle.order_certificate.specs.Evidence.{IsEvidence}
use Rattle.order_bundle.specs.Bundle.{Bundle}
use Rattle.order_bundle.specs.Evidence.{written_out}
use Rattle.order_bundle.specs.declared.bundle.PairClaim.{PairClaim}
use Rattle.order_verifier.specs.Refusal.{IsFirstFailing}
use Rattle.order_verifier.proofs.FirstFailing.{all_more}
use Rattle.topic_ends.proofs.DeskPlaces.{item_there}
use Rattle.bundle_verifier.specs.Refusal.{FailsOn, IsClaimOf}
use Rattle.bundle_verifier.proofs.Matched.{claims_of}
use Rattle.bundle_verifier.proofs.verifier.BundleVerifier.check_claims.Goals as goal

pub check_claim-requires-clause-claim : goal.check_claim-requires-clause-claim
check_claim-requires-clause-claim c =
    let b = c.args.bundle.now in
    let i = c.loop-claim.claim-index in
    let items = c.as_slice-claim-items.result.now in
    let same : items ≡ b.claims = c.as_slice-claim-items.ensures ∙ ap (λ (v : Bundle). v.claims) c.bundle.view_is in
    let at : slice_get b.claims i ≡ Some c.claim-item.result = subst (λ (ks : List PairClaim). slice_get ks i ≡ Some c.claim-item.result) same (item_there items i c.claim-item.result c.loop-claim-test.true c.claim-item.is) in
    all_there (IsClaimOf b) b.claims i c.claim-item.result (claims_of b c.valid.ensures) at

pub returns-in-Err : goal.returns-in-Err
returns-in-Err c =
    let b = c.args.bundle.now in
    let desk = c.args.desk.now in
    let marks = c.args.marks.now in
    let i = c.loop-claim.claim-index in
    let items = c.as_slice-claim-items.result.now in
    let same : items ≡ b.claims = c.as_slice-claim-items.ensures ∙ ap (λ (v : Bundle). v.claims) c.bundle.view_is in
    let at : slice_get b.claims i ≡ Some c.claim-item.result = subst (λ (ks : List PairClaim). slice_get ks i ≡ Some c.claim-item.result) same (item_there items i c.claim-item.result c.loop-claim-test.true c.claim-item.is) in
    let inv = c.loop-claim.invariant in (
      c.requires.names,
      subst (IsFirstFailing (λ k. IsEvidence (written_out b k) desk marks) (λ k. FailsOn b desk marks k c.in-Err.failure) b.claims) (sym inv.place)
          (record { before = inv.evidence; item = c.claim-item.result; there = at; fails = c.in-Err.ensures }),
    )

pub loop-claim-preserved : goal.loop-claim-preserved
loop-claim-preserved c =
    let b = c.args.bundle.now in
    let i = c.loop-claim.claim-index in
    let items = c.as_slice-claim-items.result.now in
    let same : items ≡ b.claims = c.as_slice-claim-items.ensures ∙ ap (λ (v : Bundle). v.claims) c.bundle.view_is in
    let at : slice_get b.claims i ≡ Some c.claim-item.result = subst (λ (ks : List PairClaim). slice_get ks i ≡ Some c.claim-item.result) same (item_there items i c.claim-item.result c.loop-claim-test.true c.claim-item.is) in
    let inv = c.loop-claim.invariant in
    record {
      place = ap (λ k. k + 1) inv.place;
      evidence = all_more (λ k. IsEvidence (written_out b k) c.args.desk.now c.args.marks.now) b.claims i c.claim-item.result inv.evidence at c.in_default.ensures;
    }

pub returns : goal.returns
returns c =
    let b = c.args.bundle.now in
    let i = c.loop-claim.claim-index in
    let items = c.as_slice-claim-items.result.now in
    let same : items ≡ b.claims = c.as_slice-claim-items.ensures ∙ ap (λ (v : Bundle). v.claims) c.bundle.view_is in
    let P : PairClaim → Type 0 = λ k. IsEvidence (written_out b k) c.args.desk.now c.args.marks.now in
    let whole : take i b.claims ≡ b.claims = take_all i b.claims (omega (arith, c.loop-claim-test.false, ap length same)) in
    record {
      runs = c.requires.names.0;
      topics = c.requires.names.1;
      claims = All-from_recursion P b.claims (subst (AllByRecursion P) whole c.loop-claim.invariant.evidence);
    }

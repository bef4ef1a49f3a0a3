use Rattle.std.proofs.Common.{Err, length, subst, List, ℕ}
use Rattle.std.proofs.lemmas.Result.{err_from_is_err_and}
use Rattle.line_forms.specs.Reading.{BeginsWith, IsReading}
use Rattle.line_forms.proofs.Sequel.{then_reads, stop_reads}
use Rattle.order_bundle.specs.Places.{claims_places, from_end}
use Rattle.order_bundle.specs.declared.bundle.TopicNames.{TopicNames}
use Rattle.order_bundle.proofs.ClaimRows.{claims_forth, claims_plain}
use Rattle.order_bundle.proofs.reading.from_claims.Goals as goal

pub returns-in_err-claims : goal.returns-in_err-claims
returns-in_err-claims c =
    let p = err_from_is_err_and c.from_residual.result c.from_residual.ensures.1 in
    let runs = c.args.runs in
    let topics = c.args.topics in
    let fails = subst (λ (ts : List TopicNames). IsReading (claims_places (length runs) ts) c.args.lines.now.rest (Err c.in_err-claims.field-0.0) c.claims.new.lines) c.as_slice-2.ensures
    (subst (λ (rs : List (List ℕ)). IsReading (claims_places (length rs) c.as_slice-2.result.now) c.args.lines.now.rest (Err c.in_err-claims.field-0.0) c.claims.new.lines) c.as_slice.ensures c.in_err-claims.ensures) in
    rw (p.1, p.2) (stop_reads (claims_places (length runs) topics) (from_end c.args.measure c.args.level runs topics) c.args.lines.now.rest c.claims.new.lines c.in_err-claims.field-0.0 (claims_plain (length runs) topics c.requires.runs.count.1 c.requires.topics) fails)

pub from_end-requires-clause-claims : goal.from_end-requires-clause-claims
from_end-requires-clause-claims c =
    let runs = c.args.runs in
    let topics = c.args.topics in
    let read = subst (λ (ts : List TopicNames). BeginsWith (claims_places (length runs) ts) c.args.lines.now.rest c.in_ok-claims.claims c.claims.new.lines.rest) c.as_slice-2.ensures
    (subst (λ (rs : List (List ℕ)). BeginsWith (claims_places (length rs) c.as_slice-2.result.now) c.args.lines.now.rest c.in_ok-claims.claims c.claims.new.lines.rest) c.as_slice.ensures c.in_ok-claims.ensures) in
    (claims_forth (length runs) topics c.requires.runs.count.1 c.requires.topics read.lines c.in_ok-claims.claims read.spells).0

pub returns : goal.returns
returns c =
    let runs = c.args.runs in
    let topics = c.args.topics in
    let read = subst (λ (ts : List TopicNames). BeginsWith (claims_places (length runs) ts) c.args.lines.now.rest c.in_ok-claims.claims c.claims.new.lines.rest) c.as_slice-2.ensures
    (subst (λ (rs : List (List ℕ)). BeginsWith (claims_places (length rs) c.as_slice-2.result.now) c.args.lines.now.rest c.in_ok-claims.claims c.claims.new.lines.rest) c.as_slice.ensures c.in_ok-claims.ensures) in
    then_reads (claims_places (length runs) topics) (from_end c.args.measure c.args.level runs topics) c.args.lines.now.rest c.claims.new.lines.rest c.in_ok-claims.claims c.from_end.new.lines c.from_end.result (claims_plain (length runs) topics c.requires.runs.count.1 c.requires.topics) read c.from_end.ensures

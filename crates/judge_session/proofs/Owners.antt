-- Whose a change is.
use Rattle.std.proofs.Common.{◌≡◌, ℕ, List, true, false, ap, ◌∙◌}
use Rattle.std.specs.Prelude.{not, ◌&&◌}
use Rattle.desk_model.specs.Name.{is_same_name}
use Rattle.judge_session.specs.declared.change.Change.{Change}
use Rattle.judge_session.specs.Session.{is_by, is_live_by, is_undone_by}
use Rattle.judge_session.proofs.Names.{same}
use Rattle.std.proofs.lemmas.Bool.{and_parts, not-true}

-- a live change of who, and how q counts it
pub live_counts : (who q : List ℕ) (x : Change) → is_live_by who x ≡ true → is_live_by q x ≡ is_same_name who q
live_counts who q x h =
    let parts = and_parts x.live (is_by who x) h in
    ap (λ b. b && is_by q x) parts.0 ∙ ap (λ w. is_same_name w q) (same x.who who parts.1)

pub live_not_undone : (who q : List ℕ) (x : Change) → is_live_by who x ≡ true → is_undone_by q x ≡ false
live_not_undone who q x h = ap (λ b. not b && is_by q x) (and_parts x.live (is_by who x) h).0

pub live_is_by : (who q : List ℕ) (x : Change) → is_live_by who x ≡ true → is_by q x ≡ is_same_name who q
live_is_by who q x h = ap (λ w. is_same_name w q) (same x.who who (and_parts x.live (is_by who x) h).1)

pub undone_counts : (who q : List ℕ) (x : Change) → is_undone_by who x ≡ true → is_undone_by q x ≡ is_same_name who q
undone_counts who q x h =
    let parts = and_parts (not x.live) (is_by who x) h in
    ap (λ b. b && is_by q x) parts.0 ∙ ap (λ w. is_same_name w q) (same x.who who parts.1)

pub undone_not_live : (who q : List ℕ) (x : Change) → is_undone_by who x ≡ true → is_live_by q x ≡ false
undone_not_live who q x h = ap (λ b. b && is_by q x) (not-true x.live (and_parts (not x.live) (is_by who x) h).0)

pub undone_is_by : (who q : List ℕ) (x : Change) → is_undone_by who x ≡ true → is_by q x ≡ is_same_name who q
undone_is_by who q x h = ap (λ w. is_same_name w q) (same x.who who (and_parts (not x.live) (is_by who x) h).1)

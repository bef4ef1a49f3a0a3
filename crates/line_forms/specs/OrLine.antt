-- A line that may be missing.
use Rattle.std.specs.Prelude.{◌⊎◌, ℕ, List}
use Rattle.std.proofs.Common.{inl, inr}
use Rattle.line_forms.specs.Form.{Form, Whole, Line}

-- a part of one of two kinds: how it is shown, whether it fits, and what it asks for
abbrev pub show_either : {P Q : Type 0} → (P → List ℕ) → (Q → List ℕ) → P ⊎ Q → List ℕ
show_either show other (inl p) = show p
show_either show other (inr q) = other q

abbrev pub fits_either : {P Q : Type 0} → (P → Type 0) → (Q → Type 0) → P ⊎ Q → Type 0
fits_either Fits Goes (inl p) = Fits p
fits_either Fits Goes (inr q) = Goes q

abbrev pub next_either : {P Q X : Type 0} → (P → Form X) → (Q → Form X) → P ⊎ Q → Form X
next_either next after (inl p) = next p
next_either next after (inr q) = after q

-- a line that shows one of some parts, and then what that part asks for; or, where it is missing, what another form asks for, which begins
-- with a line of its own: where that form asks for no line, none may come
abbrev pub or_line : {P X : Type 0} → (P → List ℕ) → (P → Type 0) → (P → Form X) → Form X → Form X
or_line show Fits next (Whole x) = Whole x
or_line {P} show Fits next (Line {P = Q} other Goes after) = Line {P = P ⊎ Q} (show_either show other) (fits_either Fits Goes) (next_either next after)

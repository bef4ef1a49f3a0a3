use Rattle.std.proofs.Common.{◌≤◌, ◌++◌, ◌∷◌, List, ℕ, decimal, arith}
use Rattle.line_forms.specs.Places.{IsLaterName, count_line}
use Rattle.line_forms.proofs.Cuts.{above_free}
use Rattle.line_forms.proofs.WordParts.{free-append}
use Rattle.line_forms.proofs.Plain.{name_in_line, decimal_in_line}
use Rattle.line_forms.proofs.Sequel.{read_part, read_none}
use Rattle.line_forms.proofs.places.name_and_count_line.Goals as goal

pub returns-in-Some : goal.returns-in-Some
returns-in-Some c =
    let word = c.args.word.now in
    read_part (λ (p : List ℕ × ℕ). count_line word p.0 p.1) (λ (p : List ℕ × ℕ). IsLaterName c.args.before.now p.0 × (p.1 ≤ c.args.most)) c.args.lines.now.rest c.in-Some.line.now c.next_line.new.self c.name_and_count_of.result
    (λ p fits. free-append 10 (word ++ p.0) (32 ∷ decimal p.1) (free-append 10 word p.0 c.requires.word (above_free 10 p.0 (name_in_line p.0 fits.0.0))) ((λ e. omega arith), above_free 10 (decimal p.1) (decimal_in_line p.1)))
    c.next_line.ensures.last c.in-Some.ensures.some c.in-Some.ensures.feedless c.name_and_count_of.ensures

pub returns-in-None : goal.returns-in-None
returns-in-None c =
    read_none (λ (p : List ℕ × ℕ). count_line c.args.word.now p.0 p.1) (λ (p : List ℕ × ℕ). IsLaterName c.args.before.now p.0 × (p.1 ≤ c.args.most)) c.args.lines.now.rest c.next_line.new.self.last c.next_line.ensures.last c.in-None.ensures.none

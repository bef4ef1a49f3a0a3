use Rattle.std.proofs.Common.{◌≡◌, ◌∙◌, ℕ, List, [], ◌∷◌, ◌++◌, ap, sym, decimal, append_assoc}
use Rattle.line_forms.specs.Form.{ended}
use Rattle.line_forms.specs.Reading.{IsFreeOf}
use Rattle.line_forms.proofs.Cuts.{above_free, free_parts}
use Rattle.line_forms.proofs.Plain.{decimal_in_line}
use Rattle.line_forms.proofs.WordParts.{after_word, free-append}
use Rattle.line_forms.proofs.places.first_number.Goals as goal

-- the first line of a text that begins with a word and a number says just that
first_is : (word text line rest more : List ℕ) (n : ℕ) → IsFreeOf 10 word → IsFreeOf 10 line → text ≡ line ++ 10 ∷ rest → text ≡ ended (word ++ decimal n) ++ more → line ≡ word ++ decimal n
first_is word text line rest more n plain free cut e =
    (free_parts 10 line (word ++ decimal n) rest more free (free-append 10 word (decimal n) plain (above_free 10 (decimal n) (decimal_in_line n))) (sym cut ∙ e ∙ append_assoc (word ++ decimal n) (10 ∷ []) more)).0

pub returns-in_default-clause-none : goal.returns-in_default-clause-none
returns-in_default-clause-none c n more fits e = c.in_default.ensures.none (c.args.word.now ++ decimal n) more (e ∙ append_assoc (c.args.word.now ++ decimal n) (10 ∷ []) more)

pub returns-in_default-after-clause-none : goal.returns-in_default-after-clause-none
returns-in_default-after-clause-none c n more fits e =
    c.in_default-after.ensures.none (decimal n) (first_is c.args.word.now c.args.text.now c.in-Some.line.now c.in-Some.rest.now more n c.requires.word c.in-Some.ensures.free c.in-Some.ensures.some e)

pub returns-in-None-clause-none : goal.returns-in-None-clause-none
returns-in-None-clause-none c n more fits e =
    let line = first_is c.args.word.now c.args.text.now c.in-Some.line.now c.in-Some.rest.now more n c.requires.word c.in-Some.ensures.free c.in-Some.ensures.some e in
    c.in-None.ensures.none n fits.0 fits.1 (after_word c.args.word.now c.in-Some.line.now c.in-Some-after.digits.now (decimal n) c.in-Some-after.ensures.some line)

pub returns-in-Some-count-clause-some : goal.returns-in-Some-count-clause-some
returns-in-Some-count-clause-some c =
    let word = c.args.word.now in
    let n = c.in-Some-count.number in
    let rest = c.in-Some.rest.now in
    c.in-Some.ensures.some ∙ ap (λ z. z ++ 10 ∷ rest) (c.in-Some-after.ensures.some ∙ ap (λ z. word ++ z) c.in-Some-count.ensures.some) ∙ sym (append_assoc (word ++ decimal n) (10 ∷ []) rest)

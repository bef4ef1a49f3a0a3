-- One more read of the input.
use Rattle.std.proofs.Common.{◌≡◌, ℕ, ◌+◌, ◌-◌, ◌≤◌, ◌<◌, List, [], ◌++◌, take, drop, length, refl, ap, sym, subst, ◌∙◌, arith, append-nil, length-append, inl, inr}
use Rattle.std.specs.Prelude.{Option, min}
use Rattle.std.specs.Io.KnownBytes.{prepend_known}
use Rattle.std.proofs.lemmas.List.{take-append-le, length-take, take_all}
use Rattle.std.proofs.lemmas.Bool.{cases_lt}
use Rattle.std.proofs.Math.Seq.{take-add, take-append_seam}
use Rattle.desk_outside.proofs.Told.{prepend_known-prepend, append_known-nil}
use Rattle.judge_session.specs.declared.change.Change.{Change}
use Rattle.session_replies.specs.Replies.{Setting}
use Rattle.session_replies.specs.State.{cells_of}
use Rattle.desk_text.specs.Lines.{unended, kept_line}
use Rattle.session_stream.specs.Held.{Talks, IsHeld}
use Rattle.session_stream.specs.declared.stream.TheConstants.{LONGEST_INPUT}
use Rattle.session_stream.proofs.Hearing.{cut_at_limit, within_limit}
use Rattle.desk_outside.proofs.Told.{prepend_known-nil}

-- the bytes of a read that are within the limit, as the room holds them
abbrev pub within_of : ℕ → ℕ → ℕ
within_of taken count = min count (LONGEST_INPUT - taken)

-- the first bytes of the first bytes
take_take : (most count within : ℕ) (room : List ℕ) → count ≤ length room → within ≡ min count most → take most (take count room) ≡ take within room
take_take most count within room fits is = elim (cases_lt count most) [
  | inl lt ↦ take_all most (take count room) (omega (arith, length-take count room)) ∙ ap (λ n. take n room) (the_count lt)
  | inr le ↦ first le ∙ ap (λ n. take n room) (the_most le)
]
  where
    the_count : count < most → count ≡ within
    the_count lt = omega (arith, lt, is)

    the_most : most ≤ count → most ≡ within
    the_most le = omega (arith, le, is)

    first : most ≤ count → take most (take count room) ≡ take most room
    first le =
        let long : length (take most room) ≡ most = omega (arith, length-take most room, le, fits) in
        let split : count ≡ most + (count - most) = omega (arith, le) in
        ap (λ n. take most (take n room)) split ∙ ap (take most) (take-add most (count - most) room)
        ∙ ap (λ n. take n (take most room ++ take (count - most) (drop most room))) (sym long) ∙ take-append_seam (take most room) (take (count - most) (drop most room))

pub answered_bytes : (bytes room more : List ℕ) (taken count within : ℕ) → length bytes ≡ taken → taken ≤ LONGEST_INPUT → count ≤ length room → within ≡ within_of taken count →
    take LONGEST_INPUT (bytes ++ take count room) ≡ bytes ++ take within (room ++ more)
answered_bytes bytes room more taken count within is le fits cut =
    cut_at_limit bytes (take count room) (omega (arith, is, le))
    ∙ ap (λ n. bytes ++ take (LONGEST_INPUT - n) (take count room)) is
    ∙ ap (λ xs. bytes ++ xs) (take_take (LONGEST_INPUT - taken) count within room fits cut ∙ sym (take-append-le within room more (omega (arith, fits, cut))))

module _ (s : Setting) (old now had has : Option (List ℕ)) (first total : ℕ) (line : Option (List ℕ)) (c : List Change) (taken : ℕ) (h : IsHeld s old now had has first total line c taken) (le : taken ≤ LONGEST_INPUT) where
  pub talks_all : Talks s had has first total h.bytes c
  talks_all = subst (λ b. Talks s had has first total b c) (within_limit h.bytes (omega (arith, h.count, le))) h.talks

  pub line_all : line ≡ kept_line (unended h.bytes)
  line_all = h.line_is ∙ ap (λ b. kept_line (unended b)) (within_limit h.bytes (omega (arith, h.count, le)))

  pub bytes_short : length h.bytes ≤ LONGEST_INPUT
  bytes_short = omega (arith, h.count, le)

  -- what was taken with one more read
  module _ (now' : Option (List ℕ)) (room more : List ℕ) (count within : ℕ) (fits : count ≤ length room) (cut : within ≡ within_of taken count) (read : now ≡ prepend_known (take count room) now') where
    abbrev pub bytes_more : List ℕ
    bytes_more = h.bytes ++ take count room

    abbrev pub piece_of : List ℕ
    piece_of = take within (room ++ more)

    pub rest_more : old ≡ prepend_known bytes_more now'
    rest_more = h.rest ∙ ap (prepend_known h.bytes) read ∙ prepend_known-prepend h.bytes (take count room) now'

    pub count_more : length bytes_more ≡ taken + count
    count_more = omega (arith, length-append h.bytes (take count room), h.count, length-take count room, fits)

    pub piece_answered : take LONGEST_INPUT bytes_more ≡ h.bytes ++ piece_of
    piece_answered = answered_bytes h.bytes room more taken count within h.count le fits cut

    -- the lines of the piece were answered
    pub held_more : (has' : Option (List ℕ)) (total' : ℕ) (line' : Option (List ℕ)) (c' : List Change) → Talks s had has' first total' (h.bytes ++ piece_of) c' → line' ≡ kept_line (unended (h.bytes ++ piece_of)) → IsHeld s old now' had has' first total' line' c' (taken + count)
    held_more has' total' line' c' talks is = record {
      bytes = bytes_more;
      rest = rest_more;
      count = count_more;
      talks = subst (λ b. Talks s had has' first total' b c') (sym piece_answered) talks;
      line_is = is ∙ ap (λ b. kept_line (unended b)) (sym piece_answered);
    }

-- a read that gave nothing
pub nothing_read : (s : Setting) (old now had has : Option (List ℕ)) (first total : ℕ) (line : Option (List ℕ)) (c : List Change) (taken : ℕ) (h : IsHeld s old now had has first total line c taken) (now' : Option (List ℕ)) (room : List ℕ) (count : ℕ) → count ≡ 0 → now ≡ prepend_known (take count room) now' →
    old ≡ prepend_known h.bytes now'
nothing_read s old now had has first total line c taken h now' room count none read =
    h.rest ∙ ap (prepend_known h.bytes) (read ∙ ap (λ n. prepend_known (take n room) now') none) ∙ prepend_known-prepend h.bytes [] now' ∙ ap (λ b. prepend_known b now') (append-nil h.bytes)

-- nothing was taken yet
pub held_at_start : (s : Setting) (rest had : Option (List ℕ)) (steps owes : ℕ) (line : Option (List ℕ)) (c : List Change) → line ≡ kept_line [] → c ≡ [] → owes ≡ cells_of s.desk → IsHeld s rest rest had had (steps + cells_of s.desk) (steps + owes) line c 0
held_at_start s rest had steps owes line c is none owed_is = record {
  bytes = [];
  rest = prepend_known-nil rest;
  count = refl;
  talks = record {
    no_quit = refl;
    texts = [];
    replies = tt;
    received = sym (append_known-nil had);
    changes_are = none;
    cells = omega (arith, owed_is);
  };
  line_is = is;
}

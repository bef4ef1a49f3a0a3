-- The last read of a session's input.
use Rattle.std.proofs.Common.{◌≡◌, ℕ, ◌+◌, ◌<◌, ◌≤◌, List, [], ◌∷◌, ◌++◌, ap, sym, subst, ◌∙◌, arith, append_assoc, append-nil}
use Rattle.std.specs.Prelude.{Option}
use Rattle.desk_outside.specs.Calls.{GiveInAll}
use Rattle.desk_outside.specs.Seen.{Source}
use Rattle.desk_outside.specs.declared.log.ReadCall.{ReadCall}
use Rattle.desk_outside.specs.declared.log.ReadCall.TheVariants.{Gave}
use Rattle.desk_outside.proofs.Logs.{give_nothing, give_more}
use Rattle.judge_session.specs.declared.change.Change.{Change}
use Rattle.session_replies.specs.Replies.{Setting}
use Rattle.session_stream.specs.Held.{IsHeld}
use Rattle.session_stream.specs.NoMore.{ReadsOn}
use Rattle.session_stream.specs.declared.stream.TheConstants.{LONGEST_INPUT}
use Rattle.session_stream.proofs.Reading.{talks_all}

-- the reads so far, each of which gave some bytes
abbrev pub ReadSoFar : List ReadCall → List ReadCall → ℕ → Type 0
ReadSoFar had has taken = (reads : List ReadCall) × (has ≡ had ++ reads) × GiveInAll reads taken

pub none_read : (had : List ReadCall) → ReadSoFar had had 0
none_read had = ([], sym (append-nil had), give_nothing)

one_more : (had between has reads : List ReadCall) (last : ReadCall) → between ≡ had ++ reads → has ≡ between ++ last ∷ [] → has ≡ had ++ (reads ++ last ∷ [])
one_more had between has reads last before after = after ∙ ap (λ calls. calls ++ last ∷ []) before ∙ append_assoc had reads (last ∷ [])

pub some_read : (had between has : List ReadCall) (taken count : ℕ) → ReadSoFar had between taken → 0 < count → has ≡ between ++ Gave count ∷ [] → ReadSoFar had has (taken + count)
some_read had between has taken count so_far some after = (so_far.0 ++ Gave count ∷ [], one_more had between has so_far.0 (Gave count) so_far.1 after, give_more so_far.0 taken count so_far.2 some)

-- one more read, after bytes within the limit whose lines are not `quit`
pub reads_on : (s : Setting) (now had has : Option (List ℕ)) (first total : ℕ) (line : Option (List ℕ)) (c : List Change) (taken : ℕ) (input : Source) (between : List ReadCall) (last : ReadCall) → IsHeld s input.rest now had has first total line c taken → taken ≤ LONGEST_INPUT →
    ReadSoFar input.had between taken → input.has ≡ between ++ last ∷ [] → ReadsOn input
reads_on s now had has first total line c taken input between last h le so_far after = record {
  reads = so_far.0;
  last = last;
  made = one_more input.had between input.has so_far.0 last so_far.1 after;
  bytes = h.bytes;
  rest = now;
  taken = h.rest;
  given = subst (GiveInAll so_far.0) (sym h.count) so_far.2;
  within = omega (arith, h.count, le);
  no_quit = (talks_all s input.rest now had has first total line c taken h le).no_quit;
}

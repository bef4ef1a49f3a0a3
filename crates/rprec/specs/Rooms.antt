-- Room for what two runs share.
use Rattle.std.specs.Prelude.{ℕ, length, max}
use Rattle.rprec.specs.declared.known.KnownPair.{KnownPair}

-- how many documents the longer of two runs has, and at least 1
abbrev pub longest_of : KnownPair → ℕ
longest_of known = max 1 (max (length known.a.now) (length known.b.now))

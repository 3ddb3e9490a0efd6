-- The short check (02, (b)): what "none up to a number of lamps" says.
use Rattle.std.specs.Prelude.{ℕ, ◌≤◌, length}
use Rattle.lamp_line.specs.declared.WorldState.{WorldState}
use Rattle.lamp_line.specs.declared.FailureKind.{FailureKind}
use Rattle.lamp_line.specs.Tables.{Tables, Line}
use Rattle.lamp_line.specs.Check.{Fails}

-- No line of up to this many lamps fails from any marked start. Nothing is said of longer lines.
abbrev pub NoneUpTo : Tables → ℕ → Type 0
NoneUpTo t longest =
    (kind : FailureKind) (start : WorldState) (line : Line) → length line.lamps ≤ longest → ¬ (Fails t kind start line)

-- For the search of both checks: what it answers and leaves.
use Rattle.std.specs.Prelude.{◌≡◌, List, ℕ, ◌+◌, ◌*◌, ◌≤◌, length, take, drop, Result, Ok, Err}
use Rattle.lamp_line.specs.Tables.{Tables, line_of}
use Rattle.lamp_line.specs.Check.{failed}
use Rattle.run_laws.specs.inner.Pairs.{pairs}
use Rattle.check_laws.specs.inner.Search.{verdict_of}
use Rattle.plan_search.specs.inner.Searching.{NoneMet}
use Rattle.line_finding.specs.declared.Failure.{Failure}

-- Refusals 12 and 13 do not apply.
pub record Room (t : Tables) (line list words : ℕ) : Type 0 where
  pub line_room : t.states * t.worlds + 1 ≤ line
  pub list_room : pairs t ≤ list
  pub words_room : pairs t ≤ words * 64

-- The failing line has this kind of end and at most `longest` lamps, which are at the front of the line buffer.
pub record LineFound (t : Tables) (longest : ℕ) (f : Failure) (line : List ℕ) : Type 0 where
  pub verdict_is : verdict_of t ≡ failed f.kind f.start (line_of f.end (take f.lamps line))
  pub short : f.lamps ≤ longest

-- What was found, with the line buffer afterwards.
abbrev pub FindsSo : Tables → ℕ → Result ℕ Failure → List ℕ → Type 0
FindsSo t longest (Ok count) line = NoneMet t longest count
FindsSo t longest (Err f) line = LineFound t longest f line

-- How many bytes of the line buffer are written.
abbrev pub written_by : Result ℕ Failure → ℕ
written_by (Ok count) = 0
written_by (Err f) = f.lamps

-- The answer is that of the search's definition, and the bytes of the line buffer after the line are as before.
pub record Finds (t : Tables) (longest : ℕ) (r : Result ℕ Failure) (line line' : List ℕ) : Type 0 where
  pub so : FindsSo t longest r line'
  pub within : written_by r ≤ length line'
  pub others : drop (written_by r) line' ≡ drop (written_by r) line

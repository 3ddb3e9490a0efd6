-- The parts of the search, one after the other: what holds for the result of each.
use mathlib.Core.List.{List}
use Rattle.lamp_line.specs.Check.{Verdict}
use Rattle.search_laws.specs.inner.Entries.{Entry}
use Rattle.check_laws.specs.inner.Search.{Turn, answers, goes_on, and_then}

-- What has to hold for the result of a part: it is an answer with the property Q, or a table with the property P.
abbrev pub Owes : (Verdict → Type 0) → (List Entry → Type 0) → Turn → Type 0
Owes Q P (answers v) = Q v
Owes Q P (goes_on E) = P E

-- A part of the search, followed by the next.
pub and_then_lem :
    (Q : Verdict → Type 0) (P P' : List Entry → Type 0) (r : Turn) (f : List Entry → Turn) →
    Owes Q P r → ((E : List Entry) → P E → Owes Q P' (f E)) → Owes Q P' (and_then r f)
and_then_lem Q P P' (answers v) f h after = h
and_then_lem Q P P' (goes_on E) f h after = after E h

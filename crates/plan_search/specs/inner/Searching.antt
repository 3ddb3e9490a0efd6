-- For the loops of the search and the crate above: what they answer and leave.
use Rattle.std.specs.Prelude.{◌≡◌, List, ℕ, ◌≤◌, length, take, Result, Ok, Err}
use Rattle.lamp_line.specs.Tables.{Tables}
use Rattle.lamp_line.specs.declared.FailureKind.{FailureKind}
use Rattle.lamp_line.specs.Check.{accepted}
use Rattle.run_laws.specs.inner.Pairs.{pairs}
use Rattle.check_laws.specs.inner.Search.{failing, line_lamps, Beyond, verdict_of}
use Rattle.plan_search.specs.declared.FailingLine.{FailingLine}
use Rattle.working_list.specs.inner.Placing.{MemberOf, Chained}
use Rattle.working_list.specs.inner.Listing.{table}

-- No line of up to `longest` lamps fails. If this is no bound, none fails at all, and this many pairs are reached.
pub record NoneMet (t : Tables) (longest count : ℕ) : Type 0 where
  pub none : Beyond longest (verdict_of t)
  pub all : pairs t ≤ longest → verdict_of t ≡ accepted count

-- The line that was tried from a member with a last lamp of the kind k fails, with this kind of end, and it has this number of lamps.
-- What is needed to read it off the list: it holds n pairs, each found from a start or from a pair before it, and the member is a start or
-- among them.
pub record LineMet (t : Tables) (longest : ℕ) (kind : FailureKind) (end : ℕ) (list : List ℕ) (n member k lamps : ℕ) : Type 0 where
  pub verdict_is : verdict_of t ≡ failing (table t list n) k kind member end
  pub lamps_are : lamps ≡ length (line_lamps (table t list n) member k)
  pub short : lamps ≤ longest
  pub member_of : MemberOf n member k
  pub few : n ≤ 4160
  pub room : n ≤ length list
  pub chained : Chained (take n list)

-- What the answer of `search_groups` says, with the list that it left.
abbrev pub SearchedSo : Tables → ℕ → Result ℕ FailingLine → List ℕ → Type 0
SearchedSo t longest (Ok count) list = NoneMet t longest count
SearchedSo t longest (Err line) list = LineMet t longest line.failure line.end list line.count line.member line.kind line.lamps

-- `search_groups` answered r and left this list.
pub record Searched (t : Tables) (longest : ℕ) (r : Result ℕ FailingLine) (list : List ℕ) : Type 0 where
  pub so : SearchedSo t longest r list

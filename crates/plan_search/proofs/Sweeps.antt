-- The loop over the members of a line: what is left to be tried gives what the whole line gives.
use mathlib.Core.Path.{◌≡◌, refl, sym, ap, subst, ◌∙◌}
use mathlib.Core.Bool.{Bool}
use mathlib.Core.List.{List}
use Prim.Native.Nat.{ℕ, ◌+◌, ◌≤◌, ◌<◌}
use native.Mathlib.Omega.{arith}
use Rattle.lamp_line.specs.declared.FailureKind.{FailureKind}
use Rattle.lamp_line.specs.Tables.{Tables}
use Rattle.job_layout.specs.declared.Job.{Job}
use Rattle.job_layout.specs.JobTables.{tables_by}
use Rattle.lamp_fates.specs.inner.Memory.{Memory}
use Rattle.search_laws.specs.inner.Entries.{Entry}
use Rattle.check_laws.specs.inner.Search.{Turn, fails_at, tried, answers, goes_on, failing, line_tried}
use Rattle.check_laws.proofs.SearchRest.{members_left, lowest_left, line_begins, members_done, member_quiet, member_finds, member_fails}
use Rattle.check_laws.proofs.SearchRest.{lowest_done, lowest_quiet, lowest_finds, lowest_lower, lowest_kept, lowest_at_0}
use Rattle.working_list.specs.inner.Listing.{table, Listed}
use Rattle.working_list.proofs.ListLaws.{count_fits, table_length}
use Rattle.run_laws.proofs.Pairs.{pairs_few}
use Rattle.line_trial.proofs.TryingEnds.{ready_tables}
use Rattle.line_trial.specs.inner.Trials.{Ready}
use Rattle.line_trial.specs.declared.FailingEnd.{FailingEnd}
use Rattle.line_trial.specs.inner.Turning.{Grows, stays, adds, Keeps, grows, was_quiet, was_new, Turned}
use Rattle.plan_search.specs.declared.FailingLine.{FailingLine}
use Rattle.std.proofs.Math.Bool.{not-not}
use Rattle.std.specs.Prelude.{⊤, Option, None, Some, is_some, is_none, not, MatchOption, Result, Ok, Err}

-- The list holds at most 65 times 64 pairs.
pub held_few :
    {s : List ℕ} {j : Job} {memory list words : List ℕ} {n : ℕ} → Ready s j memory → Listed (tables_by s j) list words n → n ≤ 4160
held_few ready listed = omega (arith, count_fits listed, pairs_few (ready_tables ready))

-- With n pairs in the list, the members of a line before `to` are starts if its kind is 0, else places of pairs.
pub record Members (t : Tables) (n to kind : ℕ) : Type 0 where
  pub starts : kind ≡ 0 → to ≤ t.worlds
  pub places : 1 ≤ kind → to ≤ n
  pub kind_range : kind ≤ t.kinds

-- The line that fails from the member w.
abbrev pub line_at : FailureKind → ℕ → ℕ → ℕ → ℕ → ℕ → FailingLine
line_at failure end n w k lamps = record { failure = failure; end = end; count = n; member = w; kind = k; lamps = lamps }

-- The line has failed from members before i, and this is the first of those failures that has the lowest end: what it and the members from
-- i on give. Its end is not 0, since the search ends at such a failure.
pub record Lowest (t : Tables) (E : List Entry) (n from to k lamps i : ℕ) (r : Turn) (line : FailingLine) : Type 0 where
  pub line_is : line ≡ line_at line.failure line.end n line.member k lamps
  pub low : from ≤ line.member
  pub high : line.member < to
  pub above : 0 < line.end
  pub gives : r ≡ answers (lowest_left t E i to k line.failure line.member line.end)

-- What the members from i on give, where the list holds the n entries of E: the line has failed from none of those before them, or it has,
-- and this is its failure so far.
abbrev pub Gives : Tables → ℕ → List Entry → ℕ → ℕ → ℕ → ℕ → ℕ → ℕ → Turn → Option FailingLine → Type 0
Gives t before E n from to k lamps i r None = r ≡ members_left t before E i to k
Gives t before E n from to k lamps i r (Some line) = Lowest t E n from to k lamps i r line

-- The failure so far stays, whatever the member i does.
lowest_on :
    {t : Tables} {E : List Entry} {n from to k lamps i : ℕ} {r : Turn} {line : FailingLine} → Lowest t E n from to k lamps i r line →
    lowest_left t E i to k line.failure line.member line.end ≡ lowest_left t E (i + 1) to k line.failure line.member line.end →
    Lowest t E n from to k lamps (i + 1) r line
lowest_on lowest same =
    record { line_is = lowest.line_is; low = lowest.low; high = lowest.high; above = lowest.above; gives = lowest.gives ∙ ap answers same }

-- A line with this number of lamps is tried from the members from i on. The list held `before` pairs before it was tried; it holds n now.
-- What is left gives what the whole line gives.
pub record Sweeping
    (s : List ℕ) (j : Job) (list₀ : List ℕ) (before from to k lamps : ℕ) (memory list words : List ℕ) (n : ℕ)
    (so_far : Option FailingLine) (i : ℕ) : Type 0 where
  pub ready : Ready s j memory
  pub listed : Listed (tables_by s j) list words n
  pub members : Members (tables_by s j) before to k
  pub low : from ≤ i
  pub more : before ≤ n
  pub gives :
      Gives (tables_by s j) before (table (tables_by s j) list n) n from to k lamps i
      (line_tried (tables_by s j) (table (tables_by s j) list₀ before) from to k) so_far

-- The line fails from the member w, with this kind of end.
pub record LineFails
    (t : Tables) (list₀ : List ℕ) (before from to k : ℕ) (list words : List ℕ) (n : ℕ) (kind : FailureKind) (end w : ℕ) : Type 0 where
  pub answer_is : line_tried t (table t list₀ before) from to k ≡ answers (failing (table t list n) k kind w end)
  pub listed : Listed t list words n
  pub low : from ≤ w
  pub high : w < to
  pub more : before ≤ n

-- No member was tried yet.
pub sweeping_begins :
    {s : List ℕ} {j : Job} {memory list words : List ℕ} {n from to k lamps : ℕ} → Ready s j memory → Listed (tables_by s j) list words n →
    Members (tables_by s j) n to k → Sweeping s j list n from to k lamps memory list words n None from
sweeping_begins {s} {j} {memory} {list} {words} {n} {from} {to} {k} ready listed members =
    record {
      ready = ready;
      listed = listed;
      members = members;
      low = omega arith;
      more = omega arith;
      gives =
          let t = tables_by s j in
          let E = table t list n in
          line_begins t E from to k ∙ ap (λ (m : ℕ). members_left t m E from to k) (table_length listed);
    }

module _
    {s : List ℕ} {j : Job} {list₀ : List ℕ} {before from to k lamps : ℕ} {memory list words : List ℕ} {n : ℕ} {so_far : Option FailingLine} {i : ℕ}
    (at : Sweeping s j list₀ before from to k lamps memory list words n so_far i) where
  abbrev t : Tables
  t = tables_by s j

  abbrev E : List Entry
  E = table t list n

  -- What the whole line gives.
  abbrev whole : Turn
  whole = line_tried t (table t list₀ before) from to k

  module _ (here : i < to) where
    module _
        {clean : Bool} (clean_is : is_some so_far ≡ not clean) {r : Result ℕ FailingEnd} {list' words' memory' : List ℕ}
        (turned : Turned t list n before i k clean r list' words') (remembers : Memory t memory') where
      turned_as : {u : Result ℕ FailingEnd} → r ≡ u → Turned t list n before i k (is_none so_far) u list' words'
      turned_as is = rw (clean_is, not-not clean, ← is) turned

      -- The line does not fail from it: the next member is tried.
      pub sweeping_on : {m : ℕ} → r ≡ Ok m → Sweeping s j list₀ before from to k lamps memory' list' words' m so_far (i + 1)
      sweeping_on {m} is =
          let (keeps, listed, more) = (turned_as is).so in
          record {
            ready = record { opened = at.ready.opened; remembers = remembers };
            listed = listed;
            members = at.members;
            low = omega (arith, at.low);
            more = omega (arith, at.more);
            gives = on so_far at.gives keeps;
          }
        where
          grown_on :
              Grows t E before i k (table t list' m) → members_left t before E i to k ≡ members_left t before (table t list' m) (i + 1) to k
          grown_on (stays e same) = rw same (member_quiet t before E i to k here e)
          grown_on (adds e same) = rw same (member_finds t before E i to k here e)

          -- After a failure the list stays as it is.
          on :
              (so_far : Option FailingLine) → Gives t before E n from to k lamps i whole so_far →
              Keeps t list n before i k list' m (is_none so_far) →
              Gives t before (table t list' m) m from to k lamps (i + 1) whole so_far
          on None e (grows none g) = e ∙ grown_on g
          on None e (was_quiet some q same count) = absurd (let z : ◌≡◌ {A = ℕ} 0 1 = cc in omega arith)
          on None e (was_new some q same count) = absurd (let z : ◌≡◌ {A = ℕ} 0 1 = cc in omega arith)
          on (Some line) lowest (grows none g) = absurd (let z : ◌≡◌ {A = ℕ} 0 1 = cc in omega arith)
          on (Some line) lowest (was_quiet some q same count) =
              rw (same, count) (lowest_on lowest (lowest_quiet t E i to k line.failure line.member line.end here q))
          on (Some line) lowest (was_new some q same count) =
              rw (same, count) (lowest_on lowest (lowest_finds t E i to k line.failure line.member line.end here q))

      -- The line fails from it.
      module _ {fails : FailingEnd} (is : r ≡ Err fails) where
        abbrev kind' : FailureKind
        kind' = fails.failure

        abbrev end' : ℕ
        end' = fails.end

        failed_so : (tried t E i k ≡ fails_at kind' end') × (list' ≡ list) × Listed t list' words' n
        failed_so = (turned_as is).so

        next :
            (so_far' : Option FailingLine) → Gives t before E n from to k lamps (i + 1) whole so_far' →
            Sweeping s j list₀ before from to k lamps memory' list' words' n so_far' (i + 1)
        next so_far' gives =
            record {
              ready = record { opened = at.ready.opened; remembers = remembers };
              listed = failed_so.2;
              members = at.members;
              low = omega (arith, at.low);
              more = at.more;
              gives =
                  subst (λ (l : List ℕ). Gives t before (table t l n) n from to k lamps (i + 1) whole so_far') (sym failed_so.1) gives;
            }

        -- If it is the first failure, or one with a lower end, the members after it are tried for one with an end that is lower still.
        first_so_far :
            (so_far : Option FailingLine) → Gives t before E n from to k lamps i whole so_far →
            MatchOption so_far ⊤ (λ line. end' < line.end) → whole ≡ answers (lowest_left t E (i + 1) to k kind' i end')
        first_so_far None e _ = e ∙ member_fails t before E i to k here failed_so.0
        first_so_far (Some line) lowest lower =
            lowest.gives ∙ ap answers (lowest_lower t E i to k line.failure line.member line.end here failed_so.0 lower)

        -- Its failure is the one so far.
        pub sweeping_fails :
            0 < end' → MatchOption so_far ⊤ (λ line. end' < line.end) →
            Sweeping s j list₀ before from to k lamps memory' list' words' n (Some (line_at kind' end' n i k lamps)) (i + 1)
        sweeping_fails above first =
            next (Some (line_at kind' end' n i k lamps))
            (record { line_is = refl; low = at.low; high = here; above = above; gives = first_so_far so_far at.gives first })

        -- There was one, and this one has no lower end: the failure so far stays.
        pub sweeping_keeps :
            MatchOption so_far ⊥ (λ line. line.end ≤ end') →
            Sweeping s j list₀ before from to k lamps memory' list' words' n so_far (i + 1)
        sweeping_keeps no_lower = next so_far (go so_far at.gives no_lower)
          where
            go :
                (so_far : Option FailingLine) → Gives t before E n from to k lamps i whole so_far →
                MatchOption so_far ⊥ (λ line. line.end ≤ end') → Gives t before E n from to k lamps (i + 1) whole so_far
            go None e no_lower = absurd no_lower
            go (Some line) lowest no_lower =
                lowest_on lowest (lowest_kept t E i to k line.failure line.member line.end here failed_so.0 no_lower)

        -- It has the lowest end: it is the line's failure, whatever the members after it do.
        pub sweeping_lowest : end' ≡ 0 → LineFails t list₀ before from to k list' words' n kind' end' i
        sweeping_lowest lowest_end =
            record {
              answer_is =
                  first_so_far so_far at.gives (first so_far at.gives)
                  ∙ ap answers
                  (ap (λ (e : ℕ). lowest_left t E (i + 1) to k kind' i e) lowest_end ∙ lowest_at_0 t E (i + 1) to k kind' i
                  ∙ ap (λ (e : ℕ). failing E k kind' i e) (sym lowest_end)
                  ∙ ap (λ (l : List ℕ). failing (table t l n) k kind' i end') (sym failed_so.1));
              listed = failed_so.2;
              low = at.low;
              high = here;
              more = at.more;
            }
          where
            first :
                (so_far : Option FailingLine) → Gives t before E n from to k lamps i whole so_far →
                MatchOption so_far ⊤ (λ line. end' < line.end)
            first None e = tt
            first (Some line) lowest = omega (arith, lowest.above)

  -- All members were tried.
  module _ (past : to ≤ i) where
    -- The line has failed from none: the search goes on.
    pub sweeping_done : so_far ≡ None → whole ≡ goes_on E
    sweeping_done none =
        subst (λ (f : Option FailingLine). Gives t before E n from to k lamps i whole f) none at.gives ∙ members_done t before E i to k past

    -- It has failed from some: the failure so far is that of the line.
    pub sweeping_failed :
        {line : FailingLine} → so_far ≡ Some line →
        (line ≡ line_at line.failure line.end n line.member k lamps)
        × LineFails t list₀ before from to k list words n line.failure line.end line.member
    sweeping_failed {line} some =
        let lowest : Lowest t E n from to k lamps i whole line =
        subst (λ (f : Option FailingLine). Gives t before E n from to k lamps i whole f) some at.gives in (
          lowest.line_is,
          record {
            answer_is = lowest.gives ∙ ap answers (lowest_done t E i to k line.failure line.member line.end past);
            listed = at.listed;
            low = lowest.low;
            high = lowest.high;
            more = at.more;
          },
        )

-- The rest of the search, with the table found so far: from a member of a line on, from a kind of a group on, or from a group on. The
-- laws say how each of them goes on, and where it ends.
use mathlib.Core.Path.{◌≡◌, refl, sym, ap, ◌∙◌}
use mathlib.Core.Bool.{cond}
use mathlib.Core.List.{List, []}
use Prim.Native.Nat.{ℕ, zero, suc, ◌+◌, ◌*◌, ◌-◌, ◌≤◌, ◌<◌}
use native.Mathlib.Omega.{arith}
use borrow.Author.Tests.{lt-ltb, le-ltb}
use lib.Dec.{ltb}
use lib.ListN.{length}
use Rattle.lamp_line.specs.declared.FailureKind.{FailureKind}
use Rattle.lamp_line.specs.Tables.{Tables}
use Rattle.lamp_line.specs.Check.{Verdict}
use Rattle.search_laws.specs.inner.Entries.{Entry, grown, group_end}
use Rattle.check_laws.specs.inner.Search.{Turn, answers, goes_on, and_then, conclusion, failing, line_entry, Trial, fails_at, quiet, finds, tried}
use Rattle.check_laws.specs.inner.Search.{lowest_from, members_from, line_tried, kinds_from, groups_from, verdict_of}

-- A line is tried from the members from i to b; the table had `before` entries before it was tried.
unfoldable pub members_left : Tables → ℕ → List Entry → ℕ → ℕ → ℕ → Turn
members_left t before E i b k = members_from t (b - i) before E i k

-- The line fails from the member w, and the members from i to b are tried for a lower end.
unfoldable pub lowest_left : Tables → List Entry → ℕ → ℕ → ℕ → FailureKind → ℕ → ℕ → Verdict
lowest_left t E i b k kind w end = lowest_from t (b - i) E i k kind w end

-- The members from a to b are tried with the kinds from k to `last`, and then at most n groups from the entry `next` on.
unfoldable pub kinds_left : Tables → ℕ → List Entry → ℕ → ℕ → ℕ → ℕ → ℕ → Turn
kinds_left t n E a b last k next = and_then (kinds_from t (last + 1 - k) E a b k) (λ E'. groups_from t n E' next)

-- Three parts of the search one after the other may be grouped either way.
and_then_then : (r : Turn) (f g : List Entry → Turn) → and_then (and_then r f) g ≡ and_then r (λ E. and_then (f E) g)
and_then_then (answers v) f g = refl
and_then_then (goes_on E) f g = refl

module _ (t : Tables) where
  -- ---- the members of a line

  -- A line is tried from its first member on.
  pub line_begins : (E : List Entry) (a b k : ℕ) → line_tried t E a b k ≡ members_left t (length E) E a b k
  unfolding members_left
  line_begins E a b k = refl

  module _ (before : ℕ) (E : List Entry) (i b k : ℕ) where
    -- The last member was tried.
    pub members_done : b ≤ i → members_left t before E i b k ≡ goes_on E
    unfolding members_left members_from
    members_done l = let none : b - i ≡ 0 = omega arith in rw none

    module _ (here : i < b) where
      more : b - i ≡ suc (b - (i + 1))
      more = omega arith

      -- Nothing is new: the next member comes.
      pub member_quiet : tried t E i k ≡ quiet → members_left t before E i b k ≡ members_left t before E (i + 1) b k
      unfolding members_left members_from
      member_quiet e = rw (more, e, members_from)

      -- A pair is found: the next member comes, with the table that has it.
      pub member_finds :
          {y : ℕ} → tried t E i k ≡ finds y →
          members_left t before E i b k ≡ members_left t before (grown E (line_entry before E i k y)) (i + 1) b k
      unfolding members_left members_from
      member_finds e = rw (more, e, members_from)

      -- The line fails: the other members are tried for a lower end.
      pub member_fails :
          {kind : FailureKind} {end : ℕ} → tried t E i k ≡ fails_at kind end →
          members_left t before E i b k ≡ answers (lowest_left t E (i + 1) b k kind i end)
      unfolding members_left members_from lowest_left
      member_fails e = rw (more, e, members_from)

  module _ (E : List Entry) (i b k : ℕ) (kind : FailureKind) (w end : ℕ) where
    -- The last member was tried: the failure is named.
    pub lowest_done : b ≤ i → lowest_left t E i b k kind w end ≡ failing E k kind w end
    unfolding lowest_left lowest_from
    lowest_done l = let none : b - i ≡ 0 = omega arith in rw none

    module _ (here : i < b) where
      left : b - i ≡ suc (b - (i + 1))
      left = omega arith

      -- A member that does not fail changes nothing.
      pub lowest_quiet : tried t E i k ≡ quiet → lowest_left t E i b k kind w end ≡ lowest_left t E (i + 1) b k kind w end
      unfolding lowest_left lowest_from
      lowest_quiet e = rw (left, e, lowest_from)

      pub lowest_finds : {y : ℕ} → tried t E i k ≡ finds y → lowest_left t E i b k kind w end ≡ lowest_left t E (i + 1) b k kind w end
      unfolding lowest_left lowest_from
      lowest_finds e = rw (left, e, lowest_from)

      module _ {kind' : FailureKind} {end' : ℕ} (e : tried t E i k ≡ fails_at kind' end') where
        -- A member that fails with a lower end is named instead.
        pub lowest_lower : end' < end → lowest_left t E i b k kind w end ≡ lowest_left t E (i + 1) b k kind' i end'
        unfolding lowest_left lowest_from
        lowest_lower l = rw (left, e, lt-ltb end' end l, lowest_from)

        -- One that does not fail with a lower end is not.
        pub lowest_kept : end ≤ end' → lowest_left t E i b k kind w end ≡ lowest_left t E (i + 1) b k kind w end
        unfolding lowest_left lowest_from
        lowest_kept l = rw (left, e, le-ltb end' end l, lowest_from)

  -- No end is lower than the lowest: a failure with it is named, whatever the other members do.
  pub lowest_at_0 :
      (E : List Entry) (i b k : ℕ) (kind : FailureKind) (w : ℕ) → lowest_left t E i b k kind w 0 ≡ failing E k kind w 0
  unfolding lowest_left lowest_from
  lowest_at_0 E i b k kind w = from (b - i) i
    where
      from : (n i : ℕ) → lowest_from t n E i k kind w 0 ≡ failing E k kind w 0
      from zero i = refl
      from (suc n) i = go (from n (i + 1)) (tried t E i k)
        where
          go :
              lowest_from t n E (i + 1) k kind w 0 ≡ failing E k kind w 0 → (r : Trial) →
              ◌≡◌ {A = Verdict} (elim r as (λ _. Verdict) [
                | fails_at kind' end' ↦ cond (ltb end' 0) (lowest_from t n E (i + 1) k kind' i end') (lowest_from t n E (i + 1) k kind w 0)
                | quiet ↦ lowest_from t n E (i + 1) k kind w 0
                | finds y ↦ lowest_from t n E (i + 1) k kind w 0
              ]) (failing E k kind w 0)
          go rest (fails_at kind' end') = rw (le-ltb end' 0 (omega arith)) rest
          go rest quiet = rest
          go rest (finds y) = rest

  -- ---- the kinds and the groups

  -- The search begins with the empty line, which is kind 0, from the starts.
  pub search_is : verdict_of t ≡ conclusion (kinds_left t ((t.states + 1) * t.worlds) [] 0 t.worlds 0 0 0)
  unfolding verdict_of kinds_left kinds_from
  search_is =
      let one : 0 + 1 - 0 ≡ 1 = omega arith in
      rw one
      (ap conclusion
      (sym (and_then_then (line_tried t [] 0 t.worlds 0) (λ E. goes_on E) (λ E. groups_from t ((t.states + 1) * t.worlds) E 0))))

  -- If the table has no entry a, the search is complete.
  pub groups_done : (n : ℕ) (E : List Entry) (a : ℕ) → length E ≤ a → groups_from t n E a ≡ goes_on E
  unfolding groups_from
  groups_done zero E a l = refl
  groups_done (suc n) E a l = rw (le-ltb a (length E) l, groups_from)

  -- The group of the entry a begins with the first kind.
  pub group_begins :
      (n : ℕ) (E : List Entry) (a : ℕ) → a < length E → 0 < n → groups_from t n E a ≡ kinds_left t (n - 1) E a (group_end E a) t.kinds 1 (group_end E a)
  unfolding groups_from kinds_left
  group_begins zero E a l some = absurd (omega arith)
  group_begins (suc n) E a l some =
      let fewer : suc n - 1 ≡ n = omega arith in
      let all : t.kinds + 1 - 1 ≡ t.kinds = omega arith in
      rw (lt-ltb a (length E) l, groups_from, fewer, all)

  module _ (n : ℕ) (E : List Entry) (a b last k next : ℕ) where
    -- The last kind was tried: the next group comes.
    pub kinds_done : last < k → kinds_left t n E a b last k next ≡ groups_from t n E next
    unfolding kinds_left kinds_from
    kinds_done l = let none : last + 1 - k ≡ 0 = omega arith in rw none

    module _ (here : k ≤ last) where
      kind_tried : kinds_left t n E a b last k next ≡ and_then (line_tried t E a b k) (λ E'. kinds_left t n E' a b last (k + 1) next)
      unfolding kinds_left kinds_from
      kind_tried =
          let more : last + 1 - k ≡ suc (last + 1 - (k + 1)) = omega arith in
          rw more
          (and_then_then (line_tried t E a b k) (λ E'. kinds_from t (last + 1 - (k + 1)) E' a b (k + 1)) (λ E'. groups_from t n E' next))

      -- The line does not fail: the next kind comes, with the table that it gives.
      pub kind_goes_on :
          {E' : List Entry} → line_tried t E a b k ≡ goes_on E' → kinds_left t n E a b last k next ≡ kinds_left t n E' a b last (k + 1) next
      kind_goes_on e = kind_tried ∙ rw e

      -- The line fails: this is the answer of the rest.
      pub kind_answers : {v : Verdict} → line_tried t E a b k ≡ answers v → kinds_left t n E a b last k next ≡ answers v
      kind_answers e = kind_tried ∙ rw e

-- A file in which byte 6 is 0 is as before request (c).
use mathlib.Core.Path.{◌≡◌, refl, ap, ◌∙◌}
use mathlib.Core.Logic.{◌↔◌, inl, inr, ⊎_elim}
use mathlib.Core.Bool.{Bool, true, false, ◌||◌, ◌&&◌, or-true, or-false}
use mathlib.Core.List.{List, [], ◌∷◌, ◌++◌}
use Prim.Native.Nat.{ℕ, ◌+◌, ◌*◌, ◌<◌}
use native.Mathlib.Decide.{dec_lt}
use native.Mathlib.Omega.{arith}
use borrow.Author.Tests.{lt-ltb, le-ltb}
use lib.Dec.{ltb}
use lib.ListN.{length}
use Rattle.lamp_line.specs.declared.WorldState.{WorldState}
use Rattle.lamp_line.specs.Lists.{◌≼◌}
use Rattle.lamp_line.specs.Tables.{kinds_of_ends, lamp_column, columns, column_of}
use Rattle.job_layout.specs.Layout.{job_columns, byte, head, mark_place}
use Rattle.lamp_line.specs.Refusals.{some_below}
use Rattle.lamp_line.specs.Check.{rank}
use Rattle.job_layout.specs.FileRefusals.{outside, ranges_wrong, number_wrong, differs, legal_at_end}
use Rattle.job_layout.specs.OneEndKind.{column_before, OneEndKindAsBefore}

-- There is one column more than there are kinds.
columns_before : (ends kinds : ℕ) → ends ≡ 0 → columns ends kinds ≡ kinds + 1
unfolding kinds_of_ends columns
columns_before ends kinds none = omega arith

-- A lamp's column is its kind.
column_before_lem : (ends : ℕ) → ends ≡ 0 → (lamps : List ℕ) → column_of ends 0 lamps ≡ column_before lamps
unfolding lamp_column
column_before_lem ends none [] = refl
column_before_lem ends none (kind ∷ lamps) = omega arith

-- ---- refusal 2

-- Where there is one kind of end, more than 16 columns are more than 15 kinds.
kinds_decide : (ends kinds six : ℕ) → ends ≡ 1 → six ≡ 0 → (a b c d : Bool) →
    (a || outside 1 15 kinds || b || ltb ends 1 || ltb 16 (ends + kinds) || c || d) ≡ (a || outside 1 15 kinds || b || c || d || outside 0 0 six)
kinds_decide ends kinds six one is a b c d = by (dec_lt 15 kinds)
  where
    by : Dec (15 < kinds) →
        (a || outside 1 15 kinds || b || ltb ends 1 || ltb 16 (ends + kinds) || c || d)
        ≡ (a || outside 1 15 kinds || b || c || d || outside 0 0 six)
    by (yes many) = rw (lt-ltb 15 kinds many, or-true (ltb kinds 1), or-true a)
    by (no few) = rw (le-ltb ends 1 (omega arith), le-ltb 16 (ends + kinds) (omega arith), is) (simp or-false)

-- ---- refusal 7

-- One end is the lowest.
some_below_one : (test : ℕ → Bool) (n : ℕ) → n ≡ 1 → some_below n test ≡ test 0
unfolding some_below
some_below_one test n one = rw one (at (test 0))
  where
    at : (b : Bool) → (b || false) ≡ b
    at true = refl
    at false = refl

-- ---- the order

-- After lists of the same length, a number that both have makes no difference.
between :
    (e : ℕ) (l m x y : List ℕ) → length l ≡ length m → ((l ++ (e ∷ x)) ≼ (m ++ (e ∷ y))) ↔ ((l ++ x) ≼ (m ++ y))
unfolding ◌≼◌
between e [] [] x y same = (λ h. ⊎_elim (λ less. absurd (omega arith)) (λ (equal, h). h) h, λ h. inr (refl, h))
between e [] (b ∷ m) x y same = absurd (omega arith)
between e (a ∷ l) [] x y same = absurd (omega arith)
between e (a ∷ l) (b ∷ m) x y same =
    let rest = between e l m x y (omega arith) in (
      λ h. ⊎_elim (λ less. inl less) (λ (equal, h). inr (equal, rest.0 h)) h,
      λ h. ⊎_elim (λ less. inl less) (λ (equal, h). inr (equal, rest.1 h)) h,
    )

order_before :
    (start start' : WorldState) (lamps lamps' : List ℕ) →
    ((length lamps ∷ (lamps ++ (0 ∷ start.0 ∷ []))) ≼ (length lamps' ∷ (lamps' ++ (0 ∷ start'.0 ∷ []))))
    ↔ ((length lamps ∷ (lamps ++ (start.0 ∷ []))) ≼ (length lamps' ∷ (lamps' ++ (start'.0 ∷ []))))
unfolding ◌≼◌
order_before start start' lamps lamps' = (
  λ h. ⊎_elim (λ less. inl less) (λ (same, h). inr (same, (between 0 lamps lamps' _ _ same).0 h)) h,
  λ h. ⊎_elim (λ less. inl less) (λ (same, h). inr (same, (between 0 lamps lamps' _ _ same).1 h)) h,
)

-- ---- the file

pub one_end_kind_as_before : OneEndKindAsBefore
unfolding kinds_of_ends rank ranges_wrong number_wrong
one_end_kind_as_before s none =
    let count : job_columns (head s) ≡ (head s).kinds + 1 = columns_before (byte s 6) (head s).kinds none in
    record {
      one_end = omega arith;
      columns_count = count;
      cells_length_same = rw count;
      goal_length_same = rw count;
      cell_place = λ a w c. rw count;
      goal_place_same = λ w c. rw count;
      refusal_2 =
          ap (λ (b : Bool). b || outside 0 0 (byte s 7))
          (kinds_decide (byte s 6 + 1) (head s).kinds (byte s 6) (omega arith) none (outside 1 16 (head s).actions || outside 1 64 (head s).worlds)
          (outside 1 8 (head s).results) (outside 0 64 (head s).states) (outside 0 (head s).states (head s).first.0));
      refusal_7 = λ a.
          ap (λ (b : Bool). differs (byte s (mark_place (head s) a)) 0 && b)
          (some_below_one (legal_at_end s (head s) a) (byte s 6 + 1) (omega arith)
          ∙ ap (λ (n : ℕ). some_below (head s).worlds (λ w. differs (byte s ((head s).cells.offset + 2 * ((a * (head s).worlds + w) * n + 0) + 1)) 255))
          count);
      lines = λ line. (
        λ fits. (fits.of_kinds, omega (arith, fits.ended)),
        λ (of_kinds, lowest). record { of_kinds = of_kinds; ended = omega arith },
      );
      line_column = λ lamps. column_before_lem (byte s 6) none lamps;
      order = λ start start' lamps lamps'. order_before start start' lamps lamps';
    }

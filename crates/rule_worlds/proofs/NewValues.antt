-- The values after a rule are in their ranges, as those before are, if the rule's own values are.
use Rattle.std.proofs.Common.{Bool, true, false, ◌&&◌, List, [], ◌∷◌, ◌≡◌, refl, ℕ, ◌<◌, arith, leb-false, eqb, leb, length}
use Rattle.fluent_rules.specs.CellRules.{some_pair, new_value, new_values}
use Rattle.fluent_rules.specs.Fluents.{Values}
use Rattle.rules_file.specs.RulesRefusal.{value_wrong}
use Rattle.head_refusals.proofs.HeadLaws.{neither}

-- A new value that is not wrong is below its count, as the value that it replaces or keeps.
new_below : (count new value : ℕ) → value_wrong count new ≡ false → value < count → new_value new value < count
new_below count new value right below = by (eqb new 255) refl
  where
    by : (b : Bool) → eqb new 255 ≡ b → new_value new value < count
    by true e = rw e below
    by false e = rw e (leb-false count new (first_false (leb count new) (rw e at right)))
      where
        first_false : (a : Bool) → (a && true) ≡ false → a ≡ false
        first_false true h = h
        first_false false h = refl

pub new_values_right : (counts new values : List ℕ) → some_pair value_wrong counts new ≡ false → length new ≡ length counts →
    Values counts values → Values counts (new_values new values)
unfolding some_pair Values new_values
new_values_right [] [] [] right e h = tt
new_values_right [] [] (value ∷ values) right e h = absurd h
new_values_right [] (n ∷ new) values right e h = absurd (omega arith)
new_values_right (count ∷ counts) [] values right e h = absurd (omega arith)
new_values_right (count ∷ counts) (n ∷ new) [] right e h = absurd h
new_values_right (count ∷ counts) (n ∷ new) (value ∷ values) right e h =
    let both = neither (value_wrong count n) (some_pair value_wrong counts new) right in
    (new_below count n value both.0 h.0, new_values_right counts new values both.1 (omega arith) h.1)

-- The number of a world state from its values, fluent by fluent, from the first on.
use Rattle.std.proofs.Common.{false, List, [], ◌∷◌, ◌≡◌, sym, ◌∙◌, ℕ, zero, suc, ◌+◌, ◌*◌, ◌≤◌, ◌<◌, mul-one, mul-le-mul_left, add-one, arith, length, get_or, drop, drop-cons}
use Rattle.std.proofs.Math.Seq.{drop-length}
use Rattle.fluent_rules.specs.Fluents.{world_count, Values, world_number}
use Rattle.fluent_rules.specs.CellRules.{some_pair, new_value, new_values}
use Rattle.fluent_rules.proofs.NewWorlds.{values_length, new_value_at, world_number_more}
use Rattle.fluent_rules.proofs.WorldNumbers.{factors_positive, worlds_are_values}
use Rattle.rules_file.specs.RulesRefusal.{value_wrong}
use Rattle.rule_worlds.proofs.NewValues.{new_values_right}

-- The loop is at fluent i, and `world` is the number of the values before it among those fluents.
pub record Numbered (counts values : List ℕ) (i world : ℕ) : Type 0 where
  pub within : i ≤ length counts
  pub so_far : world * world_count (drop i counts) + world_number (drop i counts) (drop i values) ≡ world_number counts values

-- There are world states of the last fluents if there are of all.
suffix_positive : (counts : List ℕ) (i : ℕ) → 0 < world_count counts → 0 < world_count (drop i counts)
unfolding world_count
suffix_positive counts zero h = h
suffix_positive [] (suc i) h = h
suffix_positive (count ∷ counts) (suc i) h = suffix_positive counts i (factors_positive count (world_count counts) h).1

module _ {counts values : List ℕ} {i world : ℕ} (before : Numbered counts values i world) (right : Values counts values) (i< : i < length counts)
    (value : ℕ) (e : get_or values i 0 ≡ value) where
  next : (world * get_or counts i 0 + value) * world_count (drop (suc i) counts) + world_number (drop (suc i) counts) (drop (suc i) values) ≡ world_number counts values
  next =
      sym (world_number_more world (get_or counts i 0) value (drop (suc i) counts) (drop (suc i) values))
      ∙ (rw (drop-cons counts i 0 i<, drop-cons values i 0 (omega (arith, values_length counts values right)), e) at before.so_far)

  pub numbered_more : Numbered counts values (i + 1) (world * get_or counts i 0 + value)
  numbered_more = record { within = omega arith; so_far = rw (add-one i) next }

  -- It is never above the number that it becomes.
  pub stays_small : world * get_or counts i 0 + value ≤ world_number counts values
  stays_small =
      let number = (worlds_are_values counts).has_number values right in
      let positive = suffix_positive counts (suc i) (omega arith) in
      omega (arith, next, mul-le-mul_left {m = 1} {n = world_count (drop (suc i) counts)} (world * get_or counts i 0 + value) positive, mul-one (world * get_or counts i 0 + value))

  -- So it fits in a byte if there are at most 64 world states.
  pub stays_below_64 : world_count counts ≤ 64 → world * get_or counts i 0 + value ≤ 63
  stays_below_64 few =
      let below = (worlds_are_values counts).has_number values right in
      omega (arith, stays_small)

-- ---- the loop of `new_world`

-- What it asks for, and then `value` is what it computes for fluent i: the fluent's value after the rule.
module _ (counts new values : List ℕ)
    (asked : (world_count counts ≤ 64) × (length new ≡ length counts) × (some_pair value_wrong counts new ≡ false) × Values counts values)
    {i world value : ℕ} (before : Numbered counts (new_values new values) i world) (i< : i < length counts)
    (is : value ≡ new_value (get_or new i 0) (get_or values i 0)) where
  right : Values counts (new_values new values)
  right = new_values_right counts new values asked.2 asked.1 asked.3

  value_is : get_or (new_values new values) i 0 ≡ value
  value_is = new_value_at new values i (omega arith) (omega (arith, values_length counts values asked.3)) ∙ sym is

  pub new_world_more : Numbered counts (new_values new values) (i + 1) (world * get_or counts i 0 + value)
  new_world_more = numbered_more before right i< value value_is

  pub new_world_fits : world * get_or counts i 0 + value ≤ 63
  new_world_fits = stays_below_64 before right i< value value_is asked.0

pub numbered_done : {counts values : List ℕ} {i world : ℕ} → Numbered counts values i world → length counts ≤ i → world ≡ world_number counts values
unfolding world_count world_number
numbered_done {counts} {values} {i} {world} before end =
    let e : i ≡ length counts = omega (arith, before.within) in
    let last = rw (e, drop-length counts) at before.so_far in
    omega (arith, last, mul-one world)

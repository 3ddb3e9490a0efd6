-- The values of a world state, fluent by fluent, from the first on.
use Rattle.std.proofs.Common.{append_assoc, append-nil, List, ◌++◌, ◌≡◌, sym, ◌∙◌, ℕ, suc, ◌+◌, ◌*◌, ◌/◌, ◌%◌, ◌≤◌, ◌<◌, add-one, arith, length, get_or, take, drop, set, drop-cons, take-suc-set}
use Rattle.std.proofs.Math.Nat.{mul-div_right}
use Rattle.std.proofs.Math.Seq.{drop-length}
use Rattle.fluent_rules.specs.Fluents.{world_count, values_in}
use Rattle.fluent_rules.proofs.WorldNumbers.{factors_positive}

-- The loop is at fluent i. `weight` is the number of world states of the fluents from i on, and `rest` the number of the present one among them.
pub record Decoded (counts : List ℕ) (world i weight rest : ℕ) (values : List ℕ) : Type 0 where
  pub within : i ≤ length counts
  pub weighs : weight ≡ world_count (drop i counts)
  pub positive : 0 < weight
  pub so_far : take i values ++ values_in (drop i counts) rest ≡ values_in counts world

module _ {counts : List ℕ} {world i weight rest : ℕ} {values : List ℕ} (before : Decoded counts world i weight rest values) where
  -- The weight is the count times the next weight; neither is 0.
  factors : i < length counts → weight ≡ get_or counts i 0 * world_count (drop (suc i) counts)
  unfolding world_count
  factors i< = rw (drop-cons counts i 0 i<) at before.weighs

  both_positive : i < length counts → (0 < get_or counts i 0) × (0 < world_count (drop (suc i) counts))
  both_positive i< =
      factors_positive (get_or counts i 0) (world_count (drop (suc i) counts)) (omega (arith, before.positive, factors i<))

  pub count_positive : i < length counts → 0 < get_or counts i 0
  count_positive i< = (both_positive i<).0

  next_weight : i < length counts → weight / get_or counts i 0 ≡ world_count (drop (suc i) counts)
  next_weight i< = rw (factors i<) (mul-div_right (world_count (drop (suc i) counts)) (count_positive i<))

  pub next_positive : i < length counts → 0 < weight / get_or counts i 0
  next_positive i< = rw (next_weight i<) (both_positive i<).1

  pub decoded_more : i < length counts → i < length values →
      Decoded counts world (i + 1) (weight / get_or counts i 0) (rest % (weight / get_or counts i 0)) (set values i (rest / (weight / get_or counts i 0)))
  unfolding values_in
  decoded_more i< i<' =
      record {
        within = omega arith;
        weighs = rw (add-one i) (next_weight i<);
        positive = next_positive i<;
        so_far =
            rw (add-one i, take-suc-set values i (rest / (weight / get_or counts i 0)) i<', append_assoc, next_weight i<)
            (rw (drop-cons counts i 0 i<) at before.so_far);
      }

  pub decoded_done : length counts ≤ i → take (length counts) values ≡ values_in counts world
  unfolding values_in
  decoded_done end =
      let e : i ≡ length counts = omega (arith, before.within) in
      sym (append-nil (take (length counts) values)) ∙ (rw (e, drop-length counts) at before.so_far)

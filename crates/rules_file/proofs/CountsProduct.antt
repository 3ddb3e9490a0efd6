-- The product of the counts, count by count.
use Rattle.std.proofs.Common.{List, ◌≡◌, sym, ◌∙◌, ℕ, suc, ◌+◌, ◌*◌, ◌^◌, ◌≤◌, ◌<◌, mul_assoc, mul-one, pow-suc, mul-le-mul, add-one, arith, length, get_or, drop, drop-cons}
use Rattle.std.proofs.Math.Seq.{drop-length}
use Rattle.fluent_rules.specs.Fluents.{world_count}

-- The loop is at fluent i, and `product` is that of the counts before it.
pub record Multiplied (counts : List ℕ) (i product : ℕ) : Type 0 where
  pub within : i ≤ length counts
  pub before : product * world_count (drop i counts) ≡ world_count counts
  -- a count is a byte
  pub small : product ≤ 256 ^ i

module _ {counts : List ℕ} {i product : ℕ} (so_far : Multiplied counts i product) where
  pub multiplied_more : i < length counts → get_or counts i 0 < 256 → Multiplied counts (i + 1) (product * get_or counts i 0)
  unfolding world_count
  multiplied_more i< small =
      record {
        within = omega arith;
        before =
            rw (add-one i, mul_assoc product (get_or counts i 0) (world_count (drop (suc i) counts)))
            (rw (drop-cons counts i 0 i<) at so_far.before);
        small = rw (add-one i, pow-suc 256 i) (mul-le-mul so_far.small (omega arith));
      }

  pub multiplied_done : length counts ≤ i → product ≡ world_count counts
  unfolding world_count
  multiplied_done end =
      let e : i ≡ length counts = omega (arith, so_far.within) in
      sym (mul-one product) ∙ (rw (e, drop-length counts) at so_far.before)

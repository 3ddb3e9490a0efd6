-- The cells of a world state, rule by rule from the first to the last.
use Rattle.std.proofs.Common.{Bool, true, false, cond, true≢false, ◌&&◌, List, [], ◌∷◌, ◌≢◌, ◌≡◌, refl, sym, ap, ◌∙◌, ℕ, suc, ◌+◌, ◌-◌, ◌≤◌, ◌<◌, add-one, arith, ne_eqb, eqb, length, get_or}
use Rattle.std.proofs.Math.Bool.{and-false}
use Rattle.lamp_line.specs.Refusals.{some_below}
use Rattle.lamp_line.specs.Tables.{world_state, Outcome}
use Rattle.lamp_line.proofs.Scan.{none_at}
use Rattle.job_layout.specs.Layout.{width}
use Rattle.job_layout.specs.declared.Sizes.{Sizes}
use Rattle.fluent_rules.specs.CellRules.{matches, rule_outcome, cell_by, rule_cell}
use Rattle.fluent_rules.specs.CellsPart.{cell_bytes}
use Rattle.fluent_rules.specs.Fluents.{values_in}
use Rattle.rules_file.specs.RulesFile.{value_counts, rule_count, rule_at, rules_from, rules_of}
use Rattle.rules_file.specs.RulesRefusal.{rules_wrong}
use Rattle.rules_file.proofs.RulesTested.{rules_right, rule_right}
use Rattle.world_cells.specs.inner.CellsWritten.{cell_at, undecided, cell_number, OthersKept, Applied, WorldFilled}

-- Cells with the same bytes are both undecided, or neither is.
pub same_undecided : (part after : List ℕ) (i : ℕ) → cell_at after i ≡ cell_at part i → undecided after i ≡ undecided part i
same_undecided part after i e = ap (λ cell. eqb (get_or cell 1 0) 255) e

module _ (s : List ℕ) (n : Sizes) (world : ℕ) where
  -- The definition's cell.
  abbrev whole_cell : ℕ → ℕ → List Outcome
  whole_cell a c = rule_cell (rules_of s) n.end_kinds a (world_state world) c

  -- What the rules from i on give by themselves.
  abbrev cell_from : ℕ → ℕ → ℕ → List Outcome
  cell_from i a c = cell_by (value_counts s) n.end_kinds (rules_from s i (rule_count s - i)) a (world_state world) c

  -- A cell when the rules before i have been applied: not legal yet, and then the rules from i on decide it; or decided.
  pub data CellSoFar (i : ℕ) (part : List ℕ) (a c : ℕ) : Type 0 where
    left_open : cell_at part (cell_number n a world c) ≡ cell_bytes [] → cell_from i a c ≡ whole_cell a c → CellSoFar i part a c
    decided_by : undecided part (cell_number n a world c) ≡ false → cell_at part (cell_number n a world c) ≡ cell_bytes (whole_cell a c) →
        CellSoFar i part a c

  -- The rules before i have been applied to the part `before`.
  pub record AppliedTo (i : ℕ) (before part : List ℕ) : Type 0 where
    pub within : i ≤ rule_count s
    pub long : length part ≡ length before
    pub others : OthersKept n world before part
    pub cells : (a c : ℕ) → a < n.actions → c < width n → CellSoFar i part a c

module _ {s : List ℕ} {n : Sizes} {world : ℕ} {before : List ℕ} where
  -- One rule more.
  pub applied_more : {i : ℕ} {part after : List ℕ} → rules_wrong s n ≡ false → AppliedTo s n world i before part → i < rule_count s →
      Applied s n i world part after → AppliedTo s n world (i + 1) before after
  unfolding rules_from cell_by
  applied_more {i} {part} {after} right so_far i< change =
      record {
        within = omega arith;
        long = change.long ∙ so_far.long;
        others = λ a w c a< w< c< other. change.others a w c a< w< c< other ∙ so_far.others a w c a< w< c< other;
        cells = λ a c a< c<.
            rw (add-one i)
            (by a c (matches n.end_kinds (rule_at s i) a (values_in (value_counts s) world) c) refl (so_far.cells a c a< c<) (change.cells a c a< c<));
      }
    where
      -- A rule's result is not 255.
      legal : (rule_at s i).result ≢ 255
      legal e =
          let rules = rules_right s n right in
          let rule = rule_right n (value_counts s) (rule_at s i) (rules.each_rule i i<) in
          omega (arith, rule.result_range, rules.sizes.results)

      left : rule_count s - i ≡ suc (rule_count s - suc i)
      left = omega arith

      -- The rule is the first of those from i on.
      first : (a c : ℕ) (b : Bool) → matches n.end_kinds (rule_at s i) a (values_in (value_counts s) world) c ≡ b →
          cell_from s n world i a c ≡ cond b (rule_outcome (value_counts s) (rule_at s i) (world_state world) ∷ []) (cell_from s n world (suc i) a c)
      first a c b e = rw (left, e)

      by : (a c : ℕ) (b : Bool) → matches n.end_kinds (rule_at s i) a (values_in (value_counts s) world) c ≡ b →
          CellSoFar s n world i part a c →
          cell_at after (cell_number n a world c)
          ≡ cond (b && undecided part (cell_number n a world c)) (cell_bytes (rule_outcome (value_counts s) (rule_at s i) (world_state world) ∷ []))
          (cell_at part (cell_number n a world c)) →
          CellSoFar s n world (suc i) after a c
      by a c b e (decided_by decided equal) h =
          let kept = rw (decided, and-false b) at h in
          decided_by (same_undecided part after (cell_number n a world c) kept ∙ decided) (kept ∙ equal)
      by a c true e (left_open none equal) h =
          let yet : undecided part (cell_number n a world c) ≡ true = ap (λ cell. eqb (get_or cell 1 0) 255) none in
          let now = rw yet at h in
          decided_by (ap (λ cell. eqb (get_or cell 1 0) 255) now ∙ ne_eqb (rule_at s i).result 255 legal)
          (now ∙ ap cell_bytes (sym (first a c true e) ∙ equal))
      by a c false e (left_open none equal) h = left_open (h ∙ none) (sym (first a c false e) ∙ equal)

  -- All rules have.
  pub applied_done : {i : ℕ} {after : List ℕ} → AppliedTo s n world i before after → rule_count s ≤ i → WorldFilled s n world before after
  unfolding rules_from cell_by
  applied_done {i} {after} all end =
      record { long = all.long; others = all.others; cells = λ a c a< c<. by a c (all.cells a c a< c<) }
    where
      none_left : rule_count s - i ≡ 0
      none_left = omega arith

      by : (a c : ℕ) → CellSoFar s n world i after a c → cell_at after (cell_number n a world c) ≡ cell_bytes (whole_cell s n world a c)
      by a c (left_open none equal) = let e : cell_from s n world i a c ≡ [] = rw none_left in none ∙ ap cell_bytes (sym e ∙ equal)
      by a c (decided_by decided equal) = equal

  -- No cell is left for the rules from i on.
  pub applied_early : {i : ℕ} {after : List ℕ} → AppliedTo s n world i before after →
      some_below n.actions (λ a. some_below (width n) (λ c. undecided after (cell_number n a world c))) ≡ false → WorldFilled s n world before after
  applied_early {i} {after} so_far none_left =
      record {
        long = so_far.long;
        others = so_far.others;
        cells = λ a c a< c<. by a c (none_at _ (width n) (none_at _ n.actions none_left a a<) c c<) (so_far.cells a c a< c<);
      }
    where
      by : (a c : ℕ) → undecided after (cell_number n a world c) ≡ false → CellSoFar s n world i after a c →
          cell_at after (cell_number n a world c) ≡ cell_bytes (whole_cell s n world a c)
      by a c decided (left_open none equal) =
          absurd (true≢false (sym (ap (λ cell. eqb (get_or cell 1 0) 255) none) ∙ decided))
      by a c decided (decided_by decided' equal) = equal

-- The loop along the links: its invariant, that no link is left at its end, and that each turn leaves one link fewer.
use mathlib.Core.Path.{◌≡◌, refl, ap, ap₂, ◌∙◌}
use mathlib.Core.Logic.{inl, inr}
use mathlib.Core.List.{List}
use Prim.Native.Nat.{ℕ, ◌+◌, ◌-◌, ◌*◌, ◌≤◌, ◌<◌}
use native.Mathlib.Decide.{dec_lt}
use native.Mathlib.Omega.{arith}
use borrow.Author.Tests.{le-leb, lt-leb}
use lib.Dec.{leb}
use lib.ListN.{length, get_or, set, length-set}
use Rattle.lamp_line.specs.Tables.{Tables}
use Rattle.lamp_line.specs.declared.Pair.{Pair}
use Rattle.run_laws.specs.inner.Pairs.{InRange, pair_number, pairs}
use Rattle.fate_laws.specs.inner.Series.{series}
use Rattle.lamp_fates.specs.declared.Fate.{Fate}
use Rattle.lamp_fates.specs.inner.Memory.{walk_to, fate_from, entry_place, remembered, UnknownOrRight, Memory, LookedUp}
use Rattle.lamp_fates.specs.inner.Links.{After, Link, Stands, Linked, WalkedTo}
use Rattle.lamp_fates.proofs.Entries.{fate_below, from_entry}
use Rattle.lamp_fates.proofs.LinkLaws.{within, fate_written}
use Rattle.lamp_fates.proofs.Places.{place_in}
use Rattle.lamp_fates.proofs.Tally.{tally, tally_falls}

-- A walk has found its fate, and the loop along its links has reached the pair with this number: the links that are left are those from
-- this pair on.
pub record Following (t : Tables) (first : Pair) (column entry : ℕ) (memory₀ : List ℕ) (base : ℕ) (memory : List ℕ) (number : ℕ) : Type 0 where
  pub same_length : length memory ≡ length memory₀
  pub walked : WalkedTo t first column entry memory₀
  pub base_is : base ≡ column * pairs t
  pub p : Pair
  pub number_is : number ≡ pair_number t.worlds p
  pub from : ℕ
  pub below : ℕ
  pub after : After t first column from p
  pub links : Linked t first column from below memory

-- How many entries are links.
abbrev pub linked : List ℕ → ℕ
linked memory = tally (λ v. leb 8192 v) memory

-- Where no link is left, the entries are a memory again.
links_gone :
    {t : Tables} {first : Pair} {column from below : ℕ} {memory : List ℕ} → below ≤ from →
    Linked t first column from below memory → Memory t memory
links_gone {t} {first} {column} {from} {below} end links =
    record {
      room = links.room;
      unknown_or_right = λ p at in_range at_in. known (links.others p at in_range at_in);
    }
  where
    known : {p : Pair} {at v : ℕ} → Stands t first column from below p at v → UnknownOrRight t p at v
    known (inl entry) = entry
    known (inr way) = absurd (omega (arith, way.not_earlier, way.before))

module _ {t : Tables} {first : Pair} {column entry : ℕ} {memory₀ : List ℕ} (walked : WalkedTo t first column entry memory₀) where
  -- The entry that is written is no link.
  pub entry_small : entry < 8192
  entry_small = omega (arith, walked.is_fate, fate_below t walked.asked.well_formed first column)

  -- What the look-up gives, once no link is left.
  pub looked_up : {r : Fate} {memory : List ℕ} → walk_to r ≡ fate_from entry → Memory t memory → LookedUp t first column r memory
  looked_up e known =
      record {
        fate_is = e ∙ ap fate_from walked.is_fate ∙ from_entry t walked.asked.well_formed first column;
        memory = known;
      }

-- ---- the loop

-- The loop begins, with the first place of the column and the number of the first pair.
pub following_starts :
    {t : Tables} {first : Pair} {column entry : ℕ} {memory : List ℕ} {base number : ℕ} → WalkedTo t first column entry memory →
    base ≡ column * pairs t → number ≡ pair_number t.worlds first → Following t first column entry memory base memory number
following_starts {first = first} comes base_is number_is =
    record {
      same_length = refl;
      walked = comes;
      base_is = base_is;
      p = first;
      number_is = number_is;
      from = 0;
      below = comes.actions;
      after = unfold series in refl;
      links = comes.links;
    }

module _
    {t : Tables} {first : Pair} {column entry : ℕ} {memory₀ : List ℕ} {base : ℕ} {memory : List ℕ} {number : ℕ}
    (loop : Following t first column entry memory₀ base memory number) where
  abbrev walked : WalkedTo t first column entry memory₀
  walked = loop.walked

  abbrev p : Pair
  p = loop.p

  -- The place is that of the pair at the column.
  abbrev place : ℕ
  place = base + number

  at : place ≡ entry_place t p column
  at = ap₂ ◌+◌ loop.base_is loop.number_is

  in_range : InRange t p
  in_range = within walked.asked loop.from loop.after

  -- It is within the memory.
  pub following_place : base + number < length memory
  following_place = rw at (place_in t p column in_range walked.asked.column_in memory loop.links.room)

  written : Linked t first column (loop.from + 1) loop.below (set memory place entry)
  written = rw at (fate_written walked.asked loop.links loop.after walked.is_fate)

  -- The entry of the pair is no link: none is left, and what is written there leaves a memory.
  pub following_ends : get_or memory (base + number) 0 < 8192 → Memory t (set memory (base + number) entry)
  following_ends small = links_gone (go (dec_lt loop.from loop.below) (rw at at small)) written
    where
      go : Dec (loop.from < loop.below) → remembered t memory p column < 8192 → loop.below ≤ loop.from + 1
      go (yes h) small =
          absurd (omega (arith, (loop.links.link loop.from p (omega arith) h loop.after).names))
      go (no h) small = omega arith

  -- The entry is a link, which names a pair.
  module _ (is_link : 8192 ≤ get_or memory (base + number) 0) where
    met : Link t first column loop.from (get_or memory place 0)
    met = rw at (by (loop.links.others p column in_range walked.asked.column_in) (rw at at is_link))
      where
        by :
            Stands t first column loop.from loop.below p column (remembered t memory p column) →
            8192 ≤ remembered t memory p column → Link t first column loop.from (remembered t memory p column)
        by (inl (inl none)) is_link = absurd (omega arith)
        by (inl (inr right)) is_link = absurd (omega (arith, fate_below t walked.asked.well_formed p column))
        by (inr way) is_link =
            loop.links.link loop.from p (omega arith) (omega (arith, way.not_earlier, way.before)) loop.after

    -- One link fewer is left.
    pub linked_falls : linked (set memory (base + number) entry) < linked memory
    linked_falls =
        tally_falls (λ v. leb 8192 v) memory (base + number) entry following_place (le-leb _ _ is_link)
        (lt-leb _ _ (entry_small walked))

    -- The loop goes on at that pair.
    pub following_on : Following t first column entry memory₀ base (set memory (base + number) entry) (get_or memory (base + number) 0 - 8192)
    following_on =
        record {
          same_length = length-set memory (base + number) entry ∙ loop.same_length;
          walked = walked;
          base_is = loop.base_is;
          p = met.to;
          number_is = omega (arith, met.names);
          from = loop.from + 1;
          below = loop.below;
          after = met.after;
          links = written;
        }

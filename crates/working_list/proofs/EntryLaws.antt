-- The entries of the list's words: a packed pair is unpacked to itself, a word stored after the others adds one entry, and each entry is
-- given by its own word and the entries before it.
use mathlib.Core.Path.{◌≡◌, refl, sym, ap, subst, ◌∙◌}
use mathlib.Core.Bool.{Bool, true, false, cond}
use mathlib.Core.List.{List, [], ◌∷◌, ◌++◌}
use Prim.Native.Nat.{ℕ, zero, suc, ◌+◌, ◌/◌, ◌%◌, ◌≤◌, ◌<◌}
use native.Mathlib.Numerals.{add-one}
use native.Mathlib.Omega.{arith}
use borrow.Author.Tests.{eq-eqb, ne_eqb}
use lib.Dec.{eqb}
use lib.ListN.{length, get_or, take, drop, set, take-append-drop, get_or-append}
use lib.Seq.{length-take-le, take-suc, take-suc-set, get_or-take}
use Rattle.run_laws.specs.inner.Pairs.{pair_number}
use Rattle.search_laws.specs.inner.Lists.{◌▸◌}
use Rattle.search_laws.specs.inner.Entries.{Entry, entry, entry_at, node, start, path, opens, grown}
use Rattle.search_laws.proofs.Grown.{grown_length, grown_new}
use Rattle.check_laws.specs.inner.Search.{line_start, line_lamps}
use Rattle.working_list.specs.declared.Placed.{Placed}
use Rattle.working_list.specs.inner.Placing.{packed, unpacked, Packable, placed_entry, entries_from, entries, MemberOf}

-- The bit of a truth value gives the value back.
truth_back : (b : Bool) (n : ℕ) → n ≡ cond b 1 0 → eqb n 1 ≡ b
truth_back true n e = eq-eqb n 1 e
truth_back false n e = ne_eqb n 1 (λ f. omega arith)

-- The numbers lie side by side in the word.
module _ (p : Placed) (fits : Packable p) where
  state_back : packed p / 64 % 128 ≡ p.pair.state.0
  unfolding packed
  state_back = omega (arith, fits)

  world_back : packed p % 64 ≡ p.pair.world.0
  unfolding packed
  world_back = omega (arith, fits)

  member_back : packed p / 8192 % 8192 ≡ p.member
  unfolding packed
  member_back = omega (arith, fits)

  kind_back : packed p / 67108864 % 16 ≡ p.kind
  unfolding packed
  kind_back = omega (arith, fits)

  opens_back : eqb (packed p / 1073741824) 1 ≡ p.opens
  unfolding packed
  opens_back = truth_back p.opens (packed p / 1073741824) (omega (arith, fits))

  -- Unpacking the word of a placed pair gives the pair back.
  pub unpacked_packed : unpacked (packed p) ≡ p
  unfolding unpacked
  unpacked_packed = rw (state_back, world_back, member_back, kind_back, opens_back)

module _ (worlds : ℕ) where
  -- ---- the entries of a list of words

  from_append :
      (E : List Entry) (ws vs : List ℕ) → entries_from worlds E (ws ++ vs) ≡ entries_from worlds (entries_from worlds E ws) vs
  unfolding entries_from
  from_append E [] vs = refl
  from_append E (w ∷ ws) vs = from_append (grown E (placed_entry worlds E (unpacked w))) ws vs

  from_length : (E : List Entry) (ws : List ℕ) → length (entries_from worlds E ws) ≡ length E + length ws
  unfolding entries_from
  from_length E [] = omega arith
  from_length E (w ∷ ws) =
      omega (arith, from_length (grown E (placed_entry worlds E (unpacked w))) ws, grown_length E (placed_entry worlds E (unpacked w)))

  from_old : (E : List Entry) (ws : List ℕ) (i : ℕ) → i < length E → entry_at (entries_from worlds E ws) i ≡ entry_at E i
  unfolding entries_from
  from_old E [] i l = refl
  from_old E (w ∷ ws) i l =
      from_old (grown E (placed_entry worlds E (unpacked w))) ws i (omega (arith, grown_length E (placed_entry worlds E (unpacked w))))
      ∙ get_or-append E (placed_entry worlds E (unpacked w) ∷ []) (entry 0 0 [] true) i l

  -- Without words there is no entry.
  pub entries_none : entries worlds [] ≡ []
  unfolding entries entries_from
  entries_none = refl

  -- A word added at the end adds its entry.
  entries_snoc :
      (ws : List ℕ) (w : ℕ) →
      entries worlds (ws ++ (w ∷ [])) ≡ grown (entries worlds ws) (placed_entry worlds (entries worlds ws) (unpacked w))
  unfolding entries entries_from
  entries_snoc ws w = from_append [] ws (w ∷ [])

  -- There are as many entries as words.
  entries_length : (ws : List ℕ) → length (entries worlds ws) ≡ length ws
  unfolding entries
  entries_length ws = omega (arith, from_length [] ws)

  -- The first n words of a list have n entries.
  pub taken_length : (list : List ℕ) (n : ℕ) → n ≤ length list → length (entries worlds (take n list)) ≡ n
  taken_length list n h = entries_length (take n list) ∙ length-take-le n list h

  -- If the word of a placed pair is stored after the first n words, its entry comes after theirs.
  pub entries_stored :
      (list : List ℕ) (n : ℕ) (p : Placed) → n < length list → Packable p →
      entries worlds (take (n + 1) (set list n (packed p)))
      ≡ grown (entries worlds (take n list)) (placed_entry worlds (entries worlds (take n list)) p)
  entries_stored list n p l fits =
      rw (add-one n, take-suc-set list n (packed p) l)
      (entries_snoc (take n list) (packed p)
      ∙ ap (λ (r : Placed). grown (entries worlds (take n list)) (placed_entry worlds (entries worlds (take n list)) r))
      (unpacked_packed p fits))

  -- ---- an entry by its place

  -- The first words give the first entries.
  entries_prefix :
      (ws : List ℕ) (i j : ℕ) → i < j → j ≤ length ws → entry_at (entries worlds ws) i ≡ entry_at (entries worlds (take j ws)) i
  entries_prefix ws i j l h =
      ap (λ (vs : List ℕ). entry_at (entries worlds vs) i) (sym (take-append-drop j ws)) ∙ old
    where
      old : entry_at (entries worlds (take j ws ++ drop j ws)) i ≡ entry_at (entries worlds (take j ws)) i
      old =
          unfold entries in
          ap (λ (F : List Entry). entry_at F i) (from_append [] (take j ws) (drop j ws))
          ∙ from_old (entries worlds (take j ws)) (drop j ws) i (omega (arith, taken_length ws j h))

  -- An entry is that of its word, after the entries before it.
  entry_placed :
      (ws : List ℕ) (i : ℕ) → i < length ws →
      entry_at (entries worlds ws) i ≡ placed_entry worlds (entries worlds (take i ws)) (unpacked (get_or ws i 0))
  entry_placed ws i l =
      entries_prefix ws i (suc i) (omega arith) (omega arith)
      ∙ ap (λ (vs : List ℕ). entry_at (entries worlds vs) i) (take-suc ws i 0 l)
      ∙ ap (λ (F : List Entry). entry_at F i) (entries_snoc (take i ws) (get_or ws i 0))
      ∙ subst (λ (n : ℕ). entry_at (grown E z) n ≡ z) (taken_length ws i (omega arith)) (grown_new E z)
    where
      E : List Entry
      E = entries worlds (take i ws)

      z : Entry
      z = placed_entry worlds E (unpacked (get_or ws i 0))

  -- An entry's node is the number of its word's pair.
  pub entries_node :
      (list : List ℕ) (n i : ℕ) → i < n → n ≤ length list →
      node (entries worlds (take n list)) i ≡ pair_number worlds (unpacked (get_or list i 0)).pair
  entries_node list n i l h =
      ap (λ (v : Entry). v.node) (entry_placed (take n list) i (omega (arith, length-take-le n list h)))
      ∙ ap (λ (w : ℕ). pair_number worlds (unpacked w).pair) (get_or-take n list i 0 l)

  -- An entry opens a group if its word says so.
  pub entries_opens :
      (list : List ℕ) (n i : ℕ) → i < n → n ≤ length list →
      opens (entries worlds (take n list)) i ≡ (unpacked (get_or list i 0)).opens
  entries_opens list n i l h =
      ap (λ (v : Entry). v.opens) (entry_placed (take n list) i (omega (arith, length-take-le n list h)))
      ∙ ap (λ (w : ℕ). (unpacked w).opens) (get_or-take n list i 0 l)

  -- The entry at i has the start and the lamps of the line by which its pair was found.
  module _
      (ws : List ℕ) (i : ℕ) (l : i < length ws) (from : MemberOf i (unpacked (get_or ws i 0)).member (unpacked (get_or ws i 0)).kind) where
    abbrev p : Placed
    p = unpacked (get_or ws i 0)

    same : (k : ℕ) → (1 ≤ k → p.member < i) →
        (line_start (entries worlds (take i ws)) p.member k ≡ line_start (entries worlds ws) p.member k)
        × (line_lamps (entries worlds (take i ws)) p.member k ≡ line_lamps (entries worlds ws) p.member k)
    same zero before = (refl, refl)
    same (suc k) before =
        let there = entries_prefix ws p.member i (before (omega arith)) (omega arith) in
        (ap (λ (v : Entry). v.start) (sym there), ap (λ (v : Entry). v.path ▸ suc k) (sym there))

    -- The start is that line's.
    pub start_before : start (entries worlds ws) i ≡ line_start (entries worlds ws) p.member p.kind
    start_before = ap (λ (v : Entry). v.start) (entry_placed ws i l) ∙ (same p.kind from.a_place).0

    -- So are the lamps.
    pub lamps_before : path (entries worlds ws) i ≡ line_lamps (entries worlds ws) p.member p.kind
    lamps_before = ap (λ (v : Entry). v.path) (entry_placed ws i l) ∙ (same p.kind from.a_place).1

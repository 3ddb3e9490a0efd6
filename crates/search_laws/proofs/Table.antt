-- Laws of the search's table, and the central law of the search: if a failing line is followed from entry to entry through the
-- table, this ends at an entry and a kind that were not tried yet, or at a failure of an entry.
use mathlib.Core.Path.{◌≡◌, refl, sym, subst}
use mathlib.Core.List.{List, [], ◌∷◌, ◌++◌, append-nil}
use Prim.Native.Nat.{ℕ, ◌≤◌, ◌<◌}
use native.Mathlib.Omega.{arith}
use lib.ListN.{length}
use Rattle.lamp_line.specs.Lists.{◌≼◌}
use Rattle.lamp_line.specs.Tables.{Kinds}
use Rattle.search_laws.specs.inner.Lists.{◌▸◌}
use Rattle.search_laws.specs.inner.Entries.{Entry, entry_at, node, start, path}
use Rattle.search_laws.proofs.Lex.{≼_trans}
use Rattle.search_laws.proofs.Keys.{stem, key, line_key, key_more, key_end, key_prefix}
use Rattle.search_laws.specs.inner.Graph.{Graph, Kind, FailsAlong, bad_end, bad_lamp, goes_on, Reach, from_start, past_lamp}
use Rattle.search_laws.specs.inner.Graph.{FailsFrom}
use Rattle.search_laws.proofs.Graph.{snoc_append}

-- The key of an entry's line.
abbrev pub entry_key : Entry → List ℕ
entry_key v = line_key v.path v.start

-- The stem of an entry's line.
abbrev pub entry_stem : Entry → List ℕ
entry_stem v = stem v.path

-- The key and the stem of the entry at a place.
abbrev pub key_of : List Entry → ℕ → List ℕ
key_of E i = entry_key (entry_at E i)

abbrev pub stem_of : List Entry → ℕ → List ℕ
stem_of E i = entry_stem (entry_at E i)

-- The key and the stem of an entry's line with one more lamp.
abbrev pub key_on : List Entry → ℕ → ℕ → List ℕ
key_on E i c = line_key (path E i ▸ c) (start E i)

abbrev pub stem_on : List Entry → ℕ → ℕ → List ℕ
stem_on E i c = stem (path E i ▸ c)

-- ---- what was tried

-- The node is in the table, and its entry's line comes no later than this start and these lamps.
pub record Known (E : List Entry) (y s : ℕ) (p : List ℕ) : Type 0 where
  pub place : ℕ
  pub there : place < length E
  pub same : node E place ≡ y
  pub early : key_of E place ≼ line_key p s

-- `Done i c` says that the entry i was tried with the kind c. The nodes to which it leads are then known, and so are those of the
-- starts.
pub record Covers (g : Graph) (E : List Entry) (Done : ℕ → ℕ → Type 0) : Type 0 where
  pub roots : (s x : ℕ) → g.Start s x → Known E x s []
  pub on :
      (i c y : ℕ) → i < length E → Kind g.kinds c → Done i c → g.To (node E i) c y → Known E y (start E i) (path E i ▸ c)

-- Where a failing line leaves the table: at an entry and a kind that were not tried, where its rest fails; at a failure of an entry at
-- a lamp of a kind that was tried; or at a failure of an entry at an end. What is found there comes no later than the line itself.
pub data Open (g : Graph) (E : List Entry) (Done : ℕ → ℕ → Type 0) (s : ℕ) (l : List ℕ) (e f : ℕ) : Type 0 where
  untried :
      (i c : ℕ) (p r : List ℕ) → i < length E → Kind g.kinds c → ¬ (Done i c) → FailsAlong g (node E i) (c ∷ r) e f →
      key_of E i ≼ line_key p s → l ≡ p ++ (c ∷ r) → Open g E Done s l e f
  lamp_fails :
      (i c : ℕ) → i < length E → Kind g.kinds c → Done i c → g.Bad (node E i) c f →
      key (path E i ▸ c) 0 (start E i) f ≼ key l e s f → Open g E Done s l e f
  end_fails :
      (i : ℕ) → i < length E → g.BadEnd (node E i) e f →
      key (path E i) e (start E i) f ≼ key l e s f → Open g E Done s l e f

-- ---- following a line

-- If an entry comes no later than a line, then with one more lamp it comes no later than any line that goes on by this lamp.
pub on_early :
    (E : List Entry) (i c s e f f' : ℕ) (p l : List ℕ) → f ≤ f' → key_of E i ≼ line_key p s →
    key (path E i ▸ c) 0 (start E i) f ≼ key (p ++ (c ∷ l)) e s f'
on_early E i c s e f f' p l h early =
    subst (λ (z : List ℕ). key (path E i ▸ c) 0 (start E i) f ≼ key z e s f') (snoc_append p c l)
    (≼_trans _ (key (p ▸ c) 0 s f) _
    (key_end (start E i) s 0 f (path E i ▸ c) (p ▸ c) (key_more (start E i) s (path E i) p c early))
    (key_prefix s e f f' (p ▸ c) l h))

-- A node that is known for a line is known for every later line.
known_later :
    {E : List Entry} {y s : ℕ} {p : List ℕ} (s' : ℕ) (p' : List ℕ) → Known E y s p → line_key p s ≼ line_key p' s' → Known E y s' p'
known_later s' p' k h = record { place = k.place; there = k.there; same = k.same; early = ≼_trans _ _ _ k.early h }

module _
    (g : Graph) (E : List Entry) (Done : ℕ → ℕ → Type 0) (done? : (i c : ℕ) → Dec (Done i c)) (covers : Covers g E Done) where
  -- One lamp further along the table.
  known_on :
      (s c x y : ℕ) (p : List ℕ) (k : Known E x s p) → Kind g.kinds c → Done k.place c → g.To x c y → Known E y s (p ▸ c)
  known_on s c x y p k kind done to =
      let i = k.place in
      known_later s (p ▸ c)
      (covers.on i c y k.there kind done (subst (λ (z : ℕ). g.To z c y) (sym k.same) to))
      (key_more (start E i) s (path E i) p c k.early)

  follow :
      {x e f : ℕ} (s : ℕ) (p r : List ℕ) → Known E x s p → Kinds g.kinds r → FailsAlong g x r e f → Open g E Done s (p ++ r) e f
  unfolding Kinds
  follow {x} {e} {f} s p r k v (bad_end h) =
      subst (λ (z : List ℕ). Open g E Done s z e f) (sym (append-nil p))
      (end_fails k.place k.there (subst (λ (z : ℕ). g.BadEnd z e f) (sym k.same) h)
      (key_end (start E k.place) s e f (path E k.place) p k.early))
  follow s p r k v (bad_lamp {c = c} {e = e} {f = f} {l = l} h) = go (done? k.place c)
    where
      kind : Kind g.kinds c
      kind = record { low = v.0; high = v.1 }

      go : Dec (Done k.place c) → Open g E Done s (p ++ (c ∷ l)) e f
      go (yes d) =
          lamp_fails k.place c k.there kind d (subst (λ (z : ℕ). g.Bad z c f) (sym k.same) h)
          (on_early E k.place c s e f f p l (omega arith) k.early)
      go (no d) =
          untried k.place c p l k.there kind d
          (subst (λ (z : ℕ). FailsAlong g z (c ∷ l) e f) (sym k.same) (bad_lamp h)) k.early refl
  follow s p r k v (goes_on {x = x} {c = c} {y = y} {e = e} {f = f} {l = l} t d) =
      go (λ k'. follow s (p ▸ c) l k' v.2 d) (done? k.place c)
    where
      kind : Kind g.kinds c
      kind = record { low = v.0; high = v.1 }

      go :
          (Known E y s (p ▸ c) → Open g E Done s ((p ▸ c) ++ l) e f) → Dec (Done k.place c) →
          Open g E Done s (p ++ (c ∷ l)) e f
      go after (yes d) =
          subst (λ (z : List ℕ). Open g E Done s z e f) (snoc_append p c l) (after (known_on s c x y p k kind d t))
      go after (no un) =
          untried k.place c p l k.there kind un
          (subst (λ (z : ℕ). FailsAlong g z (c ∷ l) e f) (sym k.same) (goes_on t d)) k.early refl

  -- Every failing line leaves the table somewhere.
  pub fails_open : (s : ℕ) (l : List ℕ) (e f : ℕ) → FailsFrom g s l e f → Open g E Done s l e f
  fails_open s l e f d = follow s [] l (covers.roots s d.first d.start) d.of_kinds d.fails

  -- If every entry was tried with every kind, every node that is reached is known.
  pub reach_known :
      ((i c : ℕ) → i < length E → Kind g.kinds c → Done i c) → {s x : ℕ} {p : List ℕ} → Reach g s p x → Known E x s p
  reach_known all (from_start {s = s} {x = x} h) = covers.roots s x h
  reach_known all (past_lamp {s = s} {x = x} {c = c} {y = y} {p = p} r kind t) = go (reach_known all r)
    where
      go : Known E x s p → Known E y s (p ▸ c)
      go k = known_on s c x y p k kind (all k.place c k.there kind) t

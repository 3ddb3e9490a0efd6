-- The loops of the search over groups and kinds. At each turn, the verdict of the search's definition is what the rest of the search
-- gives; so where the loops end, the verdict is what they found, or it names a line that has more lamps than those that were tried.
use mathlib.Core.Path.{◌≡◌, refl, sym, ap, subst, ◌∙◌}
use mathlib.Core.Logic.{◌≢◌}
use mathlib.Core.List.{List}
use Prim.Native.Nat.{ℕ, ◌+◌, ◌*◌, ◌-◌, ◌≤◌, ◌<◌}
use native.Mathlib.Omega.{arith}
use lib.ListN.{length, take}
use lib.Seq.{length-take-le, get_or-take}
use Rattle.lamp_line.specs.declared.FailureKind.{FailureKind}
use Rattle.lamp_line.specs.Tables.{Tables, kinds_of_ends, columns}
use Rattle.lamp_line.specs.Check.{accepted}
use Rattle.lamp_line.proofs.Counting.{number_once}
use Rattle.job_layout.specs.declared.Job.{Job}
use Rattle.job_layout.specs.JobTables.{tables_by}
use Rattle.pair_bits.specs.Sum.{OneAmong, SumIs}
use Rattle.pair_bits.specs.inner.Bits.{Cleared}
use Rattle.run_laws.specs.inner.Pairs.{pairs}
use Rattle.search_laws.specs.inner.Entries.{Entry, group_end}
use Rattle.check_laws.specs.inner.Search.{goes_on, conclusion, failing, line_lamps, line_tried, groups_from, verdict_of}
use Rattle.check_laws.proofs.Layers.{Layer, InLayer, first_layer, line_in_layer, line_length, group_within, group_in_layer, next_in_layer, next_layer}
use Rattle.check_laws.proofs.Layers.{layer_beyond}
use Rattle.check_laws.proofs.SearchRest.{kinds_left, search_is, groups_done, group_begins, kinds_done, kind_goes_on, kind_answers}
use Rattle.working_list.specs.inner.Placing.{entries, MemberOf, Chained}
use Rattle.working_list.specs.inner.Listing.{table, Listed}
use Rattle.line_trial.specs.inner.Trials.{Ready}
use Rattle.plan_search.specs.inner.Searching.{NoneMet, Searched}
use Rattle.plan_search.proofs.Sweeps.{held_few, line_at, Members, LineFails}
use Rattle.working_list.proofs.EntryLaws.{entries_none}
use Rattle.working_list.proofs.ListLaws.{listed_empty, count_fits, table_length}
use Rattle.line_trial.proofs.TryingEnds.{ready_tables}
use Rattle.std.specs.Prelude.{Err}

-- ---- a line that fails

-- The line that was tried from the member w fails: it can be read off the list.
line_met :
    {s : List ℕ} {j : Job} {memory list words : List ℕ} {n longest lamps end : ℕ} {kind : FailureKind} → Ready s j memory →
    Listed (tables_by s j) list words n → (w k : ℕ) → verdict_of (tables_by s j) ≡ failing (table (tables_by s j) list n) k kind w end →
    lamps ≡ length (line_lamps (table (tables_by s j) list n) w k) → MemberOf n w k → lamps ≤ longest →
    Searched (tables_by s j) longest (Err (line_at kind end n w k lamps)) list
line_met {list = list} {n = n} ready listed w k is lamps_are member short =
    record {
      so = record {
        verdict_is = is;
        lamps_are = lamps_are;
        short = short;
        member_of = member;
        few = held_few ready listed;
        room = room;
        chained = chained;
      };
    }
  where
    room : n ≤ length list
    room = omega (arith, count_fits listed, listed.list_room)

    chained : Chained (take n list)
    chained i l =
        let in_list : i < n = omega (arith, length-take-le n list room) in
        rw (get_or-take n list i 0 in_list) (listed.chained i in_list)

-- ---- a kind of a group

-- Which members are tried with this kind next, up to the kind `last`: the starts, with the empty line; or the pairs of a group, after which
-- the next group comes.
pub data TriedNext (t : Tables) (from to next layer lamps last kind : ℕ) : Type 0 where
  the_starts :
      to ≡ t.worlds → next ≡ 0 → layer ≡ 0 → lamps ≡ 0 → last ≡ 0 → TriedNext t from to next layer lamps last kind
  some_pairs :
      from < to → to ≤ layer → next ≡ to → last ≡ t.kinds → 1 ≤ kind → TriedNext t from to next layer lamps last kind

-- The members from `from` to `to` are tried with this kind next: the verdict is what the kinds from here on, and then the groups from `next`
-- on, give. `fuel` is the number of groups for which the definition is ready.
pub record AtKind
    (s : List ℕ) (j : Job) (longest : ℕ) (memory list words : List ℕ) (n from to next layer lamps last kind : ℕ) : Type 0 where
  pub ready : Ready s j memory
  pub listed : Listed (tables_by s j) list words n
  pub layered : Layer (table (tables_by s j) list n) from layer lamps
  pub group : TriedNext (tables_by s j) from to next layer lamps last kind
  pub in_order : from ≤ to
  pub short : lamps ≤ longest
  -- The empty line has no lamps, and with each group there is at most one lamp more.
  pub few : lamps ≤ next
  pub fuel : ℕ
  pub enough : pairs (tables_by s j) ≤ next + fuel
  pub verdict_is :
      verdict_of (tables_by s j) ≡ conclusion (kinds_left (tables_by s j) fuel (table (tables_by s j) list n) from to last kind next)

-- With cleared bits the starts are tried with the empty line.
pub search_begins :
    {s : List ℕ} {j : Job} {memory list words : List ℕ} (longest : ℕ) → Ready s j memory → Cleared words (pairs (tables_by s j)) →
    pairs (tables_by s j) ≤ length list → pairs (tables_by s j) ≤ length words * 64 →
    AtKind s j longest memory list words 0 0 j.worlds 0 0 0 0 0
search_begins {s} {j} {memory} {list} {words} longest ready cleared list_room bits_room =
    let t = tables_by s j in
    let empty = sym (entries_none j.worlds) in
    record {
      ready = ready;
      listed = listed_empty cleared list_room bits_room;
      layered = subst (λ (E : List Entry). Layer E 0 0 0) empty first_layer;
      group = the_starts refl refl refl refl refl;
      in_order = omega arith;
      short = omega arith;
      few = omega arith;
      fuel = pairs t;
      enough = omega arith;
      verdict_is = search_is t ∙ ap (λ (E : List Entry). conclusion (kinds_left t (pairs t) E 0 j.worlds 0 0 0)) empty;
    }

module _
    {s : List ℕ} {j : Job} {longest : ℕ} {memory list words : List ℕ} {n from to next layer lamps last kind : ℕ}
    (at : AtKind s j longest memory list words n from to next layer lamps last kind) where
  abbrev t : Tables
  t = tables_by s j

  abbrev E : List Entry
  E = table t list n

  layer_within : layer ≤ n
  layer_within = omega (arith, at.layered.in_table, table_length at.listed)

  last_range : last ≤ j.kinds
  last_range = go at.group
    where
      go : TriedNext t from to next layer lamps last kind → last ≤ j.kinds
      go (the_starts is_to is_next is_layer is_lamps is_last) = omega arith
      go (some_pairs some within is_next is_last low) = omega arith

  -- The last kind is below 16.
  pub last_few : last < 16
  unfolding columns kinds_of_ends
  last_few = omega (arith, last_range, (ready_tables at.ready).formed.columns_range)

  -- A kind with which they are tried.
  module _ (here : kind ≤ last) where
    -- They are the members of the line.
    pub group_members : Members t n to kind
    group_members =
        record { starts = λ none. starts at.group none; places = λ lamp. places at.group lamp; kind_range = omega (arith, last_range) }
      where
        starts : TriedNext t from to next layer lamps last kind → kind ≡ 0 → to ≤ j.worlds
        starts (the_starts is_to is_next is_layer is_lamps is_last) none = omega arith
        starts (some_pairs some within is_next is_last low) none = absurd (omega arith)

        places : TriedNext t from to next layer lamps last kind → 1 ≤ kind → to ≤ n
        places (the_starts is_to is_next is_layer is_lamps is_last) lamp = absurd (omega arith)
        places (some_pairs some within is_next is_last low) lamp = omega (arith, layer_within)

    in_layer : (i : ℕ) → from ≤ i → i < to → InLayer from layer lamps kind i
    in_layer i low high = record { empty = empty at.group; left = left at.group }
      where
        empty : TriedNext t from to next layer lamps last kind → kind ≡ 0 → lamps ≡ 0
        empty (the_starts is_to is_next is_layer is_lamps is_last) none = is_lamps
        empty (some_pairs some within is_next is_last lamp) none = absurd (omega arith)

        left : TriedNext t from to next layer lamps last kind → 1 ≤ kind → (from ≤ i) × (i < layer)
        left (the_starts is_to is_next is_layer is_lamps is_last) lamp = absurd (omega arith)
        left (some_pairs some within is_next is_last lamped) lamp = (low, omega arith)

    -- The line does not fail from any of them: they are tried with the next kind.
    pub kind_held :
        {m : ℕ} {memory' list' words' : List ℕ} → line_tried t E from to kind ≡ goes_on (table t list' m) → Ready s j memory' →
        Listed t list' words' m → AtKind s j longest memory' list' words' m from to next layer lamps last (kind + 1)
    kind_held e ready listed =
        record {
          ready = ready;
          listed = listed;
          layered = line_in_layer t at.layered at.in_order in_layer e;
          group = later at.group;
          in_order = at.in_order;
          short = at.short;
          few = at.few;
          fuel = at.fuel;
          enough = at.enough;
          verdict_is = at.verdict_is ∙ ap conclusion (kind_goes_on t at.fuel E from to last kind next here e);
        }
      where
        later : TriedNext t from to next layer lamps last kind → TriedNext t from to next layer lamps last (kind + 1)
        later (the_starts is_to is_next is_layer is_lamps is_last) = the_starts is_to is_next is_layer is_lamps is_last
        later (some_pairs some within is_next is_last low) = some_pairs some within is_next is_last (omega arith)

    -- The line fails: it is what the search finds.
    pub kind_failed :
        {failure : FailureKind} {end w m : ℕ} {list' words' : List ℕ} → LineFails t list n from to kind list' words' m failure end w →
        Searched t longest (Err (line_at failure end m w kind lamps)) list'
    kind_failed {failure} {end} {w} {m} {list'} line =
        line_met at.ready line.listed w kind
        (at.verdict_is ∙ ap conclusion (kind_answers t at.fuel E from to last kind next here line.answer_is))
        (sym (line_length t at.layered at.in_order in_layer (table t list' m) w line.answer_is))
        (record {
          a_start = λ none. omega (arith, group_members.starts none, line.high, (ready_tables at.ready).formed.worlds_range.1);
          a_place = λ lamp. omega (arith, group_members.places lamp, line.high, line.more);
        })
        at.short

-- ---- the next group

-- The search is at the group that begins with the pair at `next`, or at the end of a layer: the verdict is what the groups from there on
-- give.
pub record AtGroup (s : List ℕ) (j : Job) (longest : ℕ) (memory list words : List ℕ) (n next layer lamps : ℕ) : Type 0 where
  pub ready : Ready s j memory
  pub listed : Listed (tables_by s j) list words n
  pub layered : Layer (table (tables_by s j) list n) next layer lamps
  pub short : lamps ≤ longest
  pub few : lamps ≤ next
  pub fuel : ℕ
  pub enough : pairs (tables_by s j) ≤ next + fuel
  pub verdict_is : verdict_of (tables_by s j) ≡ conclusion (groups_from (tables_by s j) fuel (table (tables_by s j) list n) next)

-- All kinds were tried.
pub kinds_through :
    {s : List ℕ} {j : Job} {longest : ℕ} {memory list words : List ℕ} {n from to next layer lamps last kind : ℕ} →
    AtKind s j longest memory list words n from to next layer lamps last kind → last < kind →
    AtGroup s j longest memory list words n next layer lamps
kinds_through {s} {j} {longest} {memory} {list} {words} {n} {from} {to} {next} {layer} {lamps} {last} {kind} at past =
    record {
      ready = at.ready;
      listed = at.listed;
      layered = next_layered at.group;
      short = at.short;
      few = at.few;
      fuel = at.fuel;
      enough = at.enough;
      verdict_is = at.verdict_is
          ∙ ap conclusion (kinds_done (tables_by s j) at.fuel (table (tables_by s j) list n) from to last kind next past);
    }
  where
    next_layered : TriedNext (tables_by s j) from to next layer lamps last kind → Layer (table (tables_by s j) list n) next layer lamps
    next_layered (the_starts is_to is_next is_layer is_lamps is_last) =
        next_in_layer at.layered next (omega (arith, at.layered.within)) (omega arith)
    next_layered (some_pairs some within is_next is_last low) =
        next_in_layer at.layered next (omega arith) (omega arith)

-- The search enters the group of the pair at `next`: there is one, and its lines are not too long.
pub record Enters (s : List ℕ) (j : Job) (longest : ℕ) (memory list words : List ℕ) (n next layer lamps : ℕ) : Type 0 where
  pub ready : Ready s j memory
  pub listed : Listed (tables_by s j) list words n
  pub layered : Layer (table (tables_by s j) list n) next layer lamps
  pub inside : next < layer
  pub short : lamps ≤ longest
  pub few : lamps ≤ next + 1
  pub fuel : ℕ
  pub enough : pairs (tables_by s j) ≤ next + fuel
  pub verdict_is : verdict_of (tables_by s j) ≡ conclusion (groups_from (tables_by s j) fuel (table (tables_by s j) list n) next)

module _
    {s : List ℕ} {j : Job} {longest : ℕ} {memory list words : List ℕ} {n next layer lamps : ℕ}
    (at : AtGroup s j longest memory list words n next layer lamps) where
  layer_held : layer ≤ n
  layer_held = omega (arith, at.layered.in_table, table_length at.listed)

  -- The number of lamps is small.
  pub lamps_small : lamps ≤ 4160
  lamps_small = omega (arith, at.few, at.layered.within, layer_held, held_few at.ready at.listed)

  -- A group of the layer is left.
  pub enters_layer : next ≢ layer → Enters s j longest memory list words n next layer lamps
  enters_layer inside =
      record {
        ready = at.ready;
        listed = at.listed;
        layered = at.layered;
        inside = omega (arith, at.layered.within);
        short = at.short;
        few = omega (arith, at.few);
        fuel = at.fuel;
        enough = at.enough;
        verdict_is = at.verdict_is;
      }

  module _ (end : next ≡ layer) where
    -- The pairs that were found are the next layer, and its lines have no more lamps than a number that the bound allows.
    pub enters_next :
        n ≢ layer → {allowed : ℕ} → allowed ≤ longest → lamps + 1 ≤ allowed → Enters s j longest memory list words n next n (lamps + 1)
    enters_next further within_bound no_more =
        let size = table_length at.listed in
        record {
          ready = at.ready;
          listed = at.listed;
          layered = subst (λ (m : ℕ). Layer (table (tables_by s j) list n) next m (lamps + 1)) size (next_layer at.layered end);
          inside = omega (arith, layer_held);
          short = omega arith;
          few = omega (arith, at.few);
          fuel = at.fuel;
          enough = at.enough;
          verdict_is = at.verdict_is;
        }

    module _ {count : ℕ} (sum : SumIs words (pairs (tables_by s j)) count) where
      -- Nothing was found: the pairs in the list are all that are reached.
      pub through : n ≡ layer → NoneMet (tables_by s j) longest count
      through last_layer =
          let t = tables_by s j in
          let E = table t list n in
          let is : verdict_of t ≡ accepted count =
          at.verdict_is ∙ ap conclusion (groups_done t at.fuel E next (omega (arith, table_length at.listed)))
          ∙ ap accepted (table_length at.listed ∙ number_once (OneAmong words (pairs t)) n count at.listed.counted sum) in
          record { none = rw is tt; all = λ far. is }

      -- The lines of the next layer have as many lamps as a number that is above the bound: none of up to the bound is left. As there is a
      -- next layer, there are more pairs than the bound has lamps.
      pub stopped : n ≢ layer → {above : ℕ} → longest < above → above ≤ lamps + 1 → NoneMet (tables_by s j) longest count
      stopped further over_bound no_fewer =
          let most : lamps ≡ longest = omega (arith, at.short) in
          record {
            none = rw (at.verdict_is, ← most) (layer_beyond at.layered end (tables_by s j) at.fuel);
            all = λ far. absurd (omega (arith, at.few, layer_held, count_fits at.listed));
          }

module _
    {s : List ℕ} {j : Job} {longest : ℕ} {memory list words : List ℕ} {n next layer lamps : ℕ}
    (at : Enters s j longest memory list words n next layer lamps) where
  -- The list has the pair.
  pub next_held : (next < n) × (n ≤ length list) × (n ≤ 4160)
  next_held = (
    omega (arith, at.inside, at.layered.in_table, table_length at.listed),
    omega (arith, count_fits at.listed, at.listed.list_room),
    held_few at.ready at.listed,
  )

  in_table : next < length (table (tables_by s j) list n)
  in_table = omega (arith, next_held.0, table_length at.listed)

  -- Its group ends after it.
  pub group_some : {to : ℕ} → ((worlds : ℕ) → to ≡ group_end (entries worlds (take n list)) next) → next < to
  group_some is = omega (arith, is j.worlds, (group_within (table (tables_by s j) list n) next in_table).0)

  -- It is tried with the first kind.
  pub group_begun :
      {to : ℕ} → ((worlds : ℕ) → to ≡ group_end (entries worlds (take n list)) next) →
      AtKind s j longest memory list words n next to to layer lamps j.kinds 1
  group_begun {to} is =
      let t = tables_by s j in
      let E = table t list n in
      let some = (group_within E next in_table).0 in
      rw (is j.worlds)
      (record {
        ready = at.ready;
        listed = at.listed;
        layered = at.layered;
        group = some_pairs some (group_in_layer at.layered at.inside) refl refl (omega arith);
        in_order = omega arith;
        short = at.short;
        few = omega (arith, at.few);
        fuel = at.fuel - 1;
        enough = omega (arith, at.enough);
        verdict_is = at.verdict_is
            ∙ ap conclusion
            (group_begins t at.fuel E next in_table (omega (arith, at.enough, next_held.0, count_fits at.listed)));
      })

-- Where the line that is tried from a member begins its last leg.
use mathlib.Core.Path.{◌≡◌, refl, sym, ap, ◌∙◌}
use mathlib.Core.Bool.{true, false}
use mathlib.Core.List.{List}
use Prim.Native.Nat.{ℕ, ◌≤◌}
use native.Mathlib.Omega.{arith}
use lib.ListN.{get_or}
use Rattle.lamp_line.specs.Tables.{Tables, world_state, lamp_column}
use Rattle.lamp_line.specs.inner.WellFormed.{WellFormed}
use Rattle.lamp_line.specs.Run.{pair}
use Rattle.lamp_line.proofs.Columns.{up_to_last_end, end_column_in, lamp_column_in, lamp_after_ends}
use Rattle.search_laws.specs.inner.Entries.{Entry}
use Rattle.check_laws.specs.inner.Fates.{fate}
use Rattle.check_laws.specs.inner.Search.{at_start, at_lamp}
use Rattle.check_laws.proofs.TableGraph.{start_in_range}
use Rattle.check_laws.proofs.TriedLines.{empty_line_tried, lamp_line_tried}
use Rattle.working_list.specs.declared.Placed.{Placed}
use Rattle.std.specs.Prelude.{None, Some}
use Rattle.working_list.specs.inner.Placing.{unpacked}
use Rattle.working_list.specs.inner.Listing.{table, Listed}
use Rattle.line_trial.specs.inner.Trials.{HasMember, going_at_lamp, going_at_end, Begins}
use Rattle.working_list.proofs.EntryLaws.{entries_node}
use Rattle.working_list.proofs.ListLaws.{count_fits}

-- The empty line.
module _ {t : Tables} {E : List Entry} {member kind end : ℕ} (none : kind ≡ 0) where
  -- A world state that is not marked as a start has no line.
  pub start_unmarked_lem : false ≡ t.start (world_state member) → Begins t E member kind end None
  start_unmarked_lem e = record { so = empty_line_tried E member kind none t ∙ ap (at_start t E member) (sym e) }

  -- The empty line of a marked start goes on at its end.
  pub start_marked :
      WellFormed t → end ≤ t.ends → true ≡ t.start (world_state member) →
      Begins t E member kind end (Some (record { pair = pair t.first (world_state member); column = end }))
  start_marked wf is_end e =
      record {
        so = record {
          range = start_in_range t wf (world_state member) (sym e);
          column_range = end_column_in t.ends t.kinds end (up_to_last_end t.ends end is_end);
          going = going_at_end refl (empty_line_tried E member kind none t ∙ ap (at_start t E member) (sym e));
        };
      }

-- The column of a lamp is a small number.
pub lamp_column_small :
    {t : Tables} {n member kind : ℕ} → WellFormed t → HasMember t n member kind → lamp_column t.ends kind ≤ 255
lamp_column_small {t} {n} {member} {kind} wf has =
    omega (arith, lamp_column_in t.ends t.kinds kind has.kind_range, wf.formed.columns_range)

-- A line with a lamp goes on at its last lamp, with the pair of its member.
pub lamp_begins :
    {t : Tables} {list words : List ℕ} {n member kind end column : ℕ} {p : Placed} → Listed t list words n → HasMember t n member kind →
    1 ≤ kind → p ≡ unpacked (get_or list member 0) → column ≡ lamp_column t.ends kind →
    Begins t (table t list n) member kind end (Some (record { pair = p.pair; column = column }))
lamp_begins {t} {list} {words} {n} {member} {kind} listed has lamp is is_column =
    rw (is, is_column)
    (record {
      so = record {
        range = listed.ranges member (has.a_place lamp);
        column_range = lamp_column_in t.ends t.kinds kind has.kind_range;
        going = going_at_lamp (lamp_after_ends t.ends kind lamp)
            (lamp_line_tried (table t list n) member kind lamp t
            ∙ ap (λ (y : ℕ). at_lamp t (table t list n) (fate t y (lamp_column t.ends kind)))
            (entries_node t.worlds list n member (has.a_place lamp) (omega (arith, count_fits listed, listed.list_room))));
      };
    })

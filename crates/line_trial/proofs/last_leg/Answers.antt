use Rattle.std.proofs.Common.{sym, ap, ◌∙◌, arith}
use Rattle.lamp_line.specs.Tables.{Tables, world_state}
use Rattle.job_file.proofs.WellFormed.{tables_are, well_formed_by}
use Rattle.run_laws.proofs.Pairs.{pairs_few}
use Rattle.working_list.proofs.ListLaws.{count_fits}
use Rattle.line_trial.proofs.LastLeg.{start_unmarked_lem, start_marked, lamp_column_small, lamp_begins}
use Rattle.line_trial.proofs.last_leg.Goals as goal

pub overflow_cast-world : goal.overflow_cast-world
overflow_cast-world c =
    omega (
      arith,
      c.requires.1.a_start (omega (arith, c.if-kind-eq0.true)),
      (well_formed_by _ _ c.args.job.now.opened).formed.worlds_range.1,
    )

pub returns-then-not-is_start : goal.returns-then-not-is_start
returns-then-not-is_start c =
    start_unmarked_lem c.if-kind-eq0.true
    (sym c.if-not-is_start.true ∙ c.is_start.ensures
    ∙ ap (λ (t : Tables). t.start (world_state c.args.member)) (sym (tables_are _ _ c.args.job.now.opened)))

pub returns-then-kind-eq0 : goal.returns-then-kind-eq0
returns-then-kind-eq0 c =
    start_marked c.if-kind-eq0.true (well_formed_by _ _ c.args.job.now.opened) c.requires.2
    (sym c.if-not-is_start.false ∙ c.is_start.ensures
    ∙ ap (λ (t : Tables). t.start (world_state c.args.member)) (sym (tables_are _ _ c.args.job.now.opened)))

pub offset_bounds-list-member : goal.offset_bounds-list-member
offset_bounds-list-member c =
    omega (
      arith,
      c.requires.1.a_place (omega (arith, c.if-kind-eq0.false)),
      count_fits c.requires.0,
      pairs_few (well_formed_by _ _ c.args.job.now.opened),
    )

pub bounds-list-member : goal.bounds-list-member
bounds-list-member c =
    omega (arith, c.requires.1.a_place (omega (arith, c.if-kind-eq0.false)), count_fits c.requires.0, c.requires.0.list_room)

pub lamp_column-requires : goal.lamp_column-requires
lamp_column-requires c =
    lamp_column_small (well_formed_by _ _ c.args.job.now.opened) c.requires.1

pub returns : goal.returns
returns c =
    lamp_begins c.requires.0 c.requires.1 (omega (arith, c.if-kind-eq0.false)) c.unpack.ensures c.lamp_column.ensures

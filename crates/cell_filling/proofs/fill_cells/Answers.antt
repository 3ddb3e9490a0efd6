use Rattle.std.proofs.Common.{refl, arith}
use Rattle.std.proofs.lemmas.Result.{err_from_is_err_and}
use Rattle.cell_filling.proofs.FillTests.{rules_refused, size_refused, not_refused}
use Rattle.cell_filling.proofs.fill_cells.Goals as goal

pub returns-in_err-rules : goal.returns-in_err-rules
returns-in_err-rules c =
    let exit = err_from_is_err_and c.from_residual.result c.from_residual.ensures.1 in
    let refused = c.in_err-rules.ensures.refused in
    rw (exit.1, exit.2, refused.0) (record { answered = rules_refused c.args.rules.now c.args.sizes _ refused.1; part = refl })

-- Here and below, the rules are those that were opened.
pub returns-then-part-part_length : goal.returns-then-part-part_length
returns-then-part-part_length c =
    let opened = c.in_ok-rules.ensures.opened in
    record {
      answered =
          size_refused c.args.rules.now c.args.sizes _ (rw (opened.0, opened.1) at c.in_ok-rules.rules.right)
          (λ e. let asked = c.part_length.ensures in omega arith);
      part = refl;
    }

pub returns : goal.returns
returns c =
    let opened = c.in_ok-rules.ensures.opened in
    record {
      answered =
          not_refused c.args.rules.now c.args.sizes _ (rw (opened.0, opened.1) at c.in_ok-rules.rules.right)
          (omega (arith, c.part_length.ensures));
      part = rw (opened.0, opened.1) at c.fill_part.ensures;
    }

use Rattle.std.proofs.Common.{arith}
use Rattle.job_file.proofs.WellFormed.{well_formed_by}
use Rattle.line_finding.proofs.Naming.{lamps_few, writable}
use Rattle.line_finding.proofs.search.Goals as goal

pub write_line-start-requires : goal.write_line-start-requires
write_line-start-requires c =
    writable c.search_groups.ensures c.in-Err.is (well_formed_by _ _ c.args.job.now.opened) c.requires.1.line_room

pub overflow_cast-result : goal.overflow_cast-result
overflow_cast-result c =
    omega (arith, lamps_few c.search_groups.ensures c.in-Err.is (well_formed_by _ _ c.args.job.now.opened))

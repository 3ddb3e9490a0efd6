use Rattle.std.proofs.Common.{arith}
use Rattle.job_file.proofs.WellFormed.{well_formed_by}
use Rattle.lamp_fates.proofs.BlankMemory.{blank_memory, entries_most}
use Rattle.line_finding.proofs.find.Goals as goal

-- Where the memory is the largest, it has room for every job.
pub search-requires : goal.search-requires
search-requires g c =
    let most = entries_most (well_formed_by _ _ c.args.job.now.opened) in
    (blank_memory _ _ (omega (arith, most, c.requires.1)), c.requires.0)

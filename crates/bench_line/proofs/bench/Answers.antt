-- The definition's bytes, computed, are these.
use Rattle.std.proofs.Common.{refl}
use Rattle.lamp_line.specs.Lists.{blocks}
use Rattle.bench_line.specs.BenchJobs.{plan_bytes, bench_job, G}
use Rattle.bench_line.proofs.bench.Goals as goal

pub returns-clause-bytes : goal.returns-clause-bytes
unfolding blocks plan_bytes bench_job G
returns-clause-bytes c = refl

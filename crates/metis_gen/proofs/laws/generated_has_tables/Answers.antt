use Rattle.std.proofs.Common.{arith}
use Rattle.metis_gen.proofs.SameRows.{generated_tables}
use Rattle.metis_gen.proofs.laws.generated_has_tables.Goals as goal

pub returns : goal.returns
returns c = λ n l. generated_tables n (omega arith)

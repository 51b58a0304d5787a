use Rattle.metis_waits.proofs.Begun.{begun_from_none}
use Rattle.metis_waits.proofs.pass.waits.Goals as goal

pub go_on-requires-clause-begun : goal.go_on-requires-clause-begun
go_on-requires-clause-begun c = begun_from_none c.args.u.now c.args.actions.now c.new.result c.new.ensures

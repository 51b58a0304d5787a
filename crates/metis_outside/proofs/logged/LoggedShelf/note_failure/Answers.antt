use Rattle.std.proofs.Common.{◌≡◌, arith, length, rules}
use Rattle.metis_outside.proofs.Noted.{last_noted}
use Rattle.metis_outside.proofs.logged.LoggedShelf.note_failure.Goals as goal

pub returns-then-count-gt0-clause-log : goal.returns-then-count-gt0-clause-log
returns-then-count-gt0-clause-log g c =
    let all : c.len-count.result ≡ length c.args.self.now.log.items = search rules in
    last_noted c.args.self.now.log.items c.len-count.result c.index_mut.result.now all (omega arith) c.index_mut.ensures.value

use Rattle.std.proofs.Common.{◌≡◌, ◌+◌, length, vec_len, arith, rules}
use Rattle.metis_config.proofs.Weights.{length-le-total}
use Rattle.metis_config.proofs.crowd.Crowd.make_room.Goals as goal

pub overflow_sub-wanted : goal.overflow_sub-wanted
overflow_sub-wanted c =
    let few = length-le-total c.self.inside.shares.items c.self.invariant.some in
    let many : vec_len c.self.inside.shares ≡ length c.self.inside.shares.items = search rules in
    let wanted : c.in-Some.wanted ≡ c.self.inside.total + 1 = search rules in
    omega (arith, few, many, wanted, c.self.invariant.sum, c.len.ensures)

use Rattle.std.proofs.Common.{◌≡◌, ◌≤◌, length, vec_len, arith, ap, ◌∙◌, rules}
use Rattle.std.specs.Prelude.{vec_capacity}
use Rattle.std.proofs.lemmas.List.Elements.{same_from_all_zip}
use Rattle.metis_config.specs.Terms.{Crowd}
use Rattle.metis_config.proofs.Weights.{length-le-total}
use Rattle.metis_config.proofs.crowd.CrowdClone.clone.Goals as goal

pub overflow_sub-self-inside : goal.overflow_sub-self-inside
overflow_sub-self-inside c =
    let few = length-le-total c.self.inside.shares.items c.self.invariant.some in
    let many : vec_len c.self.inside.shares ≡ length c.self.inside.shares.items = search rules in
    omega (arith, few, many, c.self.invariant.sum, c.len.ensures, c.in_ok-shares.ensures.cases.1)

pub invariant_of-result : goal.invariant_of-result
invariant_of-result c =
    let same : c.in_ok-shares.shares.items ≡ c.self.inside.shares.items = same_from_all_zip _ c.self.inside.shares.items c.in_ok-shares.shares.items c.in_ok-shares.ensures.cases.0 (λ x y h. λ i. (h.0 i, h.1 i)) in
    let items = c.reserve.ensures.items ∙ same in
    let few = length-le-total c.self.inside.shares.items c.self.invariant.some in
    let many : vec_len c.self.inside.shares ≡ length c.self.inside.shares.items = search rules in
    let room : c.self.inside.total ≤ vec_capacity c.reserve.new.self = omega (arith, few, many, c.self.invariant.sum, c.len.ensures, c.in_ok-shares.ensures.cases.1, c.in_ok-reserve.ensures.ok, c.reserve.ensures.len) in
    rw items (record { sum = c.self.invariant.sum; some = c.self.invariant.some; fits = omega (arith, c.self.invariant.sum, room) })

pub returns : goal.returns
returns c =
    let same : c.in_ok-shares.shares.items ≡ c.self.inside.shares.items = same_from_all_zip _ c.self.inside.shares.items c.in_ok-shares.shares.items c.in_ok-shares.ensures.cases.0 (λ x y h. λ i. (h.0 i, h.1 i)) in
    record { cases = c.reserve.ensures.items ∙ same ∙ ap (λ (k : Crowd). k.shares) c.self.view_is }

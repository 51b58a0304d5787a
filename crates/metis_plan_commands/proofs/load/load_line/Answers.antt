use Rattle.std.proofs.Common.{◌≡◌, ap, append_assoc, length, rules, string_bytes, subst}
use Rattle.std.specs.Prelude.{IfOk}
use Rattle.metis_ids.specs.Terms.{Plan}
use Rattle.metis_plan_commands.specs.Terms.{counts_line, load_line}
use Rattle.metis_plan_commands.proofs.load.load_line.Goals as goal

pub returns : goal.returns
returns c =
    let plan = c.args.plan.now in
    let instances = ap (λ (p : Plan). p.instances) c.plan.view_is in
    let actions : c.len-actions.result ≡ length plan.actions = search rules in
    let dups : c.len-dups.result ≡ length plan.dups = search rules in
    let told : IfOk c.format.result (λ line. string_bytes line ≡ counts_line c.args.n c.pairs-pairs.result (length c.args.targets.now) c.plan.inside.instances c.len-actions.result c.len-dups.result) = simp append_assoc at c.format.ensures.ok in
    let same : counts_line c.args.n c.pairs-pairs.result (length c.args.targets.now) c.plan.inside.instances c.len-actions.result c.len-dups.result ≡ load_line c.args.n c.args.u.now c.args.targets.now plan = (λ i. counts_line c.args.n (c.pairs-pairs.ensures.count i) (length c.args.targets.now) (instances i) (actions i) (dups i)) in
    subst (λ l. IfOk c.format.result (λ line. string_bytes line ≡ l)) same told

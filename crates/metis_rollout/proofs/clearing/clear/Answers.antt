use Rattle.std.proofs.Common.{◌++◌, ◌∙◌, ap, append_assoc}
use Rattle.std.proofs.lemmas.Result.{on_ok_weaker}
use Rattle.metis_universe.specs.Terms.{after_all}
use Rattle.metis_rollout.specs.Terms.{all_but, first_unbinds, unreferenced_deletes, untied_of}
use Rattle.metis_rollout.proofs.clearing.clear.Goals as goal

pub returns-clause-actions : goal.returns-clause-actions
returns-clause-actions c =
    let goes = all_but c.args.stays.now.keys in
    on_ok_weaker c.delete_unreferenced.result
    (λ is. is ∙ (λ i. c.in_ok-unbind_first.ensures.actions i ++ unreferenced_deletes goes (c.in_ok-unbind_first.ensures.config i))
    ∙ append_assoc c.args.actions.now.items (first_unbinds c.args.u.now goes c.args.c.now) (unreferenced_deletes goes (untied_of c.args.u.now goes c.args.c.now)))
    c.delete_unreferenced.ensures.actions

pub returns-clause-config : goal.returns-clause-config
returns-clause-config c =
    let u = c.args.u.now in
    let goes = all_but c.args.stays.now.keys in
    on_ok_weaker c.delete_unreferenced.result (λ is. is u ∙ ap (λ d. after_all u d (unreferenced_deletes goes d)) c.in_ok-unbind_first.ensures.config) c.delete_unreferenced.ensures.config

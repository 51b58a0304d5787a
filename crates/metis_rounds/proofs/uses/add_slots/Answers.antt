use Rattle.std.proofs.Common.{◌++◌, ◌∷◌, [], ◌+◌, ℕ, ap, map, sym, ◌∙◌, append_assoc}
use Rattle.std.specs.List.{range_with_len}
use Rattle.metis_rounds.proofs.UseLists.{slots_more}
use Rattle.metis_rounds.proofs.uses.add_slots.Goals as goal

pub loop-slot-preserved : goal.loop-slot-preserved
loop-slot-preserved c =
    let f : ℕ → ℕ × ℕ = λ k. (c.args.provider, k) in
    let n : ℕ = c.loop-slot.slot in
    c.in_ok-push.ensures.items
    ∙ ap (λ us. us ++ f (n + 1) ∷ []) c.loop-slot.invariant
    ∙ append_assoc c.args.uses.now.items (map f (range_with_len 1 n)) (f (n + 1) ∷ [])
    ∙ ap (λ us. c.args.uses.now.items ++ us) (sym (slots_more f n))

-- What is written for a run from the empty configuration, with the lists of what its actions wait for, is read.
use Rattle.std.proofs.Common.{◌≡◌, ◌-◌, ◌<◌, ◌≤◌, ◌^◌, length, Ok, arith}
use Rattle.std.specs.List.{All, count_by}
use Rattle.metis_ids.specs.Terms.{Plan, makes}
use Rattle.metis_universe.specs.Terms.{IsOf, IsRun, IsTable, Universe, empty, pair_count}
use Rattle.metis_text.specs.Terms.{IsPlanInRange, IsWellFormed, plan_bytes, plan_in, said}
use Rattle.metis_text.proofs.Accepted.{well_formed_read}
use Rattle.metis_text.proofs.Formed.{moves_from_fits}
use Rattle.metis_text.proofs.Lengths.{actions_below_bytes, dups_below_bytes}
use Rattle.metis_text.proofs.RunLists.{length-others, others, others_are_earlier, others_ascend}
use Rattle.metis_text.proofs.RunMoves.{run_fits}

module _ (u : Universe) (p : Plan) (table : IsTable u) (run : IsRun u empty p.actions) (of : All (IsOf u) p.actions) (pairs : All (λ d. d.pair < pair_count u) p.dups)
    (cycles : All (λ d. 2 ≤ length d.cycle) p.dups) (in_range : IsPlanInRange p) (counted : p.instances ≡ count_by makes p.actions) where
  pub run_formed : length p.actions < 2 ^ 32 → length p.dups < 2 ^ 32 → IsWellFormed u p (others p.actions)
  run_formed few_actions few_dups = record {
    lists = length-others p.actions;
    ascending = others_ascend p.actions;
    earlier = others_are_earlier p.actions;
    moves = moves_from_fits u p.actions (run_fits u table.universe p.actions run);
    actions = of;
    dups = pairs;
    cycles = cycles;
    in_range = in_range;
    few_actions = few_actions;
    few_dups = few_dups;
    instances = counted;
  }

  pub written_run_read : length (plan_bytes u p (others p.actions)) < 2 ^ 32 - 1 → plan_in u (plan_bytes u p (others p.actions)) ≡ Ok (said p (others p.actions))
  written_run_read short =
      well_formed_read u p (others p.actions) table.universe table.named (run_formed
      (omega (arith, actions_below_bytes u p (others p.actions) (length-others p.actions), short))
      (omega (arith, dups_below_bytes u p (others p.actions), short)))

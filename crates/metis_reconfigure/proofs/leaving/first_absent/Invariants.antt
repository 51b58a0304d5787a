use Rattle.std.proofs.Common.{◌≡◌, drop}
use Rattle.std.specs.List.{filter_map, find}
use Rattle.metis_wishes.specs.Terms.{instance_of, subject_of}
use Rattle.metis_reconfigure.specs.Terms.{absent, is_absent}
use Rattle.metis_reconfigure.proofs.leaving.first_absent.Given as goal

-- none before this one
abbrev pub invariant-loop-wish : goal.invariant-loop-wish
invariant-loop-wish l = absent l.wishes l.c ≡ find (is_absent l.c) (filter_map (λ wish. instance_of (subject_of wish)) (drop l.wish-index l.wishes))

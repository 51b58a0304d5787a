-- What is kept of the first actions while their further waits are sought.
--     HostTally      what was made on a host, and the deletes there, each with the size that it frees
--     HoldingLists      a tally for each host, and the further waits of each action
--     deletes_by actions seats n i      the deletes of the first n actions on host i
--     tally_at tallies i      the tally of host i
--     AreAt h actions entries      the size and the host of each instance that the actions made
--     IsHolding h actions n k      the tallies and the further waits of the first n actions
use Rattle.std.specs.Prelude.{◌≡◌, ◌≤◌, ◌<◌, ◌*◌, ◌^◌, ◌==◌, ℕ, List, [], length, map, option_map}
use Rattle.std.specs.List.{range_with_len, slice_index_or}
use Rattle.std.specs.Map.{lookup}
use Rattle.std.specs.Option.{option_map_or}
use Rattle.metis_ids.specs.declared.actions.Action.{Action}
use Rattle.metis_universe.specs.Terms.{action_at}
use Rattle.metis_place.specs.Placement.{HostLists, Seat, candidates, freed_by, further, made_size, seat_of, seats, seats_by}

pub record HostTally : Type 0 where
  pub made : ℕ
  pub deletes : List (ℕ × ℕ)

pub record HoldingLists : Type 0 where
  pub tallies : List HostTally
  pub holds : List (List ℕ)

abbrev pub frees : List Action → List Seat → ℕ → ℕ
frees actions seats j = option_map_or (freed_by seats) (action_at actions j) 0

abbrev pub deletes_by : List Action → List Seat → ℕ → ℕ → List (ℕ × ℕ)
deletes_by actions seats n i = map (λ j. (j, frees actions seats j)) (candidates actions seats n i)

abbrev pub tally_at : List HostTally → ℕ → HostTally
tally_at tallies i = slice_index_or tallies i (record { made = 0; deletes = [] })

abbrev pub AreAt : HostLists → List Action → List (ℕ × (ℕ × ℕ)) → Type 0
AreAt h actions entries = (z : ℕ) → lookup (λ k. z == k) entries ≡ option_map (λ r. (r.size, r.host)) (seat_of (seats h actions) z)

pub record IsHolding (h : HostLists) (actions : List Action) (n : ℕ) (k : HoldingLists) : Type 0 where
  pub long : length k.tallies ≡ length h.hosts
  pub little : (i : ℕ) → i < length h.hosts → (tally_at k.tallies i).made ≤ n * 2 ^ 32
  pub made : (i : ℕ) → i < length h.hosts → (tally_at k.tallies i).made ≡ made_size (seats_by h actions n) i
  pub deletes : (i : ℕ) → i < length h.hosts → (tally_at k.tallies i).deletes ≡ deletes_by actions (seats h actions) n i
  pub waits : k.holds ≡ map (further h actions) (range_with_len 1 n)

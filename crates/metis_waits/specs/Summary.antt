-- What the actions of a list so far come to.
--     clients_of z bs      how many of the bindings have z as their provider
--     IsTrack u earlier z t      t is what these actions did to instance z
--     IsInstance u earlier z t      the same, with the bindings that z requires and that stand, in order, and what released z since it came into its pair
--     released y earlier m      whether action m ended a binding to y on the requirer's side
--     has_number n m, with_number n ns      whether n, where it is not 0, is m;  ns, which ascend, with n at its place, once, where it is not 0
--     IsSummary u earlier s      what these actions come to: for each instance, and each pair is the universe's
use Rattle.std.specs.Prelude.{ℕ, ◌≡◌, ◌<◌, ◌==◌, Bool, false, ◌&&◌, List, length, Some, nat_lt, if◌then◌else◌}
use Rattle.std.specs.BTreeSet.{insert_key}
use Rattle.std.specs.List.{filter, list_any}
use Rattle.std.specs.List.Sorted.{IsStrictlySortedBy}
use Rattle.std.specs.Option.{option_map_or}
use Rattle.std.specs.Ordering.{nat_cmp}
use Rattle.metis_ids.specs.declared.actions.Action.{Action}
use Rattle.metis_universe.specs.Terms.{Binding, Universe, action_at, before, enters, is_new, is_release_of, is_tie, last_number, numbers, pair_after, pair_count, releases, standing}
use Rattle.metis_waits.specs.Instances.{InstanceState, is_own, state_at, tie_cmp}
use Rattle.metis_waits.specs.Waits.{is_by}
use Rattle.metis_waits.specs.declared.instances.Track.{Track}
use Rattle.metis_waits.specs.declared.summary.Summary.{Summary}

abbrev pub clients_of : ℕ → List Binding → ℕ
clients_of z bs = length (filter (λ b. b.2 == z) bs)

pub record IsTrack (u : Universe) (earlier : List Action) (z : ℕ) (t : Track) : Type 0 where
  pub last : t.last ≡ last_number (is_by z) earlier
  pub entered : t.entered ≡ last_number (enters z) earlier
  pub made : t.made ≡ list_any (is_new z) earlier
  pub pair : t.pair ≡ pair_after u earlier z
  pub clients : t.clients ≡ clients_of z (standing earlier)

pub record IsInstance (u : Universe) (earlier : List Action) (z : ℕ) (t : InstanceState) : Type 0 where
  pub track : IsTrack u earlier z t.track
  pub own : (r y : ℕ) → list_any (is_own r y) t.own ≡ list_any (is_tie r z y) (standing earlier)
  pub ordered : IsStrictlySortedBy tie_cmp t.own
  pub releases : t.releases ≡ filter (is_release_of z earlier) (numbers earlier)

abbrev pub released : ℕ → List Action → ℕ → Bool
released y earlier m = option_map_or (releases y (standing (before m earlier))) (action_at earlier m) false

abbrev pub has_number : ℕ → ℕ → Bool
has_number n m = nat_lt 0 m && (m == n)

abbrev pub with_number : ℕ → List ℕ → List ℕ
with_number n ns = if n == 0 then ns else insert_key nat_cmp ns n

pub record IsSummary (u : Universe) (earlier : List Action) (s : Summary) : Type 0 where
  pub each : (z : ℕ) → IsInstance u earlier z (state_at s.instances.entries z)
  pub within : (z p : ℕ) → (state_at s.instances.entries z).track.pair ≡ Some p → p < pair_count u

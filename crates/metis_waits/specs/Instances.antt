-- What is known of an instance, and what an action does to it.
--     InstanceState      its track, its bindings as ports and providers, and the actions that released it since it came into its pair
--     idle, state_at entries z      an instance that did nothing;  what the entries have for z
--     tie_cmp      ports and providers, by port and then by provider
--     is_own r y k      whether k is this port with this provider
--     is_last n ns, noted n ns      whether n is the last number;  ns with n at its end, once
--     changed n c t, takes_effect c t      the instance after change c by action n;  whether the bindings are others then
--     without_own t      the instance without its bindings
--     let_go n ks y t      instance y after action n ended the bindings ks
--     IsPossible c t      there is a binding to take away, or room to count one more
use Rattle.std.specs.Prelude.{ℕ, ◌<◌, ◌+◌, ◌-◌, ◌^◌, ◌==◌, ◌&&◌, Bool, true, false, not, List, [], ◌∷◌, ◌++◌, length, slice_get, None, Some, ⊤, if◌then◌else◌}
use Rattle.std.specs.BTreeMap.{is_at}
use Rattle.std.specs.BTreeSet.{insert_key}
use Rattle.std.specs.Set.{remove_key}
use Rattle.std.specs.List.{filter, list_any}
use Rattle.std.specs.Map.{lookup}
use Rattle.std.specs.Option.{option_map_or, unwrap_or}
use Rattle.std.specs.Ordering.{nat_cmp, ordering_then}
use Rattle.std.specs.declared.cmp.Ordering.{Ordering}
use Rattle.metis_waits.specs.declared.instances.Change.{Change}
use Rattle.metis_waits.specs.declared.instances.Change.TheVariants.{Made, Moved, Deleted, Bound, Unbound, Gained, Released}
use Rattle.metis_waits.specs.declared.instances.Track.{Track}

pub record InstanceState : Type 0 where
  pub track : Track
  pub own : List (ℕ × ℕ)
  pub releases : List ℕ

abbrev pub idle : InstanceState
idle = record { track = record { last = 0; entered = 0; made = false; pair = None; clients = 0 }; own = []; releases = [] }

abbrev pub state_at : List (ℕ × InstanceState) → ℕ → InstanceState
state_at entries z = unwrap_or (lookup (λ k. z == k) entries) idle

abbrev pub tie_cmp : ℕ × ℕ → ℕ × ℕ → Ordering
tie_cmp a b = ordering_then (nat_cmp a.0 b.0) (nat_cmp a.1 b.1)

abbrev pub is_own : ℕ → ℕ → ℕ × ℕ → Bool
is_own r y k = (k.0 == r) && (k.1 == y)

abbrev pub is_last : ℕ → List ℕ → Bool
is_last n ns = option_map_or (λ m. m == n) (slice_get ns (length ns - 1)) false

abbrev pub noted : ℕ → List ℕ → List ℕ
noted n ns = if is_last n ns then ns else ns ++ n ∷ []

-- the same track with another last action
abbrev pub with_last : ℕ → Track → Track
with_last n t = record { last = n; entered = t.entered; made = t.made; pair = t.pair; clients = t.clients }

abbrev pub entering : ℕ → Bool → ℕ → InstanceState → InstanceState
entering n made p t = record { track = record { last = n; entered = n; made = made; pair = Some p; clients = t.track.clients }; own = t.own; releases = [] }

abbrev pub with_clients : ℕ → Track → Track
with_clients n t = record { last = t.last; entered = t.entered; made = t.made; pair = t.pair; clients = n }

abbrev pub changed : ℕ → Change → InstanceState → InstanceState
changed n (Made p) t = entering n true p t
changed n (Moved p) t = entering n t.track.made p t
changed n Deleted t = record { track = record { last = n; entered = t.track.entered; made = t.track.made; pair = None; clients = t.track.clients }; own = t.own; releases = t.releases }
changed n (Bound r y) t = record { track = with_last n t.track; own = insert_key tie_cmp t.own (r, y); releases = t.releases }
changed n (Unbound r y) t = record { track = with_last n t.track; own = remove_key (is_at (tie_cmp (r, y))) t.own; releases = t.releases }
changed n Gained t = record { track = with_clients (t.track.clients + 1) t.track; own = t.own; releases = t.releases }
changed n Released t = record { track = with_clients (t.track.clients - 1) t.track; own = t.own; releases = noted n t.releases }

abbrev pub takes_effect : Change → InstanceState → Bool
takes_effect (Made p) t = true
takes_effect (Moved p) t = true
takes_effect Deleted t = true
takes_effect (Bound r y) t = not (list_any (is_at (tie_cmp (r, y))) t.own)
takes_effect (Unbound r y) t = list_any (is_at (tie_cmp (r, y))) t.own
takes_effect Gained t = true
takes_effect Released t = true

abbrev pub without_own : InstanceState → InstanceState
without_own t = record { track = t.track; own = []; releases = t.releases }

abbrev pub let_go : ℕ → List (ℕ × ℕ) → ℕ → InstanceState → InstanceState
let_go n ks y t =
    record {
      track = with_clients (t.track.clients - length (filter (λ k. k.1 == y) ks)) t.track;
      own = t.own;
      releases = if list_any (λ k. k.1 == y) ks then t.releases ++ n ∷ [] else t.releases;
    }

abbrev pub IsPossible : Change → InstanceState → Type 0
IsPossible (Made p) t = ⊤
IsPossible (Moved p) t = ⊤
IsPossible Deleted t = ⊤
IsPossible (Bound r y) t = ⊤
IsPossible (Unbound r y) t = ⊤
IsPossible Gained t = t.track.clients < 2 ^ 32 - 1
IsPossible Released t = 0 < t.track.clients

-- On which host each instance is put, and which further waits keep each host's room.
--     HostLists, name_of h i, room_of h i, size_of h t      the hosts' names and rooms, and the size of each type
--     is_here actions z      whether the actions made the instance and did not delete it
--     Seat, seats_by h actions n      an instance with its size and host;  those that the first n actions make
--     total test seats      the sizes of the seats that pass
--     load seats actions i      the sizes of the instances on host i that are made and not deleted
--     seat_at h actions k      the seat that action k takes, if it is New and some host has room for it
--     is_placed h actions      whether each New finds a host
--     made_size, candidates, freed, further      of a New on a host: what was made on it, which earlier actions delete there, what they free, and the further waits
--     PlacingLists, hold_of holds k, IsPlacing h actions p      the hosts and the further waits of a placement;  those of action k;  that all are the ones that the definitions say, and each New has a host
--     free_rooms h actions n, IsNoRoom h actions k size free, IfNoRoom result P      the free rooms of the hosts;  the first New that finds no host, with its size and the greatest free room;  of such a fault
--     IsHeld more ks      each number stands after its further waits
use Rattle.std.specs.Prelude.{◌-◌, Some, ℕ, zero, suc, ◌+◌, ◌==◌, ◌&&◌, ◌||◌, not, nat_le, Bool, true, false, List, [], ◌∷◌, ◌++◌, take, length, IsTrue, Option, None, option_and_then, option_map, slice_get, ⊤, Err, IsFalse, Ok, Result, map, ◌<◌, ◌≡◌}
use Rattle.std.specs.List.{filter, find, list_all, range_with_len, slice_index_or, sum_by}
use Rattle.std.specs.Option.{is_some, option_map_or, option_to_list}
use Rattle.metis_ids.specs.declared.actions.Action.{Action}
use Rattle.metis_ids.specs.declared.actions.Action.TheVariants.{New, Delete, Bind, Unbind, Move}
use Rattle.metis_universe.specs.Terms.{action_at, has, numbers}
use Rattle.metis_place.specs.declared.fault.PFault.{PFault}
use Rattle.metis_place.specs.declared.fault.PFault.TheVariants as fault
use Rattle.metis_ids.specs.Terms.{greatest}

-- the name and the room of each host, and the size of each type
pub record HostLists : Type 0 where
  pub hosts : List (List ℕ × ℕ)
  pub sizes : List ℕ

abbrev pub name_of : HostLists → ℕ → List ℕ
name_of h i = option_map_or (λ e. e.0) (slice_get h.hosts i) []

abbrev pub room_of : HostLists → ℕ → ℕ
room_of h i = option_map_or (λ e. e.1) (slice_get h.hosts i) 0

abbrev pub size_of : HostLists → ℕ → ℕ
size_of h t = slice_index_or h.sizes t 1

abbrev pub is_here_after : ℕ → Bool → Action → Bool
is_here_after z b (New x t) = (z == x) || b
is_here_after z b (Delete x) = not (z == x) && b
is_here_after z b (Bind r x y) = b
is_here_after z b (Unbind r x y) = b
is_here_after z b (Move x p q) = b

abbrev pub is_here_from : ℕ → Bool → List Action → Bool
is_here_from z b [] = b
is_here_from z b (a ∷ rest) = is_here_from z (is_here_after z b a) rest

abbrev pub is_here : List Action → ℕ → Bool
is_here actions z = is_here_from z false actions

-- an instance, with the size of its type and its host
pub record Seat : Type 0 where
  pub inst : ℕ
  pub size : ℕ
  pub host : ℕ

abbrev pub seat : ℕ → ℕ → ℕ → Seat
seat z size i = record { inst = z; size = size; host = i }

abbrev pub total : (Seat → Bool) → List Seat → ℕ
total test seats = sum_by (λ s. s.size) (filter test seats)

abbrev pub load : List Seat → List Action → ℕ → ℕ
load seats actions i = total (λ s. (s.host == i) && is_here actions s.inst) seats

-- the host's free room is at least the size
abbrev pub has_room : HostLists → List Seat → List Action → ℕ → ℕ → Bool
has_room h seats earlier size i = nat_le (load seats earlier i + size) (room_of h i)

-- the first host with so much free room
abbrev pub host_for : HostLists → List Seat → List Action → ℕ → Option ℕ
host_for h seats earlier size = find (has_room h seats earlier size) (range_with_len 0 (length h.hosts))

abbrev pub seat_for : HostLists → List Seat → List Action → Action → Option Seat
seat_for h seats earlier (New z t) = option_map (seat z (size_of h t)) (host_for h seats earlier (size_of h t))
seat_for h seats earlier (Delete z) = None
seat_for h seats earlier (Bind r z y) = None
seat_for h seats earlier (Unbind r z y) = None
seat_for h seats earlier (Move z p q) = None

-- the seats of the first n actions
abbrev pub seats_by : HostLists → List Action → ℕ → List Seat
seats_by h actions zero = []
seats_by h actions (suc n) = seats_by h actions n ++ option_to_list (option_and_then (seat_for h (seats_by h actions n) (take n actions)) (slice_get actions n))

abbrev pub seat_at : HostLists → List Action → ℕ → Option Seat
seat_at h actions zero = None
seat_at h actions (suc n) = option_and_then (seat_for h (seats_by h actions n) (take n actions)) (slice_get actions n)

abbrev pub seats : HostLists → List Action → List Seat
seats h actions = seats_by h actions (length actions)

abbrev pub is_new : Action → Bool
is_new (New z t) = true
is_new (Delete z) = false
is_new (Bind r z y) = false
is_new (Unbind r z y) = false
is_new (Move z p q) = false

-- whether action k takes a seat, if it is New
abbrev pub is_placed_at : HostLists → List Action → ℕ → Bool
is_placed_at h actions k = not (option_map_or is_new (action_at actions k) false) || is_some (seat_at h actions k)

abbrev pub is_placed : HostLists → List Action → Bool
is_placed h actions = list_all (is_placed_at h actions) (numbers actions)

-- what all instances that were made on the host take
abbrev pub made_size : List Seat → ℕ → ℕ
made_size seats i = total (λ s. s.host == i) seats

abbrev pub seat_of : List Seat → ℕ → Option Seat
seat_of seats z = find (λ s. s.inst == z) seats

-- whether the action deletes an instance on the host
abbrev pub deletes_on : List Seat → ℕ → Action → Bool
deletes_on seats i (New z t) = false
deletes_on seats i (Delete z) = option_map_or (λ s. s.host == i) (seat_of seats z) false
deletes_on seats i (Bind r z y) = false
deletes_on seats i (Unbind r z y) = false
deletes_on seats i (Move z p q) = false

-- the size of the instance that the action deletes
abbrev pub freed_by : List Seat → Action → ℕ
freed_by seats (New z t) = 0
freed_by seats (Delete z) = option_map_or (λ s. s.size) (seat_of seats z) 0
freed_by seats (Bind r z y) = 0
freed_by seats (Unbind r z y) = 0
freed_by seats (Move z p q) = 0

abbrev pub freed : List Action → List Seat → List ℕ → ℕ
freed actions seats js = sum_by (λ j. option_map_or (freed_by seats) (action_at actions j) 0) js

-- of the first n actions, those that delete an instance on the host
abbrev pub candidates : List Action → List Seat → ℕ → ℕ → List ℕ
candidates actions seats n i = filter (λ j. option_map_or (deletes_on seats i) (action_at actions j) false) (range_with_len 1 n)

-- whether what was made on the host fits its room, once these have deleted
abbrev pub is_enough : HostLists → List Action → List Seat → ℕ → List ℕ → Bool
is_enough h actions seats i js = nat_le (made_size seats i) (room_of h i + freed actions seats js)

-- the shortest beginning that passes
abbrev pub shortest : (List ℕ → Bool) → List ℕ → List ℕ
shortest test xs = option_map_or (λ n. take n xs) (find (λ n. test (take n xs)) (range_with_len 0 (length xs + 1))) []

-- the further waits of action k
abbrev pub further : HostLists → List Action → ℕ → List ℕ
further h actions zero = []
further h actions (suc n) = option_map_or (λ s. shortest (is_enough h actions (seats_by h actions (suc n)) s.host) (candidates actions (seats_by h actions (suc n)) n s.host)) (seat_at h actions (suc n)) []

-- the places of the hosts of each New, and the further waits of each action
pub record PlacingLists : Type 0 where
  pub hosts : List ℕ
  pub holds : List (List ℕ)

abbrev pub hold_of : List (List ℕ) → ℕ → List ℕ
hold_of holds k = slice_index_or holds (k - 1) []

pub record IsPlacing (h : HostLists) (actions : List Action) (p : PlacingLists) : Type 0 where
  pub hosts : p.hosts ≡ map (λ s. s.host) (seats h actions)
  pub holds : p.holds ≡ map (further h actions) (numbers actions)
  pub placed : IsTrue (is_placed h actions)

-- each number comes after its further waits
abbrev pub IsHeldFrom : (ℕ → List ℕ) → List ℕ → List ℕ → Type 0
IsHeldFrom more done [] = ⊤
IsHeldFrom more done (k ∷ ks) = IsTrue (list_all (has done) (more k)) × IsHeldFrom more (k ∷ done) ks

abbrev pub IsHeld : (ℕ → List ℕ) → List ℕ → Type 0
IsHeld more ks = IsHeldFrom more [] ks

-- the free rooms of all hosts, after the first n actions
abbrev pub free_rooms : HostLists → List Action → ℕ → List ℕ
free_rooms h actions n = map (λ i. room_of h i - load (seats_by h actions n) (take n actions) i) (range_with_len 0 (length h.hosts))

-- action k is the first New for which no host has room; it wants the size, and no host has more free room than this
pub record IsNoRoom (h : HostLists) (actions : List Action) (k size free : ℕ) : Type 0 where
  pub inst : ℕ
  pub kind : ℕ
  pub at : action_at actions k ≡ Some (New inst kind)
  pub wants : size ≡ size_of h kind
  pub none : IsFalse (is_placed_at h actions k)
  pub before : (j : ℕ) → j < k → IsTrue (is_placed_at h actions j)
  pub most : free ≡ greatest (free_rooms h actions (k - 1))

abbrev pub IfNoRoom : {A : Type 0} → Result A PFault → (ℕ → ℕ → ℕ → Type 0) → Type 0
IfNoRoom (Ok x) P = ⊤
IfNoRoom (Err (fault.NoRoom k size free)) P = P k size free
IfNoRoom (Err fault.NoMemory) P = ⊤

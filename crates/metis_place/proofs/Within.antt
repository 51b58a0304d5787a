-- Each seat is on one of the hosts.
use Rattle.std.proofs.Common.{◌≡◌, ℕ, zero, suc, ◌<◌, List, [], length, map, take, refl, sym, ap, subst, arith}
use Rattle.std.specs.Prelude.{Option, None, Some, option_and_then, option_map, slice_get}
use Rattle.std.specs.List.{All}
use Rattle.std.specs.Option.{option_to_list}
use Rattle.std.proofs.lemmas.List.{map-append}
use Rattle.std.proofs.lemmas.List.Elements.{All-append, All-cons, All-nil}
use Rattle.metis_ids.specs.declared.actions.Action.{Action}
use Rattle.metis_ids.specs.declared.actions.Action.TheVariants.{New, Delete, Bind, Unbind, Move}
use Rattle.metis_ids.proofs.Finding.{found_within}
use Rattle.metis_place.specs.Terms.{HostLists, Seat, has_room, host_for, seat, seat_at, seat_for, seats_by, size_of}

mapped_is : {A B : Type 0} (f : A → B) (o : Option A) (y : B) → option_map f o ≡ Some y → (x : A) × (o ≡ Some x) × (f x ≡ y)
mapped_is f None y h = cc
mapped_is f (Some x) y h = (x, refl, cc)

module _ (h : HostLists) where
  seat_within : (seats : List Seat) (earlier : List Action) (a : Action) (s : Seat) → seat_for h seats earlier a ≡ Some s → s.host < length h.hosts
  seat_within seats earlier (New z t) s is =
      let size = size_of h t in
      let found = mapped_is (seat z size) (host_for h seats earlier size) s is in
      let low = found_within (has_room h seats earlier size) 0 (length h.hosts) found.0 found.1 in
      let same : found.0 ≡ s.host = ap (λ r. r.host) found.2 in
      omega (arith, low, same)
  seat_within seats earlier (Delete z) s is = cc
  seat_within seats earlier (Bind r z y) s is = cc
  seat_within seats earlier (Unbind r z y) s is = cc
  seat_within seats earlier (Move z p q) s is = cc

  at_within : (seats : List Seat) (earlier : List Action) (o : Option Action) (s : Seat) → option_and_then (seat_for h seats earlier) o ≡ Some s → s.host < length h.hosts
  at_within seats earlier None s is = cc
  at_within seats earlier (Some a) s is = seat_within seats earlier a s is

  one_within : (o : Option Seat) → ((s : Seat) → o ≡ Some s → s.host < length h.hosts) → All (λ i. i < length h.hosts) (map (λ s. s.host) (option_to_list o))
  one_within None each = All-nil _
  one_within (Some s) each = All-cons (λ i. i < length h.hosts) s.host [] (each s refl) (All-nil _)

  pub hosts_within : (A : List Action) (n : ℕ) → All (λ i. i < length h.hosts) (map (λ s. s.host) (seats_by h A n))
  hosts_within A zero = All-nil _
  hosts_within A (suc n) =
      let earlier = seats_by h A n in
      subst (All (λ i. i < length h.hosts)) (sym (map-append (λ (s : Seat). s.host) earlier (option_to_list (seat_at h A (suc n)))))
      (All-append (λ i. i < length h.hosts) (map (λ s. s.host) earlier) (map (λ s. s.host) (option_to_list (seat_at h A (suc n)))) (hosts_within A n)
      (one_within (seat_at h A (suc n)) (at_within earlier (take n A) (slice_get A n))))

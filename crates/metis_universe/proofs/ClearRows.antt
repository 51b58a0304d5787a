-- What rows without a fault have.
use Rattle.std.proofs.Common.{◌≡◌, ℕ, suc, zero, ◌+◌, ◌<◌, ◌≤◌, Bool, true, false, cond, IsTrue, List, [], ◌∷◌, length, take, get_or, position, nat_le, nat_lt, Option, Some, None, option_map, refl, ap, sym, ◌∙◌, zero-add, arith}
use Rattle.std.specs.List.{All, AllByRecursion}
use Rattle.std.specs.Str.{bytes_eq}
use Rattle.std.proofs.lemmas.Bool.{and_parts, ltb-false}
use Rattle.std.proofs.lemmas.Bool.Decides.{nat_tests}
use Rattle.std.proofs.lemmas.List.Elements.{All-from_recursion}
use Rattle.std.proofs.lemmas.Option.{none-some}
use Rattle.metis_ids.proofs.Lists.{each_weaker}
use Rattle.metis_universe.specs.declared.faults.RowFault.{RowFault}
use Rattle.metis_universe.specs.declared.faults.RowFault.TheVariants.{TypeName, TypeTwice, StateName, StateTwice, NoInitial, UnknownNext, PortName, Demand, Limit}
use Rattle.metis_universe.specs.declared.faults.LimitKind.{LimitKind}
use Rattle.metis_universe.specs.declared.faults.LimitKind.TheVariants.{States, Requires, Pairs, Ports}
use Rattle.metis_universe.specs.Terms.{NeedRow, StateRow, TypeRow, earlier_type, first_fault, first_from, has_state, head_fault, is_between, is_name, limit_fault, names_needed, next_fault, port_fault, ports_of, require_total, state_fault, state_total, state_twice, type_fault, unless}
use Rattle.metis_universe.proofs.FirstFault.{option_or-none, option_map-none}

-- a state's names are names, none before it in its type has its name, and its next states are there
pub record IsClearState (row : TypeRow) (s : ℕ) (state : StateRow) : Type 0 where
  pub name : IsTrue (is_name state.name)
  pub apart : position (λ earlier. bytes_eq state.name earlier.name) (take s row.states) ≡ None
  pub provide : AllByRecursion (λ name. IsTrue (is_name name)) state.provide
  pub require : AllByRecursion (λ name. IsTrue (is_name name)) (names_needed state.require)
  pub demands : AllByRecursion (λ n. IsTrue (is_between 1 16 n.count)) state.require
  pub next : AllByRecursion (λ name. IsTrue (has_state row name)) state.next

pub record IsClearType (rows : List TypeRow) (t : ℕ) (row : TypeRow) : Type 0 where
  pub name : IsTrue (is_name row.name)
  pub apart : earlier_type rows t row.name ≡ None
  pub few : length row.states ≤ 64
  pub states : (s : ℕ) (d : StateRow) → s < length row.states → IsClearState row s (get_or row.states s d)
  pub required : require_total row ≤ 128
  pub initial : IsTrue (has_state row row.initial)

pub record IsClear (rows : List TypeRow) : Type 0 where
  pub types : (t : ℕ) (d : TypeRow) → t < length rows → IsClearType rows t (get_or rows t d)
  pub pairs : state_total rows ≤ 2000
  pub ports : length (ports_of rows) ≤ 4000

first_from-none : {A : Type 0} (place : ℕ) (test : ℕ → A → Option RowFault) (xs : List A) → first_from place test xs ≡ None → (i : ℕ) (d : A) → i < length xs → test (place + i) (get_or xs i d) ≡ None
first_from-none place test [] h i d l = absurd (omega arith)
first_from-none place test (x ∷ xs) h zero d l = let e : place + 0 ≡ place = omega arith in ap (λ n. test n x) e ∙ (option_or-none (test place x) _ h).0
first_from-none place test (x ∷ xs) h (suc i) d l =
    let e : place + suc i ≡ place + 1 + i = omega arith in
    ap (λ n. test n (get_or xs i d)) e ∙ first_from-none (place + 1) test xs (option_or-none (test place x) _ h).1 i d (omega arith)

first_from_none_at : {A : Type 0} (test : ℕ → A → Option RowFault) (xs : List A) → first_from 0 test xs ≡ None → (i : ℕ) (d : A) → i < length xs → test i (get_or xs i d) ≡ None
first_from_none_at test xs h i d l = ap (λ n. test n (get_or xs i d)) (sym (zero-add i)) ∙ first_from-none 0 test xs h i d l

unless-none : (passes : Bool) (fault : RowFault) → unless passes fault ≡ None → IsTrue passes
unless-none true fault h = refl
unless-none false fault h = absurd (none-some fault (sym h))

limit_fault-none : (kind : LimitKind) (most count : ℕ) → limit_fault kind most count ≡ None → count ≤ most
limit_fault-none kind most count h =
    elim (nat_lt most count) as (λ b. nat_lt most count ≡ b → cond b (Some (Limit kind count)) None ≡ None → count ≤ most) [
      | true ↦ λ _ e. absurd (none-some (Limit kind count) (sym e))
      | false ↦ λ e _. ltb-false most count e
    ] refl h

each_passes : {A : Type 0} (p : A → Bool) (fault : ℕ → RowFault) (place : ℕ) (xs : List A) → first_from place (λ k x. unless (p x) (fault k)) xs ≡ None → AllByRecursion (λ x. IsTrue (p x)) xs
each_passes p fault place [] h = tt
each_passes p fault place (x ∷ xs) h =
    let parts = option_or-none (unless (p x) (fault place)) _ h in
    (unless-none (p x) (fault place) parts.0, each_passes p fault (place + 1) xs parts.1)

clear_demands : (row : TypeRow) (t s : ℕ) (state : StateRow) → state_fault row t s state ≡ None → AllByRecursion (λ n. IsTrue (is_between 1 16 n.count)) state.require
clear_demands row t s state f =
    let a = option_or-none (unless (is_name state.name) (StateName t s)) _ f in
    let b = option_or-none (state_twice row t s state) _ a.1 in
    let c = option_or-none (first_from 0 (port_fault t s) state.provide) _ b.1 in
    let d = option_or-none (first_from (length state.provide) (port_fault t s) (names_needed state.require)) _ c.1 in
    each_passes (λ (n : NeedRow). is_between 1 16 n.count) (λ k. Demand t s k) 0 state.require d.1

clear_state : (row : TypeRow) (t s : ℕ) (state : StateRow) → state_fault row t s state ≡ None → next_fault row t s state ≡ None → IsClearState row s state
clear_state row t s state f n =
    let a = option_or-none (unless (is_name state.name) (StateName t s)) _ f in
    let b = option_or-none (state_twice row t s state) _ a.1 in
    let c = option_or-none (first_from 0 (port_fault t s) state.provide) _ b.1 in
    let d = option_or-none (first_from (length state.provide) (port_fault t s) (names_needed state.require)) _ c.1 in
    record {
      name = unless-none (is_name state.name) (StateName t s) a.0;
      apart = option_map-none (λ first. StateTwice t s first) _ b.0;
      provide = each_passes is_name (λ k. PortName t s k) 0 state.provide c.0;
      require = each_passes is_name (λ k. PortName t s k) (length state.provide) (names_needed state.require) d.0;
      demands = clear_demands row t s state f;
      next = each_passes (has_state row) (λ k. UnknownNext t s k) 0 state.next n;
    }

clear_type : (rows : List TypeRow) (t : ℕ) (row : TypeRow) → type_fault rows t row ≡ None → IsClearType rows t row
clear_type rows t row f =
    let a = option_or-none (head_fault (earlier_type rows t row.name) t row) _ f in
    let b = option_or-none (unless (is_name row.name) (TypeName t)) _ a.0 in
    let c = option_or-none (option_map (λ first. TypeTwice t first) (earlier_type rows t row.name)) _ b.1 in
    let d = option_or-none (first_from 0 (state_fault row t) row.states) _ a.1 in
    let e = option_or-none (limit_fault Requires 128 (require_total row)) _ d.1 in
    let g = option_or-none (unless (has_state row row.initial) (NoInitial t)) _ e.1 in
    record {
      name = unless-none (is_name row.name) (TypeName t) b.0;
      apart = option_map-none (λ first. TypeTwice t first) _ c.0;
      few = limit_fault-none States 64 (length row.states) c.1;
      states = λ s z l. clear_state row t s (get_or row.states s z) (first_from_none_at (state_fault row t) row.states d.0 s z l) (first_from_none_at (next_fault row t) row.states g.1 s z l);
      required = limit_fault-none Requires 128 (require_total row) e.0;
      initial = unless-none (has_state row row.initial) (NoInitial t) g.0;
    }

pub IsClear-from_first_fault : (rows : List TypeRow) → first_fault rows ≡ None → IsClear rows
IsClear-from_first_fault rows f =
    let a = option_or-none (first_from 0 (type_fault rows) rows) _ f in
    let b = option_or-none (limit_fault Pairs 2000 (state_total rows)) _ a.1 in
    record {
      types = λ t d l. clear_type rows t (get_or rows t d) (first_from_none_at (type_fault rows) rows a.0 t d l);
      pairs = limit_fault-none Pairs 2000 (state_total rows) b.0;
      ports = limit_fault-none Ports 4000 (length (ports_of rows)) b.1;
    }

-- ---- counts

pub low_counts : (needs : List NeedRow) → AllByRecursion (λ n. IsTrue (is_between 1 16 n.count)) needs → All (λ n. n.count ≤ 16) needs
low_counts needs all = All-from_recursion (λ (n : NeedRow). n.count ≤ 16) needs (each_weaker (λ (n : NeedRow). IsTrue (is_between 1 16 n.count)) (λ n. n.count ≤ 16) needs (λ n h. within n.count h) all) where
  within : (c : ℕ) → IsTrue (is_between 1 16 c) → c ≤ 16
  within c h = let parts = and_parts (nat_le 1 c) (nat_le c 16) h in grind (arith, nat_tests)

pub some_counts : (needs : List NeedRow) → AllByRecursion (λ n. IsTrue (is_between 1 16 n.count)) needs → AllByRecursion (λ n. 1 ≤ n.count) needs
some_counts needs all = each_weaker (λ (n : NeedRow). IsTrue (is_between 1 16 n.count)) (λ n. 1 ≤ n.count) needs (λ n h. within n.count h) all where
  within : (c : ℕ) → IsTrue (is_between 1 16 c) → 1 ≤ c
  within c h = let parts = and_parts (nat_le 1 c) (nat_le c 16) h in grind (arith, nat_tests)

-- where no state of the type has a fault, no count is above 16
pub counts_low : (t : ℕ) (row : TypeRow) → first_from 0 (state_fault row t) row.states ≡ None → All (λ state. All (λ n. n.count ≤ 16) state.require) row.states
counts_low t row none = λ s d l. low_counts (get_or row.states s d).require (clear_demands row t s (get_or row.states s d) (first_from_none_at (state_fault row t) row.states none s d l))

-- and where the type itself has none, its states are 64 at most
pub states_few : (earlier : Option ℕ) (t : ℕ) (row : TypeRow) → head_fault earlier t row ≡ None → length row.states ≤ 64
states_few earlier t row none =
    let b = option_or-none (unless (is_name row.name) (TypeName t)) _ none in
    let c = option_or-none (option_map (λ first. TypeTwice t first) earlier) _ b.1 in
    limit_fault-none States 64 (length row.states) c.1

-- The numbers of an action that was read are the universe's.
use Rattle.std.proofs.Common.{◌≡◌, ℕ, ◌<◌, ◌&&◌, Bool, true, false, cond, List, [], ◌∷◌, codes, Option, Some, None, Result, Ok, Err, refl, subst}
use Rattle.std.specs.Prelude.{IfOk}
use Rattle.std.specs.Str.{bytes_eq}
use Rattle.metis_ids.specs.declared.actions.Action.TheVariants.{New, Delete, Bind, Unbind, Move}
use Rattle.metis_universe.proofs.Named.{position_within}
use Rattle.metis_universe.proofs.TypePlaces.{state_named-within}
use Rattle.metis_universe.specs.Terms.{Config, IsOf, Universe, is_name, pair_of, port_count, port_named, state_named, type_named, type_of}
use Rattle.metis_sim.specs.Terms.{action_in, between, bind_args, delete_args, delete_in, ends_in, formed, known, move_args, move_in, move_states, named, new_args, new_in, number_of, on, present, tie_args, tie_ends, unbind_args}
use Rattle.metis_sim.specs.declared.misread.Misread.{Misread}
use Rattle.metis_sim.specs.declared.misread.Misread.TheVariants.{Form}

if_on : {A B : Type 0} (P : B → Type 0) (x : Result A Misread) (next : A → Result B Misread) → ((a : A) → x ≡ Ok a → IfOk (next a) P) → IfOk (on x next) P
if_on P (Err wrong) next h = tt
if_on P (Ok a) next h = h a refl

if_either : {B : Type 0} (P : B → Type 0) (b : Bool) (x y : Result B Misread) → IfOk x P → IfOk y P → IfOk (cond b x y) P
if_either P true x y p q = p
if_either P false x y p q = q

known_is : {A : Type 0} (o : Option A) (a : A) → known o ≡ Ok a → o ≡ Some a
known_is None a e = cc
known_is (Some b) a e = cc

named_is : {A : Type 0} (find : List ℕ → Option A) (t : List ℕ) (a : A) → named find t ≡ Ok a → find t ≡ Some a
named_is {A} find t a = by (is_name t) where
  by : (b : Bool) → cond b (known (find t)) (Err Form) ≡ Ok a → find t ≡ Some a
  by true e = known_is (find t) a e
  by false e = cc

module _ (u : Universe) where
  new_low : (z kind : List ℕ) → IfOk (new_in u z kind) (IsOf u)
  new_low z kind =
      if_on (IsOf u) (formed (number_of z)) (λ n. on (named (type_named u) kind) (λ t. Ok (New n t))) (λ n _.
      if_on (IsOf u) (named (type_named u) kind) (λ t. Ok (New n t)) (λ t is.
      position_within (λ k. bytes_eq kind k.name) u.kinds t (named_is (type_named u) kind t is)))

  delete_low : (z : List ℕ) → IfOk (delete_in z) (IsOf u)
  delete_low z = if_on (IsOf u) (formed (number_of z)) (λ n. Ok (Delete n)) (λ n _. tt)

  abbrev HasPort : ℕ × ℕ × ℕ → Type 0
  HasPort e = e.0 < port_count u

  ends_low : (r z y : List ℕ) → IfOk (ends_in u r z y) HasPort
  unfolding ends_in
  ends_low r z y =
      if_on HasPort (formed (number_of z)) (λ n. on (formed (number_of y)) (λ m. on (named (port_named u) r) (λ port. Ok (port, n, m)))) (λ n _.
      if_on HasPort (formed (number_of y)) (λ m. on (named (port_named u) r) (λ port. Ok (port, n, m))) (λ m _.
      if_on HasPort (named (port_named u) r) (λ port. Ok (port, n, m)) (λ port is.
      position_within (λ each. bytes_eq r each) u.ports port (named_is (port_named u) r port is))))

  between_low : (c : Config) (z : ℕ) (from to : List ℕ) → IfOk (between u c z from to) (IsOf u)
  between_low c z from to =
      if_on (IsOf u) (present z (pair_of c z)) (λ p. on (known (state_named u (type_of u p) from)) (λ a. on (known (state_named u (type_of u p) to)) (λ b. Ok (Move z a b)))) (λ p _.
      if_on (IsOf u) (known (state_named u (type_of u p) from)) (λ a. on (known (state_named u (type_of u p) to)) (λ b. Ok (Move z a b))) (λ a first.
      if_on (IsOf u) (known (state_named u (type_of u p) to)) (λ b. Ok (Move z a b)) (λ b second.
      (state_named-within u (type_of u p) from a (known_is (state_named u (type_of u p) from) a first), state_named-within u (type_of u p) to b (known_is (state_named u (type_of u p) to) b second)))))

  move_low : (c : Config) (z from to : List ℕ) → IfOk (move_in u c z from to) (IsOf u)
  move_low c z from to =
      if_on (IsOf u) (formed (number_of z)) (λ n. cond (is_name from && is_name to) (between u c n from to) (Err Form)) (λ n _.
      if_either (IsOf u) (is_name from && is_name to) (between u c n from to) (Err Form) (between_low c n from to) tt)

  new_args_low : (ts : List (List ℕ)) → IfOk (new_args u ts) (IsOf u)
  new_args_low [] = tt
  new_args_low (a ∷ []) = tt
  new_args_low (a ∷ b ∷ []) = new_low a b
  new_args_low (a ∷ b ∷ c ∷ ts) = tt

  delete_args_low : (ts : List (List ℕ)) → IfOk (delete_args ts) (IsOf u)
  delete_args_low [] = tt
  delete_args_low (a ∷ []) = delete_low a
  delete_args_low (a ∷ b ∷ ts) = tt

  tie_ends_low : (r : List ℕ) (ts : List (List ℕ)) → IfOk (tie_ends u r ts) HasPort
  tie_ends_low r [] = tt
  tie_ends_low r (a ∷ []) = tt
  tie_ends_low r (a ∷ b ∷ []) = ends_low r a b
  tie_ends_low r (a ∷ b ∷ c ∷ ts) = tt

  tie_args_low : (ts : List (List ℕ)) → IfOk (tie_args u ts) HasPort
  tie_args_low [] = tt
  tie_args_low (r ∷ ts) = tie_ends_low r ts

  bind_args_low : (ts : List (List ℕ)) → IfOk (bind_args u ts) (IsOf u)
  bind_args_low ts = if_on (IsOf u) (tie_args u ts) (λ e. Ok (Bind e.0 e.1 e.2)) (λ e is. subst (λ x. IfOk x HasPort) is (tie_args_low ts))

  unbind_args_low : (ts : List (List ℕ)) → IfOk (unbind_args u ts) (IsOf u)
  unbind_args_low ts = if_on (IsOf u) (tie_args u ts) (λ e. Ok (Unbind e.0 e.1 e.2)) (λ e is. subst (λ x. IfOk x HasPort) is (tie_args_low ts))

  move_states_low : (k : Config) (z : List ℕ) (ts : List (List ℕ)) → IfOk (move_states u k z ts) (IsOf u)
  move_states_low k z [] = tt
  move_states_low k z (a ∷ []) = tt
  move_states_low k z (a ∷ b ∷ []) = move_low k z a b
  move_states_low k z (a ∷ b ∷ c ∷ ts) = tt

  move_args_low : (k : Config) (ts : List (List ℕ)) → IfOk (move_args u k ts) (IsOf u)
  move_args_low k [] = tt
  move_args_low k (z ∷ ts) = move_states_low k z ts

  -- the action that a line asks for names what is there
  pub action_is_of : (c : Config) (verb : List ℕ) (args : List (List ℕ)) → IfOk (action_in u c verb args) (IsOf u)
  action_is_of c verb args =
      if_either (IsOf u) (bytes_eq verb (codes "new")) (new_args u args) _ (new_args_low args)
      (if_either (IsOf u) (bytes_eq verb (codes "delete")) (delete_args args) _ (delete_args_low args)
      (if_either (IsOf u) (bytes_eq verb (codes "bind")) (bind_args u args) _ (bind_args_low args)
      (if_either (IsOf u) (bytes_eq verb (codes "unbind")) (unbind_args u args) _ (unbind_args_low args)
      (if_either (IsOf u) (bytes_eq verb (codes "move")) (move_args u c args) (Err Form) (move_args_low c args) tt))))

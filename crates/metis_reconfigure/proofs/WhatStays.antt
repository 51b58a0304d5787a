-- How what stays is found: goal by goal one more instance stays, with all on which it stands.
use Rattle.std.proofs.Common.{◌≡◌, ℕ, ◌+◌, ◌<◌, ◌≤◌, Bool, true, false, cond, not, ◌&&◌, ◌||◌, List, [], ◌∷◌, ◌++◌, Option, Some, None, drop, get_or, length, take, refl, sym, ap, ◌∙◌, subst, nat_eq, nat_le}
use Rattle.std.specs.Prelude.{IsSome, is_none, option_map}
use Rattle.std.specs.List.{AllByRecursion, filter, find}
use Rattle.std.specs.Map.{keys_of, lookup}
use Rattle.std.specs.Option.{option_map_or}
use Rattle.std.proofs.lemmas.Bool.{false_from_ne_true, false≢true}
use Rattle.std.proofs.lemmas.List.{drop_all, drop_more, take_more}
use Rattle.metis_config.proofs.Leasts.{each_there}
use Rattle.metis_ids.proofs.Lists.{has-append}
use Rattle.metis_ids.specs.declared.goals.Goal.{Goal}
use Rattle.metis_rollout.proofs.Quiet.{has-keys, keys-has}
use Rattle.metis_rollout.specs.Terms.{members}
use Rattle.metis_universe.specs.Terms.{Config, IsConfig, Universe, has, pair_of, places_of, serves}
use Rattle.metis_wishes.specs.Terms.{keeps_all, kept, rebound}
use Rattle.metis_wishes.specs.declared.wish.Wish.{Wish}
use Rattle.metis_reconfigure.specs.Terms.{AreReached, AreStaying, Edge, IsClosed, StayBegun, StayFor, StaysForOne, StaysToo, fresh_in, has_edge, holds_up, next_serving, serving_among, settled, those_in, wished}
use Rattle.metis_reconfigure.proofs.Roots.{are_reached_same}

-- ---- edges that lead from and to the same instances

pub closed_alike : (edges edges' left : List Edge) (zs : List ℕ) → ((x y : ℕ) → has_edge edges x y ≡ has_edge edges' x y) → IsClosed edges left zs → IsClosed edges' left zs
closed_alike edges edges' left zs alike k = record {
  among = λ x y h. sym (alike x y) ∙ k.among x y h;
  taken = λ x y h off. k.taken x y (alike x y ∙ h) off;
  done = k.done;
}

-- ---- what is to stay by its line, and what is fresh

pub all_starts : (wishes : List Wish) (c d : Config) (leaving first second third fourth : List ℕ)
    → ((z : ℕ) → has first z ≡ has (kept wishes) z) → ((z : ℕ) → has second z ≡ (has first z || has (rebound wishes) z))
    → ((z : ℕ) → has third z ≡ (has second z || has (cond (keeps_all wishes) (settled c leaving) []) z)) → ((z : ℕ) → has fourth z ≡ (has third z || has (fresh_in c d) z))
    → (z : ℕ) → has fourth z ≡ has (wished wishes c leaving ++ fresh_in c d) z
all_starts wishes c d leaving first second third fourth one two three four z =
    let held = cond (keeps_all wishes) (settled c leaving) [] in
    four z
    ∙ ap (λ b. b || has (fresh_in c d) z) (three z ∙ ap (λ b. b || has held z) (two z ∙ ap (λ b. b || has (rebound wishes) z) (one z)) ∙ grouped (has (kept wishes) z) (has (rebound wishes) z) (has held z)
    ∙ sym (has-append (kept wishes) (rebound wishes ++ held) z ∙ ap (λ b. has (kept wishes) z || b) (has-append (rebound wishes) held z)))
    ∙ sym (has-append (wished wishes c leaving) (fresh_in c d) z) where
      grouped : (a b e : Bool) → ((a || b) || e) ≡ (a || (b || e))
      grouped true b e = refl
      grouped false b e = refl

module _ (wishes : List Wish) (c : Config) (leaving second third : List ℕ) where
  abbrev held : ℕ → Bool
  held z = has (cond (keeps_all wishes) (settled c leaving) []) z

  pub too_held : keeps_all wishes ≡ true → ((z : ℕ) → has third z ≡ (has second z || has (settled c leaving) z)) → (z : ℕ) → has third z ≡ (has second z || held z)
  too_held all added z = added z ∙ ap (λ b. has second z || has (cond b (settled c leaving) []) z) (sym all)

  pub not_held : keeps_all wishes ≡ false → third ≡ second → (z : ℕ) → has third z ≡ (has second z || held z)
  not_held off same z = ap (λ l. has l z) same ∙ nothing (has second z) ∙ ap (λ b. has second z || has (cond b (settled c leaving) []) z) (sym off) where
    nothing : (b : Bool) → b ≡ (b || false)
    nothing true = refl
    nothing false = refl

-- an instance that stands in no pair is none of the members
pub not_member : (c : Config) (z : ℕ) → is_none (pair_of c z) ≡ not (has (members c) z)
not_member c z = by (pair_of c z) refl where
  by : (o : Option ℕ) → pair_of c z ≡ o → is_none o ≡ not (has (members c) z)
  by None none = sym (ap not (false_from_ne_true (has (members c) z) (λ there. gone none (has-keys c.instances z there)))) where
    gone : pair_of c z ≡ None → IsSome (pair_of c z) → ⊥
    gone e h = false≢true (subst IsSome e h)
  by (Some p) some = sym (ap not (keys-has c.instances z (subst IsSome (sym some) refl)))

-- ---- the next instance that serves a goal

module _ (u : Universe) (leaving staying : List ℕ) (g : Goal) where
  -- whether an instance that stands in the pair does not leave, serves the goal and is not among those that stay
  abbrev pub comes_next : ℕ × ℕ → Bool
  comes_next e = not (has leaving e.0) && serves u e.1 g && not (has staying e.0)

  abbrev pub first_next : List (ℕ × ℕ) → Option ℕ
  first_next es = option_map (λ e. e.0) (find comes_next es)

  module _ (all : List (ℕ × ℕ)) where
    abbrev serves_next : ℕ → Bool
    serves_next z = option_map_or (λ p. serves u p g) (lookup (nat_eq z) all) false && not (has staying z)

    found_next : (es : List (ℕ × ℕ)) → AllByRecursion (λ e. lookup (nat_eq e.0) all ≡ Some e.1) es → find serves_next (filter (λ z. not (has leaving z)) (keys_of es)) ≡ first_next es
    found_next [] there = refl
    found_next (e ∷ es) there = by (not (has leaving e.0)) (serves u e.1 g) (ap (λ o. option_map_or (λ p. serves u p g) o false) there.0) (found_next es there.1) where
      by : (a b : Bool) → option_map_or (λ p. serves u p g) (lookup (nat_eq e.0) all) false ≡ b → find serves_next (filter (λ z. not (has leaving z)) (keys_of es)) ≡ first_next es
          → find serves_next (cond a (e.0 ∷ filter (λ z. not (has leaving z)) (keys_of es)) (filter (λ z. not (has leaving z)) (keys_of es)))
          ≡ option_map (λ e. e.0) (cond (a && b && not (has staying e.0)) (Some e) (find comes_next es))
      by true true is rest = ap (λ v. cond (v && not (has staying e.0)) (Some e.0) (find serves_next (filter (λ z. not (has leaving z)) (keys_of es)))) is ∙ last (not (has staying e.0)) rest where
        last : (v : Bool) → find serves_next (filter (λ z. not (has leaving z)) (keys_of es)) ≡ first_next es
            → cond v (Some e.0) (find serves_next (filter (λ z. not (has leaving z)) (keys_of es))) ≡ option_map (λ e. e.0) (cond v (Some e) (find comes_next es))
        last true rest = refl
        last false rest = rest
      by true false is rest = ap (λ v. cond (v && not (has staying e.0)) (Some e.0) (find serves_next (filter (λ z. not (has leaving z)) (keys_of es)))) is ∙ rest
      by false b is rest = rest

  -- the first instance comes next, or the others are looked at
  pub comes_here : (e : ℕ × ℕ) (it left : List (ℕ × ℕ)) → it ≡ e ∷ left → comes_next e ≡ true → first_next it ≡ Some e.0
  comes_here e it left is comes = ap first_next is ∙ ap (λ b. option_map (λ e. e.0) (cond b (Some e) (find comes_next left))) comes

  pub comes_later : (e : ℕ × ℕ) (it left : List (ℕ × ℕ)) → it ≡ e ∷ left → comes_next e ≡ false → first_next it ≡ first_next left
  comes_later e it left is off = ap first_next is ∙ ap (λ b. option_map (λ e. e.0) (cond b (Some e) (find comes_next left))) off

pub next_found : (u : Universe) (c : Config) (leaving staying : List ℕ) (g : Goal) → IsConfig c → next_serving u c leaving staying g ≡ first_next u leaving staying g c.instances
next_found u c leaving staying g k = found_next u leaving staying g c.instances c.instances (each_there c.instances k.ascending)

-- ---- goal by goal

module _ (u : Universe) (c d : Config) (leaving : List ℕ) (earlier : List Goal) (g : Goal) (from : List ℕ) where
  abbrev few : Bool
  few = nat_le (serving_among u d (those_in d from) g) (places_of earlier g)

  pub one_stays : (z : ℕ) (to : List ℕ) → few ≡ true → next_serving u c leaving from g ≡ Some z → AreReached (z ∷ from) (holds_up u d leaving) to → StaysForOne u c d leaving earlier g from to
  one_stays z to short is reached = subst (λ o. StaysToo u d leaving from o to) (sym (ap (λ b. cond b (next_serving u c leaving from g) None) short ∙ is)) reached

  pub none_is_left : few ≡ true → next_serving u c leaving from g ≡ None → StaysForOne u c d leaving earlier g from from
  none_is_left short is = subst (λ o. StaysToo u d leaving from o from) (sym (ap (λ b. cond b (next_serving u c leaving from g) None) short ∙ is)) refl

  pub enough_stay : few ≡ false → StaysForOne u c d leaving earlier g from from
  enough_stay enough = subst (λ o. StaysToo u d leaving from o from) (sym (ap (λ b. cond b (next_serving u c leaving from g) None) enough)) refl

module _ (u : Universe) (wishes : List Wish) (c d : Config) (leaving : List ℕ) (goals : List Goal) where
  -- what stays for the goals so far, where what the others add makes the whole
  pub record AreStayingSoFar (i : ℕ) (left : List Edge) (staying : List ℕ) : Type 0 where
    pub begun : List ℕ
    pub first : StayBegun u wishes c d leaving begun
    pub closed : IsClosed (holds_up u d leaving) left staying
    pub rest : (to : List ℕ) → StayFor u c d leaving (take i goals) (drop i goals) staying to → StayFor u c d leaving [] goals begun to

  pub staying-begin : (starts : List ℕ) (edges left : List Edge) (staying : List ℕ) → ((z : ℕ) → has starts z ≡ has (wished wishes c leaving ++ fresh_in c d) z)
      → ((x y : ℕ) → has_edge edges x y ≡ has_edge (holds_up u d leaving) x y) → AreReached starts edges staying → IsClosed edges left staying → AreStayingSoFar 0 left staying
  staying-begin starts edges left staying same alike reached closed = record {
    begun = staying;
    first = are_reached_same starts (wished wishes c leaving ++ fresh_in c d) edges (holds_up u d leaving) staying same alike reached;
    closed = closed_alike edges (holds_up u d leaving) left staying alike closed;
    rest = λ to k. k;
  }

  pub staying-next : (i : ℕ) (g : Goal) (left left' : List Edge) (staying staying' : List ℕ) → i < length goals → g ≡ get_or goals i g
      → StaysForOne u c d leaving (take i goals) g staying staying' → IsClosed (holds_up u d leaving) left' staying' → AreStayingSoFar i left staying → AreStayingSoFar (i + 1) left' staying'
  staying-next i g left left' staying staying' low is one closed k = record {
    begun = k.begun;
    first = k.first;
    closed = closed;
    rest = λ to later. k.rest to (subst (λ gs. StayFor u c d leaving (take i goals) gs staying to) (sym (drop_more goals i g low ∙ ap (λ x. x ∷ drop (i + 1) goals) (sym is)))
        (staying', one, subst (λ earlier. StayFor u c d leaving earlier (drop (i + 1) goals) staying' to) (take_more goals i g low ∙ ap (λ x. take i goals ++ x ∷ []) (sym is)) later));
  }

  pub staying-end : (i : ℕ) (left : List Edge) (staying : List ℕ) → length goals ≤ i → AreStayingSoFar i left staying → AreStaying u wishes c d leaving goals staying
  staying-end i left staying past k = record {
    begun = k.begun;
    first = k.first;
    rest = k.rest staying (subst (λ gs. StayFor u c d leaving (take i goals) gs staying staying) (sym (drop_all i goals past)) refl);
  }

-- The paths along origins are ways, once the slots that pairs of lower layers need are filled.
use Rattle.std.proofs.Common.{◌≡◌, ℕ, zero, suc, ◌+◌, ◌<◌, ◌≤◌, true, List, [], ◌∷◌, ◌++◌, map, Some, refl, sym, ap, ◌∙◌, subst, arith, nat_eq, inl, inr, append_assoc, append-nil, length-append}
use Rattle.std.proofs.lemmas.Bool.{eqb-true, eq-eqb, false≢true, and_parts, or_cases, or_left, or_right}
use Rattle.std.proofs.lemmas.List.Folds.{Any-from_list_any}
use Rattle.std.specs.List.{range_with_len, All}
use Rattle.std.specs.Option.{option_map_or}
use Rattle.metis_universe.proofs.Initials.{is_initial-own}
use Rattle.metis_universe.specs.Terms.{IsUniverse, Universe, has, initial_of, is_empty, is_initial, layer_of, next_of, origin_of, pair_count, required_of, type_of}
use Rattle.metis_layers.proofs.Deploying.{slice_get-before}
use Rattle.metis_layers.proofs.LayerFacts.{HasLayer, layer_below, layer_free, layer_pair, no_origin, origin_at}
use Rattle.metis_layers.proofs.SlotLines.{IsHop, AreHops, IsBegun, IsWay, AreWays, last_of, end_of}
use Rattle.metis_layers.proofs.Slots.{IsFilled, wants}
use Rattle.metis_layers.specs.Terms.{path_to, path_within}

pub in_range : (a n q : ℕ) → has (range_with_len a n) q ≡ true → q < a + n
in_range a zero q h = absurd (false≢true h)
in_range a (suc n) q h = elim (or_cases (nat_eq a q) (has (range_with_len (a + 1) n) q) h) [
  | inl now ↦ let same = eqb-true a q now in omega arith
  | inr later ↦ let rest = in_range (a + 1) n q later in omega arith
]

-- what holds of each number of a list holds of one that is in it
pub all_has : (P : ℕ → Type 0) (xs : List ℕ) (q : ℕ) → All P xs → has xs q ≡ true → P q
all_has P xs q all h =
    let some = Any-from_list_any (λ x. nat_eq x q) xs h in
    subst P (some.3 ∙ eqb-true some.1 q some.4) (all some.0 some.1 some.2)

-- a pair that has a layer is one of the universe
pub layered_pair : (u : Universe) (p l : ℕ) → layer_of u p ≡ Some l → p < pair_count u
layered_pair u p l is = omega (arith, in_range 0 (pair_count u) p (layer_pair u p l is))

-- with each pair its origin is among them
abbrev pub HaveOrigins : Universe → (ℕ → Type 0) → Type 0
HaveOrigins u Among = (p o l : ℕ) → Among p → origin_of u p ≡ Some o → layer_of u o ≡ Some l → Among o

module _ (u : Universe) (k : IsUniverse u) (holder slot : ℕ → ℕ → ℕ) (Among : ℕ → Type 0) (origins : HaveOrigins u Among) where
  -- a pair of layer 0 begins a way
  pub begun : (p : ℕ) → layer_of u p ≡ Some 0 → IsBegun u p
  begun p is =
      let free = layer_free u p is in
      record {
        free = free;
        kind = k.types p (layered_pair u p 0 is);
        initial = eqb-true (initial_of u (type_of u p)) p (is_initial-own u k p (layered_pair u p 0 is) ∙ (and_parts (is_initial u p) (is_empty (required_of u p)) free).0);
      }

  -- the slots that a pair among them of a layer of at most m needs are filled
  abbrev pub FilledUpTo : List ℕ → ℕ → Type 0
  FilledUpTo ends m = (p l r j : ℕ) → Among p → layer_of u p ≡ Some l → l ≤ m → wants u p r j ≡ true → IsFilled u holder slot ends r j

  -- and stay filled when more instances stand
  pub filled_beside : (ends more : List ℕ) (m : ℕ) → FilledUpTo ends m → FilledUpTo (ends ++ more) m
  filled_beside ends more m filled p l r j among is low wanted =
      let h = filled p l r j among is low wanted in
      record {
        first = h.first;
        own = h.own;
        stands = omega (arith, length-append ends more, h.stands);
        pair = h.pair;
        there = slice_get-before ends more (holder r j) h.stands ∙ h.there;
        gives = h.gives;
      }

  hop_from : (ends : List ℕ) (m o p l : ℕ) → FilledUpTo ends m → Among p → layer_of u p ≡ Some l → l ≤ m → o < pair_count u → has (next_of u o) p ≡ true → IsHop u holder slot ends o p
  hop_from ends m o p l filled among is low below leads = record {
    next = leads;
    same = (all_has (λ q. (q < pair_count u) × (type_of u q ≡ type_of u o)) (next_of u o) p (k.next o below).1 leads).1;
    served = λ r j wanted. filled p l r j among is low wanted;
  }

  -- one more pair at the end of a way
  pub hops_push : (ends : List ℕ) (p q : ℕ) (path : List ℕ) → AreHops u holder slot ends p path → IsHop u holder slot ends (last_of p path) q → AreHops u holder slot ends p (path ++ q ∷ [])
  hops_push ends p q [] hops hop = (hop, tt)
  hops_push ends p q (x ∷ path) hops hop = (hops.0, hops_push ends x q path hops.1 hop)

  pub last_push : (p q : ℕ) (path : List ℕ) → last_of p (path ++ q ∷ []) ≡ q
  last_push p q [] = refl
  last_push p q (x ∷ path) = last_push x q path

  pub way_push : (ends : List ℕ) (q : ℕ) (path : List ℕ) → IsWay u holder slot ends path → IsHop u holder slot ends (end_of path) q → IsWay u holder slot ends (path ++ q ∷ [])
  way_push ends q [] way hop = absurd way
  way_push ends q (p ∷ path) way hop = (way.0, hops_push ends p q path way.1 hop)

  pub end_push : (ends : List ℕ) (q : ℕ) (path : List ℕ) → IsWay u holder slot ends path → end_of (path ++ q ∷ []) ≡ q
  end_push ends q [] way = absurd way
  end_push ends q (p ∷ path) way = last_push p q path

  -- the path is a way to p
  pub record LeadsTo (ends : List ℕ) (p : ℕ) (path : List ℕ) : Type 0 where
    pub way : IsWay u holder slot ends path
    pub end : end_of path ≡ p

  path_zero : (ends : List ℕ) (n p : ℕ) → layer_of u p ≡ Some 0 → LeadsTo ends p (path_within u n p)
  path_zero ends zero p is = record { way = (begun p is, tt); end = refl }
  path_zero ends (suc n) p is = subst (LeadsTo ends p) (ap (λ o. option_map_or (path_within u n) o [] ++ p ∷ []) (sym (no_origin u p is))) (record { way = (begun p is, tt); end = refl })

  pub path_is_way : (ends : List ℕ) (m n p l : ℕ) → FilledUpTo ends m → Among p → layer_of u p ≡ Some l → l ≤ m → l ≤ n → LeadsTo ends p (path_within u n p)
  path_is_way ends m zero p l filled among is low short = path_zero ends zero p (is ∙ ap Some (omega arith))
  path_is_way ends m (suc n) p zero filled among is low short = path_zero ends (suc n) p is
  path_is_way ends m (suc n) p (suc l) filled among is low short =
      let o = origin_at u p l is in
      let before = path_is_way ends m n o.origin o.lower.layer filled (origins p o.origin o.lower.layer among o.is o.lower.is) o.lower.is (omega (arith, o.lower.low)) (omega (arith, o.lower.low)) in
      let hop = hop_from ends m o.origin p (suc l) filled among is low (layered_pair u o.origin o.lower.layer o.lower.is) o.leads in
      let path = path_within u n o.origin in
      subst (LeadsTo ends p) (ap (λ v. option_map_or (path_within u n) v [] ++ p ∷ []) (sym o.is)) (record {
        way = way_push ends p path before.way (subst (λ e. IsHop u holder slot ends e p) (sym before.end) hop);
        end = end_push ends p path before.way;
      })

  -- ---- paths one after another

  -- where all that these pairs need up to layer m is filled, the paths to any of them are ways, and then more may follow
  pub ways_on : (ps more ends : List ℕ) (m : ℕ) → FilledUpTo ends m → ((p : ℕ) → has ps p ≡ true → Among p × HasLayer u p m) → AreWays u holder slot (ends ++ ps) (map (path_to u) more)
      → AreWays u holder slot ends (map (path_to u) (ps ++ more))
  ways_on [] more ends m filled layered rest = subst (λ l. AreWays u holder slot l (map (path_to u) more)) (append-nil ends) rest
  ways_on (p ∷ ps) more ends m filled layered rest =
      let both = layered p (or_left (nat_eq p p) (has ps p) (eq-eqb p p refl)) in
      let at = both.1 in
      let way = path_is_way ends m (pair_count u) p at.layer filled both.0 at.is at.low (omega (arith, layer_below u p at.layer at.is)) in
      let next = ways_on ps more (ends ++ p ∷ []) m (filled_beside ends (p ∷ []) m filled) (λ q h. layered q (or_right (nat_eq p q) (has ps q) h))
      (subst (λ l. AreWays u holder slot l (map (path_to u) more)) (sym (append_assoc ends (p ∷ []) ps)) rest) in
      (way.way, subst (λ e. AreWays u holder slot (ends ++ e ∷ []) (map (path_to u) (ps ++ more))) (sym way.end) next)

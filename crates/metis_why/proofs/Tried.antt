-- Pairs that are tried, and ports that are compared: what the choice comes to.
use Rattle.std.proofs.Common.{◌≡◌, ℕ, suc, ◌+◌, ◌<◌, ◌≤◌, Bool, true, false, cond, not, List, [], ◌∷◌, ◌++◌, length, get_or, Option, Some, None, refl, sym, ap, ◌∙◌, subst, arith, inl, inr, nat_eq, append_assoc, length-append}
use Rattle.std.specs.Prelude.{◌⊎◌, fold, nat_lt}
use Rattle.std.specs.List.{AllPairs, list_all}
use Rattle.std.proofs.lemmas.Bool.{and_from, and_parts, both_ways, cases_eq, eq-eqb, eqb-true, false_from_ne_true, false≢true, ltb-false, ltb-true, not-true, or_cases, or_right, true_from_ne_false}
use Rattle.std.proofs.lemmas.List.{append-nil, get_or_at, length_push}
use Rattle.std.proofs.lemmas.List.Kept.{AllPairs-from_increasing}
use Rattle.metis_ids.proofs.Lists.{has_here, place_of}
use Rattle.metis_ids.specs.declared.goals.Goal.{Goal}
use Rattle.metis_universe.specs.Terms.{IsUniverse, Universe, has, pair_count, providers_of, required_of}
use Rattle.metis_why.proofs.Chosen.{distance_enough, fewest_none, fewest_some}
use Rattle.metis_why.proofs.Farther.{distance_apart}
use Rattle.metis_why.proofs.Lacking.{lacking_barred}
use Rattle.metis_why.proofs.Left.{less_start}
use Rattle.metis_why.proofs.Nearest.{nearing_done, nearing_more, nearing_start, place_apart}
use Rattle.metis_why.proofs.Reasons.{all_inside}
use Rattle.metis_why.specs.Terms.{AreApart, AreTried, Covers, IsByDistance, IsEnough, IsFewest, IsFront, IsGreatest, IsInside, IsLacking, IsNearest, IsNearing, IsWaitedFor, fewer, fewest_port, place_in, reason_by, reason_in, wanted_by, without}
use Rattle.metis_why.specs.declared.reason.Reason.TheVariants.{Needs, Comes}

-- ---- one pair is tried

pub inside_without : (x y : ℕ → Bool) (q : ℕ) → IsInside y x → y q ≡ false → IsInside y (without x q)
inside_without x y q inside away p there = and_from (x p) (not (nat_eq q p)) (inside p there) (ap not (false_from_ne_true (nat_eq q p) (λ same. both_ways (y q) away (ap y (eqb-true q p same) ∙ there))))

gone : (x z : ℕ → Bool) (q : ℕ) → IsInside z (without x q) → z q ≡ false
gone x z q inside = false_from_ne_true (z q) (λ there. both_ways (nat_eq q q) (not-true (nat_eq q q) (and_parts (x q) (not (nat_eq q q)) (inside q there)).1) (eq-eqb q q refl))

module _ (u : Universe) (g : Goal) (order : List ℕ) (q n : ℕ) (low : n < length order) (at : place_in order q ≡ n) (x rest : ℕ → Bool) (before : IsNearing u g order x (n + 1)) (greatest : IsGreatest u (without x q) rest) where
  taken : list_all rest (wanted_by u g) ≡ true → IsNearing u g order rest n
  taken covers = nearing_more u g order x rest n q low at before
      (record {
        inside = λ p there. (and_parts (x p) (not (nat_eq q p)) (greatest.inside p there)).0;
        enough = record {
          within = λ p there. before.enough.within p (and_parts (x p) (not (nat_eq q p)) (greatest.inside p there)).0;
          barred = greatest.barred;
          covers = covers;
        };
      })
      (λ y barred inside back. greatest.greatest y barred (inside_without x y q inside (false_from_ne_true (y q) (λ there. both_ways (rest q) (gone x rest q greatest.inside) (back there)))))
      (λ there. absurd (both_ways (rest q) (gone x rest q greatest.inside) there))

  kept : list_all rest (wanted_by u g) ≡ false → IsNearing u g order x n
  kept lost = nearing_more u g order x x n q low at before (less_start u g x before.enough) (λ y barred inside back. inside)
      (λ there y barred covers inside. true_from_ne_false (y q) (λ away.
      both_ways (list_all rest (wanted_by u g)) lost (all_inside rest y (wanted_by u g) (greatest.greatest y barred (inside_without x y q inside away)) covers)))

  pub tried_one : (z : ℕ → Bool) → z ≡ cond (list_all rest (wanted_by u g)) rest x → IsNearing u g order z n
  tried_one z is = subst (λ w. IsNearing u g order w n) (sym is) (by (list_all rest (wanted_by u g)) refl) where
    by : (b : Bool) → list_all rest (wanted_by u g) ≡ b → IsNearing u g order (cond b rest x) n
    by true covers = taken covers
    by false lost = kept lost

-- ---- all pairs are tried, from the last to the first

module _ (u : Universe) (g : Goal) (order : List ℕ) (apart : AreApart order) (x : ℕ → Bool) (start : IsFront u g order x) where
  tried_to : (behind front : List ℕ) (z : ℕ → Bool) → order ≡ front ++ behind → AreTried u g behind x z → IsNearing u g order z (length front)
  tried_to [] front z parts tried =
      subst (λ l. IsNearing u g order z (length l)) (parts ∙ append-nil front) (subst (λ w. IsNearing u g order w (length order)) tried (nearing_start u g order x start))
  tried_to (q ∷ behind) front z parts tried =
      let more : order ≡ (front ++ q ∷ []) ++ behind = parts ∙ sym (append_assoc front (q ∷ []) behind) in
      let before : IsNearing u g order tried.0 (length front + 1) = subst (λ k. IsNearing u g order tried.0 k) (length_push front q) (tried_to behind (front ++ q ∷ []) tried.0 more tried.1) in
      let low : length front < length order = omega (arith, ap length parts, length-append front (q ∷ behind)) in
      let here : get_or order (length front) 0 ≡ q = ap (λ l. get_or l (length front) 0) parts ∙ get_or_at front q behind 0 (length front) refl in
      let at : place_in order q ≡ length front = ap (place_in order) (sym here) ∙ place_apart order (length front) apart low in
      tried_one u g order q (length front) low at tried.0 tried.2.rest before tried.2.greatest z tried.2.is

  pub tried_all : (z : ℕ → Bool) → AreTried u g order x z → IsNearest u g order z
  tried_all z tried = nearing_done u g order z (tried_to order [] z refl tried)

pub tried_nearest : (u : Universe) (g : Goal) (lacking : ℕ → Bool) (order : List ℕ) (needed : ℕ → Bool) → IsUniverse u → IsLacking u lacking → Covers u lacking g → IsByDistance u lacking g order → AreTried u g order (has order) needed →
    IsNearest u g order needed
tried_nearest u g lacking order needed k away covers far tried =
    let all : IsEnough u g lacking = record { within = away.within; barred = lacking_barred u k lacking away; covers = covers } in
    let enough : IsEnough u g (has order) = distance_enough u lacking g all order far in
    tried_all u g order (distance_apart u lacking g order far) (has order)
    (record { within = enough.within; greatest = record { barred = enough.barred; inside = λ p there. there; greatest = λ y barred inside. inside }; covers = enough.covers }) needed tried

-- ---- the port that the fewest pairs provide

-- a has fewer than b, or as many and is not behind it
abbrev IsAhead : Universe → ℕ → ℕ → Type 0
IsAhead u r s = (length (providers_of u r) < length (providers_of u s)) ⊎ ((length (providers_of u r) ≡ length (providers_of u s)) × (r ≤ s))

ahead_itself : (u : Universe) (r : ℕ) → IsAhead u r r
ahead_itself u r = inr (refl, omega arith)

ahead_then : (u : Universe) (a b c : ℕ) → IsAhead u a b → IsAhead u b c → IsAhead u a c
ahead_then u a b c (inl first) (inl then) = inl (omega arith)
ahead_then u a b c (inl first) (inr then) = inl (omega (arith, first, then.0))
ahead_then u a b c (inr first) (inl then) = inl (omega (arith, first.0, then))
ahead_then u a b c (inr first) (inr then) = inr (first.0 ∙ then.0, omega (arith, first.1, then.1))

fewer_ahead : (u : Universe) (b r : ℕ) → b < r → IsAhead u (fewer u (Some b) r) b × IsAhead u (fewer u (Some b) r) r
fewer_ahead u b r less = by (nat_lt (length (providers_of u r)) (length (providers_of u b))) refl where
  by : (c : Bool) → nat_lt (length (providers_of u r)) (length (providers_of u b)) ≡ c → IsAhead u (cond c r b) b × IsAhead u (cond c r b) r
  by true is = (inl (ltb-true (length (providers_of u r)) (length (providers_of u b)) is), ahead_itself u r)
  by false is =
      let least = ltb-false (length (providers_of u r)) (length (providers_of u b)) is in (
        ahead_itself u b,
        elim (cases_eq (length (providers_of u b)) (length (providers_of u r))) [
          | inl same ↦ inr (same, omega (arith, less))
          | inr other ↦ inl (omega (arith, least, other))
        ],
      )

fewer_low : (u : Universe) (b r s : ℕ) → b < s → r < s → fewer u (Some b) r < s
fewer_low u b r s first second = by (nat_lt (length (providers_of u r)) (length (providers_of u b))) where
  by : (c : Bool) → cond c r b < s
  by true = second
  by false = first

module _ (u : Universe) (t : ℕ → Bool) where
  abbrev Goes : Option ℕ → List ℕ → ℕ → Type 0
  Goes best ports q = ((b : ℕ) → best ≡ Some b → IsAhead u q b) × ((s : ℕ) → has ports s ≡ true → t s ≡ true → IsAhead u q s)

  -- what is chosen is ahead of what was best before, and of each port that passes
  fewest_ahead : (ports : List ℕ) (best : Option ℕ) (q : ℕ) → AllPairs (λ a b. a < b) ports → ((b : ℕ) → best ≡ Some b → (s : ℕ) → has ports s ≡ true → b < s) →
      fold (λ b k. cond (t k) (Some (fewer u b k)) b) best ports ≡ Some q → Goes best ports q
  fewest_ahead [] best q rise below is = (λ b same. let one : q ≡ b = cc in subst (λ k. IsAhead u q k) one (ahead_itself u q), λ s there. absurd (false≢true there))
  fewest_ahead (r ∷ ports) best q rise below is = by (t r) refl best refl is (λ next low. fewest_ahead ports next q rest low) where
    rest : AllPairs (λ a b. a < b) ports
    rest = λ i j d less low. rise (suc i) (suc j) d (omega arith) (omega arith)

    above : (k : ℕ) → has ports k ≡ true → r < k
    above k there = let place = place_of ports k there in subst (λ m. r < m) place.2 (rise 0 (suc place.0) 0 (omega arith) (omega (arith, place.1)))

    split : (s : ℕ) → IsAhead u q r → ((k : ℕ) → has ports k ≡ true → t k ≡ true → IsAhead u q k) → has (r ∷ ports) s ≡ true → t s ≡ true → IsAhead u q s
    split s here later there passes = elim (or_cases (nat_eq r s) (has ports s) there) [
      | inl same ↦ subst (λ k. IsAhead u q k) (eqb-true r s same) here
      | inr more ↦ later s more passes
    ]

    by : (c : Bool) → t r ≡ c → (old : Option ℕ) → best ≡ old → fold (λ b k. cond (t k) (Some (fewer u b k)) b) (cond c (Some (fewer u old r)) old) ports ≡ Some q →
        ((next : Option ℕ) → ((b : ℕ) → next ≡ Some b → (s : ℕ) → has ports s ≡ true → b < s) → fold (λ b k. cond (t k) (Some (fewer u b k)) b) next ports ≡ Some q → Goes next ports q) → Goes old (r ∷ ports) q
    by true passes None one e go =
        let more : Goes (Some r) ports q = go (Some r) (λ b same s there. let is : r ≡ b = cc in subst (λ k. k < s) is (above s there)) e in
        (λ b none. cc, λ s there on. split s (more.0 r refl) more.1 there on)
    by true passes (Some b) one e go =
        let less : b < r = below b one r (has_here r ports) in
        let f : ℕ = fewer u (Some b) r in
        let low : (k : ℕ) → has ports k ≡ true → f < k = λ k there. fewer_low u b r k (below b one k (or_right (nat_eq r k) (has ports k) there)) (above k there) in
        let more : Goes (Some f) ports q = go (Some f) (λ a same s there. let is : f ≡ a = cc in subst (λ k. k < s) is (low s there)) e in
        let ahead = fewer_ahead u b r less in (
          λ a same. let is : b ≡ a = cc in subst (λ k. IsAhead u q k) is (ahead_then u q f b (more.0 f refl) ahead.0),
          λ s there on. split s (ahead_then u q f r (more.0 f refl) ahead.1) more.1 there on,
        )
    by false fails old one e go =
        let more : Goes old ports q = go old (λ b same s there. below b (one ∙ same) s (or_right (nat_eq r s) (has ports s) there)) e in (
          more.0,
          λ s there on. elim (or_cases (nat_eq r s) (has ports s) there) [
            | inl same ↦ absurd (both_ways (t r) fails (ap t (eqb-true r s same) ∙ on))
            | inr later ↦ more.1 s later on
          ],
        )

module _ (u : Universe) (k : IsUniverse u) (x : ℕ → Bool) (q : ℕ) (low : q < pair_count u) where
  pub reason_fewest : (r : ℕ) → reason_in u x q ≡ Needs r → IsFewest u x q r
  reason_fewest r is = by (fewest_port u (λ s. list_all x (providers_of u s)) (required_of u q)) refl is where
    by : (o : Option ℕ) → fewest_port u (λ s. list_all x (providers_of u s)) (required_of u q) ≡ o → reason_by o ≡ Needs r → IsFewest u x q r
    by None none same = cc
    by (Some p) one same =
        let here : fewest_port u (λ s. list_all x (providers_of u s)) (required_of u q) ≡ Some r = one ∙ (let at : p ≡ r = cc in ap (λ n. Some n) at) in
        let ahead = fewest_ahead u (λ s. list_all x (providers_of u s)) (required_of u q) None r (AllPairs-from_increasing (required_of u q) (k.required q low).0) (λ b none. cc) here in
        elim (fewest_some u (λ s. list_all x (providers_of u s)) None (required_of u q) r here) [
          | inl none ↦ cc
          | inr there ↦ record { waited_for = record { required = there.0; waits = there.1 }; fewest = λ s waited. ahead.1 s waited.required waited.waits }
        ]

pub reason_comes : (u : Universe) (x : ℕ → Bool) (q s : ℕ) → reason_in u x q ≡ Comes → IsWaitedFor u x q s → ⊥
reason_comes u x q s is waited = by (fewest_port u (λ r. list_all x (providers_of u r)) (required_of u q)) refl is where
  by : (o : Option ℕ) → fewest_port u (λ r. list_all x (providers_of u r)) (required_of u q) ≡ o → reason_by o ≡ Comes → ⊥
  by None none same = both_ways (list_all x (providers_of u s)) ((fewest_none u (λ r. list_all x (providers_of u r)) None (required_of u q) none).1 s waited.required) waited.waits
  by (Some p) one same = cc

-- The numbers of ports, entry by entry.
use Rattle.std.proofs.Common.{◌≡◌, ℕ, ◌+◌, ◌<◌, ◌≤◌, Bool, true, false, cond, ◌||◌, List, [], ◌∷◌, ◌++◌, length, map, take, drop, get_or, flat_map, min, not, subst, IsTrue, position, unwrap_or, option_map, Option, Some, None, suc, String, string_bytes, string_eq, refl, ap, sym, ◌∙◌, arith}
use Rattle.std.specs.declared.alloc.Global.{Global}
use Rattle.std.specs.List.{list_any, AllByRecursion}
use Rattle.std.specs.Option.{option_or}
use Rattle.std.specs.Str.{bytes_eq}
use Rattle.std.proofs.Math.Nat.{min-eq_left}
use Rattle.std.proofs.lemmas.Bool.{true≢false}
use Rattle.std.proofs.lemmas.List.{append-nil, append_assoc, drop_more, map-append, map_more, take_more}
use Rattle.std.proofs.lemmas.List.{map_push}
use Rattle.std.proofs.lemmas.List.Concat.{flat_map-append}
use Rattle.std.proofs.lemmas.List.Folds.{list_any_at}
use Rattle.std.proofs.lemmas.List.Quantifiers.{position-Some}
use Rattle.std.proofs.lemmas.List.Sums.{fold-append}
use Rattle.metis_ids.proofs.Lists.{each_weaker}
use Rattle.metis_ids.proofs.Tests.{bytes_same}
use Rattle.metis_universe.specs.declared.faults.RowFault.TheVariants.{PortName}
use Rattle.metis_universe.specs.Terms.{IsNumbered, first_from, first_sights, is_name, number_of, number_within, port_fault, sights_after, texts, unless, with_name}
use Rattle.metis_universe.proofs.Ascending.{at_seen, number-le}
use Rattle.metis_universe.proofs.FirstFault.{position-cons, list_any-from_position}
use Rattle.metis_universe.proofs.FirstSights.{each_seen}

-- ---- the place of a name

-- what stands behind the first does not move it
position_append : {A : Type 0} (p : A → Bool) (xs ys : List A) (i : ℕ) → position p xs ≡ Some i → position p (xs ++ ys) ≡ Some i
position_append p [] ys i h = cc
position_append p (x ∷ xs) ys i h =
    position-cons p x (xs ++ ys) ∙ elim (p x) as (λ b. cond b (Some 0) (option_map suc (position p xs)) ≡ Some i → cond b (Some 0) (option_map suc (position p (xs ++ ys))) ≡ Some i) [
      | true ↦ λ e. e
      | false ↦ λ e. elim (position p xs) as (λ o. position p xs ≡ o → option_map suc o ≡ Some i → option_map suc (position p (xs ++ ys)) ≡ Some i) [
        | None ↦ λ _ n. cc
        | Some k ↦ λ is n. ap (option_map suc) (position_append p xs ys k is) ∙ n
      ] refl e
    ] (sym (position-cons p x xs) ∙ h)

-- one behind those that are not it has the next place
pub position_end : {A : Type 0} (p : A → Bool) (xs : List A) (x : A) → position p xs ≡ None → p x ≡ true → position p (xs ++ x ∷ []) ≡ Some (length xs)
position_end p [] x h is = position-cons p x [] ∙ ap (λ b. cond b (Some 0) (option_map suc (position p []))) is
position_end p (y ∷ xs) x h is =
    position-cons p y (xs ++ x ∷ []) ∙ elim (p y) as (λ b. cond b (Some 0) (option_map suc (position p xs)) ≡ None → cond b (Some 0) (option_map suc (position p (xs ++ x ∷ []))) ≡ Some (suc (length xs))) [
      | true ↦ λ e. cc
      | false ↦ λ e. elim (position p xs) as (λ o. position p xs ≡ o → option_map suc o ≡ None → option_map suc (position p (xs ++ x ∷ [])) ≡ Some (suc (length xs))) [
        | None ↦ λ none _. ap (option_map suc) (position_end p xs x none is)
        | Some k ↦ λ _ n. cc
      ] refl e
    ] (sym (position-cons p y xs) ∙ h)

place_stays_one : (name : List ℕ) (seen : List (List ℕ)) (x : List ℕ) (i : ℕ) → position (bytes_eq name) seen ≡ Some i → position (bytes_eq name) (with_name seen x) ≡ Some i
place_stays_one name seen x i h = elim (list_any (bytes_eq x) seen) as (λ b. position (bytes_eq name) (cond b seen (seen ++ x ∷ [])) ≡ Some i) [
  | true ↦ h
  | false ↦ position_append (bytes_eq name) seen (x ∷ []) i h
]

-- a name that was seen keeps its place
pub place_stays : (name : List ℕ) (seen later : List (List ℕ)) (i : ℕ) → position (bytes_eq name) seen ≡ Some i → position (bytes_eq name) (sights_after seen later) ≡ Some i
place_stays name seen [] i h = h
place_stays name seen (x ∷ later) i h = place_stays name (with_name seen x) later i (place_stays_one name seen x i h)

-- ---- entry after entry

pub numbered_none : (seen : List (List ℕ)) (numbers : List ℕ) → IsNumbered seen seen numbers numbers []
numbered_none seen numbers = record { seen = refl; numbers = λ later. sym (append-nil numbers) }

pub numbered_one : (old new : List (List ℕ)) (before after : List ℕ) (name : List ℕ) (i : ℕ) → new ≡ with_name old name → position (bytes_eq name) new ≡ Some i → after ≡ before ++ min i 4294967295 ∷ [] → IsNumbered old new before after (name ∷ [])
numbered_one old new before after name i is at put = record {
  seen = is;
  numbers = λ later. put ∙ ap (λ o. before ++ min (unwrap_or o 0) 4294967295 ∷ []) (sym (place_stays name new later i at));
}

pub numbered_then : (a b c : List (List ℕ)) (m n o : List ℕ) (xs ys : List (List ℕ)) → IsNumbered a b m n xs → IsNumbered b c n o ys → IsNumbered a c m o (xs ++ ys)
numbered_then a b c m n o xs ys h k = record {
  seen = k.seen ∙ ap (λ s. sights_after s ys) h.seen ∙ sym (fold-append with_name a xs ys);
  numbers = λ later.
      let final : sights_after c later ≡ sights_after b (ys ++ later) = ap (λ s. sights_after s later) k.seen ∙ sym (fold-append with_name b ys later) in
      k.numbers later ∙ ap (λ ns. ns ++ map (number_within (sights_after c later)) ys) (h.numbers (ys ++ later) ∙ ap (λ s. m ++ map (number_within s) xs) (sym final))
      ∙ append_assoc m (map (number_within (sights_after c later)) xs) (map (number_within (sights_after c later)) ys)
      ∙ ap (λ ns. m ++ ns) (sym (map-append (number_within (sights_after c later)) xs ys));
}

pub flat_more : {A B : Type 0} (f : A → List B) (xs : List A) (i : ℕ) (d : A) → i < length xs → flat_map f (take (i + 1) xs) ≡ flat_map f (take i xs) ++ f (get_or xs i d)
flat_more f xs i d l = ap (flat_map f) (take_more xs i d l) ∙ flat_map-append f (take i xs) (get_or xs i d ∷ []) ∙ ap (λ ys. flat_map f (take i xs) ++ ys) (append-nil (f (get_or xs i d)))

module _ (a b c : List (List ℕ)) (m n o : List ℕ) {A : Type 0} (xs : List A) (i : ℕ) (d : A) (l : i < length xs) where
  pub numbered_next : (f : A → List ℕ) → IsNumbered a b m n (map f (take i xs)) → IsNumbered b c n o (f (get_or xs i d) ∷ []) → IsNumbered a c m o (map f (take (i + 1) xs))
  numbered_next f h k = subst (IsNumbered a c m o) (sym (map_more f xs i d l)) (numbered_then a b c m n o (map f (take i xs)) (f (get_or xs i d) ∷ []) h k)

  pub numbered_more : (f : A → List (List ℕ)) → IsNumbered a b m n (flat_map f (take i xs)) → IsNumbered b c n o (f (get_or xs i d)) → IsNumbered a c m o (flat_map f (take (i + 1) xs))
  numbered_more f h k = subst (IsNumbered a c m o) (sym (flat_more f xs i d l)) (numbered_then a b c m n o (flat_map f (take i xs)) (f (get_or xs i d)) h k)

-- a number below the greatest is written as it is
fits_one : (ports : List (List ℕ)) (name : List ℕ) → length ports ≤ 4000 → number_within ports name ≡ number_of ports name
fits_one ports name few = min-eq_left (omega (arith, number-le (λ each. bytes_eq name each) ports))

pub numbers_fit : (ports names : List (List ℕ)) → length ports ≤ 4000 → map (number_within ports) names ≡ map (number_of ports) names
numbers_fit ports [] few = refl
numbers_fit ports (name ∷ names) few = λ i. fits_one ports name few i ∷ numbers_fit ports names few i

-- ---- a set that sees a name

pub seen_there : (names : List (List ℕ)) (name : List ℕ) (i : ℕ) → position (bytes_eq name) names ≡ Some i → names ≡ with_name names name
seen_there names name i h = let at = position-Some (bytes_eq name) names i [] h in sym (ap (λ b. cond b names (names ++ name ∷ [])) (list_any_at (bytes_eq name) names i [] at.0 at.1))

pub seen_new : (names new : List (List ℕ)) (name : List ℕ) → position (bytes_eq name) names ≡ None → new ≡ names ++ name ∷ [] → new ≡ with_name names name
seen_new names new name none is = is ∙ sym (ap (λ b. cond b names (names ++ name ∷ [])) (list_any-from_position (bytes_eq name) names none))

pub place_of_new : (names new : List (List ℕ)) (name : List ℕ) → position (bytes_eq name) names ≡ None → new ≡ with_name names name → position (bytes_eq name) new ≡ Some (length names)
place_of_new names new name none is =
    ap (position (bytes_eq name)) (is ∙ ap (λ b. cond b names (names ++ name ∷ [])) (list_any-from_position (bytes_eq name) names none)) ∙ position_end (bytes_eq name) names name none (bytes_same name)

-- ---- ports whose names are names

pub no_port_fault : (t s place : ℕ) (names : List (List ℕ)) → AllByRecursion (λ name. IsTrue (is_name name)) names → first_from place (port_fault t s) names ≡ None
no_port_fault t s place [] h = refl
no_port_fault t s place (name ∷ names) h = ap (λ b. option_or (unless b (PortName t s place)) (first_from (place + 1) (port_fault t s) names)) h.0 ∙ no_port_fault t s (place + 1) names h.1

each_key : (keys : List (String Global)) → list_any (λ key. not (is_name (string_bytes key))) keys ≡ false → AllByRecursion (λ name. IsTrue (is_name name)) (texts keys)
each_key [] h = tt
each_key (key ∷ keys) h = elim (is_name (string_bytes key)) as (λ b. is_name (string_bytes key) ≡ b → (not b || list_any (λ key. not (is_name (string_bytes key))) keys) ≡ false → AllByRecursion (λ name. IsTrue (is_name name)) (texts (key ∷ keys))) [
  | true ↦ λ yes rest. (yes, each_key keys rest)
  | false ↦ λ _ e. absurd (true≢false e)
] refl h

pub named_entries : (keys : List (String Global)) (names : List (List ℕ)) → texts keys ≡ first_sights names → position (λ key. not (is_name (string_bytes key))) keys ≡ None → AllByRecursion (λ name. IsTrue (is_name name)) names
named_entries keys names are none =
    let P : List ℕ → Type 0 = λ name. IsTrue (is_name name) in
    let all = subst (AllByRecursion P) are (each_key keys (list_any-from_position (λ key. not (is_name (string_bytes key))) keys none)) in
    each_weaker (λ name. IsTrue (list_any (bytes_eq name) (first_sights names))) P names (λ name seen. at_seen P (first_sights names) name all seen) (each_seen [] names)

pub none_from : (o : Option ℕ) → ((i : ℕ) → o ≡ Some i → ⊥) → o ≡ None
none_from None h = refl
none_from (Some i) h = absurd (h i refl)

-- ---- numbers that are taken entry by entry

module _ {A : Type 0} (xs ys : List A) (same : ys ≡ xs) (i : ℕ) (x : A) (l : i < length ys) (is : x ≡ get_or ys i x) where
  pub items_next : {B : Type 0} (f : A → B) (start now new : List B) (v : B) → now ≡ start ++ map f (take i xs) → v ≡ f x → new ≡ now ++ v ∷ [] → new ≡ start ++ map f (take (i + 1) xs)
  items_next f start now new v are own put =
      let back = sym same in
      put ∙ (λ j. are j ++ own j ∷ []) ∙ append_assoc start (map f (take i xs)) (f x ∷ [])
      ∙ (λ j. start ++ (map f (take i (back j)) ++ f (is j) ∷ []))
      ∙ ap (λ zs. start ++ zs) (sym (map_more f ys i x l)) ∙ ap (λ zs. start ++ map f (take (i + 1) zs)) same

  rest_is : drop i xs ≡ x ∷ drop (i + 1) xs
  rest_is = ap (drop i) (sym same) ∙ drop_more ys i x l ∙ (λ j. sym is j ∷ drop (i + 1) (same j))

  pub entries_here : (num : List ℕ → ℕ) (f : A → List (List ℕ)) (later : List (List ℕ)) → map num (flat_map f (drop i xs) ++ later) ≡ map num (f x ++ (flat_map f (drop (i + 1) xs) ++ later))
  entries_here num f later = ap (map num) (ap (λ zs. flat_map f zs ++ later) rest_is ∙ append_assoc (f x) (flat_map f (drop (i + 1) xs)) later)

  pub entries_next : (num : List ℕ → ℕ) (f : A → List (List ℕ)) (later : List (List ℕ)) (now rest : List ℕ) (n : ℕ) → now ≡ map num (flat_map f (drop i xs) ++ later) → n ≡ length (f x) → rest ≡ drop n now →
      rest ≡ map num (flat_map f (drop (i + 1) xs) ++ later)
  entries_next num f later now rest n are many left =
      let after = flat_map f (drop (i + 1) xs) ++ later in
      left ∙ (λ j. drop (many j) ((are ∙ entries_here num f later ∙ map-append num (f x) after) j)) ∙ dropped (f x) where
        dropped : (names : List (List ℕ)) → drop (length names) (map num names ++ map num (flat_map f (drop (i + 1) xs) ++ later)) ≡ map num (flat_map f (drop (i + 1) xs) ++ later)
        dropped [] = refl
        dropped (name ∷ names) = dropped names

-- ---- a set that sees a name

list_any-texts : (p : List ℕ → Bool) (keys : List (String Global)) → list_any p (texts keys) ≡ list_any (λ k. p (string_bytes k)) keys
list_any-texts p [] = refl
list_any-texts p (k ∷ keys) = ap (λ b. p (string_bytes k) || b) (list_any-texts p keys)

-- a set of texts that takes it
pub with_name-new : (keys new : List (String Global)) (key : String Global) (name : List ℕ) → string_bytes key ≡ name → new ≡ cond (list_any (string_eq key) keys) keys (keys ++ key ∷ []) → texts new ≡ with_name (texts keys) name
with_name-new keys new key name is h =
    ap texts h ∙ elim (list_any (string_eq key) keys) as (λ b. texts (cond b keys (keys ++ key ∷ [])) ≡ cond b (texts keys) (texts keys ++ string_bytes key ∷ [])) [
      | true ↦ refl
      | false ↦ map_push (λ t. string_bytes t) keys key
    ]
    ∙ ap (λ b. cond b (texts keys) (texts keys ++ string_bytes key ∷ [])) (sym (list_any-texts (bytes_eq (string_bytes key)) keys))
    ∙ ap (with_name (texts keys)) is

-- Lines along origins, one move more at a time.
use Rattle.std.proofs.Common.{◌≡◌, ℕ, zero, suc, ◌+◌, ◌<◌, ◌≤◌, Bool, true, false, cond, List, [], ◌∷◌, ◌++◌, length, map, take, get_or, Some, None, refl, sym, ap, ◌∙◌, arith, append-nil, append_assoc}
use Rattle.std.specs.Prelude.{IsSome}
use Rattle.std.specs.List.{filter}
use Rattle.std.specs.Option.{option_map_or}
use Rattle.std.proofs.lemmas.List.{length-map, length-take-le, map-append, take_more}
use Rattle.std.proofs.lemmas.List.Elements.{filter-append}
use Rattle.metis_ids.specs.declared.actions.Action.{Action}
use Rattle.metis_ids.specs.declared.actions.Action.TheVariants.{New}
use Rattle.metis_universe.specs.Terms.{Universe, layer_of, origin_of, pair_count, type_of}
use Rattle.metis_layers.proofs.LayerFacts.{layer_below, no_origin, origin_at}
use Rattle.metis_support.proofs.Selections.{some_is}
use Rattle.metis_layers.specs.Terms.{path_to, path_within, slot_line, slot_lines, slot_move, slot_moves}

-- ---- one more of those that pass

pub kept_more : (t : ℕ → Bool) (xs : List ℕ) (i r : ℕ) (v v' : List ℕ) → i < length xs → r ≡ get_or xs i r → t r ≡ true → v' ≡ v ++ r ∷ [] → v ≡ filter t (take i xs) → v' ≡ filter t (take (i + 1) xs)
kept_more t xs i r v v' low is passes more before =
    more ∙ ap (λ l. l ++ r ∷ []) before ∙ ap (λ b. filter t (take i xs) ++ cond b (r ∷ []) []) (sym passes) ∙ sym (filter-append t (take i xs) (r ∷ []))
    ∙ ap (λ x. filter t (take i xs ++ x ∷ [])) is ∙ ap (filter t) (sym (take_more xs i r low))

pub kept_past : (t : ℕ → Bool) (xs : List ℕ) (i r : ℕ) (v : List ℕ) → i < length xs → r ≡ get_or xs i r → t r ≡ false → v ≡ filter t (take i xs) → v ≡ filter t (take (i + 1) xs)
kept_past t xs i r v low is fails before =
    before ∙ sym (append-nil (filter t (take i xs))) ∙ ap (λ b. filter t (take i xs) ++ cond b (r ∷ []) []) (sym fails) ∙ sym (filter-append t (take i xs) (r ∷ []))
    ∙ ap (λ x. filter t (take i xs ++ x ∷ [])) is ∙ ap (filter t) (sym (take_more xs i r low))

-- ---- paths

module _ (u : Universe) where
  nothing_before : (n p : ℕ) → origin_of u p ≡ None → path_within u n p ≡ p ∷ []
  nothing_before zero p none = refl
  nothing_before (suc n) p none = ap (λ o. option_map_or (path_within u n) o [] ++ p ∷ []) none

  -- along any number of origins that is enough
  path_same : (n m p l : ℕ) → layer_of u p ≡ Some l → l ≤ n → l ≤ m → path_within u n p ≡ path_within u m p
  path_same n m p zero is short long = let none = no_origin u p is in nothing_before n p none ∙ sym (nothing_before m p none)
  path_same zero m p (suc l) is short long = absurd (omega arith)
  path_same (suc n) zero p (suc l) is short long = absurd (omega arith)
  path_same (suc n) (suc m) p (suc l) is short long =
      let o = origin_at u p l is in
      let before = path_same n m o.origin o.lower.layer o.lower.is (omega (arith, o.lower.low)) (omega (arith, o.lower.low)) in
      ap (λ v. option_map_or (path_within u n) v [] ++ p ∷ []) o.is ∙ ap (λ l. l ++ p ∷ []) before ∙ ap (λ v. option_map_or (path_within u m) v [] ++ p ∷ []) (sym o.is)

  path_last : (p l : ℕ) → layer_of u p ≡ Some l → path_to u p ≡ option_map_or (path_to u) (origin_of u p) [] ++ p ∷ []
  path_last p l is = let low = layer_below u p l is in path_same (pair_count u) (suc (pair_count u)) p l is (omega arith) (omega arith)

  -- ---- lines

  module _ (holder : ℕ → ℕ → ℕ) (z : ℕ) where
    moves_two : (x : ℕ) (xs : List ℕ) (o q : ℕ) → slot_moves u holder z x ((xs ++ o ∷ []) ++ q ∷ []) ≡ slot_moves u holder z x (xs ++ o ∷ []) ++ slot_move u holder z o q
    moves_two x [] o q = ap (λ l. slot_move u holder z x o ++ l) (append-nil (slot_move u holder z o q)) ∙ ap (λ l. l ++ slot_move u holder z o q) (sym (append-nil (slot_move u holder z x o)))
    moves_two x (y ∷ xs) o q = ap (λ l. slot_move u holder z x y ++ l) (moves_two y xs o q) ∙ sym (append_assoc (slot_move u holder z x y) (slot_moves u holder z y (xs ++ o ∷ [])) (slot_move u holder z o q))

    line_two : (xs : List ℕ) (o q : ℕ) → slot_line u holder z ((xs ++ o ∷ []) ++ q ∷ []) ≡ slot_line u holder z (xs ++ o ∷ []) ++ slot_move u holder z o q
    line_two [] o q = ap (λ l. New z (type_of u o) ∷ l) (append-nil (slot_move u holder z o q))
    line_two (x ∷ xs) o q = ap (λ l. New z (type_of u x) ∷ l) (moves_two x xs o q)

    line_hop : (n o q : ℕ) → slot_line u holder z (path_within u n o ++ q ∷ []) ≡ slot_line u holder z (path_within u n o) ++ slot_move u holder z o q
    line_hop zero o q = line_two [] o q
    line_hop (suc n) o q = line_two (option_map_or (path_within u n) (origin_of u o) []) o q

    line_first : (p l : ℕ) → layer_of u p ≡ Some l → origin_of u p ≡ None → slot_line u holder z (path_to u p) ≡ New z (type_of u p) ∷ []
    line_first p l is none = ap (slot_line u holder z) (path_last p l is ∙ ap (λ o. option_map_or (path_to u) o [] ++ p ∷ []) none)

    line_next : (p l o : ℕ) → layer_of u p ≡ Some l → origin_of u p ≡ Some o → slot_line u holder z (path_to u p) ≡ slot_line u holder z (path_to u o) ++ slot_move u holder z o p
    line_next p l o is from = ap (slot_line u holder z) (path_last p l is ∙ ap (λ o. option_map_or (path_to u) o [] ++ p ∷ []) from) ∙ line_hop (pair_count u) o p

    pub line_goes : (p o : ℕ) (old mid new : List Action) → IsSome (layer_of u p) → origin_of u p ≡ Some o → mid ≡ old ++ slot_line u holder z (path_to u o) → new ≡ mid ++ slot_move u holder z o p → new ≡ old ++ slot_line u holder z (path_to u p)
    line_goes p o old mid new h from before more =
        let l = some_is (layer_of u p) h in
        more ∙ ap (λ l. l ++ slot_move u holder z o p) before ∙ append_assoc old (slot_line u holder z (path_to u o)) (slot_move u holder z o p) ∙ ap (λ l. old ++ l) (sym (line_next p l.0 o l.1 from))

    pub line_begins : (p t : ℕ) (old new : List Action) → IsSome (layer_of u p) → origin_of u p ≡ None → t ≡ type_of u p → new ≡ old ++ New z t ∷ [] → new ≡ old ++ slot_line u holder z (path_to u p)
    line_begins p t old new h none kind more = let l = some_is (layer_of u p) h in more ∙ ap (λ x. old ++ New z x ∷ []) kind ∙ ap (λ l. old ++ l) (sym (line_first p l.0 l.1 none))

  module _ (holder : ℕ → ℕ → ℕ) where
    lines_push : (z : ℕ) (paths : List (List ℕ)) (path : List ℕ) → slot_lines u holder z (paths ++ path ∷ []) ≡ slot_lines u holder z paths ++ slot_line u holder (z + length paths) path
    lines_push z [] path = let same : z + 0 ≡ z = omega arith in append-nil (slot_line u holder z path) ∙ ap (λ x. slot_line u holder x path) (sym same)
    lines_push z (p ∷ paths) path =
        let same : z + 1 + length paths ≡ z + suc (length paths) = omega arith in
        ap (λ l. slot_line u holder z p ++ l) (lines_push (z + 1) paths path ∙ ap (λ x. slot_lines u holder (z + 1) paths ++ slot_line u holder x path) same)
        ∙ sym (append_assoc (slot_line u holder z p) (slot_lines u holder (z + 1) paths) (slot_line u holder (z + suc (length paths)) path))

    pub lines_more : (pairs : List ℕ) (i z x : ℕ) (now new : List Action) → i < length pairs → z ≡ i → x ≡ get_or pairs i x → now ≡ slot_lines u holder 0 (map (path_to u) (take i pairs)) → new ≡ now ++ slot_line u holder z (path_to u x)
        → new ≡ slot_lines u holder 0 (map (path_to u) (take (i + 1) pairs))
    lines_more pairs i z x now new low number is before more =
        let count : 0 + length (map (path_to u) (take i pairs)) ≡ z = omega (arith, length-map (take i pairs) (path_to u), length-take-le i pairs (omega arith)) in
        more ∙ ap (λ l. l ++ slot_line u holder z (path_to u x)) before
        ∙ ap (λ n. slot_lines u holder 0 (map (path_to u) (take i pairs)) ++ slot_line u holder n (path_to u x)) (sym count)
        ∙ sym (lines_push 0 (map (path_to u) (take i pairs)) (path_to u x))
        ∙ ap (slot_lines u holder 0) (sym (map-append (path_to u) (take i pairs) (x ∷ [])))
        ∙ ap (λ q. slot_lines u holder 0 (map (path_to u) (take i pairs ++ q ∷ []))) is
        ∙ ap (λ ps. slot_lines u holder 0 (map (path_to u) ps)) (sym (take_more pairs i x low))

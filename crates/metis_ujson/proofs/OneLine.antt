-- The text of a value is one line: a line feed inside a text is escaped.
use Rattle.std.proofs.Common.{◌≡◌, ℕ, ◌+◌, ◌/◌, ◌%◌, Bool, true, false, cond, not, ◌||◌, List, [], ◌∷◌, ◌++◌, refl, arith, nat_lt}
use Rattle.std.specs.Prelude.{pos, negsuc}
use Rattle.std.specs.Bool.{◌==◌}
use Rattle.std.specs.Char.{digit_char}
use Rattle.std.proofs.lemmas.Bool.{and_from}
use Rattle.std.proofs.lemmas.Bool.Decides.{nat_tests}
use Rattle.json.specs.Print.{escape, escape_byte, escape_letter, quoted}
use Rattle.serde_json.specs.Data.{Data, null, boolean, number, unsigned, negative, float, Num, string, array, object, Items, no_items, item, Members, no_members, member}
use Rattle.serde_json.specs.Written.{number_text, compact_text, items_text, members_text}
use Rattle.metis_outside.proofs.Feeds.{IsLine-from, no_feed, no_feed-append, no_feed-decimal}
use Rattle.metis_outside.specs.Terms.{IsLine}
use Rattle.metis_universe.specs.Terms.{Universe}
use Rattle.metis_ujson.specs.Terms.{canonical, document_of, rows_of_universe}

-- ---- texts

quote_other : (x : ℕ) → ((x == 34) || (x == 92)) ≡ true → not (x == 10) ≡ true
quote_other x h = grind (arith, nat_tests)

chosen_other : (b : Bool) (x y : ℕ) → (b ≡ true → not (x == 10) ≡ true) → not (y == 10) ≡ true → not (cond b x y == 10) ≡ true
chosen_other true x y one two = one refl
chosen_other false x y one two = two

letter_other : (x : ℕ) → not (escape_letter x == 10) ≡ true
letter_other x =
    let tab = cond (x == 9) 116 0 in
    let carriage = cond (x == 13) 114 tab in
    let feed = cond (x == 10) 110 carriage in
    let form = cond (x == 12) 102 feed in
    let back = cond (x == 8) 98 form in
    chosen_other ((x == 34) || (x == 92)) x back (quote_other x)
    (chosen_other (x == 8) 98 form (λ _. refl)
    (chosen_other (x == 12) 102 feed (λ _. refl)
    (chosen_other (x == 10) 110 carriage (λ _. refl)
    (chosen_other (x == 13) 114 tab (λ _. refl)
    (chosen_other (x == 9) 116 0 (λ _. refl) refl)))))

digit_other : (d : ℕ) → not (digit_char d == 10) ≡ true
digit_other d = elim (nat_lt d 10) as (λ b. not (cond b (48 + d) (87 + d) == 10) ≡ true) [ true ↦ grind (arith, nat_tests) | false ↦ grind (arith, nat_tests) ]

plain_other : (x : ℕ) → nat_lt x 32 ≡ false → not (x == 10) ≡ true
plain_other x h = grind (arith, nat_tests)

no_feed-escape_byte : (x : ℕ) → no_feed (escape_byte x) ≡ true
unfolding escape_byte
no_feed-escape_byte x =
    let digits : List ℕ = 92 ∷ 117 ∷ 48 ∷ 48 ∷ digit_char (x / 16) ∷ digit_char (x % 16) ∷ [] in
    let behind : no_feed (cond (nat_lt x 32) digits (x ∷ [])) ≡ true =
    elim (nat_lt x 32) as (λ b. nat_lt x 32 ≡ b → no_feed (cond b digits (x ∷ [])) ≡ true) [
      | true ↦ λ _. and_from _ _ (digit_other (x / 16)) (and_from _ _ (digit_other (x % 16)) refl)
      | false ↦ λ is. and_from _ _ (plain_other x is) refl
    ] refl in
    elim (nat_lt 0 (escape_letter x)) as (λ b. no_feed (cond b (92 ∷ escape_letter x ∷ []) (cond (nat_lt x 32) digits (x ∷ []))) ≡ true) [
      | true ↦ and_from _ _ (letter_other x) refl
      | false ↦ behind
    ]

no_feed-escape : (s : List ℕ) → no_feed (escape s) ≡ true
no_feed-escape [] = refl
no_feed-escape (x ∷ s) = no_feed-append (escape_byte x) (escape s) (no_feed-escape_byte x) (no_feed-escape s)

no_feed-quoted : (s : List ℕ) → no_feed (quoted s) ≡ true
no_feed-quoted s = no_feed-append (escape s) (34 ∷ []) (no_feed-escape s) refl

-- ---- values

no_feed-number_text : (n : Num) → no_feed (number_text n) ≡ true
no_feed-number_text (unsigned n) = no_feed-decimal n
no_feed-number_text (negative (pos n)) = no_feed-decimal n
no_feed-number_text (negative (negsuc n)) = no_feed-decimal _
no_feed-number_text (float x) = refl

one_member : (k : List ℕ) (d : Data) (behind : List ℕ) → no_feed (compact_text d) ≡ true → no_feed behind ≡ true → no_feed (quoted k ++ 58 ∷ (compact_text d ++ behind)) ≡ true
one_member k d behind value rest = no_feed-append (quoted k) (58 ∷ (compact_text d ++ behind)) (no_feed-quoted k) (no_feed-append (compact_text d) behind value rest)

mutual
  no_feed-compact_text : (d : Data) → no_feed (compact_text d) ≡ true
  no_feed-compact_text null = refl
  no_feed-compact_text (boolean true) = refl
  no_feed-compact_text (boolean false) = refl
  no_feed-compact_text (number n) = no_feed-number_text n
  no_feed-compact_text (string s) = no_feed-quoted s
  no_feed-compact_text (array ds) = no_feed-items_text false ds
  no_feed-compact_text (object ms) = no_feed-members_text false ms

  no_feed-items_text : (later : Bool) (ds : Items) → no_feed (items_text later ds) ≡ true
  no_feed-items_text later no_items = refl
  no_feed-items_text true (item d ds) = no_feed-append (compact_text d) (items_text true ds) (no_feed-compact_text d) (no_feed-items_text true ds)
  no_feed-items_text false (item d ds) = no_feed-append (compact_text d) (items_text true ds) (no_feed-compact_text d) (no_feed-items_text true ds)

  no_feed-members_text : (later : Bool) (ms : Members) → no_feed (members_text later ms) ≡ true
  no_feed-members_text later no_members = refl
  no_feed-members_text true (member k d ms) = one_member k d (members_text true ms) (no_feed-compact_text d) (no_feed-members_text true ms)
  no_feed-members_text false (member k d ms) = one_member k d (members_text true ms) (no_feed-compact_text d) (no_feed-members_text true ms)

pub IsLine-canonical : (u : Universe) → IsLine (canonical u)
IsLine-canonical u = let d = document_of u.version (rows_of_universe u) in IsLine-from (compact_text d) (no_feed-compact_text d)

-- Where a plan's instances are is told by lines.
use Rattle.std.proofs.Common.{◌≡◌, ℕ, ◌+◌, ◌<◌, ◌==◌, suc, zero, true, false, not, List, [], ◌∷◌, ◌++◌, length, map, drop, get_or, refl, sym, ap, ◌∙◌, subst, decimal, arith, if◌then◌else◌}
use Rattle.std.specs.Prelude.{codes}
use Rattle.std.specs.List.{All}
use Rattle.std.proofs.lemmas.Bool.{and_parts}
use Rattle.std.proofs.lemmas.Bool.Decides.{nat_tests}
use Rattle.std.proofs.lemmas.List.{drop_more}
use Rattle.std.proofs.lemmas.List.Elements.{All-head, All-tail, All-weaker}
use Rattle.metis_commands.specs.Terms.{hold_line, hold_lines, hold_of_action, no_room_line, on_line, on_lines, placed_line}
use Rattle.metis_outside.proofs.Feeds.{IsLine-append, no_feed, no_feed-append, no_feed-decimal}
use Rattle.metis_outside.specs.Terms.{IsLine}
use Rattle.metis_output.proofs.LineWords.{by_three, by_two, by_word, feed, number_then}
use Rattle.metis_place.specs.Terms.{HostLists, IsEntry, name_of}
use Rattle.metis_tokens.proofs.Printed.{all_weaker}
use Rattle.metis_tokens.proofs.WordFeeds.{no_feed-added_numbers}
use Rattle.metis_tokens.specs.Terms.{added}
use Rattle.metis_universe.specs.Terms.{is_name_byte}

module _ (holds : List (List ℕ)) (i : ℕ) (low : i < length holds) where
  abbrev this : List ℕ
  this = get_or holds i []

  abbrev others : List (List ℕ)
  others = hold_lines (i + 1 + 1) (drop (i + 1) holds)

  next : hold_lines (i + 1) (drop i holds) ≡ hold_of_action (i + 1) this ++ others
  next = ap (hold_lines (i + 1)) (drop_more holds i [] low)

  -- an action without further waits has no line
  pub hold_of_none : (length this == 0) ≡ true → hold_lines (i + 1) (drop i holds) ≡ others
  hold_of_none none = next ∙ ap (λ b. (if b then [] else hold_line (i + 1) this ∷ []) ++ others) none

  -- one with some has one
  pub hold_of_some : (length this == 0) ≡ false → hold_lines (i + 1) (drop i holds) ≡ hold_line (i + 1) this ∷ others
  hold_of_some some = next ∙ ap (λ b. (if b then [] else hold_line (i + 1) this ∷ []) ++ others) some

IsLine-hold_line : (k : ℕ) (ms : List ℕ) → IsLine (hold_line k ms)
IsLine-hold_line k ms =
    IsLine-append (codes "hold " ++ (decimal k ++ codes " after")) (added (map decimal ms) ++ codes "\n")
    (no_feed-append (codes "hold ") (decimal k ++ codes " after") refl (no_feed-append (decimal k) (codes " after") (no_feed-decimal k) refl))
    (IsLine-append (added (map decimal ms)) (codes "\n") (no_feed-added_numbers ms) feed)

IsLine-placed_line : (made hosts : ℕ) → IsLine (placed_line made hosts)
IsLine-placed_line made hosts = by_two (codes "placed ") made (codes " hosts ") hosts refl refl

pub is_no_room_line : (bytes : List ℕ) (k size free : ℕ) → bytes ≡ no_room_line k size free → IsLine bytes
is_no_room_line bytes k size free same = subst IsLine (sym same) (by_three (codes "noroom ") k (codes " size ") size (codes " free ") free refl refl refl)

pub is_hold_line : (bytes : List ℕ) (k : ℕ) (ms : List ℕ) → bytes ≡ hold_line k ms → IsLine bytes
is_hold_line bytes k ms same = subst IsLine (sym same) (IsLine-hold_line k ms)

pub is_placed_line : (bytes : List ℕ) (made hosts : ℕ) → bytes ≡ placed_line made hosts → IsLine bytes
is_placed_line bytes made hosts same = subst IsLine (sym same) (IsLine-placed_line made hosts)

-- the names of hosts have no line feed
names_have_none : (es : List (List ℕ × ℕ)) → All IsEntry es → All (λ e. no_feed e.0 ≡ true) es
names_have_none es are = All-weaker IsEntry (λ e. no_feed e.0 ≡ true) (λ e is. all_weaker is_name_byte (λ b. not (b == 10)) name_byte_feeds e.0 (and_parts _ _ is.0).1) es are where
  name_byte_feeds : (b : ℕ) → is_name_byte b ≡ true → not (b == 10) ≡ true
  name_byte_feeds b h = grind (arith, nat_tests)

-- a place that no host has has the empty name
name_has_no_feed : (hosts : List (List ℕ × ℕ)) (sizes : List ℕ) (i : ℕ) → All (λ e. no_feed e.0 ≡ true) hosts → no_feed (name_of (record { hosts = hosts; sizes = sizes }) i) ≡ true
name_has_no_feed [] sizes i each = refl
name_has_no_feed (e ∷ es) sizes zero each = All-head (λ e. no_feed e.0 ≡ true) e es each
name_has_no_feed (e ∷ es) sizes (suc i) each = name_has_no_feed es sizes i (All-tail (λ e. no_feed e.0 ≡ true) e es each)

-- the line of an instance on a host
pub is_on_line : (bytes : List ℕ) (h : HostLists) (z i : ℕ) → All IsEntry h.hosts → bytes ≡ on_line z (name_of h i) → IsLine bytes
is_on_line bytes h z i entries same =
    subst IsLine (sym same) (number_then (codes "on ") z (codes " " ++ (name_of h i ++ codes "\n")) refl (by_word (codes " ") (name_of h i) refl (name_has_no_feed h.hosts h.sizes i (names_have_none h.hosts entries))))

-- those of the instances from a place on
pub seats_next : (h : HostLists) (made places : List ℕ) (i : ℕ) → i < length made → i < length places
    → on_lines h (drop i made) (drop i places) ≡ on_line (get_or made i 0) (name_of h (get_or places i 0)) ∷ on_lines h (drop (i + 1) made) (drop (i + 1) places)
seats_next h made places i low low' =
    ap (λ ms. on_lines h ms (drop i places)) (drop_more made i 0 low) ∙ ap (λ ps. on_lines h (get_or made i 0 ∷ drop (i + 1) made) ps) (drop_more places i 0 low')

pub seats_end : (h : HostLists) (made places : List ℕ) → places ≡ [] → on_lines h made places ≡ []
seats_end h [] places none = refl
seats_end h (z ∷ made) [] none = refl
seats_end h (z ∷ made) (i ∷ places) none = cc

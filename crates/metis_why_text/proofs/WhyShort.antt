-- The text of an explanation is short enough to be read.
use Rattle.std.proofs.Common.{◌≡◌, ℕ, suc, ◌*◌, ◌<◌, ◌≤◌, ◌^◌, true, List, [], ◌∷◌, ◌++◌, Option, Some, None, length, map, refl, sym, ap, ◌∙◌, arith, decimal, nat_eq, length-append, lit≤}
use Rattle.std.specs.Prelude.{◌||◌, IfSome, codes, nat_le}
use Rattle.std.specs.List.{All, list_all}
use Rattle.std.proofs.lemmas.Bool.{and_parts, leb-true}
use Rattle.std.proofs.lemmas.Fmt.{length-decimal-le_succ}
use Rattle.std.proofs.lemmas.List.Elements.{All-append, All-cons, All-head, All-map, All-nil, All-tail}
use Rattle.metis_ids.specs.declared.goals.Goal.{Goal}
use Rattle.metis_ids.specs.declared.goals.Goal.TheVariants.{Pair, Port}
use Rattle.metis_outside.specs.Terms.{bytes_of}
use Rattle.metis_tokens.specs.Terms.{end_line, line, words}
use Rattle.metis_universe.specs.Terms.{IsTable, IsWordable, Universe, goal_word, has, is_between, is_name, is_name_byte, pair_count, pair_word, port_count, port_name_of, providers_of, state_name_of, type_name_of, type_of}
use Rattle.metis_why.proofs.Ordered.{few_named, short}
use Rattle.metis_why.specs.Terms.{AreApart, AreOnce, IsLineOf, IsNameable, IsWhy, listed, named_by}
use Rattle.metis_why.specs.declared.reason.Line.{Line}
use Rattle.metis_why.specs.declared.reason.Reason.{Reason}
use Rattle.metis_why.specs.declared.reason.Reason.TheVariants.{Needs, Comes}
use Rattle.metis_why_text.proofs.Named.{named_below}
use Rattle.metis_why_text.proofs.Printed.{start_low}
use Rattle.metis_why_text.specs.Terms.{IsWhyText, comes_tokens, count_line, lacks_line, lacks_tokens, line_text, line_tokens, list_words, reason_tokens, start_port, why_bytes, why_header, why_lines, why_rest}

-- ---- lines of few short tokens

abbrev IsShort : List ℕ → Type 0
IsShort t = length t ≤ 129

abbrev AreShort : List (List ℕ) → Type 0
AreShort ts = All IsShort ts

-- so many of them, of which a line can be made
pub record IsFew (ts : List (List ℕ)) : Type 0 where
  pub each : AreShort ts
  pub count : length ts ≤ 2007

words_short : (ts : List (List ℕ)) → AreShort ts → length (words ts) ≤ 130 * length ts
words_short [] each = omega arith
words_short (t ∷ []) each = let one = All-head IsShort t [] each in omega (arith, one)
words_short (t ∷ s ∷ ts) each =
    let one = All-head IsShort t (s ∷ ts) each in
    let rest = words_short (s ∷ ts) (All-tail IsShort t (s ∷ ts) each) in
    omega (arith, one, rest, length-append t (32 ∷ words (s ∷ ts)))

abbrev IsShortLine : List ℕ → Type 0
IsShortLine l = length l ≤ 260911

line_short : (ts : List (List ℕ)) → IsFew ts → IsShortLine (line ts)
line_short ts few =
    let bytes = words_short ts few.each in
    let count = few.count in
    omega (arith, bytes, count, length-append (words ts) (codes "\n"))

lines_short : (ls : List (List ℕ)) → All IsShortLine ls → length (bytes_of ls) ≤ 260911 * length ls
lines_short [] each = omega arith
lines_short (l ∷ ls) each =
    let one = All-head IsShortLine l ls each in
    let rest = lines_short ls (All-tail IsShortLine l ls each) in
    omega (arith, one, rest, length-append l (bytes_of ls))

-- ---- words of the universe

name_short : (bytes : List ℕ) → is_name bytes ≡ true → length bytes ≤ 64
name_short bytes is =
    let between = and_parts (is_between 1 64 (length bytes)) (list_all is_name_byte bytes) is in
    leb-true (length bytes) 64 (and_parts (nat_le 1 (length bytes)) (nat_le (length bytes) 64) between.0).1

map_few : (f : ℕ → List ℕ) (pairs : List ℕ) → length (map f pairs) ≡ length pairs
map_few f [] = refl
map_few f (p ∷ pairs) = ap (λ n. suc n) (map_few f pairs)

comes_short : AreShort (codes "comes" ∷ codes "from" ∷ [])
comes_short = All-cons IsShort (codes "comes") (codes "from" ∷ []) (lit≤ tt) (All-cons IsShort (codes "from") [] (lit≤ tt) (All-nil IsShort))

pairs_many : (lines : List Line) → length (map (λ l. l.pair) lines) ≡ length lines
pairs_many [] = refl
pairs_many (l ∷ lines) = ap (λ n. suc n) (pairs_many lines)

texts_many : (u : Universe) (lines : List Line) → length (map (line_text u) lines) ≡ length lines
texts_many u [] = refl
texts_many u (l ∷ lines) = ap (λ n. suc n) (texts_many u lines)

count_short : (n : ℕ) → n ≤ 2000 → IsShortLine (count_line n)
count_short n few =
    let digits = length-decimal-le_succ n (omega (arith, few)) in
    omega (arith, few, digits, length-append (codes "lines") (32 ∷ decimal n), length-append (codes "lines" ++ 32 ∷ decimal n) (codes "\n"))

module _ (u : Universe) (k : IsTable u) where
  pair_short : (p : ℕ) → p < pair_count u → IsShort (pair_word u p)
  pair_short p low =
      let kind = name_short (type_name_of u (type_of u p)) (k.named.types (type_of u p) (k.universe.types p low)) in
      let state = name_short (state_name_of u p) (k.named.states p low) in
      omega (arith, kind, state, length-append (type_name_of u (type_of u p)) (codes ":" ++ state_name_of u p), length-append (codes ":") (state_name_of u p))

  port_short : (r : ℕ) → r < port_count u → IsShort (port_name_of u r)
  port_short r low = let name = name_short (port_name_of u r) (k.named.ports r low) in omega (arith, name)

  goal_short : (g : Goal) → IsWordable u g → IsShort (goal_word u g)
  goal_short (Pair p) low = pair_short p low
  goal_short (Port r) low =
      let name = name_short (port_name_of u r) (k.named.ports r low.0) in
      omega (arith, name, length-append (codes "port") (codes ":" ++ port_name_of u r), length-append (codes ":") (port_name_of u r))

  list_few : (pairs : List ℕ) → All (λ p. p < pair_count u) pairs → length pairs ≤ 2000 → AreShort (list_words u pairs) × (length (list_words u pairs) ≤ 2000)
  list_few [] low few = (All-cons IsShort (codes "none") [] (omega arith) (All-nil IsShort), omega arith)
  list_few (p ∷ pairs) low few = (All-map IsShort (pair_word u) (p ∷ pairs) (λ n d there. pair_short _ (low n d there)), omega (arith, few, map_few (pair_word u) (p ∷ pairs)))

  comes_few : (o : Option ℕ) → IfSome o (λ r. r < port_count u) → AreShort (comes_tokens u o) × (length (comes_tokens u o) ≤ 6)
  comes_few None low = (comes_short, lit≤ tt)
  comes_few (Some r) low =
      let last : AreShort (codes "and" ∷ codes "comes" ∷ codes "from" ∷ []) = All-cons IsShort (codes "and") (codes "comes" ∷ codes "from" ∷ []) (lit≤ tt) comes_short in (
        All-cons IsShort (codes "starts") (codes "needing" ∷ port_name_of u r ∷ codes "and" ∷ codes "comes" ∷ codes "from" ∷ []) (lit≤ tt)
            (All-cons IsShort (codes "needing") (port_name_of u r ∷ codes "and" ∷ codes "comes" ∷ codes "from" ∷ []) (lit≤ tt) (All-cons IsShort (port_name_of u r) (codes "and" ∷ codes "comes" ∷ codes "from" ∷ []) (port_short r low) last)),
        lit≤ tt,
      )

  reason_few : (q : ℕ) (reason : Reason) → q < pair_count u → IsNameable u reason → AreShort (reason_tokens u q reason) × (length (reason_tokens u q reason) ≤ 6)
  reason_few q (Needs r) low port = (
    All-cons IsShort (codes "needs") (port_name_of u r ∷ codes "from" ∷ []) (lit≤ tt) (All-cons IsShort (port_name_of u r) (codes "from" ∷ []) (port_short r port) (All-cons IsShort (codes "from") [] (lit≤ tt) (All-nil IsShort))),
    lit≤ tt,
  )
  reason_few q Comes low port = comes_few (start_port u q) (start_low u k.universe k.named q low)

  line_few : (l : Line) → IsLineOf u l → IsFew (line_tokens u l)
  line_few l its =
      let reason = reason_few l.pair l.reason its.pair its.port in
      let list = list_few (named_by u l.pair l.reason) (named_below u l.pair l.reason) (few_named u 2000 k.limits.pairs l.pair l.reason) in
      let before = reason.1 in
      let behind = list.1 in
      record {
        each = All-append IsShort (pair_word u l.pair ∷ reason_tokens u l.pair l.reason) (list_words u (named_by u l.pair l.reason)) (All-cons IsShort (pair_word u l.pair) (reason_tokens u l.pair l.reason) (pair_short l.pair its.pair) reason.0) list.0;
        count = omega (arith, before, behind, length-append (pair_word u l.pair ∷ reason_tokens u l.pair l.reason) (list_words u (named_by u l.pair l.reason)));
      }

  lacks_few : (g : Goal) → IsWordable u g → IsFew (lacks_tokens u g)
  lacks_few (Pair p) low = record {
    each = All-cons IsShort (codes "lacks") (goal_word u (Pair p) ∷ []) (lit≤ tt) (All-cons IsShort (goal_word u (Pair p)) [] (goal_short (Pair p) low) (All-nil IsShort));
    count = lit≤ tt;
  }
  lacks_few (Port r) low =
      let list = list_few (providers_of u r) (named_below u 0 (Needs r)) (few_named u 2000 k.limits.pairs 0 (Needs r)) in
      let behind = list.1 in
      record {
        each = All-append IsShort (codes "lacks" ∷ goal_word u (Port r) ∷ codes "from" ∷ []) (list_words u (providers_of u r))
            (All-cons IsShort (codes "lacks") (goal_word u (Port r) ∷ codes "from" ∷ []) (lit≤ tt) (All-cons IsShort (goal_word u (Port r)) (codes "from" ∷ []) (goal_short (Port r) low) (All-cons IsShort (codes "from") [] (lit≤ tt) (All-nil IsShort)))) list.0;
        count = omega (arith, behind, length-append (codes "lacks" ∷ goal_word u (Port r) ∷ codes "from" ∷ []) (list_words u (providers_of u r)));
      }

  -- ---- how many lines there are

  listed_is : (lines : List Line) (p : ℕ) → listed lines p ≡ has (map (λ l. l.pair) lines) p
  listed_is [] p = refl
  listed_is (l ∷ lines) p = λ i. nat_eq l.pair p || listed_is lines p i

  once_apart : (lines : List Line) → AreOnce lines → AreApart (map (λ l. l.pair) lines)
  once_apart [] once = tt
  once_apart (l ∷ lines) once = (sym (listed_is lines l.pair) ∙ once.0, once_apart lines once.1)

  lines_few : (g : Goal) (lines : List Line) → IsWhy u g lines → length lines ≤ 2000
  lines_few g lines why =
      let most = short (pair_count u) (map (λ l. l.pair) lines) (once_apart lines why.once) (λ p there. why.pairs p (listed_is lines p ∙ there)) in
      let limit = k.limits.pairs in
      omega (arith, most, limit, pairs_many lines)

  all_short : (g : Goal) (lines : List Line) → IsWhyText u g lines → IsWhy u g lines → length (why_bytes u g lines) ≤ 2 ^ 30
  all_short g lines text why =
      let few = lines_few g lines why in
      let bytes = lines_short (why_lines u g lines) each in
      omega (arith, few, bytes, length-append (map (line_text u) lines) (end_line ∷ []), texts_many u lines)
    where
      rest : All IsShortLine (why_rest u lines)
      rest =
          All-append IsShortLine (map (line_text u) lines) (end_line ∷ []) (All-map IsShortLine (line_text u) lines (λ n d low. line_short (line_tokens u _) (line_few _ (text.tellable n d low).of_universe)))
          (All-cons IsShortLine end_line [] (lit≤ tt) (All-nil IsShortLine))

      count : IsShortLine (count_line (length lines))
      count = count_short (length lines) (lines_few g lines why)

      each : All IsShortLine (why_lines u g lines)
      each =
          All-cons IsShortLine why_header (lacks_line u g ∷ count_line (length lines) ∷ why_rest u lines) (lit≤ tt)
          (All-cons IsShortLine (lacks_line u g) (count_line (length lines) ∷ why_rest u lines) (line_short (lacks_tokens u g) (lacks_few g text.lacking)) (All-cons IsShortLine (count_line (length lines)) (why_rest u lines) count rest))

pub why_short : (u : Universe) (g : Goal) (lines : List Line) → IsTable u → IsWhyText u g lines → IsWhy u g lines → length (why_bytes u g lines) ≤ 2 ^ 30
why_short u g lines k text why = all_short u k g lines text why

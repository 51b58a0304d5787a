-- The text of hosts is read as them.
use Rattle.std.proofs.Common.{◌≡◌, ℕ, ◌+◌, ◌-◌, ◌≤◌, not, Bool, true, false, List, [], ◌∷◌, ◌++◌, length, get_or, map, take, decimal, Ok, Err, refl, sym, ap, ◌∙◌, append_assoc, append-nil, arith}
use Rattle.std.specs.Prelude.{codes}
use Rattle.std.specs.Bool.{◌==◌, if◌then◌else◌}
use Rattle.std.specs.List.{All, concat, list_all}
use Rattle.std.specs.Option.{is_some}
use Rattle.std.proofs.lemmas.Bool.{and_from, and_parts}
use Rattle.std.proofs.lemmas.Bool.Decides.{nat_tests}
use Rattle.std.proofs.lemmas.List.{get_or-append_right, length-append, take_at}
use Rattle.std.proofs.lemmas.List.Elements.{All-append, All-cons, All-head, All-nil, All-tail}
use Rattle.std.proofs.lemmas.List.Splits.{slice_split_at}
use Rattle.metis_tokens.specs.Terms.{and_then, is_feed, last_piece, made, number_in, pieces, whole_lines, words}
use Rattle.metis_tokens.specs.declared.flaw.Flaw.TheVariants.{Form}
use Rattle.metis_tokens.proofs.Cuts.{tokens_of_words, words_no_feed}
use Rattle.metis_tokens.proofs.NumberTokens.{number_read}
use Rattle.metis_tokens.proofs.Printed.{printed, printed_decimal, printed_name}
use Rattle.metis_universe.specs.Terms.{Universe, type_named}
use Rattle.metis_place.specs.Terms.{Entries, IsEntry, IsHostsText, SeenLines, each_new, end_from, entry_in, has_name, hosts_bytes, hosts_in, hosts_of, is_last, lines_from, seen_lines, text_of, with_host, with_line, with_size, with_tokens}
use Rattle.metis_place.specs.declared.hosts_fault.HFault.TheVariants.{Line, Name, Twice}
use Rattle.metis_place.proofs.HostsRead.{fed, fed_lines, host_words, size_words, text_lines}

-- ---- one line

entry_read : (e : List ℕ × ℕ) → IsEntry e → entry_in e.0 (decimal e.1) ≡ Ok e
entry_read e is = ap (λ b. if b then made (λ k. (e.0, k)) (number_in (decimal e.1)) else Err Form) is.0 ∙ ap (made (λ k. (e.0, k))) (number_read e.1 is.1)

entry_printed : (word : List ℕ) (e : List ℕ × ℕ) → printed word ≡ true → IsEntry e → list_all printed (word ∷ e.0 ∷ decimal e.1 ∷ []) ≡ true
entry_printed word e w is = and_from _ _ w (and_from _ _ (printed_name e.0 is.0) (and_from _ _ (printed_decimal e.1 is.1) refl))

no_entries : (es : Entries) → length es ≡ 0 → (length es == 0) ≡ true
no_entries es none = grind (arith, nat_tests)

pub some_entries : (es : Entries) → 1 ≤ length es → not (length es == 0) ≡ true
some_entries es some = grind (arith, nat_tests)

module _ (u : Universe) (n : ℕ) where
  host_read : (hosts : Entries) (e : List ℕ × ℕ) → IsEntry e → has_name hosts e.0 ≡ false → with_line u n (seen_lines hosts []) (host_words e) ≡ Ok (seen_lines (hosts ++ e ∷ []) [])
  host_read hosts e is new =
      let seen = seen_lines hosts [] in
      ap (with_tokens u n seen) (tokens_of_words (codes "host") (e.0 ∷ decimal e.1 ∷ []) (entry_printed (codes "host") e refl is))
      ∙ ap (with_host n seen) (entry_read e is)
      ∙ ap (λ b. made (λ hs. seen_lines hs []) (if b then Err (Twice n) else Ok (hosts ++ e ∷ []))) new

  size_read : (hosts sizes : Entries) (e : List ℕ × ℕ) → 1 ≤ length hosts → IsEntry e → is_some (type_named u e.0) ≡ true → has_name sizes e.0 ≡ false
      → with_line u n (seen_lines hosts sizes) (size_words e) ≡ Ok (seen_lines hosts (sizes ++ e ∷ []))
  size_read hosts sizes e some is kind new =
      let seen = seen_lines hosts sizes in
      ap (with_tokens u n seen) (tokens_of_words (codes "size") (e.0 ∷ decimal e.1 ∷ []) (entry_printed (codes "size") e refl is))
      ∙ ap (λ b. if b then with_size u n seen (entry_in e.0 (decimal e.1)) else Err (Line n)) (some_entries hosts some)
      ∙ ap (with_size u n seen) (entry_read e is)
      ∙ ap (λ b. if b then made (λ ss. seen_lines hosts ss) (if has_name sizes e.0 then Err (Twice n) else Ok (sizes ++ e ∷ [])) else Err (Name n)) kind
      ∙ ap (λ b. made (λ ss. seen_lines hosts ss) (if b then Err (Twice n) else Ok (sizes ++ e ∷ []))) new

-- ---- all lines

abbrev the_end : List (List ℕ)
the_end = codes "end" ∷ []

module _ (u : Universe) where
  goes_on : (n : ℕ) (seen s : SeenLines) (line : List ℕ) (lines : List (List ℕ)) → is_last seen line ≡ false → with_line u n seen line ≡ Ok s → lines_from u seen n (line ∷ lines) [] ≡ lines_from u s (n + 1) lines []
  goes_on n seen s line lines other is =
      ap (λ b. if b then end_from u seen (n + 1) lines [] else and_then (with_line u n seen line) (λ s. lines_from u s (n + 1) lines [])) other
      ∙ ap (λ r. and_then r (λ s. lines_from u s (n + 1) lines [])) is

  sizes_read : (n : ℕ) (hosts sizes more : Entries) → 1 ≤ length hosts → All IsEntry more → each_new sizes more ≡ true → All (λ e. is_some (type_named u e.0) ≡ true) more
      → lines_from u (seen_lines hosts sizes) n (map size_words more ++ the_end) [] ≡ Ok (hosts_of u (seen_lines hosts (sizes ++ more)))
  sizes_read n hosts sizes [] some are apart kinds =
      ap (λ b. if b then end_from u (seen_lines hosts sizes) (n + 1) [] [] else and_then (with_line u n (seen_lines hosts sizes) (codes "end")) (λ s. lines_from u s (n + 1) [] [])) (some_entries hosts some)
      ∙ ap (λ l. Ok (hosts_of u (seen_lines hosts l))) (sym (append-nil sizes))
  sizes_read n hosts sizes (e ∷ more) some are apart kinds =
      let new = and_parts (not (has_name sizes e.0)) (each_new (sizes ++ e ∷ []) more) apart in
      goes_on n (seen_lines hosts sizes) (seen_lines hosts (sizes ++ e ∷ [])) (size_words e) (map size_words more ++ the_end) refl
      (size_read u n hosts sizes e some (All-head IsEntry e more are) (All-head (λ e. is_some (type_named u e.0) ≡ true) e more kinds) (not_true (has_name sizes e.0) new.0))
      ∙ sizes_read (n + 1) hosts (sizes ++ e ∷ []) more some (All-tail IsEntry e more are) new.1 (All-tail (λ e. is_some (type_named u e.0) ≡ true) e more kinds)
      ∙ ap (λ l. Ok (hosts_of u (seen_lines hosts l))) (append_assoc sizes (e ∷ []) more) where
        not_true : (b : Bool) → not b ≡ true → b ≡ false
        not_true true h = cc
        not_true false h = refl

  hosts_read : (n : ℕ) (hosts more sizes : Entries) → 1 ≤ length (hosts ++ more) → All IsEntry more → each_new hosts more ≡ true → All IsEntry sizes → each_new [] sizes ≡ true → All (λ e. is_some (type_named u e.0) ≡ true) sizes
      → lines_from u (seen_lines hosts []) n ((map host_words more ++ map size_words sizes) ++ the_end) [] ≡ Ok (hosts_of u (seen_lines (hosts ++ more) sizes))
  hosts_read n hosts [] sizes some are apart s_are s_apart kinds =
      let all = append-nil hosts in
      sizes_read n hosts [] sizes (omega (arith, some, ap length all)) s_are s_apart kinds ∙ ap (λ l. Ok (hosts_of u (seen_lines l sizes))) (sym all)
  hosts_read n hosts (e ∷ more) sizes some are apart s_are s_apart kinds =
      let new = and_parts (not (has_name hosts e.0)) (each_new (hosts ++ e ∷ []) more) apart in
      let all = append_assoc hosts (e ∷ []) more in
      goes_on n (seen_lines hosts []) (seen_lines (hosts ++ e ∷ []) []) (host_words e) ((map host_words more ++ map size_words sizes) ++ the_end) refl
      (host_read u n hosts e (All-head IsEntry e more are) (not_true (has_name hosts e.0) new.0))
      ∙ hosts_read (n + 1) (hosts ++ e ∷ []) more sizes (omega (arith, some, ap length all)) (All-tail IsEntry e more are) new.1 s_are s_apart kinds
      ∙ ap (λ l. Ok (hosts_of u (seen_lines l sizes))) all where
        not_true : (b : Bool) → not b ≡ true → b ≡ false
        not_true true h = cc
        not_true false h = refl

-- ---- the bytes

abbrev NoFeed : List ℕ → Type 0
NoFeed line = list_all (λ b. not (b == 10)) line ≡ true

fails_feed : (b : ℕ) → not (b == 10) ≡ true → is_feed b ≡ false
fails_feed b h = grind (arith, nat_tests)

each_fails : (line : List ℕ) → NoFeed line → All (λ b. is_feed b ≡ false) line
each_fails [] h = All-nil _
each_fails (b ∷ bs) h =
    let both = and_parts (not (b == 10)) (list_all (λ b. not (b == 10)) bs) h in
    All-cons (λ b. is_feed b ≡ false) b bs (fails_feed b both.0) (each_fails bs both.1)

-- lines are cut at their line feeds
cut_lines : (lines : List (List ℕ)) → All NoFeed lines → pieces (concat (map fed lines)) ≡ lines ++ [] ∷ []
cut_lines [] h = refl
cut_lines (line ∷ lines) h =
    let rest = concat (map fed lines) in
    ap pieces (append_assoc line (codes "\n") rest) ∙ slice_split_at is_feed line 10 rest (each_fails line (All-head NoFeed line lines h)) refl
    ∙ ap (λ l. line ∷ l) (cut_lines lines (All-tail NoFeed line lines h))

whole_before : (lines : List (List ℕ)) → whole_lines (lines ++ [] ∷ []) ≡ lines
whole_before lines =
    let long : length (lines ++ [] ∷ []) - 1 ≡ length lines = omega (arith, length-append lines ([] ∷ [])) in
    ap (λ k. take k (lines ++ [] ∷ [])) long ∙ take_at lines ([] ∷ []) (length lines) refl

nothing_last : (lines : List (List ℕ)) → last_piece (lines ++ [] ∷ []) ≡ []
nothing_last lines =
    let long : length (lines ++ [] ∷ []) - 1 ≡ length lines = omega (arith, length-append lines ([] ∷ [])) in
    let none : length lines - length lines ≡ 0 = omega arith in
    ap (λ k. get_or (lines ++ [] ∷ []) k []) long ∙ get_or-append_right lines ([] ∷ []) (length lines) (length lines) [] refl (omega arith) ∙ ap (λ k. get_or ([] ∷ []) k []) none

no_feeds : (word : List ℕ) (es : Entries) → printed word ≡ true → All IsEntry es → All NoFeed (map (λ e. words (word ∷ e.0 ∷ decimal e.1 ∷ [])) es)
no_feeds word [] w are = All-nil NoFeed
no_feeds word (e ∷ es) w are =
    All-cons NoFeed (words (word ∷ e.0 ∷ decimal e.1 ∷ [])) (map (λ e. words (word ∷ e.0 ∷ decimal e.1 ∷ [])) es) (words_no_feed (word ∷ e.0 ∷ decimal e.1 ∷ []) (entry_printed word e w (All-head IsEntry e es are)))
    (no_feeds word es w (All-tail IsEntry e es are))

pub text_is_read : (u : Universe) (hosts sizes : Entries) → IsHostsText u hosts sizes → hosts_in u (hosts_bytes hosts sizes) ≡ Ok (hosts_of u (seen_lines hosts sizes))
text_is_read u hosts sizes t =
    let body = map host_words hosts ++ map size_words sizes in
    let lines = text_lines hosts sizes in
    let feeds : All NoFeed lines =
    All-cons NoFeed (codes "metis hosts 1") (body ++ the_end) refl
    (All-append NoFeed body the_end (All-append NoFeed (map host_words hosts) (map size_words sizes) (no_feeds (codes "host") hosts refl t.hosts_are) (no_feeds (codes "size") sizes refl t.sizes_are))
    (All-cons NoFeed (codes "end") [] refl (All-nil NoFeed))) in
    let cut : pieces (hosts_bytes hosts sizes) ≡ lines ++ [] ∷ [] = ap (λ l. pieces (concat l)) (sym (fed_lines hosts sizes)) ∙ cut_lines lines feeds in
    ap (λ ps. text_of u (whole_lines ps) (last_piece ps)) cut
    ∙ (λ i. text_of u (whole_before lines i) (nothing_last lines i))
    ∙ hosts_read u 2 [] hosts sizes t.some t.hosts_are t.hosts_apart t.sizes_are t.sizes_apart t.types

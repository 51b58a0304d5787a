-- Where the faults of a text of hosts come from.
use Rattle.std.proofs.Common.{◌≡◌, ◌⊎◌, ℕ, ◌+◌, ◌≤◌, ◌&&◌, not, Bool, true, false, List, [], ◌∷◌, ◌++◌, length, map, cond, Result, Ok, Err, refl, sym, ap, ◌∙◌, subst, inl, inr, append_assoc, append-nil, arith}
use Rattle.std.specs.Prelude.{codes}
use Rattle.std.specs.Bool.{◌==◌, if◌then◌else◌}
use Rattle.std.specs.List.{All, concat, join_with_byte, onto_first}
use Rattle.std.specs.Str.{bytes_eq}
use Rattle.std.proofs.lemmas.Bool.{and_from, and_parts, both_ways}
use Rattle.std.proofs.lemmas.Bool.Decides.{nat_tests}
use Rattle.std.proofs.lemmas.List.{length-append, length-map, map-append}
use Rattle.std.proofs.lemmas.List.Elements.{All-cons, All-head, All-nil, All-tail}
use Rattle.std.proofs.lemmas.List.Splits.{join_with_byte-slice_split, length-slice_split}
use Rattle.std.proofs.lemmas.Slice.Eq.{bytes_eq-Decides}
use Rattle.metis_universe.specs.Terms.{Universe}
use Rattle.metis_place.specs.Terms.{Entries, HostLists, IsBegun, IsHostsFault, NoFeed, ReadsHosts, SeenLines, begun_bytes, end_from, host_line, hosts_bytes, hosts_header, hosts_in, hosts_of, in_first, in_later, is_last, lines_from, next_number, nothing, of_first, of_line, past_end, size_line, text_of, too_short, with_line}
use Rattle.metis_ids.specs.Terms.{IfFault}
use Rattle.metis_tokens.specs.Terms.{and_then, is_feed, last_piece, pieces, whole_lines}
use Rattle.metis_place.specs.declared.hosts_fault.HFault.{HFault}
use Rattle.metis_place.specs.declared.hosts_fault.HFault.TheVariants.{Line, NoMemory, Short}
use Rattle.metis_place.proofs.HostsLineFlaws.{flaw_had}
use Rattle.metis_place.proofs.HostsRead.{Say, all_words, cut_last, fed, fed_host, fed_size, host_words, none_said, one_more, size_words, some_is}

-- ---- outcomes

either_fails : {A E : Type 0} (b : Bool) (x y : Result A E) (f : E) → (if b then x else y) ≡ Err f → ((b ≡ true) × (x ≡ Err f)) ⊎ ((b ≡ false) × (y ≡ Err f))
either_fails true x y f h = inl (refl, h)
either_fails false x y f h = inr (refl, h)

and_then_fails : {A B : Type 0} (x : Result A HFault) (next : A → Result B HFault) (f : HFault) → and_then x next ≡ Err f → (x ≡ Err f) ⊎ ((a : A) × (x ≡ Ok a) × (next a ≡ Err f))
and_then_fails (Ok a) next f h = inr (a, refl, h)
and_then_fails (Err g) next f h = inl (cc)

not_both : {X Y : Type 0} (xs : List X) (ys : List Y) → ((length xs == 0) && (length ys == 0)) ≡ false → 1 ≤ length xs + length ys
not_both xs ys h = some (length xs) (length ys) h where
  some : (m n : ℕ) → ((m == 0) && (n == 0)) ≡ false → 1 ≤ m + n
  some m n h = grind (arith, nat_tests)

-- ---- lines that fail

module _ (u : Universe) where
  -- what the lines from the second on come to
  data Fails (all : List (List ℕ)) (rest : List ℕ) (f : HFault) : Type 0 where
    ends : (seen : SeenLines) → Say u all seen → f ≡ Short → Fails all rest f
    at : (front : List (List ℕ)) (line : List ℕ) (later : List (List ℕ)) (seen : SeenLines) → Say u front seen → all ≡ front ++ line ∷ later → is_last seen line ≡ false
        → with_line u (length front + 2) seen line ≡ Err f → Fails all rest f
    past : (front later : List (List ℕ)) (seen : SeenLines) → Say u front seen → all ≡ front ++ codes "end" ∷ later → 1 ≤ length seen.hosts → 1 ≤ length later + length rest
        → f ≡ Line (length front + 3) → Fails all rest f

  lines_fail : (front : List (List ℕ)) (seen : SeenLines) (n : ℕ) (lines : List (List ℕ)) (rest : List ℕ) (f : HFault) → Say u front seen → n ≡ length front + 2 → lines_from u seen n lines rest ≡ Err f
      → Fails (front ++ lines) rest f
  lines_fail front seen n [] rest f say count is = ends seen (subst (λ l. Say u l seen) (sym (append-nil front)) say) (cc)
  lines_fail front seen n (line ∷ lines) rest f say count is = elim (either_fails (is_last seen line) (end_from u seen (n + 1) lines rest) _ f is) [
    | inl (last, ended) ↦
        let both = and_parts (bytes_eq line (codes "end")) (not (length seen.hosts == 0)) last in
        elim (either_fails ((length lines == 0) && (length rest == 0)) (Ok (hosts_of u seen)) (Err (Line (n + 1))) f ended) [
          | inl (none, ok) ↦ absurd (cc)
          | inr (more, fault) ↦
              let number : n + 1 ≡ length front + 3 = omega (arith, count) in
              let same : Line (n + 1) ≡ f = cc in
              past front lines seen say (ap (λ l. front ++ l ∷ lines) ((bytes_eq-Decides line (codes "end")).0 both.0)) (some_is seen.hosts both.1) (not_both lines rest more) (sym same ∙ ap Line number)
        ]
    | inr (other, more) ↦ elim (and_then_fails (with_line u n seen line) (λ s. lines_from u s (n + 1) lines rest) f more) [
      | inl wrong ↦ at front line lines seen say refl other (ap (λ k. with_line u k seen line) (sym count) ∙ wrong)
      | inr (s, right, later) ↦
          let number : n + 1 ≡ length (front ++ line ∷ []) + 2 = omega (arith, count, length-append front (line ∷ [])) in
          subst (λ l. Fails l rest f) (append_assoc front (line ∷ []) lines) (lines_fail (front ++ line ∷ []) s (n + 1) lines rest f (one_more u front n seen line s say right) number later)
    ]
  ]

-- ---- the bytes

-- lines and what stands behind them
joined_with : (lines : List (List ℕ)) (rest : List ℕ) → join_with_byte 10 (lines ++ rest ∷ []) ≡ concat (map fed lines) ++ rest
joined_with [] rest = refl
joined_with (line ∷ []) rest = ap (λ l. l) (sym (append_assoc line (codes "\n") rest) ∙ ap (λ l. l ++ rest) (sym (append-nil (fed line))))
joined_with (line ∷ next ∷ lines) rest =
    ap (λ l. line ++ (10 ∷ l)) (joined_with (next ∷ lines) rest)
    ∙ sym (append_assoc line (codes "\n") (concat (map fed (next ∷ lines)) ++ rest))
    ∙ sym (append_assoc (fed line) (concat (map fed (next ∷ lines))) rest)

fed_append : (xs ys : List (List ℕ)) → concat (map fed (xs ++ ys)) ≡ concat (map fed xs) ++ concat (map fed ys)
fed_append [] ys = refl
fed_append (x ∷ xs) ys = ap (λ l. fed x ++ l) (fed_append xs ys) ∙ sym (append_assoc (fed x) (concat (map fed xs)) (concat (map fed ys)))

fed_words : (seen : SeenLines) → concat (map fed (codes "metis hosts 1" ∷ all_words seen)) ≡ begun_bytes seen.hosts seen.sizes
fed_words seen = ap (λ l. hosts_header ++ concat l) (map-append fed (map host_words seen.hosts) (map size_words seen.sizes) ∙ (λ i. fed_host seen.hosts i ++ fed_size seen.sizes i))

-- no piece has a line feed
onto_fails : (b : ℕ) (parts : List (List ℕ)) → not (b == 10) ≡ true → All NoFeed parts → All NoFeed (onto_first b parts)
onto_fails b [] no_feed each = All-cons NoFeed (b ∷ []) [] (and_from _ _ no_feed refl) each
onto_fails b (part ∷ parts) no_feed each = All-cons NoFeed (b ∷ part) parts (and_from _ _ no_feed (All-head NoFeed part parts each)) (All-tail NoFeed part parts each)

feed_or : (t : Bool) (b : ℕ) (parts : List (List ℕ)) → (b == 10) ≡ t → All NoFeed parts → All NoFeed (cond t ([] ∷ parts) (onto_first b parts))
feed_or true b parts is each = All-cons NoFeed [] parts refl each
feed_or false b parts is each = onto_fails b parts (ap not is) each

pieces_have_none : (bytes : List ℕ) → All NoFeed (pieces bytes)
pieces_have_none [] = All-cons NoFeed [] [] refl (All-nil NoFeed)
pieces_have_none (b ∷ bytes) = feed_or (b == 10) b (pieces bytes) refl (pieces_have_none bytes)

-- the first of some lines, and the last piece
first_of : (xs ys : List (List ℕ)) (x : List ℕ) → All NoFeed (xs ++ x ∷ ys) → NoFeed x
first_of [] ys x each = All-head NoFeed x ys each
first_of (w ∷ xs) ys x each = first_of xs ys x (All-tail NoFeed w (xs ++ x ∷ ys) each)

begun : (u : Universe) (front : List (List ℕ)) (seen : SeenLines) → Say u front seen → IsBegun u seen.hosts seen.sizes
begun u front seen say = record { hosts_are = say.hosts_are; hosts_apart = say.hosts_apart; sizes_are = say.sizes_are; sizes_apart = say.sizes_apart; types = say.types }

said_count : (u : Universe) (front : List (List ℕ)) (seen : SeenLines) → Say u front seen → length front ≡ length seen.hosts + length seen.sizes
said_count u front seen say =
    ap length say.are ∙ length-append (map host_words seen.hosts) (map size_words seen.sizes) ∙ (λ i. length-map seen.hosts host_words i + length-map seen.sizes size_words i)

module _ (u : Universe) (bytes : List ℕ) (lines : List (List ℕ)) (rest : List ℕ) (f : HFault) (is : bytes ≡ concat (map fed lines) ++ rest) (each : All NoFeed (lines ++ rest ∷ [])) where
  -- the bytes, where the lines behind the first are these
  text : (front later : List (List ℕ)) (seen : SeenLines) → Say u front seen → lines ≡ codes "metis hosts 1" ∷ (front ++ later) → bytes ≡ begun_bytes seen.hosts seen.sizes ++ (concat (map fed later) ++ rest)
  text front later seen say are =
      let parts : concat (map fed lines) ≡ begun_bytes seen.hosts seen.sizes ++ concat (map fed later) =
      ap (λ l. concat (map fed l)) (are ∙ ap (λ l. codes "metis hosts 1" ∷ (l ++ later)) say.are) ∙ fed_append (codes "metis hosts 1" ∷ all_words seen) later ∙ ap (λ l. l ++ concat (map fed later)) (fed_words seen) in
      is ∙ ap (λ l. l ++ rest) parts ∙ append_assoc (begun_bytes seen.hosts seen.sizes) (concat (map fed later)) rest

  lines_broken : (all : List (List ℕ)) → lines ≡ codes "metis hosts 1" ∷ all → Fails u all rest f → IsHostsFault u bytes f
  lines_broken all are (ends seen say short) =
      too_short (in_later seen.hosts seen.sizes rest (begun u all seen say) (text all [] seen say (are ∙ ap (λ l. codes "metis hosts 1" ∷ l) (sym (append-nil all)))) (first_of lines [] rest each) short)
  lines_broken all are (at front line later seen say at' other wrong) =
      let here : lines ≡ codes "metis hosts 1" ∷ (front ++ line ∷ later) = are ∙ ap (λ l. codes "metis hosts 1" ∷ l) at' in
      let number : length front + 2 ≡ next_number seen.hosts seen.sizes = ap (λ n. n + 2) (said_count u front seen say) in
      let told : with_line u (next_number seen.hosts seen.sizes) seen line ≡ Err f = ap (λ k. with_line u k seen line) (sym number) ∙ wrong in
      of_line (record {
        hosts = seen.hosts;
        sizes = seen.sizes;
        line = line;
        behind = concat (map fed later) ++ rest;
        begun = begun u front seen say;
        text = text front (line ∷ later) seen say here ∙ ap (λ l. begun_bytes seen.hosts seen.sizes ++ l) (append_assoc (fed line) (concat (map fed later)) rest ∙ append_assoc line (codes "\n") (concat (map fed later) ++ rest));
        no_feed = first_of (codes "metis hosts 1" ∷ front) (later ++ rest ∷ []) line (subst (All NoFeed) (ap (λ l. l ++ rest ∷ []) here ∙ append_assoc (codes "metis hosts 1" ∷ front) (line ∷ later) (rest ∷ [])) each);
        goes_on = other;
        fault = told;
        wrong = flaw_had u seen.hosts seen.sizes line f told;
      })
  lines_broken all are (past front later seen say at' some more fault) =
      let here : lines ≡ codes "metis hosts 1" ∷ (front ++ codes "end" ∷ later) = are ∙ ap (λ l. codes "metis hosts 1" ∷ l) at' in
      let tail = concat (map fed later) ++ rest in
      let hosts = seen.hosts in
      let sizes = seen.sizes in
      let number : length front + 3 ≡ next_number hosts sizes + 1 = omega (arith, said_count u front seen say) in
      let end_is : begun_bytes hosts sizes ++ fed (codes "end") ≡ hosts_bytes hosts sizes = sym (whole_end hosts sizes) in
      past_end (record {
        hosts = hosts;
        sizes = sizes;
        more = tail;
        formed = record { some = some; hosts_are = say.hosts_are; hosts_apart = say.hosts_apart; sizes_are = say.sizes_are; sizes_apart = say.sizes_apart; types = say.types };
        text = text front (codes "end" ∷ later) seen say here ∙ ap (λ l. begun_bytes hosts sizes ++ l) (append_assoc (fed (codes "end")) (concat (map fed later)) rest) ∙ sym (append_assoc (begun_bytes hosts sizes) (fed (codes "end")) tail) ∙ ap (λ l. l ++ tail) end_is;
        some = omega (arith, more, long later, length-append (concat (map fed later)) rest);
        fault = fault ∙ ap Line number;
      }) where
        fed_once : (xs : List (List ℕ)) (y : List ℕ) → concat (xs ++ y ∷ []) ≡ concat xs ++ y
        fed_once [] y = append-nil y
        fed_once (x ∷ xs) y = ap (λ l. x ++ l) (fed_once xs y) ∙ sym (append_assoc x (concat xs) y)

        whole_end : (hosts sizes : Entries) → hosts_bytes hosts sizes ≡ begun_bytes hosts sizes ++ fed (codes "end")
        whole_end hosts sizes =
            ap (λ l. hosts_header ++ concat l) (sym (append_assoc (map host_line hosts) (map size_line sizes) (fed (codes "end") ∷ []))) ∙ fed_once (hosts_header ∷ (map host_line hosts ++ map size_line sizes)) (fed (codes "end"))

        long : (later : List (List ℕ)) → length later ≤ length (concat (map fed later))
        long [] = omega arith
        long (x ∷ xs) = let rest = long xs in omega (arith, rest, length-append (fed x) (concat (map fed xs)), length-append x (codes "\n"))

  text_broken : text_of u lines rest ≡ Err f → IsHostsFault u bytes f
  text_broken = walk lines refl where
    walk : (ls : List (List ℕ)) → lines ≡ ls → text_of u lines rest ≡ Err f → IsHostsFault u bytes f
    walk [] are fails =
        let none : bytes ≡ rest = is ∙ ap (λ l. concat (map fed l) ++ rest) are in
        too_short (in_first (subst NoFeed (sym none) (first_of lines [] rest each)) (let e = sym (ap (λ l. text_of u l rest) are) ∙ fails in cc))
    walk (header ∷ ls) are fails =
        elim (either_fails (bytes_eq header (codes "metis hosts 1")) (lines_from u nothing 2 ls rest) (Err (Line 1)) f (sym (ap (λ l. text_of u l rest) are) ∙ fails)) [
          | inl (first, broken) ↦
              lines_broken ls (are ∙ ap (λ l. l ∷ ls) ((bytes_eq-Decides header (codes "metis hosts 1")).0 first)) (lines_fail u [] nothing 2 ls rest f (none_said u) refl broken)
          | inr (other, fault) ↦ of_first (record {
            line = header;
            behind = concat (map fed ls) ++ rest;
            text = is ∙ ap (λ l. concat (map fed l) ++ rest) are ∙ append_assoc (fed header) (concat (map fed ls)) rest ∙ append_assoc header (codes "\n") (concat (map fed ls) ++ rest);
            no_feed = first_of [] (ls ++ rest ∷ []) header (subst (λ l. All NoFeed (l ++ rest ∷ [])) are each);
            other = λ same. absurd (both_ways (bytes_eq header (codes "metis hosts 1")) other ((bytes_eq-Decides header (codes "metis hosts 1")).1 same));
            fault = cc;
          })
        ]

pub fault_read : (u : Universe) (bytes : List ℕ) (r : Result HostLists HFault) → ReadsHosts r (hosts_in u bytes) → IfFault NoMemory r (λ f. IsHostsFault u bytes f)
fault_read u bytes (Ok h) is = tt
fault_read u bytes (Err f) is = λ known.
    let ps = pieces bytes in
    let some : 1 ≤ length ps = omega (arith, length-slice_split is_feed bytes) in
    let cut = cut_last ps some in
    let whole : bytes ≡ concat (map fed (whole_lines ps)) ++ last_piece ps = sym (join_with_byte-slice_split 10 bytes) ∙ ap (join_with_byte 10) cut ∙ joined_with (whole_lines ps) (last_piece ps) in
    text_broken u bytes (whole_lines ps) (last_piece ps) f whole (subst (All NoFeed) cut (pieces_have_none bytes)) (is known)

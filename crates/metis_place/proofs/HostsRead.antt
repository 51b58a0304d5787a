-- Bytes that are read as hosts are the text of these.
use Rattle.std.proofs.Common.{◌≡◌, ◌⊎◌, ℕ, suc, ◌+◌, ◌-◌, ◌<◌, ◌≤◌, ◌^◌, ◌&&◌, not, Bool, true, false, List, [], ◌∷◌, ◌++◌, length, map, take, decimal, Result, Ok, Err, refl, sym, ap, ◌∙◌, subst, inl, inr, append_assoc, append-nil, arith}
use Rattle.std.specs.Prelude.{IfOk, codes}
use Rattle.std.specs.Bool.{◌==◌, if◌then◌else◌}
use Rattle.std.specs.List.{All, concat, join_with_byte}
use Rattle.std.specs.Option.{is_some}
use Rattle.std.specs.Str.{bytes_eq}
use Rattle.std.proofs.lemmas.Bool.{and_from, and_parts}
use Rattle.std.proofs.lemmas.Bool.Decides.{nat_tests}
use Rattle.std.proofs.lemmas.List.{length-append, length-map, length-take-le, map-append, take_all, take_more}
use Rattle.std.proofs.lemmas.List.Elements.{All-append, All-cons, All-nil}
use Rattle.std.proofs.lemmas.List.Splits.{join_with_byte-slice_split, length-slice_split}
use Rattle.std.proofs.lemmas.Slice.Eq.{bytes_eq-Decides}
use Rattle.metis_tokens.specs.Terms.{and_then, is_feed, last_piece, made, number_in, pieces, text_from, tokens, whole_lines, words}
use Rattle.metis_tokens.specs.declared.flaw.Flaw.{Flaw}
use Rattle.metis_tokens.specs.declared.flaw.Flaw.TheVariants.{Form}
use Rattle.metis_tokens.proofs.Cuts.{words_of_tokens}
use Rattle.metis_tokens.proofs.NumberTokens.{number_is}
use Rattle.metis_tokens.proofs.Outcomes.{if_is, made_is}
use Rattle.metis_universe.specs.Terms.{Universe, is_name, type_count, type_named}
use Rattle.metis_place.specs.Terms.{Entries, HostLists, IsEntry, IsHostsText, IsTextOf, ReadsHosts, SeenLines, are_apart, each_new, end_from, entry_in, has_name, host_line, host_line_rules, hosts_bytes, hosts_in, hosts_lines, hosts_of, is_last, lines_from, nothing, seen_lines, size_line, text_of, with_entry, with_host, with_line, with_size, with_tokens, with_words}
use Rattle.metis_place.specs.declared.hosts_fault.HFault.{HFault}
use Rattle.metis_place.specs.declared.hosts_fault.HFault.TheVariants.{Line, Name, Twice}
use Rattle.metis_tokens.proofs.OwnTexts.{text_later}

-- ---- outcomes

unless_is : {A E : Type 0} (b : Bool) (x : Result A E) (e : E) (a : A) → (if b then Err e else x) ≡ Ok a → (b ≡ false) × (x ≡ Ok a)
unless_is true x e a h = cc
unless_is false x e a h = (refl, h)

either_is : {A E : Type 0} (b : Bool) (x y : Result A E) (a : A) → (if b then x else y) ≡ Ok a → ((b ≡ true) × (x ≡ Ok a)) ⊎ ((b ≡ false) × (y ≡ Ok a))
either_is true x y a h = inl (refl, h)
either_is false x y a h = inr (refl, h)

and_then_is : {A B : Type 0} (x : Result A HFault) (next : A → Result B HFault) (b : B) → and_then x next ≡ Ok b → (a : A) × (x ≡ Ok a) × (next a ≡ Ok b)
and_then_is (Ok a) next b h = (a, refl, h)
and_then_is (Err f) next b h = cc

pub none_is : {X : Type 0} (xs : List X) → (length xs == 0) ≡ true → xs ≡ []
none_is [] h = refl
none_is (x ∷ xs) h = absurd (other (length xs) h) where
  other : (n : ℕ) → (suc n == 0) ≡ true → ⊥
  other n h = grind (arith, nat_tests)

pub some_is : {X : Type 0} (xs : List X) → not (length xs == 0) ≡ true → 1 ≤ length xs
some_is xs h = some (length xs) h where
  some : (n : ℕ) → not (n == 0) ≡ true → 1 ≤ n
  some n h = grind (arith, nat_tests)

-- ---- one line

abbrev pub host_words : List ℕ × ℕ → List ℕ
host_words e = words (codes "host" ∷ e.0 ∷ decimal e.1 ∷ [])

abbrev pub size_words : List ℕ × ℕ → List ℕ
size_words e = words (codes "size" ∷ e.0 ∷ decimal e.1 ∷ [])

entry_is : (name number : List ℕ) (e : List ℕ × ℕ) → entry_in name number ≡ Ok e → (name ≡ e.0) × (number ≡ decimal e.1) × IsEntry e
entry_is name number e h =
    let named = if_is (is_name name) (made (λ k. (name, k)) (number_in number)) Form e h in
    let value = made_is (λ k. (name, k)) (number_in number) e named.1 in
    let n = number_is number value.0 value.1 in
    let same : name ≡ e.0 = ap (λ p. p.0) value.2 in
    let count : value.0 ≡ e.1 = ap (λ p. p.1) value.2 in
    (same, n.0 ∙ ap decimal count, (ap is_name (sym same) ∙ named.0, subst (λ k. k < 2 ^ 32) count n.1))

with_entry_is : (n : ℕ) (es es' : Entries) (e : List ℕ × ℕ) → with_entry n es e ≡ Ok es' → (has_name es e.0 ≡ false) × (es' ≡ es ++ e ∷ [])
with_entry_is n es es' e h = let new = unless_is (has_name es e.0) (Ok (es ++ e ∷ [])) (Twice n) es' h in (new.0, cc)

module _ (u : Universe) (n : ℕ) (seen : SeenLines) where
  -- the line is that of one more host
  record OneHost (line : List ℕ) (s : SeenLines) : Type 0 where
    e : List ℕ × ℕ
    is : line ≡ host_words e
    entry : IsEntry e
    none : seen.sizes ≡ []
    new : has_name seen.hosts e.0 ≡ false
    gives : s ≡ seen_lines (seen.hosts ++ e ∷ []) seen.sizes

  -- or that of the size of one more type
  record OneSize (line : List ℕ) (s : SeenLines) : Type 0 where
    e : List ℕ × ℕ
    is : line ≡ size_words e
    entry : IsEntry e
    kind : is_some (type_named u e.0) ≡ true
    new : has_name seen.sizes e.0 ≡ false
    gives : s ≡ seen_lines seen.hosts (seen.sizes ++ e ∷ [])

  host_is : (r : Result (List ℕ × ℕ) Flaw) (s : SeenLines) → with_host n seen r ≡ Ok s → (e : List ℕ × ℕ) × (r ≡ Ok e) × (has_name seen.hosts e.0 ≡ false) × (s ≡ seen_lines (seen.hosts ++ e ∷ []) seen.sizes)
  host_is (Ok e) s h =
      let all = made_is (λ hosts. seen_lines hosts seen.sizes) (with_entry n seen.hosts e) s h in
      let one = with_entry_is n seen.hosts all.0 e all.1 in
      (e, refl, one.0, sym all.2 ∙ ap (λ hosts. seen_lines hosts seen.sizes) one.1)
  host_is (Err f) s h = cc

  size_is : (r : Result (List ℕ × ℕ) Flaw) (s : SeenLines) → with_size u n seen r ≡ Ok s
      → (e : List ℕ × ℕ) × (r ≡ Ok e) × (is_some (type_named u e.0) ≡ true) × (has_name seen.sizes e.0 ≡ false) × (s ≡ seen_lines seen.hosts (seen.sizes ++ e ∷ []))
  size_is (Ok e) s h =
      let there = if_is (is_some (type_named u e.0)) (made (λ sizes. seen_lines seen.hosts sizes) (with_entry n seen.sizes e)) (Name n) s h in
      let all = made_is (λ sizes. seen_lines seen.hosts sizes) (with_entry n seen.sizes e) s there.1 in
      let one = with_entry_is n seen.sizes all.0 e all.1 in
      (e, refl, there.0, one.0, sym all.2 ∙ ap (λ sizes. seen_lines seen.hosts sizes) one.1)
  size_is (Err f) s h = cc

  words_are : (word name number : List ℕ) (s : SeenLines) → with_words u n seen word (entry_in name number) ≡ Ok s → OneHost (words (word ∷ name ∷ number ∷ [])) s ⊎ OneSize (words (word ∷ name ∷ number ∷ [])) s
  words_are word name number s h = elim (either_is (bytes_eq word (codes "host") && (length seen.sizes == 0)) (with_host n seen (entry_in name number)) _ s h) [
    | inl (form, host) ↦
        let both = and_parts (bytes_eq word (codes "host")) (length seen.sizes == 0) form in
        let found = host_is (entry_in name number) s host in
        let entry = entry_is name number found.0 found.1 in
        let word_is = (bytes_eq-Decides word (codes "host")).0 both.0 in
        inl (record { e = found.0; is = λ i. words (word_is i ∷ entry.0 i ∷ entry.1 i ∷ []); entry = entry.2; none = none_is seen.sizes both.1; new = found.2; gives = found.3 })
    | inr (other, rest) ↦
        let size = if_is (bytes_eq word (codes "size") && not (length seen.hosts == 0)) (with_size u n seen (entry_in name number)) (Line n) s rest in
        let both = and_parts (bytes_eq word (codes "size")) (not (length seen.hosts == 0)) size.0 in
        let found = size_is (entry_in name number) s size.1 in
        let entry = entry_is name number found.0 found.1 in
        let word_is = (bytes_eq-Decides word (codes "size")).0 both.0 in
        inr (record { e = found.0; is = λ i. words (word_is i ∷ entry.0 i ∷ entry.1 i ∷ []); entry = entry.2; kind = found.2; new = found.3; gives = found.4 })
  ]

  tokens_are : (ts : List (List ℕ)) (s : SeenLines) → with_tokens u n seen ts ≡ Ok s → OneHost (words ts) s ⊎ OneSize (words ts) s
  tokens_are (word ∷ name ∷ number ∷ []) s h = words_are word name number s h
  tokens_are _ s h = cc

  line_is : (line : List ℕ) (s : SeenLines) → with_line u n seen line ≡ Ok s → OneHost line s ⊎ OneSize line s
  line_is line s h = subst (λ l. OneHost l s ⊎ OneSize l s) (words_of_tokens line) (tokens_are (tokens line) s h)

-- ---- names that stand on no earlier line

each_new-push : (earlier es : Entries) (e : List ℕ × ℕ) → each_new earlier es ≡ true → has_name (earlier ++ es) e.0 ≡ false → each_new earlier (es ++ e ∷ []) ≡ true
each_new-push earlier [] e h new = and_from _ _ (ap (λ l. not (has_name l e.0)) (sym (append-nil earlier)) ∙ ap not new) refl
each_new-push earlier (x ∷ es) e h new =
    let both = and_parts (not (has_name earlier x.0)) (each_new (earlier ++ x ∷ []) es) h in
    and_from _ _ both.0 (each_new-push (earlier ++ x ∷ []) es e both.1 (ap (λ l. has_name l e.0) (append_assoc earlier (x ∷ []) es) ∙ new))

-- ---- some lines

abbrev pub all_words : SeenLines → List (List ℕ)
all_words seen = map host_words seen.hosts ++ map size_words seen.sizes

module _ (u : Universe) where
  -- these lines say so much
  pub record Say (front : List (List ℕ)) (seen : SeenLines) : Type 0 where
    pub are : front ≡ all_words seen
    pub hosts_are : All IsEntry seen.hosts
    pub hosts_apart : are_apart seen.hosts ≡ true
    pub sizes_are : All IsEntry seen.sizes
    pub sizes_apart : are_apart seen.sizes ≡ true
    pub types : All (λ e. is_some (type_named u e.0) ≡ true) seen.sizes

  pub none_said : Say [] nothing
  none_said = record { are = refl; hosts_are = All-nil IsEntry; hosts_apart = refl; sizes_are = All-nil IsEntry; sizes_apart = refl; types = All-nil _ }

  pushed : (P : List ℕ × ℕ → Type 0) (es : Entries) (e : List ℕ × ℕ) → All P es → P e → All P (es ++ e ∷ [])
  pushed P es e all is = All-append P es (e ∷ []) all (All-cons P e [] is (All-nil P))

  module _ (front : List (List ℕ)) (n : ℕ) (seen : SeenLines) (line : List ℕ) (s : SeenLines) (say : Say front seen) where
    one_host : OneHost u n seen line s → Say (front ++ line ∷ []) s
    one_host one =
        let hosts = seen.hosts in
        let e = one.e in
        let none_left : all_words seen ≡ map host_words hosts = ap (λ l. map host_words hosts ++ map size_words l) one.none ∙ append-nil (map host_words hosts) in
        let more : map host_words (hosts ++ e ∷ []) ≡ map host_words hosts ++ host_words e ∷ [] = map-append host_words hosts (e ∷ []) in
        let lines : front ++ line ∷ [] ≡ all_words (seen_lines (hosts ++ e ∷ []) seen.sizes) =
        (λ i. (say.are ∙ none_left) i ++ one.is i ∷ []) ∙ sym more ∙ sym (append-nil (map host_words (hosts ++ e ∷ []))) ∙ ap (λ l. map host_words (hosts ++ e ∷ []) ++ map size_words l) (sym one.none) in
        subst (Say (front ++ line ∷ [])) (sym one.gives) (record {
          are = lines;
          hosts_are = pushed IsEntry hosts e say.hosts_are one.entry;
          hosts_apart = each_new-push [] hosts e say.hosts_apart one.new;
          sizes_are = say.sizes_are;
          sizes_apart = say.sizes_apart;
          types = say.types;
        })

    one_size : OneSize u n seen line s → Say (front ++ line ∷ []) s
    one_size one =
        let sizes = seen.sizes in
        let e = one.e in
        let more : map size_words (sizes ++ e ∷ []) ≡ map size_words sizes ++ size_words e ∷ [] = map-append size_words sizes (e ∷ []) in
        let lines : front ++ line ∷ [] ≡ all_words (seen_lines seen.hosts (sizes ++ e ∷ [])) =
        (λ i. say.are i ++ one.is i ∷ []) ∙ append_assoc (map host_words seen.hosts) (map size_words sizes) (size_words e ∷ []) ∙ ap (λ l. map host_words seen.hosts ++ l) (sym more) in
        subst (Say (front ++ line ∷ [])) (sym one.gives) (record {
          are = lines;
          hosts_are = say.hosts_are;
          hosts_apart = say.hosts_apart;
          sizes_are = pushed IsEntry sizes e say.sizes_are one.entry;
          sizes_apart = each_new-push [] sizes e say.sizes_apart one.new;
          types = pushed (λ e. is_some (type_named u e.0) ≡ true) sizes e say.types one.kind;
        })

    pub one_more : with_line u n seen line ≡ Ok s → Say (front ++ line ∷ []) s
    one_more h = elim (line_is u n seen line s h) [ inl host ↦ one_host host | inr size ↦ one_size size ]

  -- a name that comes with a host is one
  pub entries_more : (n : ℕ) (seen : SeenLines) (line : List ℕ) (s : SeenLines) → with_line u n seen line ≡ Ok s → All IsEntry seen.hosts → All IsEntry s.hosts
  entries_more n seen line s h are = elim (line_is u n seen line s h) [
    | inl host ↦ subst (λ (t : SeenLines). All IsEntry t.hosts) (sym host.gives) (pushed IsEntry seen.hosts host.e are host.entry)
    | inr size ↦ subst (λ (t : SeenLines). All IsEntry t.hosts) (sym size.gives) are
  ]

  -- all lines from the second one on
  record AllSay (lines : List (List ℕ)) (rest : List ℕ) (h : HostLists) : Type 0 where
    seen : SeenLines
    say : Say (all_words seen) seen
    are : lines ≡ all_words seen ++ codes "end" ∷ []
    ends : rest ≡ []
    some : 1 ≤ length seen.hosts
    is : h ≡ hosts_of u seen

  lines_are : (front : List (List ℕ)) (seen : SeenLines) (n : ℕ) (lines : List (List ℕ)) (rest : List ℕ) (h : HostLists) → Say front seen → lines_from u seen n lines rest ≡ Ok h → AllSay (front ++ lines) rest h
  lines_are front seen n [] rest h say is = cc
  lines_are front seen n (line ∷ lines) rest h say is = elim (either_is (is_last seen line) (end_from u seen (n + 1) lines rest) _ h is) [
    | inl (last, ended) ↦
        let both = and_parts (bytes_eq line (codes "end")) (not (length seen.hosts == 0)) last in
        let end = if_is ((length lines == 0) && (length rest == 0)) (Ok (hosts_of u seen)) (Line (n + 1)) h ended in
        let none = and_parts (length lines == 0) (length rest == 0) end.0 in
        let no_lines = none_is lines none.0 in
        let line_is = (bytes_eq-Decides line (codes "end")).0 both.0 in
        record {
          seen = seen;
          say = subst (λ l. Say l seen) say.are say;
          are = λ i. say.are i ++ line_is i ∷ no_lines i;
          ends = none_is rest none.1;
          some = some_is seen.hosts both.1;
          is = cc;
        }
    | inr (other, more) ↦
        let next = and_then_is (with_line u n seen line) (λ s. lines_from u s (n + 1) lines rest) h more in
        subst (λ l. AllSay l rest h) (append_assoc front (line ∷ []) lines)
        (lines_are (front ++ line ∷ []) next.0 (n + 1) lines rest h (one_more front n seen line next.0 say next.1) next.2)
  ]

-- ---- the bytes

-- lines with their line feeds
abbrev pub fed : List ℕ → List ℕ
fed line = line ++ codes "\n"

pub joined : (lines : List (List ℕ)) → join_with_byte 10 (lines ++ [] ∷ []) ≡ concat (map fed lines)
joined [] = refl
joined (line ∷ []) = ap (λ l. l) (sym (append-nil (fed line)))
joined (line ∷ next ∷ lines) = ap (λ l. line ++ (10 ∷ l)) (joined (next ∷ lines)) ∙ sym (append_assoc line (codes "\n") (concat (map fed (next ∷ lines))))

-- the pieces are the whole lines and the last piece
pub cut_last : (ps : List (List ℕ)) → 1 ≤ length ps → ps ≡ whole_lines ps ++ last_piece ps ∷ []
cut_last ps some =
    let back : length ps - 1 + 1 ≡ length ps = omega arith in
    sym (take_all (length ps) ps (omega arith)) ∙ ap (λ k. take k ps) (sym back) ∙ take_more ps (length ps - 1) [] (omega arith)

pub fed_host : (hosts : Entries) → map fed (map host_words hosts) ≡ map host_line hosts
fed_host [] = refl
fed_host (e ∷ es) = ap (λ l. host_line e ∷ l) (fed_host es)

pub fed_size : (sizes : Entries) → map fed (map size_words sizes) ≡ map size_line sizes
fed_size [] = refl
fed_size (e ∷ es) = ap (λ l. size_line e ∷ l) (fed_size es)

-- the lines of the text without their line feeds
abbrev pub text_lines : Entries → Entries → List (List ℕ)
text_lines hosts sizes = codes "metis hosts 1" ∷ ((map host_words hosts ++ map size_words sizes) ++ codes "end" ∷ [])

pub fed_lines : (hosts sizes : Entries) → map fed (text_lines hosts sizes) ≡ hosts_lines hosts sizes
fed_lines hosts sizes = ap (λ l. fed (codes "metis hosts 1") ∷ l)
    (map-append fed (map host_words hosts ++ map size_words sizes) (codes "end" ∷ [])
    ∙ ap (λ l. l ++ fed (codes "end") ∷ []) (map-append fed (map host_words hosts) (map size_words sizes) ∙ (λ i. fed_host hosts i ++ fed_size sizes i))
    ∙ append_assoc (map host_line hosts) (map size_line sizes) (fed (codes "end") ∷ []))

text_is : (u : Universe) (lines : List (List ℕ)) (rest : List ℕ) (h : HostLists) → text_of u lines rest ≡ Ok h → (tail : List (List ℕ)) × (lines ≡ codes "metis hosts 1" ∷ tail) × AllSay u tail rest h
text_is u [] rest h is = cc
text_is u (header ∷ lines) rest h is =
    let form = if_is (bytes_eq header (codes "metis hosts 1")) (lines_from u nothing 2 lines rest) (Line 1) h is in
    (lines, ap (λ l. l ∷ lines) ((bytes_eq-Decides header (codes "metis hosts 1")).0 form.0), lines_are u [] nothing 2 lines rest h (none_said u) form.1)

pub hosts_are_text : (u : Universe) (bytes : List ℕ) (h : HostLists) → hosts_in u bytes ≡ Ok h → IsTextOf u h bytes
hosts_are_text u bytes h is =
    let ps = pieces bytes in
    let text = text_is u (whole_lines ps) (last_piece ps) h is in
    let all = text.2 in
    let say = all.say in
    let seen = all.seen in
    let some : 1 ≤ length ps = omega (arith, length-slice_split is_feed bytes) in
    let hosts : h.hosts ≡ seen.hosts = ap (λ h. h.hosts) all.is in
    let lines : whole_lines ps ≡ text_lines seen.hosts seen.sizes = text.1 ∙ ap (λ l. codes "metis hosts 1" ∷ l) all.are in
    let whole : bytes ≡ hosts_bytes seen.hosts seen.sizes =
    sym (join_with_byte-slice_split 10 bytes) ∙ ap (join_with_byte 10) (cut_last ps some) ∙ (λ i. join_with_byte 10 (lines i ++ all.ends i ∷ []))
    ∙ joined (text_lines seen.hosts seen.sizes) ∙ ap concat (fed_lines seen.hosts seen.sizes) in
    record {
      sizes = seen.sizes;
      formed = subst (λ hs. IsHostsText u hs seen.sizes) (sym hosts) (record { some = all.some; hosts_are = say.hosts_are; hosts_apart = say.hosts_apart; sizes_are = say.sizes_are; sizes_apart = say.sizes_apart; types = say.types });
      text = whole ∙ ap (λ hs. hosts_bytes hs seen.sizes) (sym hosts);
      sized = ap (λ h. h.sizes) all.is;
    }

-- what was seen at last is what is read
pub all_read : (u : Universe) (lines : List (List ℕ)) (rest : List ℕ) (s : SeenLines) → text_from (codes "metis hosts 1") (host_line_rules u) (λ s. s) nothing lines rest ≡ Ok s → text_of u lines rest ≡ Ok (hosts_of u s)
all_read u lines rest s is = sym (text_later (host_line_rules u) (hosts_of u) (codes "metis hosts 1") nothing lines rest) ∙ ap (made (hosts_of u)) is

pub fails_read : (u : Universe) (lines : List (List ℕ)) (rest : List ℕ) (f : HFault) → text_from (codes "metis hosts 1") (host_line_rules u) (λ s. s) nothing lines rest ≡ Err f → text_of u lines rest ≡ Err f
fails_read u lines rest f is = sym (text_later (host_line_rules u) (hosts_of u) (codes "metis hosts 1") nothing lines rest) ∙ ap (made (hosts_of u)) is

pub entries_read : (u : Universe) (lines : List (List ℕ)) (rest : List ℕ) (h : HostLists) → text_of u lines rest ≡ Ok h → All IsEntry h.hosts
entries_read u lines rest h is = let all = (text_is u lines rest h is).2 in subst (All IsEntry) (sym (ap (λ h. h.hosts) all.is)) all.say.hosts_are

-- each host has a line
pub few_hosts : (u : Universe) (ps : List (List ℕ)) (h : HostLists) → text_of u (whole_lines ps) (last_piece ps) ≡ Ok h → length h.hosts + 2 ≤ length ps + 1
few_hosts u ps h is =
    let text = text_is u (whole_lines ps) (last_piece ps) h is in
    let seen = text.2.seen in
    let same : length h.hosts ≡ length seen.hosts = ap (λ h. length h.hosts) text.2.is in
    let count : length (whole_lines ps) ≡ suc (length (all_words seen ++ codes "end" ∷ [])) = ap length (text.1 ∙ ap (λ l. codes "metis hosts 1" ∷ l) text.2.are) in
    let long : length (all_words seen ++ codes "end" ∷ []) ≡ length (all_words seen) + 1 = length-append (all_words seen) (codes "end" ∷ []) in
    let parts : length (all_words seen) ≡ length (map host_words seen.hosts) + length (map size_words seen.sizes) = length-append (map host_words seen.hosts) (map size_words seen.sizes) in
    let hosts : length (map host_words seen.hosts) ≡ length seen.hosts = length-map seen.hosts host_words in
    let most : length (whole_lines ps) ≡ length ps - 1 = length-take-le (length ps - 1) ps (omega arith) in
    omega (arith, same, count, long, parts, hosts, most)

-- of what was read
pub few_read : (u : Universe) (ps : List (List ℕ)) → length ps ≤ 65537 → (r : Result HostLists HFault) → ReadsHosts r (text_of u (whole_lines ps) (last_piece ps)) → IfOk r (λ h. length h.hosts ≤ 65536)
few_read u ps few (Ok h) is = omega (arith, few, few_hosts u ps h is)
few_read u ps few (Err f) is = tt

pub sizes_read : (u : Universe) (ps : List (List ℕ)) (r : Result HostLists HFault) → ReadsHosts r (text_of u (whole_lines ps) (last_piece ps)) → IfOk r (λ h. length h.sizes ≡ type_count u)
sizes_read u ps (Ok h) is =
    let text = text_is u (whole_lines ps) (last_piece ps) h is in
    ap (λ h. length h.sizes) text.2.is ∙ length-map u.kinds _
sizes_read u ps (Err f) is = tt

pub text_read : (u : Universe) (bytes : List ℕ) (r : Result HostLists HFault) → ReadsHosts r (hosts_in u bytes) → IfOk r (λ h. IsTextOf u h bytes)
text_read u bytes (Ok h) is = hosts_are_text u bytes h is
text_read u bytes (Err f) is = tt

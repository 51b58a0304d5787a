-- A reader of lines: what it gives, and each fault that it tells, hangs on whole lines and not on what stands behind them.
--     Took read l p      it read the front of l, and reads p where other bytes stand behind this front
--     Wrong read l f      the last line of a front of l has the flaw, whatever stands behind this front
--     IsReader read      it is one
use Rattle.std.proofs.Common.{◌≡◌, ◌⊎◌, ℕ, ◌+◌, Bool, true, false, cond, not, List, [], ◌∷◌, ◌++◌, length, position, Some, None, Result, Ok, Err, refl, sym, ap, ◌∙◌, subst, append_assoc, append-nil, arith, inl, inr}
use Rattle.std.specs.Bool.{nat_lt, ◌==◌}
use Rattle.std.specs.List.{All, position_or_len}
use Rattle.std.proofs.lemmas.Bool.{and_from, and_parts, eqb-true}
use Rattle.std.proofs.lemmas.Bool.Decides.{nat_tests}
use Rattle.std.proofs.lemmas.List.{length-append}
use Rattle.std.proofs.lemmas.List.Elements.{All-append, All-nil}
use Rattle.std.proofs.lemmas.List.Folds.{concat-append}
use Rattle.metis_outside.proofs.Feeds.{IsLine-from, no_feed, no_feed-append, one_line}
use Rattle.metis_outside.specs.Terms.{IsLine, bytes_of}
use Rattle.metis_tokens.specs.Terms.{Cursor, and_then, fault_at, is_feed, line_to, lines_of, made, next_line, read_next, told}
use Rattle.metis_tokens.specs.declared.fault.TFault.{TFault}
use Rattle.metis_tokens.specs.declared.fault.TFault.TheVariants.{Short}
use Rattle.metis_tokens.specs.declared.flaw.Flaw.{Flaw}
use Rattle.metis_tokens.specs.declared.flaw.Flaw.TheVariants.{Form, Number, Name}
use Rattle.metis_tokens.proofs.LinesTaken.{next_is}
use Rattle.metis_tokens.proofs.Outcomes.{and_then_is}

pub record Took {A : Type 0} (read : Cursor → Result (A × Cursor) TFault) (l : Cursor) (p : A × Cursor) : Type 0 where
  pub front : List (List ℕ)
  pub text : l.rest ≡ bytes_of front ++ p.1.rest
  pub lines : All IsLine front
  pub number : p.1.number ≡ l.number + length front
  pub each : (other : List ℕ) → read (lines_of (bytes_of front ++ other) l.number) ≡ Ok (p.0, lines_of other p.1.number)

pub record Wrong {B : Type 0} (read : Cursor → Result B TFault) (l : Cursor) (f : TFault) : Type 0 where
  pub front : List (List ℕ)
  pub behind : List ℕ
  pub text : l.rest ≡ bytes_of front ++ behind
  pub lines : All IsLine front
  pub flaw : Flaw
  pub fault : f ≡ fault_at (l.number + length front) flaw
  pub each : (other : List ℕ) → read (lines_of (bytes_of front ++ other) l.number) ≡ Err f

pub record IsReader {A : Type 0} (read : Cursor → Result (A × Cursor) TFault) : Type 0 where
  pub took : (l : Cursor) (p : A × Cursor) → read l ≡ Ok p → Took read l p
  pub wrong : (l : Cursor) (f : TFault) → read l ≡ Err f → (f ≡ Short) ⊎ Wrong read l f
  pub short : (l : Cursor) (tail : List ℕ) → no_feed tail ≡ true → read l ≡ Err Short → read (lines_of (l.rest ++ tail) l.number) ≡ Err Short

-- ---- where the first line ends

record Cut (xs : List ℕ) : Type 0 where
  front : List ℕ
  behind : List ℕ
  text : xs ≡ front ++ (10 ∷ behind)
  none : no_feed front ≡ true

cut_more : (x : ℕ) (xs : List ℕ) (b : Bool) → (x == 10) ≡ b → (no_feed xs ≡ true) ⊎ Cut xs → (no_feed (x ∷ xs) ≡ true) ⊎ Cut (x ∷ xs)
cut_more x xs true is rest = inr (record { front = []; behind = xs; text = ap (λ b. b ∷ xs) (eqb-true x 10 is); none = refl })
cut_more x xs false is (inl none) = inl (and_from _ _ (ap not is) none)
cut_more x xs false is (inr cut) = inr (record { front = x ∷ cut.front; behind = cut.behind; text = ap (λ r. x ∷ r) cut.text; none = and_from _ _ (ap not is) cut.none })

cut : (xs : List ℕ) → (no_feed xs ≡ true) ⊎ Cut xs
cut [] = inl refl
cut (x ∷ xs) = cut_more x xs (x == 10) refl (cut xs)

past_all : (xs : List ℕ) → no_feed xs ≡ true → position_or_len is_feed xs ≡ length xs
past_all [] none = refl
past_all (x ∷ xs) none =
    let both = and_parts (not (x == 10)) (no_feed xs) none in
    let rest = past_all xs both.1 in
    ap (λ b. cond b (1 + position_or_len is_feed xs) 0) both.0 ∙ omega arith

not_below : (n : ℕ) → nat_lt n n ≡ false
not_below n = grind (arith, nat_tests)

no_line : (xs : List ℕ) (n : ℕ) → no_feed xs ≡ true → next_line (lines_of xs n) ≡ Err Short
no_line xs n none =
    let past = past_all xs none in
    let nowhere : position is_feed xs ≡ None = (λ i. cond (nat_lt (past i) (length xs)) (Some (past i)) None) ∙ ap (λ b. cond b (Some (length xs)) None) (not_below (length xs)) in
    ap (line_to (lines_of xs n)) nowhere

-- ---- one line

one_front : (front other : List ℕ) → bytes_of ((front ++ 10 ∷ []) ∷ []) ++ other ≡ front ++ (10 ∷ other)
one_front front other = ap (λ b. b ++ other) (append-nil (front ++ 10 ∷ [])) ∙ append_assoc front (10 ∷ []) other

module _ {A : Type 0} (read : List ℕ → Result A Flaw) where
  abbrev with_left : Cursor → Result A Flaw → Result (A × Cursor) TFault
  with_left l x = made (λ a. (a, l)) (told l x)

  short_of : (xs : List ℕ) (n : ℕ) → no_feed xs ≡ true → read_next read (lines_of xs n) ≡ Err Short
  short_of xs n none = ap (λ r. and_then r (λ p. with_left p.1 (read p.0))) (no_line xs n none)

  module _ (l : Cursor) (c : Cut l.rest) where
    abbrev front_of : List (List ℕ)
    front_of = (c.front ++ 10 ∷ []) ∷ []

    read_cut : (other : List ℕ) → read_next read (lines_of (bytes_of front_of ++ other) l.number) ≡ with_left (lines_of other (l.number + 1)) (read c.front)
    read_cut other =
        ap (λ bytes. read_next read (lines_of bytes l.number)) (one_front c.front other)
        ∙ ap (λ r. and_then r (λ p. with_left p.1 (read p.0))) (next_is c.front other l.number c.none)

    text_of : l.rest ≡ bytes_of front_of ++ c.behind
    text_of = c.text ∙ sym (one_front c.front c.behind)

    line_of : All IsLine front_of
    line_of = one_line (c.front ++ 10 ∷ []) (IsLine-from c.front c.none)

    here : read_next read l ≡ with_left (lines_of c.behind (l.number + 1)) (read c.front)
    here = ap (λ bytes. read_next read (lines_of bytes l.number)) text_of ∙ read_cut c.behind

    took_line : (p : A × Cursor) (x : Result A Flaw) → read c.front ≡ x → with_left (lines_of c.behind (l.number + 1)) x ≡ Ok p → Took (read_next read) l p
    took_line p (Ok a) is h =
        let same : (a, lines_of c.behind (l.number + 1)) ≡ p = cc in
        subst (Took (read_next read) l) same (record {
          front = front_of;
          text = text_of;
          lines = line_of;
          number = refl;
          each = λ other. read_cut other ∙ ap (with_left (lines_of other (l.number + 1))) is;
        })
    took_line p (Err f) is h = cc

    wrong_line : (f : TFault) (x : Result A Flaw) → read c.front ≡ x → with_left (lines_of c.behind (l.number + 1)) x ≡ Err f → Wrong (read_next read) l f
    wrong_line f (Ok a) is h = cc
    wrong_line f (Err flaw) is h =
        let same : fault_at (l.number + 1) flaw ≡ f = cc in
        subst (Wrong (read_next read) l) same (record {
          front = front_of;
          behind = c.behind;
          text = text_of;
          lines = line_of;
          flaw = flaw;
          fault = refl;
          each = λ other. read_cut other ∙ ap (with_left (lines_of other (l.number + 1))) is;
        })

    not_short : (x : Result A Flaw) → with_left (lines_of c.behind (l.number + 1)) x ≡ Err Short → ⊥
    not_short (Ok a) h = cc
    not_short (Err flaw) h = no_fault flaw h where
      no_fault : (flaw : Flaw) → with_left (lines_of c.behind (l.number + 1)) (Err flaw) ≡ Err Short → ⊥
      no_fault flaw h = elim flaw as (λ f. with_left (lines_of c.behind (l.number + 1)) (Err f) ≡ Err Short → ⊥) [ Form ↦ (λ h. cc) | Number ↦ (λ h. cc) | Name ↦ (λ h. cc) ] h

  -- where a line cannot be read: it has no end, or a flaw
  pub record Flawed (l : Cursor) (f : TFault) : Type 0 where
    pub line : List ℕ
    pub behind : List ℕ
    pub flaw : Flaw
    pub text : l.rest ≡ line ++ (10 ∷ behind)
    pub none : no_feed line ≡ true
    pub wrong : read line ≡ Err flaw
    pub fault : f ≡ fault_at (l.number + 1) flaw

  flawed_by : (l : Cursor) (f : TFault) (c : Cut l.rest) (x : Result A Flaw) → read c.front ≡ x → with_left (lines_of c.behind (l.number + 1)) x ≡ Err f → Flawed l f
  flawed_by l f c (Ok a) is h = cc
  flawed_by l f c (Err flaw) is h = record { line = c.front; behind = c.behind; flaw = flaw; text = c.text; none = c.none; wrong = is; fault = cc }

  flawed_at : (l : Cursor) (f : TFault) → read_next read l ≡ Err f → (no_feed l.rest ≡ true) ⊎ Cut l.rest → ((no_feed l.rest ≡ true) × (f ≡ Short)) ⊎ Flawed l f
  flawed_at l f h (inl none) = let short = short_of l.rest l.number none in inl (none, cc)
  flawed_at l f h (inr c) = inr (flawed_by l f c (read c.front) refl (sym (here l c) ∙ h))

  pub read_fails : (l : Cursor) (f : TFault) → read_next read l ≡ Err f → ((no_feed l.rest ≡ true) × (f ≡ Short)) ⊎ Flawed l f
  read_fails l f h = flawed_at l f h (cut l.rest)

  took_at : (l : Cursor) (p : A × Cursor) → read_next read l ≡ Ok p → (no_feed l.rest ≡ true) ⊎ Cut l.rest → Took (read_next read) l p
  took_at l p h (inl none) = let short = short_of l.rest l.number none in cc
  took_at l p h (inr c) = took_line l c p (read c.front) refl (sym (here l c) ∙ h)

  wrong_at : (l : Cursor) (f : TFault) → read_next read l ≡ Err f → (no_feed l.rest ≡ true) ⊎ Cut l.rest → (f ≡ Short) ⊎ Wrong (read_next read) l f
  wrong_at l f h (inl none) = let short = short_of l.rest l.number none in inl cc
  wrong_at l f h (inr c) = inr (wrong_line l c f (read c.front) refl (sym (here l c) ∙ h))

  short_at : (l : Cursor) (tail : List ℕ) → no_feed tail ≡ true → read_next read l ≡ Err Short → (no_feed l.rest ≡ true) ⊎ Cut l.rest → read_next read (lines_of (l.rest ++ tail) l.number) ≡ Err Short
  short_at l tail none h (inl before) = short_of (l.rest ++ tail) l.number (no_feed-append l.rest tail before none)
  short_at l tail none h (inr c) = absurd (not_short l c (read c.front) (sym (here l c) ∙ h))

  pub read_next_reads : IsReader (read_next read)
  read_next_reads = record {
    took = λ l p h. took_at l p h (cut l.rest);
    wrong = λ l f h. wrong_at l f h (cut l.rest);
    short = λ l tail none h. short_at l tail none h (cut l.rest);
  }

-- ---- more bytes

-- a flaw that was told is told where more bytes stand behind all
pub wrong_extends : {B : Type 0} (read : Cursor → Result B TFault) (l : Cursor) (f : TFault) (more : List ℕ) → Wrong read l f → read (lines_of (l.rest ++ more) l.number) ≡ Err f
wrong_extends read l f more w = ap (λ bytes. read (lines_of bytes l.number)) (ap (λ b. b ++ more) w.text ∙ append_assoc (bytes_of w.front) w.behind more) ∙ w.each (w.behind ++ more)

-- and what was read is read, with more left
pub took_extends : {A : Type 0} (read : Cursor → Result (A × Cursor) TFault) (l : Cursor) (p : A × Cursor) (more : List ℕ) → Took read l p
    → read (lines_of (l.rest ++ more) l.number) ≡ Ok (p.0, lines_of (p.1.rest ++ more) p.1.number)
took_extends read l p more t = ap (λ bytes. read (lines_of bytes l.number)) (ap (λ b. b ++ more) t.text ∙ append_assoc (bytes_of t.front) p.1.rest more) ∙ t.each (p.1.rest ++ more)

-- ---- one reader behind another

pub done_reads : {A : Type 0} (a : A) → IsReader (λ l. Ok (a, l))
done_reads a = record {
  took = λ l p h. let same : (a, l) ≡ p = cc in subst (Took (λ l. Ok (a, l)) l) same (record { front = []; text = refl; lines = All-nil IsLine; number = omega arith; each = λ other. refl });
  wrong = λ l f h. cc;
  short = λ l tail none h. cc;
}

pub and_then_wrong : {A B : Type 0} (x : Result A TFault) (next : A → Result B TFault) (f : TFault) → and_then x next ≡ Err f → (x ≡ Err f) ⊎ ((a : A) × (x ≡ Ok a) × (next a ≡ Err f))
and_then_wrong (Ok a) next f h = inr (a, refl, h)
and_then_wrong (Err g) next f h = inl cc

fronts : (one two : List (List ℕ)) (other : List ℕ) → bytes_of (one ++ two) ++ other ≡ bytes_of one ++ (bytes_of two ++ other)
fronts one two other = ap (λ b. b ++ other) (concat-append one two) ∙ append_assoc (bytes_of one) (bytes_of two) other

module _ {A B : Type 0} (first : Cursor → Result (A × Cursor) TFault) (next : A → Cursor → Result (B × Cursor) TFault) (one : IsReader first) (two : (a : A) → IsReader (next a)) where
  abbrev goes_on : A × Cursor → Result (B × Cursor) TFault
  goes_on p = next p.0 p.1

  abbrev whole : Cursor → Result (B × Cursor) TFault
  whole l = and_then (first l) goes_on

  whole_took : (l : Cursor) (p : B × Cursor) → whole l ≡ Ok p → Took whole l p
  whole_took l p h =
      let q = and_then_is (first l) goes_on p h in
      let t = one.took l q.0 q.1 in
      let s = (two q.0.0).took q.0.1 p q.2 in record {
        front = t.front ++ s.front;
        text = t.text ∙ ap (λ r. bytes_of t.front ++ r) s.text ∙ sym (fronts t.front s.front p.1.rest);
        lines = All-append IsLine t.front s.front t.lines s.lines;
        number = omega (arith, t.number, s.number, length-append t.front s.front);
        each = λ other.
            ap (λ bytes. whole (lines_of bytes l.number)) (fronts t.front s.front other)
            ∙ ap (λ r. and_then r goes_on) (t.each (bytes_of s.front ++ other))
            ∙ s.each other;
      }

  wrong_first : (l : Cursor) (f : TFault) → (f ≡ Short) ⊎ Wrong first l f → (f ≡ Short) ⊎ Wrong whole l f
  wrong_first l f (inl short) = inl short
  wrong_first l f (inr w) = inr (record {
    front = w.front;
    behind = w.behind;
    text = w.text;
    lines = w.lines;
    flaw = w.flaw;
    fault = w.fault;
    each = λ other. ap (λ r. and_then r goes_on) (w.each other);
  })

  wrong_next : (l : Cursor) (q : A × Cursor) (f : TFault) → Took first l q → (f ≡ Short) ⊎ Wrong (next q.0) q.1 f → (f ≡ Short) ⊎ Wrong whole l f
  wrong_next l q f t (inl short) = inl short
  wrong_next l q f t (inr w) =
      let place : q.1.number + length w.front ≡ l.number + length (t.front ++ w.front) = omega (arith, t.number, length-append t.front w.front) in
      inr (record {
        front = t.front ++ w.front;
        behind = w.behind;
        text = t.text ∙ ap (λ r. bytes_of t.front ++ r) w.text ∙ sym (fronts t.front w.front w.behind);
        lines = All-append IsLine t.front w.front t.lines w.lines;
        flaw = w.flaw;
        fault = w.fault ∙ ap (λ n. fault_at n w.flaw) place;
        each = λ other.
            ap (λ bytes. whole (lines_of bytes l.number)) (fronts t.front w.front other)
            ∙ ap (λ r. and_then r goes_on) (t.each (bytes_of w.front ++ other))
            ∙ w.each other;
      })

  whole_wrong : (l : Cursor) (f : TFault) → (first l ≡ Err f) ⊎ ((q : A × Cursor) × (first l ≡ Ok q) × (goes_on q ≡ Err f)) → (f ≡ Short) ⊎ Wrong whole l f
  whole_wrong l f (inl h) = wrong_first l f (one.wrong l f h)
  whole_wrong l f (inr (q, is, h)) = wrong_next l q f (one.took l q is) ((two q.0).wrong q.1 f h)

  whole_short : (l : Cursor) (tail : List ℕ) → no_feed tail ≡ true → (first l ≡ Err Short) ⊎ ((q : A × Cursor) × (first l ≡ Ok q) × (goes_on q ≡ Err Short)) → whole (lines_of (l.rest ++ tail) l.number) ≡ Err Short
  whole_short l tail none (inl h) = ap (λ r. and_then r goes_on) (one.short l tail none h)
  whole_short l tail none (inr (q, is, h)) = ap (λ r. and_then r goes_on) (took_extends first l q tail (one.took l q is)) ∙ (two q.0).short q.1 tail none h

  pub then_reads : IsReader whole
  then_reads = record {
    took = whole_took;
    wrong = λ l f h. whole_wrong l f (and_then_wrong (first l) goes_on f h);
    short = λ l tail none h. whole_short l tail none (and_then_wrong (first l) goes_on Short h);
  }

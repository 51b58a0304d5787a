-- What a forced dup gives: its pair is a provider pair whose slot 1 is a line that goes on, so that it can have a line of its own.
use Rattle.std.proofs.Common.{◌≡◌, ℕ, ◌-◌, ◌<◌, Bool, true, false, ◌&&◌, List, [], length, get_or, Some, None, refl, sym, ap, ◌∙◌, subst, arith, nat_lt}
use Rattle.std.specs.List.{list_all, list_any}
use Rattle.std.specs.Option.{option_map_or}
use Rattle.std.proofs.lemmas.Bool.{and_parts, eqb-true, false_from_ne_true, false≢true, ltb-true, not_from_false}
use Rattle.metis_ids.specs.declared.events.Event.{Event}
use Rattle.metis_universe.proofs.Rounds.{has-filter}
use Rattle.metis_universe.specs.Terms.{Universe, has}
use Rattle.metis_layers.specs.Terms.{place_of}
use Rattle.metis_support.proofs.Paths.{origins_fall, place_at_end}
use Rattle.metis_support.specs.Terms.{IsSupport, Support, is_number, is_selected}
use Rattle.metis_lines.proofs.Holders.{end_is, held, way_at}
use Rattle.metis_lines.proofs.Slotted.{held_first, no_first}
use Rattle.metis_lines.specs.Terms.{AreLines, LifeLines, ends_in, holder_line, holder_of, holding, is_cycle, is_event, is_loose, last, leads_on, line_at, line_ends, lines_of, plan_of}
use Rattle.metis_lines.proofs.Formed.{own_selected}
use Rattle.metis_audit.specs.Terms.{is_forced}

module _ (u : Universe) (s : Support) (over : IsSupport u s) (x : LifeLines) (are : AreLines u s x) where
  listed_selected : (p : ℕ) → has x.providers p ≡ true → is_selected s p ≡ true
  listed_selected p listed = (and_parts (list_any (is_number p) s.providers) (is_selected s p) (sym (has-filter (λ q. list_any (is_number q) s.providers) p s.selected.members) ∙ ap (λ ps. has ps p) (ap (λ (z : LifeLines). z.providers) (sym are.are)) ∙ listed)).1

  -- what is held is there
  record IsThere (z : LifeLines) (p : ℕ) : Type 0 where
    line : holder_line z p < length z.lines
    place : (holding z p).1 < length (line_at z (holder_line z p))
    end : ends_in p (line_at z (holder_line z p)) ≡ true → (holding z p).1 ≡ last (record { lines = z.lines; targets = 0; supplies = [] }) (holder_line z p)

  there_of : (p : ℕ) → is_selected s p ≡ true → IsThere (lines_of u s x.targets x.own) p
  there_of p chosen =
      let own = own_selected u s over x are in
      let falls = origins_fall u s over in
      let z = lines_of u s x.targets x.own in
      let h = held u s falls x.targets x.own are.targets own p chosen in
      let l = holder_line z p in
      let way = way_at u s falls x.targets x.own are.targets own l h.line in
      record {
        line = h.line;
        place = h.place;
        end = λ ends.
            let is : get_or (line_ends u s x.targets x.own) l 0 ≡ p = sym (end_is u s falls x.targets x.own are.targets own l h.line) ∙ eqb-true (get_or (line_at z l) (length (line_at z l) - 1) 0) p ends in
            ap (place_of (line_at z l)) (sym is) ∙ place_at_end s falls (get_or (line_ends u s x.targets x.own) l 0) (line_at z l) way;
      }

  there : (p : ℕ) → has x.providers p ≡ true → IsThere x p
  there p listed = subst (λ z. IsThere z p) (sym are.are) (there_of p (listed_selected p listed))

  pub holder_low : (p : ℕ) (h : ℕ × ℕ) → holder_of x p 1 ≡ Some h → h.0 < length x.lines
  holder_low p h is = by (has x.providers p) refl where
    none_some : (h : ℕ × ℕ) → None ≡ Some h → ⊥
    none_some h e = cc

    same_some : (a b : ℕ × ℕ) → Some a ≡ Some b → a ≡ b
    same_some a b e = cc

    by : (b : Bool) → has x.providers p ≡ b → h.0 < length x.lines
    by true listed = subst (λ (v : ℕ × ℕ). v.0 < length x.lines) (same_some (holding x p) h (sym (held_first x p listed) ∙ is)) (there p listed).line
    by false none = absurd (none_some h (sym (no_first x p none) ∙ is))

  -- a provider pair from whose place the line that is slot 1 goes on
  pub record IsProvider (p : ℕ) : Type 0 where
    pub listed : has x.providers p ≡ true
    pub loose : is_loose x p ≡ true

  pub goes_on : (p : ℕ) (es : List Event) → is_forced u s x p es ≡ true → IsProvider p
  goes_on p es forced = by (has x.providers p) refl where
    at : option_map_or (λ held. leads_on (plan_of u s x) es held.0 held.1) (holder_of x p 1) false ≡ true
    at = (and_parts (list_all (is_event (plan_of u s x)) es && is_cycle (plan_of u s x) es) (option_map_or (λ held. leads_on (plan_of u s x) es held.0 held.1) (holder_of x p 1) false) forced).1

    by : (b : Bool) → has x.providers p ≡ b → IsProvider p
    by false none = absurd (false≢true (sym (ap (λ o. option_map_or (λ held. leads_on (plan_of u s x) es held.0 held.1) o false) (no_first x p none)) ∙ at))
    by true listed =
        let here = sym (ap (λ o. option_map_or (λ held. leads_on (plan_of u s x) es held.0 held.1) o false) (held_first x p listed)) ∙ at in
        let on = ltb-true (holding x p).1 (last (plan_of u s x) (holder_line x p)) (and_parts (nat_lt (holding x p).1 (last (plan_of u s x) (holder_line x p))) _ here).0 in
        record {
          listed = listed;
          loose = not_from_false (ends_in p (line_at x (holder_line x p))) (false_from_ne_true (ends_in p (line_at x (holder_line x p))) (λ ends.
              let same = (there p listed).end ends in
              absurd (omega arith)));
        }

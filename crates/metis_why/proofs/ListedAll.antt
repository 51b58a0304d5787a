-- All lines, as they are read.
use Rattle.std.proofs.Common.{◌≡◌, ℕ, ◌+◌, ◌<◌, ◌≤◌, Bool, List, [], length, get_or, ap, ◌∙◌, arith}
use Rattle.std.proofs.lemmas.List.{get_or-map, length-map}
use Rattle.metis_ids.specs.declared.goals.Goal.{Goal}
use Rattle.metis_universe.specs.Terms.{Universe}
use Rattle.metis_why.proofs.Followed.{reading_more, reading_start}
use Rattle.metis_why.specs.Terms.{IsReadTo, IsTold, line_in, lines_in, named_by, names_in, noted, wanted_by}
use Rattle.metis_why.specs.declared.reason.Line.{Line}

module _ (u : Universe) (x : ℕ → Bool) (g : Goal) where
  pub told_first : (lines : List Line) (wanted : List ℕ) → wanted ≡ wanted_by u g → lines ≡ lines_in u x (noted [] wanted) → (pairs : List ℕ) × IsReadTo (names_in u x) (wanted_by u g) pairs 0 × (lines ≡ lines_in u x pairs)
  told_first lines wanted is are = (noted [] wanted, reading_start (names_in u x) (wanted_by u g) (noted [] wanted) (ap (noted []) is), are)

  pub told_next : (old new : List Line) (names : List ℕ) (n : ℕ) (line : Line) → ((pairs : List ℕ) × IsReadTo (names_in u x) (wanted_by u g) pairs n × (old ≡ lines_in u x pairs)) → n < length old → line ≡ get_or old n line → names ≡ named_by u line.pair line.reason →
      ((list : List ℕ) → old ≡ lines_in u x list → new ≡ lines_in u x (noted list names)) → (pairs : List ℕ) × IsReadTo (names_in u x) (wanted_by u g) pairs (n + 1) × (new ≡ lines_in u x pairs)
  told_next old new names n line told low at is more =
      let pairs : List ℕ = told.0 in
      let short : n < length pairs = omega (arith, low, ap length told.2, length-map pairs (line_in u x)) in
      let here : line ≡ line_in u x (get_or pairs n 0) = at ∙ ap (λ l. get_or l n line) told.2 ∙ get_or-map (line_in u x) pairs n 0 line short in
      let named : names ≡ names_in u x (get_or pairs n 0) = is ∙ ap (λ (l : Line). named_by u l.pair l.reason) here in
      (noted pairs names, reading_more (names_in u x) (wanted_by u g) pairs (noted pairs names) n told.1 short (ap (noted pairs) named), more pairs told.2)

  pub told_whole : (lines : List Line) (n : ℕ) → ((pairs : List ℕ) × IsReadTo (names_in u x) (wanted_by u g) pairs n × (lines ≡ lines_in u x pairs)) → length lines ≤ n → IsTold u g x lines
  told_whole lines n told all = record {
    pairs = told.0;
    followed = record { count = n; read = told.1; whole = omega (arith, all, ap length told.2, length-map told.0 (line_in u x)) };
    are = told.2;
  }

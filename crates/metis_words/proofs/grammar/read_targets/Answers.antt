use Rattle.std.proofs.Common.{◌≡◌, ◌+◌, ◌∙◌, ℕ, not, ap, sym, arith, length, string_bytes}
use Rattle.std.proofs.lemmas.List.{length-map, length_push}
use Rattle.std.specs.List.{filter_map}
use Rattle.std.specs.Prelude.{is_some}
use Rattle.metis_universe.specs.Terms.{texts}
use Rattle.metis_words.specs.Terms.{target_fits, target_of}
use Rattle.metis_ids.proofs.Finding.{none_in_range}
use Rattle.metis_words.proofs.Misfits.{misfit_at, stops_at, target_fits_is, target_past, targets_next}
use Rattle.metis_words.proofs.grammar.read_targets.Goals as goal

pub returns-then-k-limit-clause-targets : goal.returns-then-k-limit-clause-targets
returns-then-k-limit-clause-targets c =
    let words = c.args.words.now in
    misfit_at (λ j. not (target_fits c.args.limit (texts words) j)) c.args.first (length (texts words)) c.loop-k.k (filter_map target_of (texts words)) (omega (arith, c.loop-k-test.true, length-map words (λ t. string_bytes t))) c.loop-k.invariant.fit (ap not (target_past (λ t. string_bytes t) words c.args.limit c.loop-k.k c.if-k-limit.true))

pub returns-in_err-ok_or-clause-targets : goal.returns-in_err-ok_or-clause-targets
returns-in_err-ok_or-clause-targets c =
    let words = c.args.words.now in
    let k = c.loop-k.k in
    let w = c.index-words-k.result in
    let none = c.in_err-ok_or.ensures.ok_part in
    let fails = target_fits_is (λ t. string_bytes t) words c.args.limit k w c.if-k-limit.false c.loop-k-test.true c.index-words-k.is ∙ ap (λ b. is_some (target_of b)) (sym c.as_str.ensures.value) ∙ ap is_some (sym c.in_ok-read_target.ensures ∙ none) in
    stops_at c.from_residual-in_err-ok_or.result c.in_ok-read_target.field-0 c.in_err-ok_or.field-0.0 (c.args.first + k) _ _ c.from_residual-in_err-ok_or.ensures.1 c.in_err-ok_or.ensures.value none
    (misfit_at (λ j. not (target_fits c.args.limit (texts words) j)) c.args.first (length (texts words)) k (filter_map target_of (texts words)) (omega (arith, c.loop-k-test.true, length-map words (λ t. string_bytes t))) c.loop-k.invariant.fit (ap not fails))

pub loop-k-preserved : goal.loop-k-preserved
loop-k-preserved c =
    let words = c.args.words.now in
    let k = c.loop-k.k in
    let w = c.index-words-k.result in
    let t = c.in_ok-ok_or.field-0 in
    let same : 0 + k ≡ k = omega arith in
    let fit = λ (j : ℕ). not (target_fits c.args.limit (texts words) j) in
    let found = ap target_of (sym c.as_str.ensures.value) ∙ sym c.in_ok-read_target.ensures ∙ c.in_ok-ok_or.ensures.ok_part in
    let passes = target_fits_is (λ t. string_bytes t) words c.args.limit k w c.if-k-limit.false c.loop-k-test.true c.index-words-k.is ∙ ap is_some found in
    record {
      targets = targets_next (λ t. string_bytes t) words k w c.loop-k.targets.items c.push.new.self.items t c.loop-k-test.true c.index-words-k.is c.in_ok-push.ensures.items c.loop-k.invariant.targets found;
      all = omega (arith, ap length c.in_ok-push.ensures.items, length_push c.loop-k.targets.items t, c.loop-k.invariant.all);
      few = omega (arith, c.if-k-limit.false);
      fit = none_in_range fit 0 k c.loop-k.invariant.fit (ap fit same ∙ ap not passes);
    }

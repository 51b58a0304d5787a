use Rattle.std.proofs.Common.{◌≡◌, ℕ, ◌<◌, ◌+◌, ◌∙◌, not, ap, sym, arith, take, length, string_bytes, Err}
use Rattle.std.proofs.lemmas.List.{length_push}
use Rattle.metis_universe.specs.Terms.{texts}
use Rattle.metis_words.specs.Terms.{file_fits}
use Rattle.metis_ids.proofs.Finding.{none_in_range}
use Rattle.metis_words.proofs.Misfits.{misfit_at, texts_next}
use Rattle.metis_words.proofs.grammar.read_files.Goals as goal

pub returns-then-not-file_fits-clause-files : goal.returns-then-not-file_fits-clause-files
returns-then-not-file_fits-clause-files c =
    let words = texts c.args.words.now in
    let k = c.loop-k.k in
    let place : 2 + k ≡ k + 2 = omega arith in
    misfit_at (λ j. not (file_fits words j)) 2 c.args.count k (take c.args.count words) c.loop-k-test.true c.loop-k.invariant.fit (ap not (sym c.file_fits.ensures.fits ∙ c.if-not-file_fits.true)) ∙ ap Err place

pub loop-k-preserved : goal.loop-k-preserved
loop-k-preserved c =
    let words = c.args.words.now in
    let k = c.loop-k.k in
    let same : 0 + k ≡ k = omega arith in
    let fit = λ (j : ℕ). not (file_fits (texts words) j) in
    let low : k < length words = c.file_fits.ensures.there c.if-not-file_fits.false in
    record {
      files = texts_next (λ t. string_bytes t) words k c.index-words-k.result c.loop-k.files.items c.push.new.self.items c.in_ok-clone.field-0 low c.index-words-k.is c.in_ok-push.ensures.items c.loop-k.invariant.files c.in_ok-clone.ensures.cases;
      all = omega (arith, ap length c.in_ok-push.ensures.items, length_push c.loop-k.files.items c.in_ok-clone.field-0, c.loop-k.invariant.all);
      there = omega (arith, low);
      fit = none_in_range fit 0 k c.loop-k.invariant.fit (ap fit same ∙ ap not (sym c.file_fits.ensures.fits ∙ c.if-not-file_fits.false));
    }

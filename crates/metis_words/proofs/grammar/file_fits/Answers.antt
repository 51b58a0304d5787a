use Rattle.std.proofs.Common.{◌≡◌, ◌∙◌, not, ap, sym, nat_eq, take, length, rules, string_bytes}
use Rattle.metis_ids.proofs.Lists.{list_any-map}
use Rattle.metis_universe.specs.Terms.{texts}
use Rattle.metis_words.specs.Terms.{is_dash}
use Rattle.metis_words.proofs.Misfits.{file_fits_is, file_missing, fits_dash, fits_plain}
use Rattle.metis_words.proofs.grammar.file_fits.Goals as goal

pub returns-in-Some-clause-fits : goal.returns-in-Some-clause-fits
returns-in-Some-clause-fits c =
    let words = c.args.words.now in
    let k = c.args.k in
    let word = c.in-Some.word.now in
    let found = c.in-Some.ensures.lookup in
    ap not (c.has_dash.ensures ∙ sym (list_any-map is_dash (λ t. string_bytes t) (take k words)))
    ∙ fits_dash (texts (take k words)) (string_bytes word) (ap is_dash (sym c.as_str.ensures.value) ∙ sym c.eq.ensures ∙ c.if-eq.true)
    ∙ sym (file_fits_is (λ t. string_bytes t) words k word found.3.0 found.1)

pub returns-in-Some-2-clause-fits : goal.returns-in-Some-2-clause-fits
returns-in-Some-2-clause-fits c =
    let words = c.args.words.now in
    let k = c.args.k in
    let word = c.in-Some.word.now in
    let found = c.in-Some.ensures.lookup in
    let empty : c.is_empty.result ≡ nat_eq (length (string_bytes word)) 0 = search rules in
    ap not empty
    ∙ fits_plain (texts (take k words)) (string_bytes word) (ap is_dash (sym c.as_str.ensures.value) ∙ sym c.eq.ensures ∙ c.if-eq.false)
    ∙ sym (file_fits_is (λ t. string_bytes t) words k word found.3.0 found.1)

pub returns-in-None-clause-fits : goal.returns-in-None-clause-fits
returns-in-None-clause-fits c = sym (file_missing (λ t. string_bytes t) c.args.words.now c.args.k c.in-None.ensures.lookup.3)

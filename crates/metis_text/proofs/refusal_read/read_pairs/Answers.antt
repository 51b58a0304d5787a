use Rattle.std.proofs.Common.{◌≡◌, ◌+◌, ◌-◌, ◌∷◌, ◌++◌, [], ℕ, List, Bor, true, Ok, Err, refl, sym, ap, ◌∙◌}
use Rattle.std.specs.Prelude.{map}
use Rattle.std.proofs.lemmas.Result.{err_from_is_err_and}
use Rattle.metis_tokens.specs.Terms.{fault_at, right}
use Rattle.metis_text.specs.Terms.{above, follows, next_pair_in, pair_of_tokens, pairs_from}
use Rattle.metis_tokens.proofs.LinesRead.{reads_more, reads_short, reads_wrong}
use Rattle.metis_tokens.proofs.Outcomes.{right_is}
use Rattle.metis_text.proofs.RefusalPairs.{above_last, insert_behind, right_same}
use Rattle.metis_text.proofs.refusal_read.read_pairs.Goals as goal

pub returns-in_err-line-clause-read : goal.returns-in_err-line-clause-read
returns-in_err-line-clause-read c =
    let u = c.args.u.now in
    let p = err_from_is_err_and c.from_residual-in_err-line.result c.from_residual-in_err-line.ensures.1 in
    rw (p.1, p.2) (λ known. c.loop.invariant.rest
    ∙ reads_short (next_pair_in u) (λ pairs p. pairs ++ p ∷ []) (pairs_from u) (λ _ _ _. refl) c.args.count c.loop.counter _ c.loop.lines _ c.loop-test.true (c.in_err-line.ensures known))

pub returns-in-Err-clause-read : goal.returns-in-Err-clause-read
returns-in-Err-clause-read c = λ known.
    let u = c.args.u.now in
    let line = c.in_ok-line.line.now in
    let pairs = c.loop.pairs.members in
    let same = right_same (follows c.loop.last) (above pairs) (pair_of_tokens u (map (λ t. t.now) c.deref.result.now)) c.loop.invariant.last in
    let words = ap (λ (ts : List (Bor (List ℕ))). right (above pairs) (pair_of_tokens u (map (λ t. t.now) ts))) c.deref.ensures.value ∙ ap (λ ts. right (above pairs) (pair_of_tokens u ts)) c.in_ok-tokens.ensures in
    let wrong : next_pair_in u pairs line ≡ Err c.in-Err.flaw = sym (c.next_pair_of.ensures ∙ same ∙ words) ∙ c.in-Err.is in
    c.loop.invariant.rest
    ∙ reads_wrong (next_pair_in u) (λ pairs p. pairs ++ p ∷ []) (pairs_from u) (λ _ _ _. refl) c.args.count c.loop.counter pairs c.loop.lines c.next_line.new.self line c.in-Err.flaw c.loop-test.true c.in_ok-line.ensures wrong
    ∙ ap Err (ap (λ n. fault_at n c.in-Err.flaw) (sym c.number.ensures) ∙ sym c.at.ensures)

pub loop-preserved : goal.loop-preserved
loop-preserved c =
    let u = c.args.u.now in
    let line = c.in_ok-line.line.now in
    let pairs = c.loop.pairs.members in
    let pair = c.in-Ok.pair in
    let same = right_same (follows c.loop.last) (above pairs) (pair_of_tokens u (map (λ t. t.now) c.deref.result.now)) c.loop.invariant.last in
    let words = ap (λ (ts : List (Bor (List ℕ))). right (above pairs) (pair_of_tokens u (map (λ t. t.now) ts))) c.deref.ensures.value ∙ ap (λ ts. right (above pairs) (pair_of_tokens u ts)) c.in_ok-tokens.ensures in
    let read : next_pair_in u pairs line ≡ Ok pair = sym (c.next_pair_of.ensures ∙ same ∙ words) ∙ c.in-Ok.is in
    let behind : above pairs pair ≡ true = (right_is (above pairs) _ pair read).1 in
    let members = c.add.ensures.members ∙ insert_behind pairs pair behind in
    record {
      rest = c.loop.invariant.rest
          ∙ reads_more (next_pair_in u) (λ pairs p. pairs ++ p ∷ []) (pairs_from u) (λ _ _ _. refl) c.args.count c.loop.counter pairs c.loop.lines c.next_line.new.self line pair c.loop-test.true c.in_ok-line.ensures read
          ∙ ap (λ l. pairs_from u (c.args.count - (c.loop.counter + 1)) l c.next_line.new.self) (sym members);
      size = c.add.ensures.size ∙ c.loop.invariant.size;
      last = λ q. above_last pairs pair behind q ∙ ap (λ l. above l q) (sym members);
    }

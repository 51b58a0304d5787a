use Rattle.std.proofs.Common.{◌≡◌, ◌++◌, [], IfOk, ap, codes, string_bytes, subst, ◌∙◌}
use Rattle.json.specs.Print.{print}
use Rattle.serde_json.proofs.Texts.{print-outline}
use Rattle.metis_ujson.specs.Terms.{document_of, rows_of_universe, tokens_of}
use Rattle.metis_ujson.proofs.spelling.text_of.Goals as goal

pub returns : goal.returns
returns c =
    let u = c.args.u.now in
    let document = document_of u.version (rows_of_universe u) in
    let added = c.in_ok-put_document.ensures in
    let before : c.put_document.new.out.before ≡ [] = added.before ∙ c.new-out.ensures.before ∙ c.new.ensures.items in
    let tokens : c.put_document.new.out.tokens ≡ tokens_of document = added.tokens ∙ ap (λ ts. ts ++ tokens_of document) c.new-out.ensures.tokens in
    let text = ap (λ v. v.items) c.in-Ok.ensures.ok ∙ c.into_inner.ensures.items ∙ (λ i. before i ++ print (tokens i)) ∙ print-outline document in
    subst (λ bytes. IfOk c.with_feed.result (λ line. string_bytes line ≡ bytes)) (ap (λ bytes. bytes ++ codes "\n") text) c.with_feed.ensures

use Rattle.std.proofs.Common.{◌≡◌, ℕ}
use Rattle.std.specs.BTreeMap.{get, is_at}
use Rattle.std.proofs.lemmas.Map.Entries.{lookup_clone}
use Rattle.metis_config.specs.Terms.{key_cmp, shares_of}
use Rattle.metis_config.specs.declared.supply.Supply.{Supply}
use Rattle.metis_config.proofs.Tallies.{cloned}
use Rattle.metis_config.proofs.crowds.Crowds.copy.Goals as goal

pub returns : goal.returns
returns c = λ w r f.
    cloned f (get key_cmp c.args.self.now.map (w, r)) (get key_cmp c.in_ok-clone.field-0 (w, r))
    (lookup_clone (λ (x y : ℕ × ℕ). (y.0 ≡ x.0) × (y.1 ≡ x.1)) (λ (x y : Supply). shares_of y ≡ shares_of x) (is_at (key_cmp (w, r))) (λ x y h. λ i. is_at (key_cmp (w, r)) (h.0 i, h.1 i)) c.args.self.now.map.entries c.in_ok-clone.field-0.entries c.in_ok-clone.ensures.cases)

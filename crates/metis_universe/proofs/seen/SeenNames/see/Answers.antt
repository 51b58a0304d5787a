use Rattle.std.proofs.Common.{◌≡◌, position, None, Some, string_bytes, sym, ap, ◌∙◌}
use Rattle.std.specs.Str.{bytes_eq}
use Rattle.std.proofs.lemmas.List.{length-map}
use Rattle.metis_universe.specs.Terms.{texts, with_name}
use Rattle.metis_universe.proofs.Named.{position-map}
use Rattle.metis_universe.proofs.SeenPorts.{none_from, place_of_new, seen_there, with_name-new}
use Rattle.metis_universe.proofs.seen.SeenNames.see.Goals as goal

pub returns-in-Some-clause-number : goal.returns-in-Some-clause-number
returns-in-Some-clause-number c =
    ap (position (bytes_eq c.args.name.now)) (sym c.self.view_is)
    ∙ position-map (λ t. string_bytes t) (bytes_eq c.args.name.now) c.self.inside.names.keys ∙ sym c.get_index_of.ensures.index ∙ c.in-Some.is

pub returns-in-Some-clause-seen : goal.returns-in-Some-clause-seen
returns-in-Some-clause-seen c =
    seen_there c.args.self.now c.args.name.now c.in-Some.number
    (ap (position (bytes_eq c.args.name.now)) (sym c.self.view_is)
    ∙ position-map (λ t. string_bytes t) (bytes_eq c.args.name.now) c.self.inside.names.keys ∙ sym c.get_index_of.ensures.index ∙ c.in-Some.is)

pub returns-clause-seen : goal.returns-clause-seen
returns-clause-seen c =
    with_name-new c.self.inside.names.keys c.insert.new.self.keys c.in_ok-from_str.field-0 c.args.name.now c.in_ok-from_str.ensures.ok c.in_ok-insert.ensures.keys
    ∙ ap (λ names. with_name names c.args.name.now) c.self.view_is

pub returns-clause-number : goal.returns-clause-number
returns-clause-number c =
    let keys = c.self.inside.names.keys in
    let none : position (bytes_eq c.args.name.now) (texts keys) ≡ None = position-map (λ t. string_bytes t) (bytes_eq c.args.name.now) keys ∙ sym c.get_index_of.ensures.index ∙ none_from c.get_index_of.result c.in_default.not-Some in
    place_of_new (texts keys) (texts c.insert.new.self.keys) c.args.name.now none
    (with_name-new keys c.insert.new.self.keys c.in_ok-from_str.field-0 c.args.name.now c.in_ok-from_str.ensures.ok c.in_ok-insert.ensures.keys)
    ∙ ap Some (length-map keys (λ t. string_bytes t) ∙ sym c.len-number.ensures.len)

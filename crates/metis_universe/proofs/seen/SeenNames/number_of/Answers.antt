use Rattle.std.proofs.Common.{position, string_bytes, sym, ap, ◌∙◌}
use Rattle.std.specs.Str.{bytes_eq}
use Rattle.metis_universe.proofs.Named.{position-map, some_within}
use Rattle.metis_universe.proofs.seen.SeenNames.number_of.Goals as goal

pub returns-clause-number : goal.returns-clause-number
returns-clause-number c =
    c.get_index_of.ensures.index ∙ sym (position-map (λ t. string_bytes t) (bytes_eq c.args.name.now) c.self.inside.names.keys) ∙ ap (position (bytes_eq c.args.name.now)) c.self.view_is

pub returns-clause-within : goal.returns-clause-within
returns-clause-within c =
    some_within (bytes_eq c.args.name.now) c.args.self.now c.get_index_of.result
    (c.get_index_of.ensures.index ∙ sym (position-map (λ t. string_bytes t) (bytes_eq c.args.name.now) c.self.inside.names.keys) ∙ ap (position (bytes_eq c.args.name.now)) c.self.view_is)

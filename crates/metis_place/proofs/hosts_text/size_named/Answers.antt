use Rattle.std.proofs.Common.{ap, ◌∙◌}
use Rattle.std.specs.Option.{unwrap_or}
use Rattle.metis_place.proofs.Entries.{lookup-entries_of}
use Rattle.metis_place.proofs.hosts_text.size_named.Goals as goal

pub returns : goal.returns
returns c =
    c.unwrap_or.ensures ∙ ap (λ o. unwrap_or o 1) (c.copied.ensures ∙ c.get.ensures.value ∙ lookup-entries_of c.args.name.now c.args.sizes.now.entries)

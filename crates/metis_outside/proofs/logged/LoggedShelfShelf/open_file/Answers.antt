use Rattle.std.proofs.Common.{◌≡◌, ◌∙◌, Err, rules}
use Rattle.metis_outside.proofs.Noted.{opens_noted}
use Rattle.metis_outside.specs.declared.trouble.Trouble.TheVariants.{Failed}
use Rattle.metis_outside.proofs.logged.LoggedShelfShelf.open_file.Goals as goal

pub returns-then-eq-clause-opens : goal.returns-then-eq-clause-opens
returns-then-eq-clause-opens g c =
    let failed : c.open_file-opened.result ≡ Err Failed = search rules in
    opens_noted c.args.name.now _ _ _ _ _ _ c.open_file-opened.result failed (c.note_failure.ensures.opens ∙ c.saturating_add-self.ensures) c.in_ok-push.ensures.items c.in_ok-kept.ensures.ok c.note_failure.ensures.log

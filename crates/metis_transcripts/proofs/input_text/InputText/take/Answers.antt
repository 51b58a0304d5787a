use Rattle.std.proofs.Common.{ℕ, List, length, take, ap, ◌∙◌, sym, arith}
use Rattle.metis_outside.proofs.Copying.{from_here, moved}
use Rattle.metis_transcripts.proofs.input_text.InputText.take.Goals as goal

pub returns-clause-bytes : goal.returns-clause-bytes
returns-clause-bytes c =
    let rest = from_here c.deref.result.now c.self.inside.bytes.items c.self.inside.at c.deref.ensures.value in
    let copied = c.copy_from_slice.ensures.after ∙ ap (λ (l : List ℕ). take c.min-count.result l) rest in
    sym (ap (λ t. t.left) c.self.view_is) ∙ moved c.self.inside.bytes.items c.copy_from_slice.new.self _ c.self.inside.at c.min-count.result copied (omega (arith, ap length rest))

use Rattle.std.proofs.Common.{codes, Some, None}
use Rattle.std.proofs.lemmas.Str.Pattern.{split_text_parts}
use Rattle.metis_transcripts.proofs.Cases.{single_case, piped_case}
use Rattle.metis_transcripts.proofs.case.play_case.Goals as goal

pub returns-in-Some : goal.returns-in-Some
returns-in-Some g c =
    let split = split_text_parts (codes " | ") c.args.line.now (Some (c.in-Some.first, c.in-Some.second)) c.in-Some.ensures.cases in
    piped_case _ _ _ _ _ _ _ _ _ _ _ c.in_ok-put_head.ensures split c.play_piped.ensures

pub returns-in-None : goal.returns-in-None
returns-in-None g c =
    let no_bar = split_text_parts (codes " | ") c.args.line.now None c.in-None.ensures.cases in
    single_case _ _ _ _ _ _ _ _ _ c.in_ok-put_head.ensures no_bar c.play_single.ensures

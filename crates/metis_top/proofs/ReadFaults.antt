-- The line of a failed read tells how many files were opened.
use Rattle.std.proofs.Common.{◌≡◌, ℕ, suc, ◌+◌, ◌-◌, ◌≤◌, List, [], ◌∷◌, drop, length, take, Option, Some, Result, Ok, Err, Bool, true, false, refl, sym, ap, ◌∙◌, subst, inl, inr, arith, nat_le, if◌then◌else◌}
use Rattle.std.proofs.lemmas.List.{take-take}
use Rattle.std.specs.declared.option.Option.{Option as Known}
use Rattle.metis_outside.specs.Terms.{Appends, Openings, Rose, Written, broken, grown, sound}
use Rattle.metis_inputs.specs.declared.stop.InputFault.{InputFault}
use Rattle.metis_inputs.specs.declared.stop.InputFault.TheVariants.{Word, TooLong}
use Rattle.metis_inputs.specs.declared.stop.InputFault.TheVariants as input
use Rattle.metis_output.specs.declared.status.Status.{Status}
use Rattle.metis_output.specs.declared.status.Status.TheVariants.{ReadFault}
use Rattle.metis_inputs.specs.Terms.{AreTaken, Fault, Inputs, IsRead, Meaning, Meanings, Read, Reply, Script, after, command_script, goals_named, inputs_then, judged, meaning, named, or_fault, script_from, targets_then, text_limit, text_then, texts_then, universe_then}
use Rattle.metis_top.specs.Terms.{Ends, Numbered, OnShelf, Ran, Says, TellsReadFault, fault_status, read_fault_line}
use Rattle.metis_output.specs.Terms.{Shown}
use Rattle.metis_top.proofs.FileWords.{are_words}
use Rattle.metis_top.proofs.Openings.{names_failed, names_read, one_more, reads_command}
use Rattle.metis_ujson.specs.Terms.{document_limit, universe_in}
use Rattle.metis_words.specs.Terms.{Form, NoFile, OfGoals, OfUniverse, Reading, TextKind, file_count, form_of, reading, word_at}
use Rattle.metis_universe.specs.Terms.{Universe}

not_refused : (why : InputFault) → fault_status why ≡ ReadFault → ⊥
not_refused (Word place) is = cc
not_refused (TooLong place) is = cc
not_refused (input.Universe fault) is = cc
not_refused (input.PlanText fault) is = cc
not_refused (input.RefusalText fault) is = cc
not_refused (input.WhyText fault) is = cc
not_refused (input.HostsText fault) is = cc
not_refused (input.WishesText fault) is = cc
not_refused (input.Turns place) is = cc

Numbered-after : (taken : List (List ℕ)) (script : Script) (first : ℕ) → Numbered first script → Numbered (first + length taken) (after taken script)
Numbered-after [] script first n = subst (λ k. Numbered k script) (omega arith) n
Numbered-after (bytes ∷ taken) (Read place name limit next) first n =
    subst (λ k. Numbered k (after taken (next bytes))) (omega arith) (Numbered-after taken (next bytes) (suc first) (n.1 bytes))
Numbered-after (bytes ∷ taken) (Fault why) first n = tt
Numbered-after (bytes ∷ taken) (Reply verb inputs size numbers) first n = tt

-- the parts of scripts
numbered_if : (k : ℕ) (test : Bool) (script : Script) (why : InputFault) → Numbered k script → Numbered k (if test then script else Fault why)
numbered_if k true script why n = n
numbered_if k false script why n = tt

numbered_judged : {X : Type 0} (k : ℕ) (next : X → Script) (r : Result X InputFault) → ((x : X) → Numbered k (next x)) → Numbered k (judged next r)
numbered_judged k next (Ok x) n = n x
numbered_judged k next (Err why) n = tt

numbered_universe : (place : ℕ) (name : List ℕ) (next : Universe → Script) → ((u : Universe) → Numbered (suc place) (next u)) → Numbered place (universe_then place name next)
numbered_universe place name next n = (refl, λ bytes. numbered_if (suc place) (nat_le (length bytes) document_limit) (judged next (or_fault input.Universe (universe_in bytes))) (TooLong place) (numbered_judged (suc place) next (or_fault input.Universe (universe_in bytes)) n))

numbered_text : (kind : TextKind) (place : ℕ) (u : Universe) (name : List ℕ) (next : Meaning kind → Script) → ((said : Meaning kind) → Numbered (suc place) (next said)) → Numbered place (text_then kind place u name next)
numbered_text kind place u name next n = (
  refl,
  λ bytes. numbered_if (suc place) (nat_le (length bytes) (text_limit kind)) (judged next (meaning u kind bytes)) (TooLong place) (numbered_judged (suc place) next (meaning u kind bytes) n),
)

numbered_texts : (kinds : List TextKind) (place : ℕ) (u : Universe) (names : List (List ℕ)) (next : Meanings kinds → Script) → ((said : Meanings kinds) (first : ℕ) → Numbered first (next said)) → Numbered place (texts_then kinds place u names next)
numbered_texts [] place u names next n = n tt place
numbered_texts (kind ∷ kinds) place u names next n =
    numbered_text kind place u (word_at names (place - 2)) (λ said. texts_then kinds (place + 1) u names (λ more. next (said, more)))
    (λ said. let same : place + 1 ≡ suc place = omega arith in subst (λ k. Numbered k (texts_then kinds (place + 1) u names (λ more. next (said, more)))) same
    (numbered_texts kinds (place + 1) u names (λ more. next (said, more)) (λ more first. n (said, more) first)))

-- the files of a command
numbered_inputs : (r : Reading) (form : Form) (next : Inputs r → Script) → ((inputs : Inputs r) (first : ℕ) → Numbered first (next inputs)) → Numbered 2 (inputs_then r form next)
numbered_inputs NoFile form next n = n tt 2
numbered_inputs (OfUniverse kinds) form next n =
    numbered_universe 2 (word_at form.files 0) (λ u. texts_then kinds 3 u form.files (λ said. next (u, said))) (λ u. numbered_texts kinds 3 u form.files (λ said. next (u, said)) (λ said. n (u, said)))
numbered_inputs (OfGoals kinds) form next n =
    numbered_universe 2 (word_at form.files 0) (λ u. targets_then (length kinds + 3) u form.targets (λ goals. texts_then kinds 3 u form.files (λ said. next ((u, goals), said))))
    (λ u. numbered_judged 3 (λ goals. texts_then kinds 3 u form.files (λ said. next ((u, goals), said))) (goals_named (length kinds + 3) u form.targets)
    (λ goals. numbered_texts kinds 3 u form.files (λ said. next ((u, goals), said)) (λ said. n ((u, goals), said))))

numbered_command : (form : Form) → Numbered 2 (command_script form)
numbered_command form = numbered_inputs (reading form.verb) form (λ inputs. Reply form.verb inputs form.size form.numbers) (λ inputs first. tt)

-- the place of the file that a script is to read
read_at : (first : ℕ) (script : Script) (lines : List (List ℕ)) (old new : Written) → Numbered first script → IsRead script → Says script lines ReadFault → Appends old new lines → Appends old new (read_fault_line first ∷ [])
read_at first (Read place name limit next) lines old new n read says put = subst (Appends old new) (says.0 ∙ ap (λ k. read_fault_line k ∷ []) n.0) put
read_at first (Fault why) lines old new n read says put = absurd read
read_at first (Reply verb inputs size numbers) lines old new n read says put = absurd read

-- a script that ends so was to read a file, and that failed
was_read : (script : Script) (names : Option Bool → List (List ℕ × Bool)) (lines : List (List ℕ)) (faults faults' : ℕ) (opens opens' : Openings) (old new : Written) (status : Status) → status ≡ ReadFault
    → Ends script status → Says script lines status → OnShelf script names faults faults' opens opens' old new status
    → IsRead script × Rose faults faults' × (opens' ≡ grown opens (names (Some true)))
was_read (Read place name limit next) names lines faults faults' opens opens' old new status fault ends says (inl failed) = (tt, failed.0, failed.1)
was_read (Read place name limit next) names lines faults faults' opens opens' old new status fault ends says (inr gave_up) = let other = gave_up.0 in absurd (cc)
was_read (Fault why) names lines faults faults' opens opens' old new status fault ends says shelf = absurd (not_refused why (sym says.1 ∙ fault))
was_read (Reply verb inputs size numbers) names lines faults faults' opens opens' old new status fault ends says shelf = absurd (ends fault)

module _ (told : Known (List ℕ → List ℕ)) (words taken : List (List ℕ)) (form : Form) (is : form_of words ≡ Ok form) (asked : AreTaken told taken (command_script form))
    (faults faults' : ℕ) (opens opens' : Openings) (old new : Written) (status : Status) (fault : status ≡ ReadFault) where
  abbrev end : Script
  end = after taken (command_script form)

  told_by_shelf : (lines : List (List ℕ)) → Ends end status → Says end lines status → Appends old new lines
      → OnShelf end (λ more. named more taken (command_script form)) faults faults' opens opens' old new status → TellsReadFault words faults faults' opens opens' old new
  told_by_shelf lines ends says put shelf =
      let script = command_script form in
      let file_words = are_words words form is in
      let reads = reads_command form file_words.count in
      let (read, rose, openings) = was_read end (λ more. named more taken script) lines faults faults' opens opens' old new status fault ends says shelf in
      let few : suc (length taken) ≤ file_count form.verb = subst (λ n. suc (length taken) ≤ n) file_words.count (one_more told form.files taken script reads asked read) in
      let front : take (suc (length taken)) form.files ≡ take (suc (length taken)) (drop 1 words) =
      ap (take (suc (length taken))) file_words.are ∙ take-take (suc (length taken)) (file_count form.verb) (drop 1 words) few in
      let at : 2 + length taken ≡ suc (length taken) + 1 = omega arith in
      record {
        rose = rose;
        count = suc (length taken);
        some = omega arith;
        there = let within = file_words.within in omega (arith, few, within);
        openings = openings ∙ ap (grown opens) (names_failed told taken script asked read ∙ ap broken (names_read told form.files taken script reads asked read ∙ ap sound front));
        line = subst (λ k. Appends old new (read_fault_line k ∷ [])) at
            (read_at (2 + length taken) end lines old new (Numbered-after taken script 2 (numbered_command form)) read (subst (Says end lines) fault says) put);
      }

  told_by_shown : (before now : ℕ) → Ends end status → Shown (Says end) old new before now status
      → OnShelf end (λ more. named more taken (command_script form)) faults faults' opens opens' old new status → TellsReadFault words faults faults' opens opens' old new
  told_by_shown before now ends (inl whole) shelf = told_by_shelf whole.lines ends whole.says whole.put shelf
  told_by_shown before now ends (inr (inl (other, front, rose))) shelf = absurd (cc)
  told_by_shown before now ends (inr (inr (other, still, front))) shelf = absurd (cc)

-- words that are no command end otherwise
no_command : (place : ℕ) (taken : List (List ℕ)) (told : Known (List ℕ → List ℕ)) (old new : Written) (before now : ℕ) (status : Status) → AreTaken told taken (Fault (Word place))
    → Shown (Says (after taken (Fault (Word place)))) old new before now status → status ≡ ReadFault → ⊥
no_command place [] told old new before now status asked (inl whole) fault = let says = whole.says.1 in cc
no_command place [] told old new before now status asked (inr (inl (other, front, rose))) fault = cc
no_command place [] told old new before now status asked (inr (inr (other, still, front))) fault = cc
no_command place (bytes ∷ taken) told old new before now status asked shown fault = absurd asked

pub ran_read_fault : {S K : Type 0} (files : S → Known (List ℕ → List ℕ)) (faults : S → ℕ) (opens : S → Openings) (written : K → Written) (sink_faults : K → ℕ)
    (words : List (List ℕ)) (shelf shelf' : S) (sink sink' : K) (status : Status) → Ran files faults opens written sink_faults (script_from (form_of words)) shelf shelf' sink sink' status
    → status ≡ ReadFault → TellsReadFault words (faults shelf) (faults shelf') (opens shelf) (opens shelf') (written sink) (written sink')
ran_read_fault files faults opens written sink_faults words shelf shelf' sink sink' status r fault = by (form_of words) refl r where
  by : (form : Result Form ℕ) → form_of words ≡ form → Ran files faults opens written sink_faults (script_from form) shelf shelf' sink sink' status
      → TellsReadFault words (faults shelf) (faults shelf') (opens shelf) (opens shelf') (written sink) (written sink')
  by (Ok form) is r =
      told_by_shown (files shelf) words r.taken form is r.asked (faults shelf) (faults shelf') (opens shelf) (opens shelf') (written sink) (written sink') status fault (sink_faults sink) (sink_faults sink')
      r.ends r.puts r.reads
  by (Err place) is r = absurd (no_command place r.taken (files shelf) _ _ _ _ status r.asked r.puts fault)

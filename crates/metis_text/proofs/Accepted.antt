-- A text is read as a plan with lists just where it is the text of that plan and the plan is well formed.
use Rattle.std.proofs.Common.{◌≡◌, ℕ, ◌<◌, List, ◌++◌, length, Result, Ok, Err, sym, ap, ◌∙◌, subst}
use Rattle.std.proofs.lemmas.List.{length-map}
use Rattle.metis_ids.specs.Terms.{Plan}
use Rattle.metis_outside.specs.Terms.{bytes_of}
use Rattle.metis_universe.specs.Terms.{IsNamed, IsUniverse, Universe}
use Rattle.metis_text.specs.Terms.{IsTextOf, IsWellFormed, ReadsPlan, action_lines, counts_line, counts_of, dup_lines, dup_row, lists_of, parts_of, plan_bytes, plan_header, plan_in, said}
use Rattle.metis_tokens.specs.Terms.{end_line}
use Rattle.metis_tokens.specs.declared.fault.TFault.{TFault}
use Rattle.std.specs.Prelude.{IfOk}
use Rattle.metis_text.specs.declared.plan_text.PlanText.{PlanText}
use Rattle.metis_text.proofs.DupsRead.{dup_lines_as_read}
use Rattle.metis_text.proofs.Formed.{formed, parts_of_formed}
use Rattle.metis_text.proofs.Lengths.{actions_below_bytes}
use Rattle.metis_text.proofs.PlanRead.{parts_bytes, plan_is, plan_read}
use Rattle.metis_text.proofs.TextBytes.{plan_bytes_by_parts}

-- the text of what a plan says is the plan's
pub said_bytes : (u : Universe) (p : Plan) (after : List (List ℕ)) → parts_bytes u (said p after) ≡ plan_bytes u p after
said_bytes u p after =
    let actions = bytes_of (action_lines u p.actions after) in
    let parts : parts_bytes u (said p after) ≡ plan_header ++ (counts_of p ++ (actions ++ (bytes_of (dup_lines u p.dups) ++ end_line))) =
    λ i. plan_header ++ (counts_line p.instances (length p.actions) (length-map p.dups dup_row i) ++ (actions ++ (dup_lines_as_read u 1 p.dups i ++ end_line))) in
    parts ∙ sym (plan_bytes_by_parts u p after)

pub well_formed_read : (u : Universe) (p : Plan) (after : List (List ℕ)) → IsUniverse u → IsNamed u → IsWellFormed u p after → plan_in u (plan_bytes u p after) ≡ Ok (said p after)
well_formed_read u p after is names formed_so = ap (plan_in u) (sym (said_bytes u p after)) ∙ plan_read u is names (said p after) (parts_of_formed u p after formed_so)

pub accepted_is_text : (u : Universe) (bytes : List ℕ) (p : Plan) (after : List (List ℕ)) → plan_in u bytes ≡ Ok (said p after) → (bytes ≡ plan_bytes u p after) × IsWellFormed u p after
accepted_is_text u bytes p after read = let plan = plan_is u bytes (said p after) read in (plan.0 ∙ said_bytes u p after, formed u p after plan.1)

pub fewer_actions_than_bytes : (u : Universe) (bytes : List ℕ) (p : Plan) (after : List (List ℕ)) → plan_in u bytes ≡ Ok (said p after) → length p.actions < length bytes
fewer_actions_than_bytes u bytes p after read =
    let text = accepted_is_text u bytes p after read in
    subst (λ l. length p.actions < length l) (sym text.0) (actions_below_bytes u p after text.1.lists)

-- the same of the value that a reader gives
pub accepted_is_text_of : (u : Universe) (bytes : List ℕ) (t : PlanText) → plan_in u bytes ≡ Ok (parts_of t) → IsTextOf u t bytes
accepted_is_text_of u bytes t read = let text = accepted_is_text u bytes t.plan (lists_of t) read in record { text = text.0; formed = text.1 }

-- what a reader gives
pub read_text : (u : Universe) (bytes : List ℕ) (r : Result PlanText TFault) → ReadsPlan r (plan_in u bytes) → IfOk r (λ t. IsTextOf u t bytes)
read_text u bytes (Ok t) read = accepted_is_text_of u bytes t read
read_text u bytes (Err fault) read = tt

pub read_fewer : (u : Universe) (bytes : List ℕ) (r : Result PlanText TFault) → ReadsPlan r (plan_in u bytes) → IfOk r (λ t. length t.plan.actions < length bytes)
read_fewer u bytes (Ok t) read = fewer_actions_than_bytes u bytes t.plan (lists_of t) read
read_fewer u bytes (Err fault) read = tt

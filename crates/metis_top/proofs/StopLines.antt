-- The lines of a run that ends before its work are lines.
use Rattle.std.proofs.Common.{◌≡◌, ◌≢◌, ℕ, List, ◌++◌, true, refl, sym, ap, ◌∙◌, decimal}
use Rattle.std.proofs.lemmas.Bool.{false≢true}
use Rattle.std.specs.Prelude.{codes}
use Rattle.metis_outside.proofs.Feeds.{IsLine-from, no_feed}
use Rattle.metis_outside.specs.Terms.{IsLine}
use Rattle.metis_output.proofs.LineWords.{by_number, by_three, by_two, word_then}
use Rattle.metis_inputs.specs.declared.stop.InputFault.{InputFault}
use Rattle.metis_inputs.specs.declared.stop.InputFault.TheVariants.{Word, TooLong}
use Rattle.metis_inputs.specs.declared.stop.InputFault.TheVariants as input
use Rattle.metis_place.specs.declared.hosts_fault.HFault.{HFault}
use Rattle.metis_place.specs.declared.hosts_fault.HFault.TheVariants as hfault
use Rattle.metis_tokens.specs.declared.fault.TFault.{TFault}
use Rattle.metis_tokens.specs.declared.fault.TFault.TheVariants as tfault
use Rattle.metis_top.specs.Terms.{fault_line, hosts_fault_line, is_told, limit_line, read_fault_line, text_fault_line, universe_line, wishes_fault_line}
use Rattle.metis_ujson.specs.declared.faults.UFault.{UFault}
use Rattle.metis_ujson.specs.declared.faults.UFault.TheVariants as ufault
use Rattle.metis_universe.specs.declared.faults.LimitKind.{LimitKind}
use Rattle.metis_universe.specs.declared.faults.LimitKind.TheVariants.{Pairs, Ports, Requires, States}
use Rattle.metis_wishes.specs.declared.fault.WishFault.{WishFault}
use Rattle.metis_wishes.specs.declared.fault.WishFault.TheVariants as wfault

IsLine-limit_line : (kind : LimitKind) (n : ℕ) → IsLine (limit_line kind n)
IsLine-limit_line States n = by_number (codes "bad universe U12 states ") n refl
IsLine-limit_line Requires n = by_number (codes "bad universe U12 requires ") n refl
IsLine-limit_line Pairs n = by_number (codes "bad universe U12 pairs ") n refl
IsLine-limit_line Ports n = by_number (codes "bad universe U12 ports ") n refl

IsLine-universe_line : (fault : UFault) → fault ≢ ufault.NoMemory → IsLine (universe_line fault)
IsLine-universe_line ufault.NotJson named = IsLine-from (codes "bad universe U1") refl
IsLine-universe_line ufault.NotUniverse named = IsLine-from (codes "bad universe U2") refl
IsLine-universe_line (ufault.TypeForm t) named = by_number (codes "bad universe U3 type ") t refl
IsLine-universe_line (ufault.TypeName t) named = by_number (codes "bad universe U4 type ") t refl
IsLine-universe_line (ufault.TypeTwice t f) named = by_two (codes "bad universe U5 type ") t (codes " first ") f refl refl
IsLine-universe_line (ufault.StateForm t s) named = by_two (codes "bad universe U6 type ") t (codes " state ") s refl refl
IsLine-universe_line (ufault.StateName t s) named = by_two (codes "bad universe U7 type ") t (codes " state ") s refl refl
IsLine-universe_line (ufault.StateTwice t s f) named = by_three (codes "bad universe U8 type ") t (codes " state ") s (codes " first ") f refl refl refl
IsLine-universe_line (ufault.NoInitial t) named = by_number (codes "bad universe U9 type ") t refl
IsLine-universe_line (ufault.UnknownNext t s k) named = by_three (codes "bad universe U10 type ") t (codes " state ") s (codes " entry ") k refl refl refl
IsLine-universe_line (ufault.PortName t s k) named = by_three (codes "bad universe U11 type ") t (codes " state ") s (codes " entry ") k refl refl refl
IsLine-universe_line (ufault.Demand t s k) named = by_three (codes "bad universe U13 type ") t (codes " state ") s (codes " entry ") k refl refl refl
IsLine-universe_line (ufault.Limit kind n) named = IsLine-limit_line kind n
IsLine-universe_line ufault.NoMemory named = absurd (named refl)

IsLine-text_fault_line : (text : List ℕ) (fault : TFault) → no_feed text ≡ true → fault ≢ tfault.NoMemory → IsLine (text_fault_line text fault)
IsLine-text_fault_line text (tfault.Line n) calm named = word_then (codes "bad ") text (codes " line " ++ (decimal n ++ codes "\n")) refl calm (by_number (codes " line ") n refl)
IsLine-text_fault_line text tfault.Short calm named = word_then (codes "bad ") text (codes " short\n") refl calm (IsLine-from (codes " short") refl)
IsLine-text_fault_line text (tfault.Name n) calm named = word_then (codes "bad ") text (codes " name " ++ (decimal n ++ codes "\n")) refl calm (by_number (codes " name ") n refl)
IsLine-text_fault_line text (tfault.Number n) calm named = word_then (codes "bad ") text (codes " number " ++ (decimal n ++ codes "\n")) refl calm (by_number (codes " number ") n refl)
IsLine-text_fault_line text tfault.NoMemory calm named = absurd (named refl)

IsLine-hosts_fault_line : (fault : HFault) → fault ≢ hfault.NoMemory → IsLine (hosts_fault_line fault)
IsLine-hosts_fault_line (hfault.Line n) named = by_number (codes "bad hosts line ") n refl
IsLine-hosts_fault_line hfault.Short named = IsLine-from (codes "bad hosts short") refl
IsLine-hosts_fault_line (hfault.Number n) named = by_number (codes "bad hosts number ") n refl
IsLine-hosts_fault_line (hfault.Name n) named = by_number (codes "bad hosts name ") n refl
IsLine-hosts_fault_line (hfault.Twice n) named = by_number (codes "bad hosts twice ") n refl
IsLine-hosts_fault_line hfault.NoMemory named = absurd (named refl)

IsLine-wishes_fault_line : (fault : WishFault) → fault ≢ wfault.NoMemory → IsLine (wishes_fault_line fault)
IsLine-wishes_fault_line (wfault.Line n) named = by_number (codes "bad wishes line ") n refl
IsLine-wishes_fault_line wfault.Short named = IsLine-from (codes "bad wishes short") refl
IsLine-wishes_fault_line (wfault.Number n) named = by_number (codes "bad wishes number ") n refl
IsLine-wishes_fault_line (wfault.Name n) named = by_number (codes "bad wishes name ") n refl
IsLine-wishes_fault_line (wfault.Twice n) named = by_number (codes "bad wishes twice ") n refl
IsLine-wishes_fault_line wfault.NoMemory named = absurd (named refl)

pub IsLine-read_fault_line : (place : ℕ) → IsLine (read_fault_line place)
IsLine-read_fault_line place = by_number (codes "read fault ") place refl

-- a fault that has a line is told by a line
pub IsLine-fault_line : (fault : InputFault) → is_told fault ≡ true → IsLine (fault_line fault)
IsLine-fault_line (Word place) told = by_number (codes "bad word ") place refl
IsLine-fault_line (TooLong place) told = by_number (codes "too long ") place refl
IsLine-fault_line (input.Universe fault) told = IsLine-universe_line fault (λ e. false≢true (sym (ap (λ f. is_told (input.Universe f)) e) ∙ told))
IsLine-fault_line (input.PlanText fault) told = IsLine-text_fault_line (codes "plan") fault refl (λ e. false≢true (sym (ap (λ f. is_told (input.PlanText f)) e) ∙ told))
IsLine-fault_line (input.RefusalText fault) told = IsLine-text_fault_line (codes "refusal") fault refl (λ e. false≢true (sym (ap (λ f. is_told (input.RefusalText f)) e) ∙ told))
IsLine-fault_line (input.WhyText fault) told = IsLine-text_fault_line (codes "why") fault refl (λ e. false≢true (sym (ap (λ f. is_told (input.WhyText f)) e) ∙ told))
IsLine-fault_line (input.HostsText fault) told = IsLine-hosts_fault_line fault (λ e. false≢true (sym (ap (λ f. is_told (input.HostsText f)) e) ∙ told))
IsLine-fault_line (input.WishesText fault) told = IsLine-wishes_fault_line fault (λ e. false≢true (sym (ap (λ f. is_told (input.WishesText f)) e) ∙ told))
IsLine-fault_line (input.Turns place) told = by_number (codes "bad turns ") place refl

-- The number and the word by which refusals of netlists are printed, each by the table of the reader of net texts or of the rules.
use Rattle.std.specs.Prelude.{ℕ, List, Option, None, codes}
use Rattle.net_text.specs.declared.refusal.TextRefusal.{TextRefusal}
use Rattle.net_text.specs.declared.refusal.TextRefusal.TheVariants as text
use Rattle.net_text.specs.Refusals.{refusal_number as text_number, refusal_word as text_word}
use Rattle.net_check.specs.declared.refusal.NetRefusal.{NetRefusal}
use Rattle.net_check.specs.declared.refusal.NetRefusal.TheVariants as rules
use Rattle.net_check.specs.Refusals.{refusal_number as rule_number, refusal_word as rule_word}
use Rattle.net_front.specs.declared.refusal.NetlistRefusal.{NetlistRefusal}
use Rattle.net_front.specs.declared.refusal.NetlistRefusal.TheVariants as refusal

-- want of memory has no number
abbrev pub netlist_number : NetlistRefusal → Option ℕ
netlist_number (refusal.Text r) = text_number r
netlist_number (refusal.Rule r) = rule_number r
netlist_number refusal.Memory = None

abbrev pub netlist_word : NetlistRefusal → List ℕ
netlist_word (refusal.Text r) = text_word r
netlist_word (refusal.Rule r) = rule_word r
netlist_word refusal.Memory = codes "Memory"

-- ---- the refusal of a netlist whose text is refused so, or whose net; want of memory is the same everywhere

abbrev pub of_text : TextRefusal → NetlistRefusal
of_text (text.Line n) = refusal.Text (text.Line n)
of_text text.Ends = refusal.Text text.Ends
of_text text.Version = refusal.Text text.Version
of_text text.Memory = refusal.Memory

abbrev pub of_rules : NetRefusal → NetlistRefusal
of_rules (rules.Rule number place) = refusal.Rule (rules.Rule number place)
of_rules rules.Memory = refusal.Memory

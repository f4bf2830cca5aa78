-- What the answers of the reader of net texts and of the rules say of the bytes of a netlist.
use Rattle.std.proofs.Common.{◌≡◌, List, ℕ, sym, subst}
use Rattle.std.specs.Prelude.{Result, Ok, Err, IfErr, IsErrAnd}
use Rattle.net_types.specs.declared.net.Net.{Net}
use Rattle.net_text.specs.declared.refusal.TextRefusal.{TextRefusal}
use Rattle.net_text.specs.declared.refusal.TextRefusal.TheVariants as text
use Rattle.net_text.specs.Refusals as reader
use Rattle.net_check.specs.declared.refusal.NetRefusal.{NetRefusal}
use Rattle.net_check.specs.declared.refusal.NetRefusal.TheVariants as rules
use Rattle.net_check.specs.Refusals.{RefusalHolds}
use Rattle.net_front.specs.declared.refusal.NetlistRefusal.{NetlistRefusal}
use Rattle.net_front.specs.Refusals.{of_text, of_rules}
use Rattle.net_front.specs.Answers.{NetlistSays}

pub reader_says : (bytes : List ℕ) (r : TextRefusal) → reader.Says bytes (Err r) → NetlistSays bytes (Err (of_text r))
reader_says bytes (text.Line n) h = record { told = λ e. absurd (cc); cause = h }
reader_says bytes text.Ends h = record { told = λ e. absurd (cc); cause = h }
reader_says bytes text.Version h = record { told = λ e. absurd (cc); cause = h }
reader_says bytes text.Memory h = tt

pub rules_say : (bytes : List ℕ) (net : Net) (r : NetRefusal) → reader.Says bytes (Ok net) → RefusalHolds net r → NetlistSays bytes (Err (of_rules r))
rules_say bytes net (rules.Rule number place) read h = record { told = λ e. absurd (cc); net = net; read = read; cause = h }
rules_say bytes net rules.Memory read h = tt

-- an error that is converted says what the one that it is made of says
pub converted_says : {A : Type 0} (bytes : List ℕ) (r : Result A NetlistRefusal) (e : NetlistRefusal) → IsErrAnd r (λ x. x ≡ e) → NetlistSays bytes (Err e)
    → IfErr r (λ refused. NetlistSays bytes (Err refused))
converted_says bytes (Ok net) e is says = absurd is
converted_says bytes (Err x) e is says = subst (λ (y : NetlistRefusal). NetlistSays bytes (Err y)) (sym is) says

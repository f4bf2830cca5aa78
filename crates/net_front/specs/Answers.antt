-- What each answer to the bytes of a netlist says of them.
use Rattle.std.specs.Prelude.{◌≢◌, List, ℕ, Result, Ok, Err}
use Rattle.net_types.specs.declared.net.Net.{Net}
use Rattle.net_text.specs.declared.refusal.TextRefusal.{TextRefusal}
use Rattle.net_text.specs.declared.refusal.TextRefusal.TheVariants as text
use Rattle.net_text.specs.Refusals as reader
use Rattle.net_check.specs.declared.refusal.NetRefusal.{NetRefusal}
use Rattle.net_check.specs.declared.refusal.NetRefusal.TheVariants as rules
use Rattle.net_check.specs.Checks.{IsChecked}
use Rattle.net_check.specs.Refusals.{RefusalHolds}
use Rattle.net_front.specs.declared.refusal.NetlistRefusal.{NetlistRefusal}
use Rattle.net_front.specs.declared.refusal.NetlistRefusal.TheVariants as refusal

-- the bytes are the text of this net, in either version, which keeps the eight rules
pub record IsNetlist (bytes : List ℕ) (net : Net) : Type 0 where
  pub read : reader.Says bytes (Ok net)
  pub checked : IsChecked net

-- ---- refusals, none of which is want of memory

-- the bytes are no net text
pub record IsNoText (bytes : List ℕ) (r : TextRefusal) : Type 0 where
  pub told : r ≢ text.Memory
  pub cause : reader.Says bytes (Err r)

-- the bytes are the text of a net that breaks a rule
pub record BreaksRule (bytes : List ℕ) (r : NetRefusal) : Type 0 where
  pub told : r ≢ rules.Memory
  pub net : Net
  pub read : reader.Says bytes (Ok net)
  pub cause : RefusalHolds net r

-- ---- answers

-- what an answer says of the bytes; want of memory says nothing
abbrev pub NetlistSays : List ℕ → Result Net NetlistRefusal → Type 0
NetlistSays bytes (Ok net) = IsNetlist bytes net
NetlistSays bytes (Err (refusal.Text r)) = IsNoText bytes r
NetlistSays bytes (Err (refusal.Rule r)) = BreaksRule bytes r
NetlistSays bytes (Err refusal.Memory) = Unit {0}

-- The text of a circuit and of a run of it, joined. Only private contracts cite this.
use Rattle.std.specs.Prelude.{◌≡◌, ◌++◌, codes}
use Rattle.net_types.specs.declared.net.Net.{Net}
use Rattle.net_runs.specs.Given.{Bytes}
use Rattle.kernel_runs.specs.Circuits.{IsPrinted}

-- the text of the net, a line `%%`, and what follows
pub record IsJoinedText (net : Net) (after text : Bytes) : Type 0 where
  pub net_text : Bytes
  pub printed : IsPrinted net net_text
  pub whole : text ≡ net_text ++ codes "%%\n" ++ after

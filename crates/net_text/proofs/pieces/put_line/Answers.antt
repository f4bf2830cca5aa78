use Rattle.std.proofs.Common.{[], ◌∷◌, ◌++◌, decimal, ap, ◌∙◌}
use Rattle.std.specs.List.{flat_map}
use Rattle.std.proofs.lemmas.Result.{on_ok_weaker}
use Rattle.net_text.proofs.PrintedLines.{line_written}
use Rattle.net_text.proofs.pieces.put_line.Goals as goal

pub returns : goal.returns
returns c = record {
  ok = on_ok_weaker c.put_bytes-2.result
      (λ e. e ∙ ap (λ t. t ++ 10 ∷ []) (c.in_ok-put_numbers.ensures.ok ∙ ap (λ t. t ++ flat_map (λ n. 32 ∷ decimal n) c.args.numbers.now) c.in_ok-put_bytes.ensures.ok)
      ∙ line_written decimal c.args.text.now.items c.args.words.now c.args.numbers.now) c.put_bytes-2.ensures.ok;
}

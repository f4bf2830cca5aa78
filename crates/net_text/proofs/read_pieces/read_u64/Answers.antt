use Rattle.std.proofs.Common.{◌∙◌, sym, ap, subst, decimal, Option, ℕ}
use Rattle.std.proofs.lemmas.Bool.{false≢true}
use Rattle.std.proofs.lemmas.Fmt.{IsAscii-decimal}
use Rattle.std.proofs.lemmas.Str.{IsUtf8-from_ascii}
use Rattle.std.specs.Str.{IsUtf8}
use Rattle.net_text.specs.Fits.{FitsU64}
use Rattle.net_text.specs.Reads.{Named, starts_plain}
use Rattle.net_text.proofs.Numbers.{decimal_starts_plain, named_parse, every_parse}
use Rattle.net_text.proofs.read_pieces.read_u64.Goals as goal

pub returns-then-not-starts_plain-clause-every : goal.returns-then-not-starts_plain-clause-every
returns-then-not-starts_plain-clause-every c = λ v small e. absurd (false≢true (c.if-not-starts_plain.ensures ∙ ap starts_plain (sym e) ∙ decimal_starts_plain v small))

pub returns-in-Ok-clause-named : goal.returns-in-Ok-clause-named
returns-in-Ok-clause-named c =
    let P : Option ℕ → Type 0 = λ o. Named FitsU64 decimal c.args.bytes.now o in
    subst P (sym c.ok.ensures.value) (named_parse c.args.bytes.now c.in-Ok.text.now c.parse.result c.in-Ok.ensures.cases.0 (sym c.if-not-starts_plain.ensures) c.parse.ensures.value.0)

pub returns-in-Ok-clause-every : goal.returns-in-Ok-clause-every
returns-in-Ok-clause-every c = λ v small e. c.ok.ensures.value ∙ every_parse c.args.bytes.now c.in-Ok.text.now c.parse.result c.in-Ok.ensures.cases.0 c.parse.ensures.value.0 v small e

pub returns-in-Err-clause-every : goal.returns-in-Err-clause-every
returns-in-Err-clause-every c = λ v small e. absurd (c.in-Err.ensures.cases.0 (subst IsUtf8 e (IsUtf8-from_ascii (decimal v) (IsAscii-decimal v small))))

use Rattle.std.proofs.Common.{◌≡◌, List, ◌∷◌, ◌++◌, length}
use Rattle.c_parse.specs.declared.bar.Bar.TheVariants as bar
use Rattle.c_parse.specs.Bars.{BeginsBarred}
use Rattle.c_parse.specs.Reads.{Reads, PlainItems}
use Rattle.c_parse.specs.Symbols.{Symbol}
use Rattle.c_parse.specs.Traces.{judge}
use Rattle.c_parse.proofs.EachToken.{NoneBarred}
use Rattle.c_parse.proofs.cursor.Cursor.plain_items.Given as goal

abbrev pub invariant-items : goal.invariant-items
invariant-items l = record {
  read : Reads (λ ts. PlainItems ts l.body) l.fn.self.rest.now (l.part.rest.now ++ l.back);
  free : NoneBarred bar.Returns l.part.rest.now;
  begins : BeginsBarred bar.Returns l.back;
  judged : (symbols : List Symbol) → judge (Symbol.helper_body 1 ∷ symbols) l.fn.self.rest.now ≡ judge (Symbol.helper_body 1 ∷ symbols) (l.part.rest.now ++ l.back);
}

abbrev pub decreases-items : goal.decreases-items
decreases-items l = length l.part.rest.now
